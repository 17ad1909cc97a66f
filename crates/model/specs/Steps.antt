-- Document 01, "Transfer": a step.
use Rattle.std.specs.Prelude.{[], ◌∷◌, ℕ, zero, suc, ◌+◌, ◌-◌, ◌*◌, ◌/◌, eqb, if◌then◌else◌}
use Rattle.model.specs.Lanes.{read_dword}
use Rattle.model.specs.Events.{dma_complete, target_abort, master_abort}
use Rattle.model.specs.Settings.{in_abort_range, outside_window}
use Rattle.model.specs.Transfer.{Request, Transfer, idle, running, pci_of}
use Rattle.model.specs.State.{World}
use Rattle.model.specs.Changes.{Store, to_shared, to_window, Effect, done, ◌storing◌, transfer_is, raised_in_both}

-- "One dword is copied as it stands then": from the window to shared memory in direction 0, back in direction 1.
abbrev pub copy : World → (direction shared offset : ℕ) → Store
copy w zero at offset = to_shared at 0 (read_dword w.window offset 0)
copy w (suc d) at offset = to_window offset 0 (read_dword w.shared at 0)

abbrev pub copy_of : World → Request → (i : ℕ) → Store
copy_of w t i = copy w t.direction (t.shared + 4 * i) (pci_of t i - w.card.settings.base)

-- "In the abort range: event 8, V 3. Otherwise outside the window: event 9, V 4. Either abort moves nothing and ends the transfer.
-- Otherwise one dword is copied as it stands then. If it was the last, V is 2, event 5 is raised and the transfer ends; else V is 1.
-- X counts the dwords moved so far by this transfer."
abbrev pub stepped : World → Transfer → Effect
-- refused with 10
stepped w idle = done 0 0 []
stepped w (running t i) =
    if in_abort_range w.card.settings (pci_of t i)
    then done 3 i (transfer_is idle ∷ raised_in_both target_abort)
    else if outside_window w.card.settings (pci_of t i) 4
    then done 4 i (transfer_is idle ∷ raised_in_both master_abort)
    else if eqb (suc i) (t.size / 4)
    then done 2 (suc i) (transfer_is idle ∷ raised_in_both dma_complete) storing copy_of w t i
    else done 1 (suc i) (transfer_is (running t (suc i)) ∷ []) storing copy_of w t i
