-- `transfer_access::advance` meets its contract: one law for each place where the dword may lie.
use Rattle.std.proofs.Common.{refl, sym, ◌∙◌, eq-eqb, ne_eqb}
use Rattle.model.specs.Events.{dma_complete, target_abort, master_abort}
use Rattle.transfer.specs.Bridge.{request_as}
use Rattle.transfer_access.specs.Laws.{step_aborts, step_outside, step_copies}
use Rattle.transfer_access.proofs.advance.Goals as goal

pub returns-then-in_abort_range : goal.returns-then-in_abort_range
returns-then-in_abort_range c =
    step_aborts (request_as c.args.request) _ c.dword_at-pci.ensures (sym c.in_abort_range.ensures ∙ c.if-in_abort_range.true) (c.ended.ensures target_abort refl)

pub returns-then-outside_window : goal.returns-then-outside_window
returns-then-outside_window c =
    step_outside (request_as c.args.request) _ c.dword_at-pci.ensures (sym c.in_abort_range.ensures ∙ c.if-in_abort_range.false) (sym c.outside_window.ensures ∙ c.if-outside_window.true)
    (c.ended-then-outside_window.ensures master_abort refl)

pub returns-then-next-request : goal.returns-then-next-request
returns-then-next-request c =
    step_copies (request_as c.args.request) _ c.dword_at-pci.ensures (sym c.in_abort_range.ensures ∙ c.if-in_abort_range.false) (sym c.outside_window.ensures ∙ c.if-outside_window.false)
    c.dword_at-at.ensures c.offset.ensures c.copy.ensures (rw (eq-eqb _ _ c.if-next-request.true) (c.ended-then-next-request.ensures dma_complete refl))

pub returns : goal.returns
returns c =
    step_copies (request_as c.args.request) _ c.dword_at-pci.ensures (sym c.in_abort_range.ensures ∙ c.if-in_abort_range.false) (sym c.outside_window.ensures ∙ c.if-outside_window.false)
    c.dword_at-at.ensures c.offset.ensures c.copy.ensures
    (rw (ne_eqb _ _ c.if-next-request.false, c.done.ensures) (record { answer = refl; state = c.with_transfer.ensures }))
