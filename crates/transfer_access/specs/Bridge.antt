-- What a step needs of a sound card and its memories, and its pieces: the dword copied, the transfer ended or moved on.
use Rattle.std.specs.Prelude.{◌≡◌, List, ◌∷◌, ℕ, ◌+◌, ◌*◌, ◌<◌, ◌≤◌, length}
use Rattle.model.specs.Checks.{shared_length, pci_length}
use Rattle.model.specs.Events.{Event}
use Rattle.model.specs.Settings.{Settings}
use Rattle.model.specs.Transfer.{Request, idle, pci_of}
use Rattle.model.specs.State.{State}
use Rattle.model.specs.Changes.{transfer_is, raised_in_both, Effect, done}
use Rattle.model.specs.Steps.{copy}
use Rattle.card.specs.Bridge.{MemoriesAfter}

-- memories m and w
pub record StepFits (s : Settings) (t : Request) (moved : ℕ) (m w : List ℕ) : Type 0 where
  pub place : t.shared + 4 * moved + 4 ≤ shared_length
  pub pci : pci_of t moved < pci_length
  pub next : moved < 4294967295
  pub shared : length m ≡ shared_length
  pub window : length w ≡ s.length

-- a dword copied between memories m and w, whatever the card
abbrev pub Copied : (direction at offset : ℕ) (m w m' w' : List ℕ) → Type 0
Copied direction at offset m w m' w' = (c : State) → MemoriesAfter (copy (record { card = c; shared = m; window = w }) direction at offset) m w m' w'

-- the transfer ends, with an event in both registers
abbrev pub ending : (v x : ℕ) → Event → Effect
ending v x e = done v x (transfer_is idle ∷ raised_in_both e)
