-- What a done access may change in the card's record, one thing at a time, and the dword that it may store in a memory.
-- A change says what happened. What it does not name stays as it is.
use Rattle.std.specs.Prelude.{Bool, List, [], ◌∷◌, ◌++◌, ℕ}
use Rattle.model.specs.Lanes.{write_dword}
use Rattle.model.specs.Sides.{Side, host, local}
use Rattle.model.specs.Events.{Event}
use Rattle.model.specs.Fifos.{pushed_on, popped_from}
use Rattle.model.specs.Arbitration.{with_flag_of}
use Rattle.model.specs.Mailboxes.{with_mail}
use Rattle.model.specs.Interrupts.{on_register, raised_in, cleared_in, enables_in}
use Rattle.model.specs.Transfer.{Transfer}
use Rattle.model.specs.Dma.{Dma}
use Rattle.model.specs.State.{State, World, with_fifos, with_arbitration, with_mailboxes, with_interrupts, with_transfer, with_dma, fresh}

pub data Change : Type 0 where
  -- every register as in a fresh card
  all_fresh : Change
  -- an entry put into a FIFO, the oldest entry taken out of one
  pushed : (fifo entry : ℕ) → Change
  popped : (fifo : ℕ) → Change
  -- a side's flag of a pair
  flag_is : Side → (pair : ℕ) → Bool → Change
  -- the data of the mailbox that a side writes
  mail_is : Side → (data16 : ℕ) → Change
  -- in a side's interrupt register: an event raised, status bits cleared, enables replaced
  raised : Side → Event → Change
  cleared : Side → (bits : ℕ) → Change
  enables_are : Side → (enables : ℕ) → Change
  -- the transfer begun, moved on or ended
  transfer_is : Transfer → Change
  -- the DMA registers written
  dma_is : Dma → Change

-- THE RECORD AFTERWARDS

abbrev pub apply : Change → State → State
apply all_fresh s = fresh s.settings
apply (pushed i entry) s = with_fifos (pushed_on i entry s.fifos) s
apply (popped i) s = with_fifos (popped_from i s.fifos) s
apply (flag_is side i b) s = with_arbitration (with_flag_of side i b s.arbitration) s
apply (mail_is side d) s = with_mailboxes (with_mail side d s.mailboxes) s
apply (raised side e) s = with_interrupts (on_register side (raised_in e) s.interrupts) s
apply (cleared side bits) s = with_interrupts (on_register side (cleared_in bits) s.interrupts) s
apply (enables_are side n) s = with_interrupts (on_register side (enables_in n) s.interrupts) s
apply (transfer_is t) s = with_transfer t s
apply (dma_is d) s = with_dma d s

-- one after another
abbrev pub apply_all : List Change → State → State
apply_all [] s = s
apply_all (c ∷ cs) s = apply_all cs (apply c s)

-- "Events 0, 1, 5, 8, 9 are raised in both registers and cleared separately (our rule)."
abbrev pub raised_in_both : Event → List Change
raised_in_both e = raised host e ∷ raised local e ∷ []

-- THE MEMORIES AFTERWARDS

-- a dword to be stored under a lane mask, at an offset of one memory
pub data Store : Type 0 where
  nothing : Store
  to_shared to_window : (at lanes dword : ℕ) → Store

abbrev pub shared_after : Store → List ℕ → List ℕ
shared_after nothing m = m
shared_after (to_shared at lanes v) m = write_dword m at lanes v
shared_after (to_window at lanes v) m = m

abbrev pub window_after : Store → List ℕ → List ℕ
window_after nothing m = m
window_after (to_shared at lanes v) m = m
window_after (to_window at lanes v) m = write_dword m at lanes v

-- EFFECTS

infix 10 ◌storing◌
infix 10 ◌also◌
-- What a done access does: the answer's V and X, the changes, the store.
pub record Effect : Type 0 where
  pub v : ℕ
  pub x : ℕ
  pub changes : List Change
  pub store : Store

abbrev pub done : (v x : ℕ) → List Change → Effect
done v x changes = record { v = v; x = x; changes = changes; store = nothing }

abbrev pub ◌storing◌ : Effect → Store → Effect
◌storing◌ e store = record { v = e.v; x = e.x; changes = e.changes; store = store }

-- an effect with more changes
abbrev pub ◌also◌ : Effect → List Change → Effect
◌also◌ e more = record { v = e.v; x = e.x; changes = e.changes ++ more; store = e.store }

abbrev pub world_after : Effect → World → World
world_after e w =
    record { card = apply_all e.changes w.card; shared = shared_after e.store w.shared; window = window_after e.store w.window }
