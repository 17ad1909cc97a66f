-- What contracts of why cite: which positions follow a FIFO, and what a card shows of a position.
use Rattle.std.specs.Prelude.{Bool, not, ◌||◌, List, [], ℕ, length, eqb, if◌then◌else◌}
use Rattle.model.specs.Sides.{Side}
use Rattle.model.specs.Fifos.{entries_of}
use Rattle.model.specs.State.{State}
use Rattle.model.specs.Why.{stored_bit}
use Rattle.why.specs.declared.Shown.{Shown}

abbrev pub is_live : (p : ℕ) → Bool
is_live p = eqb p 6 || eqb p 7

abbrev pub fifo_of : (p : ℕ) → ℕ
fifo_of p = if eqb p 6 then 1 else 3

-- the entries held in the FIFO that a position follows
abbrev pub entries_for : (p : ℕ) → State → List ℕ
entries_for p s = if is_live p then entries_of s.fifos (fifo_of p) else []

abbrev pub shown_by : Side → (p : ℕ) → State → Shown
shown_by side p s = record {
  up = if is_live p then not (eqb (length (entries_for p s)) 0) else stored_bit side p s;
  held = length (entries_for p s);
}
