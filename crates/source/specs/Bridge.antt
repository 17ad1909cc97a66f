-- A part of one of two lent memories: where it lies and its bytes.
use Rattle.std.specs.Prelude.{List, ℕ, ◌+◌}
use Rattle.std.specs.Borrow.{Bor}
use Rattle.model.specs.Source.{Memory, shared_memory, window_memory, Part, part_bytes}

-- A slice's place is the memory that it lies in and its offset there; its bytes say how far it goes.
pub record LentPart : Type 0 where
  pub at : ℕ × ℕ
  pub bytes : List ℕ

abbrev pub lent_for : (shared window : Bor (List ℕ)) → Memory → Bor (List ℕ)
lent_for shared window shared_memory = shared
lent_for shared window window_memory = window

-- the model's part, of the memories that were lent
abbrev pub lent_part : (shared window : Bor (List ℕ)) → Part → LentPart
lent_part shared window p = record {
  at = ((lent_for shared window p.memory).ref_ptr.0, p.offset + (lent_for shared window p.memory).ref_ptr.1);
  bytes = part_bytes shared.now window.now p;
}
