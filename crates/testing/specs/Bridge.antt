-- What contracts of testing cite: cases answered in turn, their numbers, and digests, as the test programs write them.
use Rattle.std.specs.Prelude.{◌≡◌, List, ℕ, zero, suc, ◌+◌, ◌*◌, ◌%◌, ◌-◌, ◌<◌, ◌==◌, min, Bool, true, false, ltb, length, if◌then◌else◌, ◌⊎◌}
use Rattle.std.specs.List.{fold}
use Rattle.model.specs.Lanes.{read_dword}

-- calls of a closure that says whether there was a case: at most so many, and none behind one that says there was none
unfoldable pub AnswersInTurn : {F : Type 0} → (F → Bool → F → Type 0) → (turns : ℕ) → F → F → Type 0
AnswersInTurn step zero f last = f ≡ last
AnswersInTurn step (suc n) f last = step f false last ⊎ ((next : _) × step f true next × AnswersInTurn step n next last)

-- calls of a closure that is handed so many bytes in portions, each its size and whether it is the last: the most at a time, or what is left
pub data TakesPortions {F : Type 0} (step : F → ℕ → Bool → F → Type 0) (most : ℕ) : (left : ℕ) → F → F → Type 0 where
  none : {f : F} → TakesPortions step most 0 f f
  more : {left size : ℕ} {f next last : F} →
      0 < left → size ≡ min left most → step f size (left - size == 0) next → TakesPortions step most (left - size) next last → TakesPortions step most left f last

-- how many bytes are taken at a time: the most where none are asked for, or more
abbrev pub portion : (asked : ℕ) → ℕ
portion asked = if asked == 0 then 65000 else min asked 65000

-- the number with this place among numbers of four bytes, least byte first; 0 behind their end
abbrev pub number_at : List ℕ → (place : ℕ) → ℕ
number_at bytes place = if ltb (length bytes) (4 * place + 4) then 0 else read_dword bytes (4 * place) 0

-- a digest with one number more
abbrev pub with_number : (digest number : ℕ) → ℕ
with_number d n = (d % 4294967296 * 16777619 + n) % 4294967296

abbrev pub digest_from : (digest : ℕ) → List ℕ → ℕ
digest_from = fold with_number
