-- L14, what is not a theorem: traces on which the scan never comes back to a boundary, keeps a false record without doubt, or doubts a true one; computed.
use Rattle.std.specs.Prelude.{◌≡◌, refl, ◌≢◌, true, false, List, [], ◌∷◌, ◌++◌, map, ℕ, ◌+◌, ◌*◌, take, drop, set}
use Rattle.std.proofs.Common.{ap, sym, ◌∙◌, arith}
use Rattle.model.specs.Choice.{every, All}
use Rattle.model.specs.Accesses.{Access}
use Rattle.model.proofs.TestLaws.{no_both}
use Rattle.model.specs.Trace.{recorded, read_record}
use Rattle.model.specs.Convert.{trace_form, written}
use Rattle.model.specs.Bench.{q}
use Rattle.model.specs.Rescue.{scan, kept, skipped, listed, after, entries}
use Rattle.model.proofs.BoundaryLaws.{StandsAt, outside, stands_outside}

-- NEVER BACK

-- four records that hold the front of a record in A: "A = 0x5042 + 65,536 i, B = C = 0 in every record i"; byte 0 is overwritten
abbrev pub fronts_inside : List ℕ
fronts_inside = written trace_form 0 (map (λ i. q 1 0 0 (0x5042 + 65536 * i) 0 0) (0 ∷ 1 ∷ 2 ∷ 3 ∷ []))

-- "every record it keeps is false and none is doubtful"
pub never_back : entries (set fronts_inside 0 0) ≡ skipped 0 8 ∷ kept 8 0 false ∷ kept 28 1 false ∷ kept 48 2 false ∷ skipped 68 12 ∷ []
unfolding entries listed after scan written
never_back = refl

-- and they are read as accesses that no record of the trace has
pub never_read : map (λ k. read_record (drop (8 + 20 * k) (set fronts_inside 0 0)) k) (0 ∷ 1 ∷ 2 ∷ [])
    ≡ map (λ i. recorded (q 0 0 0 0 (0x5042 + 65536 * i) 1)) (1 ∷ 2 ∷ 3 ∷ [])
unfolding read_record written
never_read = refl

-- between its start and its end the scan stands at no boundary: each lies inside a record that it keeps
inside_kept : (b : ℕ) → every (outside b) (entries (set fronts_inside 0 0)) ≡ false → StandsAt (set fronts_inside 0 0) b → ⊥
inside_kept b h w = no_both (sym h ∙ stands_outside (set fronts_inside 0 0) b w)

pub never_at_boundary : (StandsAt (set fronts_inside 0 0) 20 → ⊥) × (StandsAt (set fronts_inside 0 0) 40 → ⊥) × (StandsAt (set fronts_inside 0 0) 60 → ⊥)
never_at_boundary = (inside_kept 20 (rw never_back), inside_kept 40 (rw never_back), inside_kept 60 (rw never_back))

-- FALSE WITHOUT DOUBT

-- Access 1 writes 0x11 to address 256, access 2 writes 0x22 to address 512. "Lose 20 bytes from the middle of record 1 to the middle of record 2".
abbrev pub four_writes : List Access
four_writes = q 2 0 0 0 0x99 0 ∷ q 2 0 0 256 0x11 0 ∷ q 2 0 0 512 0x22 0 ∷ q 2 0 0 0 0x99 0 ∷ []

abbrev pub middle_lost : List ℕ
middle_lost = let t = written trace_form 0 four_writes in take 30 t ++ drop 50 t

-- "the front of 1 and the end of 2 are kept as record 1 without doubt (the next one is doubtful)" ..
pub false_without_doubt : entries middle_lost ≡ kept 0 0 false ∷ kept 20 1 false ∷ kept 40 3 true ∷ []
unfolding entries listed after scan written
false_without_doubt = refl

-- .. and read as a write of 0x22 to address 256, which is none of the four
pub false_read : read_record (drop 20 middle_lost) 1 ≡ recorded (q 2 0 0 256 0x22 0)
unfolding read_record written
false_read = refl

pub never_written : All (λ a. a ≢ q 2 0 0 256 0x22 0) four_writes
never_written = (
  λ e. omega (arith, ap (λ a. a.b) e),
  (
    λ e. omega (arith, ap (λ a. a.b) e),
    (
      λ e. omega (arith, ap (λ a. a.a) e),
      (λ e. omega (arith, ap (λ a. a.b) e), tt),
    ),
  ),
)

-- THE FIRST MARK

-- 14.11: "record 0's mark overwritten makes record 1 doubtful", which is true
pub first_mark_may_differ : entries (set (written trace_form 0 (take 3 four_writes)) 0 0) ≡ skipped 0 20 ∷ kept 20 1 true ∷ kept 40 2 false ∷ []
unfolding entries listed after scan written
first_mark_may_differ = refl
