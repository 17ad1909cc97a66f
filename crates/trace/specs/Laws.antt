-- The reader's answer by what the checks give, and the number of a record beside the checks of what stands there: 22 is given after 20 and 21, and before 23.
use Rattle.std.specs.Prelude.{◌≡◌, ℕ, ◌+◌, ◌<◌, ◌≤◌, Bool, true, false, not, ◌&&◌, List, [], ◌∷◌, length, drop, ◌==◌, ◌≢◌, nat_eq, nat_lt, slice_index, slice_index_or, refl, if◌then◌else◌}
use Rattle.std.proofs.Common.{ap, ◌∙◌, add-zero, arith, length-drop, get_or-drop, eq-eqb, eqb-true, ne_eqb, le-ltb}
use Rattle.model.specs.Checks.{◌for◌, refusal}
use Rattle.model.specs.Lanes.{dword_of}
use Rattle.model.specs.Trace.{trace_checks, access_at, recorded, refused, read_record}
use Rattle.model.specs.Rescue.{stands}
use Rattle.access.specs.declared.Refusal.{Refusal}
use Rattle.access.specs.Bridge.{number_of}
use Rattle.access.specs.Laws.{number_positive}
use Rattle.trace.specs.Bridge.{record_number, damage}

abbrev given : (short unmarked unexpected nonzero : Bool) → ℕ
given short unmarked unexpected nonzero = refusal (20 for short ∷ 21 for unmarked ∷ 22 for unexpected ∷ 23 for nonzero ∷ [])

between : (s m u z : Bool) → given s m u z ≡ (if nat_eq (given s m false z) 20 then 20 else (if nat_eq (given s m false z) 21 then 21 else (if u then 22 else given s m false z)))
between true m u z = refl
between false true u z = refl
between false false u true = refl
between false false u false = refl

-- the refusal by what is damaged, `d`, and the number
pub numbered : (bytes : List ℕ) (expected d : ℕ) → d ≡ damage bytes
    → refusal (trace_checks bytes expected) ≡ (if nat_eq d 20 then 20 else (if nat_eq d 21 then 21 else (if not (record_number bytes == expected) then 22 else d)))
numbered bytes expected d h =
    rw (h, eq-eqb (record_number bytes) (record_number bytes) refl)
    (between (nat_lt (length bytes) 20) (not (slice_index bytes 0 == 0x42 && slice_index bytes 1 == 0x50)) (not (record_number bytes == expected)) (not (slice_index bytes 7 == 0)))

-- WHETHER A RECORD STANDS at a place, by its bytes there; the two of the mark as one number

module _ (bytes : List ℕ) (at : ℕ) (h : at + 20 ≤ length bytes) where
  stands_at : stands (drop at bytes) ≡ (slice_index bytes at == 0x42 && slice_index bytes (at + 1) == 0x50 && slice_index bytes (at + 7) == 0)
  stands_at =
      let whole = le-ltb (length (drop at bytes)) 20 (omega (arith, length-drop at bytes)) in
      let first = get_or-drop at bytes 0 0 ∙ ap (λ (k : ℕ). slice_index bytes k) (add-zero at) in
      rw (whole, first, get_or-drop at bytes 1 0, get_or-drop at bytes 7 0)

  pub unmarked : (dword_of (slice_index bytes at ∷ slice_index bytes (at + 1) ∷ []) ≢ dword_of (0x42 ∷ 0x50 ∷ [])) → stands (drop at bytes) ≡ false
  unmarked n = stands_at ∙ by (slice_index bytes at == 0x42) (slice_index bytes (at + 1) == 0x50) refl refl
    where
      by : (a b : Bool) → (slice_index bytes at == 0x42) ≡ a → (slice_index bytes (at + 1) == 0x50) ≡ b → (a && b && slice_index bytes (at + 7) == 0) ≡ false
      by false b e f = refl
      by true false e f = refl
      by true true e f = absurd (n (rw (eqb-true (slice_index bytes at) 0x42 e, eqb-true (slice_index bytes (at + 1)) 0x50 f)))

  pub marked : slice_index_or bytes at 0 < 256 → slice_index bytes (at + 1) < 256 → dword_of (slice_index bytes at ∷ slice_index bytes (at + 1) ∷ []) ≡ dword_of (0x42 ∷ 0x50 ∷ []) →
      stands (drop at bytes) ≡ (slice_index bytes (at + 7) == 0)
  marked l m n = stands_at ∙ rw (eq-eqb (slice_index bytes at) 0x42 (omega arith), eq-eqb (slice_index bytes (at + 1)) 0x50 (omega arith))

-- THE WRITER

-- THE READER, by what the checks give: no refusal has the number 0

pub refused_read : (bytes : List ℕ) (expected : ℕ) (r : Refusal) → number_of r ≡ refusal (trace_checks bytes expected) → refused (number_of r) ≡ read_record bytes expected
unfolding read_record
refused_read bytes expected r e = rw (← e, ne_eqb (number_of r) 0 (λ z. omega (arith, number_positive r, z)))

pub recorded_read : (bytes : List ℕ) (expected : ℕ) → refusal (trace_checks bytes expected) ≡ 0 → recorded (access_at bytes) ≡ read_record bytes expected
unfolding read_record
recorded_read bytes expected e = rw e
