-- A trace that the buffer does not hold is refused for its length alone, so that the answer is that of the whole.
use Rattle.std.specs.Prelude.{◌≡◌, refl, Bool, true, false, List, ◌++◌, ℕ, ◌≤◌, ◌<◌, length, if◌then◌else◌}
use Rattle.std.proofs.Common.{ap, arith, length-append, lt-ltb}
use Rattle.model.specs.Checks.{above}
use Rattle.model.specs.Sides.{side_of}
use Rattle.model.specs.Text.{FieldReading, number, unreadable, read_decimal}
use Rattle.model.specs.Why.{Reason, reserved, answered_by, why}
use Rattle.model.specs.WhyText.{answered, answer_text, output, why_output}

alike : (a b : Bool) (r r' : Reason) → answered_by (if a then 43 else (if b then 42 else 41)) r ≡ answered_by (if a then 43 else (if b then 42 else 41)) r'
alike true b r r' = refl
alike false true r r' = refl
alike false false r r' = refl

long_alike : (a b : List ℕ) (side p : ℕ) → 81920 < length a → 81920 < length b → why a side p ≡ why b side p
unfolding why
long_alike a b side p h k = rw (lt-ltb 81920 (length a) h, lt-ltb 81920 (length b) k) (alike (above 1 side) (reserved (side_of side) p) _ _)

pub output_whole : (bytes more s p : List ℕ) → 131072 ≤ length bytes → why_output bytes s p ≡ why_output (bytes ++ more) s p
unfolding why_output
output_whole bytes more s p h = by (read_decimal s) (read_decimal p)
  where
    by : (a b : FieldReading) → output bytes a b ≡ output (bytes ++ more) a b
    by (number side) (number p) = ap (λ w. answered (answer_text w)) (long_alike bytes (bytes ++ more) side p (omega arith) (omega (arith, length-append bytes more)))
    by (number side) unreadable = refl
    by unreadable b = refl
