-- A number is stored from the back: what is left to store is the text of the number that is left, which loses its last two digits each turn.
use Rattle.std.proofs.Common.{◌≡◌, List, [], ◌∷◌, ℕ, ◌/◌, ◌%◌, ◌≤◌, length, sym, ap, ◌∙◌, arith}
use Rattle.model.specs.Text.{digit, decimal_text, two_digits}
use Rattle.model.proofs.TextLaws.{one_digit, two_digits_lem, last_two_digits, two_digits_longer}
use Rattle.decimal.specs.Bridge.{Written}
use Rattle.decimal.specs.Laws.{first_left}
use Rattle.decimal.proofs.write_decimal.Goals as goal

-- the last two digits of what is left stored
two_less : {l m n : List ℕ} {at p q r : ℕ} (left : ℕ) → 100 ≤ left → q ≡ r
    → Written l at (decimal_text left) r n → Written l p (two_digits (left % 100)) q m → Written m at (decimal_text (left / 100)) p n
two_less left h e f g = first_left (rw (last_two_digits left h) at f) (rw e at g)

pub write_byte-requires : goal.write_byte-requires
write_byte-requires c = omega (arith, ap length (one_digit c.args.n (omega arith)))

pub returns-then-n-lt-TWO_DIGITS_FROM : goal.returns-then-n-lt-TWO_DIGITS_FROM
returns-then-n-lt-TWO_DIGITS_FROM c = rw (one_digit c.args.n (omega arith)) c.write_byte.ensures

pub overflow_sub-p : goal.overflow_sub-p
overflow_sub-p c = omega (arith, two_digits_longer c.loop-left.left (omega arith))

pub write_two_digits-requires-clause-at_in_bounds : goal.write_two_digits-requires-clause-at_in_bounds
write_two_digits-requires-clause-at_in_bounds c = omega (arith, two_digits_longer c.loop-left.left (omega arith))

pub loop-left-preserved : goal.loop-left-preserved
loop-left-preserved c =
    let l = c.loop-left in
    let same : c.write_two_digits.result ≡ l.p = omega (arith, two_digits_longer l.left (omega arith)) in
    (omega arith, omega arith, two_less _ c.loop-left-test.true same l.invariant.2 c.write_two_digits.ensures)

pub write_two_digits-requires-then-left-ge-TWO_DIGITS_FROM-clause-at_in_bounds : goal.write_two_digits-requires-then-left-ge-TWO_DIGITS_FROM-clause-at_in_bounds
write_two_digits-requires-then-left-ge-TWO_DIGITS_FROM-clause-at_in_bounds c = omega (arith, ap length (two_digits_lem c.loop-left.left (omega arith) (omega arith)))

pub returns-then-left-ge-TWO_DIGITS_FROM : goal.returns-then-left-ge-TWO_DIGITS_FROM
returns-then-left-ge-TWO_DIGITS_FROM c =
    let l = c.loop-left in
    let left : Written _ _ (two_digits l.left) _ _ = rw (two_digits_lem l.left (omega arith) (omega arith)) at l.invariant.2 in
    record { place = omega arith; bytes = c.write_two_digits-then-left-ge-TWO_DIGITS_FROM.ensures.bytes ∙ sym left.bytes }

pub write_byte-requires-2 : goal.write_byte-requires-2
write_byte-requires-2 c = omega (arith, ap length (one_digit c.loop-left.left (omega arith)))

pub returns : goal.returns
returns c =
    let l = c.loop-left in
    let left : Written _ _ (digit l.left ∷ []) _ _ = rw (one_digit l.left (omega arith)) at l.invariant.2 in
    record { place = omega arith; bytes = c.write_byte-2.ensures.bytes ∙ sym left.bytes }
