-- A text is read digit by digit: the invariant says which digits stand in front.
use Rattle.std.proofs.Common.{sym, ◌∙◌, ◌+◌, ◌*◌, arith, drop_of_length-le}
use Rattle.decimal.specs.ReadLaws.{here, empty, whole_no_digit, first_digit, next_digit, capped_min, whole_ended, zero_first, other_byte}
use Rattle.decimal.proofs.read_whole.Goals as goal

pub returns-in_err-first : goal.returns-in_err-first
returns-in_err-first c = rw c.from_residual.ensures (empty _ c.in_err-first.ensures.cases)

pub returns-in_err-n : goal.returns-in_err-n
returns-in_err-n c = rw c.from_residual-in_err-n.ensures (whole_no_digit _ c.in_ok-first.ensures.cases.0 (sym c.in_err-n.ensures))

pub loop-b-init : goal.loop-b-init
loop-b-init c = first_digit _ _ _ _ c.in_ok-first.ensures.cases.0 (sym c.in_ok-n.ensures)

pub returns-in_err-digit : goal.returns-in_err-digit
returns-in_err-digit c =
    rw c.from_residual-in_err-digit.ensures (other_byte _ c.loop-b.invariant.0 _ _ (here _ _ c.loop-b-test.true) (sym c.in_err-digit.ensures))

pub returns-then-n-eq0 : goal.returns-then-n-eq0
returns-then-n-eq0 c = zero_first _ c.loop-b.invariant.0 _ _ (here _ _ c.loop-b-test.true) c.if-n-eq0.true

pub loop-b-preserved : goal.loop-b-preserved
loop-b-preserved c =
    let told = c.min-n.ensures ∙ capped_min (10 * c.loop-b.n + c.in_ok-digit.digit) in
    (rw told (next_digit _ _ _ (here _ _ c.loop-b-test.true) c.if-n-eq0.false (sym c.in_ok-digit.ensures) c.loop-b.invariant.0), omega (arith, c.min-n.ensures))

pub returns : goal.returns
returns c = whole_ended _ (rw (drop_of_length-le c.in_ok-first.rest.now c.loop-b-test.false) at c.loop-b.invariant.0)
