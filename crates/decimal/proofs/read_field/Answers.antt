-- A number is read digit by digit: the invariant says which digits stand in front.
use Rattle.std.proofs.Common.{◌≡◌, ◌<◌, length, ap, sym, ◌∙◌, arith, rules, get_or, drop, ◌+◌, ◌-◌, Some, None, eqb, ltb, ltb-false}
use Rattle.std.proofs.lemmas.Bool.{eqb-false}
use Rattle.model.proofs.TestLaws.{or_left, or_right}
use Rattle.decimal.specs.Bridge.{digit_of}
use Rattle.decimal.specs.ReadLaws.{here, no_byte, no_digit, first_read, unended, none_over, ended, one_more}
use Rattle.decimal.proofs.read_field.Goals as goal

pub returns-in_err-get : goal.returns-in_err-get
returns-in_err-get c = rw c.from_residual.ensures (no_byte _ _ _ (omega (arith, c.in_err-get.ensures.lookup)))

pub returns-in_err-n : goal.returns-in_err-n
returns-in_err-n c =
    let within : c.args.at < length c.args.text.now = omega (arith, c.in_ok-get.ensures.lookup) in
    let byte : c.in_ok-get.field-0.now ≡ get_or c.args.text.now c.args.at 0 = search rules in
    rw c.from_residual-in_err-n.ensures (no_digit _ _ _ within (ap digit_of (sym byte) ∙ sym c.in_err-n.ensures))

pub loop-p-init : goal.loop-p-init
loop-p-init c =
    let within : c.args.at < length c.args.text.now = omega (arith, c.in_ok-get.ensures.lookup) in
    let byte : c.in_ok-get.field-0.now ≡ get_or c.args.text.now c.args.at 0 = search rules in
    let first = first_read _ _ _ _ (here c.args.text.now c.args.at within) (ap digit_of (sym byte) ∙ sym c.in_ok-n.ensures) in
    (first.0, omega arith)

pub returns-then-not-is_ascii_digit : goal.returns-then-not-is_ascii_digit
returns-then-not-is_ascii_digit c =
    let none : digit_of (get_or c.args.text.now c.loop-p.p 0) ≡ None = search rules in
    rw c.then_some.ensures (ended _ _ _ c.loop-p.invariant.0 c.loop-p-test.true c.requires none)

pub returns-then-over : goal.returns-then-over
returns-then-over c =
    let some : digit_of (get_or c.args.text.now c.loop-p.p 0) ≡ Some (get_or c.args.text.now c.loop-p.p 0 - 48) = search rules in
    none_over _ _ _ c.loop-p.invariant.0 c.loop-p-test.true c.requires some c.if-over.true

pub loop-p-preserved : goal.loop-p-preserved
loop-p-preserved c =
    let l = c.loop-p in
    let d : digit_of (get_or c.args.text.now c.loop-p.p 0) ≡ Some (get_or c.args.text.now c.loop-p.p 0 - 48) = search rules in
    let some = eqb-false l.n 0 (or_left (eqb l.n 0) (ltb c.args.largest l.n) c.if-over.false) in
    let fits = ltb-false c.args.largest l.n (or_right (eqb l.n 0) (ltb c.args.largest l.n) c.if-over.false) in
    let more = one_more (drop (l.p + 1) c.args.text.now) _ _ (here c.args.text.now l.p c.loop-p-test.true) (omega arith) d l.invariant.0 in
    (more.0, omega arith)

pub returns : goal.returns
returns c = unended _ _ _ c.loop-p.invariant.0 c.loop-p-test.false
