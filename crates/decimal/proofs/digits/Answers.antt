-- A number of one or of two digits has as many, and else the greatest power of ten that it holds tells how many it has.
use Rattle.std.proofs.Common.{◌∙◌, sym, ap, arith, length, ◌+◌, ℕ}
use Rattle.model.proofs.TextLaws.{one_digit, two_digits_lem}
use Rattle.decimal.specs.Laws.{digits_told}
use Rattle.decimal.proofs.digits.Goals as goal

pub returns-then-n-lt-TWO_DIGITS_FROM : goal.returns-then-n-lt-TWO_DIGITS_FROM
returns-then-n-lt-TWO_DIGITS_FROM c = sym (ap length (one_digit c.args.n (omega arith)))

pub returns-then-n-lt100 : goal.returns-then-n-lt100
returns-then-n-lt100 c = sym (ap length (two_digits_lem c.args.n (omega arith) (omega arith)))

pub returns : goal.returns
returns c =
    let e = c.checked_ilog10.ensures in
    ap (λ (i : ℕ). i + 1) c.unwrap_or.ensures ∙ digits_told c.checked_ilog10.result c.args.n e.none e.power_le e.next_power_gt
