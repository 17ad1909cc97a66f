-- `why::why` meets its contract: a cause that is looked at early refuses, else the trace is followed.
use Rattle.std.proofs.Common.{refl, sym, ap, arith}
use Rattle.std.proofs.lemmas.Result.{err_from_is_err_and}
use Rattle.model.specs.Why.{told}
use Rattle.access.specs.Bridge.{number_of}
use Rattle.access.specs.Laws.{number_positive}
use Rattle.why.specs.Laws.{none_early, early_refused}
use Rattle.why.proofs.why.Goals as goal

pub returns-in_err-checks : goal.returns-in_err-checks
returns-in_err-checks c =
    let a = c.args in
    let r = c.in_err-checks.field-0.0 in
    let p = err_from_is_err_and c.from_residual.result c.from_residual.ensures.1 in
    let early = early_refused a.trace.now a.side a.position (number_of r) c.in_err-checks.ensures (λ z. omega (arith, number_positive r, z)) in
    rw (p.1, p.2) (ap told (sym early))

pub follow-requires-clause-side_value : goal.follow-requires-clause-side_value
follow-requires-clause-side_value c = none_early c.args.trace.now c.args.side c.args.position 0 c.in_ok-checks.ensures refl
