-- `source::checks` meets its contract: the request's own checks stand before that of its source.
use Rattle.std.proofs.Common.{refl}
use Rattle.std.proofs.lemmas.Result.{err_from_is_err_and}
use Rattle.settings.specs.Bridge.{settings_as}
use Rattle.transfer.specs.Bridge.{request_as}
use Rattle.source.specs.Laws.{request_refused, request_passed}
use Rattle.source.proofs.checks.Goals as goal

pub returns-in_err-checks : goal.returns-in_err-checks
returns-in_err-checks c =
    let a = c.args in
    let p = err_from_is_err_and c.from_residual-in_err-checks.result c.from_residual-in_err-checks.ensures.1 in
    rw (p.1, p.2)
    (request_refused (settings_as a.settings) a.shared.now a.window.now (request_as a.request) _ _ _ c.pass.ensures (c.lengths_fit.ensures _ _ refl refl)
    c.outside_window-outside.ensures c.in_ok-when.ensures c.in_ok-when-2.ensures _ c.checks.ensures c.in_err-checks.was)

pub returns : goal.returns
returns c =
    let a = c.args in
    rw c.when-3.ensures
    (request_passed (settings_as a.settings) a.shared.now a.window.now (request_as a.request) _ _ _ c.pass.ensures (c.lengths_fit.ensures _ _ refl refl)
    c.outside_window-outside.ensures c.in_ok-when.ensures c.in_ok-when-2.ensures _ c.checks.ensures c.in_ok-checks.was)
