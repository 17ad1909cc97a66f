-- `bursts::read` meets its contract: refused by the checks, or the walk along its phases.
use Rattle.std.proofs.Common.{refl, sym, ◌∙◌, not, length, ltb, ltb-false, arith}
use Rattle.std.proofs.lemmas.Result.{err_from_is_err_and}
use Rattle.model.specs.Bursts.{reads}
use Rattle.access.specs.Laws.{number_positive}
use Rattle.phases.specs.Bridge.{phases_as}
use Rattle.phases.specs.Laws.{phases_count, read_leaves, not_overrun}
use Rattle.bursts.specs.Laws.{allowed, numbered, refused_burst, done_burst}
use Rattle.bursts.proofs.read.Goals as goal

pub returns-in_err-checks-clause-told : goal.returns-in_err-checks-clause-told
returns-in_err-checks-clause-told c =
    let a = c.args in
    let stop = err_from_is_err_and c.from_residual.result c.from_residual.ensures.1 in
    refused_burst a.card a.shared.now a.window.now _
    (numbered a.card a.shared.now a.window.now (reads a.list.now) a.side a.mode a.start a.phases.now c.in_err-checks.ensures (c.fits-unfit.ensures a.shared.now a.window.now refl refl) refl)
    c.from_residual.result (λ z. let p = number_positive c.in_err-checks.field-0.0 in omega (arith, p, z)) (rw (stop.1, stop.2) refl)

pub returns-in_err-checks-clause-by_case : goal.returns-in_err-checks-clause-by_case
returns-in_err-checks-clause-by_case c =
    let a = c.args in
    let stop = err_from_is_err_and c.from_residual.result c.from_residual.ensures.1 in
    rw (stop.1, stop.2) (λ e. not_overrun (not c.fits-unfit.result) a.side a.mode (phases_as a.phases.now) (ltb (length a.list.now) (length a.phases.now)) (sym c.in_err-checks.ensures ∙ e))

pub read_phases-requires : goal.read_phases-requires
read_phases-requires c =
    let a = c.args in
    let p = allowed a.card a.shared.now a.window.now a.side a.mode a.phases.now (ltb (length a.list.now) (length a.phases.now)) c.in_ok-checks.ensures (c.fits-unfit.ensures a.shared.now a.window.now refl refl) in
    (p.size, p.count, ltb-false _ _ p.room)

pub returns-clause-told : goal.returns-clause-told
returns-clause-told c =
    let a = c.args in
    done_burst a.card a.shared.now a.window.now (record { way = reads a.list.now; side = a.side; mode = a.mode; start = a.start; phases = phases_as a.phases.now })
    (numbered a.card a.shared.now a.window.now (reads a.list.now) a.side a.mode a.start a.phases.now c.in_ok-checks.ensures (c.fits-unfit.ensures a.shared.now a.window.now refl refl) refl)
    c.ended.result refl c.ended.ensures.value (sym (phases_count a.phases.now)) c.read_phases.ensures.value c.read_phases.ensures.list_after (sym (read_leaves a.list.now a.mode a.start (phases_as a.phases.now) a.shared.now))
