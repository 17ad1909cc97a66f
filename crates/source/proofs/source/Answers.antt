-- `source` meets its contract: by cases of the refusal and the direction, the part is the model's and lies in its memory.
use Rattle.std.proofs.Common.{sym, ◌∙◌, arith}
use Rattle.std.proofs.Math.Nat.{add-sub_cancel_left}
use Rattle.model.specs.Transfer.{request_of}
use Rattle.settings.specs.Bridge.{settings_as}
use Rattle.source.specs.Laws.{cases, passed_number, refused_number}
use Rattle.source.proofs.source.Goals as goal

pub returns-then-is_err : goal.returns-then-is_err
returns-then-is_err c =
    let a = c.args in
    let k = cases (settings_as a.settings) a.shared.now a.window.now (request_of a.direction a.a a.b a.c) _ c.checks.ensures in
    rw (k.refused (refused_number _ (sym c.is_err.ensures.value ∙ c.if-is_err.true)))

pub offset-from-requires : goal.offset-from-requires
offset-from-requires c =
    let a = c.args in
    ((cases (settings_as a.settings) a.shared.now a.window.now (request_of a.direction a.a a.b a.c) _ c.checks.ensures).window_holds (passed_number _ (sym c.is_err.ensures.value ∙ c.if-is_err.false)) c.if-direction-eq0.true).0

pub slice_bounds-result-end-then-direction-eq0 : goal.slice_bounds-result-end-then-direction-eq0
slice_bounds-result-end-then-direction-eq0 c =
    let a = c.args in
    let k = cases (settings_as a.settings) a.shared.now a.window.now (request_of a.direction a.a a.b a.c) _ c.checks.ensures in
    let z = passed_number _ (sym c.is_err.ensures.value ∙ c.if-is_err.false) in
    omega (arith, k.window_holds z c.if-direction-eq0.true, k.shared_holds z, c.offset-from.ensures)

pub returns-then-direction-eq0 : goal.returns-then-direction-eq0
returns-then-direction-eq0 c =
    let a = c.args in
    let k = cases (settings_as a.settings) a.shared.now a.window.now (request_of a.direction a.a a.b a.c) _ c.checks.ensures in
    rw (k.in_window (passed_number _ (sym c.is_err.ensures.value ∙ c.if-is_err.false)) c.if-direction-eq0.true, c.offset-from.ensures, add-sub_cancel_left)

pub slice_bounds-result-end-2 : goal.slice_bounds-result-end-2
slice_bounds-result-end-2 c =
    let a = c.args in
    let k = cases (settings_as a.settings) a.shared.now a.window.now (request_of a.direction a.a a.b a.c) _ c.checks.ensures in
    omega (arith, k.shared_holds (passed_number _ (sym c.is_err.ensures.value ∙ c.if-is_err.false)))

pub returns : goal.returns
returns c =
    let a = c.args in
    let k = cases (settings_as a.settings) a.shared.now a.window.now (request_of a.direction a.a a.b a.c) _ c.checks.ensures in
    rw (k.in_shared (passed_number _ (sym c.is_err.ensures.value ∙ c.if-is_err.false)) c.if-direction-eq0.false, add-sub_cancel_left)
