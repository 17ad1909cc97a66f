-- Each turn lists one record more with what was skipped before it: the entries listed, and those of the bytes from `at` on, are all.
use Rattle.std.proofs.Common.{◌≡◌, length, refl, arith}
use Rattle.rescue.specs.Laws.{all_ahead, none_ahead, all_listed}
use Rattle.rescue.proofs.rescue.Goals as goal

pub loop-s-init : goal.loop-s-init
loop-s-init c =
    let e = c.default-s.ensures in
    (refl, record { within = omega (arith, e); place = omega (arith, e) }, omega (arith, e), all_ahead c.args.trace.now c.args.list.now {s = c.default-s.result} e.0 e.1.0.0 e.1.0.1.0 e.1.0.1.1 e.1.1)

pub returns : goal.returns
returns c =
    let l = c.loop-s in
    let half = l.invariant.3 in
    let ended : l.s.at ≡ length c.args.trace.now = omega (arith, l.invariant.1.within, c.loop-s-test.false) in
    all_listed c.args.trace.now c.args.list.now _ _ _ (none_ahead half ended) (c.store_range.ensures.by_index _ half.es half.holds)
