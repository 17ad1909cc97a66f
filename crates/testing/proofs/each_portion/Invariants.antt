-- The portions that are left, behind those that were taken, are those of all the bytes.
use Rattle.std.proofs.Common.{◌<◌}
use Rattle.testing.specs.Bridge.{TakesPortions}
use Rattle.testing.proofs.each_portion.Given as goal

abbrev pub invariant-loop-left : goal.invariant-loop-left
invariant-loop-left g l =
    (0 < l.most)
    × goal.F-IsAlwaysCallable g l.take
    × ((last : _) →
    TakesPortions (λ f size ended next. goal.F-step g f size ended tt next) l.most l.left l.take last →
    TakesPortions (λ f size ended next. goal.F-step g f size ended tt next) l.most l.bytes l.fn.take last)

abbrev pub decreases-loop-left : goal.decreases-loop-left
decreases-loop-left g l = l.left
