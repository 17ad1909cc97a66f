-- A portion that was taken is the first of those that were left.
use Rattle.std.proofs.Common.{◌≡◌, ℕ, Bool, arith, of_calls}
use Rattle.testing.specs.Bridge.{TakesPortions}
use Rattle.testing.specs.Bridge.TakesPortions.{none, more}
use Rattle.testing.proofs.each_portion.Goals as goal

all : {F : Type 0} {step : F → ℕ → Bool → F → Type 0} {most : ℕ} (left : ℕ) {f : F} → left ≡ 0 → TakesPortions step most left f f
all left e = rw e none

pub loop-left-preserved : goal.loop-left-preserved
loop-left-preserved g c = (
  c.loop-left.invariant.0,
  search of_calls,
  λ last h. c.loop-left.invariant.2 last (more c.loop-left-test.true c.min-size.ensures c.take.ensures h),
)

pub returns : goal.returns
returns g c = (c.loop-left.take, rw (← c.portion-most.ensures) (c.loop-left.invariant.2 _ (all _ (omega arith))))
