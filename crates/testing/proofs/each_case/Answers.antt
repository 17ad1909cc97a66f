-- A case that was answered is one turn of those that were left.
use Rattle.std.proofs.Common.{◌≡◌, ℕ, ◌+◌, ◌-◌, Bool, true, false, arith, refl, inl, inr, add-one, of_calls}
use Rattle.testing.specs.Bridge.{AnswersInTurn}
use Rattle.testing.specs.declared.TheConstants.{TURNS}
use Rattle.testing.proofs.each_case.Goals as goal
use Rattle.testing.proofs.each_case.Goals.{else-loop-test, then-loop-test+then-not-answer}

turn : {F : Type 0} (step : F → Bool → F → Type 0) (n m : ℕ) (f next last : F) → n ≡ m + 1 → step f true next → AnswersInTurn step m next last → AnswersInTurn step n f last
unfolding AnswersInTurn
turn step n m f next last e s h = rw (e, add-one) (inr (next, s, h))

ends : {F : Type 0} (step : F → Bool → F → Type 0) (n m : ℕ) (f last : F) → n ≡ m + 1 → step f false last → AnswersInTurn step n f last
unfolding AnswersInTurn
ends step n m f last e s = rw (e, add-one) (inl s)

all : {F : Type 0} (step : F → Bool → F → Type 0) (n : ℕ) (f : F) → n ≡ 0 → AnswersInTurn step n f f
unfolding AnswersInTurn
all step n f e = rw e refl

pub loop-preserved : goal.loop-preserved
loop-preserved g c = (
  search of_calls,
  λ last h. c.loop.invariant.1 last (turn _ _ (TURNS - (c.loop.counter + 1)) _ c.answer.new.self last (omega arith) (rw c.if-not-answer.false at c.answer.ensures) h),
)

pub returns : goal.returns
returns g c =
    elim c.loop-test.branch [
      | else-loop-test w ↦ (c.loop.answer, c.loop.invariant.1 _ (all _ _ _ (omega arith)))
      | then-loop-test+then-not-answer w ↦ (w.answer.new.self, c.loop.invariant.1 _ (ends _ _ (TURNS - (c.loop.counter + 1)) _ _ (omega arith) (rw w.if-not-answer.true at w.answer.ensures)))
    ]
