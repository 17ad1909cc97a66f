-- What cases are left to answer, behind those that were, are all of them.
use Rattle.std.proofs.Common.{◌-◌}
use Rattle.testing.specs.Bridge.{AnswersInTurn}
use Rattle.testing.specs.declared.TheConstants.{TURNS}
use Rattle.testing.proofs.each_case.Given as goal

abbrev pub invariant-loop : goal.invariant-loop
invariant-loop g l =
    goal.F-IsAlwaysCallable g l.answer
    × ((last : _) → AnswersInTurn (goal.F-step g) (TURNS - l.counter) l.answer last → AnswersInTurn (goal.F-step g) TURNS l.fn.answer last)
