-- No more records are counted than bytes read, and what is left of the trace grows less.
use Rattle.std.proofs.Common.{◌+◌, ◌≤◌}
use Rattle.replay_test.proofs.replay_trace.Given as goal

abbrev pub invariant-loop-left : goal.invariant-loop-left
invariant-loop-left l = l.standing.count + l.left ≤ l.bytes

abbrev pub decreases-loop-left : goal.decreases-loop-left
decreases-loop-left l = l.left
