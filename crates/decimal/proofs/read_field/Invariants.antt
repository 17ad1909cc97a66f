-- The digits in front are those of the number so far, which at most one of them took above the limit.
use Rattle.std.proofs.Common.{◌+◌, ◌≤◌, drop, ◌*◌}
use Rattle.decimal.specs.ReadLaws.{Half}
use Rattle.decimal.proofs.read_field.Given as goal

abbrev pub invariant-loop-p : goal.invariant-loop-p
invariant-loop-p l = Half (drop l.at l.text) (drop l.p l.text) l.n × (l.n ≤ 10 * l.limit + 9)
