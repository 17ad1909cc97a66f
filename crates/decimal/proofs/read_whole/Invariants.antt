-- The digits in front are those of the number so far.
use Rattle.std.proofs.Common.{◌≤◌, drop}
use Rattle.decimal.specs.ReadLaws.{Digits}
use Rattle.decimal.proofs.read_whole.Given as goal

abbrev pub invariant-loop-b : goal.invariant-loop-b
invariant-loop-b l = Digits l.text (drop l.b-index l.rest) l.n × (l.n ≤ 255)
