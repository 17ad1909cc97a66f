use Rattle.std.proofs.Common.{◌≡◌, ◌-◌, ◌/◌, ◌≤◌, length}
use Rattle.rescue.specs.Bridge.{Stands, Half}
use Rattle.rescue.proofs.rescue.Given as goal

abbrev pub invariant-loop-s : goal.invariant-loop-s
invariant-loop-s l =
    (length l.list ≡ length l.fn.list)
    × Stands l.trace l.s
    × (l.s.count ≤ length l.list / 3)
    × Half l.trace l.fn.list l.s l.list

abbrev pub decreases-loop-s : goal.decreases-loop-s
decreases-loop-s l = length l.trace - l.s.at
