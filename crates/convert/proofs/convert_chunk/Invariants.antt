use Rattle.std.proofs.Common.{◌≡◌, false, ◌+◌, ◌-◌, ◌*◌, ◌≤◌, length}
use Rattle.convert.specs.Bridge.{form_as, other_as}
use Rattle.convert.specs.Laws.{Left}
use Rattle.convert.proofs.convert_chunk.Given as goal

abbrev pub invariant-loop-turned : goal.invariant-loop-turned
invariant-loop-turned l =
    (length l.out ≡ length l.fn.out)
    × (l.turned.at ≤ length l.input)
    × (l.turned.end ≤ 3 * l.turned.at)
    × (12 * l.turned.count ≤ 12 * l.start + l.turned.at)
    × (l.turned.stopped ≡ false)
    × Left (form_as l.from) (other_as l.from) l.least l.start l.fn.out l.input l.turned.at l.turned.count l.turned.end l.out

abbrev pub decreases-loop-turned : goal.decreases-loop-turned
decreases-loop-turned l = length l.input - l.turned.at
