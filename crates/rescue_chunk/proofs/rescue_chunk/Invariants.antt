use Rattle.std.proofs.Common.{◌≡◌, ◌+◌, ◌-◌, ◌*◌, ◌≤◌, length}
use Rattle.rescue_chunk.specs.Bridge.{Small, Half, at_first}
use Rattle.rescue_chunk.proofs.rescue_chunk.Given as goal

abbrev pub invariant-loop-s : goal.invariant-loop-s
invariant-loop-s l =
    (length l.out ≡ length l.fn.out)
    × (l.s.at ≤ length l.input)
    × (l.s.end ≤ 6 * l.s.at)
    × Small l.s.place l.s.tally
    × (l.s.place.from + l.s.place.run ≡ l.fn.place.from + l.fn.place.run + l.s.at)
    × Half l.output l.least (at_first l.fn.place l.fn.tally) l.input l.fn.out l.s l.out

abbrev pub decreases-loop-s : goal.decreases-loop-s
decreases-loop-s l = length l.input - l.s.at
