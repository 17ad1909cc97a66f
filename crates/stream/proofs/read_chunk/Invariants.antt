-- What is read stays within the buffer and behind what is kept, and each turn leaves less room: the measure is the room that is left.
use Rattle.std.proofs.Common.{length, ◌-◌, ◌≡◌, ◌≤◌, take}
use Rattle.stream.proofs.read_chunk.Given as goal

abbrev pub invariant-loop-size : goal.invariant-loop-size
invariant-loop-size l = (length l.buffer ≡ length l.initial.buffer) × (l.size ≤ length l.buffer) × (l.kept ≤ l.size) × (take l.kept l.buffer ≡ take l.kept l.initial.buffer)

abbrev pub decreases-loop-size : goal.decreases-loop-size
decreases-loop-size l = length l.buffer - l.size
