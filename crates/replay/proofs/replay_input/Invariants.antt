-- So many chunks behind full ones: where more is to be read they were full, and else the last of them stands behind full ones. Their records fit the count.
use Rattle.std.proofs.Common.{◌≡◌, ◌*◌, ◌≤◌, length}
use Rattle.standing.specs.Bridge.{standing_as}
use Rattle.stream.specs.Bridge.{chunk_bytes, Behind}
use Rattle.replay.specs.Bridge.{Reached, Last}
use Rattle.replay.proofs.replay_input.Given as goal

abbrev pub invariant-loop : goal.invariant-loop
invariant-loop l = record {
  input : length l.input ≡ chunk_bytes;
  out : length l.out ≡ 104832;
  count : l.turn.went.work.standing.count ≤ 3276 * l.counter;
  behind : Behind l.counter l.turn.went (Reached l.counter (standing_as l.turn.went.work.standing l.shared l.window)) (Last l.counter l.turn.went l.input l.out l.shared l.window);
}
