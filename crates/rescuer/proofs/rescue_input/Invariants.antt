-- So many chunks lead the rescue to where it stands, where more is to be read, and else the last of them stands behind others. Their bytes fit the place.
use Rattle.std.proofs.Common.{◌≡◌, ◌+◌, ◌*◌, ◌≤◌, length}
use Rattle.stream.specs.Bridge.{Behind}
use Rattle.rescuer.specs.Bridge.{stood_at, Going, Reached, Last}
use Rattle.rescuer.proofs.rescue_input.Given as goal

abbrev pub invariant-loop : goal.invariant-loop
invariant-loop l = record {
  input : length l.input ≡ 65520;
  out : length l.out ≡ 393222;
  run : l.turn.work.place.from + l.turn.work.place.run ≤ 65520 * l.counter;
  behind : Behind l.counter l.turn (Reached l.counter (stood_at l.turn l.input) × Going l.turn) (Last l.output l.counter l.turn l.input l.out);
}
