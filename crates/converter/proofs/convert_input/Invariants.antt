-- So many chunks lead the conversion to where it stands, where more is to be read, and else the last of them stands behind others. Their accesses fit the
-- count.
use Rattle.std.proofs.Common.{◌≡◌, ◌*◌, ◌≤◌, length}
use Rattle.stream.specs.Bridge.{Behind}
use Rattle.converter.specs.Bridge.{place_at, Going, Reached, Last}
use Rattle.converter.proofs.convert_input.Given as goal

abbrev pub invariant-loop : goal.invariant-loop
invariant-loop l = record {
  input : length l.input ≡ 65520;
  out : length l.out ≡ 196605;
  count : l.turn.work.count ≤ 5460 * l.counter;
  behind : Behind l.counter l.turn (Reached l.from l.counter (place_at l.turn l.input) × Going l.turn) (Last l.from l.counter l.turn l.input l.out);
}
