-- A turn of the loop answers one record: what is left of the chunk's text and standing is the replay of what is left of its bytes.
-- The buffer has 32 bytes for each record that is left, and the count stays below that of all records.
use Rattle.std.proofs.Common.{◌≡◌, false, ◌+◌, ◌*◌, ◌/◌, ◌≤◌, length}
use Rattle.model.specs.Replay.{records_in, replay}
use Rattle.standing.specs.Bridge.{standing_as}
use Rattle.player.specs.Laws.{Left}
use Rattle.player.proofs.answer_chunk.Given as goal

abbrev pub invariant-loop-record : goal.invariant-loop-record
invariant-loop-record l =
    let rest = l.record-iterator.rest.now in
    record {
      size : l.record-iterator.size ≡ 20;
      room : l.end + 32 * ((length rest + 19) / 20) ≤ length l.out;
      count : l.standing.count + (length rest + 19) / 20 ≤ l.initial.standing.count + records_in l.input;
      going : l.standing.stopped ≡ false;
      left : Left (replay (standing_as l.initial.standing l.initial.shared l.initial.window) l.input) l.initial.out rest (standing_as l.standing l.shared l.window) l.end l.out;
    }
