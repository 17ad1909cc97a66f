-- What one chunk of the replay promises between the calls of the C library: which text stands ready to be written, for the bytes that the
-- buffers hold; and the last line.
use Rattle.std.specs.Prelude.{◌≡◌, List, [], ℕ, ◌≤◌, length, take, if◌then◌else◌}
use Rattle.model.specs.Replay.{Standing, replay, last_text}
use Rattle.standing.specs.declared.Standing as code
use Rattle.standing.specs.Bridge.{standing_as}
use Rattle.stream.specs.Bridge.{at_hand, chunk_bytes, goes_on, broke_off}
use Rattle.stream.specs.declared.Turn as turns
use Rattle.stream.specs.Bridge as stream
use Rattle.player.specs.declared.Replayed.{Replayed}

-- how a chunk of a replay went
abbrev pub Turn : Type 0
Turn = turns.Turn Replayed

-- before the first chunk
abbrev pub first_turn : code.Standing → Turn
first_turn start = stream.first_turn (record { end = 0; standing = start })

-- the bytes that a turn has answered: those at hand of what its input buffer holds
abbrev pub bytes_of : Turn → (input : List ℕ) → List ℕ
bytes_of turn input = take (at_hand turn.chunk) input

-- A CHUNK, from where the replay stood: the text that the output buffer holds, and where the replay stands then, are those of its replay.
pub record Turned (start : Standing) (turn : Turn) (input out shared window : List ℕ) : Type 0 where
  pub size : turn.chunk.size ≤ chunk_bytes
  pub text : take turn.work.end out ≡ (replay start (bytes_of turn input)).text
  pub end : turn.work.end ≡ length (replay start (bytes_of turn input)).text
  pub standing : standing_as turn.work.standing shared window ≡ (replay start (bytes_of turn input)).standing
  -- the records to be told of: where the write failed, those before the chunk, whose lines are surely written
  pub told : turn.told ≡ (if turn.lost then start.count else turn.work.standing.count)
  pub more : turn.more ≡ goes_on turn.chunk turn.work.standing.stopped turn.lost

-- THE LAST LINE

-- "then `end` and the count of records": never where the replay broke off
abbrev pub closing_text : Turn → List ℕ
closing_text turn = if broke_off turn.chunk turn.lost turn.more then [] else last_text turn.work.standing.stopped turn.work.standing.count
