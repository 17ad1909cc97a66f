-- What the two programs promise between their calls of the C library: which output stands ready to be written, for the bytes that the buffers hold;
-- that there are chunks whose scan leads to where it ended; and what closes the output.
use Rattle.std.specs.Prelude.{◌≡◌, Bool, true, false, ℕ, ◌+◌, ◌≤◌, length, take, drop, if◌then◌else◌}
use mathlib.Core.List.{List, [], ◌++◌, flatten}
use Rattle.std.proofs.lemmas.List.Edits.{sets}
use Rattle.model.specs.Rescue.{Move, scan, moves, Place, beginning, listed, after, sizes}
use Rattle.model.specs.RescueText.{Tally, none, tally}
use Rattle.stream.specs.declared.Turn as turns
use Rattle.stream.specs.Bridge as stream
use Rattle.stream.specs.Bridge.{chunk_bytes, least_of, goes_on, broke_off, fault_text}
use Rattle.scan.specs.Bridge.{place_as}
use Rattle.entry_text.specs.Bridge.{tally_as}
use Rattle.rescue_chunk.specs.declared.Output.{Output}
use Rattle.rescue_chunk.specs.declared.Rescued.{Rescued}
use Rattle.rescue_chunk.specs.Bridge.{output_of, last_text, Small}

-- how a chunk went, with where its rescue stands
abbrev pub Turn : Type 0
Turn = turns.Turn Rescued

-- before the first chunk
abbrev pub first_turn : Turn
first_turn = stream.first_turn (record { at = 0; end = 0; place = record { from = 0; run = 0; expected = 0 }; tally = record { kept = 0; doubtful = 0; skipped = 0 } })

-- Where a rescue stands: the scan's place, the entries counted, and the bytes that wait for more.
pub record Stood : Type 0 where
  pub place : Place
  pub tally : Tally
  pub left : List ℕ

abbrev pub stood_at : Turn → (input : List ℕ) → Stood
stood_at turn input = record {
  place = place_as turn.work.place;
  tally = tally_as turn.work.tally;
  left = drop turn.work.at (take turn.chunk.size input);
}

-- A turn behind which more is read.
pub record Going (turn : Turn) : Type 0 where
  pub more : turn.more ≡ true
  pub at : turn.work.at ≤ turn.chunk.size
  pub size : turn.chunk.size ≤ chunk_bytes
  pub small : Small turn.work.place turn.work.tally

-- A CHUNK, from where the rescue stood

-- the bytes that were read behind those that were left
abbrev pub bytes_of : (before : Stood) → Turn → (input : List ℕ) → List ℕ
bytes_of before turn input = drop (length before.left) (take turn.chunk.size input)

-- the moves of both
abbrev pub moves_of : (before : Stood) → Turn → (input : List ℕ) → List Move
moves_of before turn input = scan (least_of turn.chunk 20) 0 (before.left ++ bytes_of before turn input)

-- The output that the output buffer holds, and where the rescue stands then, are those of the bytes read behind those that were left.
pub record Turned (output : Output) (before : Stood) (turn : Turn) (input out : List ℕ) : Type 0 where
  pub size : turn.chunk.size ≤ chunk_bytes
  pub at : turn.work.at ≤ turn.chunk.size
  pub kept : take turn.chunk.size input ≡ before.left ++ bytes_of before turn input
  pub text : take turn.work.end out ≡ output_of output before.place before.tally.kept (moves_of before turn input)
  pub end : turn.work.end ≡ length (output_of output before.place before.tally.kept (moves_of before turn input))
  pub place : place_as turn.work.place ≡ after before.place (moves_of before turn input)
  pub tally : tally_as turn.work.tally ≡ tally before.tally (listed before.place (moves_of before turn input))
  pub passed : turn.work.at ≡ sizes (moves_of before turn input)
  pub small : Small turn.work.place turn.work.tally
  -- the records to be told of: where the write failed, those before the chunk, which are surely written
  pub told : turn.told ≡ (if turn.lost then before.tally.kept else turn.work.tally.kept)
  pub more : turn.more ≡ goes_on turn.chunk false turn.lost

-- ALL CHUNKS

-- every loop must have an end: no more chunks are read
abbrev pub most_chunks : ℕ
most_chunks = 281474976710656

-- So many chunks lead a rescue from its beginning to where it stands now: `done` are the first moves of every trace that begins with them.
pub record Reached (number : ℕ) (now : Stood) : Type 0 where
  pub chunks : List (List ℕ)
  pub counted : length chunks ≡ number
  pub done : List Move
  pub first : (more : List ℕ) → moves (flatten chunks ++ more) ≡ done ++ moves (now.left ++ more)
  pub place : now.place ≡ after beginning done
  pub tally : now.tally ≡ tally none (listed beginning done)

-- The last of so many chunks stands behind others.
pub record Last (output : Output) (number : ℕ) (turn : Turn) (input out : List ℕ) : Type 0 where
  pub before : ℕ
  pub counted : before + 1 ≡ number
  pub stood : Stood
  pub reached : Reached before stood
  pub last : Turned output stood turn input out

-- The last chunk stands behind others. Nothing more is to be read, or all chunks that may be have been.
pub record Ended (output : Output) (turn : Turn) (input out : List ℕ) : Type 0 where
  pub before : ℕ
  pub stood : Stood
  pub reached : Reached before stood
  pub last : Turned output stood turn input out
  pub bound : turn.more ≡ true → before + 1 ≡ most_chunks

-- WHAT CLOSES THE OUTPUT: nothing where the rescue broke off

abbrev pub closing_text : Output → Turn → List ℕ
closing_text output turn =
    if broke_off turn.chunk turn.lost turn.more then [] else last_text output (place_as turn.work.place) (tally_as turn.work.tally)

-- What is stored to be written at the end, each at the buffer's start: first what closes the output, then what standard error gets.
pub record Closed (output : Output) (turn : Turn) (before after' : List ℕ) : Type 0 where
  pub unclosed : Bool
  pub stored : after' ≡ sets (sets before 0 (closing_text output turn)) 0 (fault_text turn unclosed)
