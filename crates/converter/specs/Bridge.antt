-- What the two programs promise between their calls of the C library: which output stands ready to be written, for the bytes that the buffers hold;
-- that there are chunks whose conversion leads to where it ended; and what standard error gets.
use Rattle.std.specs.Prelude.{◌≡◌, true, false, not, List, [], ◌++◌, ℕ, ◌+◌, ◌≤◌, length, take, drop, if◌then◌else◌}
use Rattle.model.specs.Text.{refused_line_text}
use Rattle.model.specs.Convert as model
use Rattle.model.specs.Convert.{Place, convert_on, beginning, convert_chunks}
use Rattle.report.specs.Bridge.{failed_text}
use Rattle.stream.specs.declared.Turn as turns
use Rattle.stream.specs.Bridge as stream
use Rattle.stream.specs.Bridge.{chunk_bytes, least_of, goes_on, broke_off}
use Rattle.convert.specs.declared.Converted.{Converted}
use Rattle.convert.specs.declared.Form.{Form}
use Rattle.convert.specs.declared.Form.TheVariants.{Text, Trace}
use Rattle.convert.specs.Bridge.{form_as, other_as, place_as}

-- how a chunk went, with where its conversion stands
abbrev pub Turn : Type 0
Turn = turns.Turn Converted

-- before the first chunk
abbrev pub first_turn : Turn
first_turn = stream.first_turn (record { at = 0; end = 0; count = 0; stopped = false })

-- where the conversion stands after a turn, what is left of its chunk among it
abbrev pub place_at : Turn → (input : List ℕ) → Place
place_at turn input = place_as turn.work (take turn.chunk.size input)

-- A turn behind which more is read.
pub record Going (turn : Turn) : Type 0 where
  pub more : turn.more ≡ true
  pub stopped : turn.work.stopped ≡ false
  pub at : turn.work.at ≤ turn.chunk.size
  pub size : turn.chunk.size ≤ chunk_bytes

-- A CHUNK, from where the conversion stood

-- the bytes that were read behind those that were left
abbrev pub bytes_of : (before : Place) → Turn → (input : List ℕ) → List ℕ
bytes_of before turn input = drop (length before.left) (take turn.chunk.size input)

-- their conversion
abbrev pub conversion_of : Form → (before : Place) → Turn → (input : List ℕ) → model.Converted
conversion_of from before turn input =
    convert_on (form_as from) (other_as from) (least_of turn.chunk (form_as from).longest) before (bytes_of before turn input)

-- The output that the output buffer holds, and where the conversion stands then, are those of the bytes read behind those that were left.
pub record Turned (from : Form) (before : Place) (turn : Turn) (input out : List ℕ) : Type 0 where
  pub size : turn.chunk.size ≤ chunk_bytes
  pub at : turn.work.at ≤ turn.chunk.size
  pub kept : take turn.chunk.size input ≡ before.left ++ bytes_of before turn input
  pub output : take turn.work.end out ≡ (conversion_of from before turn input).output
  pub end : turn.work.end ≡ length (conversion_of from before turn input).output
  pub place : place_at turn input ≡ (conversion_of from before turn input).place
  -- the records to be told of: where the write failed, those before the chunk, which are surely written
  pub told : turn.told ≡ (if turn.lost then before.count else turn.work.count)
  pub more : turn.more ≡ goes_on turn.chunk turn.work.stopped turn.lost

-- ALL CHUNKS

-- every loop must have an end: no more chunks are read
abbrev pub most_chunks : ℕ
most_chunks = 3377699720527872

-- So many chunks lead a conversion from its beginning to where it stands now, and nothing of them was refused.
pub record Reached (from : Form) (number : ℕ) (now : Place) : Type 0 where
  pub chunks : List (List ℕ)
  pub counted : length chunks ≡ number
  pub place : now ≡ (convert_chunks (form_as from) (other_as from) beginning chunks).place
  pub going : now.stopped ≡ false

-- The last of so many chunks stands behind others.
pub record Last (from : Form) (number : ℕ) (turn : Turn) (input out : List ℕ) : Type 0 where
  pub before : ℕ
  pub counted : before + 1 ≡ number
  pub place : Place
  pub reached : Reached from before place
  pub last : Turned from place turn input out

-- The last chunk stands behind others. Nothing more is to be read, or all chunks that may be have been.
pub record Ended (from : Form) (turn : Turn) (input out : List ℕ) : Type 0 where
  pub before : ℕ
  pub place : Place
  pub reached : Reached from before place
  pub last : Turned from place turn input out
  pub bound : turn.more ≡ true → before + 1 ≡ most_chunks

-- THE LINE FOR STANDARD ERROR: what failed; or else the refusal of a text

abbrev pub refusal_told : Form → (count : ℕ) → List ℕ
refusal_told Text count = refused_line_text 25 (count + 1)
refusal_told Trace count = []

abbrev pub error_text : Form → Turn → List ℕ
error_text from turn =
    if broke_off turn.chunk turn.lost turn.more
    then failed_text (not turn.lost) turn.told
    else (if turn.work.stopped then refusal_told from turn.work.count else [])
