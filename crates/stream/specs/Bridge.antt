-- What a chunk of the input is, what is kept of the last, what of it is answered or turned, how the program goes on, and what standard error gets
-- where something failed.
use Rattle.std.specs.Prelude.{◌≡◌, Bool, true, false, not, ◌&&◌, ◌||◌, List, [], ℕ, ◌-◌, ◌%◌, ◌<◌, ◌≤◌, length, take, drop, eqb, if◌then◌else◌}
use Rattle.report.specs.Bridge.{failed_text}
use Rattle.stream.specs.declared.Chunk.{Chunk}
use Rattle.stream.specs.declared.Turn.{Turn}

-- the bytes of a chunk from a place on stand at the start of the buffer
pub record Keeps (before : List ℕ) (at size kept : ℕ) (after : List ℕ) : Type 0 where
  pub count : kept ≡ size - at
  pub bytes : take kept after ≡ drop at (take size before)

-- What was read stands behind the bytes that are kept, which stay, and fits the buffer. A read is made, and may fail, only where there is room left.
pub record Reads (before : List ℕ) (kept : ℕ) (chunk : Chunk) (after : List ℕ) : Type 0 where
  pub behind : kept ≤ chunk.size
  pub stay : take kept after ≡ take kept before
  pub fits : chunk.size ≤ length after
  pub room : chunk.cut ≡ true → chunk.size < length after

-- Where a read failed, the bytes of a record that the fault cut off are left aside: they are no short record of the trace.
abbrev pub at_hand : Chunk → ℕ
at_hand chunk = if chunk.cut then chunk.size - chunk.size % 20 else chunk.size

-- the bytes of a full chunk: 3,276 records
abbrev pub chunk_bytes : ℕ
chunk_bytes = 65520

-- How many bytes must be at hand for an access to be read: where the input has ended, even one is. A full chunk may be followed by more, and a failed
-- read has cut off what would follow.
abbrev pub least_of : Chunk → (longest : ℕ) → ℕ
least_of chunk longest = if eqb chunk.size chunk_bytes || chunk.cut then longest else 1

-- More is to be read exactly where the chunk was full, nothing was refused and nothing failed.
abbrev pub goes_on : Chunk → (stopped lost : Bool) → Bool
goes_on chunk stopped lost = eqb chunk.size chunk_bytes && not stopped && not chunk.cut && not lost

-- A write failed, or the input's end was not reached and no refusal ended it: a read failed, or more was to be read and no more may be.
abbrev pub broke_off : Chunk → (lost more : Bool) → Bool
broke_off chunk lost more = lost || more || chunk.cut

-- before the first chunk: nothing is read, nothing failed, and more is to be read
abbrev pub first_turn : {W : Type 0} → W → Turn W
first_turn work = record { chunk = record { size = 0; cut = false }; work = work; lost = false; told = 0; more = true }

-- what standard error gets: that writing failed, or else that reading did. `unclosed`: what closes the output could not be written
abbrev pub fault_text : {W : Type 0} → Turn W → (unclosed : Bool) → List ℕ
fault_text turn unclosed =
    let lost = turn.lost || unclosed in
    if broke_off turn.chunk lost turn.more then failed_text (not lost) turn.told else []

-- What is known of a turn behind so many chunks: what holds where more is to be read, and what holds where there is a last chunk. Before the first more is.
pub record Behind {W : Type 0} (number : ℕ) (turn : Turn W) (On Last : Type 0) : Type 0 where
  pub on : turn.more ≡ true → On
  pub first : number ≡ 0 → turn.more ≡ true
  pub last : (number ≡ 0 → ⊥) → Last
