-- What the program promises between its calls of the C library: that there are chunks whose replay leads to where it ended, and which last lines
-- it stores.
use Rattle.std.specs.Prelude.{◌≡◌, Bool, true, false, List, ℕ, ◌+◌, length}
use Rattle.std.proofs.lemmas.List.Edits.{sets}
use Rattle.model.specs.Choice.{All}
use Rattle.model.specs.Replay.{Standing, replay_start, replay_chunks}
use Rattle.stream.specs.Bridge.{chunk_bytes, fault_text}
use Rattle.sealed_turn.specs.Bridge.{Turn, Turned, closing_text}

-- every loop must have an end: no more chunks are read
abbrev pub most_chunks : ℕ
most_chunks = 5629499534213120

-- So many chunks, each of them full, lead a replay from its start to where it stands now, and none of their records was refused.
pub record Reached (number : ℕ) (now : Standing) : Type 0 where
  pub chunks : List (List ℕ)
  pub counted : length chunks ≡ number
  pub full : All (λ bytes. length bytes ≡ chunk_bytes) chunks
  pub standing : now ≡ (replay_chunks replay_start chunks).standing
  pub going : now.stopped ≡ false

-- The last of so many chunks stands behind full ones.
pub record Last (number : ℕ) (turn : Turn) (input out shared window : List ℕ) : Type 0 where
  pub before : ℕ
  pub counted : before + 1 ≡ number
  pub start : Standing
  pub reached : Reached before start
  pub last : Turned start turn input out shared window

-- The last chunk stands behind full ones. Nothing more is to be read, or all chunks that may be have been.
pub record Ended (turn : Turn) (input out shared window : List ℕ) : Type 0 where
  pub before : ℕ
  pub start : Standing
  pub reached : Reached before start
  pub last : Turned start turn input out shared window
  pub bound : turn.more ≡ true → before + 1 ≡ most_chunks

-- What is stored to be written at the end, each at the buffer's start: first the last line, then what standard error gets.
pub record Closed (turn : Turn) (before after : List ℕ) : Type 0 where
  pub unclosed : Bool
  pub stored : after ≡ sets (sets before 0 (closing_text turn)) 0 (fault_text turn unclosed)
