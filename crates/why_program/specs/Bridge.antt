-- What the program promises between its calls of the C library: that an argument is read as a number, which text stands ready for the bytes that the
-- input buffer holds, and what of it goes to standard output and to standard error.
use Rattle.std.specs.Prelude.{◌≡◌, Bool, not, ◌||◌, Option, List, [], ℕ, ◌/◌, ◌≤◌, length, take, if◌then◌else◌}
use Rattle.std.proofs.lemmas.List.Edits.{sets}
use Rattle.model.specs.WhyText.{why_output}
use Rattle.decimal.specs.Bridge.{ReadWhole}
use Rattle.report.specs.Bridge.{failed_text}
use Rattle.why_text.specs.Bridge.{Replied}
use Rattle.why_text.specs.declared.Reply.{Reply}
use Rattle.why_text.specs.declared.Reply.TheVariants.{Answer, Usage}
use Rattle.why_program.specs.declared.Turn.{Turn}

-- The text of an argument, which the buffer holds, is read.
pub record Argument (buffer : List ℕ) (r : Option ℕ) : Type 0 where
  pub size : ℕ
  pub fits : size ≤ length buffer
  pub read : ReadWhole (take size buffer) r

-- The output for the arguments and for the bytes that the input buffer holds stands at the start of the output buffer.
pub record Responded (side position : Option ℕ) (turn : Turn) (input before out : List ℕ) : Type 0 where
  pub size : turn.chunk.size ≤ length input
  pub text : (s p : List ℕ) → ReadWhole s side → ReadWhole p position → Replied (why_output (take turn.chunk.size input) s p) before turn.reply out

-- the parts of the text that are written: an answer to standard output, unless reading failed, and the usage line to standard error
abbrev pub answer_in : Reply → ℕ
answer_in (Answer end) = end
answer_in (Usage end) = 0

abbrev pub answer_end : Turn → ℕ
answer_end turn = if not turn.chunk.cut then answer_in turn.reply else 0

abbrev pub usage_in : Reply → ℕ
usage_in (Answer end) = 0
usage_in (Usage end) = end

abbrev pub usage_end : Turn → ℕ
usage_end turn = usage_in turn.reply

-- what standard error gets besides: that reading failed, or else that writing did, and after how many records
abbrev pub fault_text : Turn → (lost : Bool) → List ℕ
fault_text turn lost = if turn.chunk.cut || lost then failed_text turn.chunk.cut (turn.chunk.size / 20) else []

-- It is stored at the buffer's start, when the answer and the usage line have been written.
pub record Closed (turn : Turn) (before after : List ℕ) : Type 0 where
  pub lost : Bool
  pub stored : after ≡ sets before 0 (fault_text turn lost)
