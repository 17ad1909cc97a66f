-- What contracts of why_text cite: how many entries a case holds, and what a reply is to an output.
use Rattle.std.specs.Prelude.{List, ℕ}
use Rattle.model.specs.WhyText.{Output, answered, usage, usage_text}
use Rattle.decimal.specs.Bridge.{Written}
use Rattle.history.specs.declared.Case.{Case}
use Rattle.history.specs.declared.Case.TheVariants.{Never, Cleared, Set, Held}
use Rattle.why_text.specs.declared.Reply.{Reply}
use Rattle.why_text.specs.declared.Reply.TheVariants.{Answer, Usage}

abbrev pub count_of : Case → ℕ
count_of Never = 0
count_of (Cleared n) = 0
count_of (Set n) = 0
count_of (Held n) = n

abbrev pub end_of : Reply → ℕ
end_of (Answer end) = end
end_of (Usage end) = end

-- a text for standard output, or the usage line for standard error, stands at the start of the buffer
abbrev pub Replied : Output → (before : List ℕ) → Reply → (after : List ℕ) → Type 0
Replied (answered text) before (Answer end) after = Written before 0 text end after
Replied (answered text) before (Usage end) after = ⊥
Replied usage before (Answer end) after = ⊥
Replied usage before (Usage end) after = Written before 0 usage_text end after
