-- Document 02, L1: "One program turns a text list of accesses into a trace, another turns it back."
use Rattle.std.specs.Prelude.{Bool, true, false, List, [], ◌∷◌, ◌++◌, ℕ, zero, suc, ◌+◌, length, drop, ltb, if◌then◌else◌}
use Rattle.model.specs.Accesses.{Access}
use Rattle.model.specs.Trace.{record_bytes, number_after, Reading, recorded, refused, read_record}
use Rattle.model.specs.Text.{log_text, refused_line_text}
use Rattle.model.specs.AccessText.{access_line, read_line}

-- A form in which a list of accesses stands: a trace or a text.
pub record Form : Type 0 where
  -- the bytes of an access; `count` is how many accesses stand in front of it
  pub bytes : (count : ℕ) → Access → List ℕ
  -- the access at the start of the input, or a refusal
  pub read : (count : ℕ) → (input : List ℕ) → Reading
  -- the line that is written on a refusal
  pub refusal_line : (refusal count : ℕ) → List ℕ
  -- how many bytes the longest access has; the reader looks at no more
  pub longest : ℕ

-- "The replay's `log R at N`", N the records turned
abbrev pub trace_form : Form
trace_form = record {
  bytes = λ count q. record_bytes (number_after count) q;
  read = λ count input. read_record input (number_after count);
  refusal_line = λ refusal count. log_text refusal count;
  longest = 20;
}

-- "One a line", refused "with its line number counted from 1". The longest has three numbers of 3 digits and three of 10, each with the byte after it.
abbrev pub text_form : Form
text_form = record {
  bytes = λ count q. access_line q;
  read = λ count input. read_line input;
  refusal_line = λ refusal count. refused_line_text refusal (count + 1);
  longest = 45;
}

-- the bytes of a list of accesses; `count` others stand in front of it
unfoldable pub written : Form → (count : ℕ) → List Access → List ℕ
written f count [] = []
written f count (q ∷ qs) = f.bytes count q ++ written f (count + 1) qs

-- ACCESS AFTER ACCESS

-- Where a conversion stands: how many accesses it has turned, whether a refusal has stopped it, and the bytes that wait for more; none after a refusal.
pub record Place : Type 0 where
  pub count : ℕ
  pub stopped : Bool
  pub left : List ℕ

abbrev pub waiting : (count : ℕ) → (left : List ℕ) → Place
waiting count left = record { count = count; stopped = false; left = left }

abbrev pub stopped_at : (count : ℕ) → Place
stopped_at count = record { count = count; stopped = true; left = [] }

-- what is written, and where the conversion stands then
pub record Converted : Type 0 where
  pub output : List ℕ
  pub place : Place

abbrev pub nothing_more : Place → Converted
nothing_more p = record { output = []; place = p }

-- An access is turned, and then the rest. "On a refusal each writes the line .. after what it has turned, and stops."
abbrev pub turned_by : (from to : Form) → (count : ℕ) → (rest : Access → Converted) → Reading → Converted
turned_by from to count rest (recorded q) = record { output = to.bytes count q ++ (rest q).output; place = (rest q).place }
turned_by from to count rest (refused n) = record { output = from.refusal_line n count; place = stopped_at count }

-- Access after access, while at least `least` bytes are left; 1 where the input has ended: then even one byte left is read, or refused. Each access has
-- a byte or more, so there are no more `accesses` than bytes.
unfoldable pub convert_up_to : (accesses : ℕ) → (from to : Form) → (least count : ℕ) → (input : List ℕ) → Converted
convert_up_to zero from to least count input = nothing_more (waiting count input)
convert_up_to (suc accesses) from to least count input =
    if ltb (length input) least
    then nothing_more (waiting count input)
    else turned_by from to count (λ q. convert_up_to accesses from to least (count + 1) (drop (length (from.bytes count q)) input)) (from.read count input)

unfoldable pub convert : (from to : Form) → (least count : ℕ) → (input : List ℕ) → Converted
convert from to least count input = convert_up_to (length input) from to least count input

-- CHUNK AFTER CHUNK

-- more bytes, read after those that are left
abbrev pub convert_on : (from to : Form) → (least : ℕ) → Place → (bytes : List ℕ) → Converted
convert_on from to least p bytes =
    if p.stopped
    then nothing_more p
    else convert from to least p.count (p.left ++ bytes)

infix 4 ◌and_then◌
-- some of a conversion, and then the rest from where it stands
abbrev pub ◌and_then◌ : Converted → (Place → Converted) → Converted
◌and_then◌ first next = let rest = next first.place in record { output = first.output ++ rest.output; place = rest.place }

-- where nothing has been read yet
abbrev pub beginning : Place
beginning = waiting 0 []

-- chunks, each after what the ones before it left
unfoldable pub convert_chunks : (from to : Form) → Place → (chunks : List (List ℕ)) → Converted
convert_chunks from to p [] = nothing_more p
convert_chunks from to p (bytes ∷ chunks) = (convert_on from to from.longest p bytes and_then λ p. convert_chunks from to p chunks)

-- THE TWO PROGRAMS: a whole input, from its start to its end

-- "a text list of accesses into a trace"
abbrev pub to_trace : (text : List ℕ) → Converted
to_trace text = convert text_form trace_form 1 0 text

-- "back"
abbrev pub to_text : (trace : List ℕ) → Converted
to_text trace = convert trace_form text_form 1 0 trace
