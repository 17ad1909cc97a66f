-- What contracts of convert cite: the forms by their names in the code, and what an access and a chunk that are turned promise.
use Rattle.std.specs.Prelude.{◌≡◌, List, Option, Some, None, ℕ, ◌+◌, ◌≤◌, length, drop}
use Rattle.model.specs.Trace.{Reading, recorded, refused}
use Rattle.model.specs.Convert as model
use Rattle.model.specs.Convert.{text_form, trace_form, convert}
use Rattle.decimal.specs.Bridge.{Written}
use Rattle.convert.specs.declared.Form.{Form}
use Rattle.convert.specs.declared.Form.TheVariants.{Text, Trace}
use Rattle.convert.specs.declared.Step.{Step}
use Rattle.convert.specs.declared.Converted.{Converted}

-- the form that is read, and the one that is written
abbrev pub form_as : Form → model.Form
form_as Text = text_form
form_as Trace = trace_form

abbrev pub other_as : Form → model.Form
other_as Text = trace_form
other_as Trace = text_form

-- AN ACCESS, by what is read: its bytes in the other form, or the line of the refusal

abbrev pub turned_text : (from to : model.Form) → (count : ℕ) → Reading → List ℕ
turned_text from to count (recorded q) = to.bytes count q
turned_text from to count (refused n) = from.refusal_line n count

-- how many bytes of the input it has
abbrev pub turned_size : (from : model.Form) → (count : ℕ) → Reading → Option ℕ
turned_size from count (recorded q) = Some (length (from.bytes count q))
turned_size from count (refused n) = None

pub record AccessTurned (from to : model.Form) (count : ℕ) (input before : List ℕ) (at : ℕ) (step : Step) (after : List ℕ) : Type 0 where
  pub text : Written before at (turned_text from to count (from.read count input)) step.end after
  pub size : step.size ≡ turned_size from count (from.read count input)
  pub room : step.end ≤ at + 45

-- A CHUNK

-- where its conversion stands
abbrev pub place_as : Converted → (input : List ℕ) → model.Place
place_as r input = record { count = r.count; stopped = r.stopped; left = drop r.at input }

-- Its output stands at the start of the buffer and ends at `end`, and its conversion stands where the definition says.
pub record ChunkTurned (from to : model.Form) (least start : ℕ) (input before : List ℕ) (r : Converted) (after : List ℕ) : Type 0 where
  pub output : Written before 0 (convert from to least start input).output r.end after
  pub place : place_as r input ≡ (convert from to least start input).place
  pub within : (r.at ≤ length input) × (r.end ≤ length before)
