-- What contracts of access_text cite: half a line, three numbers; what is read where a line should stand, as the model's reading, and where the line ends.
use Rattle.std.specs.Prelude.{◌≡◌, Option, Some, None, Result, Ok, Err, List, [], ◌∷◌, ◌++◌, ℕ, ◌+◌, ◌≤◌, length, drop}
use Rattle.model.specs.Trace as model
use Rattle.model.specs.Text.{field_text, Field, ◌ended_by◌}
use Rattle.model.specs.AccessText.{access_line, read_fields}
use Rattle.access.specs.declared.Refusal.{Refusal}
use Rattle.access.specs.Bridge.{access_as, number_of}
use Rattle.access_text.specs.declared.Line.{Line}
use Rattle.access_text.specs.declared.Three.{Three}

-- HALF A LINE: three fields of one width

abbrev pub three_text : (x y z last : ℕ) → List ℕ
three_text x y z last = field_text x 32 ++ (field_text y 32 ++ field_text z last)

abbrev pub three_fields : (largest last : ℕ) → List Field → List Field
three_fields largest last fs = largest ended_by 32 ∷ largest ended_by 32 ∷ largest ended_by last ∷ fs

-- Read from a place of the text on, the three numbers fit and stand there, and the rest of the line is read behind them.
pub record Read (text : List ℕ) (at largest last x y z next : ℕ) : Type 0 where
  pub fit : (x ≤ largest) × (y ≤ largest) × (z ≤ largest)
  pub place : next ≡ at + length (three_text x y z last)
  pub line : (fs : List Field) (ns : List ℕ) → read_fields (three_fields largest last fs) ns (drop at text) ≡ read_fields fs (ns ++ (x ∷ y ∷ z ∷ [])) (drop next text)

-- no such line is read
abbrev pub Unread : (text : List ℕ) (at largest last : ℕ) → Type 0
Unread text at largest last = (fs : List Field) (ns : List ℕ) → read_fields (three_fields largest last fs) ns (drop at text) ≡ model.refused 25

abbrev pub ThreeAt : (text : List ℕ) (at largest last : ℕ) → Option Three → Type 0
ThreeAt text at largest last (Some r) = Read text at largest last r.x r.y r.z r.next
ThreeAt text at largest last None = Unread text at largest last

-- A LINE

abbrev pub line_as : Result Line Refusal → model.Reading
line_as (Ok l) = model.recorded (access_as l.access)
line_as (Err r) = model.refused (number_of r)

-- the bytes of the line
abbrev pub Ends : Result Line Refusal → Type 0
Ends (Ok l) = l.length ≡ length (access_line (access_as l.access))
Ends (Err r) = Unit {0}
