-- Document 02, L1: the line of an access in a text list; its writer and its reader go by one table of fields.
use Rattle.std.specs.Prelude.{List, [], ◌∷◌, ◌++◌, ℕ, length, get_or, drop}
use Rattle.model.specs.Accesses.{Access}
use Rattle.model.specs.Trace.{Reading, recorded, refused}
use Rattle.model.specs.Text.{field_text, Field, ◌ended_by◌, FieldReading, number, unreadable, read_field}

-- "kind, side, S, A, B, C in decimal, single spaces, one a line, each ended by a line feed", "numbers that fit"
abbrev pub line_fields : List Field
line_fields =
    255 ended_by 32 ∷ 255 ended_by 32 ∷ 255 ended_by 32
    ∷ 4294967295 ended_by 32 ∷ 4294967295 ended_by 32 ∷ 4294967295 ended_by 10 ∷ []

-- the numbers of an access in the order of the fields, and the access of such numbers
abbrev pub numbers_of : Access → List ℕ
numbers_of q = q.kind ∷ q.side ∷ q.s ∷ q.a ∷ q.b ∷ q.c ∷ []

abbrev pub access_of_numbers : List ℕ → Access
access_of_numbers ns =
    record { kind = get_or ns 0 0; side = get_or ns 1 0; s = get_or ns 2 0; a = get_or ns 3 0; b = get_or ns 4 0; c = get_or ns 5 0 }

-- WRITTEN

abbrev pub fields_text : List Field → (numbers : List ℕ) → List ℕ
fields_text [] ns = []
fields_text (f ∷ fs) ns = field_text (get_or ns 0 0) f.after ++ fields_text fs (drop 1 ns)

unfoldable pub access_line : Access → List ℕ
access_line q = fields_text line_fields (numbers_of q)

-- READ

infix 4 ◌if_number◌
-- a number, and then the rest. "25, a text line not in that form"
abbrev pub ◌if_number◌ : FieldReading → (rest : ℕ → Reading) → Reading
◌if_number◌ (number n) rest = rest n
◌if_number◌ unreadable rest = refused 25

-- field after field; `numbers` are those that were read before
abbrev pub read_fields : List Field → (numbers text : List ℕ) → Reading
read_fields [] ns text = recorded (access_of_numbers ns)
read_fields (f ∷ fs) ns text = read_field f text if_number λ n. read_fields fs (ns ++ (n ∷ [])) (drop (length (field_text n f.after)) text)

-- the line at the start of a text
unfoldable pub read_line : (text : List ℕ) → Reading
read_line text = read_fields line_fields [] text
