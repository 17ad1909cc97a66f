-- What contracts of decimal cite: text stored in a lent buffer, the number that a byte is as a digit, and what is read where a number should stand.
use Rattle.std.specs.Prelude.{◌≡◌, Option, Some, None, IfSome, List, ℕ, ◌+◌, ◌-◌, ◌≤◌, length, drop, ltb, if◌then◌else◌}
use Rattle.std.proofs.lemmas.List.Edits.{sets}
use Rattle.model.specs.Text as model
use Rattle.model.specs.Text.{is_digit, field_text, FieldReading, read_field, read_decimal}
use Rattle.decimal.specs.declared.Field.{Field}

-- The bytes after are the bytes before with the text stored from `at` on; `next` is the place after the text.
pub record Written (before : List ℕ) (at : ℕ) (text : List ℕ) (next : ℕ) (after : List ℕ) : Type 0 where
  pub place : next ≡ at + length text
  pub bytes : after ≡ sets before at text

-- the number that a byte is as a digit
abbrev pub digit_of : ℕ → Option ℕ
digit_of b = if is_digit b then Some (b - 48) else None

abbrev pub field_as : Option Field → FieldReading
field_as (Some r) = model.number r.number
field_as None = model.unreadable

-- a number that is read fits, and the next place is the one behind its field
pub record Behind (at : ℕ) (f : model.Field) (r : Field) : Type 0 where
  pub fits : r.number ≤ f.largest
  pub place : r.next ≡ at + length (field_text r.number f.after)

-- what is read from a place of a text on, and the place behind it
pub record ReadAt (text : List ℕ) (at : ℕ) (f : model.Field) (r : Option Field) : Type 0 where
  pub read : field_as r ≡ read_field f (drop at text)
  pub behind : IfSome r (Behind at f)

-- a number, 255 where it is larger
abbrev pub capped : ℕ → ℕ
capped n = if ltb 255 n then 255 else n

abbrev pub whole_as : FieldReading → Option ℕ
whole_as (model.number n) = Some (capped n)
whole_as model.unreadable = None

-- what is read of a text that should be a number and nothing else
abbrev pub ReadWhole : (text : List ℕ) → Option ℕ → Type 0
ReadWhole text r = r ≡ whole_as (read_decimal text)
