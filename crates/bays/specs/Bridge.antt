-- What contracts of bays cite: the label for a byte that may be a bay index, and what a label's bay is found to be, in the model's words.
use Rattle.std.specs.Prelude.{ℕ, Option, Some, None, leb, if◌then◌else◌}
use Rattle.model.specs.Bays as model
use Rattle.model.specs.Bays.{bay_label}
use Rattle.bays.specs.declared.BayIndex.{BayIndex}

-- "X is that label .. if .. byte 0 is at most 23; otherwise 0."
abbrev pub label_at : (index : ℕ) → ℕ
label_at index = if leb index 23 then bay_label index else 0

abbrev pub found_as : Option BayIndex → model.Found
found_as (Some i) = model.at i.0
found_as None = model.no_bay
