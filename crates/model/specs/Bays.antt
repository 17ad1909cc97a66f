-- Document 02, L5: the bays of the backplane, each by its place, its index and its label.
use Rattle.std.specs.Prelude.{◌&&◌, ℕ, ◌+◌, ◌-◌, ◌*◌, ◌/◌, ◌%◌, ◌<◌, leb, if◌then◌else◌}

-- a bay by its place, row and column "both from 0"
pub record Bay : Type 0 where
  pub row : ℕ
  pub column : ℕ

-- "four rows and six columns"
abbrev pub OnBackplane : Bay → Type 0
OnBackplane bay = (bay.row < 4) × (bay.column < 6)

-- "wires its index down the columns .. index = 4 x column + row"
abbrev pub index_of : Bay → ℕ
index_of bay = 4 * bay.column + bay.row

-- "The labels run along the rows: label = 6 x row + column + 1."
abbrev pub label_of : Bay → ℕ
label_of bay = 6 * bay.row + bay.column + 1

-- the bay that has an index, 0 to 23
abbrev pub bay_with_index : (index : ℕ) → Bay
bay_with_index index = record { row = index % 4; column = index / 4 }

-- the bay that has a label, 1 to 24
abbrev pub bay_with_label : (label : ℕ) → Bay
bay_with_label label = record { row = (label - 1) / 6; column = (label - 1) % 6 }

-- the label of an index, 0 to 23
abbrev pub bay_label : (index : ℕ) → ℕ
bay_label index = label_of (bay_with_index index)

-- "The bench also wants the way back; .. a label outside 1 to 24 gives none."
pub data Found : Type 0 where
  at : (index : ℕ) → Found
  no_bay : Found

abbrev pub bay_index : (label : ℕ) → Found
bay_index label = if leb 1 label && leb label 24 then at (index_of (bay_with_label label)) else no_bay
