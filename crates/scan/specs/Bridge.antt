-- What contracts of scan cite: entries and places as the model's, and what lies between a place and the next record.
use Rattle.std.specs.Prelude.{◌≡◌, true, false, List, ◌++◌, ℕ, ◌+◌, ◌-◌, ◌≤◌, ◌<◌, length, drop, replicate, Option, Some, None}
use Rattle.model.specs.Rescue as model
use Rattle.model.specs.Rescue.{stands, skip, scan}
use Rattle.scan.specs.declared.Entry.{Entry}
use Rattle.scan.specs.declared.Entry.TheVariants.{Kept, Doubtful, Skipped}
use Rattle.scan.specs.declared.Place.{Place}

abbrev pub entry_as : Entry → model.Entry
entry_as (Kept at number) = model.kept at number false
entry_as (Doubtful at number) = model.kept at number true
entry_as (Skipped at size) = model.skipped at size

abbrev pub place_as : Place → model.Place
place_as p = record { from = p.from; run = p.run; expected = p.expected }

-- so many of the places before `to` have 20 bytes from there on
pub record Whole (size to whole : ℕ) : Type 0 where
  pub within : whole ≤ to
  pub enough : (place : ℕ) → place < whole → place + 20 ≤ size
  pub others : (place : ℕ) → whole ≤ place → place < to → size < place + 20

-- the first of so many places where a record stands, or none of them
abbrev pub FirstOf : (bytes : List ℕ) → (places : ℕ) → (found : Option ℕ) → Type 0
FirstOf bytes places (Some found) = (found < places) × (stands (drop found bytes) ≡ true) × ((place : ℕ) → place < found → stands (drop place bytes) ≡ false)
FirstOf bytes places None = (place : ℕ) → place < places → stands (drop place bytes) ≡ false

-- From a place on the scan skips the bytes up to the next one, `next`; before `to` a record stands there. (The scan looks at a place where at least
-- `least` bytes are left.)
pub record Ahead (bytes : List ℕ) (at to next : ℕ) : Type 0 where
  pub within : (at ≤ next) × (next ≤ to)
  pub passed : (least : ℕ) → to + least ≤ length bytes + 1 → scan least 0 (drop at bytes) ≡ replicate (next - at) skip ++ scan least 0 (drop next bytes)
  pub found : next < to → stands (drop next bytes) ≡ true
