-- What contracts of rescue cite: what is found and answered, as the model's; entries in a list; and a trace half scanned.
use Rattle.std.specs.Prelude.{◌≡◌, List, ◌++◌, ℕ, ◌+◌, ◌*◌, ◌/◌, ◌≤◌, ◌<◌, length, take, drop, Option, Some, None, Result, Ok, Err}
use Rattle.model.specs.Rescue as model
use Rattle.model.specs.Rescue.{Entry, numbers_of, entries, entries_from, rescue}
use Rattle.access.specs.declared.Refusal.{Refusal}
use Rattle.access.specs.declared.Refusal.TheVariants.{ListFull}
use Rattle.access.specs.Bridge.{number_of}
use Rattle.scan.specs.declared.Entry as code
use Rattle.scan.specs.Bridge.{entry_as, place_as}
use Rattle.rescue.specs.declared.Standing.{Standing}

abbrev pub found_as : Option code.Entry → model.Found
found_as (Some e) = model.found (entry_as e)
found_as None = model.nothing

abbrev pub rescued_as : Result ℕ Refusal → (list : List ℕ) → model.Rescued
rescued_as (Ok n) list = record { answer = model.count n; list = list }
rescued_as (Err r) list = record { answer = model.refused (number_of r); list = list }

-- Entries stand in a list that has places for them all, and the rest of it is as before.
pub record Holds (before : List ℕ) (es : List Entry) (n : ℕ) (now : List ℕ) : Type 0 where
  pub count : n ≡ length es
  pub places : length es ≤ length before / 3
  pub list : now ≡ numbers_of es ++ drop (3 * length es) before

-- Those of the entries that it has places for stand in it, and there are more.
pub record Full (before : List ℕ) (es : List Entry) (now : List ℕ) : Type 0 where
  pub over : length before / 3 < length es
  pub list : now ≡ numbers_of (take (length before / 3) es) ++ drop (3 * (length before / 3)) before

-- by the answer: their number, or that the last had no room
abbrev pub Stored : (before : List ℕ) → (es : List Entry) → Result ℕ Refusal → (now : List ℕ) → Type 0
Stored before es (Ok n) now = Holds before es n now
Stored before es (Err r) now = (r ≡ ListFull) × Full before es now

-- It stands in the trace, and its place there is the one that the scan knows.
pub record Stands (trace : List ℕ) (s : Standing) : Type 0 where
  pub within : s.at ≤ length trace
  pub place : s.place.from + s.place.run ≡ s.at

-- Some entries were listed, and those of the bytes from `at` on are still to come.
pub record Half (trace before : List ℕ) (s : Standing) (now : List ℕ) : Type 0 where
  pub es : List Entry
  pub split : entries trace ≡ es ++ entries_from (place_as s.place) (drop s.at trace)
  pub holds : Holds before es s.count now

-- the scan goes on, or its answer stands
abbrev pub Going : (trace before : List ℕ) → Result Standing Refusal → (now : List ℕ) → Type 0
Going trace before (Ok s) now = Half trace before s now
Going trace before (Err r) now = rescued_as (Err r) now ≡ rescue trace before
