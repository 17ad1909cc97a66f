-- What contracts of history cite: the code's answer as the model's, what a record makes of a case and of the puts, and what a history knows.
use Rattle.std.specs.Prelude.{◌≡◌, ◌⊎◌, Bool, true, false, Result, Ok, Err, List, [], ◌∷◌, ◌++◌, map, ℕ, zero, suc, length, get_or, drop, eqb, ltb, if◌then◌else◌}
use Rattle.model.specs.Why.{Holding, Reason, cleared_by, set_by, Answer, refused, because, Told, told, settled_by, Moved, turned, held_by, is_up}
use Rattle.model.specs.Why as model
use Rattle.access.specs.declared.Refusal.{Refusal}
use Rattle.access.specs.Bridge.{number_of}
use Rattle.fifos.specs.Bridge.{entries_as}
use Rattle.history.specs.declared.Case.{Case}
use Rattle.history.specs.declared.Case.TheVariants as code
use Rattle.history.specs.declared.Explanation.{Explanation}
use Rattle.history.specs.declared.History.{History}

-- so many entries, each with the record at its place
unfoldable pub holdings_from : (count : ℕ) → (entries records : List ℕ) → List Holding
holdings_from zero es rs = []
holdings_from (suc k) es rs = record { entry = get_or es 0 0; put_by = get_or rs 0 0 } ∷ holdings_from k (drop 1 es) (drop 1 rs)

abbrev pub answer_of : Case → (entries records : List ℕ) → Answer
answer_of code.Never es rs = because model.never
answer_of (code.Cleared n) es rs = because (cleared_by n)
answer_of (code.Set n) es rs = because (set_by n)
answer_of (code.Held n) es rs = because (model.held (holdings_from n es rs))

-- "Each answers zeros", where refused.
abbrev pub told_as : Result Explanation Refusal → Told
told_as (Ok e) = record { answer = answer_of e.case e.entries e.records; entries = e.entries; records = e.records }
told_as (Err r) = told (refused (number_of r))

abbrev pub is_set : Case → Bool
is_set code.Never = false
is_set (code.Cleared n) = false
is_set (code.Set n) = true
is_set (code.Held n) = false

-- a bit that was set or not, and is so or not behind record `n`
abbrev pub turned_case : Case → (n : ℕ) → (up : Bool) → Case
turned_case c n up = if is_set c then (if up then c else code.Cleared n) else (if up then code.Set n else c)

-- the records that put the entries held, where so many are held behind record `n`
abbrev pub puts_after : (n held : ℕ) → (puts : List ℕ) → List ℕ
puts_after n held puts =
    if ltb (length puts) held then puts ++ (n ∷ []) else (if eqb held 0 then [] else (if ltb held (length puts) then drop 1 puts else puts))

-- A case says of a reason whether the bit is set, and all that the reason says of a bit that is clear, or stored.
pub data Says : Case → Reason → Type 0 where
  never : Says code.Never model.never
  cleared : {n : ℕ} → Says (code.Cleared n) (cleared_by n)
  set : {n : ℕ} → Says (code.Set n) (set_by n)
  holds : {n : ℕ} {h : Holding} {hs : List Holding} → Says (code.Set n) (model.held (h ∷ hs))

-- A history knows a reason: its case, and the records that put the entries held.
pub record Knows (h : History) (r : Reason) : Type 0 where
  pub says : Says h.case r
  pub puts : entries_as h.puts ≡ map (λ h. h.put_by) (held_by r)

-- From one reason to the next by record `n`, behind which the bit is set or not, and its FIFO holds so many entries.
pub record Next (n : ℕ) (up : Bool) (held : ℕ) (r r' : Reason) : Type 0 where
  pub bit : is_up r' ≡ up
  pub size : length (held_by r') ≡ held
  pub moved : Moved n (held_by r) (held_by r')
  pub reason : (r' ≡ turned n up r) ⊎ (r' ≡ settled_by n r (held_by r'))
