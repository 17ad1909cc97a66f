-- Document 02, L14: the scan of a damaged trace, the entries that it lists, and the lent list that holds them.
use Rattle.std.specs.Prelude.{Bool, true, false, not, ◌&&◌, List, [], ◌∷◌, ◌++◌, ℕ, zero, suc, ◌+◌, ◌*◌, ◌/◌, length, get_or, take, drop, eqb, ltb, if◌then◌else◌}
use Rattle.model.specs.Accesses.{Access}
use Rattle.model.specs.Trace.{next_number, number_at, access_at}

-- THE SCAN

-- "a whole record with mark and zero byte stands" at the start of the bytes, whatever its number
abbrev pub stands : (bytes : List ℕ) → Bool
stands bytes = not (ltb (length bytes) 20) && eqb (get_or bytes 0 0) 0x42 && eqb (get_or bytes 1 0) 0x50 && eqb (get_or bytes 7 0) 0

-- What the scan does at a place: it keeps the record that stands there, or skips one byte.
pub data Move : Type 0 where
  keep : (number : ℕ) → Access → Move
  skip : Move

-- "Scan a lent trace from byte 0: where a whole record with mark and zero byte stands, keep it and go on after it; otherwise skip one byte."
-- `inside` bytes of a kept record are still ahead. The scan goes on while at least `least` bytes are left: 1 where the trace has ended.
unfoldable pub scan : (least inside : ℕ) → (bytes : List ℕ) → List Move
scan least inside [] = []
scan least (suc inside) (b ∷ bytes) = scan least inside bytes
scan least zero (b ∷ bytes) =
    if ltb (length (b ∷ bytes)) least
    then []
    else (if stands (b ∷ bytes) then keep (number_at 2 2 (b ∷ bytes)) (access_at (b ∷ bytes)) ∷ scan least 19 bytes else skip ∷ scan least 0 bytes)

-- all moves of a trace
abbrev pub moves : (trace : List ℕ) → List Move
moves trace = scan 1 0 trace

-- THE ENTRIES

-- "List kept records and skipped ranges": each with the place where it begins; a kept record with its number and mark, a range with its length
pub data Entry : Type 0 where
  kept : (at number : ℕ) → (doubtful : Bool) → Entry
  skipped : (at size : ℕ) → Entry

-- Where a scan stands: `run` bytes behind `from`, where the last kept record ended; and the number that is expected next.
pub record Place : Type 0 where
  pub from : ℕ
  pub run : ℕ
  pub expected : ℕ

-- "The first is doubtful unless its number is 0."
abbrev pub beginning : Place
beginning = record { from = 0; run = 0; expected = 0 }

-- "skipped ranges, each as long as it can be": all bytes skipped since the last kept record
abbrev pub range : Place → List Entry
range p = if eqb p.run 0 then [] else skipped p.from p.run ∷ []

-- "Mark a kept record doubtful when its number is not the previous kept one plus one, modulo 65,536."
abbrev pub kept_at : Place → (number : ℕ) → Entry
kept_at p number = kept (p.from + p.run) number (not (eqb number p.expected))

-- what a move lists: a range is listed when its end is known
abbrev pub listed_by : Place → Move → List Entry
listed_by p skip = []
listed_by p (keep number q) = range p ++ (kept_at p number ∷ [])

-- where the scan stands after a move
abbrev pub moved : Place → Move → Place
moved p skip = record { from = p.from; run = p.run + 1; expected = p.expected }
moved p (keep number q) = record { from = p.from + p.run + 20; run = 0; expected = next_number number }

unfoldable pub listed : Place → List Move → List Entry
listed p [] = []
listed p (m ∷ ms) = listed_by p m ++ listed (moved p m) ms

unfoldable pub after : Place → List Move → Place
after p [] = p
after p (m ∷ ms) = after (moved p m) ms

-- the entries of a trace "in order"; its end closes the last range
unfoldable pub entries : (trace : List ℕ) → List Entry
entries trace = listed beginning (moves trace) ++ range (after beginning (moves trace))

-- THE LENT LIST

-- An entry has three numbers there: its case, its place, and its number or length. 0 is no case, so that a list of zeros says nothing.
abbrev pub entry_numbers : Entry → List ℕ
entry_numbers (kept at number false) = 1 ∷ at ∷ number ∷ []
entry_numbers (kept at number true) = 2 ∷ at ∷ number ∷ []
entry_numbers (skipped at size) = 3 ∷ at ∷ size ∷ []

unfoldable pub numbers_of : List Entry → List ℕ
numbers_of [] = []
numbers_of (e ∷ es) = entry_numbers e ++ numbers_of es

-- what stands at a place of the list
pub data Found : Type 0 where
  found : Entry → Found
  nothing : Found

abbrev pub entry_of : (case at value : ℕ) → Found
entry_of case at value =
    if eqb case 1
    then found (kept at value false)
    else (if eqb case 2 then found (kept at value true) else (if eqb case 3 then found (skipped at value) else nothing))

unfoldable pub entry_at : (list : List ℕ) → (place : ℕ) → Found
entry_at list place =
    if ltb place (length list / 3)
    then entry_of (get_or list (3 * place) 0) (get_or list (3 * place + 1) 0) (get_or list (3 * place + 2) 0)
    else nothing

-- the number of entries, or a refusal
pub data Listing : Type 0 where
  count : ℕ → Listing
  refused : (number : ℕ) → Listing

-- the answer, and what the lent list holds then
pub record Rescued : Type 0 where
  pub answer : Listing
  pub list : List ℕ

-- "60 no room in the lent list, given only if the next entry does not fit; entries already listed stand. The list's other places stay."
unfoldable pub rescue : (trace list : List ℕ) → Rescued
rescue trace list =
    let es = entries trace in
    let places = length list / 3 in
    if ltb places (length es)
    then record { answer = refused 60; list = numbers_of (take places es) ++ drop (3 * places) list }
    else record { answer = count (length es); list = numbers_of es ++ drop (3 * length es) list }

-- the record that stands at the start of the bytes
abbrev pub kept_first : (bytes : List ℕ) → Move
kept_first bytes = keep (number_at 2 2 bytes) (access_at bytes)

-- how many bytes moves pass
abbrev pub size_of : Move → ℕ
size_of (keep number q) = 20
size_of skip = 1

unfoldable pub sizes : List Move → ℕ
sizes [] = 0
sizes (m ∷ ms) = size_of m + sizes ms

-- what a scan from a place lists of the bytes there, to their end
unfoldable pub entries_from : Place → (bytes : List ℕ) → List Entry
entries_from p bytes = listed p (moves bytes) ++ range (after p (moves bytes))
