-- Document 02, L10: local bursts of shared memory. Where the dword address goes, the single accesses of a burst, and what a burst gives: "It equals the
-- single accesses done one by one."
use Rattle.std.specs.Prelude.{Bool, true, false, not, ◌||◌, List, [], ◌∷◌, ◌++◌, map, ℕ, zero, suc, ◌+◌, ◌*◌, ◌/◌, get_or, length, drop, eqb, ltb, if◌then◌else◌}
use Rattle.model.specs.Choice.{every}
use Rattle.model.specs.Checks.{Check, ◌for◌, refusal, above}
use Rattle.model.specs.Lanes.{read_dword, write_dword}
use Rattle.model.specs.Sides.{local, side_of, not_by}
use Rattle.model.specs.Events.{bit}
use Rattle.model.specs.State.{World}
use Rattle.model.specs.Runs.{Outcome, Entry, run}
use Rattle.model.specs.Accesses.{Access, Answer, Kind, number_of, fit, access}
use Rattle.model.specs.Pins.{decode}

-- "a list of phases, each with pins and data"
pub record Phase : Type 0 where
  pub pins : ℕ
  pub dq : ℕ

-- "burst reads and writes"; a read is lent a list, which gets each phase's V
pub data Way : Type 0 where
  reads : (list : List ℕ) → Way
  writes : Way

pub record Burst : Type 0 where
  pub way : Way
  pub side : ℕ
  pub mode : ℕ
  pub start : ℕ
  pub phases : List Phase

-- THE DWORD ADDRESS

-- "In mode 0 the dword address advances after a phase with BE[3:2] at 11, in mode 1 after a phase with BE[3] high, in mode 3 after each phase."
abbrev pub advances : (mode pins : ℕ) → Bool
advances mode pins = get_or (eqb (pins / 4) 0b11 ∷ bit 3 pins ∷ false ∷ true ∷ []) mode false

-- the dword address after a phase that stands at dword `d`
abbrev pub next : (mode pins d : ℕ) → ℕ
next mode pins d = if advances mode pins then d + 1 else d

-- shared memory has 4,096 dwords
abbrev pub last_dword : ℕ
last_dword = 4095

-- THE SINGLE ACCESSES

-- the access of a phase that stands at dword `d`, by the local side: a shared read, or a shared write of what the lanes carry
abbrev pub single : Way → (mode d : ℕ) → Phase → Access
single (reads list) mode d p = record { kind = number_of Kind.shared_read; side = 1; s = (decode mode p.pins p.dq).lanes; a = 4 * d; b = 0; c = 0 }
single writes mode d p =
    record { kind = number_of Kind.shared_write; side = 1; s = (decode mode p.pins p.dq).lanes; a = 4 * d; b = (decode mode p.pins p.dq).dword; c = 0 }

-- "A phase past the last dword stops the burst; the phases before it stand."
abbrev pub singles_from : Way → (mode d : ℕ) → List Phase → List Access
singles_from way mode d [] = []
singles_from way mode d (p ∷ ps) = if above last_dword d then [] else single way mode d p ∷ singles_from way mode (next mode p.pins d) ps

-- "14 a read list shorter than the phases"
abbrev pub short : Way → (phases : ℕ) → Bool
short (reads list) n = ltb (length list) n
short writes n = false

-- "Refusals, in this order after 1 and 2: 5 the host side, 12 a mode of 2 or above 3 or more than 65,536 phases, 4 any phase's pins above 15, 14 .."
abbrev pub burst_checks : Burst → List Check
burst_checks b =
    2 for above 1 b.side
    ∷ 5 for not_by local (side_of b.side)
    ∷ 12 for (eqb b.mode 2 || above 3 b.mode || above 65536 (length b.phases))
    ∷ 4 for not (every (λ p. not (above 15 p.pins)) b.phases)
    ∷ 14 for short b.way (length b.phases) ∷ []

-- none where the burst is refused; under 1 each of them is refused too
abbrev pub singles : Burst → List Access
singles b = if eqb (refusal (burst_checks b)) 0 then singles_from b.way b.mode b.start b.phases else []

-- WHAT A BURST GIVES

-- an answer, and the list that was lent, as it is left
pub record Told : Type 0 where
  pub answer : Answer
  pub list : List ℕ

-- "A read list gets each phase's V; its other places stay."
abbrev pub list_after : Way → List (Entry Access Answer) → List ℕ
list_after (reads list) es = map (λ e. e.answer.v) es ++ drop (length es) list
list_after writes es = []

-- "V is the phases done, X 0": 0 where all are, 13 where a phase past the last dword stopped the burst; "13 the overrun, which amends rule 1 and keeps
-- that V". A refusal by the checks answers two zeros, and leaves the list.
abbrev pub total : (number : ℕ) → Burst → List (Entry Access Answer) → Told
total zero b es =
    record { answer = record { number = if ltb (length es) (length b.phases) then 13 else 0; v = length es; x = 0 }; list = list_after b.way es }
total (suc n) b es = record { answer = record { number = suc n; v = 0; x = 0 }; list = list_after b.way [] }

unfoldable pub burst : World → Burst → Outcome Told World
burst w b =
    let ran = run access w (singles b) in
    record { answer = total (refusal (1 for not (fit w) ∷ burst_checks b)) b ran.entries; world = ran.world }

-- its V, and what it leaves of shared memory
abbrev pub value_in : Way → (mode d : ℕ) → Phase → (memory : List ℕ) → ℕ
value_in (reads list) mode d p m = read_dword m (4 * d) (decode mode p.pins p.dq).lanes
value_in writes mode d p m = 0

abbrev pub left_by : Way → (mode d : ℕ) → Phase → (memory : List ℕ) → List ℕ
left_by (reads list) mode d p m = m
left_by writes mode d p m = write_dword m (4 * d) (decode mode p.pins p.dq).lanes (decode mode p.pins p.dq).dword

abbrev pub done_entry : Way → (mode d : ℕ) → Phase → (memory : List ℕ) → Entry Access Answer
done_entry way mode d p m = record { access = single way mode d p; answer = record { number = 0; v = value_in way mode d p m; x = 0 } }

-- with their answers, and what they leave of shared memory
abbrev pub entries_from : Way → (mode d : ℕ) → List Phase → (memory : List ℕ) → List (Entry Access Answer)
entries_from way mode d [] m = []
entries_from way mode d (p ∷ ps) m =
    if above last_dword d
    then []
    else done_entry way mode d p m ∷ entries_from way mode (next mode p.pins d) ps (left_by way mode d p m)

abbrev pub shared_from : Way → (mode d : ℕ) → List Phase → (memory : List ℕ) → List ℕ
shared_from way mode d [] m = m
shared_from way mode d (p ∷ ps) m = if above last_dword d then m else shared_from way mode (next mode p.pins d) ps (left_by way mode d p m)
