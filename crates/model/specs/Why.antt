-- Document 02, L7: why an event bit reads as it does at the end of a trace, told by the changes that its accesses make.
use Rattle.std.specs.Prelude.{Bool, true, false, not, ◌&&◌, ◌||◌, List, [], ◌∷◌, ◌++◌, map, ℕ, zero, suc, ◌-◌, ◌/◌, length, drop, replicate, eqb, if◌then◌else◌}
use Rattle.model.specs.Checks.{Check, ◌for◌, refusal, above}
use Rattle.model.specs.Sides.{Side, side_of, not_by}
use Rattle.model.specs.Events.{position, inbound_post, outbound_post, bit, enable_mask}
use Rattle.model.specs.Interrupts.{register}
use Rattle.model.specs.State.{State, World}
use Rattle.model.specs.Changes.{Change, all_fresh, pushed, popped, flag_is, mail_is, raised, cleared, enables_are, transfer_is, dma_is}
use Rattle.model.specs.Accesses.{Access, kind_of, row_of, access}
use Rattle.model.specs.Bench.{bench}
use Rattle.model.specs.Trace.{access_at}
use Rattle.model.specs.Replay.{replay, replay_start}

-- an entry that a FIFO holds, and the record that put it
pub record Holding : Type 0 where
  pub entry : ℕ
  pub put_by : ℕ

-- "Say why the bit reads as it does at the end: never raised; cleared, with the record that last cleared it; or set, with the earliest record that
-- raised it since the last clear or reset." "Positions 6 and 7 are explained by the entries held, oldest first, with the records that put them".
pub data Reason : Type 0 where
  never : Reason
  cleared_by : (n : ℕ) → Reason
  set_by : (n : ℕ) → Reason
  held : List Holding → Reason

-- WHAT RECORD `n` MAKES OF IT

-- an event raised: "the earliest record that raised it" stays
abbrev pub raise : (n : ℕ) → Reason → Reason
raise n never = set_by n
raise n (cleared_by k) = set_by n
raise n (set_by k) = set_by k
raise n (held hs) = held hs

-- status bits cleared: "A write or reset counts as a clear only if the bit was set." Bits 6 and 7 "cannot be cleared by a write".
abbrev pub clear : (n : ℕ) → Reason → Reason
clear n never = never
clear n (cleared_by k) = cleared_by k
clear n (set_by k) = cleared_by n
clear n (held hs) = held hs

-- every register as in a fresh card: the same, and no FIFO holds an entry
abbrev pub reset : (n : ℕ) → Reason → Reason
reset n never = never
reset n (cleared_by k) = cleared_by k
reset n (set_by k) = cleared_by n
reset n (held hs) = cleared_by n

-- an entry put into the FIFO that the bit follows, behind those that it holds
abbrev pub put : (n entry : ℕ) → Reason → Reason
put n entry never = held (record { entry = entry; put_by = n } ∷ [])
put n entry (cleared_by k) = held (record { entry = entry; put_by = n } ∷ [])
put n entry (set_by k) = set_by k
put n entry (held hs) = held (hs ++ (record { entry = entry; put_by = n } ∷ []))

-- the oldest taken out: "with none held, cleared by the take or reset that emptied it"
abbrev pub left : (n : ℕ) → List Holding → Reason
left n [] = cleared_by n
left n (h ∷ hs) = held (h ∷ hs)

abbrev pub take : (n : ℕ) → Reason → Reason
take n never = never
take n (cleared_by k) = cleared_by k
take n (set_by k) = set_by k
take n (held hs) = left n (drop 1 hs)

-- "Bits 6 and 7 follow FIFOs 1 and 3"
abbrev pub follows : (p fifo : ℕ) → Bool
follows p i = (eqb p (position inbound_post) && eqb i 1) || (eqb p (position outbound_post) && eqb i 3)

-- A change says what happened: what it is to position `p` of a side's register.
abbrev pub noted : Side → (p n : ℕ) → Change → Reason → Reason
noted side p n all_fresh r = reset n r
noted side p n (pushed i entry) r = if follows p i then put n entry r else r
noted side p n (popped i) r = if follows p i then take n r else r
noted side p n (raised s e) r = if not (not_by side s) && eqb p (position e) then raise n r else r
noted side p n (cleared s bits) r = if not (not_by side s) && bit p bits then clear n r else r
noted side p n (flag_is s i b) r = r
noted side p n (mail_is s d) r = r
noted side p n (enables_are s m) r = r
noted side p n (transfer_is t) r = r
noted side p n (dma_is d) r = r

abbrev pub noted_all : Side → (p n : ℕ) → List Change → Reason → Reason
noted_all side p n [] r = r
noted_all side p n (c ∷ cs) r = noted_all side p n cs (noted side p n c r)

-- ALONG A LIST OF ACCESSES

-- what an access changes, if it is done
abbrev pub changes_by : World → Access → List Change
changes_by w q = if eqb (access w q).answer.number 0 then (row_of (kind_of q.kind) w q).effect.changes else []

-- access after access; `n` others stand in front of them
unfoldable pub history : Side → (p n : ℕ) → Reason → World → List Access → Reason
history side p n r w [] = r
history side p n r w (q ∷ qs) = history side p (suc n) (noted_all side p n (changes_by w q) r) (access w q).world qs

-- A TRACE

-- the accesses of its whole records
unfoldable pub accesses_from : (records : ℕ) → (bytes : List ℕ) → List Access
accesses_from zero bytes = []
accesses_from (suc k) bytes = access_at bytes ∷ accesses_from k (drop 20 bytes)

abbrev pub accesses_in : (trace : List ℕ) → List Access
accesses_in trace = accesses_from (length trace / 20) trace

-- "a position above 9 or reserved there": a register has enables at the others
abbrev pub reserved : Side → (p : ℕ) → Bool
reserved side p = above 9 p || not (bit p (enable_mask side))

-- "Refusals, in this order: 43 a side above 1; 42 a position above 9 or reserved there; 41 above 81,920 bytes; 40 a trace the reader refuses."
abbrev pub why_checks : (trace : List ℕ) → (side p : ℕ) → List Check
why_checks trace side p =
    43 for above 1 side
    ∷ 42 for reserved (side_of side) p
    ∷ 41 for above 81920 (length trace)
    ∷ 40 for (replay replay_start trace).standing.stopped ∷ []

-- a refusal's number alone, or the reason
pub data Answer : Type 0 where
  refused : (number : ℕ) → Answer
  because : Reason → Answer

abbrev pub answered_by : (refusal : ℕ) → Reason → Answer
answered_by zero r = because r
answered_by (suc n) r = refused (suc n)

-- "Given a trace .., run as the replay runs it, a side and an event position 0 to 9"
unfoldable pub why : (trace : List ℕ) → (side p : ℕ) → Answer
why trace side p = answered_by (refusal (why_checks trace side p)) (history (side_of side) p 0 never bench (accesses_in trace))

-- THE ANSWER WITH ITS PLACES

abbrev pub holdings : Answer → List Holding
holdings (refused n) = []
holdings (because never) = []
holdings (because (cleared_by n)) = []
holdings (because (set_by n)) = []
holdings (because (held hs)) = hs

-- 32 places, those not used 0
abbrev pub places : List ℕ → List ℕ
places l = l ++ replicate (32 - length l) 0

-- the answer, and beside it the entries held and the records that put them
pub record Told : Type 0 where
  pub answer : Answer
  pub entries : List ℕ
  pub records : List ℕ

abbrev pub told : Answer → Told
told a = record { answer = a; entries = places (map (λ h. h.entry) (holdings a)); records = places (map (λ h. h.put_by) (holdings a)) }

-- whether a reason says that the bit is set
abbrev pub is_up : Reason → Bool
is_up never = false
is_up (cleared_by n) = false
is_up (set_by n) = true
is_up (held hs) = true

-- the entries that a reason says are held
abbrev pub held_by : Reason → List Holding
held_by never = []
held_by (cleared_by n) = []
held_by (set_by n) = []
held_by (held hs) = hs

-- a stored bit by its edges: record `n` raised it, cleared it, or left it
abbrev pub turned : (n : ℕ) → (after : Bool) → Reason → Reason
turned n after r = if after then (if is_up r then r else set_by n) else (if is_up r then cleared_by n else r)

-- what record `n` makes of the entries held: the same; one more behind them, of its own; without the oldest; none
pub data Moved (n : ℕ) (before : List Holding) : List Holding → Type 0 where
  same : Moved n before before
  longer : (entry : ℕ) → Moved n before (before ++ (record { entry = entry; put_by = n } ∷ []))
  shorter : Moved n before (drop 1 before)
  emptied : Moved n before []

-- the reason by what is held then
abbrev pub settled_by : (n : ℕ) → Reason → (after : List Holding) → Reason
settled_by n r [] = if is_up r then cleared_by n else r
settled_by n r (h ∷ hs) = held (h ∷ hs)

-- the status bit of a side's register
abbrev pub stored_bit : Side → (p : ℕ) → State → Bool
stored_bit side p s = bit p (register side s.interrupts).status
