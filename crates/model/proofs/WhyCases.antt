-- Worked cases of L7, computed: each corner whose example is an answer.
use Rattle.std.specs.Prelude.{◌≡◌, refl, List, [], ◌∷◌, ◌++◌, map, ℕ, zero, suc, replicate}
use Rattle.model.specs.State.{sound, fresh_card}
use Rattle.model.specs.Accesses.{Access, access}
use Rattle.model.specs.Bench.{q, bench}
use Rattle.model.specs.Trace.{read_record}
use Rattle.model.specs.Replay.{replay_records, replay}
use Rattle.model.specs.Convert.{trace_form, written}
use Rattle.model.specs.Why.{Holding, never, cleared_by, set_by, held, history, accesses_from, Answer, refused, because, why, told}

abbrev pub trace : List Access → List ℕ
trace qs = written trace_form 0 qs

abbrev ask : (side p : ℕ) → List Access → Answer
ask side p qs = why (trace qs) side p

abbrev pin : Access
pin = q 16 1 0 0 0 0

abbrev reset : Access
reset = q 0 0 0 0 0 0

-- a side writes its own register
abbrev write : (side bits : ℕ) → Access
write side bits = q 12 side 0 0 bits 0

-- FIFO 1, which position 6 follows
abbrev put : (entry : ℕ) → Access
put entry = q 6 0 1 0 entry 0

abbrev take : Access
take = q 5 1 1 0 0 0

infix 68 ◌by◌
abbrev ◌by◌ : (entry n : ℕ) → Holding
◌by◌ entry n = record { entry = entry; put_by = n }

-- 7.12: record 0 is a record like any, and nothing is never. 7.1: raised again while set, the earliest stays.
pub set_told : map (ask 0 4) ((pin ∷ []) ∷ [] ∷ (pin ∷ pin ∷ []) ∷ []) ≡ because (set_by 0) ∷ because never ∷ because (set_by 0) ∷ []
unfolding why history accesses_from written read_record replay replay_records access bench sound fresh_card
set_told = refl

-- 7.2: a reset counts where the bit was set, and not behind a clear; then it is set again. 7.3: a write of 1 to a bit that is clear is no clear.
pub cleared_told : map (ask 0 4) (
    (pin ∷ reset ∷ []) ∷ (pin ∷ write 0 16 ∷ reset ∷ []) ∷ (pin ∷ write 0 16 ∷ pin ∷ pin ∷ []) ∷ (write 0 16 ∷ []) ∷ (pin ∷ write 0 16 ∷ write 0 16 ∷ []) ∷ [])
    ≡ because (cleared_by 1) ∷ because (cleared_by 1) ∷ because (set_by 2) ∷ because never ∷ because (cleared_by 1) ∷ []
unfolding why history accesses_from written read_record replay replay_records access bench sound fresh_card
cleared_told = refl

-- 7.4: a write by the other side and a write of 0 clear nothing. 7.10: set with the enable clear. 7.11: a refused access (a pin by the host) does
-- nothing, and its record number counts.
pub kept_told : map (ask 0 4) ((pin ∷ write 1 16 ∷ []) ∷ (pin ∷ write 0 0 ∷ []) ∷ (write 0 0 ∷ pin ∷ []) ∷ (q 16 0 0 0 0 0 ∷ pin ∷ []) ∷ [])
    ≡ because (set_by 0) ∷ because (set_by 0) ∷ because (set_by 1) ∷ because (set_by 1) ∷ []
unfolding why history accesses_from written read_record replay replay_records access bench sound fresh_card
kept_told = refl

-- a transfer of one dword from or to this PCI address, and its step
abbrev move : (address : ℕ) → List Access
move address = q 14 0 0 0 address 4 ∷ q 15 0 0 0 0 0 ∷ []

-- Events 5, 8 and 9 (done; in the abort range; outside the window) are raised on both sides, event 3 by a mailbox write on the other side alone.
pub events_told :
    map (λ side. ask side 5 (move 268435456)) (0 ∷ 1 ∷ []) ++ map (λ side. ask side 8 (move 268464128)) (0 ∷ 1 ∷ [])
    ++ map (λ side. ask side 9 (move 0)) (0 ∷ 1 ∷ []) ++ map (λ side. ask side 3 (q 9 1 0 0 16777216 0 ∷ [])) (0 ∷ 1 ∷ [])
    ≡ replicate 6 (because (set_by 1)) ++ (because (set_by 0) ∷ because never ∷ [])
unfolding why history accesses_from written read_record replay replay_records access bench sound fresh_card
events_told = refl

-- 7.5: the entries held, oldest first, though the first put raised the bit. 7.7: the same for the local side; no write clears it.
pub entries_told :
    ask 0 6 (put 7 ∷ put 8 ∷ []) ∷ ask 0 6 (put 7 ∷ put 8 ∷ take ∷ []) ∷ ask 1 6 (put 7 ∷ put 8 ∷ take ∷ []) ∷ ask 1 6 (put 7 ∷ write 0 64 ∷ write 1 64 ∷ []) ∷ []
    ≡ because (held (7 by 0 ∷ 8 by 1 ∷ [])) ∷ because (held (8 by 1 ∷ [])) ∷ because (held (8 by 1 ∷ [])) ∷ because (held (7 by 0 ∷ [])) ∷ []
unfolding why history accesses_from written read_record replay replay_records access bench sound fresh_card
entries_told = refl

-- 7.6: a take or reset that empties the FIFO clears; a take from an empty one, and a reset of one, do not.
pub emptied_told : map (ask 0 6) ((put 7 ∷ take ∷ take ∷ reset ∷ []) ∷ (put 7 ∷ reset ∷ take ∷ []) ∷ (take ∷ reset ∷ []) ∷ [])
    ≡ because (cleared_by 1) ∷ because (cleared_by 1) ∷ because never ∷ []
unfolding why history accesses_from written read_record replay replay_records access bench sound fresh_card
emptied_told = refl

-- the same entry, put by this and the records behind it
abbrev put_from : (n count : ℕ) → List Holding
put_from n zero = []
put_from n (suc k) = 7 by n ∷ put_from (suc n) k

-- 7.6: of 33 puts the last is lost, and not listed; it raises position 1 on both sides. (The local side's raise position 0.)
pub lost_told :
    ask 0 6 (replicate 33 (put 7)) ∷ ask 0 1 (replicate 33 (put 7)) ∷ ask 1 1 (replicate 33 (put 7)) ∷ ask 0 0 (replicate 33 (q 6 1 3 0 7 0)) ∷ ask 1 7 (replicate 33 (q 6 1 3 0 7 0)) ∷ []
    ≡ because (held (put_from 0 32)) ∷ because (set_by 32) ∷ because (set_by 32) ∷ because (set_by 32) ∷ because (held (put_from 0 32)) ∷ []
unfolding why history accesses_from written read_record replay replay_records access bench sound fresh_card
lost_told = refl

-- 7.8: 2 is reserved on both sides, 4 on the local one; above 9; a side above 1 comes first
pub reserved_told : ask 0 2 [] ∷ ask 1 2 [] ∷ ask 1 4 [] ∷ ask 0 10 [] ∷ ask 2 10 [] ∷ []
    ≡ refused 42 ∷ refused 42 ∷ refused 42 ∷ refused 42 ∷ refused 43 ∷ []
unfolding why history accesses_from written read_record replay replay_records access bench sound fresh_card
reserved_told = refl

-- 7.9: 41 comes before 40, and is about bytes, also where whole records are bad; 42 comes before it. Left over bytes and an unexpected record are 40.
pub too_long : why (replicate 81921 0) 0 4 ∷ why (replicate 81940 0) 0 4 ∷ why (replicate 81921 0) 0 2 ∷ []
    ≡ refused 41 ∷ refused 41 ∷ refused 42 ∷ []
unfolding why history accesses_from written read_record replay replay_records access bench sound fresh_card
too_long = refl

pub unread : why (replicate 19 0) 0 4 ∷ why (trace (pin ∷ []) ++ (0 ∷ [])) 0 4 ∷ why (trace (pin ∷ []) ++ trace (pin ∷ [])) 0 4 ∷ []
    ≡ refused 40 ∷ refused 40 ∷ refused 40 ∷ []
unfolding why history accesses_from written read_record replay replay_records access bench sound fresh_card
unread = refl

-- 7.13: 32 places, unused ones 0; refused, zeros
pub places_told : map told (ask 0 6 (put 7 ∷ put 8 ∷ take ∷ []) ∷ ask 0 2 [] ∷ [])
    ≡ record { answer = because (held (8 by 1 ∷ [])); entries = 8 ∷ replicate 31 0; records = 1 ∷ replicate 31 0 }
    ∷ record { answer = refused 42; entries = replicate 32 0; records = replicate 32 0 } ∷ []
unfolding why history accesses_from written read_record replay replay_records access bench sound fresh_card
places_told = refl
