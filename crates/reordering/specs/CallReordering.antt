-- Rule 3 of lists of calls, L4's register accesses and L10's bursts among them: what a call is to the transfers, what it touches, and the claim.
use Rattle.std.specs.Prelude.{◌≡◌, Bool, true, false, not, ◌||◌, List, [], ◌∷◌, ◌++◌, map, ℕ, zero, suc, eqb, if◌then◌else◌}
use Rattle.model.specs.Choice.{every}
use Rattle.model.specs.Lanes.{lane_bytes}
use Rattle.model.specs.Transfer.{Request}
use Rattle.model.specs.Dma.{Dma, request_in}
use Rattle.model.specs.Settings.{Settings}
use Rattle.model.specs.State.{World, fresh_world}
use Rattle.model.specs.Runs.{Outcome, Entry, run}
use Rattle.model.specs.Accesses.{Access, Answer, kind_of}
use Rattle.model.specs.RegisterMap.{Resource, port, dma_register, dmactl, arbutil, interrupts_of, mail_from, shared_at, unmodelled, resource_at}
use Rattle.model.specs.Bursts.{Burst, singles, Told}
use Rattle.model.specs.Calls.{Call, direct, register, bursting, call}
use Rattle.reordering.specs.Roles.{TransferAction, starts, none, roles, moved, Undisturbed}
use Rattle.reordering.specs.Reordering.{shared_byte, Touch, starting, reading_interrupts, writing_interrupts, reading, writing, done_touches, touches, disturbs, action_of, StepsMoveOf}

-- TRANSFERS IN A LIST

-- "A transfer's own start is only the one that starts it": a done write of DMACTL, of the transfer programmed in the registers `r`
abbrev pub register_action : Resource → (direction : ℕ) → Dma → (dword : ℕ) → TransferAction Request
register_action (port taken put) n r d = none
register_action (dma_register p) n r d = none
register_action dmactl zero r d = none
register_action dmactl (suc n) r d = starts (request_in r d)
register_action arbutil n r d = none
register_action (interrupts_of owner) n r d = none
register_action (mail_from writer) n r d = none
register_action (shared_at a) n r d = none
register_action unmodelled n r d = none

abbrev pub call_action : World → Call → Answer → TransferAction Request
call_action w (direct q) a = action_of (record { access = q; answer = a })
call_action w (register q) a = if eqb a.number 0 then register_action (resource_at q.offset) q.direction w.card.dma q.dword else none
call_action w (bursting b) a = none

-- What a call is told, and beside it what it was to the transfers: the transfer that a write of DMACTL starts stands in the record, not in the call.
pub record Reply : Type 0 where
  pub told : Told
  pub action : TransferAction Request

abbrev pub noted : World → Call → Outcome Reply World
noted w c = record { answer = record { told = (call w c).answer; action = call_action w c (call w c).answer.answer }; world = (call w c).world }

abbrev pub noted_action : Entry Call Reply → TransferAction Request
noted_action e = e.answer.action

-- WHAT A CALL TOUCHES

-- "Any access to a DMA register counts as a start."
abbrev pub is_dma : Resource → Bool
is_dma (port taken put) = false
is_dma (dma_register p) = true
is_dma dmactl = true
is_dma arbutil = false
is_dma (interrupts_of owner) = false
is_dma (mail_from writer) = false
is_dma (shared_at a) = false
is_dma unmodelled = false

-- "reads or writes an interrupt register", whosever it is; a dword of shared memory has all lanes
abbrev pub done_here : Resource → (direction : ℕ) → List Touch
done_here (port taken put) n = []
done_here (dma_register p) n = []
done_here dmactl n = []
done_here arbutil n = []
done_here (interrupts_of owner) zero = reading_interrupts ∷ []
done_here (interrupts_of owner) (suc n) = writing_interrupts ∷ []
done_here (mail_from writer) n = []
done_here (shared_at a) zero = map (λ i. reading (shared_byte i)) (lane_bytes 4 a 0)
done_here (shared_at a) (suc n) = map (λ i. writing (shared_byte i)) (lane_bytes 4 a 0)
done_here unmodelled n = []

-- "For demand 3 a burst counts as its single accesses, also where 13 stops it"; refused with another number, as none
abbrev pub counts_as : Burst → Answer → List Access
counts_as b a = if eqb a.number 0 || eqb a.number 13 then singles b else []

-- they are done, all of them
abbrev pub all_touches : List Access → List Touch
all_touches [] = []
all_touches (q ∷ qs) = done_touches (kind_of q.kind) q ++ all_touches qs

-- "even a refused one"; of the others "no refused access .. breaks the premise"
abbrev pub call_touches : Call → Answer → List Touch
call_touches (direct q) a = touches (record { access = q; answer = a })
call_touches (register q) a =
    (if is_dma (resource_at q.offset) then starting ∷ [] else [])
    ++ (if eqb a.number 0 then done_here (resource_at q.offset) q.direction else [])
call_touches (bursting b) a = all_touches (counts_as b a)

abbrev pub quiet_call : Request → Entry Call Reply → Bool
quiet_call t e = every (λ touch. not (disturbs t touch)) (call_touches e.access e.answer.told.answer)

-- THE CLAIM, the notes compared too
abbrev pub CallsMoveIf : (harmless : Request → Entry Call Reply → Bool) → Type 0
CallsMoveIf harmless = StepsMoveOf noted_action harmless noted

abbrev pub CallsMove : Type 0
CallsMove = CallsMoveIf quiet_call

-- BURSTS AS THEIR SINGLE ACCESSES

-- a list of calls with each burst replaced by the single accesses that it counts as
abbrev pub flat_call : Call → Answer → List Call
flat_call (direct q) a = direct q ∷ []
flat_call (register q) a = register q ∷ []
flat_call (bursting b) a = map direct (counts_as b a)

abbrev pub flat : List (Entry Call Reply) → List Call
flat [] = []
flat (e ∷ es) = flat_call e.access e.answer.told.answer ++ flat es

-- THE CLAIM where the premise is that list's: each burst keeps its place and all that it is told.
abbrev pub FlatCallsMove : Type 0
FlatCallsMove =
    (settings : Settings) (shared window : List ℕ) (calls : List Call) →
    let w = fresh_world settings shared window in
    let ran = run noted w calls in
    let list = roles noted_action ran.entries in
    Undisturbed quiet_call (roles noted_action (run noted w (flat ran.entries)).entries) →
    run noted w (map (λ e. e.access) (moved list)) ≡ record { entries = moved list; world = ran.world }
