-- Rule 3: what disturbs a transfer between its start and its last done step, and the claim.
use Rattle.std.specs.Prelude.{◌≡◌, Bool, true, not, ◌&&◌, ◌||◌, List, [], ◌∷◌, ◌++◌, map, ℕ, ◌+◌, eqb, leb, ltb, if◌then◌else◌}
use Rattle.model.specs.Choice.{every}
use Rattle.model.specs.Lanes.{lane_bytes}
use Rattle.model.specs.Settings.{Settings}
use Rattle.model.specs.Transfer.{Request, request_of}
use Rattle.model.specs.State.{World, fresh_world}
use Rattle.model.specs.Runs.{Outcome, Entry, run}
use Rattle.model.specs.Accesses.{Access, Answer, Kind, kind_of, number_of}
use Rattle.reordering.specs.Roles.{TransferAction, resets, starts, steps, none, roles, moved, Undisturbed}

-- WHAT AN ENTRY TOUCHES

-- a byte, by its shared address or its PCI address
pub data Place : Type 0 where
  shared_byte pci_byte : ℕ → Place

pub data Touch : Type 0 where
  starting resetting reading_interrupts writing_interrupts asking_line : Touch
  reading writing : Place → Touch

-- "Kinds 1 to 4 read or write only bytes of enabled lanes."
abbrev pub done_touches : Kind → Access → List Touch
done_touches Kind.reset q = resetting ∷ []
done_touches Kind.shared_read q = map (λ i. reading (shared_byte i)) (lane_bytes 4 q.a q.s)
done_touches Kind.shared_write q = map (λ i. writing (shared_byte i)) (lane_bytes 4 q.a q.s)
done_touches Kind.window_read q = map (λ i. reading (pci_byte i)) (lane_bytes 4 q.a q.s)
done_touches Kind.window_write q = map (λ i. writing (pci_byte i)) (lane_bytes 4 q.a q.s)
done_touches Kind.take q = []
done_touches Kind.put q = []
done_touches Kind.claim q = []
done_touches Kind.release q = []
done_touches Kind.mailbox_write q = []
done_touches Kind.mailbox_read q = []
done_touches Kind.interrupt_read q = reading_interrupts ∷ []
done_touches Kind.interrupt_write q = writing_interrupts ∷ []
done_touches Kind.line q = asking_line ∷ []
done_touches Kind.start q = []
done_touches Kind.step q = []
done_touches Kind.external_pin q = []
done_touches Kind.unknown q = []

-- "a start (even a refused one)": any access of kind 14
abbrev pub start_touches : Entry Access Answer → List Touch
start_touches e = if eqb e.access.kind (number_of Kind.start) then starting ∷ [] else []

-- "No refused access but a start breaks the premise."
abbrev pub touches : Entry Access Answer → List Touch
touches e = start_touches e ++ (if eqb e.answer.number 0 then done_touches (kind_of e.access.kind) e.access else [])

-- WHAT DISTURBS A TRANSFER

-- "A transfer's ranges are C shared bytes from A and C window bytes from PCI address B." One is its source, the other its destination.
abbrev pub in_range : Request → Place → Bool
in_range t (shared_byte i) = leb t.shared i && ltb i (t.shared + t.size)
in_range t (pci_byte i) = leb t.pci i && ltb i (t.pci + t.size)

abbrev pub in_source : Request → Place → Bool
in_source t (shared_byte i) = eqb t.direction 1 && in_range t (shared_byte i)
in_source t (pci_byte i) = eqb t.direction 0 && in_range t (pci_byte i)

abbrev pub in_destination : Request → Place → Bool
in_destination t (shared_byte i) = eqb t.direction 0 && in_range t (shared_byte i)
in_destination t (pci_byte i) = eqb t.direction 1 && in_range t (pci_byte i)

-- "No access there is a done reset or a start (even a refused one), reads or writes an interrupt register, asks for a line level, writes a byte
-- of the transfer's source or destination range, or reads a byte of its destination." A done reset cannot stand there: no later step would be
-- one of the transfer's. Nor can another transfer's step: its start would stand there too, or this transfer's would have been refused with 6.
abbrev pub disturbs : Request → Touch → Bool
disturbs t resetting = true
disturbs t starting = true
disturbs t reading_interrupts = true
disturbs t writing_interrupts = true
disturbs t asking_line = true
disturbs t (writing p) = in_source t p || in_destination t p
disturbs t (reading p) = in_destination t p

abbrev pub quiet : Request → Entry Access Answer → Bool
quiet t e = every (λ touch. not (disturbs t touch)) (touches e)

-- TRANSFERS IN A LIST

abbrev pub done_action : Kind → Access → (v : ℕ) → TransferAction Request
done_action Kind.reset q v = resets
done_action Kind.shared_read q v = none
done_action Kind.shared_write q v = none
done_action Kind.window_read q v = none
done_action Kind.window_write q v = none
done_action Kind.take q v = none
done_action Kind.put q v = none
done_action Kind.claim q v = none
done_action Kind.release q v = none
done_action Kind.mailbox_write q v = none
done_action Kind.mailbox_read q v = none
done_action Kind.interrupt_read q v = none
done_action Kind.interrupt_write q v = none
done_action Kind.line q v = none
done_action Kind.start q v = starts (request_of q.s q.a q.b q.c)
done_action Kind.step q v = steps (eqb v 2 || eqb v 3 || eqb v 4)
done_action Kind.external_pin q v = none
done_action Kind.unknown q v = none

-- "Of the starts done since the last done reset, a done step belongs to the earliest that has no step yet with V 2, 3 or 4."
abbrev pub action_of : Entry Access Answer → TransferAction Request
action_of e = if eqb e.answer.number 0 then done_action (kind_of e.access.kind) e.access e.answer.v else none

-- THE CLAIM

-- "Take any list of accesses of any kind and side, refused ones included, from a fresh card and any two memories", of any machine. If between its
-- start and its last done step every access is `harmless` to the transfer, the list with each transfer's done steps moved to its start gets for every access the
-- number, V and X that it had, and leaves the same record and the same bytes. "The records are compared whole, FIFOs by entries held, an idle
-- transfer as idle."
abbrev pub StepsMoveOf : {Access Answer : Type 0} → (action_of : Entry Access Answer → TransferAction Request) → (harmless : Request → Entry Access Answer → Bool) →
    (machine : World → Access → Outcome Answer World) → Type 0
StepsMoveOf {Access} action_of harmless machine =
    (settings : Settings) (shared window : List ℕ) (accesses : List Access) →
    let w = fresh_world settings shared window in
    let ran = run machine w accesses in
    let list = roles action_of ran.entries in
    Undisturbed harmless list →
    run machine w (map (λ e. e.access) (moved list)) ≡ record { entries = moved list; world = ran.world }

abbrev pub StepsMoveIf : (harmless : Request → Entry Access Answer → Bool) → (machine : World → Access → Outcome Answer World) → Type 0
StepsMoveIf harmless machine = StepsMoveOf action_of harmless machine

abbrev pub StepsMove : (machine : World → Access → Outcome Answer World) → Type 0
StepsMove machine = StepsMoveIf quiet machine
