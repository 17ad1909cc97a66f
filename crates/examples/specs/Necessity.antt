-- No condition of rule 3's premise is idle but the done reset and, of L4, DMA reads and writes of base and size: for each other one, a list that breaks only it, and for which the conclusion is false, computed on the bench.
-- A done reset is left out: it cannot stand between a start and a step of the same transfer. Of L4's, "any access to a DMA register counts as a
-- start", a write of DMACTL is needed. A read of a DMA register, and a write of DMALBASE, DMAHBASE or DMASIZE, could stand there: they see and
-- change nothing of the transfer that runs. They are in the premise because the user counts them.
use Rattle.std.specs.Prelude.{◌≡◌, refl, Bool, true, false, not, ◌&&◌, ◌||◌, List, [], ◌∷◌, map, ℕ, replicate, get_or, eqb, if◌then◌else◌}
use Rattle.std.proofs.Common.{ap, ◌∙◌, eq-eqb}
use Rattle.std.proofs.Math.Path.{sym}
use Rattle.model.specs.Choice.{every}
use Rattle.model.specs.Lanes.{read_dword, write_dword}
use Rattle.model.specs.Transfer.{Request}
use Rattle.model.specs.State.{World, sound, fresh_card}
use Rattle.model.specs.Runs.{Outcome, Entry, run}
use Rattle.model.specs.Accesses.{Access, Answer, access}
use Rattle.model.specs.Registers.{register_access}
use Rattle.model.specs.Calls.{Call}
use Rattle.model.proofs.TestLaws.{no_both}
use Rattle.model.specs.Pins.{decode}
use Rattle.model.specs.Bursts.{burst}
use Rattle.model.specs.Bench.{q, d, g, p, bw, br, replay_settings, bench}
use Rattle.reordering.specs.Roles.{TransferAction, roles, moved}
use Rattle.reordering.specs.Reordering.{Touch, starting, resetting, reading_interrupts, writing_interrupts, asking_line, reading, writing, touches, in_source, disturbs, action_of, StepsMoveOf, StepsMoveIf}
use Rattle.reordering.specs.CallReordering.{Reply, noted, noted_action, call_touches, quiet_call, CallsMoveIf}
use Rattle.reordering.proofs.Premise.{undisturbed, premise}

-- THE CONDITIONS, each with a number of its own

pub data Condition : Type 0 where
  no_reset no_start no_interrupt_read no_interrupt_write no_line source_unwritten destination_unwritten destination_unread : Condition

abbrev code : Condition → ℕ
code no_reset = 0
code no_start = 1
code no_interrupt_read = 2
code no_interrupt_write = 3
code no_line = 4
code source_unwritten = 5
code destination_unwritten = 6
code destination_unread = 7

-- the condition that a disturbing touch breaks
abbrev pub broken : Request → Touch → Condition
broken t resetting = no_reset
broken t starting = no_start
broken t reading_interrupts = no_interrupt_read
broken t writing_interrupts = no_interrupt_write
broken t asking_line = no_line
broken t (writing p) = if in_source t p then source_unwritten else destination_unwritten
broken t (reading p) = destination_unread

-- quiet but for this condition: whatever of the entry disturbs the transfer breaks just that
abbrev pub still_but : Condition → Request → List Touch → Bool
still_but c t l = every (λ touch. not (disturbs t touch) || eqb (code (broken t touch)) (code c)) l

abbrev pub quiet_but : Condition → Request → Entry Access Answer → Bool
quiet_but c t e = still_but c t (touches e)

abbrev pub quiet_call_but : Condition → Request → Entry Call Reply → Bool
quiet_call_but c t e = still_but c t (call_touches e.access e.answer.told.answer)

-- A CLAIM WITHOUT THE CONDITION IS FALSE

abbrev same : List ℕ → List ℕ → Bool
same [] [] = true
same [] (m ∷ ms) = false
same (n ∷ ns) [] = false
same (n ∷ ns) (m ∷ ms) = eqb n m && same ns ms

same_refl : (l : List ℕ) → same l l ≡ true
same_refl [] = refl
same_refl (n ∷ l) = rw (eq-eqb n n refl) (same_refl l)

module _ {Q R : Type 0} (machine : World → Q → Outcome R World) (action_of : Entry Q R → TransferAction Request) (value_of : R → ℕ) (harmless : Request → Entry Q R → Bool) where
  -- the V of each entry
  abbrev values : List (Entry Q R) → List ℕ
  values es = map (λ e. value_of e.answer) es

  abbrev moved_list : List Q → List (Entry Q R)
  moved_list accesses = moved (roles action_of (run machine bench accesses).entries)

  refuted : (accesses : List Q) → undisturbed harmless (roles action_of (run machine bench accesses).entries) ≡ true →
      same (values (run machine bench (map (λ e. e.access) (moved_list accesses))).entries) (values (moved_list accesses)) ≡ false → StepsMoveOf action_of harmless machine → ⊥
  unfolding bench
  refuted accesses h d claim =
      let l = values (run machine bench (map (λ e. e.access) (moved_list accesses))).entries in
      let e = claim replay_settings (replicate 16384 0) (replicate 32768 0) accesses (premise harmless (roles action_of (run machine bench accesses).entries) h) in
      no_both (sym d ∙ sym (ap (λ r. same l (values r.entries)) e) ∙ same_refl l)

-- a start that is refused because the transfer runs would be done after it
abbrev refused_start : List Access
refused_start = q 14 0 0 0 0x10000000 4 ∷ q 14 0 0 0 0x10000000 4 ∷ q 15 0 0 0 0 0 ∷ []

pub refused_start_needed : StepsMoveIf (quiet_but no_start) access → ⊥
unfolding bench fresh_card access sound read_dword write_dword
refused_start_needed = refuted access action_of (λ r. r.v) (quiet_but no_start) refused_start refl refl

-- a read of HINT before the step that aborts
abbrev interrupt_read : List Access
interrupt_read = q 14 0 0 0 0 4 ∷ q 11 0 0 0 0 0 ∷ q 15 0 0 0 0 0 ∷ []

pub interrupt_read_needed : StepsMoveIf (quiet_but no_interrupt_read) access → ⊥
unfolding bench fresh_card access sound read_dword write_dword
interrupt_read_needed = refuted access action_of (λ r. r.v) (quiet_but no_interrupt_read) interrupt_read refl refl

-- a write that clears the event before it is raised, seen by a later read
abbrev interrupt_write : List Access
interrupt_write = q 14 0 0 0 0 4 ∷ q 12 0 0 0 0x200 0 ∷ q 15 0 0 0 0 0 ∷ q 11 0 0 0 0 0 ∷ []

pub interrupt_write_needed : StepsMoveIf (quiet_but no_interrupt_write) access → ⊥
unfolding bench fresh_card access sound read_dword write_dword
interrupt_write_needed = refuted access action_of (λ r. r.v) (quiet_but no_interrupt_write) interrupt_write refl refl

-- the line asked for before the step that aborts, its event enabled
abbrev line_asked : List Access
line_asked = q 12 0 0 0 0x02000000 0 ∷ q 14 0 0 0 0 4 ∷ q 13 0 0 0 0 0 ∷ q 15 0 0 0 0 0 ∷ []

pub line_asked_needed : StepsMoveIf (quiet_but no_line) access → ⊥
unfolding bench fresh_card access sound read_dword write_dword
line_asked_needed = refuted access action_of (λ r. r.v) (quiet_but no_line) line_asked refl refl

-- a byte of the source stored before the step that copies it, seen in the destination later
abbrev source_written : List Access
source_written = q 14 0 0 0 0x10000000 4 ∷ q 4 0 14 0x10000000 0x55 0 ∷ q 15 0 0 0 0 0 ∷ q 1 0 0 0 0 0 ∷ []

pub source_written_needed : StepsMoveIf (quiet_but source_unwritten) access → ⊥
unfolding bench fresh_card access sound read_dword write_dword
source_written_needed = refuted access action_of (λ r. r.v) (quiet_but source_unwritten) source_written refl refl

-- a byte of the destination stored before the step that copies over it
abbrev destination_written : List Access
destination_written = q 14 0 0 0 0x10000000 4 ∷ q 2 0 14 0 0x55 0 ∷ q 15 0 0 0 0 0 ∷ q 1 0 0 0 0 0 ∷ []

pub destination_written_needed : StepsMoveIf (quiet_but destination_unwritten) access → ⊥
unfolding bench fresh_card access sound read_dword write_dword
destination_written_needed = refuted access action_of (λ r. r.v) (quiet_but destination_unwritten) destination_written refl refl

-- a byte of the destination read before the step that stores it
abbrev destination_read : List Access
destination_read = q 4 0 0 0x10000000 0x66 0 ∷ q 14 0 0 0 0x10000000 4 ∷ q 1 0 14 0 0 0 ∷ q 15 0 0 0 0 0 ∷ []

pub destination_read_needed : StepsMoveIf (quiet_but destination_unread) access → ⊥
unfolding bench fresh_card access sound read_dword write_dword
destination_read_needed = refuted access action_of (λ r. r.v) (quiet_but destination_unread) destination_read refl refl

-- CALLS

abbrev note_v : Reply → ℕ
note_v r = r.told.answer.v

-- a write of DMACTL that is refused because the transfer runs would be done after it
abbrev control_write : List Call
control_write = g 0 0x04B4 1 0x10000000 ∷ g 0 0x04B8 1 4 ∷ g 0 0x04BC 1 0 ∷ g 0 0x04BC 1 0 ∷ d 15 0 0 0 0 0 ∷ []

pub control_write_needed : CallsMoveIf (quiet_call_but no_start) → ⊥
unfolding bench fresh_card access register_access sound read_dword write_dword
control_write_needed = refuted noted noted_action note_v (quiet_call_but no_start) control_write refl refl

-- a read of the other side's interrupt register before the step that aborts: no kind 11
abbrev other_register_read : List Call
other_register_read = g 0 0x04B8 1 4 ∷ g 0 0x04BC 1 0 ∷ g 1 0x04E4 0 0 ∷ d 15 0 0 0 0 0 ∷ []

pub other_register_read_needed : CallsMoveIf (quiet_call_but no_interrupt_read) → ⊥
unfolding bench fresh_card access register_access sound read_dword write_dword
other_register_read_needed = refuted noted noted_action note_v (quiet_call_but no_interrupt_read) other_register_read refl refl

-- a write to shared memory by its offset, before the step that copies it
abbrev source_written_by_offset : List Call
source_written_by_offset = g 0 0x04B4 1 0x10000000 ∷ g 0 0x04B8 1 4 ∷ g 0 0x04BC 1 1 ∷ g 1 0x4000 1 0x55 ∷ d 15 0 0 0 0 0 ∷ d 3 0 0 0x10000000 0 0 ∷ []

pub source_written_by_offset_needed : CallsMoveIf (quiet_call_but source_unwritten) → ⊥
unfolding bench fresh_card access register_access sound read_dword write_dword
source_written_by_offset_needed = refuted noted noted_action note_v (quiet_call_but source_unwritten) source_written_by_offset refl refl

-- an interrupt register written by its offset, before the event is raised that it would clear
abbrev register_written : List Call
register_written = g 0 0x04B8 1 4 ∷ g 0 0x04BC 1 0 ∷ g 0 0x04E4 1 0x200 ∷ d 15 0 0 0 0 0 ∷ g 0 0x04E4 0 0 ∷ []

pub register_written_needed : CallsMoveIf (quiet_call_but no_interrupt_write) → ⊥
unfolding bench fresh_card access register_access sound read_dword write_dword
register_written_needed = refuted noted noted_action note_v (quiet_call_but no_interrupt_write) register_written refl refl

-- BURSTS

-- as if a burst stopped by 13 counted as no access
abbrev quiet_unless_stopped : Request → Entry Call Reply → Bool
quiet_unless_stopped t e = eqb e.answer.told.answer.number 13 || quiet_call t e

-- its one phase done stores the source before the step that copies it
abbrev source_written_and_stopped : List Call
source_written_and_stopped = d 14 0 1 16380 0x10000000 4 ∷ bw 1 3 4095 (p 0 0x55 ∷ p 0 0x66 ∷ []) ∷ d 15 0 0 0 0 0 ∷ d 3 0 0 0x10000000 0 0 ∷ []

pub overrun_counts_needed : CallsMoveIf quiet_unless_stopped → ⊥
unfolding bench fresh_card access burst decode sound read_dword write_dword
overrun_counts_needed = refuted noted noted_action note_v quiet_unless_stopped source_written_and_stopped refl refl

-- a burst that reads the destination before the step that stores it has the same number, V and X; the list tells
abbrev first_listed : Reply → ℕ
first_listed r = get_or r.told.list 0 0

abbrev destination_listed : List Call
destination_listed = d 4 0 0 0x10000000 0x66 0 ∷ d 14 0 0 0 0x10000000 4 ∷ br 1 0 0 (p 0 0 ∷ []) (0 ∷ []) ∷ d 15 0 0 0 0 0 ∷ []

pub destination_listed_needed : CallsMoveIf (quiet_call_but destination_unread) → ⊥
unfolding bench fresh_card access burst decode sound read_dword write_dword
destination_listed_needed = refuted noted noted_action first_listed (quiet_call_but destination_unread) destination_listed refl refl
