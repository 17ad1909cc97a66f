-- Document 01, "Accesses": the seventeen kinds, row by row, and what an access gives.
use Rattle.std.specs.Prelude.{Bool, false, not, ◌&&◌, ◌||◌, List, [], ◌∷◌, ℕ, zero, suc, ◌-◌, ◌/◌, ◌<◌, get_or, if◌then◌else◌}
use Rattle.model.specs.Checks.{Check, ◌for◌, refusal, nonzero, above, misplaced, shared_length}
use Rattle.model.specs.Lanes.{read_dword}
use Rattle.model.specs.Sides.{Side, host, local, side_of, not_by}
use Rattle.model.specs.Events.{external}
use Rattle.model.specs.Settings.{lengths_fit, outside_window}
use Rattle.model.specs.Fifos.{entries_of, putter, taker}
use Rattle.model.specs.Arbitration.{pair_of}
use Rattle.model.specs.Mailboxes.{mail_for, label_for}
use Rattle.model.specs.Transfer.{running, is_idle, request_of, direction_check, request_checks}
use Rattle.model.specs.State.{World, sound}
use Rattle.model.specs.Changes.{all_fresh, flag_is, raised, transfer_is, to_shared, to_window, Effect, done, ◌storing◌, world_after}
use Rattle.model.specs.FifosAndFlags.{taken_from, put_into, claimed}
use Rattle.model.specs.MailboxWrites.{mail_written}
use Rattle.model.specs.InterruptRegisters.{register_read, register_written, line_active}
use Rattle.model.specs.Steps.{stepped}
use Rattle.model.specs.Runs.{Outcome}

-- "Kind, side and selector S are bytes; A, B, C, V and X are 32-bit numbers."
pub record Access : Type 0 where
  pub kind : ℕ
  pub side : ℕ
  pub s : ℕ
  pub a : ℕ
  pub b : ℕ
  pub c : ℕ

-- an access whose numbers have those widths
pub record Fits (q : Access) : Type 0 where
  pub kind : q.kind < 256
  pub side : q.side < 256
  pub s : q.s < 256
  pub a : q.a < 4294967296
  pub b : q.b < 4294967296
  pub c : q.c < 4294967296

-- "Every access answers a number and two values, V and X. 0 is done."
pub record Answer : Type 0 where
  pub number : ℕ
  pub v : ℕ
  pub x : ℕ

pub data Kind : Type 0 where
  reset shared_read shared_write window_read window_write take put claim release : Kind
  mailbox_write mailbox_read interrupt_read interrupt_write line start step external_pin unknown : Kind

-- kinds 0 to 16, in their order
abbrev pub kinds : List Kind
kinds =
    (reset ∷ shared_read ∷ shared_write ∷ window_read ∷ window_write
    ∷ take ∷ put ∷ claim ∷ release ∷ mailbox_write ∷ mailbox_read
    ∷ interrupt_read ∷ interrupt_write ∷ line ∷ start ∷ step ∷ external_pin ∷ [])

abbrev pub kind_of : ℕ → Kind
kind_of n = get_or kinds n unknown

-- the list of kinds, read the other way; 17 is no kind's
abbrev pub number_of : Kind → ℕ
number_of reset = 0
number_of shared_read = 1
number_of shared_write = 2
number_of window_read = 3
number_of window_write = 4
number_of take = 5
number_of put = 6
number_of claim = 7
number_of release = 8
number_of mailbox_write = 9
number_of mailbox_read = 10
number_of interrupt_read = 11
number_of interrupt_write = 12
number_of line = 13
number_of start = 14
number_of step = 15
number_of external_pin = 16
number_of unknown = 17

-- THE TABLE

infix 3 ◌⇒◌
-- a kind's checks, in their order, and what it does if no cause holds
pub record Row : Type 0 where
  pub checks : List Check
  pub effect : Effect

abbrev pub ◌⇒◌ : List Check → Effect → Row
◌⇒◌ checks effect = record { checks = checks; effect = effect }

-- `w` is the card with both memories, `side` the caller; `s`, `a`, `b` and `c` are the access's fields.
-- "Where V or X is not named it is 0." A row reads: refused with 3 for this cause, else with 4 for that one, ..; else done, with V, X, the changes, and a dword stored.
abbrev pub row : Kind → World → Side → (s a b c : ℕ) → Row
-- 0 reset | none | registers as fresh; settings and memories stay
row reset w side s a b c =
    3 for nonzero (s ∷ a ∷ b ∷ c ∷ []) ∷ [] ⇒ done 0 0 (all_fresh ∷ [])
-- 1 shared read | S lanes, A address | V the dword, disabled lanes 0
row shared_read w side s a b c =
    3 for nonzero (b ∷ c ∷ [])
    ∷ 4 for above 15 s
    ∷ 9 for misplaced a 4 0 shared_length ∷ []
    ⇒ done (read_dword w.shared a s) 0 []
-- 2 shared write | S lanes, A, B dword | enabled lanes stored
row shared_write w side s a b c =
    3 for nonzero (c ∷ [])
    ∷ 4 for above 15 s
    ∷ 9 for misplaced a 4 0 shared_length ∷ []
    ⇒ done 0 0 [] storing to_shared a s b
-- 3 window read | as 1; A a PCI address | host only
row window_read w side s a b c =
    3 for nonzero (b ∷ c ∷ [])
    ∷ 4 for above 15 s
    ∷ 5 for not_by host side
    ∷ 9 for outside_window w.card.settings a 4 ∷ []
    ⇒ done (read_dword w.window (a - w.card.settings.base) s) 0 []
-- 4 window write | as 2; A a PCI address | host only
row window_write w side s a b c =
    3 for nonzero (c ∷ [])
    ∷ 4 for above 15 s
    ∷ 5 for not_by host side
    ∷ 9 for outside_window w.card.settings a 4 ∷ []
    ⇒ done 0 0 [] storing to_window (a - w.card.settings.base) s b
-- 5 take | S FIFO | V entry, X entries held before it (L2); if empty V 4,294,967,295, X 0
row take w side s a b c =
    3 for nonzero (a ∷ b ∷ c ∷ [])
    ∷ 4 for above 3 s
    ∷ 5 for not_by (taker s) side ∷ []
    ⇒ taken_from s (entries_of w.card.fifos s)
-- 6 put | S FIFO, B entry | V entries held after it (L2), X 1 held; V 32 (L2), X 0 lost to overflow
row put w side s a b c =
    3 for nonzero (a ∷ c ∷ [])
    ∷ 4 for above 3 s
    ∷ 5 for not_by (putter s) side ∷ []
    ⇒ put_into side s (entries_of w.card.fifos s) b
-- 7 claim | S pair | V 1 if caller's flag is now set, else 0
row claim w side s a b c =
    3 for nonzero (a ∷ b ∷ c ∷ [])
    ∷ 4 for above 3 s ∷ []
    ⇒ claimed side s (pair_of w.card.arbitration s)
-- 8 release | S pair | caller's flag clear
row release w side s a b c =
    3 for nonzero (a ∷ b ∷ c ∷ [])
    ∷ 4 for above 3 s ∷ []
    ⇒ done 0 0 (flag_is side s false ∷ [])
-- 9 mailbox write | B | see Mailboxes
row mailbox_write w side s a b c =
    3 for nonzero (s ∷ a ∷ c ∷ []) ∷ [] ⇒ mail_written side b
-- 10 mailbox read | none | V data, X bay label
row mailbox_read w side s a b c =
    3 for nonzero (s ∷ a ∷ b ∷ c ∷ []) ∷ [] ⇒ done (mail_for side w.card.mailboxes) (label_for side w.card.mailboxes) []
-- 11 interrupt read | none | V the caller's own register
row interrupt_read w side s a b c =
    3 for nonzero (s ∷ a ∷ b ∷ c ∷ []) ∷ [] ⇒ done (register_read side w.card) 0 []
-- 12 interrupt write | B | to the caller's own register
row interrupt_write w side s a b c =
    3 for nonzero (s ∷ a ∷ c ∷ []) ∷ [] ⇒ register_written side b
-- 13 line | none | V 1 active, else 0: the caller's own line
row line w side s a b c =
    3 for nonzero (s ∷ a ∷ b ∷ c ∷ []) ∷ [] ⇒ done (if line_active side w.card then 1 else 0) 0 []
-- 14 start | S direction, A shared, B PCI address, C size | V = size / 4. "The window is not consulted at a start."
row start w side s a b c =
    direction_check (request_of s a b c)
    ∷ 6 for not (is_idle w.card.transfer)
    ∷ request_checks (request_of s a b c)
    ⇒ done (c / 4) 0 (transfer_is (running (request_of s a b c) 0) ∷ [])
-- 15 step | none | V outcome, X dwords moved
row step w side s a b c =
    3 for nonzero (s ∷ a ∷ b ∷ c ∷ [])
    ∷ 10 for is_idle w.card.transfer ∷ []
    ⇒ stepped w w.card.transfer
-- 16 external pin | none | local only; raises host event 4
row external_pin w side s a b c =
    3 for nonzero (s ∷ a ∷ b ∷ c ∷ [])
    ∷ 5 for not_by local side ∷ []
    ⇒ done 0 0 (raised host external ∷ [])
-- no kind: refused with 2 before its row is read
row unknown w side s a b c = [] ⇒ done 0 0 []

abbrev pub row_of : Kind → World → Access → Row
row_of kind w q = row kind w (side_of q.side) q.s q.a q.b q.c

-- AN ACCESS

-- the contrary of cause 1: "record not sound, shared memory not 16,384 bytes, or window not of the set length"
abbrev pub fit : World → Bool
fit w = sound w.card && lengths_fit w.card.settings w.shared w.window

-- causes 1 and 2 stand before those of the kind
abbrev pub checks : World → Access → List Check
checks w q =
    1 for not (fit w)
    ∷ 2 for (above 16 q.kind || above 1 q.side)
    ∷ (row_of (kind_of q.kind) w q).checks

-- "0 is done. Any other is a refusal: V and X are 0, and record and memories are unchanged."
abbrev pub settled : (number : ℕ) → Effect → World → Outcome Answer World
settled zero e w = record { answer = record { number = 0; v = e.v; x = e.x }; world = world_after e w }
settled (suc n) e w = record { answer = record { number = suc n; v = 0; x = 0 }; world = w }

unfoldable pub access : World → Access → Outcome Answer World
access w q = settled (refusal (checks w q)) (row_of (kind_of q.kind) w q).effect w

-- what one kind does, its own checks first
unfoldable pub does : Kind → World → Access → Outcome Answer World
does kind w q = settled (refusal (row_of kind w q).checks) (row_of kind w q).effect w
