-- Facts of the kinds: which of them are plain, and what their rows look at.
use Rattle.std.specs.Prelude.{◌≡◌, refl, ◌≢◌, Bool, true, false, List, [], ◌∷◌, ℕ, ◌-◌, length, ltb, if◌then◌else◌}
use Rattle.model.specs.Lanes.{read_dword}
use Rattle.model.specs.Sides.{Side, host, local, side_of, other}
use Rattle.model.specs.Events.{mailbox, bit}
use Rattle.model.specs.Fifos.{entries_of}
use Rattle.model.specs.Arbitration.{Pair, pair_of}
use Rattle.model.specs.State.{World}
use Rattle.model.specs.Changes.{raised, apply_all, Store, nothing, to_shared, to_window, Effect}
use Rattle.model.specs.FifosAndFlags.{taken_from, put_into, claimed}
use Rattle.model.specs.Accesses.{Access, Kind, row_of}
use Rattle.model.proofs.TestLaws.{if_case}
use Rattle.model.specs.Choice.{All}
use Rattle.reordering.proofs.Commute.{Plain, keep_transfer, Like}

-- the eleven plain kinds: no reset, no interrupt register, no line, no start, no step
abbrev pub PlainKind : Kind → Type 0
PlainKind Kind.reset = ⊥
PlainKind Kind.shared_read = Unit {0}
PlainKind Kind.shared_write = Unit {0}
PlainKind Kind.window_read = Unit {0}
PlainKind Kind.window_write = Unit {0}
PlainKind Kind.take = Unit {0}
PlainKind Kind.put = Unit {0}
PlainKind Kind.claim = Unit {0}
PlainKind Kind.release = Unit {0}
PlainKind Kind.mailbox_write = Unit {0}
PlainKind Kind.mailbox_read = Unit {0}
PlainKind Kind.interrupt_read = ⊥
PlainKind Kind.interrupt_write = ⊥
PlainKind Kind.line = ⊥
PlainKind Kind.start = ⊥
PlainKind Kind.step = ⊥
PlainKind Kind.external_pin = Unit {0}
PlainKind Kind.unknown = ⊥

-- a plain kind's changes are plain, and it stores nothing but what kinds 2 and 4 store
module _ (R : Store → Type 0) (none : R nothing) where
  abbrev Plainly : Effect → Type 0
  Plainly e = All Plain e.changes × R e.store

  taken_plain : (i : ℕ) (l : List ℕ) → Plainly (taken_from i l)
  taken_plain i [] = (tt, none)
  taken_plain i (e ∷ l) = ((tt, tt), none)

  put_plain : (side : Side) (i : ℕ) (l : List ℕ) (entry : ℕ) → Plainly (put_into side i l entry)
  put_plain side i l entry = if_case Plainly (ltb (length l) 32) _ _ (λ _. ((tt, tt), none)) (λ _. ((tt, (tt, tt)), none))

  claim_plain : (side : Side) (i : ℕ) (f : Pair) → Plainly (claimed side i f)
  claim_plain host i f = if_case Plainly f.of_local _ _ (λ _. (tt, none)) (λ _. ((tt, tt), none))
  claim_plain local i f = if_case Plainly f.of_host _ _ (λ _. (tt, none)) (λ _. ((tt, tt), none))

  mail_plain : (side : Side) (b : Bool) → All Plain (if b then raised (other side) mailbox ∷ [] else [])
  mail_plain side true = (tt, tt)
  mail_plain side false = tt

  pub plain_effect : (k : Kind) → PlainKind k → (w : World) (q : Access) →
      (k ≡ Kind.shared_write → R (to_shared q.a q.s q.b)) → (k ≡ Kind.window_write → R (to_window (q.a - w.card.settings.base) q.s q.b)) →
      Plainly (row_of k w q).effect
  plain_effect Kind.reset p w q s t = elim p [ ]
  plain_effect Kind.shared_read p w q s t = (tt, none)
  plain_effect Kind.shared_write p w q s t = (tt, s refl)
  plain_effect Kind.window_read p w q s t = (tt, none)
  plain_effect Kind.window_write p w q s t = (tt, t refl)
  plain_effect Kind.take p w q s t = taken_plain q.s (entries_of w.card.fifos q.s)
  plain_effect Kind.put p w q s t = put_plain (side_of q.side) q.s (entries_of w.card.fifos q.s) q.b
  plain_effect Kind.claim p w q s t = claim_plain (side_of q.side) q.s (pair_of w.card.arbitration q.s)
  plain_effect Kind.release p w q s t = ((tt, tt), none)
  plain_effect Kind.mailbox_write p w q s t = ((tt, mail_plain (side_of q.side) (bit 24 q.b)), none)
  plain_effect Kind.mailbox_read p w q s t = (tt, none)
  plain_effect Kind.interrupt_read p w q s t = elim p [ ]
  plain_effect Kind.interrupt_write p w q s t = elim p [ ]
  plain_effect Kind.line p w q s t = elim p [ ]
  plain_effect Kind.start p w q s t = elim p [ ]
  plain_effect Kind.step p w q s t = elim p [ ]
  plain_effect Kind.external_pin p w q s t = ((tt, tt), none)
  plain_effect Kind.unknown p w q s t = elim p [ ]

pub plain_changes : (k : Kind) → PlainKind k → (w : World) (q : Access) → All Plain (row_of k w q).effect.changes
plain_changes k p w q = (plain_effect (λ _. Unit {0}) tt k p w q (λ _. tt) (λ _. tt)).0

-- and leave the transfer as it is
pub plain_transfer : (k : Kind) → PlainKind k → (w : World) (q : Access) → (apply_all (row_of k w q).effect.changes w.card).transfer ≡ w.card.transfer
plain_transfer k p w q = keep_transfer (row_of k w q).effect.changes (plain_changes k p w q) w.card

-- the checks of every kind but start and step look only at the access and the settings
abbrev pub Fixed : Kind → Type 0
Fixed k = (k ≢ Kind.start) × (k ≢ Kind.step)

pub same_checks : (k : Kind) → Fixed k → (w w' : World) (q : Access) → Like w.card w'.card → (row_of k w' q).checks ≡ (row_of k w q).checks
same_checks Kind.reset f w w' q l = refl
same_checks Kind.shared_read f w w' q l = refl
same_checks Kind.shared_write f w w' q l = refl
same_checks Kind.window_read f w w' q l = rw l.settings
same_checks Kind.window_write f w w' q l = rw l.settings
same_checks Kind.take f w w' q l = refl
same_checks Kind.put f w w' q l = refl
same_checks Kind.claim f w w' q l = refl
same_checks Kind.release f w w' q l = refl
same_checks Kind.mailbox_write f w w' q l = refl
same_checks Kind.mailbox_read f w w' q l = refl
same_checks Kind.interrupt_read f w w' q l = refl
same_checks Kind.interrupt_write f w w' q l = refl
same_checks Kind.line f w w' q l = refl
same_checks Kind.start f w w' q l = absurd (f.0 refl)
same_checks Kind.step f w w' q l = absurd (f.1 refl)
same_checks Kind.external_pin f w w' q l = refl
same_checks Kind.unknown f w w' q l = refl

-- a plain kind does the same where it finds the same
pub same_effect : (k : Kind) → PlainKind k → (w w' : World) (q : Access) → Like w.card w'.card →
    (k ≡ Kind.shared_read → read_dword w'.shared q.a q.s ≡ read_dword w.shared q.a q.s) →
    (k ≡ Kind.window_read → read_dword w'.window (q.a - w.card.settings.base) q.s ≡ read_dword w.window (q.a - w.card.settings.base) q.s) →
    (row_of k w' q).effect ≡ (row_of k w q).effect
same_effect Kind.reset p w w' q l s t = elim p [ ]
same_effect Kind.shared_read p w w' q l s t = rw (s refl)
same_effect Kind.shared_write p w w' q l s t = refl
same_effect Kind.window_read p w w' q l s t = rw (l.settings, t refl)
same_effect Kind.window_write p w w' q l s t = rw l.settings
same_effect Kind.take p w w' q l s t = rw l.fifos
same_effect Kind.put p w w' q l s t = rw l.fifos
same_effect Kind.claim p w w' q l s t = rw l.arbitration
same_effect Kind.release p w w' q l s t = refl
same_effect Kind.mailbox_write p w w' q l s t = refl
same_effect Kind.mailbox_read p w w' q l s t = rw l.mailboxes
same_effect Kind.interrupt_read p w w' q l s t = elim p [ ]
same_effect Kind.interrupt_write p w w' q l s t = elim p [ ]
same_effect Kind.line p w w' q l s t = elim p [ ]
same_effect Kind.start p w w' q l s t = elim p [ ]
same_effect Kind.step p w w' q l s t = elim p [ ]
same_effect Kind.external_pin p w w' q l s t = refl
same_effect Kind.unknown p w w' q l s t = elim p [ ]

-- a kind that is plain is none of the two whose checks look at the transfer
pub plain_fixed : (k : Kind) → PlainKind k → Fixed k
plain_fixed k p = (λ e. rw e at p, λ e. rw e at p)
