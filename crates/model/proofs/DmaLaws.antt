-- "Those values are part of the record and survive a finished transfer, but not a reset; a kind 14 given directly neither uses nor changes them":
-- no access of document 01 looks at the DMA registers, and none but a done reset changes them. By its row and its changes, kind by kind.
use Rattle.std.specs.Prelude.{◌≡◌, refl, ◌≢◌, Bool, true, false, not, ◌||◌, List, [], ◌∷◌, ℕ, zero, suc, ◌+◌, ◌-◌, ◌*◌, ◌/◌, length, eqb, ltb, if◌then◌else◌}
use Rattle.std.proofs.Common.{ap, sym, ◌∙◌}
use Rattle.model.specs.Checks.{◌for◌, refusal, above}
use Rattle.model.specs.Sides.{Side, side_of, other}
use Rattle.model.specs.Events.{mailbox, bit}
use Rattle.model.specs.Settings.{in_abort_range, outside_window}
use Rattle.model.specs.Fifos.{entries_of}
use Rattle.model.specs.Arbitration.{Pair, pair_of, flag}
use Rattle.model.specs.Transfer.{Transfer, idle, running, pci_of}
use Rattle.model.specs.Dma.{Dma, fresh_dma}
use Rattle.model.specs.State.{State, World, sound, with_dma}
use Rattle.model.specs.Changes.{Change, all_fresh, pushed, popped, flag_is, mail_is, raised, cleared, enables_are, transfer_is, dma_is, apply, apply_all, Effect}
use Rattle.model.specs.FifosAndFlags.{taken_from, put_into, claimed}
use Rattle.model.specs.Steps.{copy, stepped}
use Rattle.model.specs.Accesses.{Access, Kind, Row, kind_of, row, row_of, fit, checks, settled, access}
use Rattle.model.proofs.TestLaws.{if_case}
use Rattle.model.specs.Choice.{All}
use Rattle.model.proofs.Refusals.{number_is, done_is}

-- the changes that leave them
abbrev Leaves : Change → Type 0
Leaves all_fresh = ⊥
Leaves (pushed i entry) = Unit {0}
Leaves (popped i) = Unit {0}
Leaves (flag_is side i b) = Unit {0}
Leaves (mail_is side d) = Unit {0}
Leaves (raised side e) = Unit {0}
Leaves (cleared side bits) = Unit {0}
Leaves (enables_are side n) = Unit {0}
Leaves (transfer_is t) = Unit {0}
Leaves (dma_is r) = ⊥

module _ (d : Dma) where
  -- with other values in them, such a change does the same
  one_apart : (c : Change) → Leaves c → (s : State) → apply c (with_dma d s) ≡ with_dma d (apply c s)
  one_apart all_fresh h s = elim h [ ]
  one_apart (pushed i entry) h s = refl
  one_apart (popped i) h s = refl
  one_apart (flag_is side i b) h s = refl
  one_apart (mail_is side n) h s = refl
  one_apart (raised side e) h s = refl
  one_apart (cleared side bits) h s = refl
  one_apart (enables_are side n) h s = refl
  one_apart (transfer_is t) h s = refl
  one_apart (dma_is _) h s = elim h [ ]

  all_apart : (cs : List Change) → All Leaves cs → (s : State) → apply_all cs (with_dma d s) ≡ with_dma d (apply_all cs s)
  all_apart [] h s = refl
  all_apart (c ∷ cs) h s = ap (apply_all cs) (one_apart c h.0 s) ∙ all_apart cs h.1 (apply c s)

-- EACH KIND

taken_leaves : (i : ℕ) (l : List ℕ) → All Leaves (taken_from i l).changes
taken_leaves i [] = tt
taken_leaves i (e ∷ l) = (tt, tt)

put_leaves : (side : Side) (i : ℕ) (l : List ℕ) (entry : ℕ) → All Leaves (put_into side i l entry).changes
put_leaves side i l entry = if_case (λ (e : Effect). All Leaves e.changes) (ltb (length l) 32) _ _ (λ _. (tt, tt)) (λ _. (tt, (tt, tt)))

claim_leaves : (side : Side) (i : ℕ) (p : Pair) → All Leaves (claimed side i p).changes
claim_leaves side i p = if_case (λ (e : Effect). All Leaves e.changes) (flag (other side) p) _ _ (λ _. tt) (λ _. (tt, tt))

mail_leaves : (side : Side) (b : Bool) → All Leaves (if b then raised (other side) mailbox ∷ [] else [])
mail_leaves side true = (tt, tt)
mail_leaves side false = tt

step_leaves : (w : World) (t : Transfer) → All Leaves (stepped w t).changes
step_leaves w idle = tt
step_leaves w (running t i) =
    let P : Effect → Type 0 = λ e. All Leaves e.changes in
    if_case P (in_abort_range w.card.settings (pci_of t i)) _ _ (λ _. (tt, (tt, (tt, tt))))
    (λ _. if_case P (outside_window w.card.settings (pci_of t i) 4) _ _ (λ _. (tt, (tt, (tt, tt))))
    (λ _. if_case P (eqb (suc i) (t.size / 4)) _ _ (λ _. (tt, (tt, (tt, tt)))) (λ _. (tt, tt))))

kind_leaves : (k : Kind) → k ≢ Kind.reset → (w : World) (side : Side) (s a b c : ℕ) → All Leaves (row k w side s a b c).effect.changes
kind_leaves Kind.reset n w side s a b c = absurd (n refl)
kind_leaves Kind.shared_read n w side s a b c = tt
kind_leaves Kind.shared_write n w side s a b c = tt
kind_leaves Kind.window_read n w side s a b c = tt
kind_leaves Kind.window_write n w side s a b c = tt
kind_leaves Kind.take n w side s a b c = taken_leaves s (entries_of w.card.fifos s)
kind_leaves Kind.put n w side s a b c = put_leaves side s (entries_of w.card.fifos s) b
kind_leaves Kind.claim n w side s a b c = claim_leaves side s (pair_of w.card.arbitration s)
kind_leaves Kind.release n w side s a b c = (tt, tt)
kind_leaves Kind.mailbox_write n w side s a b c = (tt, mail_leaves side (bit 24 b))
kind_leaves Kind.mailbox_read n w side s a b c = tt
kind_leaves Kind.interrupt_read n w side s a b c = tt
kind_leaves Kind.interrupt_write n w side s a b c = (tt, (tt, tt))
kind_leaves Kind.line n w side s a b c = tt
kind_leaves Kind.start n w side s a b c = (tt, tt)
kind_leaves Kind.step n w side s a b c = step_leaves w w.card.transfer
kind_leaves Kind.external_pin n w side s a b c = (tt, tt)
kind_leaves Kind.unknown n w side s a b c = tt

-- the same card and memories with other values in the DMA registers
abbrev pub holding : Dma → World → World
holding d w = record { card = with_dma d w.card; shared = w.shared; window = w.window }

same_copy : (d : Dma) (w : World) (direction x y : ℕ) → copy (holding d w) direction x y ≡ copy w direction x y
same_copy d w zero x y = refl
same_copy d w (suc n) x y = refl

same_step : (d : Dma) (w : World) (t : Transfer) → stepped (holding d w) t ≡ stepped w t
same_step d w idle = refl
same_step d w (running t i) = rw (same_copy d w t.direction (t.shared + 4 * i) (pci_of t i - w.card.settings.base))

same_row : (d : Dma) (k : Kind) (w : World) (side : Side) (s a b c : ℕ) → row k (holding d w) side s a b c ≡ row k w side s a b c
same_row d Kind.reset w side s a b c = refl
same_row d Kind.shared_read w side s a b c = refl
same_row d Kind.shared_write w side s a b c = refl
same_row d Kind.window_read w side s a b c = refl
same_row d Kind.window_write w side s a b c = refl
same_row d Kind.take w side s a b c = refl
same_row d Kind.put w side s a b c = refl
same_row d Kind.claim w side s a b c = refl
same_row d Kind.release w side s a b c = refl
same_row d Kind.mailbox_write w side s a b c = refl
same_row d Kind.mailbox_read w side s a b c = refl
same_row d Kind.interrupt_read w side s a b c = refl
same_row d Kind.interrupt_write w side s a b c = refl
same_row d Kind.line w side s a b c = refl
same_row d Kind.start w side s a b c = refl
same_row d Kind.step w side s a b c = rw (same_step d w w.card.transfer)
same_row d Kind.external_pin w side s a b c = refl
same_row d Kind.unknown w side s a b c = refl

settled_apart : (d : Dma) (w : World) (n : ℕ) (e : Effect) → All Leaves e.changes → settled n e (holding d w) ≡ record { answer = (settled n e w).answer; world = holding d (settled n e w).world }
settled_apart d w zero e h = rw (all_apart d e.changes h w.card)
settled_apart d w (suc n) e h = refl

-- THE LAW: whatever values they hold, an access that is no reset answers the same, changes the same, and leaves them
pub dma_apart : (d : Dma) (w : World) (q : Access) → kind_of q.kind ≢ Kind.reset →
    access (holding d w) q ≡ record { answer = (access w q).answer; world = holding d (access w q).world }
unfolding access sound
dma_apart d w q n =
    let k = kind_of q.kind in
    let side = side_of q.side in
    ap (λ (r : Row). settled (refusal ((1 for not (fit w)) ∷ (2 for (above 16 q.kind || above 1 q.side)) ∷ r.checks)) r.effect (holding d w)) (same_row d k w side q.s q.a q.b q.c)
    ∙ settled_apart d w (refusal (checks w q)) (row_of k w q).effect (kind_leaves k n w side q.s q.a q.b q.c)

-- "not a reset"
pub dma_reset : (w : World) (q : Access) → kind_of q.kind ≡ Kind.reset → (access w q).answer.number ≡ 0 → (access w q).world.card.dma ≡ fresh_dma
dma_reset w q k h = rw (done_is w q (sym (number_is w q) ∙ h), k)
