-- What a step looks at and what it changes; and the first law of rule 3: an access leaves open the transfer that its action says.
use Rattle.std.specs.Prelude.{◌≡◌, refl, ◌≢◌, Bool, true, false, ◌||◌, List, [], ◌∷◌, ℕ, zero, suc, ◌+◌, ◌-◌, ◌*◌, ◌/◌, ◌≤◌, eqb, if◌then◌else◌}
use Rattle.std.proofs.Common.{sym, ap, ◌∙◌, arith, ltb-false, le-leb, lt-ltb, eq-eqb}
use Rattle.std.proofs.Math.Dec.{eqb-suc-zero}
use Rattle.std.proofs.lemmas.Bool.{not-false}
use Rattle.model.specs.Checks.{refusal}
use Rattle.model.specs.Lanes.{read_dword}
use Rattle.model.specs.Events.{dma_complete, target_abort, master_abort}
use Rattle.model.specs.Settings.{Settings, in_abort_range, outside_window}
use Rattle.model.specs.Transfer.{Request, Transfer, idle, running, transfer_sound, pci_of, is_idle}
use Rattle.model.specs.State.{World}
use Rattle.model.specs.Changes.{Store, nothing, to_shared, to_window, Effect, done, ◌storing◌, transfer_is, apply_all, raised_in_both}
use Rattle.model.specs.Steps.{copy, copy_of, stepped}
use Rattle.model.specs.Runs.{Outcome, Entry, entry_at}
use Rattle.model.specs.Accesses.{Access, Kind, kind_of, row_of, checks, settled, access}
use Rattle.model.proofs.TestLaws.{no_both, and-true, if_case}
use Rattle.model.specs.Choice.{All}
use Rattle.model.proofs.CheckLaws.{Pass}
use Rattle.model.proofs.CauseLaws.{placed}
use Rattle.model.proofs.LaneLaws.{Covers, covers_from, covers_below}
use Rattle.model.proofs.Refusals.{checks_passed}
use Rattle.model.proofs.Soundness.{sound_transfer}
use Rattle.reordering.specs.Roles.{TransferAction, resets, starts, steps, none, open_after}
use Rattle.reordering.specs.Reordering.{shared_byte, pci_byte, in_range, in_destination, quiet, done_action, action_of}
use Rattle.reordering.proofs.Moving.{Follows}
use Rattle.reordering.proofs.Commute.{Stepwise, Misses, Hits}
use Rattle.reordering.proofs.PlainKinds.{plain_transfer}

-- the transfer that runs, if one does
abbrev pub open_in : Transfer → List Request
open_in idle = []
open_in (running t moved) = t ∷ []

abbrev pub opened : World → List Request
opened w = open_in w.card.transfer

pub if_same : {A : Type 0} (b : Bool) (x y x' y' : A) → (b ≡ true → x ≡ x') → (b ≡ false → y ≡ y') → (if b then x else y) ≡ (if b then x' else y')
if_same true x y x' y' f g = f refl
if_same false x y x' y' f g = g refl

-- an address in the window is not below its base
pub from_base : (s : Settings) (at : ℕ) → outside_window s at 4 ≡ false → s.base ≤ at
from_base s at h = (placed at 4 s.base (s.base + s.length) h).low

module _ (w : World) (t : Request) (i : ℕ) where
  abbrev at : ℕ
  at = pci_of t i

  abbrev offset : ℕ
  offset = pci_of t i - w.card.settings.base

  -- the dword is copied: no abort
  abbrev pub Copies : Type 0
  Copies = (in_abort_range w.card.settings (pci_of t i) ≡ false) × (outside_window w.card.settings (pci_of t i) 4 ≡ false)

  -- the bytes of the two memories that the step touches
  abbrev pub InShared : ℕ → Type 0
  InShared j = Copies × Covers 4 (t.shared + 4 * i) 0 j

  abbrev pub InWindow : ℕ → Type 0
  InWindow j = Copies × Covers 4 offset 0 j

  -- a step's changes are those of a step, and it stores nothing but the copy
  module _ (R : Store → Type 0) (none : R nothing) (some : Copies → R (copy_of w t i)) where
    step_effect : All Stepwise (stepped w (running t i)).changes × R (stepped w (running t i)).store
    step_effect =
        let Q : Effect → Type 0 = λ e. All Stepwise e.changes × R e.store in
        if_case Q (in_abort_range w.card.settings at) _ _ (λ _. ((tt, (tt, (tt, tt))), none))
        (λ x. if_case Q (outside_window w.card.settings at 4) _ _ (λ _. ((tt, (tt, (tt, tt))), none))
        (λ y. if_case Q (eqb (suc i) (t.size / 4)) _ _ (λ _. ((tt, (tt, (tt, tt))), some (x, y))) (λ _. ((tt, tt), some (x, y)))))

  pub step_changes : All Stepwise (stepped w (running t i)).changes
  step_changes = (step_effect (λ _. Unit {0}) tt (λ _. tt)).0

  pub step_hits : Hits InShared InWindow (stepped w (running t i)).store
  step_hits = (step_effect (Hits InShared InWindow) tt (λ k. by t.direction k)).1
    where
      by : (d : ℕ) → Copies → Hits InShared InWindow (copy w d (t.shared + 4 * i) offset)
      by zero k = λ j h. (k, h)
      by (suc d) k = λ j h. (k, h)

  -- the same settings and the same bytes make the same step
  abbrev plan : Settings → Store → Effect
  plan s store =
      if in_abort_range s (pci_of t i)
      then done 3 i (transfer_is idle ∷ raised_in_both target_abort)
      else if outside_window s (pci_of t i) 4
      then done 4 i (transfer_is idle ∷ raised_in_both master_abort)
      else if eqb (suc i) (t.size / 4)
      then done 2 (suc i) (transfer_is idle ∷ raised_in_both dma_complete) storing store
      else done 1 (suc i) (transfer_is (running t (suc i)) ∷ []) storing store

  copy_same : (w' : World) (d x y : ℕ) → read_dword w'.shared x 0 ≡ read_dword w.shared x 0 → read_dword w'.window y 0 ≡ read_dword w.window y 0 → copy w' d x y ≡ copy w d x y
  copy_same w' zero x y p q = ap (to_shared x 0) q
  copy_same w' (suc d) x y p q = ap (to_window y 0) p

  pub same_step : (w' : World) → w'.card.settings ≡ w.card.settings →
      (Copies → read_dword w'.shared (t.shared + 4 * i) 0 ≡ read_dword w.shared (t.shared + 4 * i) 0) →
      (Copies → read_dword w'.window offset 0 ≡ read_dword w.window offset 0) →
      stepped w' (running t i) ≡ stepped w (running t i)
  same_step w' e p q =
      ap (λ (s : Settings). plan s (copy w' t.direction (t.shared + 4 * i) (pci_of t i - s.base))) e
      ∙ if_same (in_abort_range w.card.settings at) _ _ _ _ (λ _. refl)
      (λ x. if_same (outside_window w.card.settings at 4) _ _ _ _ (λ _. refl)
      (λ y. let k = copy_same w' t.direction (t.shared + 4 * i) offset (p (x, y)) (q (x, y)) in
      if_same (eqb (suc i) (t.size / 4)) _ _ _ _ (λ _. ap (λ n. done 2 (suc i) (transfer_is idle ∷ raised_in_both dma_complete) storing n) k) (λ _. ap (λ n. done 1 (suc i) (transfer_is (running t (suc i)) ∷ []) storing n) k)))

  -- where the transfer is sound, those bytes are of its ranges
  module _ (h : transfer_sound (running t i) ≡ true) where
    below : 4 * i + 4 ≤ t.size
    below = let l = (sound_transfer t i h).1 in omega arith

    pub in_shared_lem : (j : ℕ) → Covers 4 (t.shared + 4 * i) 0 j → in_range t (shared_byte j) ≡ true
    in_shared_lem j k =
        let p = covers_from 4 (t.shared + 4 * i) 0 j k in
        let q = covers_below 4 (t.shared + 4 * i) 0 j k in
        let r = below in
        and-true (le-leb t.shared j (omega arith)) (lt-ltb j (t.shared + t.size) (omega arith))

    pub in_window_lem : Copies → (j : ℕ) → Covers 4 offset 0 j → in_range t (pci_byte (j + w.card.settings.base)) ≡ true
    in_window_lem y j k =
        let p = covers_from 4 offset 0 j k in
        let q = covers_below 4 offset 0 j k in
        let r = below in
        let s = from_base w.card.settings at y.1 in
        and-true (le-leb t.pci (j + w.card.settings.base) (omega arith)) (lt-ltb (j + w.card.settings.base) (t.pci + t.size) (omega arith))

    -- the direction is one of two, so a byte of a range is of the source or of the destination
    pub direction_is : (P : ℕ → Type 0) → P 0 → P 1 → P t.direction
    direction_is P p q = by t.direction (ltb-false 1 t.direction (sound_transfer t i h).0.0)
      where
        by : (d : ℕ) → d ≤ 1 → P d
        by zero l = p
        by (suc zero) l = q
        by (suc (suc d)) l = absurd (omega arith)

    -- and what is stored is of the destination
    module _ (S W : ℕ → Type 0) (s_free : (j : ℕ) → S j → in_destination t (shared_byte j) ≡ true → ⊥) (w_free : (j : ℕ) → W j → in_destination t (pci_byte (j + w.card.settings.base)) ≡ true → ⊥) where
      pub step_misses : Misses S W (stepped w (running t i)).store
      step_misses = (step_effect (Misses S W) tt (λ y. direction_is (λ d. t.direction ≡ d → Misses S W (copy w d (t.shared + 4 * i) offset)) (zero_way y) (one_way y) refl)).1
        where
          zero_way : Copies → t.direction ≡ 0 → Misses S W (copy w 0 (t.shared + 4 * i) offset)
          zero_way y e = λ j k s. s_free j s (and-true (eq-eqb _ _ e) (in_shared_lem j k))

          one_way : Copies → t.direction ≡ 1 → Misses S W (copy w 1 (t.shared + 4 * i) offset)
          one_way y e = λ j k s. w_free j s (and-true (eq-eqb _ _ e) (in_window_lem y j k))

-- THE FIRST LAW

pub idle_is : (d : Transfer) → is_idle d ≡ true → d ≡ idle
idle_is idle h = refl
idle_is (running t i) h = no_both h

-- what an answered access finds and leaves of the transfer, by its action
abbrev pub After : TransferAction Request → (d d' : Transfer) → Type 0
After resets d d' = d' ≡ idle
After (starts t) d d' = (d ≡ idle) × (d' ≡ running t 0)
After (steps last) d d' = (t : Request) × (i : ℕ) × (d ≡ running t i) × (d' ≡ (if last then idle else running t (suc i)))
After none d d' = d' ≡ d

abbrev ends : ℕ → Bool
ends v = eqb v 2 || eqb v 3 || eqb v 4

after_step : (w : World) (d : Transfer) → is_idle d ≡ false → After (steps (ends (stepped w d).v)) d (apply_all (stepped w d).changes w.card).transfer
after_step w idle h = no_both (sym h)
after_step w (running t i) h =
    let Q : Effect → Type 0 = λ e. After (steps (ends e.v)) (running t i) (apply_all e.changes w.card).transfer in
    if_case Q (in_abort_range w.card.settings (pci_of t i)) _ _ (λ _. (t, i, refl, refl))
    (λ x. if_case Q (outside_window w.card.settings (pci_of t i) 4) _ _ (λ _. (t, i, refl, refl))
    (λ y. if_case Q (eqb (suc i) (t.size / 4)) _ _ (λ _. (t, i, refl, refl)) (λ _. (t, i, refl, refl))))

after_kind : (k : Kind) (w : World) (q : Access) → Pass (row_of k w q).checks →
    After (done_action k q (row_of k w q).effect.v) w.card.transfer (apply_all (row_of k w q).effect.changes w.card).transfer
after_kind Kind.reset w q p = refl
after_kind Kind.shared_read w q p = refl
after_kind Kind.shared_write w q p = refl
after_kind Kind.window_read w q p = refl
after_kind Kind.window_write w q p = refl
after_kind Kind.take w q p = plain_transfer Kind.take tt w q
after_kind Kind.put w q p = plain_transfer Kind.put tt w q
after_kind Kind.claim w q p = plain_transfer Kind.claim tt w q
after_kind Kind.release w q p = refl
after_kind Kind.mailbox_write w q p = plain_transfer Kind.mailbox_write tt w q
after_kind Kind.mailbox_read w q p = refl
after_kind Kind.interrupt_read w q p = refl
after_kind Kind.interrupt_write w q p = refl
after_kind Kind.line w q p = refl
after_kind Kind.start w q p = (idle_is w.card.transfer (not-false (is_idle w.card.transfer) p.1.0), refl)
after_kind Kind.step w q p = after_step w w.card.transfer p.1.0
after_kind Kind.external_pin w q p = refl
after_kind Kind.unknown w q p = refl

pub transfer_after : (w : World) (q : Access) → After (action_of (entry_at access w q)) w.card.transfer (access w q).world.card.transfer
unfolding access
transfer_after w q = by (refusal (checks w q)) refl
  where
    by : (n : ℕ) → refusal (checks w q) ≡ n →
        After (action_of (record { access = q; answer = (settled n (row_of (kind_of q.kind) w q).effect w).answer })) w.card.transfer (settled n (row_of (kind_of q.kind) w q).effect w).world.card.transfer
    by zero h = after_kind (kind_of q.kind) w q (checks_passed w q h).1.1
    by (suc n) h = rw (eqb-suc-zero n) refl

-- Of any machine whose actions tell of the transfer as `After` says:
module _ {Access Answer : Type 0} (machine : World → Access → Outcome Answer World) (action_of : Entry Access Answer → TransferAction Request)
    (quiet : Request → Entry Access Answer → Bool)
    (after : (w : World) (q : Access) → After (action_of (entry_at machine w q)) w.card.transfer (machine w q).world.card.transfer) where
  pub after_follows : Follows machine action_of quiet opened
  after_follows w q = by (action_of (entry_at machine w q)) w.card.transfer (machine w q).world.card.transfer (after w q)
    where
      by : (κ : TransferAction Request) (d d' : Transfer) → After κ d d' → open_in d' ≡ open_after (λ u. u) κ (open_in d)
      by resets d d' h = rw h
      by (starts t) d d' h = rw (h.0, h.1)
      by (steps true) d d' h = rw (h.2, h.3)
      by (steps false) d d' h = rw (h.2, h.3)
      by none d d' h = rw h

  -- only a running transfer steps
  pub after_open : (w : World) (q : Access) (b : Bool) → action_of (entry_at machine w q) ≡ steps b → opened w ≢ []
  after_open w q b h e =
      let a : After (steps b) w.card.transfer (machine w q).world.card.transfer = rw h at (after w q) in
      let r : open_in w.card.transfer ≡ a.0 ∷ [] = ap open_in a.2 in
      let z : ◌≡◌ {A = ℕ} 0 1 = cc in
      omega arith

pub follows : Follows access action_of quiet opened
follows = after_follows access action_of quiet transfer_after
