-- The second law of rule 3, that a quiet access and the done step right after it change places; and rule 3 of the card.
-- The checks of each look only at what the other leaves, the changes of the two commute, and neither reads what the other stores.
use Rattle.std.specs.Prelude.{◌≡◌, ◌≢◌, ◌⊎◌, Bool, true, false, not, ◌&&◌, ◌||◌, ℕ, zero, suc, ◌+◌, ◌-◌, ◌*◌, ◌≤◌, eqb, if◌then◌else◌}
use Rattle.std.proofs.Math.Path.{refl, sym, ap}
use Rattle.std.proofs.Common.{◌∙◌, subst, inl, inr, arith, lt-ltb, eq-eqb, eqb-true}
use mathlib.Core.List.{List, [], ◌∷◌, map, Permᴰ}
use Rattle.std.proofs.lemmas.Bool.{eqb-false, not-false, not-true}
use Rattle.model.specs.Choice.{every, All}
use Rattle.model.specs.Checks.{◌for◌, refusal, above, nonzero}
use Rattle.model.specs.Lanes.{lane_bytes}
use Rattle.model.specs.Settings.{Settings, settings_pass}
use Rattle.model.specs.Transfer.{Request, Transfer, idle, running, transfer_sound, pci_of, is_idle}
use Rattle.model.specs.State.{World, NewCard, fresh_card, fresh_world}
use Rattle.model.specs.Changes.{Effect, world_after}
use Rattle.model.specs.Steps.{stepped}
use Rattle.model.specs.Runs.{Outcome, Entry, run, entry_at}
use Rattle.model.specs.Accesses.{Access, Answer, Kind, kind_of, row_of, fit, checks, settled, access, number_of}
use Rattle.model.proofs.TestLaws.{no_both, and_left, and_right, or_left, every_append, every_map, if_case}
use Rattle.model.proofs.CheckLaws.{Pass, pass_refusal}
use Rattle.model.proofs.LaneLaws.{Covers, lane_byte, covers_pci}
use Rattle.model.proofs.KindLaws.{number_at, kind_at, refused_with}
use Rattle.model.proofs.Refusals.{number_is, checks_passed, done_is, refused_is}
use Rattle.model.proofs.Soundness.{sound_parts_lem, fit_parts, settings_all, stays_fit, done_fit}
use Rattle.reordering.specs.Roles.{TransferAction, resets, starts, steps, none, roles, moved, Owned}
use Rattle.reordering.specs.Reordering.{Place, shared_byte, pci_byte, Touch, reading, writing, done_touches, start_touches, in_range, disturbs, quiet, done_action, action_of, StepsMove}
use Rattle.reordering.proofs.Moving.{Exchange, moved_same, moved_perm, owned}
use Rattle.reordering.proofs.Commute.{Plain, Stepwise, keep_transfer, Misses, Like, like, reads_shared, reads_window, swap_effects}
use Rattle.reordering.proofs.PlainKinds.{PlainKind, plain_effect, plain_changes, plain_fixed, Fixed, same_checks, same_effect}
use Rattle.reordering.proofs.Stepping.{opened, open_in, from_base, InShared, InWindow, step_changes, step_hits, same_step, in_shared_lem, in_window_lem, direction_is, step_misses, After, transfer_after, follows, after_open}

abbrev pub answer_of : Effect → Answer
answer_of e = record { number = 0; v = e.v; x = e.x }

-- QUIET ENTRIES

module _ (t : Request) (q : Access) (r : Answer) (h : quiet t (record { access = q; answer = r }) ≡ true) where
  abbrev still : Touch → Bool
  still touch = not (disturbs t touch)

  abbrev entry : Entry Access Answer
  entry = record { access = q; answer = r }

  halves : (every still (start_touches entry) ≡ true) × (every still (if eqb r.number 0 then done_touches (kind_of q.kind) q else []) ≡ true)
  halves =
      let done = if eqb r.number 0 then done_touches (kind_of q.kind) q else [] in
      let both = sym (every_append still (start_touches entry) done) ∙ h in
      (and_left (every still (start_touches entry)) (every still done) both, and_right (every still (start_touches entry)) (every still done) both)

  -- a quiet entry is no start
  quiet_no_start : q.kind ≢ number_of Kind.start
  quiet_no_start e = no_both (rw (eq-eqb q.kind (number_of Kind.start) e) at halves.0)

  -- and where it is done, nothing that its kind touches disturbs the transfer
  quiet_done : r.number ≡ 0 → (k : Kind) → kind_of q.kind ≡ k → every still (done_touches k q) ≡ true
  quiet_done z k e = rw (eq-eqb r.number 0 z, e) at halves.1

  -- the same of a byte that it reads or writes
  quiet_byte : r.number ≡ 0 → (k : Kind) (touch : ℕ → Touch) → kind_of q.kind ≡ k → done_touches k q ≡ map touch (lane_bytes 4 q.a q.s) →
      (i : ℕ) → Covers 4 q.a q.s i → disturbs t (touch i) ≡ false
  quiet_byte z k touch e d i c =
      not-true (disturbs t (touch i)) (lane_byte (λ i. still (touch i)) 4 q.a q.s i
      (sym (every_map still touch (lane_bytes 4 q.a q.s)) ∙ rw d at (quiet_done z k e)) c)

-- DONE STEPS

abbrev is_step : TransferAction Request → Bool
is_step resets = false
is_step (starts t) = false
is_step (steps last) = true
is_step none = false

-- of the kinds only a step steps
step_kind : (k : Kind) (q : Access) (v : ℕ) → is_step (done_action k q v) ≡ eqb (number_of k) (number_of Kind.step)
step_kind Kind.reset q v = refl
step_kind Kind.shared_read q v = refl
step_kind Kind.shared_write q v = refl
step_kind Kind.window_read q v = refl
step_kind Kind.window_write q v = refl
step_kind Kind.take q v = refl
step_kind Kind.put q v = refl
step_kind Kind.claim q v = refl
step_kind Kind.release q v = refl
step_kind Kind.mailbox_write q v = refl
step_kind Kind.mailbox_read q v = refl
step_kind Kind.interrupt_read q v = refl
step_kind Kind.interrupt_write q v = refl
step_kind Kind.line q v = refl
step_kind Kind.start q v = refl
step_kind Kind.step q v = refl
step_kind Kind.external_pin q v = refl
step_kind Kind.unknown q v = refl

pub is_step_lem : (q : Access) (r : Answer) (b : Bool) → action_of (record { access = q; answer = r }) ≡ steps b → (r.number ≡ 0) × (q.kind ≡ number_of Kind.step)
is_step_lem q r b h = by (eqb r.number 0) refl (ap is_step h)
  where
    by : (x : Bool) → eqb r.number 0 ≡ x → is_step (if x then done_action (kind_of q.kind) q r.v else none) ≡ true → (r.number ≡ 0) × (q.kind ≡ number_of Kind.step)
    by true e h =
        let k = eqb-true (number_of (kind_of q.kind)) (number_of Kind.step) (sym (step_kind (kind_of q.kind) q r.v) ∙ h) in
        let m = number_at q.kind (kind_of q.kind) refl in
        (eqb-true r.number 0 e, omega arith)
    by false e h = no_both h

-- what a done step passed
pub record Stepped (w : World) (s : Access) : Type 0 where
  pub fits : fit w ≡ true
  pub known : (above 16 s.kind || above 1 s.side) ≡ false
  pub clean : nonzero (s.s ∷ s.a ∷ s.b ∷ s.c ∷ []) ≡ false
  pub busy : is_idle w.card.transfer ≡ false

pub step_passed : (w : World) (s : Access) → s.kind ≡ number_of Kind.step → refusal (checks w s) ≡ 0 → Stepped w s
step_passed w s k h =
    let p = checks_passed w s h in
    let q : Pass (row_of Kind.step w s).checks = subst (λ k. Pass (row_of k w s).checks) (ap kind_of k) p.1.1 in
    record { fits = not-false (fit w) p.0; known = p.1.0; clean = q.0; busy = q.1.0 }

step_passes : (w : World) (s : Access) → s.kind ≡ number_of Kind.step → Stepped w s → refusal (checks w s) ≡ 0
step_passes w s k p =
    let q : Pass (row_of Kind.step w s).checks = (p.clean, (p.busy, tt)) in
    pass_refusal (checks w s) (ap not p.fits, (p.known, subst (λ k. Pass (row_of k w s).checks) (sym (ap kind_of k)) q))

step_is : (w : World) (s : Access) → s.kind ≡ number_of Kind.step → refusal (checks w s) ≡ 0 → access w s ≡ settled 0 (stepped w w.card.transfer) w
step_is w s k h = done_is w s h ∙ ap (λ k. settled 0 (row_of k w s).effect w) (ap kind_of k)

stepped_changes : (w : World) (d : Transfer) → All Stepwise (stepped w d).changes
stepped_changes w idle = tt
stepped_changes w (running t i) = step_changes w t i

like_after : (w : World) (s : Access) → s.kind ≡ number_of Kind.step → refusal (checks w s) ≡ 0 → Like w.card (access w s).world.card
like_after w s k h =
    subst (λ w'. Like w.card w'.card) (sym (ap (λ r. r.world) (step_is w s k h)))
    (like (stepped w w.card.transfer).changes (stepped_changes w w.card.transfer) w.card)

-- a done step that does not end its transfer can be done again
pub step_again : (w : World) (s : Access) → action_of (entry_at access w s) ≡ steps false → (b : Bool) × (action_of (entry_at access (access w s).world s) ≡ steps b)
step_again w s h =
    let w' = (access w s).world in
    let z = is_step_lem s (access w s).answer false h in
    let p = step_passed w s z.1 (sym (number_is w s) ∙ z.0) in
    let a : After (steps false) w.card.transfer w'.card.transfer = rw h at (transfer_after w s) in
    let r = step_passes w' s z.1 (record { fits = stays_fit w s p.fits; known = p.known; clean = p.clean; busy = ap is_idle a.3 }) in
    let v = (access w' s).answer.v in
    (eqb v 2 || eqb v 3 || eqb v 4, rw (number_is w' s ∙ r, z.1) refl)

-- REFUSALS STAY

same_refusal : (o : Access) → Fixed (kind_of o.kind) → (w w' : World) → Like w.card w'.card → fit w ≡ true → fit w' ≡ true → refusal (checks w' o) ≡ refusal (checks w o)
same_refusal o x w w' l f f' =
    let c : Bool = above 16 o.kind || above 1 o.side in
    ap (λ b. refusal ((1 for not b) ∷ (2 for c) ∷ (row_of (kind_of o.kind) w' o).checks)) f'
    ∙ ap (λ r. refusal ((2 for c) ∷ r)) (same_checks (kind_of o.kind) x w w' o l)
    ∙ ap (λ b. refusal ((1 for not b) ∷ (2 for c) ∷ (row_of (kind_of o.kind) w o).checks)) (sym f)

step_refusal : (o : Access) → o.kind ≡ number_of Kind.step → (w w' : World) → fit w ≡ true → fit w' ≡ true → is_idle w.card.transfer ≡ false → (n : ℕ) → refusal (checks w o) ≡ suc n → refusal (checks w' o) ≡ suc n
step_refusal o k w w' f f' y n h =
    let c : Bool = above 16 o.kind || above 1 o.side in
    let u : Bool = nonzero (o.s ∷ o.a ∷ o.b ∷ o.c ∷ []) in
    let e : (w : World) → fit w ≡ true → refusal (checks w o) ≡ refusal ((2 for c) ∷ (3 for u) ∷ (10 for is_idle w.card.transfer) ∷ []) = λ w f.
    ap (λ b. refusal ((1 for not b) ∷ (2 for c) ∷ (row_of (kind_of o.kind) w o).checks)) f
    ∙ ap (λ k. refusal ((2 for c) ∷ (row_of k w o).checks)) (ap kind_of k) in
    e w' f' ∙ go c u (is_idle w.card.transfer) (is_idle w'.card.transfer) y (sym (e w f) ∙ h)
  where
    go : (x y z z' : Bool) → z ≡ false → refusal ((2 for x) ∷ (3 for y) ∷ (10 for z) ∷ []) ≡ suc n → refusal ((2 for x) ∷ (3 for y) ∷ (10 for z') ∷ []) ≡ suc n
    go true y z z' e h = h
    go false true z z' e h = h
    go false false true z' e h = no_both (sym e)
    go false false false z' e h = absurd (omega arith)

-- CHANGING PLACES

-- What is done in a world, whatever it is, and the step right after it; and the other way round.
pub record Swapped {R : Type 0} (act : World → Outcome R World) (w : World) (s : Access) : Type 0 where
  pub step : (access w s).answer ≡ (access (act w).world s).answer
  pub other : (act (access w s).world).answer ≡ (act w).answer
  pub world : (act (access w s).world).world ≡ (access (act w).world s).world

module _ (act : World → Outcome Answer World) (w : World) (s : Access) (k : s.kind ≡ number_of Kind.step) (h : refusal (checks (act w).world s) ≡ 0) where
  -- refused alike before and behind the step
  pub swap_refused : (n : ℕ) → act w ≡ refused_with n w → ((w' : World) → Stepped w s → Like w.card w'.card → fit w' ≡ true → act w' ≡ refused_with n w') → Swapped act w s
  swap_refused n e again =
      let r : (act w).world ≡ w = ap (λ p. p.world) e in
      let hs : refusal (checks w s) ≡ 0 = subst (λ x. refusal (checks x s) ≡ 0) r h in
      let p = step_passed w s k hs in
      let e' = again (access w s).world p (like_after w s k hs) (stays_fit w s p.fits) in
      record {
        step = ap (λ x. (access x s).answer) (sym r);
        other = ap (λ p. p.answer) e' ∙ sym (ap (λ p. p.answer) e);
        world = ap (λ p. p.world) e' ∙ ap (λ x. (access x s).world) (sym r);
      }

  -- done with an effect of plain changes, whose store the step does not touch; and done with the same effect behind the step
  module _ (t : Request) (i : ℕ) (at : w.card.transfer ≡ running t i) (fits : fit w ≡ true) (E : Effect) (is : act w ≡ record { answer = answer_of E; world = world_after E w })
      (plain : All Plain E.changes) (misses : Misses (InShared w t i) (InWindow w t i) E.store) where
    abbrev F : Effect
    F = stepped w (running t i)

    -- where what is done leads, and where the step leads
    w₁ : World
    w₁ = world_after E w

    w₂ : World
    w₂ = world_after F w

    is₁ : act w ≡ record { answer = answer_of E; world = w₁ }
    unfolding w₁
    is₁ = is

    transfer₁ : w₁.card.transfer ≡ running t i
    unfolding w₁
    transfer₁ = keep_transfer E.changes plain w.card ∙ at

    step₁ : stepped w₁ w₁.card.transfer ≡ F
    unfolding w₁
    step₁ =
        ap (stepped w₁) transfer₁
        ∙ same_step w t i w₁ (settings_all E.changes w.card)
        (λ y. reads_shared (InShared w t i) (InWindow w t i) E.store misses w.shared (t.shared + 4 * i) 0 (λ j z. (y, z)))
        (λ y. reads_window (InShared w t i) (InWindow w t i) E.store misses w.window (pci_of t i - w.card.settings.base) 0 (λ j z. (y, z)))

    h₁ : refusal (checks w₁ s) ≡ 0
    h₁ = subst (λ x. refusal (checks x s) ≡ 0) (ap (λ p. p.world) is₁) h

    s₁_is : access w₁ s ≡ record { answer = answer_of F; world = world_after F w₁ }
    s₁_is = step_is w₁ s k h₁ ∙ ap (λ f. settled 0 f w₁) step₁

    h₀ : refusal (checks w s) ≡ 0
    h₀ =
        let p = step_passed w₁ s k h₁ in
        step_passes w s k (record { fits = fits; known = p.known; clean = p.clean; busy = ap is_idle at })

    s_is : access w s ≡ record { answer = answer_of F; world = w₂ }
    unfolding w₂
    s_is = step_is w s k h₀ ∙ ap (λ d. settled 0 (stepped w d) w) at

    like₂ : Like w.card w₂.card
    unfolding w₂
    like₂ = like F.changes (step_changes w t i) w.card

    fit₂ : fit w₂ ≡ true
    fit₂ = subst (λ x. fit x ≡ true) (ap (λ p. p.world) s_is) (stays_fit w s fits)

    both_ways : world_after E w₂ ≡ world_after F w₁
    unfolding w₁ w₂
    both_ways = swap_effects (InShared w t i) (InWindow w t i) E F plain misses (step_changes w t i) (step_hits w t i) w

    pub swap_done : ((w' : World) → w' ≡ world_after (stepped w (running t i)) w → Like w.card w'.card → fit w' ≡ true → act w' ≡ record { answer = answer_of E; world = world_after E w' }) → Swapped act w s
    unfolding w₂
    swap_done again =
        let is₂ = again w₂ refl like₂ fit₂ in
        record {
          step = ap (λ p. p.answer) s_is ∙ sym (ap (λ p. p.answer) s₁_is) ∙ ap (λ x. (access x s).answer) (sym (ap (λ p. p.world) is₁));
          other = ap (λ x. (act x).answer) (ap (λ p. p.world) s_is) ∙ ap (λ p. p.answer) is₂ ∙ sym (ap (λ p. p.answer) is₁);
          world = ap (λ x. (act x).world) (ap (λ p. p.world) s_is) ∙ ap (λ p. p.world) is₂ ∙ both_ways ∙ sym (ap (λ p. p.world) s₁_is) ∙ ap (λ x. (access x s).world) (sym (ap (λ p. p.world) is₁));
        }

-- REFUSED ACCESSES

-- a refused access, no start, is refused alike before the step
exchange_refused : (w : World) (o s : Access) (n : ℕ) → o.kind ≢ number_of Kind.start → refusal (checks w o) ≡ suc n → s.kind ≡ number_of Kind.step → refusal (checks (access w o).world s) ≡ 0 →
    Swapped (λ w. access w o) w s
exchange_refused w o s n q e k h =
    swap_refused (λ w. access w o) w s k h (suc n) (refused_is w o n e) (λ w' p l f. refused_is w' o n (by w' p l f (eqb o.kind (number_of Kind.step)) refl))
  where
    by : (w' : World) → Stepped w s → Like w.card w'.card → fit w' ≡ true → (b : Bool) → eqb o.kind (number_of Kind.step) ≡ b → refusal (checks w' o) ≡ suc n
    by w' p l f true x = step_refusal o (eqb-true o.kind (number_of Kind.step) x) w w' p.fits f p.busy n e
    by w' p l f false x = same_refusal o (λ y. q (kind_at o.kind Kind.start (omega arith) y), λ y. eqb-false o.kind (number_of Kind.step) x (kind_at o.kind Kind.step (omega arith) y)) w w' l p.fits f ∙ e

-- DONE ACCESSES

-- a quiet access that is done, and no step, is of a plain kind
plain_kind : (w : World) (o : Access) (t : Request) → refusal (checks w o) ≡ 0 → quiet t (entry_at access w o) ≡ true → ((c : Bool) → action_of (entry_at access w o) ≢ steps c) → PlainKind (kind_of o.kind)
plain_kind w o t h q n = by (kind_of o.kind) refl
  where
    z : (access w o).answer.number ≡ 0
    z = number_is w o ∙ h

    loud : (k : Kind) → kind_of o.kind ≡ k → every (λ touch. not (disturbs t touch)) (done_touches k o) ≡ true
    loud k e = quiet_done t o (access w o).answer q z k e

    by : (k : Kind) → kind_of o.kind ≡ k → PlainKind k
    by Kind.reset e = no_both (loud Kind.reset e)
    by Kind.shared_read e = tt
    by Kind.shared_write e = tt
    by Kind.window_read e = tt
    by Kind.window_write e = tt
    by Kind.take e = tt
    by Kind.put e = tt
    by Kind.claim e = tt
    by Kind.release e = tt
    by Kind.mailbox_write e = tt
    by Kind.mailbox_read e = tt
    by Kind.interrupt_read e = no_both (loud Kind.interrupt_read e)
    by Kind.interrupt_write e = no_both (loud Kind.interrupt_write e)
    by Kind.line e = no_both (loud Kind.line e)
    by Kind.start e = quiet_no_start t o (access w o).answer q (kind_at o.kind Kind.start (omega arith) e)
    by Kind.step e =
        let v = (access w o).answer.v in
        n (eqb v 2 || eqb v 3 || eqb v 4) (rw (z, e) refl)
    by Kind.external_pin e = tt
    by Kind.unknown e =
        let p = (checks_passed w o h).1.0 in
        let l = number_at o.kind Kind.unknown e in
        no_both (sym p ∙ rw (lt-ltb 16 o.kind (omega arith)) refl)

module _ (w : World) (o s : Access) (t : Request) (i : ℕ) (at : w.card.transfer ≡ running t i) (q : quiet t (entry_at access w o) ≡ true)
    (e : refusal (checks w o) ≡ 0) (plain : PlainKind (kind_of o.kind)) (k : s.kind ≡ number_of Kind.step) where
  abbrev base : ℕ
  base = w.card.settings.base

  -- what the access does, and what the step does
  abbrev E : Effect
  E = (row_of (kind_of o.kind) w o).effect

  abbrev F₀ : Effect
  F₀ = stepped w (running t i)

  done_o : (access w o).answer.number ≡ 0
  done_o = number_is w o ∙ e

  fits : fit w ≡ true
  fits = done_fit w o e

  sound_t : transfer_sound (running t i) ≡ true
  sound_t = subst (λ d. transfer_sound d ≡ true) at (sound_parts_lem w.card (fit_parts w fits).sound).transfer

  -- an access to the window that is done lies in it
  based : (k : Kind) → (k ≡ Kind.window_read) ⊎ (k ≡ Kind.window_write) → kind_of o.kind ≡ k → base ≤ o.a
  based k (inl y) x =
      let p : Pass (row_of Kind.window_read w o).checks = subst (λ k. Pass (row_of k w o).checks) (x ∙ y) (checks_passed w o e).1.1 in
      from_base w.card.settings o.a p.1.1.1.0
  based k (inr y) x =
      let p : Pass (row_of Kind.window_write w o).checks = subst (λ k. Pass (row_of k w o).checks) (x ∙ y) (checks_passed w o e).1.1 in
      from_base w.card.settings o.a p.1.1.1.0

  -- a byte whose writing does not disturb the transfer is of neither range
  range_free : (p : Place) → disturbs t (writing p) ≡ false → in_range t p ≡ true → ⊥
  range_free (shared_byte j) n r = by (in_range t (shared_byte j)) n r
    where
      by : (x : Bool) → (eqb t.direction 1 && x || (eqb t.direction 0 && x)) ≡ false → x ≡ true → ⊥
      by x = direction_is w t i sound_t (λ d. (eqb d 1 && x || (eqb d 0 && x)) ≡ false → x ≡ true → ⊥) (λ n r. no_both (sym n ∙ r)) (λ n r. no_both (sym (or_left x false n) ∙ r))
  range_free (pci_byte j) n r = by (in_range t (pci_byte j)) n r
    where
      by : (x : Bool) → (eqb t.direction 0 && x || (eqb t.direction 1 && x)) ≡ false → x ≡ true → ⊥
      by x = direction_is w t i sound_t (λ d. (eqb d 0 && x || (eqb d 1 && x)) ≡ false → x ≡ true → ⊥) (λ n r. no_both (sym (or_left x false n) ∙ r)) (λ n r. no_both (sym n ∙ r))

  -- what the access stores, the step does not touch
  stores_miss : Misses (InShared w t i) (InWindow w t i) E.store
  stores_miss =
      (plain_effect (Misses (InShared w t i) (InWindow w t i)) tt (kind_of o.kind) plain w o
      (λ x j y z. range_free (shared_byte j) (quiet_byte t o (access w o).answer q done_o Kind.shared_write (λ i. writing (shared_byte i)) x refl j y) (in_shared_lem w t i sound_t j z.1))
      (λ x j y z. range_free (pci_byte (j + base))
      (quiet_byte t o (access w o).answer q done_o Kind.window_write (λ i. writing (pci_byte i)) x refl (j + base) (covers_pci o.a base o.s j (based Kind.window_write (inr refl) x) y)) (in_window_lem w t i sound_t z.0 j z.1))).1

  -- what the step stores, the access does not read
  abbrev ReadShared : ℕ → Type 0
  ReadShared j = (kind_of o.kind ≡ Kind.shared_read) × Covers 4 o.a o.s j

  abbrev ReadWindow : ℕ → Type 0
  ReadWindow j = (kind_of o.kind ≡ Kind.window_read) × Covers 4 (o.a - base) o.s j

  reads_miss : Misses ReadShared ReadWindow F₀.store
  reads_miss =
      step_misses w t i sound_t ReadShared ReadWindow
      (λ j r d. no_both (sym (quiet_byte t o (access w o).answer q done_o Kind.shared_read (λ i. reading (shared_byte i)) r.0 refl j r.1) ∙ d))
      (λ j r d. no_both (sym (quiet_byte t o (access w o).answer q done_o Kind.window_read (λ i. reading (pci_byte i)) r.0 refl (j + base) (covers_pci o.a base o.s j (based Kind.window_read (inl refl) r.0) r.1)) ∙ d))

  exchange_done : refusal (checks (access w o).world s) ≡ 0 → Swapped (λ w. access w o) w s
  exchange_done h = swap_done (λ w. access w o) w s k h t i at fits E (done_is w o e) (plain_changes (kind_of o.kind) plain w o) stores_miss again
    where
      again : (w' : World) → w' ≡ world_after (stepped w (running t i)) w → Like w.card w'.card → fit w' ≡ true → access w' o ≡ record { answer = answer_of E; world = world_after E w' }
      again w' is l f =
          done_is w' o (same_refusal o (plain_fixed (kind_of o.kind) plain) w w' l fits f ∙ e)
          ∙ ap (λ f. settled 0 f w')
          (same_effect (kind_of o.kind) plain w w' o l
          (λ x. rw is (reads_shared ReadShared ReadWindow F₀.store reads_miss w.shared o.a o.s (λ j z. (x, z))))
          (λ x. rw is (reads_window ReadShared ReadWindow F₀.store reads_miss w.window (o.a - base) o.s (λ j z. (x, z)))))

-- THE SECOND LAW

-- a done step, as its action tells
pub step_told : (w : World) (s : Access) (b : Bool) → action_of (entry_at access w s) ≡ steps b → (s.kind ≡ number_of Kind.step) × (refusal (checks w s) ≡ 0)
step_told w s b k = let z = is_step_lem s (access w s).answer b k in (z.1, sym (number_is w s) ∙ z.0)

pub swapped : (w : World) (o s : Access) (t : Request) (q : List Request) (b : Bool) → opened w ≡ t ∷ q → ((c : Bool) → action_of (entry_at access w o) ≢ steps c) →
    quiet t (entry_at access w o) ≡ true → action_of (entry_at access (access w o).world s) ≡ steps b → Swapped (λ w. access w o) w s
swapped w o s t q b h n calm k =
    let z = step_told (access w o).world s b k in
    by w.card.transfer refl h z.0 z.1 (refusal (checks w o)) refl
  where
    by : (d : Transfer) → w.card.transfer ≡ d → open_in d ≡ t ∷ q → s.kind ≡ number_of Kind.step → refusal (checks (access w o).world s) ≡ 0 → (m : ℕ) → refusal (checks w o) ≡ m → Swapped (λ w. access w o) w s
    by idle g h k z m e = absurd (let z : ◌≡◌ {A = ℕ} 0 1 = cc in omega arith)
    by (running u i) g h k z (suc m) e = exchange_refused w o s m (quiet_no_start t o (access w o).answer calm) e k z
    by (running u i) g h k z zero e =
        let same : t ≡ u = cc in
        exchange_done w o s u i g (subst (λ x. quiet x (entry_at access w o) ≡ true) same calm) e (plain_kind w o t e calm n) k z

pub exchange : Exchange access action_of quiet opened
exchange w o s t q b h n calm k = let x = swapped w o s t q b h n calm k in record { step = x.step; other = x.other; world = x.world }

-- RULE 3

pub fresh_idle : (s : Settings) → open_in (fresh_card s).card.transfer ≡ []
unfolding fresh_card
fresh_idle s = if_case (λ (m : NewCard). open_in m.card.transfer ≡ []) (settings_pass s) _ _ (λ _. refl) (λ _. refl)

pub steps_move : StepsMove access
steps_move settings shared window accesses = moved_same access action_of quiet opened follows exchange (fresh_world settings shared window) accesses (fresh_idle settings)

-- the moved list holds every entry of the list once
pub every_entry_once : (w : World) (accesses : List Access) → Permᴰ (moved (roles action_of (run access w accesses).entries)) (run access w accesses).entries
every_entry_once w accesses = moved_perm action_of (run access w accesses).entries

-- every done step has its start
pub every_step_owned : (settings : Settings) (shared window : List ℕ) (accesses : List Access) →
    Owned action_of (roles action_of (run access (fresh_world settings shared window) accesses).entries)
every_step_owned settings shared window accesses = owned access action_of quiet opened follows (after_open access action_of quiet transfer_after) (fresh_world settings shared window) accesses 0 [] (fresh_idle settings)
