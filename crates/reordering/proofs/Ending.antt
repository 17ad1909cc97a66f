-- "So a transfer ends within size / 4 steps": of each start done in a list, the transfer's done steps are at most size / 4, and the last of so many ends it.
-- By induction over the list: every done step that does not end the transfer leaves one dword fewer to go, and at least one. Of any machine that
-- keeps a record sound and whose actions tell of the transfer as `After` says; and so of accesses and of calls.
use Rattle.std.specs.Prelude.{◌≡◌, refl, ◌⊎◌, true, false, List, [], ◌∷◌, map, ℕ, zero, suc, ◌-◌, ◌/◌, ◌<◌}
use Rattle.std.proofs.Common.{ap, ◌∙◌, subst, inl, inr, arith}
use Rattle.std.proofs.Math.Nat.{sub-zero}
use Rattle.model.specs.Settings.{Settings}
use Rattle.model.specs.Transfer.{Request, Transfer, running, transfer_sound}
use Rattle.model.specs.State.{World, sound, fresh_world}
use Rattle.model.specs.Runs.{Outcome, Entry, run, entry_at}
use Rattle.model.specs.Accesses.{Access, access}
use Rattle.model.specs.Calls.{Call, direct, register, bursting}
use Rattle.model.proofs.Soundness.{sound_parts_lem, stays_sound, fresh_sound, sound_transfer}
use Rattle.model.proofs.RegisterLaws.{register_stays_sound}
use Rattle.model.proofs.BurstLaws.{burst_keeps}
use Rattle.reordering.specs.Roles.{TransferAction, resets, starts, steps, none, open_after, count_after, Role, start_of, step_of, neither, role_of, roles_from, roles, steps_of}
use Rattle.reordering.specs.Reordering.{action_of}
use Rattle.reordering.specs.CallReordering.{noted, noted_action}
use Rattle.reordering.proofs.Moving.{absent, end, same, opened_next}
use Rattle.reordering.proofs.Stepping.{opened, open_in, After, after_follows, transfer_after}
use Rattle.reordering.proofs.Exchange.{fresh_idle}
use Rattle.reordering.proofs.CallExchange.{call_after}

-- THE STATEMENT

module _ {E : Type 0} (action_of : E → TransferAction Request) where
  -- With `n` dwords to go: a done step is the last (V 2, 3 or 4), or is not and leaves dwords to go, one fewer.
  abbrev pub EndsWithin : (n : ℕ) → List E → Type 0
  EndsWithin n [] = Unit {0}
  EndsWithin zero (e ∷ l) = ⊥
  EndsWithin (suc n) (e ∷ l) = ((action_of e ≡ steps true) × (l ≡ [])) ⊎ ((action_of e ≡ steps false) × (0 < n) × EndsWithin n l)

  -- of every start in the list
  abbrev pub AllEnd : List (Role Request E) → Type 0
  AllEnd [] = Unit {0}
  AllEnd (start_of k t e ∷ l) = EndsWithin (t.size / 4) (steps_of k l) × AllEnd l
  AllEnd (step_of k e ∷ l) = AllEnd l
  AllEnd (neither e ∷ l) = AllEnd l

-- at most one transfer is open
abbrev OpenAs : Transfer → List (ℕ × Request) → Type 0
OpenAs d o = open_in d ≡ map (λ h. h.1) o

-- ONE TRANSFER

module _ {Q R : Type 0} (machine : World → Q → Outcome R World) (action_of : Entry Q R → TransferAction Request)
    (after : (w : World) (q : Q) → After (action_of (entry_at machine w q)) w.card.transfer (machine w q).world.card.transfer)
    (stays : (w : World) (q : Q) → sound w.card ≡ true → sound (machine w q).world.card ≡ true) where
  -- with transfer k alone open and `i` of its dwords moved
  module _ (k : ℕ) (t : Request) where
    within : (accesses : List Q) (w : World) (n i : ℕ) → k < n → sound w.card ≡ true → w.card.transfer ≡ running t i →
        EndsWithin action_of (t.size / 4 - i) (steps_of k (roles_from action_of n ((k, t) ∷ []) (run machine w accesses).entries))
    within [] w n i l h d = tt
    within (q ∷ accesses) w n i l h d =
        by (action_of (entry_at machine w q)) refl (after w q) (stays w q h)
        (λ n j m d'. within accesses (machine w q).world n j m (stays w q h) d')
      where
        w' : World
        w' = (machine w q).world

        rest : List (Entry Q R)
        rest = (run machine (machine w q).world accesses).entries

        less : (w : World) (i : ℕ) → sound w.card ≡ true → w.card.transfer ≡ running t i → i < t.size / 4
        less w i h d = (sound_transfer t i (subst (λ d. transfer_sound d ≡ true) d (sound_parts_lem w.card h).transfer)).1

        -- steps of a transfer that is open no more
        over : steps_of k (roles_from action_of n [] rest) ≡ []
        over = absent action_of {n = n} {lo = n} k rest l (end {lo = n} (omega arith))

        by : (κ : TransferAction Request) → action_of (entry_at machine w q) ≡ κ → After κ w.card.transfer (machine w q).world.card.transfer → sound (machine w q).world.card ≡ true →
            ((n j : ℕ) → k < n → (machine w q).world.card.transfer ≡ running t j → EndsWithin action_of (t.size / 4 - j) (steps_of k (roles_from action_of n ((k, t) ∷ []) rest))) →
            EndsWithin action_of (t.size / 4 - i) (steps_of k (role_of n ((k, t) ∷ []) κ (entry_at machine w q) ∷ roles_from action_of (count_after n κ) (open_after (λ u. (n, u)) κ ((k, t) ∷ [])) rest))
        by resets e a s f = rw over tt
        by (starts u) e a s f = absurd (let r = a.0 in let z : ◌≡◌ {A = ℕ} 0 1 = cc in omega arith)
        by (steps true) e a s f =
            let m : t.size / 4 - i ≡ suc (t.size / 4 - suc i) = (let x = less w i h d in omega arith) in
            rw (same k, over, m) (inl (e, refl))
        by (steps false) e a s f =
            let r : a.0 ≡ t = cc in
            let j : a.1 ≡ i = cc in
            let d' : (machine w q).world.card.transfer ≡ running t (suc i) = (let y = a.3 in cc) in
            let x = less w i h d in
            let y = less (machine w q).world (suc i) s d' in
            let m : t.size / 4 - i ≡ suc (t.size / 4 - suc i) = omega arith in
            rw (same k, m) (inr (e, omega arith, f n (suc i) l d'))
        by none e a s f = f n i l (a ∙ d)

  -- EVERY TRANSFER OF A LIST

  all_end : (accesses : List Q) (w : World) (n : ℕ) (o : List (ℕ × Request)) → sound w.card ≡ true → OpenAs w.card.transfer o → AllEnd action_of (roles_from action_of n o (run machine w accesses).entries)
  all_end [] w n o h u = tt
  all_end (q ∷ accesses) w n o h u =
      by (action_of (entry_at machine w q)) (after w q) o u (all_end accesses (machine w q).world (count_after n (action_of (entry_at machine w q))) (open_after (λ t. (n, t)) (action_of (entry_at machine w q)) o) (stays w q h) (opened_next machine action_of (λ t e. true) opened (after_follows machine action_of (λ t e. true) after) w q n o u))
    where
      by : (κ : TransferAction Request) → After κ w.card.transfer (machine w q).world.card.transfer → (o : List (ℕ × Request)) → OpenAs w.card.transfer o →
          AllEnd action_of (roles_from action_of (count_after n κ) (open_after (λ t. (n, t)) κ o) (run machine (machine w q).world accesses).entries) →
          AllEnd action_of (role_of n o κ (entry_at machine w q) ∷ roles_from action_of (count_after n κ) (open_after (λ t. (n, t)) κ o) (run machine (machine w q).world accesses).entries)
      by resets a o u r = r
      by (starts t) a [] u r = (rw sub-zero at (within n t accesses (machine w q).world (suc n) 0 (omega arith) (stays w q h) a.1), r)
      by (starts t) a (x ∷ o) u r = absurd (let d = a.0 in let z : ◌≡◌ {A = ℕ} 0 1 = cc in omega arith)
      by (steps last) a [] u r = r
      by (steps last) a (x ∷ o) u r = r
      by none a o u r = r

  every_transfer_ends : (settings : Settings) (shared window : List ℕ) (accesses : List Q) → AllEnd action_of (roles action_of (run machine (fresh_world settings shared window) accesses).entries)
  every_transfer_ends settings shared window accesses = all_end accesses (fresh_world settings shared window) 0 [] (fresh_sound settings) (fresh_idle settings)

pub transfers_end : (settings : Settings) (shared window : List ℕ) (accesses : List Access) → AllEnd action_of (roles action_of (run access (fresh_world settings shared window) accesses).entries)
transfers_end = every_transfer_ends access action_of transfer_after stays_sound

-- of a transfer that a write of DMACTL starts too
pub calls_end : (settings : Settings) (shared window : List ℕ) (calls : List Call) → AllEnd noted_action (roles noted_action (run noted (fresh_world settings shared window) calls).entries)
calls_end = every_transfer_ends noted noted_action call_after stays
  where
    stays : (w : World) (c : Call) → sound w.card ≡ true → sound (noted w c).world.card ≡ true
    stays w (direct q) h = stays_sound w q h
    stays w (register q) h = register_stays_sound w q h
    stays w (bursting b) h = ap sound (burst_keeps w b).card ∙ h
