-- Rule 3 of lists of calls: the two laws of `Moving` for the machine that notes what each call was to the transfers.
-- A register access that is an access of document 01 changes places as that access does; of the others none looks at what a step changes. A burst
-- changes places as its single accesses do.
use Rattle.std.specs.Prelude.{◌≡◌, ◌≢◌, Bool, not, eqb, if◌then◌else◌}
use Rattle.std.proofs.Math.Path.{refl}
use Rattle.std.proofs.Common.{sym, ap, ◌∙◌, subst, arith}
use Rattle.std.proofs.Math.Bool.{true, false}
use mathlib.Core.List.{List, [], ◌∷◌, ◌++◌, map, Permᴰ}
use Prim.Native.Nat.{ℕ, zero, suc}
use Rattle.std.proofs.Math.Dec.{eqb-suc-zero}
use Rattle.std.proofs.lemmas.Bool.{not-false}
use Rattle.model.specs.Choice.{every, All}
use Rattle.model.specs.Checks.{Check, ◌for◌, refusal, above}
use Rattle.model.specs.Sides.{Side, side_of, other, not_by}
use Rattle.model.specs.Events.{bit}
use Rattle.model.specs.Arbitration.{pair_of, flag, flag_bit}
use Rattle.model.specs.Mailboxes.{mail_for}
use Rattle.model.specs.Settings.{Settings}
use Rattle.model.specs.Transfer.{Request, Transfer, idle, running, is_idle}
use Rattle.model.specs.State.{State, World, fresh_world}
use Rattle.model.specs.Changes.{Change, apply_all, nothing, Effect}
use Rattle.model.specs.Runs.{Outcome, run, entry_at}
use Rattle.model.specs.Accesses.{Access, Answer, Kind, Row, kind_of, number_of, row, fit, checks, settled, access}
use Rattle.model.specs.RegisterMap.{Resource, port, dma_register, dmactl, arbutil, interrupts_of, mail_from, shared_at, unmodelled, resource_at, is_modelled}
use Rattle.model.specs.Registers.{RegisterAccess, plainly, flag_written, flags_written, register_row, register_row_of, register_checks, register_access}
use Rattle.model.specs.Bursts.{Told}
use Rattle.model.specs.Calls.{Call, direct, register, bursting, plain, call}
use Rattle.model.proofs.TestLaws.{no_both, if_case}
use Rattle.model.proofs.CheckLaws.{Pass}
use Rattle.model.proofs.RegisterLaws.{register_passed, flag_same}
use Rattle.model.proofs.BurstLaws.{burst_keeps}
use Rattle.reordering.specs.Roles.{steps, none, roles, moved, Owned}
use Rattle.reordering.specs.Reordering.{Touch, starting, start_touches, done_touches, disturbs, quiet, done_action, action_of}
use Rattle.reordering.specs.CallReordering.{register_action, call_action, Reply, noted, noted_action, is_dma, done_here, quiet_call, CallsMove}
use Rattle.reordering.proofs.Moving.{Follows, Exchange, moved_same, moved_perm, owned}
use Rattle.reordering.proofs.Commute.{Plain, keep_transfer, Like}
use Rattle.reordering.proofs.PlainKinds.{plain_transfer}
use Rattle.reordering.proofs.Stepping.{opened, open_in, idle_is, After, after_follows, after_open, transfer_after}
use Rattle.reordering.proofs.Exchange.{Swapped, swap_refused, swap_done, step_told, swapped, fresh_idle}
use Rattle.reordering.proofs.BurstExchange.{either, no_steps, burst_swapped}

-- THE PREMISE

-- "In demand 3's premise any access to a DMA register counts as a start", whatever its side, direction, dword and answer
pub dma_counts : (t : Request) (side direction dword : ℕ) (r : Reply) →
    map (λ offset. quiet_call t (record { access = register (record { side = side; offset = offset; direction = direction; dword = dword }); answer = r })) (0x04B0 ∷ 0x04B4 ∷ 0x04B8 ∷ 0x04BC ∷ [])
    ≡ false ∷ false ∷ false ∷ false ∷ []
dma_counts t side direction dword r = refl

-- THE FLAGS

plain_append : (cs ds : List Change) → All Plain cs → All Plain ds → All Plain (cs ++ ds)
plain_append [] ds p q = q
plain_append (c ∷ cs) ds p q = (p.0, plain_append cs ds p.1 q)

flag_plain : (w : World) (side : Side) (d k : ℕ) → All Plain (flag_written w side d k).changes
flag_plain w side d k = by (bit (flag_bit side k) d)
  where
    by : (b : Bool) → All Plain (row (if b then Kind.claim else Kind.release) w side k 0 0 0).effect.changes
    by true = if_case (λ (e : Effect). All Plain e.changes) (flag (other side) (pair_of w.card.arbitration k)) _ _ (λ _. tt) (λ _. (tt, tt))
    by false = (tt, tt)

flags_plain : (w : World) (side : Side) (d : ℕ) (ks : List ℕ) → All Plain (flags_written w side d ks).changes
flags_plain w side d [] = tt
flags_plain w side d (k ∷ ks) = plain_append (flag_written w side d k).changes (flags_written w side d ks).changes (flag_plain w side d k) (flags_plain w side d ks)

flags_same : (w w' : World) (side : Side) (d : ℕ) (ks : List ℕ) → w'.card.arbitration ≡ w.card.arbitration → flags_written w' side d ks ≡ flags_written w side d ks
flags_same w w' side d [] e = refl
flags_same w w' side d (k ∷ ks) e = rw (flag_same w w' side d k (rw e), flags_same w w' side d ks e)

-- THE FIRST LAW

-- what a done register access leaves of the transfer
register_leaves : (x : Resource) (n : ℕ) (w : World) (side d : ℕ) → Pass (register_row x n w (side_of side) d).checks →
    After (register_action x n w.card.dma d) w.card.transfer (apply_all (register_row x n w (side_of side) d).effect.changes w.card).transfer
register_leaves (port taken put) zero w side d p = plain_transfer Kind.take tt w (record { kind = 5; side = side; s = taken; a = 0; b = d; c = 0 })
register_leaves (port taken put) (suc zero) w side d p = plain_transfer Kind.put tt w (record { kind = 6; side = side; s = put; a = 0; b = d; c = 0 })
register_leaves (dma_register r) zero w side d p = refl
register_leaves (dma_register r) (suc zero) w side d p = refl
register_leaves dmactl zero w side d p = refl
register_leaves dmactl (suc zero) w side d p = (idle_is w.card.transfer (not-false (is_idle w.card.transfer) p.1.0), refl)
register_leaves arbutil zero w side d p = refl
register_leaves arbutil (suc zero) w side d p =
    keep_transfer (flags_written w (side_of side) d (0 ∷ 1 ∷ 2 ∷ 3 ∷ [])).changes (flags_plain w (side_of side) d (0 ∷ 1 ∷ 2 ∷ 3 ∷ [])) w.card
register_leaves (interrupts_of owner) zero w side d p = refl
register_leaves (interrupts_of owner) (suc zero) w side d p = refl
register_leaves (mail_from writer) zero w side d p =
    if_case (λ (r : Row). (apply_all r.effect.changes w.card).transfer ≡ w.card.transfer) (not_by writer (side_of side)) _ _ (λ _. refl) (λ _. refl)
register_leaves (mail_from writer) (suc zero) w side d p = plain_transfer Kind.mailbox_write tt w (record { kind = 9; side = side; s = 0; a = 0; b = d; c = 0 })
register_leaves (shared_at a) zero w side d p = refl
register_leaves (shared_at a) (suc zero) w side d p = refl
register_leaves unmodelled zero w side d p = refl
register_leaves unmodelled (suc zero) w side d p = refl
register_leaves x (suc (suc n)) w side d p = no_both (sym p.0)

register_after : (w : World) (q : RegisterAccess) → After (call_action w (register q) (register_access w q).answer) w.card.transfer (register_access w q).world.card.transfer
unfolding register_access
register_after w q = by (refusal (register_checks w q)) refl
  where
    by : (n : ℕ) → refusal (register_checks w q) ≡ n →
        After (call_action w (register q) (settled n (register_row_of w q).effect w).answer) w.card.transfer (settled n (register_row_of w q).effect w).world.card.transfer
    by zero h = register_leaves (resource_at q.offset) q.direction w q.side q.dword (register_passed w q h).1.1.1
    by (suc n) h = rw (eqb-suc-zero n) refl

pub call_after : (w : World) (c : Call) → After (noted_action (entry_at noted w c)) w.card.transfer (noted w c).world.card.transfer
call_after w (direct q) = transfer_after w q
call_after w (register q) = register_after w q
call_after w (bursting b) = ap (λ (s : State). s.transfer) (burst_keeps w b).card

-- THE SECOND LAW

-- a row that always refuses
never : {X : Type 0} (a b c : Bool) (m : ℕ) (cs : List Check) → refusal ((1 for a) ∷ (2 for b) ∷ (11 for c) ∷ (suc m for true) ∷ cs) ≡ 0 → X
never true b c m cs e = absurd (omega arith)
never false true c m cs e = absurd (omega arith)
never false false true m cs e = absurd (omega arith)
never false false false m cs e = absurd (omega arith)

-- what is asked of a resource, past its offset
module _ (side d : ℕ) where
  abbrev number : Resource → (direction : ℕ) → World → ℕ
  number x n w = refusal ((1 for not (fit w)) ∷ (2 for above 1 side) ∷ (11 for not (is_modelled x)) ∷ (register_row x n w (side_of side) d).checks)

  abbrev act : Resource → (direction : ℕ) → World → Outcome Answer World
  act x n w = settled (number x n w) (register_row x n w (side_of side) d).effect w

  -- but for the DMA registers, the checks look only at the access
  same_checks : (x : Resource) → is_dma x ≡ false → (n : ℕ) (w w' : World) → refusal (register_row x n w' (side_of side) d).checks ≡ refusal (register_row x n w (side_of side) d).checks
  same_checks (port taken put) z zero w w' = refl
  same_checks (port taken put) z (suc zero) w w' = refl
  same_checks (dma_register p) z zero w w' = no_both (sym z)
  same_checks (dma_register p) z (suc zero) w w' = no_both (sym z)
  same_checks dmactl z zero w w' = no_both (sym z)
  same_checks dmactl z (suc zero) w w' = no_both (sym z)
  same_checks arbutil z zero w w' = refl
  same_checks arbutil z (suc zero) w w' = refl
  same_checks (interrupts_of owner) z zero w w' = refl
  same_checks (interrupts_of owner) z (suc zero) w w' = refl
  same_checks (mail_from writer) z zero w w' = by (not_by writer (side_of side))
    where
      by : (b : Bool) → refusal (if b then row Kind.mailbox_read w' (side_of side) 0 0 d 0 else plainly d (mail_for (other writer) w'.card.mailboxes)).checks
          ≡ refusal (if b then row Kind.mailbox_read w (side_of side) 0 0 d 0 else plainly d (mail_for (other writer) w.card.mailboxes)).checks
      by true = refl
      by false = refl
  same_checks (mail_from writer) z (suc zero) w w' = refl
  same_checks (shared_at a) z zero w w' = refl
  same_checks (shared_at a) z (suc zero) w w' = refl
  same_checks unmodelled z zero w w' = refl
  same_checks unmodelled z (suc zero) w w' = refl
  same_checks x z (suc (suc n)) w w' = refl

  same_number : (x : Resource) → is_dma x ≡ false → (n : ℕ) (w w' : World) → fit w ≡ true → fit w' ≡ true → number x n w' ≡ number x n w
  same_number x z n w w' f f' = rw (f, f', same_checks x z n w w')

  module _ (w : World) (s : Access) (t : Request) (q : List Request) (b : Bool) (o : opened w ≡ t ∷ q) where
    -- an access of document 01
    module _ (x : Resource) (n : ℕ) (a : Access) (is : (w : World) → act x n w ≡ access w a) (k : action_of (entry_at access (act x n w).world s) ≡ steps b) where
      -- of a kind that is nothing to the transfers
      as_access : ((m : Bool) → (if m then done_action (kind_of a.kind) a (access w a).answer.v else none) ≡ none) → quiet t (entry_at access w a) ≡ true → Swapped (act x n) w s
      as_access acts calm =
          let idles : (c : Bool) → action_of (entry_at access w a) ≢ steps c = λ c e. no_steps c (sym (acts (eqb (access w a).answer.number 0)) ∙ e) in
          let y = swapped w a s t q b o idles calm (subst (λ (p : Outcome Answer World). action_of (entry_at access p.world s) ≡ steps b) (is w) k) in
          record {
            step = y.step ∙ ap (λ (p : Outcome Answer World). (access p.world s).answer) (sym (is w));
            other = ap (λ (p : Outcome Answer World). p.answer) (is (access w s).world) ∙ y.other ∙ ap (λ (p : Outcome Answer World). p.answer) (sym (is w));
            world = ap (λ (p : Outcome Answer World). p.world) (is (access w s).world) ∙ y.world ∙ ap (λ (p : Outcome Answer World). (access p.world s).world) (sym (is w));
          }

      -- and touches nothing
      untouched : ((m : Bool) → (if m then done_action (kind_of a.kind) a (access w a).answer.v else none) ≡ none) →
          ((m : Bool) → start_touches (entry_at access w a) ++ (if m then done_touches (kind_of a.kind) a else []) ≡ []) → Swapped (act x n) w s
      untouched acts quiets = as_access acts (ap (every (λ touch. not (disturbs t touch))) (quiets (eqb (access w a).answer.number 0)))

    -- no access of document 01, and it looks at nothing that a step changes
    module _ (x : Resource) (z : is_dma x ≡ false) (n : ℕ) (k : action_of (entry_at access (act x n w).world s) ≡ steps b) where
      stepped_there : (s.kind ≡ number_of Kind.step) × (refusal (checks (act x n w).world s) ≡ 0)
      stepped_there = step_told (act x n w).world s b k

      refused_alike : (m : ℕ) → number x n w ≡ suc m → Swapped (act x n) w s
      refused_alike m e =
          swap_refused (act x n) w s stepped_there.0 stepped_there.1 (suc m) (ap (λ m. settled m (register_row x n w (side_of side) d).effect w) e)
          (λ w' p l f. ap (λ m. settled m (register_row x n w' (side_of side) d).effect w') (same_number x z n w w' p.fits f ∙ e))

      done_alike : fit w ≡ true → number x n w ≡ 0 → All Plain (register_row x n w (side_of side) d).effect.changes → (register_row x n w (side_of side) d).effect.store ≡ nothing →
          ((w' : World) → Like w.card w'.card → (register_row x n w' (side_of side) d).effect ≡ (register_row x n w (side_of side) d).effect) → Swapped (act x n) w s
      done_alike f e plain stored same = by w.card.transfer refl o
        where
          by : (r : Transfer) → w.card.transfer ≡ r → open_in r ≡ t ∷ q → Swapped (act x n) w s
          by idle g h = absurd (let z : ◌≡◌ {A = ℕ} 0 1 = cc in omega arith)
          by (running u i) g h =
              swap_done (act x n) w s stepped_there.0 stepped_there.1 u i g f (register_row x n w (side_of side) d).effect
              (ap (λ m. settled m (register_row x n w (side_of side) d).effect w) e) plain (rw stored tt)
              (λ w' is l f'. ap (λ m. settled m (register_row x n w' (side_of side) d).effect w') (same_number x z n w w' f f' ∙ e) ∙ ap (λ e. settled 0 e w') (same w' l))

      -- .. so it is refused alike, or done
      settles : (number x n w ≡ 0 → fit w ≡ true → Swapped (act x n) w s) → Swapped (act x n) w s
      settles f = by (number x n w) refl
        where
          fits : (b : Bool) (m : ℕ) → (if not b then 1 else m) ≡ 0 → b ≡ true
          fits true m e = refl
          fits false m e = absurd (omega arith)

          by : (m : ℕ) → number x n w ≡ m → Swapped (act x n) w s
          by zero e = f e (fits (fit w) _ e)
          by (suc m) e = refused_alike m e

    abbrev still : List Touch → Bool
    still l = every (λ touch. not (disturbs t touch)) l

    -- what the access touches where it is answered with this number
    abbrev touched : Resource → (direction m : ℕ) → List Touch
    touched x n m = (if is_dma x then starting ∷ [] else []) ++ (if eqb m 0 then done_here x n else [])

    resource_swaps : (x : Resource) (n : ℕ) → still (touched x n (act x n w).answer.number) ≡ true → action_of (entry_at access (act x n w).world s) ≡ steps b → Swapped (act x n) w s
    unfolding access
    resource_swaps (port taken put) zero calm k = untouched (port taken put) zero (record { kind = 5; side = side; s = taken; a = 0; b = d; c = 0 }) (λ w. refl) k either either
    resource_swaps (port taken put) (suc zero) calm k = untouched (port taken put) (suc zero) (record { kind = 6; side = side; s = put; a = 0; b = d; c = 0 }) (λ w. refl) k either either
    resource_swaps (dma_register p) zero calm k = no_both calm
    resource_swaps (dma_register p) (suc zero) calm k = no_both calm
    resource_swaps dmactl zero calm k = no_both calm
    resource_swaps dmactl (suc zero) calm k = no_both calm
    resource_swaps arbutil zero calm k = settles arbutil refl zero k (λ e f. done_alike arbutil refl zero k f e tt refl (λ w' l. rw l.arbitration))
    resource_swaps arbutil (suc zero) calm k =
        settles arbutil refl (suc zero) k
        (λ e f. done_alike arbutil refl (suc zero) k f e (flags_plain w (side_of side) d (0 ∷ 1 ∷ 2 ∷ 3 ∷ [])) refl (λ w' l. flags_same w w' (side_of side) d (0 ∷ 1 ∷ 2 ∷ 3 ∷ []) l.arbitration))
    resource_swaps (interrupts_of owner) zero calm k =
        settles (interrupts_of owner) refl zero k (λ e f. no_both (subst (λ m. still (touched (interrupts_of owner) zero (settled m (register_row (interrupts_of owner) zero w (side_of side) d).effect w).answer.number) ≡ true) e calm))
    resource_swaps (interrupts_of owner) (suc zero) calm k =
        settles (interrupts_of owner) refl (suc zero) k (λ e f. no_both (subst (λ m. still (touched (interrupts_of owner) (suc zero) (settled m (register_row (interrupts_of owner) (suc zero) w (side_of side) d).effect w).answer.number) ≡ true) e calm))
    resource_swaps (mail_from writer) zero calm k = by (not_by writer (side_of side)) refl
      where
        by : (b : Bool) → not_by writer (side_of side) ≡ b → Swapped (act (mail_from writer) zero) w s
        by true e = untouched (mail_from writer) zero (record { kind = 10; side = side; s = 0; a = 0; b = d; c = 0 }) (λ w. rw e) k either either
        by false e =
            settles (mail_from writer) refl zero k
            (λ z f. done_alike (mail_from writer) refl zero k f z (rw e tt) (rw e refl) (λ w' l. rw (e, l.mailboxes)))
    resource_swaps (mail_from writer) (suc zero) calm k = by (not_by writer (side_of side)) refl
      where
        by : (b : Bool) → not_by writer (side_of side) ≡ b → Swapped (act (mail_from writer) (suc zero)) w s
        by true e = settles (mail_from writer) refl (suc zero) k (λ z f. never (not (fit w)) (above 1 side) false 4 (row Kind.mailbox_write w (side_of side) 0 0 d 0).checks (rw e at z))
        by false e = untouched (mail_from writer) (suc zero) (record { kind = 9; side = side; s = 0; a = 0; b = d; c = 0 }) (λ w. rw e) k either either
    resource_swaps (shared_at a) zero calm k = as_access (shared_at a) zero (record { kind = 1; side = side; s = 0; a = a; b = d; c = 0 }) (λ w. refl) k either calm
    resource_swaps (shared_at a) (suc zero) calm k = as_access (shared_at a) (suc zero) (record { kind = 2; side = side; s = 0; a = a; b = d; c = 0 }) (λ w. refl) k either calm
    resource_swaps unmodelled zero calm k = settles unmodelled refl zero k (λ e f. never (not (fit w)) (above 1 side) true 0 [] e)
    resource_swaps unmodelled (suc zero) calm k = settles unmodelled refl (suc zero) k (λ e f. never (not (fit w)) (above 1 side) true 0 [] e)
    resource_swaps x (suc (suc n)) calm k = by (is_dma x) refl
      where
        by : (b : Bool) → is_dma x ≡ b → Swapped (act x (suc (suc n))) w s
        by true e = no_both (rw e at calm)
        by false e = settles x e (suc (suc n)) k (λ z f. never (not (fit w)) (above 1 side) (not (is_modelled x)) 3 [] z)

-- a register access and a step
pub register_swapped : (w : World) (o : RegisterAccess) (s : Access) (t : Request) (q : List Request) (b : Bool) → opened w ≡ t ∷ q →
    quiet_call t (entry_at noted w (register o)) ≡ true → action_of (entry_at access (register_access w o).world s) ≡ steps b → Swapped (λ w. register_access w o) w s
unfolding register_access
register_swapped w o s t q b h calm k = resource_swaps o.side o.dword w s t q b h (resource_at o.offset) o.direction calm k

-- no register access is a step
register_no_step : (w : World) (o : RegisterAccess) (a : Answer) (b : Bool) → call_action w (register o) a ≢ steps b
register_no_step w o a b = by (eqb a.number 0) (resource_at o.offset) o.direction
  where
    by : (c : Bool) (x : Resource) (n : ℕ) → (if c then register_action x n w.card.dma o.dword else none) ≢ steps b
    by false x n = no_steps b
    by true (port taken put) n = no_steps b
    by true (dma_register p) n = no_steps b
    by true dmactl zero = no_steps b
    by true dmactl (suc n) = λ h. let z : ◌≡◌ {A = ℕ} 0 1 = cc in omega arith
    by true arbutil n = no_steps b
    by true (interrupts_of owner) n = no_steps b
    by true (mail_from writer) n = no_steps b
    by true (shared_at a) n = no_steps b
    by true unmodelled n = no_steps b

abbrev told : World → Call → Told → Reply
told w c a = record { told = a; action = call_action w c a.answer }

-- in a span nothing that is quiet starts a transfer, so what a call was to the transfers is the same in both orders
register_none : (w : World) (o : RegisterAccess) (a : Answer) (t : Request) → quiet_call t (record { access = register o; answer = told w (register o) (plain a) }) ≡ true →
    call_action w (register o) a ≡ none
register_none w o a t calm = by (eqb a.number 0) (resource_at o.offset) o.direction calm
  where
    by : (c : Bool) (x : Resource) (n : ℕ) →
        every (λ touch. not (disturbs t touch)) ((if is_dma x then starting ∷ [] else []) ++ (if c then done_here x n else [])) ≡ true →
        (if c then register_action x n w.card.dma o.dword else none) ≡ none
    by false x n h = refl
    by true (port taken put) n h = refl
    by true (dma_register p) n h = refl
    by true dmactl n h = no_both h
    by true arbutil n h = refl
    by true (interrupts_of owner) n h = refl
    by true (mail_from writer) n h = refl
    by true (shared_at a) n h = refl
    by true unmodelled n h = refl

pub call_exchange : Exchange noted noted_action quiet_call opened
call_exchange w o (register s) t q b h n calm k = absurd (register_no_step (call w o).world s (register_access (call w o).world s).answer b k)
call_exchange w o (bursting s) t q b h n calm k = absurd (no_steps b k)
call_exchange w (direct o) (direct s) t q b h n calm k =
    let x = swapped w o s t q b h n calm k in
    record { step = ap (λ a. told w (direct s) (plain a)) x.step; other = ap (λ a. told w (direct o) (plain a)) x.other; world = x.world }
call_exchange w (register o) (direct s) t q b h n calm k =
    let x = register_swapped w o s t q b h calm k in
    let w' = (access w s).world in
    let a = (register_access w o).answer in
    let here : call_action w (register o) a ≡ none = register_none w o a t calm in
    let there : call_action w' (register o) a ≡ none = register_none w' o a t calm in
    record {
      step = ap (λ a. told w (direct s) (plain a)) x.step;
      other = ap (λ a. told w' (register o) (plain a)) x.other ∙ ap (λ κ. record { told = plain a; action = κ }) (there ∙ sym here);
      world = x.world;
    }
call_exchange w (bursting o) (direct s) t q b h n calm k =
    let x = burst_swapped w o s t q b h calm k in
    record { step = ap (λ a. told w (direct s) (plain a)) x.step; other = ap (told w (bursting o)) x.other; world = x.world }

-- RULE 3 OF CALLS

pub call_follows : Follows noted noted_action quiet_call opened
call_follows = after_follows noted noted_action quiet_call call_after

pub calls_move : CallsMove
calls_move settings shared window calls = moved_same noted noted_action quiet_call opened call_follows call_exchange (fresh_world settings shared window) calls (fresh_idle settings)

-- the moved list holds every entry of the list once
pub every_call_once : (w : World) (calls : List Call) → Permᴰ (moved (roles noted_action (run noted w calls).entries)) (run noted w calls).entries
every_call_once w calls = moved_perm noted_action (run noted w calls).entries

-- every done step has its start
pub every_call_owned : (settings : Settings) (shared window : List ℕ) (calls : List Call) →
    Owned noted_action (roles noted_action (run noted (fresh_world settings shared window) calls).entries)
every_call_owned settings shared window calls =
    owned noted noted_action quiet_call opened call_follows (after_open noted noted_action quiet_call call_after) (fresh_world settings shared window) calls 0 [] (fresh_idle settings)
