-- Laws of register accesses: which offsets are modelled, what is refused and what is done, ARBUTIL pair after pair, and that a sound record stays
-- sound.
use Rattle.std.specs.Prelude.{◌≡◌, refl, Bool, true, false, ◌&&◌, List, [], ◌∷◌, ◌++◌, ℕ, zero, suc, ◌+◌, ◌*◌, ◌-◌, ◌^◌, eqb, leb, ltb, if◌then◌else◌}
use Rattle.std.proofs.Common.{ap, ◌∙◌, arith, get_or-set_other, lit<, eqb-true}
use Rattle.model.specs.Checks.{refusal, multiple_of4}
use Rattle.model.specs.Sides.{Side, side_of, other, not_by}
use Rattle.model.specs.Events.{bit}
use Rattle.model.specs.Arbitration.{pair_of, flag, flag_bit}
use Rattle.model.specs.Dma.{request_in}
use Rattle.model.specs.State.{State, World, sound}
use Rattle.model.specs.Changes.{Change, apply, apply_all, nothing, Effect, done, world_after}
use Rattle.model.specs.Accesses.{Kind, Row, row, fit, settled}
use Rattle.model.specs.RegisterMap.{Resource, port, dma_register, dmactl, arbutil, interrupts_of, mail_from, shared_at, unmodelled, registers, found_in, resource_at, is_modelled}
use Rattle.model.specs.Registers.{RegisterAccess, flag_written, flags_written, register_row, register_row_of, register_checks, register_access}
use Rattle.model.proofs.TestLaws.{and_left, and_right, if_case, no_both}
use Rattle.model.specs.Choice.{All}
use Rattle.model.proofs.CheckLaws.{Positive, ascending_positive, Pass, passed_all}
use Rattle.model.proofs.Refusals.{row_ascending, settled_number}
use Rattle.model.proofs.Soundness.{Sound, sound_parts_lem, parts_sound, FineAll, fine, claim_fine, release_fine, keeps_all, Stays, settled_stays, keeps_fit}

-- THE MAP

-- "11, an offset no multiple of 4": none such is modelled, nor one outside the 32 KB
module _ (offset : ℕ) (P : ℕ → Type 0) where
  found_at : (rs : List (ℕ × Resource)) → All (λ r. P r.0) rs → is_modelled (found_in rs offset) ≡ true → P offset
  found_at [] h m = no_both m
  found_at (r ∷ rs) h m = by (eqb offset r.0) refl m (found_at rs h.1)
    where
      by : (b : Bool) → eqb offset r.0 ≡ b → is_modelled (if b then r.1 else found_in rs offset) ≡ true → (is_modelled (found_in rs offset) ≡ true → P offset) → P offset
      by true e m i = rw (eqb-true offset r.0 e) h.0
      by false e m i = i m

  modelled_at : All (λ r. P r.0) registers → ((multiple_of4 offset && (leb 0x4000 offset && ltb offset 0x8000)) ≡ true → P offset) → is_modelled (resource_at offset) ≡ true → P offset
  modelled_at h f m = by (multiple_of4 offset && (leb 0x4000 offset && ltb offset 0x8000)) refl m
    where
      by : (b : Bool) → (multiple_of4 offset && (leb 0x4000 offset && ltb offset 0x8000)) ≡ b → is_modelled (if b then shared_at (offset - 0x4000) else found_in registers offset) ≡ true → P offset
      by true e m = f e
      by false e m = found_at registers h m

pub modelled_aligned : (offset : ℕ) → is_modelled (resource_at offset) ≡ true → multiple_of4 offset ≡ true
modelled_aligned offset =
    modelled_at offset (λ n. multiple_of4 n ≡ true) (refl, (refl, (refl, (refl, (refl, (refl, (refl, (refl, (refl, (refl, (refl, (refl, (refl, tt)))))))))))))
    (λ e. and_left (multiple_of4 offset) (leb 0x4000 offset && ltb offset 0x8000) e)

pub modelled_below : (offset : ℕ) → is_modelled (resource_at offset) ≡ true → ltb offset 0x8000 ≡ true
modelled_below offset =
    modelled_at offset (λ n. ltb n 0x8000 ≡ true) (refl, (refl, (refl, (refl, (refl, (refl, (refl, (refl, (refl, (refl, (refl, (refl, (refl, tt)))))))))))))
    (λ e. and_right (leb 0x4000 offset) (ltb offset 0x8000) (and_right (multiple_of4 offset) (leb 0x4000 offset && ltb offset 0x8000) e))

-- DONE AND REFUSED

pub register_number_is : (w : World) (q : RegisterAccess) → (register_access w q).answer.number ≡ refusal (register_checks w q)
unfolding register_access
register_number_is w q = settled_number (refusal (register_checks w q)) (register_row_of w q).effect w

pub register_is : (w : World) (q : RegisterAccess) (n : ℕ) → refusal (register_checks w q) ≡ n → register_access w q ≡ settled n (register_row_of w q).effect w
unfolding register_access
register_is w q n h = ap (λ n. settled n (register_row_of w q).effect w) h

-- ARBUTIL: ITS PAIRS ONE AFTER ANOTHER

-- what is written to a pair's flags depends on that pair alone, ..
pub flag_same : (w w' : World) (side : Side) (d k : ℕ) → pair_of w'.card.arbitration k ≡ pair_of w.card.arbitration k → flag_written w' side d k ≡ flag_written w side d k
flag_same w w' side d k e = by (bit (flag_bit side k) d)
  where
    by : (b : Bool) → (row (if b then Kind.claim else Kind.release) w' side k 0 0 0).effect ≡ (row (if b then Kind.claim else Kind.release) w side k 0 0 0).effect
    by true = rw e
    by false = refl

-- .. and leaves the others
pub flag_elsewhere : (w : World) (side : Side) (d j k : ℕ) → (k ≡ j → ⊥) → (s : State) → pair_of (apply_all (flag_written w side d j).changes s).arbitration k ≡ pair_of s.arbitration k
flag_elsewhere w side d j k n s = by (bit (flag_bit side j) d)
  where
    by : (b : Bool) → pair_of (apply_all (row (if b then Kind.claim else Kind.release) w side j 0 0 0).effect.changes s).arbitration k ≡ pair_of s.arbitration k
    by true =
        if_case (λ (e : Effect). pair_of (apply_all e.changes s).arbitration k ≡ pair_of s.arbitration k) (flag (other side) (pair_of w.card.arbitration j)) _ _
        (λ _. refl) (λ _. get_or-set_other s.arbitration j k _ _ n)
    by false = get_or-set_other s.arbitration j k _ _ n

-- no two of the pairs are one
abbrev Differ : List ℕ → Type 0
Differ [] = Unit {0}
Differ (k ∷ ks) = All (λ j. j ≡ k → ⊥) ks × Differ ks

pub four_differ : Differ (0 ∷ 1 ∷ 2 ∷ 3 ∷ [])
four_differ = ((λ e. omega arith, (λ e. omega arith, (λ e. omega arith, tt))), ((λ e. omega arith, (λ e. omega arith, tt)), ((λ e. omega arith, tt), (tt, tt))))

-- of these pairs s has the flags that w has
abbrev SameFlags : (s : State) → World → List ℕ → Type 0
SameFlags s w ks = All (λ k. pair_of s.arbitration k ≡ pair_of w.card.arbitration k) ks

same_after : (w : World) (side : Side) (d j : ℕ) (s : State) (ks : List ℕ) → All (λ k. k ≡ j → ⊥) ks → SameFlags s w ks → SameFlags (apply_all (flag_written w side d j).changes s) w ks
same_after w side d j s [] n h = tt
same_after w side d j s (k ∷ ks) n h = (flag_elsewhere w side d j k n.0 s ∙ h.0, same_after w side d j s ks n.1 h.1)

-- the V of the pairs' accesses, each at its bit, and the world that they leave
pub record Turned : Type 0 where
  pub v : ℕ
  pub world : World

abbrev pub in_turn : World → Side → (dword : ℕ) → (pairs : List ℕ) → Turned
in_turn w side d [] = record { v = 0; world = w }
in_turn w side d (k ∷ ks) =
    let first = flag_written w side d k in
    let rest = in_turn (world_after first w) side d ks in
    record { v = first.v * 2 ^ flag_bit side k + rest.v; world = rest.world }

apply_append : (cs ds : List Change) (s : State) → apply_all (cs ++ ds) s ≡ apply_all ds (apply_all cs s)
apply_append [] ds s = refl
apply_append (c ∷ cs) ds s = apply_append cs ds (apply c s)

pub flag_stores : (w : World) (side : Side) (d k : ℕ) → (flag_written w side d k).store ≡ nothing
flag_stores w side d k = by (bit (flag_bit side k) d)
  where
    by : (b : Bool) → (row (if b then Kind.claim else Kind.release) w side k 0 0 0).effect.store ≡ nothing
    by true = if_case (λ (e : Effect). e.store ≡ nothing) (flag (other side) (pair_of w.card.arbitration k)) _ _ (λ _. refl) (λ _. refl)
    by false = refl

-- ARBUTIL written at once is its pairs' accesses one after another
turns : (w w' : World) (side : Side) (d : ℕ) (ks : List ℕ) → Differ ks → SameFlags w'.card w ks →
    in_turn w' side d ks ≡ record { v = (flags_written w side d ks).v; world = world_after (done 0 0 (flags_written w side d ks).changes) w' }
turns w w' side d [] n h = refl
turns w w' side d (k ∷ ks) n h =
    let e = flag_same w w' side d k h.0 in
    let after = world_after (flag_written w side d k) w' in
    let rest = turns w after side d ks n.1 (same_after w side d k w'.card ks n.0 h.1) in
    rw (e, rest, flag_stores w side d k, apply_append (flag_written w side d k).changes (flags_written w side d ks).changes w'.card)

pub flags_in_turn : (w : World) (side : Side) (d : ℕ) →
    in_turn w side d (0 ∷ 1 ∷ 2 ∷ 3 ∷ []) ≡ record { v = (flags_written w side d (0 ∷ 1 ∷ 2 ∷ 3 ∷ [])).v; world = world_after (flags_written w side d (0 ∷ 1 ∷ 2 ∷ 3 ∷ [])) w }
flags_in_turn w side d = turns w w side d (0 ∷ 1 ∷ 2 ∷ 3 ∷ []) four_differ (refl, (refl, (refl, (refl, tt))))

-- A SOUND RECORD STAYS SOUND

fine_append : (cs ds : List Change) (s : State) → FineAll cs s → FineAll ds (apply_all cs s) → FineAll (cs ++ ds) s
fine_append [] ds s f g = g
fine_append (c ∷ cs) ds s f g = (f.0, fine_append cs ds (apply c s) f.1 g)

flag_fine : (w : World) (side : Side) (d k : ℕ) (s : State) → pair_of s.arbitration k ≡ pair_of w.card.arbitration k → FineAll (flag_written w side d k).changes s
flag_fine w side d k s e = by (bit (flag_bit side k) d)
  where
    by : (b : Bool) → FineAll (row (if b then Kind.claim else Kind.release) w side k 0 0 0).effect.changes s
    by true = rw (← e) (claim_fine side k s)
    by false = (release_fine side (pair_of s.arbitration k), tt)

flags_fine : (w : World) (side : Side) (d : ℕ) (ks : List ℕ) (s : State) → Differ ks → SameFlags s w ks → FineAll (flags_written w side d ks).changes s
flags_fine w side d [] s n h = tt
flags_fine w side d (k ∷ ks) s n h =
    fine_append (flag_written w side d k).changes (flags_written w side d ks).changes s (flag_fine w side d k s h.0)
    (flags_fine w side d ks (apply_all (flag_written w side d k).changes s) n.1 (same_after w side d k s ks n.0 h.1))

register_fine : (x : Resource) (direction : ℕ) (w : World) (side : Side) (d : ℕ) → Sound w.card → Pass (register_row x direction w side d).checks →
    FineAll (register_row x direction w side d).effect.changes w.card
register_fine (port taken put) zero w side d p h = fine Kind.take w side taken 0 d 0 p h
register_fine (port taken put) (suc zero) w side d p h = fine Kind.put w side put 0 d 0 p h
register_fine (dma_register r) zero w side d p h = tt
register_fine (dma_register r) (suc zero) w side d p h = (tt, tt)
register_fine dmactl zero w side d p h = tt
register_fine dmactl (suc zero) w side d p h =
    let t = request_in w.card.dma d in
    let f = fine Kind.start w side t.direction t.shared t.pci t.size p h in
    (f.0, (tt, tt))
register_fine arbutil zero w side d p h = tt
register_fine arbutil (suc zero) w side d p h = flags_fine w side d (0 ∷ 1 ∷ 2 ∷ 3 ∷ []) w.card four_differ (refl, (refl, (refl, (refl, tt))))
register_fine (interrupts_of owner) zero w side d p h = tt
register_fine (interrupts_of owner) (suc zero) w side d p h = fine Kind.interrupt_write w side 0 0 d 0 p h.1
register_fine (mail_from writer) zero w side d p h = if_case (λ (r : Row). FineAll r.effect.changes w.card) (not_by writer side) _ _ (λ _. tt) (λ _. tt)
register_fine (mail_from writer) (suc zero) w side d p h = fine Kind.mailbox_write w side 0 0 d 0 p h.1
register_fine (shared_at a) zero w side d p h = tt
register_fine (shared_at a) (suc zero) w side d p h = tt
register_fine unmodelled zero w side d p h = tt
register_fine unmodelled (suc zero) w side d p h = tt
register_fine x (suc (suc n)) w side d p h = tt

-- the numbers of a row differ from 0
positive : (k : Kind) (w : World) (side : Side) (s a b c : ℕ) → Positive (row k w side s a b c).checks
positive k w side s a b c = ascending_positive 2 (lit< tt) (row k w side s a b c).checks (row_ascending k w side s a b c)

register_positive : (x : Resource) (direction : ℕ) (w : World) (side : Side) (d : ℕ) → Positive (register_row x direction w side d).checks
register_positive (port taken put) zero w side d = positive Kind.take w side taken 0 d 0
register_positive (port taken put) (suc zero) w side d = positive Kind.put w side put 0 d 0
register_positive (dma_register r) zero w side d = (lit< tt, tt)
register_positive (dma_register r) (suc zero) w side d = tt
register_positive dmactl zero w side d = (lit< tt, tt)
register_positive dmactl (suc zero) w side d = let t = request_in w.card.dma d in positive Kind.start w side t.direction t.shared t.pci t.size
register_positive arbutil zero w side d = (lit< tt, tt)
register_positive arbutil (suc zero) w side d = tt
register_positive (interrupts_of owner) zero w side d = positive Kind.interrupt_read w owner 0 0 d 0
register_positive (interrupts_of owner) (suc zero) w side d = (lit< tt, positive Kind.interrupt_write w side 0 0 d 0)
register_positive (mail_from writer) zero w side d =
    if_case (λ (r : Row). Positive r.checks) (not_by writer side) _ _ (λ _. positive Kind.mailbox_read w side 0 0 d 0) (λ _. (lit< tt, tt))
register_positive (mail_from writer) (suc zero) w side d = (lit< tt, positive Kind.mailbox_write w side 0 0 d 0)
register_positive (shared_at a) zero w side d = positive Kind.shared_read w side 0 a d 0
register_positive (shared_at a) (suc zero) w side d = positive Kind.shared_write w side 0 a d 0
register_positive unmodelled zero w side d = tt
register_positive unmodelled (suc zero) w side d = tt
register_positive x (suc (suc n)) w side d = (lit< tt, tt)

-- a register access that is done passed every check
pub register_passed : (w : World) (q : RegisterAccess) → refusal (register_checks w q) ≡ 0 → Pass (register_checks w q)
register_passed w q h =
    passed_all (register_checks w q)
    (lit< tt, (lit< tt, (lit< tt, register_positive (resource_at q.offset) q.direction w (side_of q.side) q.dword))) h

pub register_stays_sound : (w : World) (q : RegisterAccess) → sound w.card ≡ true → sound (register_access w q).world.card ≡ true
unfolding register_access
register_stays_sound w q h = parts_sound _ (by (refusal (register_checks w q)) refl (sound_parts_lem w.card h))
  where
    by : (n : ℕ) → refusal (register_checks w q) ≡ n → Sound w.card → Sound (settled n (register_row_of w q).effect w).world.card
    by zero e p =
        keeps_all (register_row_of w q).effect.changes w.card
        (register_fine (resource_at q.offset) q.direction w (side_of q.side) q.dword p (register_passed w q e).1.1.1) p
    by (suc n) e p = p

pub register_stays : (w : World) (q : RegisterAccess) → Stays w (register_access w q).world
unfolding register_access
register_stays w q = settled_stays w (refusal (register_checks w q)) (register_row_of w q).effect

pub register_stays_fit : (w : World) (q : RegisterAccess) → fit w ≡ true → fit (register_access w q).world ≡ true
register_stays_fit w q = keeps_fit w (register_access w q).world (register_stays w q) (register_stays_sound w q)
