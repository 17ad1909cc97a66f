-- Laws of ARBUTIL in the card: a pair's access by the bit that is written, and four of them as one write.
use Rattle.std.specs.Prelude.{◌≡◌, refl, Bool, true, false, not, List, [], ◌∷◌, drop, ℕ, zero, suc, Result, Ok, ◌+◌, ◌*◌, ◌/◌, ◌%◌, ◌^◌, ◌≤◌, ◌<◌, eqb, if◌then◌else◌}
use Rattle.std.proofs.Common.{ap, sym, subst, ◌∙◌, arith, lit<, eq-eqb, ne_eqb, le-ltb}
use Rattle.model.specs.Sides.{Side, host, local, other}
use Rattle.model.specs.Events.{bit}
use Rattle.model.specs.Arbitration.{pair_of, flag, flags_value, flag_bit}
use Rattle.model.specs.State.{World}
use Rattle.model.specs.Changes.{Effect}
use Rattle.model.specs.Accesses as words
use Rattle.model.specs.Accesses.{row}
use Rattle.model.specs.RegisterMap.{arbutil}
use Rattle.model.specs.Registers.{plainly, flag_written, write_row}
use Rattle.model.proofs.TestLaws.{if_case}
use Rattle.model.proofs.RegisterLaws.{flag_stores, Turned, in_turn, flags_in_turn}
use Rattle.access.specs.declared.Done.{Done}
use Rattle.access.specs.declared.Refusal.{Refusal}
use Rattle.access.specs.Bridge.{answer_as}
use Rattle.arbitration.specs.Bridge.{arbitration_as}
use Rattle.card.specs.declared.Card.{Card}
use Rattle.card.specs.declared.Outcome.{Outcome}
use Rattle.card.specs.Bridge.{state_as, world_as, Effected, Settles}
use Rattle.card.specs.Laws.{arbitration_is, done_settles, settled_effected}
use Rattle.arbutil.specs.Bridge.{Wrote}

-- THE BITS

-- a side's flag of pair 0 has the bit 1 or 2
pub own_bit : (side : Side) → (0 < 2 ^ flag_bit side 0) × (2 ^ flag_bit side 0 ≤ 2)
own_bit host = (omega arith, omega arith)
own_bit local = (omega arith, omega arith)

-- a byte to a pair
pub own_byte : (side : Side) →
    (2 ^ flag_bit side 0 * 0x1 ≡ 2 ^ flag_bit side 0) × ((2 ^ flag_bit side 0 * 0x100 ≡ 2 ^ flag_bit side 1)
    × ((2 ^ flag_bit side 0 * 0x10000 ≡ 2 ^ flag_bit side 2) × (2 ^ flag_bit side 0 * 0x1000000 ≡ 2 ^ flag_bit side 3)))
own_byte host = (refl, (refl, (refl, refl)))
own_byte local = (refl, (refl, (refl, refl)))

-- the bit of each flag
pub bit_bound : (side : Side) (k : ℕ) → k < 4 → (0 < 2 ^ flag_bit side k) × (2 ^ flag_bit side k ≤ 33554432)
bit_bound side zero l = let o = own_bit side in (omega (arith, o), omega (arith, o))
bit_bound side (suc zero) l = let o = own_bit side in let b = (own_byte side).1.0 in (omega (arith, o, b), omega (arith, o, b))
bit_bound side (suc (suc zero)) l = let o = own_bit side in let b = (own_byte side).1.1.0 in (omega (arith, o, b), omega (arith, o, b))
bit_bound side (suc (suc (suc zero))) l = let o = own_bit side in let b = (own_byte side).1.1.1 in (omega (arith, o, b), omega (arith, o, b))
bit_bound side (suc (suc (suc (suc k)))) l = absurd (omega (arith, l))

module _ (c : Card) (m w : List ℕ) where
  -- the flags as the card has them
  pub flags_plainly : (d v : ℕ) {r : Outcome} → v ≡ flags_value (arbitration_as c.arbitration) → Settles (plainly d v) c m w r m w → Settles (plainly d (flags_value (state_as c).arbitration)) c m w r m w
  flags_plainly d v {r} e = subst (λ n. Settles (plainly d n) c m w r m w) (e ∙ ap flags_value (sym (arbitration_is c)))

  -- A PAIR'S ACCESS

  module _ (side : Side) (d k n : ℕ) (r : Outcome) (l : k < 4) (here : n ≡ 2 ^ flag_bit side k) where
    pub flag_claimed : d / n % 2 ≡ 1 → Settles (row words.claim (world_as c m w) side k 0 0 0) c m w r m w → Effected (flag_written (world_as c m w) side d k) c r
    flag_claimed e s =
        let test : bit (flag_bit side k) d ≡ true = eq-eqb (d / 2 ^ flag_bit side k % 2) 1 (rw here at e) in
        subst (λ b. Effected (row (if b then words.claim else words.release) (world_as c m w) side k 0 0 0).effect c r) (sym test)
        (settled_effected (row words.claim (world_as c m w) side k 0 0 0) c m w s (rw (le-ltb 3 k (omega arith))))

    pub flag_released : (d / n % 2 ≡ 1 → ⊥) → Settles (row words.release (world_as c m w) side k 0 0 0) c m w r m w → Effected (flag_written (world_as c m w) side d k) c r
    flag_released e s =
        let test : bit (flag_bit side k) d ≡ false = ne_eqb (d / 2 ^ flag_bit side k % 2) 1 (rw here at e) in
        subst (λ b. Effected (row (if b then words.claim else words.release) (world_as c m w) side k 0 0 0).effect c r) (sym test)
        (settled_effected (row words.release (world_as c m w) side k 0 0 0) c m w s (rw (le-ltb 3 k (omega arith))))

-- V of a claim or a release is 0 or 1
flag_v : (w : World) (side : Side) (d k n : ℕ) → let v = (flag_written w side d k).v in (if not (eqb v 0) then n else 0) ≡ v * n
flag_v w side d k n = by (bit (flag_bit side k) d)
  where
    by : (b : Bool) → let v = (row (if b then words.claim else words.release) w side k 0 0 0).effect.v in (if not (eqb v 0) then n else 0) ≡ v * n
    by true = if_case (λ (e : Effect). (if not (eqb e.v 0) then n else 0) ≡ e.v * n) (flag (other side) (pair_of w.card.arbitration k)) _ _ (λ _. omega arith) (λ _. omega arith)
    by false = omega arith

pub pair_written : (c : Card) (o : Outcome) (side : Side) (d pair n v : ℕ) → ((m w : List ℕ) → Effected (flag_written (world_as c m w) side d pair) c o) →
    n ≡ 2 ^ flag_bit side pair → v ≡ (if not (eqb (answer_as o.answer).v 0) then n else 0) → (m w : List ℕ) → Wrote (world_as c m w) side d pair o.card v m w
pair_written c o side d pair n v e here h m w =
    let f = e m w in
    record {
      v = h ∙ ap (λ (a : Result Done Refusal). if not (eqb (answer_as a).v 0) then n else 0) f.answer ∙ flag_v (world_as c m w) side d pair n ∙ rw here;
      world = rw (flag_stores (world_as c m w) side d pair, f.state);
    }

-- FOUR OF THEM

-- the pairs from the one with the number `i` on
abbrev pub pairs_from : ℕ → List ℕ
pairs_from i = drop i (0 ∷ 1 ∷ 2 ∷ 3 ∷ [])

of_none : (t : Turned) → t ≡ record { v = 0 + t.v; world = t.world }
of_none t = ap (λ n. record { v = n; world = t.world }) (omega arith)

module _ (c : Card) (side : Side) (d : ℕ) (m w : List ℕ) where
  -- the pairs below `i` are written, which left a card and V: all of them come to what those from `i` on still make of that
  abbrev pub WrittenBelow : (i : ℕ) → Card → (v : ℕ) → Type 0
  WrittenBelow i after v =
      let rest = in_turn (world_as after m w) side d (pairs_from i) in
      in_turn (world_as c m w) side d (pairs_from 0) ≡ record { v = v + rest.v; world = rest.world }

  pub none_written : WrittenBelow 0 c 0
  none_written = of_none (in_turn (world_as c m w) side d (pairs_from 0))

  one_more : (all : Turned) (before after : Card) (k : ℕ) (ks : List ℕ) (v u : ℕ) → Wrote (world_as before m w) side d k after u m w →
      (let rest = in_turn (world_as before m w) side d (k ∷ ks) in all ≡ record { v = v + rest.v; world = rest.world }) →
      (let rest = in_turn (world_as after m w) side d ks in all ≡ record { v = v + u + rest.v; world = rest.world })
  one_more all before after k ks v u h e = e ∙ rw (← h.v, ← h.world) (ap (λ n. record { v = n; world = (in_turn (world_as after m w) side d ks).world }) (omega arith))

  pub written_next : (i : ℕ) (before after : Card) (v u : ℕ) → i < 4 → WrittenBelow i before v → Wrote (world_as before m w) side d i after u m w → WrittenBelow (i + 1) after (v + u)
  written_next i before after v u l e h = subst (λ n. WrittenBelow n after (v + u)) (let n : suc i ≡ i + 1 = omega arith in n) (by i l e h)
    where
      by : (i : ℕ) → i < 4 → WrittenBelow i before v → Wrote (world_as before m w) side d i after u m w → WrittenBelow (suc i) after (v + u)
      by zero l e h = one_more _ before after 0 (1 ∷ 2 ∷ 3 ∷ []) v u h e
      by (suc zero) l e h = one_more _ before after 1 (2 ∷ 3 ∷ []) v u h e
      by (suc (suc zero)) l e h = one_more _ before after 2 (3 ∷ []) v u h e
      by (suc (suc (suc zero))) l e h = one_more _ before after 3 [] v u h e
      by (suc (suc (suc (suc i)))) l e h = absurd (omega (arith, l))

  pub all_written : (after : Card) (v : ℕ) → WrittenBelow 4 after v → Settles (write_row arbutil (world_as c m w) side d) c m w (record { card = after; answer = Ok (record { v = v; x = 0 }) }) m w
  all_written after v e =
      let same = sym e ∙ flags_in_turn (world_as c m w) side d in
      done_settles (write_row arbutil (world_as c m w) side d) c m w (record { card = after; answer = Ok (record { v = v; x = 0 }) }) refl refl
      (record { answer = ap (λ n. Ok (record { v = n; x = 0 })) (let v = ap (λ t. t.v) same in omega arith); state = ap (λ t. t.world.card) same })

  pub four_written : (c0 c1 c2 c3 : Card) (v0 v1 v2 v3 : ℕ) → Wrote (world_as c m w) side d 0 c0 v0 m w → Wrote (world_as c0 m w) side d 1 c1 v1 m w →
      Wrote (world_as c1 m w) side d 2 c2 v2 m w → Wrote (world_as c2 m w) side d 3 c3 v3 m w →
      Settles (write_row arbutil (world_as c m w) side d) c m w (record { card = c3; answer = Ok (record { v = v0 + (v1 + (v2 + v3)); x = 0 }) }) m w
  four_written c0 c1 c2 c3 v0 v1 v2 v3 h0 h1 h2 h3 =
      subst (λ v. Settles (write_row arbutil (world_as c m w) side d) c m w (record { card = c3; answer = Ok (record { v = v; x = 0 }) }) m w) (omega arith)
      (all_written c3 (0 + v0 + v1 + v2 + v3)
      (written_next 3 c2 c3 (0 + v0 + v1 + v2) v3 (lit< tt) (written_next 2 c1 c2 (0 + v0 + v1) v2 (lit< tt) (written_next 1 c0 c1 (0 + v0) v1 (lit< tt) (written_next 0 c c0 0 v0 (lit< tt) none_written h0) h1) h2) h3))
