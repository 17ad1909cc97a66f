-- A bit over time and a reason that follows it (L7): the reason names the bit's last edge. By induction along any sequence of bits.
use Rattle.std.specs.Prelude.{◌≡◌, refl, ◌↔◌, Bool, true, false, not, ℕ, zero, suc, ◌≤◌, ◌<◌, eqb, if◌then◌else◌}
use Rattle.std.proofs.Common.{ap, sym, ◌∙◌, arith, eqb-true}
use Rattle.std.proofs.lemmas.Bool.{eqb-false, not-true, not-false}
use Rattle.model.proofs.TestLaws.{no_both}
use Rattle.model.specs.Why.{Reason, never, cleared_by, set_by, turned, is_up}

-- `k` is the largest number below `n` with the property
pub record Largest (n : ℕ) (P : ℕ → Type 0) (k : ℕ) : Type 0 where
  pub below : k < n
  pub there : P k
  pub last : (j : ℕ) → k < j → j < n → P j → ⊥

-- THE LAST TIME THAT A BIT CAME UP

-- Where the bit `now` is set, the reason names the last number at which it was not.
module _ (now : ℕ → Bool) (reason says : ℕ → Reason) (P : ℕ → Type 0) (n : ℕ)
    (told : (i k : ℕ) → says i ≡ says k → i ≡ k)
    (first : (k : ℕ) → reason 0 ≡ says k → ⊥)
    (up : (i k : ℕ) → i ≤ n → reason i ≡ says k → now i ≡ true)
    (turns : (i : ℕ) → i < n → now (suc i) ≡ true → reason (suc i) ≡ (if now i then reason i else says i))
    (edge : (i : ℕ) → now i ≡ false → now (suc i) ≡ true → P i)
    (low : (i : ℕ) → P i → now i ≡ false) where
  -- one number more, at which the bit was set
  longer : (m k : ℕ) → now m ≡ true → Largest m P k → Largest (suc m) P k
  longer m k t l = record { below = omega (arith, l.below); there = l.there; last = λ j a b x. by j (eqb j m) refl a b x }
    where
      by : (j : ℕ) (t : Bool) → eqb j m ≡ t → k < j → j < suc m → P j → ⊥
      by j true e a b x = no_both (sym (low j x) ∙ ap now (eqb-true j m e) ∙ t)
      by j false e a b x = l.last j a (let d = eqb-false j m e in omega arith) x

  shorter : (m k : ℕ) → now m ≡ true → Largest (suc m) P k → Largest m P k
  shorter m k t l = record { below = by (eqb k m) refl; there = l.there; last = λ j a b x. l.last j a (omega arith) x }
    where
      by : (t : Bool) → eqb k m ≡ t → k < m
      by true e = no_both (sym (low k l.there) ∙ ap now (eqb-true k m e) ∙ t)
      by false e = let d = eqb-false k m e in let b = l.below in omega arith

  -- .. and one at which it was not
  just : (m : ℕ) → now m ≡ false → now (suc m) ≡ true → Largest (suc m) P m
  just m f t = record { below = omega arith; there = edge m f t; last = λ j a b x. absurd (omega arith) }

  only : (m k : ℕ) → now m ≡ false → now (suc m) ≡ true → Largest (suc m) P k → m ≡ k
  only m k f t l = by (eqb m k) refl
    where
      by : (t : Bool) → eqb m k ≡ t → m ≡ k
      by true e = eqb-true m k e
      by false e = absurd (l.last m (let d = eqb-false m k e in let b = l.below in omega arith) (omega arith) (edge m f t))

  abbrev LastEdge : (m k : ℕ) → Type 0
  LastEdge m k = (reason m ≡ says k) ↔ ((now m ≡ true) × Largest m P k)

  last_edge : (m k : ℕ) → m ≤ n → LastEdge m k
  last_edge zero k h = (λ e. absurd (first k e), λ l. absurd (let b = l.1.below in omega arith))
  last_edge (suc m) k h = let before = last_edge m k (omega arith) in (λ e. forth (now m) refl before (up (suc m) k h e) e, λ x. back (now m) refl before x.0 x.1)
    where
      forth : (b : Bool) → now m ≡ b → LastEdge m k → now (suc m) ≡ true → reason (suc m) ≡ says k → (now (suc m) ≡ true) × Largest (suc m) P k
      forth true e so t r = (t, longer m k e (so.0 (sym (rw e at (turns m h t)) ∙ r)).1)
      forth false e so t r = let j : m ≡ k = told m k (sym (rw e at (turns m h t)) ∙ r) in (t, rw (← j) (just m e t))

      back : (b : Bool) → now m ≡ b → LastEdge m k → now (suc m) ≡ true → Largest (suc m) P k → reason (suc m) ≡ says k
      back true e so t l = (rw e at (turns m h t)) ∙ so.1 (e, shorter m k e l)
      back false e so t l = (rw e at (turns m h t)) ∙ ap says (only m k e t l)

-- A BIT AND ITS REASON

-- The reason says whether the bit is set; where the bit falls it is cleared by that number, and where it stays clear the reason stays.
pub record Explains (n : ℕ) (shown : ℕ → Bool) (reason : ℕ → Reason) : Type 0 where
  pub first : reason 0 ≡ never
  pub up : (i : ℕ) → i ≤ n → is_up (reason i) ≡ shown i
  pub falls : (i : ℕ) → i < n → shown (suc i) ≡ false → reason (suc i) ≡ (if shown i then cleared_by i else reason i)

-- number by number as `turned` says
pub record Turning (n : ℕ) (shown : ℕ → Bool) (reason : ℕ → Reason) : Type 0 where
  pub first : reason 0 ≡ never
  pub up : (i : ℕ) → i ≤ n → is_up (reason i) ≡ shown i
  pub turns : (i : ℕ) → i < n → reason (suc i) ≡ turned i (shown (suc i)) (reason i)

module _ (n : ℕ) (shown : ℕ → Bool) (reason : ℕ → Reason) where
  pub turning_explains : Turning n shown reason → Explains n shown reason
  turning_explains h = record { first = h.first; up = h.up; falls = λ i l f. rw (f, h.up i (omega arith)) at (h.turns i l) }

  -- "never iff bit(i) = 0 for all i <= n"
  pub never_always : Explains n shown reason → (m : ℕ) → m ≤ n → (reason m ≡ never) ↔ ((i : ℕ) → i ≤ m → shown i ≡ false)
  never_always h zero l = (λ e i b. let z : i ≡ 0 = omega arith in rw z (sym (h.up 0 (omega arith)) ∙ ap is_up e), λ z. h.first)
  never_always h (suc m) l =
      let before = never_always h m (omega arith) in (
        λ e. let f : shown (suc m) ≡ false = sym (h.up (suc m) l) ∙ ap is_up e in forth (shown m) refl f before.0 (sym (h.falls m l f) ∙ e),
        λ z. (rw (z m (omega arith)) at (h.falls m l (z (suc m) (omega arith)))) ∙ before.1 (λ i b. z i (omega arith)),
      )
    where
      forth : (b : Bool) → shown m ≡ b → shown (suc m) ≡ false → (reason m ≡ never → (i : ℕ) → i ≤ m → shown i ≡ false) →
          (if b then cleared_by m else reason m) ≡ never → (i : ℕ) → i ≤ suc m → shown i ≡ false
      forth true e f so r i b = no_both (cc)
      forth false e f so r i b = by (eqb i (suc m)) refl
        where
          by : (t : Bool) → eqb i (suc m) ≡ t → shown i ≡ false
          by true d = ap shown (eqb-true i (suc m) d) ∙ f
          by false d = so r i (let c = eqb-false i (suc m) d in omega arith)

  -- "cleared r iff bit(n) = 0 and r is the largest i < n with bit(i) = 1 and bit(i+1) = 0"
  pub cleared_last : Explains n shown reason → (k : ℕ) →
      (reason n ≡ cleared_by k) ↔ ((shown n ≡ false) × Largest n (λ i. (shown i ≡ true) × (shown (suc i) ≡ false)) k)
  cleared_last h k =
      let e = last_edge (λ i. not (shown i)) reason cleared_by (λ i. (shown i ≡ true) × (shown (suc i) ≡ false)) n
      (λ i k e. cc) (λ k e. no_both (cc (h.first, e)))
      (λ i k l e. rw (sym (h.up i l) ∙ ap is_up e))
      (λ i l t. h.falls i l (not-true (shown (suc i)) t) ∙ swapped (shown i) (cleared_by i) (reason i))
      (λ i f t. (not-false (shown i) f, not-true (shown (suc i)) t)) (λ i x. rw x.0)
      n k (omega arith) in
      (λ r. (not-true (shown n) (e.0 r).0, (e.0 r).1), λ x. e.1 (rw x.0, x.1))
    where
      swapped : (b : Bool) (x y : Reason) → (if b then x else y) ≡ (if not b then y else x)
      swapped true x y = refl
      swapped false x y = refl

  -- "set r .. iff bit(n) = 1 and r is the largest i < n with bit(i) = 0"
  pub set_last : Turning n shown reason → (k : ℕ) → (reason n ≡ set_by k) ↔ ((shown n ≡ true) × Largest n (λ i. shown i ≡ false) k)
  set_last h k =
      last_edge shown reason set_by (λ i. shown i ≡ false) n
      (λ i k e. cc) (λ k e. no_both (cc (h.first, e)))
      (λ i k l e. sym (h.up i l) ∙ ap is_up e)
      (λ i l t. rw (t, h.up i (omega arith)) at (h.turns i l))
      (λ i f t. f) (λ i f. f)
      n k (omega arith)

-- the reason by the bits alone
abbrev pub by_bits : (shown : ℕ → Bool) → (n : ℕ) → Reason
by_bits shown zero = never
by_bits shown (suc n) = turned n (shown (suc n)) (by_bits shown n)

pub turning_by_bits : (n : ℕ) (shown : ℕ → Bool) (reason : ℕ → Reason) → Turning n shown reason → (m : ℕ) → m ≤ n → reason m ≡ by_bits shown m
turning_by_bits n shown reason h zero l = h.first
turning_by_bits n shown reason h (suc m) l = h.turns m l ∙ ap (turned m (shown (suc m))) (turning_by_bits n shown reason h m (omega arith))
