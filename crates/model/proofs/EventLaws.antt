-- Laws of event sets, each said once over the position: which bits a set has after each operation, and that sets with the same bits are equal.
use Rattle.std.specs.Prelude.{◌≡◌, refl, Bool, true, false, not, ◌&&◌, ◌||◌, ℕ, zero, suc, ◌+◌, ◌-◌, ◌*◌, ◌/◌, ◌%◌, ◌^◌, ◌≤◌, ◌<◌, min, eqb}
use Rattle.std.proofs.Common.{ap, ap₂, sym, ◌∙◌, arith, div-one, eqb-true, eq-eqb}
use Rattle.std.proofs.Math.Nat.{div-div-eq-div-mul, pow-succ', zero-div}
use Rattle.std.specs.Int.Bits.{bit_or, bit_and, and_step}
use Rattle.std.proofs.lemmas.Nat.{and_le_l, and_shr, or_shr, and_mod, or_mod}
use Rattle.std.proofs.Math.Dec.{eqb-zero-suc, eqb-suc-zero, eqb-suc-suc}
use Rattle.model.specs.Events.{Event, position, bit, mask, insert, common, without, within}
use Rattle.model.proofs.TestLaws.{no_both, and_left, and_right}

-- THE BITS OF A NUMBER

pub bit_next : (p n : ℕ) → bit (suc p) n ≡ bit p (n / 2)
bit_next p n = rw (pow-succ', ← div-div-eq-div-mul)

-- what holds of the binary digits holds of the lowest digits of two numbers
digits : (P : ℕ → ℕ → Type 0) → P 0 0 → P 0 1 → P 1 0 → P 1 1 → (a b : ℕ) → P (a % 2) (b % 2)
digits P p q r s a b = by (a % 2) (b % 2) (omega arith) (omega arith)
  where
    by : (x y : ℕ) → x < 2 → y < 2 → P x y
    by zero zero h k = p
    by zero (suc zero) h k = q
    by (suc zero) zero h k = r
    by (suc zero) (suc zero) h k = s
    by zero (suc (suc y)) h k = absurd (omega arith)
    by (suc zero) (suc (suc y)) h k = absurd (omega arith)
    by (suc (suc x)) y h k = absurd (omega arith)

-- numbers with the same bits are equal
same_upto : (n a b : ℕ) → a ≤ n → b ≤ n → ((p : ℕ) → bit p a ≡ bit p b) → a ≡ b
same_upto zero a b h k e = omega arith
same_upto (suc n) a b h k e =
    let halves : a / 2 ≡ b / 2 = same_upto n (a / 2) (b / 2) (omega arith) (omega arith) (λ p. sym (bit_next p a) ∙ e (suc p) ∙ bit_next p b) in
    let lowest : a % 2 ≡ b % 2 = digits (λ x y. eqb x 1 ≡ eqb y 1 → x ≡ y) (λ _. refl) (λ e. no_both e) (λ e. no_both (sym e)) (λ _. refl) a b (rw (div-one a, div-one b) at (e 0)) in
    omega arith

pub same_bits : (a b : ℕ) → ((p : ℕ) → bit p a ≡ bit p b) → a ≡ b
same_bits a b = same_upto (a + b) a b (omega arith) (omega arith)

-- MEMBERSHIP AFTER EACH OPERATION

pub bit_common : (p a b : ℕ) → bit p (common a b) ≡ (bit p a && bit p b)
bit_common p a b =
    ap (λ n. eqb (n % 2) 1) (and_shr a b p) ∙ ap (λ n. eqb n 1) (and_mod (a / 2 ^ p) (b / 2 ^ p) 1)
    ∙ digits (λ x y. eqb (bit_and x y) 1 ≡ (eqb x 1 && eqb y 1)) refl refl refl refl (a / 2 ^ p) (b / 2 ^ p)

pub bit_or_lem : (p a b : ℕ) → bit p (bit_or a b) ≡ (bit p a || bit p b)
bit_or_lem p a b =
    ap (λ n. eqb (n % 2) 1) (or_shr a b p) ∙ ap (λ n. eqb n 1) (or_mod (a / 2 ^ p) (b / 2 ^ p) 1)
    ∙ digits (λ x y. eqb (bit_or x y) 1 ≡ (eqb x 1 || eqb y 1)) refl refl refl refl (a / 2 ^ p) (b / 2 ^ p)

-- `without`, a digit at a time
without_half : (s n : ℕ) → without s n / 2 ≡ without (s / 2) (n / 2)
without_half s n = let e = and_step s n in let l = and_le_l (s / 2) (n / 2) in omega arith

without_digit : (s n : ℕ) → without s n % 2 ≡ s % 2 - min (s % 2) (n % 2)
without_digit s n = let e = and_step s n in let l = and_le_l (s / 2) (n / 2) in omega arith

pub bit_without : (p s n : ℕ) → bit p (without s n) ≡ (bit p s && not (bit p n))
bit_without zero s n = rw (div-one (without s n), div-one s, div-one n, without_digit s n) (digits (λ x y. eqb (x - min x y) 1 ≡ (eqb x 1 && not (eqb y 1))) refl refl refl refl s n)
bit_without (suc p) s n =
    bit_next p (without s n) ∙ ap (bit p) (without_half s n) ∙ bit_without p (s / 2) (n / 2)
    ∙ ap₂ (λ a b. a && not b) (sym (bit_next p s)) (sym (bit_next p n))

power_half : (k : ℕ) → 2 ^ suc k / 2 ≡ 2 ^ k
power_half k = rw pow-succ' (omega arith)

pub no_bit : (p : ℕ) → bit p 0 ≡ false
no_bit p = let e : 0 / 2 ^ p ≡ 0 = zero-div (2 ^ p) in rw e

pub bit_power : (p k : ℕ) → bit p (2 ^ k) ≡ eqb p k
bit_power zero zero = refl
bit_power zero (suc k) = rw (div-one, pow-succ', eqb-zero-suc k) (eq_zero (2 ^ k))
  where
    eq_zero : (n : ℕ) → eqb (2 * n % 2) 1 ≡ false
    eq_zero n = let e : 2 * n % 2 ≡ 0 = omega arith in rw e
bit_power (suc p) zero = bit_next p 1 ∙ no_bit p ∙ sym (eqb-suc-zero p)
bit_power (suc p) (suc k) = bit_next p (2 ^ suc k) ∙ ap (bit p) (power_half k) ∙ bit_power p k ∙ sym (eqb-suc-suc p k)

-- an event more
pub bit_insert : (p set : ℕ) (e : Event) → bit p (insert set e) ≡ (bit p set || eqb p (position e))
bit_insert p set e = bit_or_lem p set (mask e) ∙ ap (bit p set ||◌) (bit_power p (position e))

-- "A 0 clears nothing": a bit stays as it was where the bits cleared have a 0.
pub zero_clears_nothing : (p set n : ℕ) → bit p n ≡ false → bit p (without set n) ≡ bit p set
zero_clears_nothing p set n h = bit_without p set n ∙ ap (λ b. bit p set && not b) h ∙ keep (bit p set)
  where
    keep : (b : Bool) → (b && true) ≡ b
    keep true = refl
    keep false = refl

-- and a 1 clears
pub one_clears : (p set n : ℕ) → bit p n ≡ true → bit p (without set n) ≡ false
one_clears p set n h = bit_without p set n ∙ ap (λ b. bit p set && not b) h ∙ gone (bit p set)
  where
    gone : (b : Bool) → (b && false) ≡ false
    gone true = refl
    gone false = refl

-- RAISING COMMUTES

pub insert_comm : (set : ℕ) (d e : Event) → insert (insert set d) e ≡ insert (insert set e) d
insert_comm set d e = same_bits _ _ (λ p.
    bit_insert p (insert set d) e ∙ ap (◌|| eqb p (position e)) (bit_insert p set d)
    ∙ swap (bit p set) (eqb p (position d)) (eqb p (position e))
    ∙ sym (bit_insert p (insert set e) d ∙ ap (◌|| eqb p (position d)) (bit_insert p set e)))
  where
    swap : (a b c : Bool) → (a || b || c) ≡ (a || c || b)
    swap true b c = refl
    swap false true true = refl
    swap false true false = refl
    swap false false true = refl
    swap false false false = refl

-- WHAT STAYS WITHIN

pub within_bit : (set all p : ℕ) → within set all ≡ true → bit p set ≡ true → bit p all ≡ true
within_bit set all p h k =
    and_right (bit p set) (bit p all) (sym (bit_common p set all) ∙ ap (bit p) (eqb-true (common set all) set h) ∙ k)

pub bits_within : (set all : ℕ) → ((p : ℕ) → bit p set ≡ true → bit p all ≡ true) → within set all ≡ true
bits_within set all h = eq-eqb _ _ (same_bits _ _ (λ p. bit_common p set all ∙ one (bit p set) (bit p all) (h p)))
  where
    one : (a b : Bool) → (a ≡ true → b ≡ true) → (a && b) ≡ a
    one true b f = f refl
    one false b f = refl

pub within_insert : (set all : ℕ) (e : Event) → within set all ≡ true → within (mask e) all ≡ true → within (insert set e) all ≡ true
within_insert set all e h k = bits_within (insert set e) all (λ p b.
    one (bit p set) (bit p (mask e)) (within_bit set all p h) (within_bit (mask e) all p k) (sym (bit_or_lem p set (mask e)) ∙ b))
  where
    one : (a b : Bool) {c : Bool} → (a ≡ true → c ≡ true) → (b ≡ true → c ≡ true) → (a || b) ≡ true → c ≡ true
    one true b f g t = f refl
    one false b f g t = g t

pub within_without : (set n all : ℕ) → within set all ≡ true → within (without set n) all ≡ true
within_without set n all h = bits_within (without set n) all (λ p b. within_bit set all p h (and_left (bit p set) (not (bit p n)) (sym (bit_without p set n) ∙ b)))

pub within_common : (n all : ℕ) → within (common n all) all ≡ true
within_common n all = bits_within (common n all) all (λ p b. and_right (bit p n) (bit p all) (sym (bit_common p n all) ∙ b))
