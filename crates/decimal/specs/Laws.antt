-- How text is stored part by part, in its order or from the back, and what a buffer then holds.
use Rattle.std.specs.Prelude.{◌≡◌, Option, Some, None, IfSome, IfNone, unwrap_or, refl, List, [], ◌∷◌, ◌++◌, ℕ, zero, suc, ◌+◌, ◌*◌, ◌/◌, ◌%◌, ◌^◌, ◌<◌, ◌≤◌, length, set, take, drop}
use Rattle.std.proofs.Common.{sym, ap, ◌∙◌, pow-suc, add-zero, add-suc, suc-add, arith, length-append, take_at, length-take-le}
use Rattle.std.proofs.lemmas.List.Edits.{sets, sets-eq}
use Rattle.std.proofs.lemmas.List.{set_comm}
use Rattle.model.specs.Text.{digit, decimal_text}
use Rattle.model.proofs.TextLaws.{one_digit, last_digit}
use Rattle.decimal.specs.Bridge.{Written}

-- where there is room, the buffer is what stood in front, the text, and what stood behind
pub parts : {l m s : List ℕ} {at r : ℕ} → at + length s ≤ length l → Written l at s r m → m ≡ take at l ++ s ++ drop r l
parts {l} {s} {at} h f = rw (f.bytes, f.place) (sets-eq s l at h)

-- up to the place after, it is what stood in front and the text
pub text_there : {l m s : List ℕ} {at r : ℕ} → at + length s ≤ length l → Written l at s r m → take r m ≡ take at l ++ s
text_there {l} {s} {at} {r} h f =
    rw (parts h f)
    (take_at (take at l ++ s) (drop r l) r (length-append (take at l) s ∙ omega (arith, length-take-le at l (omega arith), f.place)))

-- TWO PARTS

sets_append : (s t l : List ℕ) (i : ℕ) → sets l i (s ++ t) ≡ sets (sets l i s) (i + length s) t
sets_append [] t l i = rw add-zero
sets_append (b ∷ s) t l i =
    sets_append s t (set l i b) (suc i)
    ∙ ap (λ (k : ℕ). sets (sets (set l i b) (suc i) s) k t) (suc-add i (length s) ∙ sym (add-suc i (length s)))

set_sets : (t l : List ℕ) (i j b : ℕ) → i < j → sets (set l i b) j t ≡ set (sets l j t) i b
set_sets [] l i j b h = refl
set_sets (c ∷ t) l i j b h = ap (λ (k : List ℕ). sets k (suc j) t) (set_comm l i j b c (λ e. omega arith)) ∙ set_sets t (set l j c) i (suc j) b (omega arith)

-- the part behind may as well be stored first
sets_comm : (s t l : List ℕ) (i j : ℕ) → i + length s ≤ j → sets (sets l i s) j t ≡ sets (sets l j t) i s
sets_comm [] t l i j h = refl
sets_comm (b ∷ s) t l i j h = sets_comm s t (set l i b) (suc i) j (omega arith) ∙ ap (λ (k : List ℕ). sets k (suc i) s) (set_sets t l i j b (omega arith))

-- one text, then another
pub then : {l m n : List ℕ} {at p r : ℕ} {s t : List ℕ} → Written l at s p m → Written m p t r n → Written l at (s ++ t) r n
then {l} {at} {s} {t} f g = record {
  place = rw length-append (omega arith);
  bytes = rw (sets_append s t l at, ← f.bytes, ← f.place) g.bytes;
}

-- WHAT IS LEFT TO STORE: `Written out p text r all` of the buffer as it stands, where `all` is how it will be at the end.
-- A loop keeps this: it is all the text at its start, and none at its end.

pub begun : (l : List ℕ) (at : ℕ) (s : List ℕ) → Written l at s (at + length s) (sets l at s)
begun l at s = record { place = refl; bytes = refl }

-- after the first part is stored, the second
pub second_left : {l m n : List ℕ} {at p r : ℕ} {s t : List ℕ} → Written l at (s ++ t) r n → Written l at s p m → Written m p t r n
second_left {l} {at} {s} {t} f g = record {
  place = omega (arith, simp length-append at f.place);
  bytes = rw (g.bytes, g.place, ← sets_append s t l at) f.bytes;
}

-- after the second part is stored, the first
pub first_left : {l m n : List ℕ} {at p r : ℕ} {s t : List ℕ} → Written l at (s ++ t) r n → Written l p t r m → Written m at s p n
first_left {l} {m} {at} {p} {s} {t} f g =
    let e : p ≡ at + length s = omega (arith, simp length-append at f.place, g.place) in
    record { place = e; bytes = rw (g.bytes, e, ← sets_comm s t l at (at + length s) (omega arith), ← sets_append s t l at) f.bytes }

pub ended : {l m : List ℕ} {at p : ℕ} {s : List ℕ} → Written m p [] (at + length s) (sets l at s) → Written l at s p m
ended f = record { place = omega (arith, f.place); bytes = sym f.bytes }

-- HOW LONG A NUMBER IS

power_some : (k : ℕ) → 1 ≤ 10 ^ k
power_some zero = omega arith
power_some (suc k) = omega (arith, pow-suc 10 k, power_some k)

digits_exactly : (k n : ℕ) → 10 ^ k ≤ n → n < 10 * 10 ^ k → length (decimal_text n) ≡ k + 1
digits_exactly zero n h g = ap length (one_digit n (omega arith))
digits_exactly (suc k) n h g =
    let p : 10 ^ suc k ≡ 10 ^ k * 10 = pow-suc 10 k in
    let some = power_some k in
    ap length (last_digit n (omega arith))
    ∙ length-append (decimal_text (n / 10)) (digit (n % 10) ∷ [])
    ∙ ap (λ (i : ℕ). i + 1) (digits_exactly k (n / 10) (omega arith) (omega arith))
    ∙ omega arith

-- by the greatest power of ten that the number holds, where it holds one
pub digits_told : (o : Option ℕ) (n : ℕ) → IfNone o (n ≡ 0) → IfSome o (λ k. 10 ^ k ≤ n) → IfSome o (λ k. n < 10 * 10 ^ k) → unwrap_or o 0 + 1 ≡ length (decimal_text n)
digits_told None n z h g = sym (ap length (one_digit n (omega arith)))
digits_told (Some k) n z h g = sym (digits_exactly k n h g)
