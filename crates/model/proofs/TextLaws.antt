-- Laws of numbers in decimal. Written, by induction on a number through its tenth: how the text grows, how long it is, what it spells. Read: what a
-- field takes for a number, and what not.
use Rattle.std.proofs.Math.Path.{◌≡◌, refl}
use Rattle.std.proofs.Common.{sym, ap, ◌∙◌, pow-suc, div-lt_iff_lt-mul, arith, length-append, length-drop}
use Rattle.std.specs.Prelude.{Bool, ◌&&◌, ℕ, zero, suc, ◌+◌, ◌-◌, ◌*◌, ◌/◌, ◌%◌, ◌^◌, ◌≤◌, ◌<◌, length, eqb, if◌then◌else◌}
use Rattle.std.proofs.Math.Bool.{true, false, not}
use mathlib.Core.List.{List, [], ◌∷◌, ◌++◌, append_assoc, append-nil}
use Rattle.std.proofs.Math.ListN.{drop}
use Rattle.std.proofs.Math.Dec.{ltb}
use borrow.Author.Tests.{eqb-true, eq-eqb, ne_eqb, lt-ltb, le-ltb, ltb-true, ltb-false}
use Rattle.model.proofs.TestLaws.{no_both, and_left, and_right}
use Rattle.model.specs.Text.{digit, digits_within, decimal_text, line_text, end_text, refusal_text, log_text, refused_line_text, field_text, is_digit, spelt, starts_with, Field, number, unreadable, read_field, read_decimal, two_digits}

-- BY ITS TENTH

pub one_digit : (n : ℕ) → n < 10 → decimal_text n ≡ digit n ∷ []
unfolding decimal_text digits_within
one_digit n h = rw (lt-ltb n 10 h)

-- room for more digits than a number has changes nothing
enough : (k j n : ℕ) → n < k → n < j → digits_within k n ≡ digits_within j n
unfolding digits_within
enough zero j n h g = absurd (omega arith)
enough (suc k) zero n h g = absurd (omega arith)
enough (suc k) (suc j) n h g = by (ltb n 10) refl (λ l. enough k j (n / 10) (omega arith) (omega arith))
  where
    by : (b : Bool) → ltb n 10 ≡ b → (10 ≤ n → digits_within k (n / 10) ≡ digits_within j (n / 10)) → digits_within (suc k) n ≡ digits_within (suc j) n
    by true e r = rw e
    by false e r = rw (e, r (ltb-false n 10 e))

pub last_digit : (n : ℕ) → 10 ≤ n → decimal_text n ≡ decimal_text (n / 10) ++ (digit (n % 10) ∷ [])
unfolding decimal_text digits_within
last_digit n h = rw (le-ltb n 10 h, enough n (suc (n / 10)) (n / 10) (omega arith) (omega arith))

by_tenth_below : (P : ℕ → Type 0) → ((n : ℕ) → n < 10 → P n) → ((n : ℕ) → 10 ≤ n → P (n / 10) → P n) → (k n : ℕ) → n < k → P n
by_tenth_below P one more zero n h = absurd (omega arith)
by_tenth_below P one more (suc k) n h = by (ltb n 10) refl (λ l. by_tenth_below P one more k (n / 10) (omega arith))
  where
    by : (b : Bool) → ltb n 10 ≡ b → (10 ≤ n → P (n / 10)) → P n
    by true e r = one n (ltb-true n 10 e)
    by false e r = let l = ltb-false n 10 e in more n l (r l)

-- a fact of every number, from its last digit and the number before that
pub by_tenth : (P : ℕ → Type 0) → ((n : ℕ) → n < 10 → P n) → ((n : ℕ) → 10 ≤ n → P (n / 10) → P n) → (n : ℕ) → P n
by_tenth P one more n = by_tenth_below P one more (suc n) n (omega arith)

-- BY ITS HUNDREDTH: the two digits of a number below 100

pub two_digits_lem : (n : ℕ) → 10 ≤ n → n < 100 → decimal_text n ≡ two_digits n
two_digits_lem n h g = rw (last_digit n h, one_digit (n / 10) (omega arith))

pub last_two_digits : (n : ℕ) → 100 ≤ n → decimal_text n ≡ decimal_text (n / 100) ++ two_digits (n % 100)
last_two_digits n h =
    let tens : n / 10 % 10 ≡ n % 100 / 10 = omega arith in
    let ones : n % 10 ≡ n % 100 % 10 = omega arith in
    let rest : n / 10 / 10 ≡ n / 100 = omega arith in
    rw (last_digit n (omega arith), last_digit (n / 10) (omega arith), append_assoc, rest, tens, ones)

pub two_digits_longer : (n : ℕ) → 100 ≤ n → length (decimal_text n) ≡ length (decimal_text (n / 100)) + 2
two_digits_longer n h = ap length (last_two_digits n h) ∙ length-append (decimal_text (n / 100)) (two_digits (n % 100))

-- LENGTHS

-- a number below 10 to the k has at most k digits, where k is at least 1
pub digits_at_most : (k n : ℕ) → n < 10 ^ suc k → length (decimal_text n) ≤ suc k
digits_at_most zero n h = rw (one_digit n h) (omega arith)
digits_at_most (suc k) n h = by (ltb n 10) refl (digits_at_most k (n / 10) ((div-lt_iff_lt-mul (omega arith)).1 (rw (pow-suc 10 (suc k)) at h)))
  where
    by : (b : Bool) → ltb n 10 ≡ b → length (decimal_text (n / 10)) ≤ suc k → length (decimal_text n) ≤ suc (suc k)
    by true e r = rw (one_digit n (ltb-true n 10 e)) (omega arith)
    by false e r = rw (last_digit n (ltb-false n 10 e), length-append) (omega arith)

-- a number of so many bits
pub digits_8 : (n : ℕ) → n < 2 ^ 8 → length (decimal_text n) ≤ 3
digits_8 n h = digits_at_most 2 n (omega arith)

pub digits_16 : (n : ℕ) → n < 2 ^ 16 → length (decimal_text n) ≤ 5
digits_16 n h = digits_at_most 4 n (omega arith)

pub digits_32 : (n : ℕ) → n < 2 ^ 32 → length (decimal_text n) ≤ 10
digits_32 n h = digits_at_most 9 n (omega arith)

pub digits_64 : (n : ℕ) → n < 2 ^ 64 → length (decimal_text n) ≤ 20
digits_64 n h = digits_at_most 19 n (omega arith)

-- WHAT THE TEXT TELLS

digit_is : (d : ℕ) → d < 10 → is_digit (digit d) ≡ true
digit_is d h = rw (le-ltb (48 + d) 48 (omega arith), le-ltb 57 (48 + d) (omega arith))

-- The first byte is a digit. No zero in front: that of a number that is not 0 is `1` or more.
pub record Front (n : ℕ) : Type 0 where
  pub first : ℕ
  pub others : List ℕ
  pub text : decimal_text n ≡ first ∷ others
  pub digit : is_digit first ≡ true
  pub leading : 1 ≤ n → 49 ≤ first

pub front : (n : ℕ) → Front n
front = by_tenth Front
    (λ n h. record { first = digit n; others = []; text = one_digit n h; digit = digit_is n h; leading = λ p. omega arith })
    (λ n h r. record {
      first = r.first;
      others = r.others ++ (digit (n % 10) ∷ []);
      text = rw (last_digit n h, r.text);
      digit = r.digit;
      leading = λ p. r.leading (omega arith);
    })

pub digits_least : (n : ℕ) → 1 ≤ length (decimal_text n)
digits_least n = rw (front n).text (omega arith)

-- WHAT THE TEXT SPELLS

spelt_digit : (n d : ℕ) (text : List ℕ) → d < 10 → spelt n (digit d ∷ text) ≡ spelt (10 * n + d) text
unfolding spelt
spelt_digit n d text h =
    let same : 48 + d - 48 ≡ d = omega arith in
    rw (digit_is d h, same)

-- a text that starts with `n` spells what the rest of it spells after the digits of `n`
pub spelt_text : (n : ℕ) (text : List ℕ) → spelt 0 (decimal_text n ++ text) ≡ spelt n text
spelt_text = by_tenth (λ n. (text : List ℕ) → spelt 0 (decimal_text n ++ text) ≡ spelt n text)
    (λ n h text. rw (one_digit n h) (spelt_digit 0 n text h ∙ ap (λ (m : ℕ). spelt m text) (omega arith)))
    (λ n h r text. rw (last_digit n h, append_assoc, r) (spelt_digit (n / 10) (n % 10) text (omega arith) ∙ ap (λ (m : ℕ). spelt m text) (omega arith)))

-- more digits spell no smaller number
spelt_more : (n : ℕ) (text : List ℕ) → n ≤ spelt n text
unfolding spelt
spelt_more n [] = omega arith
spelt_more n (b ∷ text) = by (is_digit b) (spelt_more (10 * n + (b - 48)) text)
  where
    by : (d : Bool) → 10 * n + (b - 48) ≤ spelt (10 * n + (b - 48)) text → n ≤ (if d then spelt (10 * n + (b - 48)) text else n)
    by true h = omega arith
    by false h = omega arith

-- two numbers with one text are one number
pub text_tells : (n m : ℕ) → decimal_text n ≡ decimal_text m → n ≡ m
unfolding spelt
text_tells n m h = sym (spelt_text n []) ∙ ap (λ (t : List ℕ). spelt 0 (t ++ [])) h ∙ spelt_text m []

-- WHAT A TEXT STARTS WITH

pub starts_with_lem : (s t : List ℕ) → starts_with s (s ++ t) ≡ true
unfolding starts_with
starts_with_lem [] t = refl
starts_with_lem (b ∷ s) t = rw (eq-eqb b b refl) (starts_with_lem s t)

pub starts_is : (s text : List ℕ) → starts_with s text ≡ true → text ≡ s ++ drop (length s) text
unfolding starts_with
starts_is [] text h = refl
starts_is (b ∷ s) [] h = no_both h
starts_is (b ∷ s) (c ∷ text) h =
    let same : b ≡ c = eqb-true b c (and_left (eqb b c) (starts_with s text) h) in
    rw same (ap (c ∷◌) (starts_is s text (and_right (eqb b c) (starts_with s text) h)))

-- the rest behind a common part
starts_behind : (s t text : List ℕ) → starts_with (s ++ t) (s ++ text) ≡ starts_with t text
unfolding starts_with
starts_behind [] t text = refl
starts_behind (b ∷ s) t text = rw (eq-eqb b b refl) (starts_behind s t text)

other_first : (b c : ℕ) (s text : List ℕ) → (b ≡ c → ⊥) → starts_with (b ∷ s) (c ∷ text) ≡ false
unfolding starts_with
other_first b c s text h = rw (ne_eqb b c h)

longer : (s t text : List ℕ) → starts_with s text ≡ false → starts_with (s ++ t) text ≡ false
unfolding starts_with
longer [] t text h = no_both (sym h)
longer (b ∷ s) t [] h = refl
longer (b ∷ s) t (c ∷ text) h = by (eqb b c) h (longer s t text)
  where
    by : (same : Bool) → (same && starts_with s text) ≡ false → (starts_with s text ≡ false → starts_with (s ++ t) text ≡ false) → (same && starts_with (s ++ t) text) ≡ false
    by true h r = r h
    by false h r = refl

-- WHAT A FIELD READS

module _ (f : Field) where
  -- a number that fits and is followed by the byte after it
  pub field_stands : (n : ℕ) (text : List ℕ) → is_digit f.after ≡ false → n ≤ f.largest → read_field f (field_text n f.after ++ text) ≡ number n
  unfolding read_field spelt
  field_stands n text d h =
      let spelled : spelt 0 (field_text n f.after ++ text) ≡ n = rw append_assoc (spelt_text n (f.after ∷ text) ∙ rw d) in
      rw (spelled, le-ltb f.largest n h, starts_with_lem (field_text n f.after) text)

  -- nothing else is read
  pub field_read : {n : ℕ} (text : List ℕ) → read_field f text ≡ number n → (n ≤ f.largest) × (text ≡ field_text n f.after ++ drop (length (field_text n f.after)) text)
  unfolding read_field
  field_read {n} text h =
      by (spelt 0 text) (ltb f.largest (spelt 0 text)) (starts_with (field_text (spelt 0 text) f.after) text) refl refl h
    where
      by : (m : ℕ) (large front : Bool) → ltb f.largest m ≡ large → starts_with (field_text m f.after) text ≡ front →
          (if not large && front then number m else unreadable) ≡ number n →
          (n ≤ f.largest) × (text ≡ field_text n f.after ++ drop (length (field_text n f.after)) text)
      by m false true e g h =
          let same : m ≡ n = cc in
          rw (← same) (ltb-false f.largest m e, starts_is (field_text m f.after) text g)
      by m false false e g h = absurd (let z : ◌≡◌ {A = ℕ} 0 1 = cc in omega arith)
      by m true front e g h = absurd (let z : ◌≡◌ {A = ℕ} 0 1 = cc in omega arith)

  -- unreadable: where the text does not start with the number that it spells, as that would be written
  starts_not : (text : List ℕ) → starts_with (field_text (spelt 0 text) f.after) text ≡ false → read_field f text ≡ unreadable
  unfolding read_field
  starts_not text h = by (ltb f.largest (spelt 0 text)) (starts_with (field_text (spelt 0 text) f.after) text) h
    where
      by : (large front : Bool) → front ≡ false → (if not large && front then number (spelt 0 text) else unreadable) ≡ unreadable
      by large true h = no_both (sym h)
      by true false h = refl
      by false false h = refl

  -- where a number is followed by neither a digit nor that byte
  pub field_unclosed : (n : ℕ) (text : List ℕ) → spelt n text ≡ n → starts_with (f.after ∷ []) text ≡ false → read_field f (decimal_text n ++ text) ≡ unreadable
  field_unclosed n text e h =
      starts_not (decimal_text n ++ text) (rw (spelt_text n text, e) (starts_behind (decimal_text n) (f.after ∷ []) text ∙ h))

  -- where a number does not fit, whatever follows
  pub field_too_large : (n : ℕ) (text : List ℕ) → f.largest < n → read_field f (decimal_text n ++ text) ≡ unreadable
  unfolding read_field
  field_too_large n text h =
      rw (spelt_text n text, lt-ltb f.largest (spelt n text) (omega (arith, spelt_more n text)))

  -- where a zero is not followed by that byte
  pub field_zero : (text : List ℕ) → starts_with (f.after ∷ []) text ≡ false → read_field f (48 ∷ text) ≡ unreadable
  field_zero text h = starts_not (48 ∷ text) (by (spelt 0 (48 ∷ text)))
    where
      by : (m : ℕ) → starts_with (field_text m f.after) (48 ∷ text) ≡ false
      by zero = rw (one_digit 0 (omega arith)) (starts_behind (48 ∷ []) (f.after ∷ []) text ∙ h)
      by (suc m) = let r = front (suc m) in rw r.text (other_first r.first 48 (r.others ++ (f.after ∷ [])) text (λ e. omega (arith, r.leading (omega arith))))

  -- where the text starts with no digit
  pub field_none : (text : List ℕ) → (spelt 0 text ≡ 0) → starts_with (48 ∷ []) text ≡ false → read_field f text ≡ unreadable
  field_none text e h = starts_not text (rw (e, one_digit 0 (omega arith)) (longer (48 ∷ []) (f.after ∷ []) text h))

-- WHAT A WHOLE TEXT READS

pub spelt_whole : (n : ℕ) → spelt 0 (decimal_text n) ≡ n
unfolding spelt
spelt_whole n = ap (spelt 0) (sym (append-nil (decimal_text n))) ∙ spelt_text n []

pub starts_itself : (s : List ℕ) → starts_with s s ≡ true
starts_itself s = ap (starts_with s) (sym (append-nil s)) ∙ starts_with_lem s []

pub whole_read : (n : ℕ) → read_decimal (decimal_text n) ≡ number n
unfolding read_decimal
whole_read n = rw (spelt_whole n, starts_itself (decimal_text n))

-- two texts that start with one another are one text
both_start : (s t : List ℕ) → starts_with s t ≡ true → starts_with t s ≡ true → t ≡ s
both_start s t h k =
    let e = starts_is s t h in
    let f = starts_is t s k in
    e ∙ ap (λ (r : List ℕ). s ++ r) (none (drop (length s) t) (omega (arith, length-drop (length s) t, ap length f, length-append t (drop (length t) s)))) ∙ append-nil s
  where
    none : (l : List ℕ) → length l ≡ 0 → l ≡ []
    none [] h = refl
    none (b ∷ l) h = absurd (omega arith)

-- a number is read exactly of the text that it has
pub whole_is : (n : ℕ) (text : List ℕ) → read_decimal text ≡ number n → text ≡ decimal_text n
unfolding read_decimal
whole_is n text h = by (spelt 0 text) (starts_with (decimal_text (spelt 0 text)) text) (starts_with text (decimal_text (spelt 0 text))) refl refl h
  where
    by : (m : ℕ) (a b : Bool) → starts_with (decimal_text m) text ≡ a → starts_with text (decimal_text m) ≡ b → (if a && b then number m else unreadable) ≡ number n → text ≡ decimal_text n
    by m true true e f h = let same : m ≡ n = cc in both_start (decimal_text m) text e f ∙ ap decimal_text same
    by m false b e f h = absurd (let z : ◌≡◌ {A = ℕ} 0 1 = cc in omega arith)
    by m true false e f h = absurd (let z : ◌≡◌ {A = ℕ} 0 1 = cc in omega arith)

pub whole_none : (text : List ℕ) → ((n : ℕ) → text ≡ decimal_text n → ⊥) → read_decimal text ≡ unreadable
unfolding read_decimal
whole_none text h = by (starts_with (decimal_text (spelt 0 text)) text) (starts_with text (decimal_text (spelt 0 text))) refl refl
  where
    by : (a b : Bool) → starts_with (decimal_text (spelt 0 text)) text ≡ a → starts_with text (decimal_text (spelt 0 text)) ≡ b → (if a && b then number (spelt 0 text) else unreadable) ≡ unreadable
    by false b e f = refl
    by true false e f = refl
    by true true e f = absurd (h (spelt 0 text) (both_start (decimal_text (spelt 0 text)) text e f))

-- VECTORS

zero_text : decimal_text 0 ≡ 48 ∷ []
unfolding decimal_text digits_within
zero_text = refl

ten_text : decimal_text 10 ≡ 49 ∷ 48 ∷ []
unfolding decimal_text digits_within
ten_text = refl

greatest_text : decimal_text 4294967295 ≡ 52 ∷ 50 ∷ 57 ∷ 52 ∷ 57 ∷ 54 ∷ 55 ∷ 50 ∷ 57 ∷ 53 ∷ []
unfolding decimal_text digits_within
greatest_text = refl

-- `2 10 0 0`, `end 3` and `log 20 at 0`
line_text_lem : line_text 2 10 0 0 ≡ 50 ∷ 32 ∷ 49 ∷ 48 ∷ 32 ∷ 48 ∷ 32 ∷ 48 ∷ 10 ∷ []
unfolding line_text decimal_text digits_within
line_text_lem = refl

end_text_lem : end_text 3 ≡ 101 ∷ 110 ∷ 100 ∷ 32 ∷ 51 ∷ 10 ∷ []
unfolding end_text decimal_text digits_within
end_text_lem = refl

log_text_lem : log_text 20 0 ≡ 108 ∷ 111 ∷ 103 ∷ 32 ∷ 50 ∷ 48 ∷ 32 ∷ 97 ∷ 116 ∷ 32 ∷ 48 ∷ 10 ∷ []
unfolding refusal_text decimal_text digits_within
log_text_lem = refl

-- `log 22 at 70001` and `text 25 at 70001`: neither number starts again after 65,535
log_text_70001 : log_text 22 70001 ≡ 108 ∷ 111 ∷ 103 ∷ 32 ∷ 50 ∷ 50 ∷ 32 ∷ 97 ∷ 116 ∷ 32 ∷ 55 ∷ 48 ∷ 48 ∷ 48 ∷ 49 ∷ 10 ∷ []
unfolding refusal_text decimal_text digits_within
log_text_70001 = refl

refused_line_text_lem : refused_line_text 25 70001 ≡ 116 ∷ 101 ∷ 120 ∷ 116 ∷ 32 ∷ 50 ∷ 53 ∷ 32 ∷ 97 ∷ 116 ∷ 32 ∷ 55 ∷ 48 ∷ 48 ∷ 48 ∷ 49 ∷ 10 ∷ []
unfolding refusal_text decimal_text digits_within
refused_line_text_lem = refl
