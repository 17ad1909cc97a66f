-- A number half read: its digits in front, one more, and what is read where they end.
use Rattle.std.specs.Prelude.{◌≡◌, refl, Bool, true, false, not, ◌&&◌, ◌||◌, Some, None, List, [], ◌∷◌, ◌++◌, ℕ, zero, suc, ◌+◌, ◌-◌, ◌*◌, ◌/◌, ◌%◌, ◌<◌, ◌≤◌, length, get_or, drop, eqb, ltb, leb, min, if◌then◌else◌}
use Rattle.std.specs.Bool.{then_some}
use Rattle.std.proofs.Common.{sym, ap, ◌∙◌, append_assoc, append-nil, arith, length-append, length-drop, drop_of_length-le, drop-cons, ne_eqb, eqb-true, lt-ltb, le-ltb, ltb-true, ltb-false, leb-true, leb-false, add-one}
use Rattle.std.proofs.lemmas.Bool.{eqb-false, not-true}
use Rattle.std.proofs.lemmas.Option.{cond_some}
use Rattle.model.proofs.TestLaws.{no_both, and_left, and_right}
use Rattle.model.specs.Text as model
use Rattle.model.specs.Text.{digit, decimal_text, field_text, is_digit, spelt, starts_with, read_field, read_decimal}
use Rattle.model.proofs.TextLaws.{one_digit, last_digit, front, digits_least, spelt_text, spelt_whole, whole_read, whole_none, field_stands, field_unclosed, field_too_large, field_zero, field_none}
use Rattle.decimal.specs.Bridge.{digit_of, ReadAt, capped, ReadWhole}

-- A BYTE

pub record IsDigit (b d : ℕ) : Type 0 where
  pub test : is_digit b ≡ true
  pub small : d < 10
  pub byte : b ≡ digit d

pub digit_some : {b d : ℕ} → digit_of b ≡ Some d → IsDigit b d
digit_some {b} {d} h =
    let k = cond_some (is_digit b) (b - 48) d h in
    let low = ltb-false b 48 (not-true (ltb b 48) (and_left (not (ltb b 48)) (not (ltb 57 b)) k.0)) in
    let high = ltb-false 57 b (not-true (ltb 57 b) (and_right (not (ltb b 48)) (not (ltb 57 b)) k.0)) in
    record { test = k.0; small = omega arith; byte = omega arith }

pub digit_none : (b : ℕ) → digit_of b ≡ None → is_digit b ≡ false
digit_none b h = by (is_digit b) h
  where
    by : (k : Bool) → (if k then Some (b - 48) else None) ≡ None → k ≡ false
    by false e = refl
    by true e = cc

-- a text that such a byte, or none, stands in front of
not_spelt : (n b : ℕ) (text : List ℕ) → is_digit b ≡ false → spelt n (b ∷ text) ≡ n
unfolding spelt
not_spelt n b text h = rw h

first_other : (a b : ℕ) (text : List ℕ) → (b ≡ a → ⊥) → starts_with (a ∷ []) (b ∷ text) ≡ false
unfolding starts_with
first_other a b text h = rw (ne_eqb a b (λ e. h (sym e)))

none_starts : (a : ℕ) → starts_with (a ∷ []) [] ≡ false
unfolding starts_with
none_starts a = refl

none_spelt : (n : ℕ) → spelt n [] ≡ n
unfolding spelt
none_spelt n = refl

-- A NUMBER HALF READ

-- The text is the digits of a number, and a rest.
pub record Half (text rest : List ℕ) (n : ℕ) : Type 0 where
  pub digits : text ≡ decimal_text n ++ rest

pub first_read : (text rest : List ℕ) (b d : ℕ) → text ≡ b ∷ rest → digit_of b ≡ Some d → Half text rest d × (d < 10)
first_read text rest b d e h =
    let k = digit_some {b = b} h in
    (record { digits = rw (e, one_digit d k.small, k.byte) }, k.small)

pub one_more : {text before : List ℕ} {n : ℕ} (rest : List ℕ) (b d : ℕ) → before ≡ b ∷ rest → 1 ≤ n → digit_of b ≡ Some d → Half text before n → Half text rest (10 * n + d) × (d < 10)
one_more {n = n} rest b d e l h f =
    let k = digit_some {b = b} h in
    let tens : (10 * n + d) / 10 ≡ n = omega (arith, k.small) in
    let ones : (10 * n + d) % 10 ≡ d = omega (arith, k.small) in
    let more : decimal_text (10 * n + d) ≡ decimal_text n ++ (digit d ∷ []) = rw (last_digit (10 * n + d) (omega arith), tens, ones) in
    (record { digits = f.digits ∙ rw (more, append_assoc, e, k.byte) }, k.small)

-- a number in front and a zero are that zero alone
zero_in_front : {text rest : List ℕ} {n : ℕ} → n ≡ 0 → Half text rest n → text ≡ 48 ∷ rest
zero_in_front e f = f.digits ∙ rw (e, one_digit 0 (omega arith))

-- the byte at a place, and what is behind it
pub here : (text : List ℕ) (p : ℕ) → p < length text → drop p text ≡ get_or text p 0 ∷ drop (p + 1) text
here text p h = rw add-one (drop-cons text p 0 h)

-- WHAT IS READ

module _ (text : List ℕ) (at : ℕ) (f : model.Field) where
  unreadable : read_field f (drop at text) ≡ model.unreadable → ReadAt text at f None
  unreadable e = record { read = sym e; behind = tt }

  -- no byte, or none that is a digit
  pub no_byte : length text ≤ at → ReadAt text at f None
  no_byte h = unreadable (rw (drop_of_length-le text h) (field_none f [] (none_spelt 0) (none_starts 48)))

  pub no_digit : at < length text → digit_of (get_or text at 0) ≡ None → ReadAt text at f None
  no_digit l h =
      let b = get_or text at 0 in
      let k = digit_none b h in
      unreadable (rw (here text at l) (field_none f (b ∷ drop (at + 1) text) (not_spelt 0 b (drop (at + 1) text) k) (first_other 48 b (drop (at + 1) text) (λ z. no_both (sym (rw z at k))))))

  module _ {p n : ℕ} (h : Half (drop at text) (drop p text) n) where
    -- the text ends with the digits
    pub unended : length text ≤ p → ReadAt text at f None
    unended l =
        let all : drop at text ≡ decimal_text n ++ [] = h.digits ∙ ap (λ (t : List ℕ). decimal_text n ++ t) (drop_of_length-le text l) in
        unreadable (rw all (field_unclosed f n [] (none_spelt n) (none_starts f.after)))

    module _ (l : p < length text) where
      -- a digit behind a zero, or behind a number that does not fit
      pub none_over : {d : ℕ} → is_digit f.after ≡ false → digit_of (get_or text p 0) ≡ Some d → (eqb n 0 || ltb f.largest n) ≡ true → ReadAt text at f None
      none_over {d} a e g = by (eqb n 0) refl g
        where
          k : IsDigit (get_or text p 0) d
          k = digit_some e

          by : (none : Bool) → eqb n 0 ≡ none → (none || ltb f.largest n) ≡ true → ReadAt text at f None
          by true z g =
              let other = first_other f.after (get_or text p 0) (drop (p + 1) text) (λ e. no_both (sym a ∙ ap is_digit (sym e) ∙ k.test)) in
              unreadable (rw (zero_in_front (eqb-true n 0 z) h) (field_zero f (drop p text) (rw (here text p l) other)))
          by false z g = unreadable (rw h.digits (field_too_large f n (drop p text) (ltb-true f.largest n g)))

      -- another byte: the one after the number, or not
      pub ended : is_digit f.after ≡ false → digit_of (get_or text p 0) ≡ None →
          ReadAt text at f (then_some (eqb (get_or text p 0) f.after && leb n f.largest) (record { number = n; next = p + 1 }))
      ended a e = by (eqb (get_or text p 0) f.after) (leb n f.largest) refl refl
        where
          shown : drop at text ≡ decimal_text n ++ (get_or text p 0 ∷ drop (p + 1) text)
          shown = h.digits ∙ ap (λ (t : List ℕ). decimal_text n ++ t) (here text p l)

          place : p + 1 ≡ at + length (field_text n f.after)
          place = omega (arith, length-append (decimal_text n) (f.after ∷ []), ap length h.digits, length-append (decimal_text n) (drop p text), length-drop at text, length-drop p text, digits_least n)

          by : (same fits : Bool) → eqb (get_or text p 0) f.after ≡ same → leb n f.largest ≡ fits → ReadAt text at f (then_some (same && fits) (record { number = n; next = p + 1 }))
          by true true s g =
              let is : get_or text p 0 ≡ f.after = eqb-true (get_or text p 0) f.after s in
              let fits = leb-true n f.largest g in
              let all : drop at text ≡ field_text n f.after ++ drop (p + 1) text = shown ∙ rw (is, append_assoc) in
              record {
                read = sym (rw all (field_stands f n (drop (p + 1) text) a fits));
                behind = record { fits = fits; place = place };
              }
          by false fits s g =
              unreadable (rw shown (field_unclosed f n (get_or text p 0 ∷ drop (p + 1) text) (not_spelt n (get_or text p 0) (drop (p + 1) text) (digit_none (get_or text p 0) e)) (first_other f.after (get_or text p 0) (drop (p + 1) text) (eqb-false (get_or text p 0) f.after s))))
          by true false s g = unreadable (rw h.digits (field_too_large f n (drop p text) (leb-false n f.largest g)))

-- A WHOLE TEXT

-- Digits of a number stand in front; the code has it capped.
pub record Digits (text rest : List ℕ) (n : ℕ) : Type 0 where
  pub number : ℕ
  pub half : Half text rest number
  pub told : n ≡ capped number

-- one more of a number that is too large is one of one that is too large
capped_more : (m d : ℕ) → capped (10 * capped m + d) ≡ capped (10 * m + d)
capped_more m d = by (ltb 255 m) refl
  where
    by : (b : Bool) → ltb 255 m ≡ b → capped (10 * (if b then 255 else m) + d) ≡ capped (10 * m + d)
    by false e = refl
    by true e = rw (lt-ltb 255 (10 * 255 + d) (omega arith), lt-ltb 255 (10 * m + d) (omega (arith, ltb-true 255 m e)))

pub capped_min : (m : ℕ) → min m 255 ≡ capped m
capped_min m = by (ltb 255 m) refl
  where
    by : (b : Bool) → ltb 255 m ≡ b → min m 255 ≡ (if b then 255 else m)
    by true e = omega (arith, ltb-true 255 m e)
    by false e = omega (arith, ltb-false 255 m e)

capped_zero : (m : ℕ) → capped m ≡ 0 → m ≡ 0
capped_zero m h = omega (arith, capped_min m)

pub first_digit : (text rest : List ℕ) (b d : ℕ) → text ≡ b ∷ rest → digit_of b ≡ Some d → Digits text rest d × (d ≤ 255)
first_digit text rest b d e h =
    let f = first_read text rest b d e h in
    (record { number = d; half = f.0; told = rw (le-ltb 255 d (omega (arith, f.1))) }, omega (arith, f.1))

pub next_digit : {text before : List ℕ} {n : ℕ} (rest : List ℕ) (b d : ℕ) → before ≡ b ∷ rest → (n ≡ 0 → ⊥) → digit_of b ≡ Some d → Digits text before n → Digits text rest (capped (10 * n + d))
next_digit rest b d e l h f =
    let more = one_more rest b d e (some f.number (λ z. l (f.told ∙ z))) h f.half in
    record { number = 10 * f.number + d; half = more.0; told = rw f.told (capped_more f.number d) }
  where
    some : (m : ℕ) → (capped m ≡ 0 → ⊥) → 1 ≤ m
    some zero h = absurd (h refl)
    some (suc m) h = omega arith

module _ (text : List ℕ) where
  none_read : ((n : ℕ) → text ≡ decimal_text n → ⊥) → ReadWhole text None
  none_read h = rw (whole_none text h)

  -- no byte, or none that is a digit
  pub empty : length text ≡ 0 → ReadWhole text None
  empty h = none_read (λ n e. omega (arith, digits_least n, ap length e))

  pub whole_no_digit : {b : ℕ} {rest : List ℕ} → text ≡ b ∷ rest → digit_of b ≡ None → ReadWhole text None
  whole_no_digit {b} e h = none_read (λ n g. let r = front n in let first : r.first ≡ b = cc in no_both (sym (digit_none b h) ∙ rw first at r.digit))

  -- the digits are all
  pub whole_ended : {n : ℕ} → Digits text [] n → ReadWhole text (Some n)
  whole_ended f =
      let all : text ≡ decimal_text f.number = f.half.digits ∙ append-nil (decimal_text f.number) in
      rw (all, whole_read f.number) (ap Some f.told)

  module _ {before : List ℕ} {n : ℕ} (f : Digits text before n) (rest : List ℕ) (b : ℕ) (e : before ≡ b ∷ rest) where
    split : text ≡ decimal_text f.number ++ (b ∷ rest)
    split = f.half.digits ∙ ap (λ (t : List ℕ). decimal_text f.number ++ t) e

    -- a digit behind a zero
    pub zero_first : n ≡ 0 → ReadWhole text None
    zero_first z = none_read (λ m g. by m g (zero_in_front (capped_zero f.number (sym f.told ∙ z)) f.half ∙ ap (λ (t : List ℕ). 48 ∷ t) e))
      where
        by : (m : ℕ) → text ≡ decimal_text m → text ≡ 48 ∷ b ∷ rest → ⊥
        by zero g k = omega (arith, ap length g, ap length k, ap length (one_digit 0 (omega arith)))
        by (suc m) g k = let r = front (suc m) in let first : r.first ≡ 48 = cc in omega (arith, r.leading (omega arith))

    -- another byte
    pub other_byte : digit_of b ≡ None → ReadWhole text None
    other_byte h = none_read (λ m g. longer m (sym (spelt_whole m) ∙ ap (spelt 0) (sym g ∙ split) ∙ spelt_text f.number (b ∷ rest) ∙ not_spelt f.number b rest (digit_none b h)) g)
      where
        longer : (m : ℕ) → m ≡ f.number → text ≡ decimal_text m → ⊥
        longer m k g = omega (arith, ap length split, length-append (decimal_text f.number) (b ∷ rest), ap length g, ap (λ (i : ℕ). length (decimal_text i)) k)
