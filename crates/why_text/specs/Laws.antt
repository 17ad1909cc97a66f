-- The lines of the entries held, one stored after the other; and a question's numbers, capped, asked.
use Rattle.std.specs.Prelude.{◌≡◌, Result, Ok, Err, IfOk, Some, None, Bool, true, false, List, [], ◌∷◌, map, ℕ, zero, suc, ◌+◌, ◌-◌, ◌≤◌, length, get_or, take, drop, replicate, ltb, if◌then◌else◌}
use Rattle.std.proofs.Math.Path.{refl}
use Rattle.std.proofs.Common.{sym, ap, ◌∙◌, arith, length-append, length-take, lt-ltb, ltb-true}
use Rattle.std.proofs.lemmas.List.{length-map}
use Rattle.std.proofs.lemmas.List.Edits.{sets}
use Rattle.model.specs.Checks.{above}
use Rattle.model.specs.Text.{FieldReading, number, unreadable, read_decimal}
use Rattle.model.specs.Why.{Holding, Reason, Answer, answered_by, why, holdings, places, told}
use Rattle.model.specs.WhyText.{holding_text, holding_lines, answer_text, answered, usage, output, why_output}
use Rattle.decimal.specs.Bridge.{Written, capped, whole_as, ReadWhole}
use Rattle.decimal.specs.Laws.{begun, second_left, ended}
use Rattle.access.specs.declared.Refusal.{Refusal}
use Rattle.history.specs.declared.Case.{Case}
use Rattle.history.specs.declared.Case.TheVariants.{Never, Cleared, Set, Held}
use Rattle.history.specs.declared.Explanation.{Explanation}
use Rattle.history.specs.Bridge.{holdings_from, answer_of, told_as}
use Rattle.why_text.specs.Bridge.{count_of}

-- THE LINES OF ENTRIES

pub holdings_count : (k : ℕ) (es rs : List ℕ) → length (holdings_from k es rs) ≡ k
unfolding holdings_from
holdings_count zero es rs = refl
holdings_count (suc k) es rs = ap suc (holdings_count k (drop 1 es) (drop 1 rs))

-- only the first so many entries matter
first_held : (k : ℕ) (es rs : List ℕ) → holdings_from k (take k es) rs ≡ holdings_from k es rs
unfolding holdings_from
first_held zero es rs = refl
first_held (suc k) [] rs = refl
first_held (suc k) (e ∷ es) rs = ap (λ (hs : List Holding). record { entry = e; put_by = get_or rs 0 0 } ∷ hs) (first_held k es (drop 1 rs))

module _ (before : List ℕ) (at : ℕ) (whole : List ℕ) where
  -- the lines of these entries are left to store
  abbrev pub Lines : (out : List ℕ) → (p : ℕ) → (es rs : List ℕ) → Type 0
  Lines out p es rs = Written out p (holding_lines (holdings_from (length es) es rs)) (at + length whole) (sets before at whole)

  pub line_less : {out out' : List ℕ} {p p' e r : ℕ} {es rs es' rs' : List ℕ} → es ≡ e ∷ es' → rs ≡ r ∷ rs' →
      Written out p (holding_text (record { entry = e; put_by = r })) p' out' → Lines out p es rs → Lines out' p' es' rs'
  unfolding holding_lines holdings_from
  line_less h g w l = second_left (rw (h, g) at l) w

  pub no_lines : {out : List ℕ} {p : ℕ} (es rs : List ℕ) → length es ≡ 0 → Lines out p es rs → Written before at whole p out
  unfolding holding_lines holdings_from
  no_lines [] rs h l = ended l
  no_lines (e ∷ es) rs h l = absurd (omega arith)

pub all_lines : (before : List ℕ) (at k : ℕ) (es rs : List ℕ) → k ≤ length es → Lines before at (holding_lines (holdings_from k es rs)) before at (take k es) rs
all_lines before at k es rs h = let all : length (take k es) ≡ k = omega (arith, length-take k es) in rw (all, first_held k es rs) (begun before at (holding_lines (holdings_from k es rs)))

-- NO MORE THAN 32

-- the answer has 32 places, so no more are held
few_in : (e : Explanation) (a : Answer) → length e.entries ≡ 32 → told_as (Ok e) ≡ told a → count_of e.case ≤ 32
few_in e a l h = by e.case (ap (λ t. t.answer) h) (ap (λ t. t.entries) h)
  where
    by : (c : Case) → answer_of c e.entries e.records ≡ a → e.entries ≡ places (map (λ h. h.entry) (holdings a)) → count_of c ≤ 32
    by Never f g = omega arith
    by (Cleared n) f g = omega arith
    by (Set n) f g = omega arith
    by (Held n) f g =
        let hs = holdings_from n e.entries e.records in
        let entries = map (λ h. h.entry) hs in
        let shown : e.entries ≡ places entries = rw (← f) at g in
        omega (arith, ap length shown, l, length-append entries (replicate (32 - length entries) 0), length-map hs (λ h. h.entry), holdings_count n e.entries e.records)

pub few_held : (r : Result Explanation Refusal) (a : Answer) → IfOk r (λ e. length e.entries ≡ 32) → told_as r ≡ told a → IfOk r (λ e. count_of e.case ≤ 32)
few_held (Ok e) a l h = few_in e a l h
few_held (Err r) a l h = tt

-- A QUESTION

-- a side or a position above 255 is refused as 255 is
pub why_capped : (trace : List ℕ) (side p : ℕ) → why trace (capped side) (capped p) ≡ why trace side p
unfolding why
why_capped trace side p = by (ltb 255 side) (ltb 255 p) refl refl
  where
    by : (a b : Bool) → ltb 255 side ≡ a → ltb 255 p ≡ b → why trace (if a then 255 else side) (if b then 255 else p) ≡ why trace side p
    by false false e f = refl
    by true b e f = rw (lt-ltb 1 side (omega (arith, ltb-true 255 side e)))
    by false true e f = rw (lt-ltb 9 p (omega (arith, ltb-true 255 p f))) (same (above 1 side) _ _)
      where
        same : (far : Bool) (r r' : Reason) → answered_by (if far then 43 else 42) r ≡ answered_by (if far then 43 else 42) r'
        same true r r' = refl
        same false r r' = refl

module _ (trace s p : List ℕ) where
  pub asked : (side position : ℕ) → ReadWhole s (Some side) → ReadWhole p (Some position) → (r : Result Explanation Refusal) → told_as r ≡ told (why trace side position) →
      why_output trace s p ≡ answered (answer_text (told_as r).answer)
  unfolding why_output
  asked side position a b r t = by (read_decimal s) (read_decimal p) a b
    where
      by : (x y : FieldReading) → Some side ≡ whole_as x → Some position ≡ whole_as y → output trace x y ≡ answered (answer_text (told_as r).answer)
      by (number n) (number m) f g =
          let k : side ≡ capped n = cc in
          let l : position ≡ capped m = cc in
          ap (λ x. answered (answer_text x)) (sym (why_capped trace n m) ∙ rw (← k, ← l) (sym (ap (λ t. t.answer) t)))
      by unreadable y f g = cc
      by (number n) unreadable f g = cc

  -- a side that is no number, and a position that is none
  pub no_side : ReadWhole s None → why_output trace s p ≡ usage
  unfolding why_output
  no_side a = by (read_decimal s) a
    where
      by : (x : FieldReading) → None ≡ whole_as x → output trace x (read_decimal p) ≡ usage
      by (number n) f = cc
      by unreadable f = refl

  pub no_position : ReadWhole p None → why_output trace s p ≡ usage
  unfolding why_output
  no_position b = by (read_decimal s) (read_decimal p) b
    where
      by : (x y : FieldReading) → None ≡ whole_as y → output trace x y ≡ usage
      by x (number m) f = cc
      by (number n) unreadable f = refl
      by unreadable unreadable f = refl
