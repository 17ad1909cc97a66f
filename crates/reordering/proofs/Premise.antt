-- The premise of rule 3 as a test that computes: it passes exactly where the premise holds.
use Rattle.std.specs.Prelude.{◌≡◌, refl, ◌≢◌, Bool, true, false, ◌&&◌, ◌||◌, List, [], ◌∷◌, ◌++◌, ℕ, eqb}
use Rattle.std.proofs.Common.{ap, sym, subst, arith, eqb-true}
use Rattle.std.proofs.lemmas.Bool.{eqb-false}
use Rattle.model.proofs.TestLaws.{no_both, and_left, and_right, and-true}
use Rattle.reordering.specs.Roles.{Role, start_of, step_of, neither, entry_of, steps_of, Undisturbed}

module _ {T E : Type 0} (quiet : T → E → Bool) where
  abbrev pub is_own : ℕ → Role T E → Bool
  is_own k (start_of j t e) = false
  is_own k (step_of j e) = eqb k j
  is_own k (neither e) = false

  abbrev pub is_empty : List E → Bool
  is_empty [] = true
  is_empty (e ∷ l) = false

  -- behind the start of transfer k
  abbrev pub calm : ℕ → T → List (Role T E) → Bool
  calm k t [] = true
  calm k t (x ∷ l) = (is_own k x || (is_empty (steps_of k l) || quiet t (entry_of x))) && calm k t l

  abbrev pub undisturbed : List (Role T E) → Bool
  undisturbed [] = true
  undisturbed (start_of k t e ∷ l) = calm k t l && undisturbed l
  undisturbed (step_of k e ∷ l) = undisturbed l
  undisturbed (neither e ∷ l) = undisturbed l

  own_is : (k : ℕ) (x : Role T E) → is_own k x ≡ true → x ≡ step_of k (entry_of x)
  own_is k (start_of j t e) h = no_both h
  own_is k (step_of j e) h = let q : k ≡ j = eqb-true k j h in rw q
  own_is k (neither e) h = no_both h

  empty_is : (l : List E) → is_empty l ≡ true → l ≡ []
  empty_is [] h = refl
  empty_is (e ∷ l) h = no_both h

  one_of : (k : ℕ) (t : T) (x : Role T E) (l : List (Role T E)) (a b : Bool) → is_own k x ≡ a → is_empty (steps_of k l) ≡ b →
      (a || (b || quiet t (entry_of x))) ≡ true → steps_of k l ≢ [] → x ≢ step_of k (entry_of x) → quiet t (entry_of x) ≡ true
  one_of k t x l true b p q h m n = absurd (n (own_is k x p))
  one_of k t x l false true p q h m n = absurd (m (empty_is (steps_of k l) q))
  one_of k t x l false false p q h m n = h

  calm_at : (k : ℕ) (t : T) (between behind : List (Role T E)) (x : Role T E) → calm k t (between ++ (x ∷ behind)) ≡ true →
      steps_of k behind ≢ [] → x ≢ step_of k (entry_of x) → quiet t (entry_of x) ≡ true
  calm_at k t [] behind x s =
      one_of k t x behind (is_own k x) (is_empty (steps_of k behind)) refl refl (and_left (is_own k x || (is_empty (steps_of k behind) || quiet t (entry_of x))) (calm k t behind) s)
  calm_at k t (y ∷ between) behind x s =
      let l = between ++ (x ∷ behind) in
      calm_at k t between behind x (and_right (is_own k y || (is_empty (steps_of k l) || quiet t (entry_of y))) (calm k t l) s)

  behind_start : (before l : List (Role T E)) → undisturbed (before ++ l) ≡ true → undisturbed l ≡ true
  behind_start [] l s = s
  behind_start (start_of k t e ∷ before) l s = behind_start before l (and_right (calm k t (before ++ l)) (undisturbed (before ++ l)) s)
  behind_start (step_of k e ∷ before) l s = behind_start before l s
  behind_start (neither e ∷ before) l s = behind_start before l s

  pub premise : (l : List (Role T E)) → undisturbed l ≡ true → Undisturbed quiet l
  premise l s before between behind k t e x p =
      let r = between ++ (x ∷ behind) in
      let u = behind_start before (start_of k t e ∷ r) (subst (λ m. undisturbed m ≡ true) p s) in
      calm_at k t between behind x (and_left (calm k t r) (undisturbed r) u)

  -- THE OTHER WAY

  not_own : (k : ℕ) (x : Role T E) → is_own k x ≡ false → x ≢ step_of k (entry_of x)
  not_own k (start_of j t e) h q = let z : ◌≡◌ {A = ℕ} 0 1 = cc in omega arith
  not_own k (step_of j e) h q = eqb-false k j h (let z : j ≡ k = cc in sym z)
  not_own k (neither e) h q = let z : ◌≡◌ {A = ℕ} 0 1 = cc in omega arith

  not_empty : (l : List E) → is_empty l ≡ false → l ≢ []
  not_empty [] h q = no_both (sym h)
  not_empty (e ∷ l) h q = let z : ◌≡◌ {A = ℕ} 0 1 = cc in omega arith

  one_tested : (k : ℕ) (t : T) (x : Role T E) (l : List (Role T E)) → (steps_of k l ≢ [] → x ≢ step_of k (entry_of x) → quiet t (entry_of x) ≡ true) →
      (is_own k x || (is_empty (steps_of k l) || quiet t (entry_of x))) ≡ true
  one_tested k t x l h = by (is_own k x) refl (is_empty (steps_of k l)) refl
    where
      by : (a : Bool) → is_own k x ≡ a → (b : Bool) → is_empty (steps_of k l) ≡ b → (a || (b || quiet t (entry_of x))) ≡ true
      by true p b q = refl
      by false p true q = refl
      by false p false q = h (not_empty (steps_of k l) q) (not_own k x p)

  calm_tested : (k : ℕ) (t : T) (l : List (Role T E)) →
      ((between behind : List (Role T E)) (x : Role T E) → l ≡ between ++ (x ∷ behind) → steps_of k behind ≢ [] → x ≢ step_of k (entry_of x) → quiet t (entry_of x) ≡ true) → calm k t l ≡ true
  calm_tested k t [] h = refl
  calm_tested k t (x ∷ l) h =
      and-true (one_tested k t x l (h [] l x refl)) (calm_tested k t l (λ between behind y e. h (x ∷ between) behind y (ap (x ∷◌) e)))

  pub tested : (l : List (Role T E)) → Undisturbed quiet l → undisturbed l ≡ true
  tested [] u = refl
  tested (start_of k t e ∷ l) u =
      and-true (calm_tested k t l (λ between behind x p. u [] between behind k t e x (ap (start_of k t e ∷◌) p)))
      (tested l (λ before between behind j s f x p. u (start_of k t e ∷ before) between behind j s f x (ap (start_of k t e ∷◌) p)))
  tested (step_of k e ∷ l) u = tested l (λ before between behind j s f x p. u (step_of k e ∷ before) between behind j s f x (ap (step_of k e ∷◌) p))
  tested (neither e ∷ l) u = tested l (λ before between behind j s f x p. u (neither e ∷ before) between behind j s f x (ap (neither e ∷◌) p))
