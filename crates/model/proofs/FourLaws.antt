-- The four of a card, FIFOs or pairs of flags: tested one after another, they are tested as a list; and one of sound ones is read or replaced.
use Rattle.std.specs.Prelude.{◌≡◌, refl, Bool, true, ◌&&◌, List, [], ◌∷◌, map, ℕ, zero, suc, length, get_or, set, eqb}
use Rattle.std.proofs.Common.{ap, ◌∙◌, arith, length-set}
use Rattle.std.proofs.Math.Bool.{and-true}
use Rattle.model.specs.Choice.{every}
use Rattle.model.proofs.TestLaws as tests

pub four : {A : Type 0} (P : List A → Type 0) → ((a b c d : A) → P (a ∷ b ∷ c ∷ d ∷ [])) → (l : List A) → length l ≡ 4 → P l
four P f [] h = absurd (omega arith)
four P f (a ∷ []) h = absurd (omega arith)
four P f (a ∷ b ∷ []) h = absurd (omega arith)
four P f (a ∷ b ∷ c ∷ []) h = absurd (omega arith)
four P f (a ∷ b ∷ c ∷ d ∷ []) h = f a b c d
four P f (a ∷ b ∷ c ∷ d ∷ e ∷ l) h = absurd (omega arith)

pub every_four : {A B : Type 0} (p : B → Bool) (f : A → B) (d : A) (l : List A) → length l ≡ 4 →
    (p (f (get_or l 0 d)) && (p (f (get_or l 1 d)) && (p (f (get_or l 2 d)) && p (f (get_or l 3 d))))) ≡ (eqb (length (map f l)) 4 && every p (map f l))
every_four p f d =
    four (λ l. (p (f (get_or l 0 d)) && (p (f (get_or l 1 d)) && (p (f (get_or l 2 d)) && p (f (get_or l 3 d))))) ≡ (eqb (length (map f l)) 4 && every p (map f l)))
    (λ a b c d. simp and-true)

module _ {A : Type 0} (p : A → Bool) (l : List A) (i : ℕ) (a : A) (h : (eqb (length l) 4 && every p l) ≡ true) where
  pub four_get : p a ≡ true → p (get_or l i a) ≡ true
  four_get k = tests.every_get p l i a (tests.and_right (eqb (length l) 4) (every p l) h) k

  pub four_kept : p a ≡ true → (eqb (length (set l i a)) 4 && every p (set l i a)) ≡ true
  four_kept k =
      tests.and-true (ap (λ n. eqb n 4) (length-set l i a) ∙ tests.and_left (eqb (length l) 4) (every p l) h)
      (tests.every_set p l i a (tests.and_right (eqb (length l) 4) (every p l) h) k)

-- one of them replaced, as another type sees them
pub map_set : {A B : Type 0} (f : A → B) (l : List A) (i : ℕ) (a : A) → map f (set l i a) ≡ set (map f l) i (f a)
map_set f [] i a = refl
map_set f (x ∷ l) zero a = refl
map_set f (x ∷ l) (suc i) a = ap (λ t. f x ∷ t) (map_set f l i a)
