-- Laws of tests: of Bool, along a list, and of a choice by a test.
use Rattle.std.specs.Prelude.{◌≡◌, refl, Bool, true, false, ◌&&◌, ◌||◌, List, [], ◌∷◌, ◌++◌, map, ℕ, zero, suc, get_or, set, if◌then◌else◌}
use Rattle.std.proofs.Common.{ap, sym, arith}
use Rattle.std.proofs.Math.Bool.{and_assoc}
use Rattle.model.specs.Choice.{every, all_of, All}

pub no_both : {X : Type 0} → ◌≡◌ {A = Bool} false true → X
no_both h = absurd (let z : ◌≡◌ {A = ℕ} 0 1 = cc in omega arith)

pub and_left : (a b : Bool) → (a && b) ≡ true → a ≡ true
and_left true b h = refl
and_left false b h = no_both h

pub and_right : (a b : Bool) → (a && b) ≡ true → b ≡ true
and_right true b h = h
and_right false b h = no_both h

pub and-true : {a b : Bool} → a ≡ true → b ≡ true → (a && b) ≡ true
and-true {a} {b} h k = rw (h, k)

pub or_left : (a b : Bool) → (a || b) ≡ false → a ≡ false
or_left true b h = h
or_left false b h = refl

pub or_right : (a b : Bool) → (a || b) ≡ false → b ≡ false
or_right true b h = no_both (let e : false ≡ true = cc in e)
or_right false b h = h

pub or-false : {a b : Bool} → a ≡ false → b ≡ false → (a || b) ≡ false
or-false {a} {b} h k = rw (h, k)

pub all_imply : {A : Type 0} (P Q : A → Type 0) → ((a : A) → P a → Q a) → (l : List A) → All P l → All Q l
all_imply P Q f [] h = tt
all_imply P Q f (a ∷ l) h = (f a h.0, all_imply P Q f l h.1)

pub all_map : {A B : Type 0} (P : B → Type 0) (f : A → B) (l : List A) → All (λ a. P (f a)) l → All P (map f l)
all_map P f [] h = tt
all_map P f (a ∷ l) h = (h.0, all_map P f l h.1)

pub all_behind : {A : Type 0} (P : A → Type 0) (l m : List A) → All P (l ++ m) → All P m
all_behind P [] m h = h
all_behind P (a ∷ l) m h = all_behind P l m h.1

module _ {A : Type 0} (p : A → Bool) where
  pub every_set : (l : List A) (i : ℕ) (a : A) → every p l ≡ true → p a ≡ true → every p (set l i a) ≡ true
  every_set [] i a h k = h
  every_set (x ∷ l) zero a h k = and-true k (and_right (p x) (every p l) h)
  every_set (x ∷ l) (suc i) a h k = and-true (and_left (p x) (every p l) h) (every_set l i a (and_right (p x) (every p l) h) k)

  pub every_get : (l : List A) (i : ℕ) (d : A) → every p l ≡ true → p d ≡ true → p (get_or l i d) ≡ true
  every_get [] i d h k = k
  every_get (x ∷ l) zero d h k = and_left (p x) (every p l) h
  every_get (x ∷ l) (suc i) d h k = every_get l i d (and_right (p x) (every p l) h) k

pub every_append : {A : Type 0} (p : A → Bool) (l m : List A) → every p (l ++ m) ≡ (every p l && every p m)
every_append p [] m = refl
every_append p (a ∷ l) m = rw (every_append p l m) (sym (and_assoc (p a) (every p l) (every p m)))

pub every_map : {A B : Type 0} (p : B → Bool) (f : A → B) (l : List A) → every p (map f l) ≡ every (λ a. p (f a)) l
every_map p f [] = refl
every_map p f (a ∷ l) = ap (p (f a) &&◌) (every_map p f l)

-- `all_of`, test by test
abbrev pub Each : List Bool → Type 0
Each [] = Unit {0}
Each (b ∷ bs) = (b ≡ true) × Each bs

pub each : (bs : List Bool) → all_of bs ≡ true → Each bs
each [] h = tt
each (b ∷ bs) h = (and_left b (all_of bs) h, each bs (and_right b (all_of bs) h))

pub all_of_lem : (bs : List Bool) → Each bs → all_of bs ≡ true
all_of_lem [] h = refl
all_of_lem (b ∷ bs) h = rw h.0 (all_of_lem bs h.1)

-- what holds of both branches holds of the choice
pub if_case : {A : Type 0} (P : A → Type 0) (b : Bool) (x y : A) → (b ≡ true → P x) → (b ≡ false → P y) → P (if b then x else y)
if_case P true x y f g = f refl
if_case P false x y f g = g refl
