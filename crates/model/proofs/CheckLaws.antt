-- The law of a row of checks: the first cause that holds refuses; where the numbers ascend, that is the smallest.
use Rattle.std.specs.Prelude.{◌≡◌, refl, ◌↔◌, Bool, true, false, List, [], ◌∷◌, ◌++◌, ℕ, ◌≤◌, ◌<◌, eqb, if◌then◌else◌}
use Rattle.std.proofs.Common.{subst, arith, ne_eqb}
use Rattle.model.specs.Checks.{Check, refusal, Holds, here, there, First, holds, later, Smallest}
use Rattle.model.proofs.TestLaws.{no_both}
use Rattle.model.specs.Choice.{All}

-- The numbers of a row ascend, from `n` on.
abbrev pub Ascending : (n : ℕ) → List Check → Type 0
Ascending n [] = Unit {0}
Ascending n (c ∷ cs) = (n ≤ c.number) × Ascending c.number cs

from : {m n : ℕ} {cs : List Check} → Ascending n cs → Holds m cs → n ≤ m
from a (here e) = a.0
from a (there h) = let k = from a.1 h in let l = a.0 in omega arith

pub smallest : (n : ℕ) → 0 < n → (cs : List Check) → Ascending n cs → Smallest (refusal cs) cs
smallest n z [] a = record { holds = λ h. absurd (omega arith); least = λ m h. none h }
  where
    none : {m : ℕ} → Holds m [] → (0 < 0) × (0 ≤ m)
    none h = elim h [ ]
smallest n z (c ∷ cs) a = by c.cause refl (smallest c.number (let l = a.0 in omega arith) cs a.1)
  where
    first : (m : ℕ) → Holds m (c ∷ cs) → (0 < c.number) × (c.number ≤ m)
    first m (here e) = (let k = a.0 in omega arith, omega arith)
    first m (there h) = (let k = a.0 in omega arith, from a.1 h)

    later : (m k : ℕ) → c.cause ≡ false → Smallest k cs → Holds m (c ∷ cs) → (0 < k) × (k ≤ m)
    later m k e r (here t) = no_both (let q : false ≡ true = cc in q)
    later m k e r (there h) = r.least m h

    by : (b : Bool) → c.cause ≡ b → Smallest (refusal cs) cs → Smallest (if b then c.number else refusal cs) (c ∷ cs)
    by true e r = record { holds = λ _. here e; least = first }
    by false e r = record { holds = λ h. there (r.holds h); least = λ m h. later m (refusal cs) e r h }

-- no cause of the row holds
abbrev pub Pass : List Check → Type 0
Pass [] = Unit {0}
Pass (c ∷ cs) = (c.cause ≡ false) × Pass cs

-- every number differs from 0, as it does where the numbers ascend
abbrev pub Positive : List Check → Type 0
Positive cs = All (λ (c : Check). 0 < c.number) cs

pub ascending_positive : (n : ℕ) → 0 < n → (cs : List Check) → Ascending n cs → Positive cs
ascending_positive n z [] a = tt
ascending_positive n z (c ∷ cs) a = let k : 0 < c.number = (let l = a.0 in omega arith) in (k, ascending_positive c.number k cs a.1)

-- where nothing is refused, no cause holds; and the other way round
pub passed_all : (cs : List Check) → Positive cs → refusal cs ≡ 0 → Pass cs
passed_all [] a h = tt
passed_all (c ∷ cs) a h = by c.cause h (λ e. passed_all cs a.1 e)
  where
    by : (b : Bool) → (if b then c.number else refusal cs) ≡ 0 → (refusal cs ≡ 0 → Pass cs) → (b ≡ false) × Pass cs
    by true e k = absurd (let l = a.0 in omega arith)
    by false e k = (refl, k e)

pub passed : (n : ℕ) → 0 < n → (cs : List Check) → Ascending n cs → refusal cs ≡ 0 → Pass cs
passed n z cs a h = passed_all cs (ascending_positive n z cs a) h

pub pass_refusal : (cs : List Check) → Pass cs → refusal cs ≡ 0
pass_refusal [] p = refl
pass_refusal (c ∷ cs) p = rw p.0 (pass_refusal cs p.1)

-- Of two rows one after the other, the first refuses where it refuses at all.
pub refusal_append : (cs ds : List Check) → Positive cs → refusal (cs ++ ds) ≡ (if eqb (refusal cs) 0 then refusal ds else refusal cs)
refusal_append [] ds a = refl
refusal_append (c ∷ cs) ds a = by c.cause (refusal_append cs ds a.1)
  where
    by : (b : Bool) → refusal (cs ++ ds) ≡ (if eqb (refusal cs) 0 then refusal ds else refusal cs) →
        (if b then c.number else refusal (cs ++ ds)) ≡ (if eqb (if b then c.number else refusal cs) 0 then refusal ds else (if b then c.number else refusal cs))
    by true e = rw (ne_eqb c.number 0 (λ k. let l = a.0 in omega arith))
    by false e = e

-- a number other than 0 is given exactly where its check is the first whose cause holds
pub first_given : (cs : List Check) (n : ℕ) → 0 < n → (refusal cs ≡ n) ↔ First n cs
first_given [] n z = (λ h. absurd (omega arith), λ f. elim f [ ])
first_given (c ∷ cs) n z = let i = first_given cs n z in (by c.cause refl i.0, back n i.1)
  where
    by : (b : Bool) → c.cause ≡ b → (refusal cs ≡ n → First n cs) → (if b then c.number else refusal cs) ≡ n → First n (c ∷ cs)
    by true e i h = subst (λ m. First m (c ∷ cs)) h (holds e)
    by false e i h = later e (i h)

    back : (m : ℕ) → (First m cs → refusal cs ≡ m) → First m (c ∷ cs) → (if c.cause then c.number else refusal cs) ≡ m
    back m i (holds e) = rw e
    back m i (later e f) = rw e (i f)

pub first_positive : {n : ℕ} {cs : List Check} → First n cs → Positive cs → 0 < n
first_positive (holds e) a = a.0
first_positive (later e f) a = first_positive f a.1
