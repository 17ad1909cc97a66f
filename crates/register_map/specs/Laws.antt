-- Where an offset is none of the registers', none is found.
use Rattle.std.specs.Prelude.{◌≡◌, refl, true, ◌&&◌, List, [], ◌∷◌, ℕ, ◌≤◌, leb, ltb}
use Rattle.std.proofs.Common.{ne_eqb, leb-true}
use Rattle.model.specs.Checks.{multiple_of4}
use Rattle.model.specs.RegisterMap.{Resource, unmodelled, registers, found_in}
use Rattle.model.proofs.TestLaws.{and_left, and_right}
use Rattle.model.specs.Choice.{All}

module _ (offset : ℕ) where
  -- it is none of theirs, as the last arm of a match has it: what was known, then one after another
  abbrev NoneOf : (known : Type 0) → List (ℕ × Resource) → Type 0
  NoneOf known [] = known
  NoneOf known (r ∷ rs) = NoneOf (known × (offset ≡ r.0 → ⊥)) rs

  each_differs : (known : Type 0) (rs : List (ℕ × Resource)) → NoneOf known rs → known × All (λ (r : ℕ × Resource). offset ≡ r.0 → ⊥) rs
  each_differs known [] h = (h, tt)
  each_differs known (r ∷ rs) h = let k = each_differs (known × (offset ≡ r.0 → ⊥)) rs h in (k.0.0, (k.0.1, k.1))

  none_found : (rs : List (ℕ × Resource)) → All (λ (r : ℕ × Resource). offset ≡ r.0 → ⊥) rs → found_in rs offset ≡ unmodelled
  none_found [] h = refl
  none_found (r ∷ rs) h = rw (ne_eqb offset r.0 h.0) (none_found rs h.1)

  pub no_register : NoneOf (Unit {0}) registers → found_in registers offset ≡ unmodelled
  no_register h = none_found registers (each_differs (Unit {0}) registers h).1

  -- shared memory begins there
  pub from_4000 : (multiple_of4 offset && (leb 0x4000 offset && ltb offset 0x8000)) ≡ true → 0x4000 ≤ offset
  from_4000 h = leb-true 0x4000 offset (and_left (leb 0x4000 offset) (ltb offset 0x8000) (and_right (multiple_of4 offset) (leb 0x4000 offset && ltb offset 0x8000) h))
