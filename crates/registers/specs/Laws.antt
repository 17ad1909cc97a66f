-- How a row settled gives the promise of a register access: one law for a direction, and one for each refusal in front of it.
use Rattle.std.specs.Prelude.{◌≡◌, refl, true, false, List, [], ◌∷◌, ℕ, zero, suc, Err}
use Rattle.std.proofs.Common.{ap, sym, subst, ◌∙◌, arith}
use Rattle.model.specs.Checks.{◌for◌, refusal, above}
use Rattle.model.specs.Sides.{Side, side_of}
use Rattle.model.specs.State.{World}
use Rattle.model.specs.Changes.{done}
use Rattle.model.specs.Accesses.{Row, ◌⇒◌, fit, settled}
use Rattle.model.specs.RegisterMap.{Resource, resource_at, is_modelled}
use Rattle.model.specs.Registers.{RegisterAccess, read_row, write_row, register_row, register_access}
use Rattle.model.proofs.KindLaws.{refused_with}
use Rattle.access.specs.declared.Refusal.{Refusal}
use Rattle.access.specs.declared.Refusal.TheVariants.{Unfit, Unknown, Selector, Unmodelled}
use Rattle.access.specs.Bridge.{number_of}
use Rattle.access.specs.Laws.{number_positive}
use Rattle.card.specs.declared.Card.{Card}
use Rattle.card.specs.declared.Outcome.{Outcome}
use Rattle.card.specs.Bridge.{world_as, Settles}
use Rattle.registers.specs.Bridge.{RegisterAccessed}

-- a direction above 1
beyond : (x : Resource) (n : ℕ) (w : World) (side : Side) (d : ℕ) → (n ≡ 0 → ⊥) → (n ≡ 1 → ⊥) → register_row x n w side d ≡ (4 for true ∷ [] ⇒ done 0 0 [])
beyond x zero w side d h k = absurd (h refl)
beyond x (suc zero) w side d h k = absurd (k refl)
beyond x (suc (suc n)) w side d h k = refl

abbrev asked : (side offset direction dword : ℕ) → RegisterAccess
asked side offset direction dword = record { side = side; offset = offset; direction = direction; dword = dword }

module _ (card : Card) (side offset direction dword : ℕ) (m w : List ℕ) (r : Outcome) where
  refused_arm : (f : Refusal) → register_access (world_as card m w) (asked side offset direction dword) ≡ refused_with (number_of f) (world_as card m w) → r ≡ record { card = card; answer = Err f } → RegisterAccessed card (asked side offset direction dword) m w r m w
  refused_arm f h e = rw e (sym h, (λ _. refl, λ z. absurd (let p = number_positive f in omega (arith, p, z))))

  pub unfit_arm : fit (world_as card m w) ≡ false → r ≡ record { card = card; answer = Err Unfit } → RegisterAccessed card (asked side offset direction dword) m w r m w
  unfolding register_access
  unfit_arm h = refused_arm Unfit (rw h)

  module _ (h : fit (world_as card m w) ≡ true) where
    pub side_arm : above 1 side ≡ true → r ≡ record { card = card; answer = Err Unknown } → RegisterAccessed card (asked side offset direction dword) m w r m w
    unfolding register_access
    side_arm k = refused_arm Unknown (rw (h, k))

    module _ (k : above 1 side ≡ false) {x : Resource} (at : x ≡ resource_at offset) where
      pub offset_arm : is_modelled x ≡ false → r ≡ record { card = card; answer = Err Unmodelled } → RegisterAccessed card (asked side offset direction dword) m w r m w
      unfolding register_access
      offset_arm l = refused_arm Unmodelled (rw (h, k, ← at, l))

      module _ (l : is_modelled x ≡ true) where
        -- past the checks in front, the row of the resource and the direction
        row_is : register_access (world_as card m w) (asked side offset direction dword) ≡ settled (refusal (register_row x direction (world_as card m w) (side_of side) dword).checks) (register_row x direction (world_as card m w) (side_of side) dword).effect (world_as card m w)
        unfolding register_access
        row_is =
            let modelled : is_modelled (resource_at offset) ≡ true = sym (ap is_modelled at) ∙ l in
            subst (λ y. register_access (world_as card m w) (asked side offset direction dword) ≡ settled (refusal (register_row y direction (world_as card m w) (side_of side) dword).checks) (register_row y direction (world_as card m w) (side_of side) dword).effect (world_as card m w))
            (sym at) (rw (h, k, modelled))

        row_arm : (row : Row) {m' w' : List ℕ} → register_row x direction (world_as card m w) (side_of side) dword ≡ row → Settles row card m w r m' w' → RegisterAccessed card (asked side offset direction dword) m w r m' w'
        row_arm row e s = (s.told ∙ ap (λ (row : Row). settled (refusal row.checks) row.effect (world_as card m w)) (sym e) ∙ sym row_is, (s.kept, s.said))

        pub read_arm : direction ≡ 0 → {m' w' : List ℕ} → Settles (read_row x (world_as card m w) (side_of side) dword) card m w r m' w' → RegisterAccessed card (asked side offset direction dword) m w r m' w'
        read_arm e s = row_arm (read_row x (world_as card m w) (side_of side) dword) (rw e) s

        pub write_arm : direction ≡ 1 → {m' w' : List ℕ} → Settles (write_row x (world_as card m w) (side_of side) dword) card m w r m' w' → RegisterAccessed card (asked side offset direction dword) m w r m' w'
        write_arm e s = row_arm (write_row x (world_as card m w) (side_of side) dword) (rw e) s

        pub direction_arm : (direction ≡ 0 → ⊥) → (direction ≡ 1 → ⊥) → r ≡ record { card = card; answer = Err Selector } → RegisterAccessed card (asked side offset direction dword) m w r m w
        direction_arm a b =
            refused_arm Selector
            (row_is ∙ ap (λ (row : Row). settled (refusal row.checks) row.effect (world_as card m w)) (beyond x direction (world_as card m w) (side_of side) dword a b))
