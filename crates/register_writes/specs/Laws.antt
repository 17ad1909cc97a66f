-- A write that one side alone may do: refused with 5, or that access.
use Rattle.std.specs.Prelude.{◌≡◌, refl, ⊤, true, false, List, ℕ, Err}
use Rattle.model.specs.Sides.{Side, not_by}
use Rattle.model.specs.Accesses.{Row}
use Rattle.model.specs.Registers.{only_by}
use Rattle.access.specs.declared.Refusal.TheVariants.{WrongSide}
use Rattle.card.specs.declared.Card.{Card}
use Rattle.card.specs.declared.Outcome.{Outcome}
use Rattle.card.specs.Bridge.{Settles}
use Rattle.card.specs.Laws.{refused_settles}

module _ (c : Card) (m w : List ℕ) (may side : Side) (row : Row) where
  pub only_refused : not_by may side ≡ true → Settles (only_by may side row) c m w (record { card = c; answer = Err WrongSide }) m w
  only_refused e = refused_settles (only_by may side row) c m w {T = ⊤} (Err WrongSide) WrongSide refl (rw e refl)

  pub only_done : {r : Outcome} {m' w' : List ℕ} → not_by may side ≡ false → Settles row c m w r m' w' → Settles (only_by may side row) c m w r m' w'
  only_done e s = record { told = rw e s.told; kept = s.kept; said = s.said }
