-- A plain read is refused by its check, or done and nothing changed.
use Rattle.std.specs.Prelude.{◌≡◌, refl, ⊤, List, ℕ, Ok, Err}
use Rattle.std.proofs.Common.{ne_eqb}
use Rattle.model.specs.Registers.{plainly}
use Rattle.access.specs.declared.Refusal.TheVariants.{UnusedField}
use Rattle.card.specs.declared.Card.{Card}
use Rattle.card.specs.Bridge.{Settles}
use Rattle.card.specs.Laws.{unchanged, refused_settles, done_settles}

module _ (d v : ℕ) (card : Card) (m w : List ℕ) where
  pub plain_refused : (d ≡ 0 → ⊥) → Settles (plainly d v) card m w (record { card = card; answer = Err UnusedField }) m w
  plain_refused h = refused_settles (plainly d v) card m w {T = ⊤} (Err UnusedField) UnusedField refl (rw (ne_eqb d 0 h) refl)

  pub plain_done : d ≡ 0 → Settles (plainly d v) card m w (record { card = card; answer = Ok (record { v = v; x = 0 }) }) m w
  plain_done h = done_settles (plainly d v) card m w (record { card = card; answer = Ok (record { v = v; x = 0 }) }) (rw h) refl (unchanged v 0 v 0 card refl refl)
