-- The three promises of `registers::register_access`, as one property of a call.
use Rattle.std.specs.Prelude.{◌≡◌, List, ℕ, IsOk}
use Rattle.model.specs.Registers.{RegisterAccess, register_access}
use Rattle.access.specs.Bridge.{answer_as}
use Rattle.card.specs.declared.Card.{Card}
use Rattle.card.specs.declared.Outcome.{Outcome}
use Rattle.card.specs.Bridge.{world_as, outcome_as}

-- From a card and memories m and w to an outcome and memories m' and w': what the definition gives; a refusal hands back the very card; what is
-- done is answered as done.
abbrev pub RegisterAccessed : Card → RegisterAccess → (m w : List ℕ) → Outcome → (m' w' : List ℕ) → Type 0
RegisterAccessed card q m w r m' w' =
    (outcome_as r m' w' ≡ register_access (world_as card m w) q) × ((((answer_as r.answer).number ≡ 0 → ⊥) → r.card ≡ card) × ((answer_as r.answer).number ≡ 0 → IsOk r.answer))
