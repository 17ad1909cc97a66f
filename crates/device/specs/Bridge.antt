-- The three promises of `device::access`, as one property of a call.
use Rattle.std.specs.Prelude.{◌≡◌, List, ℕ, IsOk}
use Rattle.model.specs.Accesses.{access}
use Rattle.access.specs.declared.Access.{Access}
use Rattle.access.specs.Bridge.{access_as, answer_as}
use Rattle.card.specs.declared.Card.{Card}
use Rattle.card.specs.declared.Outcome.{Outcome}
use Rattle.card.specs.Bridge.{world_as, outcome_as}

-- From a card and memories m and w to an outcome and memories m' and w': what the definition gives; a refusal hands back the very card; what is
-- done is answered as done.
abbrev pub Accessed : Card → Access → (m w : List ℕ) → Outcome → (m' w' : List ℕ) → Type 0
Accessed card q m w r m' w' = (outcome_as r m' w' ≡ access (world_as card m w) (access_as q)) × ((((answer_as r.answer).number ≡ 0 → ⊥) → r.card ≡ card) × ((answer_as r.answer).number ≡ 0 → IsOk r.answer))
