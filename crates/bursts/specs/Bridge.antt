-- The promise of a burst, as one property of a call.
use Rattle.std.specs.Prelude.{◌≡◌, List, ℕ, Result}
use Rattle.model.specs.Bursts.{Burst, burst}
use Rattle.card.specs.declared.Card.{Card}
use Rattle.card.specs.Bridge.{world_as}
use Rattle.phases.specs.declared.Stop.{Stop}
use Rattle.phases.specs.Bridge.{told_as}

-- From a card and memories m and w to an answer, the list as it is left and shared memory m': what the definition gives. The record and the window
-- stay; a write is lent no list.
abbrev pub Bursted : Card → Burst → (m w : List ℕ) → Result ℕ Stop → (list m' : List ℕ) → Type 0
Bursted card b m w t list m' = record { answer = told_as t list; world = world_as card m' w } ≡ burst (world_as card m w) b
