-- From the code's card to the model's state, and what an operation on it promises.
use Rattle.std.specs.Prelude.{◌≡◌, List, ℕ, Result, Ok, Err, IsOk}
use Rattle.model.specs.State as model
use Rattle.model.specs.State.{State, World}
use Rattle.model.specs.Checks.{refusal}
use Rattle.model.specs.Changes.{apply_all, Store, shared_after, window_after, Effect}
use Rattle.model.specs.Runs as runs
use Rattle.model.specs.Accesses as words
use Rattle.model.specs.Accesses.{Kind, Row, settled, does}
use Rattle.access.specs.declared.Access.{Access}
use Rattle.access.specs.Bridge.{access_as, answer_as}
use Rattle.settings.specs.Bridge.{settings_as}
use Rattle.fifos.specs.Bridge.{fifos_as}
use Rattle.arbitration.specs.Bridge.{arbitration_as}
use Rattle.mailboxes.specs.Bridge.{mailboxes_as}
use Rattle.interrupts.specs.Bridge.{interrupts_as}
use Rattle.transfer.specs.Bridge.{transfer_as}
use Rattle.dma.specs.Bridge.{dma_as}
use Rattle.card.specs.declared.Card.{Card}
use Rattle.card.specs.declared.Unfit.{Unfit}
use Rattle.card.specs.declared.Outcome.{Outcome}

unfoldable pub state_as : Card → State
state_as c = record {
  settings = settings_as c.settings;
  fifos = fifos_as c.fifos;
  arbitration = arbitration_as c.arbitration;
  mailboxes = mailboxes_as c.mailboxes;
  interrupts = interrupts_as c.interrupts;
  transfer = transfer_as c.transfer;
  dma = dma_as c.dma;
}

abbrev pub new_card_as : Result Card Unfit → model.NewCard
new_card_as (Ok c) = record { number = 0; card = state_as c }
new_card_as (Err unfit) = record { number = 1; card = state_as unfit.card }

abbrev pub world_as : Card → (shared window : List ℕ) → World
world_as c shared window = record { card = state_as c; shared = shared; window = window }

abbrev pub outcome_as : Outcome → (shared window : List ℕ) → runs.Outcome words.Answer World
outcome_as r shared window = record { answer = answer_as r.answer; world = world_as r.card shared window }

-- an operation on the record that is done: its answer and its record are those of the effect
pub record Effected (effect : Effect) (before : Card) (r : Outcome) : Type 0 where
  pub answer : r.answer ≡ Ok (record { v = effect.v; x = effect.x })
  pub state : state_as r.card ≡ apply_all effect.changes (state_as before)

-- memories m and w are m' and w' after a store
pub record MemoriesAfter (store : Store) (m w m' w' : List ℕ) : Type 0 where
  pub shared : m' ≡ shared_after store m
  pub window : w' ≡ window_after store w

-- an access that is done: besides, both memories are those of the effect
pub record Stored (effect : Effect) (before : Card) (m w : List ℕ) (r : Outcome) (m' w' : List ℕ) : Type 0 where
  pub effected : Effected effect before r
  pub memories : MemoriesAfter effect.store m w m' w'

-- What a function promises that settles a row: from memories m and w to m' and w' the outcome is that of the row, its checks first, and a refusal
-- hands back the very card. What is done is answered as done.
pub record Settles (row : Row) (card : Card) (m w : List ℕ) (r : Outcome) (m' w' : List ℕ) : Type 0 where
  pub told : outcome_as r m' w' ≡ settled (refusal row.checks) row.effect (world_as card m w)
  pub kept : ((answer_as r.answer).number ≡ 0 → ⊥) → r.card ≡ card
  pub said : (answer_as r.answer).number ≡ 0 → IsOk r.answer

-- What the function of a kind promises, the same of the kind's row.
pub record Did (k : Kind) (card : Card) (q : Access) (m w : List ℕ) (r : Outcome) (m' w' : List ℕ) : Type 0 where
  pub told : outcome_as r m' w' ≡ does k (world_as card m w) (access_as q)
  pub kept : ((answer_as r.answer).number ≡ 0 → ⊥) → r.card ≡ card
  pub said : (answer_as r.answer).number ≡ 0 → IsOk r.answer
