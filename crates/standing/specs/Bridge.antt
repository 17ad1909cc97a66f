-- Where the code's replay stands, in the model's words.
use Rattle.std.specs.Prelude.{List, ℕ}
use Rattle.model.specs.Accesses as words
use Rattle.model.specs.Accesses.{access}
use Rattle.model.specs.Replay.{moved_on}
use Rattle.model.specs.Replay as model
use Rattle.access.specs.Bridge.{answer_as}
use Rattle.card.specs.Bridge.{world_as}
use Rattle.standing.specs.declared.Standing.{Standing}
use Rattle.standing.specs.declared.Performed.{Performed}

-- the card's part is the code's, and both memories are lent
abbrev pub standing_as : Standing → (shared window : List ℕ) → model.Standing
standing_as s shared window = record { world = world_as s.card shared window; expected = s.expected; count = s.count; stopped = s.stopped }

-- one record of a replay: the answer of its access, and where the replay stands then
pub record PerformedOn : Type 0 where
  pub answer : words.Answer
  pub standing : model.Standing

abbrev pub performed : model.Standing → words.Access → PerformedOn
performed s q = let o = access s.world q in record { answer = o.answer; standing = moved_on s o.world }

abbrev pub performed_as : Performed → (shared window : List ℕ) → PerformedOn
performed_as p shared window = record { answer = answer_as p.answer; standing = standing_as p.standing shared window }
