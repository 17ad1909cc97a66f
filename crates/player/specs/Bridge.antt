-- What answering a chunk promises.
use Rattle.std.specs.Prelude.{◌≡◌, List, ℕ}
use Rattle.model.specs.Replay as model
use Rattle.decimal.specs.Bridge.{Written}

-- The text of its replay stands at the start of the buffer and ends at `end`, and the standing is the one after it.
pub record Played (chunk : model.Replayed) (before : List ℕ) (end : ℕ) (after : List ℕ) (now : model.Standing) : Type 0 where
  pub text : Written before 0 chunk.text end after
  pub standing : now ≡ chunk.standing
