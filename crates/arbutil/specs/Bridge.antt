-- What a pair's access of an ARBUTIL write promises: the world that it leaves, and its V at the flag's bit.
use Rattle.std.specs.Prelude.{◌≡◌, List, ℕ, ◌*◌, ◌^◌}
use Rattle.model.specs.Sides.{Side}
use Rattle.model.specs.Arbitration.{flag_bit}
use Rattle.model.specs.State.{World}
use Rattle.model.specs.Changes.{world_after}
use Rattle.model.specs.Registers.{flag_written}
use Rattle.card.specs.declared.Card.{Card}
use Rattle.card.specs.Bridge.{world_as}

pub record Wrote (before : World) (side : Side) (dword pair : ℕ) (after : Card) (v' : ℕ) (m w : List ℕ) : Type 0 where
  pub v : v' ≡ (flag_written before side dword pair).v * 2 ^ flag_bit side pair
  pub world : world_as after m w ≡ world_after (flag_written before side dword pair) before
