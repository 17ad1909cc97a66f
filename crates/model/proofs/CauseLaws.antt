-- Where cause 9 does not hold, by its tests one by one: the range lies in its memory.
use Rattle.std.specs.Prelude.{◌≡◌, false, not, ◌||◌, ℕ, ◌+◌, ◌≤◌, ltb}
use Rattle.std.proofs.Common.{ltb-false}
use Rattle.model.specs.Checks.{multiple_of4, above, misplaced}
use Rattle.model.proofs.TestLaws.{or_left, or_right}

-- `n` bytes from an address lie among those from `lo` to below `hi`
pub record Placed (at n lo hi : ℕ) : Type 0 where
  pub low : lo ≤ at
  pub high : at + n ≤ hi

pub placed : (at n lo hi : ℕ) → misplaced at n lo hi ≡ false → Placed at n lo hi
placed at n lo hi h =
    let odd = not (multiple_of4 at) in
    let below = ltb at lo in
    record { low = ltb-false at lo (or_right odd below (or_left (odd || below) (above hi (at + n)) h)); high = ltb-false hi (at + n) (or_right (odd || below) (above hi (at + n)) h) }
