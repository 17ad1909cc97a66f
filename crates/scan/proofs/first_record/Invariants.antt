-- Each turn passes two places where no record stands; at the end at most one is left.
use Rattle.std.proofs.Common.{◌≡◌, false, ℕ, ◌*◌, ◌<◌, drop}
use Rattle.model.specs.Rescue.{stands}
use Rattle.scan.proofs.first_record.Given as goal

abbrev pub invariant-loop-pair : goal.invariant-loop-pair
invariant-loop-pair l = (k : ℕ) → k < 2 * l.pair → stands (drop k l.bytes) ≡ false
