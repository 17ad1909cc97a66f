-- Each place below the index has its number.
use Rattle.std.proofs.Common.{◌≡◌, ℕ, ◌<◌, length, get_or}
use Rattle.testing.specs.Bridge.{number_at}
use Rattle.testing.proofs.numbers.Given as goal

abbrev pub invariant-loop-i : goal.invariant-loop-i
invariant-loop-i g l =
    (length l.each-items ≡ g.row.N) × ((k : ℕ) → k < l.i → get_or l.each-items k 0 ≡ number_at l.bytes k)
