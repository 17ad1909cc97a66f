use Rattle.std.proofs.Common.{◌≡◌, ◌≤◌, length}
use Rattle.std.proofs.lemmas.List.Edits.{sets}
use Rattle.model.specs.Text.{decimal_text}
use Rattle.decimal.specs.Bridge.{Written}
use Rattle.decimal.proofs.write_decimal.Given as goal

abbrev pub invariant-loop-left : goal.invariant-loop-left
invariant-loop-left l =
    (length l.out ≡ length l.fn.out) × (l.p ≤ l.end) × Written l.out l.at (decimal_text l.left) l.p (sets l.fn.out l.at (decimal_text l.n))

abbrev pub decreases-loop-left : goal.decreases-loop-left
decreases-loop-left l = l.left
