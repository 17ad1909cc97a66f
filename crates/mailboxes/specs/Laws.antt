-- The label of a host read, by the label that `bays` gives.
use Rattle.std.specs.Prelude.{◌≡◌, true, ℕ, ◌%◌, if◌then◌else◌}
use Rattle.std.proofs.Common.{ap, sym, ◌∙◌}
use Rattle.model.specs.Sides.{Side, host}
use Rattle.model.specs.Mailboxes.{Mailboxes, label_for}
use Rattle.bays.specs.Bridge.{label_at}
use Rattle.bays.specs.Laws.{label_for_host}

pub label_host : (side : Side) (m : Mailboxes) (n : ℕ) → side ≡ host → m.lhwritten ≡ true → n ≡ label_at (m.lhdata % 256) → n ≡ label_for side m
label_host side m n p w q = rw p (q ∙ sym (label_for_host m ∙ ap (λ b. if b then label_at (m.lhdata % 256) else 0) w))
