-- Document 01, "Mailboxes": what a write does.
use Rattle.std.specs.Prelude.{[], ◌∷◌, ℕ, ◌%◌, if◌then◌else◌}
use Rattle.model.specs.Sides.{Side, other}
use Rattle.model.specs.Events.{mailbox, bit}
use Rattle.model.specs.Changes.{Effect, done, mail_is, raised}

-- "A write stores bits 15 to 0; bit 24 set raises event 3 for the other side; other bits are ignored. Bit 24 clear
-- raises and clears nothing."
abbrev pub mail_written : Side → (b : ℕ) → Effect
mail_written side b = done 0 0 (mail_is side (b % 65536) ∷ (if bit 24 b then raised (other side) mailbox ∷ [] else []))
