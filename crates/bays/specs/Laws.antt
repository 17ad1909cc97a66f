-- The part of a bay's label in the label of a mailbox read.
use Rattle.std.specs.Prelude.{◌≡◌, refl, Bool, true, false, ◌&&◌, ◌%◌, leb, if◌then◌else◌}
use Rattle.model.specs.Sides.{host}
use Rattle.model.specs.Bays.{bay_label}
use Rattle.model.specs.Mailboxes.{Mailboxes, label_for}
use Rattle.bays.specs.Bridge.{label_at}

-- on a host read it is the label for byte 0, if the mailbox was written since reset
pub label_for_host : (m : Mailboxes) → label_for host m ≡ (if m.lhwritten then label_at (m.lhdata % 256) else 0)
label_for_host m = by m.lhwritten
  where
    by : (w : Bool) → (if w && leb (m.lhdata % 256) 23 then bay_label (m.lhdata % 256) else 0) ≡ (if w then label_at (m.lhdata % 256) else 0)
    by true = refl
    by false = refl
