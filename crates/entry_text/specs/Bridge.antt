-- What contracts of entry_text cite: the tally as the model's, and that it still counts an entry.
use Rattle.std.specs.Prelude.{ℕ, ◌+◌, ◌<◌, ◌^◌}
use Rattle.model.specs.Rescue as model
use Rattle.model.specs.RescueText as text
use Rattle.entry_text.specs.declared.Tally.{Tally}

abbrev pub tally_as : Tally → text.Tally
tally_as t = record { kept = t.kept; doubtful = t.doubtful; skipped = t.skipped }

-- the bytes of ranges that an entry adds
abbrev pub size_of : model.Entry → ℕ
size_of (model.kept at number doubtful) = 0
size_of (model.skipped at size) = size

pub record Room (t : Tally) (e : model.Entry) : Type 0 where
  pub kept : t.kept + 1 < 2 ^ 64
  pub doubtful : t.doubtful + 1 < 2 ^ 64
  pub skipped : t.skipped + size_of e < 2 ^ 64
