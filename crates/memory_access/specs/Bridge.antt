-- The checks of reads and writes: `b` and `c` are the fields B and C, or 0 for one that the kind uses.
use Rattle.std.specs.Prelude.{List, [], ◌∷◌, ℕ}
use Rattle.model.specs.Checks.{Check, ◌for◌, nonzero, above, misplaced, shared_length}
use Rattle.model.specs.Sides.{Side, host, not_by}
use Rattle.model.specs.Settings.{Settings, outside_window}

-- kinds 1 and 2
abbrev pub shared_checks : (s a b c : ℕ) → List Check
shared_checks s a b c = 3 for nonzero (b ∷ c ∷ []) ∷ 4 for above 15 s ∷ 9 for misplaced a 4 0 shared_length ∷ []

-- kinds 3 and 4: "host only"
abbrev pub window_checks : Settings → Side → (s a b c : ℕ) → List Check
window_checks t side s a b c = 3 for nonzero (b ∷ c ∷ []) ∷ 4 for above 15 s ∷ 5 for not_by host side ∷ 9 for outside_window t a 4 ∷ []
