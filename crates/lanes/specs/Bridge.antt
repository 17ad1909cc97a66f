-- What contracts of lanes cite: bytes merged under a lane mask.
use Rattle.std.specs.Prelude.{List, [], ◌∷◌, ℕ, ◌/◌, if◌then◌else◌}
use Rattle.model.specs.Lanes.{enabled}

-- lane by lane, the new byte where the lane is enabled, else the old one
abbrev pub merge : (lanes : ℕ) → (old new : List ℕ) → List ℕ
merge lanes [] new = []
merge lanes (o ∷ old) [] = o ∷ old
merge lanes (o ∷ old) (n ∷ new) = (if enabled lanes then n else o) ∷ merge (lanes / 2) old new
