-- One of the four pairs, read and replaced; all four, tested.
use Rattle.std.specs.Prelude.{◌≡◌, refl, Bool, false, ◌&&◌, List, [], ◌∷◌, map, ℕ, length, get_or, set}
use Rattle.std.specs.List.{list_all}
use Rattle.std.proofs.Common.{ap, sym, ◌∙◌}
use Rattle.std.proofs.lemmas.List.{length-map}
use Rattle.std.proofs.Math.ListN.{get_or-map}
use Rattle.model.specs.Sides.{Side}
use Rattle.model.specs.Arbitration.{pair_of, with_flag, with_flag_of, pair_sound, arbitration_sound}
use Rattle.model.specs.Choice.{every}
use Rattle.model.proofs.FourLaws.{map_set}
use Rattle.arbitration.specs.declared.Pair.{Pair}
use Rattle.arbitration.specs.Bridge.{pair_as}

-- what an array has behind its end
abbrev pub no_pair : Pair
no_pair = record { host = false; local = false }

module _ (pairs : List Pair) (i : ℕ) where
  pub pair_at : pair_of (map pair_as pairs) i ≡ pair_as (get_or pairs i no_pair)
  pair_at = get_or-map pair_as pairs i no_pair

  pub flag_set : (side : Side) (b : Bool) (p : Pair) → pair_as p ≡ with_flag side b (pair_as (get_or pairs i no_pair)) →
      map pair_as (set pairs i p) ≡ with_flag_of side i b (map pair_as pairs)
  flag_set side b p h = map_set pair_as pairs i p ∙ ap (set (map pair_as pairs) i) (h ∙ ap (with_flag side b) (sym pair_at))

-- a test of every pair is the test of all
all_pass : (l : List Pair) → list_all (λ (p : Pair). pair_sound (pair_as p)) l ≡ every pair_sound (map pair_as l)
all_pass [] = refl
all_pass (p ∷ l) = ap (pair_sound (pair_as p) &&◌) (all_pass l)

pub all_sound : (pairs : List Pair) → length pairs ≡ 4 → list_all (λ (p : Pair). pair_sound (pair_as p)) pairs ≡ arbitration_sound (map pair_as pairs)
all_sound pairs len = all_pass pairs ∙ rw (length-map, len)
