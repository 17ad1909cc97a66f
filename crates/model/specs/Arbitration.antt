-- Document 01, "FIFOs and flags": the four pairs of arbitration flags.
use Rattle.std.specs.Prelude.{Bool, false, not, ◌&&◌, List, [], ◌∷◌, ℕ, ◌+◌, ◌*◌, length, get_or, set, replicate, eqb, if◌then◌else◌}
use Rattle.model.specs.Choice.{every}
use Rattle.model.specs.Sides.{Side, host, local}

-- "four pairs of arbitration flags": a pair has a flag of each side
pub record Pair : Type 0 where
  pub of_host : Bool
  pub of_local : Bool

abbrev pub Arbitration : Type 0
Arbitration = List Pair

-- fresh: both clear
abbrev pub fresh_pair : Pair
fresh_pair = record { of_host = false; of_local = false }

abbrev pub fresh_arbitration : Arbitration
fresh_arbitration = replicate 4 fresh_pair

-- "no pair has both flags set"
abbrev pub pair_sound : Pair → Bool
pair_sound p = not (p.of_host && p.of_local)

abbrev pub arbitration_sound : Arbitration → Bool
arbitration_sound ps = eqb (length ps) 4 && every pair_sound ps

-- pair i, and a side's flag of a pair
abbrev pub pair_of : Arbitration → (i : ℕ) → Pair
pair_of ps i = get_or ps i fresh_pair

abbrev pub flag : Side → Pair → Bool
flag host p = p.of_host
flag local p = p.of_local

-- a side's flag set or cleared: of a pair, of pair i
abbrev pub with_flag : Side → Bool → Pair → Pair
with_flag host b p = record { of_host = b; of_local = p.of_local }
with_flag local b p = record { of_host = p.of_host; of_local = b }

abbrev pub with_flag_of : Side → (i : ℕ) → Bool → Arbitration → Arbitration
with_flag_of side i b ps = set ps i (with_flag side b (pair_of ps i))

-- L4, ARBUTIL: bit 25 L3, 24 P3, 17 L2, 16 P2, 9 L1, 8 P1, 1 L0, 0 P0; P is the host's flag, L the local side's (document 000, page 37)
abbrev pub pair_value : Pair → ℕ
pair_value p = (if p.of_host then 1 else 0) + (if p.of_local then 2 else 0)

abbrev pub flags_value : Arbitration → ℕ
flags_value [] = 0
flags_value (p ∷ ps) = pair_value p + 256 * flags_value ps

abbrev pub flag_bit : Side → (pair : ℕ) → ℕ
flag_bit host k = 8 * k
flag_bit local k = 8 * k + 1
