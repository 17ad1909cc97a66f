-- What contracts of phases and bursts cite: a phase and an answer of the code in the model's words, and the checks.
use Rattle.std.specs.Prelude.{◌≡◌, ⊤, Bool, not, ◌||◌, List, [], ◌∷◌, map, ℕ, Ok, Err, Result, eqb, length}
use Rattle.model.specs.Choice.{every}
use Rattle.model.specs.Checks.{Check, ◌for◌, above}
use Rattle.model.specs.Sides.{local, side_of, not_by}
use Rattle.model.specs.Accesses.{Answer}
use Rattle.model.specs.Bursts as model
use Rattle.model.specs.Bursts.{Told}
use Rattle.access.specs.Bridge.{number_of}
use Rattle.phases.specs.declared.Phase.{Phase}
use Rattle.phases.specs.declared.Stop.{Stop}
use Rattle.phases.specs.declared.Stop.TheVariants.{Refused, Overrun}

abbrev pub phase_as : Phase → model.Phase
phase_as p = record { pins = p.pins; dq = p.dq }

abbrev pub phases_as : List Phase → List model.Phase
phases_as ps = map phase_as ps

-- "V is the phases done, X 0": of a refusal two zeros, of the overrun the phases before it
abbrev pub total_as : Result ℕ Stop → Answer
total_as (Ok v) = record { number = 0; v = v; x = 0 }
total_as (Err (Refused r)) = record { number = number_of r; v = 0; x = 0 }
total_as (Err (Overrun v)) = record { number = 13; v = v; x = 0 }

-- The overrun is told by its own case alone: no refusal that is answered has its number. With this the answer of the definition has one value in code.
abbrev pub OverrunByCase : Result ℕ Stop → Type 0
OverrunByCase (Ok v) = ⊤
OverrunByCase (Err (Refused r)) = number_of r ≡ 13 → ⊥
OverrunByCase (Err (Overrun v)) = ⊤

-- with the list that was lent, as it is left
abbrev pub told_as : Result ℕ Stop → (list : List ℕ) → Told
told_as t list = record { answer = total_as t; list = list }

abbrev pub pins_fit : List model.Phase → Bool
pins_fit ps = every (λ p. not (above 15 p.pins)) ps

abbrev pub all_low : List model.Phase → Bool
all_low ps = every (λ p. eqb p.pins 0) ps

-- `burst_checks` behind cause 1, over plain values
abbrev pub checks_of : (unfit : Bool) → (side mode : ℕ) → List model.Phase → (short : Bool) → List Check
checks_of unfit side mode ps short =
    1 for unfit
    ∷ 2 for above 1 side
    ∷ 5 for not_by local (side_of side)
    ∷ 12 for (eqb mode 2 || above 3 mode || above 65536 (length ps))
    ∷ 4 for not (pins_fit ps)
    ∷ 14 for short ∷ []
