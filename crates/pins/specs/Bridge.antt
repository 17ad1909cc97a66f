-- What contracts of pins cite: the code's answer as the model's, one lane, and what the lanes carry of the data.
use Rattle.std.specs.Prelude.{List, ℕ, Ok, Err, Result, ◌-◌, ◌^◌}
use Rattle.model.specs.Lanes.{byte_of, lane_values}
use Rattle.model.specs.Pins as model
use Rattle.access.specs.declared.Refusal.{Refusal}
use Rattle.access.specs.Bridge.{number_of}
use Rattle.pins.specs.declared.Decoded.{Decoded}

-- "refused with 4, lanes 15, dword 0": what stands beside the number
abbrev pub refused_decoded : Decoded
refused_decoded = record { lanes = 15; dword = 0 }

abbrev pub decoded_as : Result Decoded Refusal → model.Decoded
decoded_as (Ok d) = record { number = 0; lanes = d.lanes; dword = d.dword }
decoded_as (Err r) = record { number = number_of r; lanes = refused_decoded.lanes; dword = refused_decoded.dword }

-- the lane mask that enables one lane alone
abbrev pub one_lane : (lane : ℕ) → ℕ
one_lane lane = 0b1111 - 2 ^ lane

-- what the four lanes carry of the data DQ[31:0] in a mode: what they hold where all are enabled
abbrev pub carried_in : (mode dq : ℕ) → List ℕ
carried_in mode dq = lane_values 4 (λ lane. byte_of dq (model.data_byte mode lane)) 0 0
