-- The lane facts of the local pins, for any number of lanes and so for every mode: a lane holds what it carries where it is enabled, else 0.
-- By induction on the number of lanes, with the lane mask halved and the dword divided by 256 from lane to lane.
use Rattle.std.specs.Prelude.{◌≡◌, List, [], ◌∷◌, ℕ, zero, suc, ◌+◌, ◌*◌, ◌/◌, ◌^◌, ◌≤◌, ◌<◌, get_or, if◌then◌else◌}
use Rattle.std.proofs.Common.{◌∙◌, arith, div-one, zero-add, le-ltb}
use Rattle.std.proofs.Math.Nat.{div-div-eq-div-mul, pow-succ', zero-div}
use Rattle.model.specs.Lanes.{enabled, dword_of, byte_of, lane_values}
use Rattle.model.specs.Pins.{lanes_of, data_byte, decode}
use Rattle.model.proofs.TestLaws.{or-false, if_case}
use Rattle.model.proofs.LaneLaws.{Bytes}

-- ANY NUMBER OF LANES

pub lane_holds : (n : ℕ) (carried : ℕ → ℕ) (k lanes j : ℕ) → j < n →
    get_or (lane_values n carried k lanes) j 0 ≡ (if enabled (lanes / 2 ^ j) then carried (k + j) else 0)
lane_holds zero carried k lanes j h = absurd (omega arith)
lane_holds (suc n) carried k lanes zero h = let e : k + 0 ≡ k = omega arith in rw (div-one, e)
lane_holds (suc n) carried k lanes (suc j) h =
    let e : k + 1 + j ≡ k + suc j = omega arith in
    rw (pow-succ', ← div-div-eq-div-mul, ← e) (lane_holds n carried (k + 1) (lanes / 2) j (omega arith))

-- where each lane carries a byte, each holds one
lane_small : (n : ℕ) (carried : ℕ → ℕ) (k lanes : ℕ) → ((i : ℕ) → carried i < 256) → Bytes (lane_values n carried k lanes)
lane_small zero carried k lanes h i = omega arith
lane_small (suc n) carried k lanes h zero = if_case (λ x. x < 256) (enabled lanes) (carried k) 0 (λ _. h k) (λ _. omega arith)
lane_small (suc n) carried k lanes h (suc i) = lane_small n carried (k + 1) (lanes / 2) h i

-- "lane 0 holds bits 7 to 0": byte j of a dword is that of lane j
byte_dword : (bytes : List ℕ) (j : ℕ) → Bytes bytes → byte_of (dword_of bytes) j ≡ get_or bytes j 0
byte_dword [] j h = rw (zero-div (256 ^ j))
byte_dword (b ∷ bs) zero h = let l : b < 256 = h 0 in rw div-one (omega arith)
byte_dword (b ∷ bs) (suc j) h =
    let l : b < 256 = h 0 in
    let e : (b + 256 * dword_of bs) / 256 ≡ dword_of bs = omega arith in
    rw (pow-succ', ← div-div-eq-div-mul, e) (byte_dword bs j (λ i. h (suc i)))

-- so byte j of the dword is what lane j holds
pub dword_lane : (n : ℕ) (carried : ℕ → ℕ) (k lanes j : ℕ) → ((i : ℕ) → carried i < 256) → j < n →
    byte_of (dword_of (lane_values n carried k lanes)) j ≡ (if enabled (lanes / 2 ^ j) then carried (k + j) else 0)
dword_lane n carried k lanes j c h =
    byte_dword (lane_values n carried k lanes) j (lane_small n carried k lanes c) ∙ lane_holds n carried k lanes j h

-- THE PINS

-- a request that is not refused
pub decode_is : (mode pins dq : ℕ) → mode ≤ 3 → pins ≤ 15 →
    decode mode pins dq ≡ record { number = 0; lanes = lanes_of mode pins; dword = dword_of (lane_values 4 (λ lane. byte_of dq (data_byte mode lane)) 0 (lanes_of mode pins)) }
unfolding decode
decode_is mode pins dq m p = rw (or-false (le-ltb 3 mode m) (le-ltb 15 pins p))

-- "The answer is lanes and dword; unused lanes are 0": a used lane of the dword holds the byte of the data that it carries in that mode.
pub decode_lane : (mode pins dq j : ℕ) → mode ≤ 3 → pins ≤ 15 → j < 4 →
    let answer = decode mode pins dq in
    byte_of answer.dword j ≡ (if enabled (answer.lanes / 2 ^ j) then byte_of dq (data_byte mode j) else 0)
decode_lane mode pins dq j m p h =
    rw (decode_is mode pins dq m p) (rw (zero-add j) at (dword_lane 4 (λ lane. byte_of dq (data_byte mode lane)) 0 (lanes_of mode pins) j (λ lane. omega arith) h))
