-- The bytes of the data by their places, modes 1 and 2 alike; the Motorola rows worked out, by a computed test over all of them.
use Rattle.std.specs.Prelude.{◌≡◌, refl, Bool, true, false, ◌&&◌, ◌||◌, ◌∷◌, ℕ, zero, suc, ◌+◌, ◌-◌, ◌*◌, ◌/◌, ◌%◌, ◌^◌, ◌≤◌, ◌<◌, eqb, get_or, if◌then◌else◌}
use Rattle.std.proofs.Common.{ap, sym, ◌∙◌, add-one, arith, div-one, pow-suc, below_none, below_more, eqb-true}
use Rattle.std.proofs.Math.Nat.{div-div-eq-div-mul}
use Rattle.std.specs.Int.Bits.{bit_and, bit_xor}
use Rattle.std.proofs.lemmas.Bool.{eqb-false}
use Rattle.model.specs.Lanes.{bytes_of, byte_of, lane_values}
use Rattle.model.specs.Pins.{motorola_rows}
use Rattle.model.proofs.TestLaws.{and_left, and_right, or_left}
use Rattle.pins.specs.Bridge.{one_lane, carried_in}

-- WHAT THE LANES CARRY

bytes_from : (n number k : ℕ) → bytes_of n (number / 256 ^ k) ≡ lane_values n (byte_of number) k 0
bytes_from zero number k = refl
bytes_from (suc n) number k =
    let e : number / 256 ^ k / 256 ≡ number / 256 ^ (k + 1) = rw (add-one, pow-suc, div-div-eq-div-mul) in
    rw e (ap (number / 256 ^ k % 256 ∷◌) (bytes_from n number (k + 1)))

-- mode 3: each lane carries its own byte
pub carried_whole : (dq : ℕ) → bytes_of 4 dq ≡ carried_in 3 dq
carried_whole dq = ap (bytes_of 4) (sym (div-one dq)) ∙ bytes_from 4 dq 0

-- "in modes 1 and 2" alike
pub carried_halves : (mode dq : ℕ) → 0 < mode → mode < 3 → carried_in 1 dq ≡ carried_in mode dq
carried_halves zero dq h l = absurd (omega arith)
carried_halves (suc zero) dq h l = refl
carried_halves (suc (suc zero)) dq h l = refl
carried_halves (suc (suc (suc n))) dq h l = absurd (omega arith)

-- BY COMPUTATION: two functions of a number agree below n where a test that antt computes says so

abbrev agree : (n : ℕ) → (f g : ℕ → ℕ) → Bool
agree zero f g = true
agree (suc n) f g = eqb (f n) (g n) && agree n f g

agree_below : (n : ℕ) (f g : ℕ → ℕ) → agree n f g ≡ true → (k : ℕ) → k < n → f k ≡ g k
agree_below zero f g t = below_none (λ k. f k ≡ g k)
agree_below (suc n) f g t =
    rw (← add-one n) (below_more (λ k. f k ≡ g k) n (agree_below n f g (and_right (eqb (f n) (g n)) (agree n f g) t)) (eqb-true (f n) (g n) (and_left (eqb (f n) (g n)) (agree n f g) t)))

-- WHICH LANES ARE ENABLED

-- "0 enables": of the four bits of a lane mask that of the lane is cleared
pub one_lane_is : (lane : ℕ) → lane ≤ 3 → bit_xor 0b1111 (1 * 2 ^ lane % 2 ^ 8) ≡ one_lane lane
one_lane_is lane h = agree_below 4 (λ k. bit_xor 0b1111 (1 * 2 ^ k % 2 ^ 8)) one_lane refl lane (omega arith)

-- document 02, L3: "an odd address enables one lane, an even one two, unless the size code is 01"
abbrev pub alone : (pins : ℕ) → Bool
alone pins = eqb (pins % 4 % 2) 1 || eqb (pins / 4) 0b01

abbrev pub worked_out : (pins : ℕ) → ℕ
worked_out pins =
    let lane = 3 - pins % 4 in
    if alone pins then one_lane lane else bit_and (one_lane lane) (one_lane (lane - 1))

-- "Document 01's rows stay the meaning"
pub rows_worked_out : (pins : ℕ) → pins ≤ 15 → worked_out pins ≡ get_or motorola_rows pins 15
rows_worked_out pins h = agree_below 16 worked_out (λ k. get_or motorola_rows k 15) refl pins (omega arith)

-- where two lanes are enabled, there is one below the first
pub lane_below : (pins : ℕ) → alone pins ≡ false → 1 ≤ 3 - pins % 4
lane_below pins t =
    let even = eqb-false (pins % 4 % 2) 1 (or_left _ _ t) in
    omega arith
