-- What the code's `set & !n` is: at any width, what the set has and `n` has not.
use Rattle.std.specs.Prelude.{◌≡◌, ℕ, zero, suc, ◌+◌, ◌-◌, ◌*◌, ◌/◌, ◌^◌, ◌<◌}
use Rattle.std.proofs.Common.{arith}
use Rattle.std.proofs.Math.Nat.{pow-succ'}
use Rattle.std.specs.Int.Bits.{bit_and, and_step, and_zero_l}
use Rattle.model.specs.Events.{without}

-- a number is what it has in common with each of two complements, a digit at a time
parts : (k set m n : ℕ) → set < 2 ^ k → m + n + 1 ≡ 2 ^ k → bit_and set m + bit_and set n ≡ set
parts zero set m n h l = let z : set ≡ 0 = omega arith in rw (z, and_zero_l m, and_zero_l n)
parts (suc k) set m n h l =
    let w : 2 ^ suc k ≡ 2 * 2 ^ k = pow-succ' 2 k in
    let e = and_step set m in
    let f = and_step set n in
    let i = parts k (set / 2) (m / 2) (n / 2) (omega arith) (omega arith) in
    omega arith

pub and_not : (k set n : ℕ) → set < 2 ^ k → n < 2 ^ k → bit_and set (2 ^ k - 1 - n) ≡ without set n
and_not k set n h l = let e = parts k set (2 ^ k - 1 - n) n h (omega arith) in omega arith
