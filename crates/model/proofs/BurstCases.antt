-- Worked cases of L10: after which pins the dword address advances, the single accesses of bursts in each mode, and the checks in their order.
use Rattle.std.specs.Prelude.{◌≡◌, refl, true, false, List, [], ◌∷◌, ◌++◌, map, ℕ, replicate}
use Rattle.model.specs.Checks.{refusal}
use Rattle.model.specs.Pins.{decode}
use Rattle.model.specs.Bursts.{Phase, Way, reads, writes, Burst, advances, burst_checks, singles}
use Rattle.model.specs.Bench.{q, p}

-- mode 0 after pins 1100 to 1111, mode 1 after 1000 to 1111, mode 3 after all
abbrev all_pins : List ℕ
all_pins = 0 ∷ 1 ∷ 2 ∷ 3 ∷ 4 ∷ 5 ∷ 6 ∷ 7 ∷ 8 ∷ 9 ∷ 10 ∷ 11 ∷ 12 ∷ 13 ∷ 14 ∷ 15 ∷ []

pub advances_told : map (λ mode. map (advances mode) all_pins) (0 ∷ 1 ∷ 3 ∷ [])
    ≡ (replicate 12 false ++ replicate 4 true) ∷ (replicate 8 false ++ replicate 8 true) ∷ replicate 16 true ∷ []
advances_told = refl

-- one dword, 0x44332211, behind the upper half of the one before it: by six phases of mode 0, three of mode 1, two of mode 3
abbrev written : (mode start : ℕ) → List Phase → Burst
written mode start ps = record { way = writes; side = 1; mode = mode; start = start; phases = ps }

abbrev read : (mode start : ℕ) → List Phase → (list : List ℕ) → Burst
read mode start ps list = record { way = reads list; side = 1; mode = mode; start = start; phases = ps }

pub singles_told : map singles (
    written 0 0 (p 0b1000 0x33 ∷ p 0b1100 0x44 ∷ p 0b0000 0x11 ∷ p 0b0100 0x22 ∷ p 0b1000 0x33 ∷ p 0b1100 0x44 ∷ [])
    ∷ written 1 2 (p 0b1000 0x4433 ∷ p 0b0000 0x2211 ∷ p 0b1000 0x4433 ∷ [])
    ∷ written 3 4 (p 0b0011 0x44330000 ∷ p 0b0000 0x44332211 ∷ [])
    ∷ [])
    ≡ (q 2 1 0b1011 0 0x330000 0 ∷ q 2 1 0b0111 0 0x44000000 0 ∷ q 2 1 0b1110 4 0x11 0 ∷ q 2 1 0b1101 4 0x2200 0 ∷ q 2 1 0b1011 4 0x330000 0 ∷ q 2 1 0b0111 4 0x44000000 0 ∷ [])
    ∷ (q 2 1 0b0011 8 0x44330000 0 ∷ q 2 1 0b1100 12 0x2211 0 ∷ q 2 1 0b0011 12 0x44330000 0 ∷ [])
    ∷ (q 2 1 0b0011 16 0x44330000 0 ∷ q 2 1 0b0000 20 0x44332211 0 ∷ [])
    ∷ []
unfolding decode
singles_told = refl

-- reads ask for no dword; a phase without lanes advances; one past dword 4,095 is none, and nor is any of a burst that is refused
pub singles_ended : map singles (
    read 0 1 (p 0b0000 0x99 ∷ p 0b1100 0x99 ∷ p 0b0000 0x99 ∷ []) (0 ∷ 0 ∷ 0 ∷ [])
    ∷ read 1 4095 (p 0b1011 0 ∷ p 0b0000 0 ∷ []) (0 ∷ 0 ∷ [])
    ∷ written 3 4094 (p 0b1111 0x99 ∷ p 0b0000 0x11 ∷ p 0b0000 0x22 ∷ [])
    ∷ written 3 4096 (p 0 1 ∷ [])
    ∷ written 3 1073741824 (p 0 1 ∷ [])
    ∷ written 2 0 (p 0 1 ∷ [])
    ∷ written 3 0 (p 0 1 ∷ p 16 1 ∷ [])
    ∷ read 3 0 (p 0 0 ∷ p 0 0 ∷ []) (0 ∷ [])
    ∷ [])
    ≡ (q 1 1 0b1110 4 0 0 ∷ q 1 1 0b0111 4 0 0 ∷ q 1 1 0b1110 8 0 0 ∷ [])
    ∷ (q 1 1 0b1111 16380 0 0 ∷ [])
    ∷ (q 2 1 0b1111 16376 0 0 ∷ q 2 1 0b0000 16380 0x11 0 ∷ [])
    ∷ [] ∷ [] ∷ [] ∷ [] ∷ [] ∷ []
unfolding decode
singles_ended = refl

-- Behind 1, each check alone and with others behind it: side 2; the host; mode 2, 4 and 255, and one phase too many; pins 16, also behind an
-- overrun; a list shorter than the phases, also than those that are never reached. Last what passes: 65,536 phases, a list as long as the phases,
-- and no phase, wherever it starts.
abbrev asked : (side mode start : ℕ) → List Phase → Way → Burst
asked side mode start ps way = record { way = way; side = side; mode = mode; start = start; phases = ps }

pub checks_told : map (λ b. refusal (burst_checks b)) (
    asked 2 2 0 (p 16 0 ∷ []) writes
    ∷ asked 255 3 0 [] writes
    ∷ asked 0 2 0 (p 16 0 ∷ []) (reads [])
    ∷ asked 0 3 0 [] writes
    ∷ asked 1 2 0 (p 16 0 ∷ []) (reads [])
    ∷ asked 1 2 0 [] writes
    ∷ asked 1 4 0 [] writes
    ∷ asked 1 255 0 [] writes
    ∷ asked 1 1 0 (replicate 65537 (p 16 0)) (reads [])
    ∷ asked 1 3 0 (p 0 0 ∷ p 16 0 ∷ []) (reads [])
    ∷ asked 1 0 0 (p 4294967295 0 ∷ p 0 0 ∷ []) writes
    ∷ asked 1 3 4095 (p 0 0 ∷ p 0 0 ∷ p 16 0 ∷ []) writes
    ∷ asked 1 3 0 (p 0 0 ∷ p 0 0 ∷ []) (reads (0 ∷ []))
    ∷ asked 1 3 4096 (p 0 0 ∷ []) (reads [])
    ∷ asked 1 1 0 (replicate 65536 (p 15 0)) writes
    ∷ asked 1 0 0 (p 15 0 ∷ p 0 0 ∷ []) (reads (0 ∷ 0 ∷ []))
    ∷ asked 1 3 4294967295 [] (reads [])
    ∷ [])
    ≡ 2 ∷ 2 ∷ 5 ∷ 5 ∷ 12 ∷ 12 ∷ 12 ∷ 12 ∷ 12 ∷ 4 ∷ 4 ∷ 4 ∷ 14 ∷ 14 ∷ 0 ∷ 0 ∷ 0 ∷ []
checks_told = refl
