-- L4 at work: register accesses on the bench with their answers, one statement over a list of cases, by computation.
use Rattle.std.specs.Prelude.{◌≡◌, refl, List, [], ◌∷◌, ◌++◌, map, ℕ, zero, suc, ◌+◌, if◌then◌else◌}
use Rattle.model.specs.State.{sound, fresh_card}
use Rattle.model.specs.Lanes.{read_dword, write_dword}
use Rattle.model.specs.Runs.{run}
use Rattle.model.specs.Accesses.{access}
use Rattle.model.specs.RegisterMap.{resource_at, is_modelled}
use Rattle.model.specs.Registers.{register_access}
use Rattle.model.specs.Calls.{call}
use Rattle.model.specs.Bench.{r, d, g, CallCase, ◌gets◌, bench}

-- a transfer programmed by several writes of both sides; P is taken with the start, and a second start is refused; the values survive the
-- transfer, but not a reset
programmed_transfer : List CallCase
programmed_transfer =
    g 0 0x04B0 1 4 gets r 0 0 0
    ∷ g 0 0x04B4 1 0x10000000 gets r 0 0 0
    ∷ g 1 0x04B8 1 8 gets r 0 0 0
    ∷ g 0 0x04BC 1 0x100 gets r 0 2 0
    ∷ g 0 0x04BC 1 3 gets r 6 0 0
    ∷ d 15 0 0 0 0 0 gets r 0 1 1
    ∷ d 15 1 0 0 0 0 gets r 0 2 2
    ∷ g 1 0x04B0 0 0 gets r 0 4 0
    ∷ g 1 0x04B4 0 0 gets r 0 0x10000000 0
    ∷ g 1 0x04B8 0 0 gets r 0 8 0
    ∷ g 1 0x04BC 0 0 gets r 0 0x100 0
    ∷ d 0 1 0 0 0 0 gets r 0 0 0
    ∷ g 0 0x04B0 0 0 gets r 0 0 0
    ∷ g 0 0x04B4 0 0 gets r 0 0 0
    ∷ g 0 0x04B8 0 0 gets r 0 0 0
    ∷ g 0 0x04BC 0 0 gets r 0 0 0
    ∷ []

-- nothing is programmed; 16,384 is no bit of DMASIZE; the two lowest bits are ignored; a range that leaves shared memory
refused_starts : List CallCase
refused_starts =
    g 0 0x04BC 1 1 gets r 7 0 0
    ∷ g 0 0x04B8 1 16384 gets r 0 0 0
    ∷ g 0 0x04B8 0 0 gets r 0 0 0
    ∷ g 0 0x04BC 1 1 gets r 7 0 0
    ∷ g 0 0x04B8 1 11 gets r 0 0 0
    ∷ g 0 0x04B8 0 0 gets r 0 8 0
    ∷ g 0 0x04B0 1 0xFFFFFFFF gets r 0 0 0
    ∷ g 0 0x04B0 0 0 gets r 0 16380 0
    ∷ g 0 0x04BC 1 1 gets r 9 0 0
    ∷ g 0 0x04B4 1 0xFFFFFFFF gets r 0 0 0
    ∷ g 0 0x04B4 0 0 gets r 0 0xFFFFFFFC 0
    ∷ g 0 0x04B8 1 16380 gets r 0 0 0
    ∷ g 0 0x04B8 0 0 gets r 0 16380 0
    ∷ []

-- "a kind 14 given directly neither uses nor changes them"; W says which way, PI is stored, L and P keep each other off, and a 0 gives one back
control : List CallCase
control =
    g 0 0x04B8 1 4 gets r 0 0 0
    ∷ g 0 0x04B4 1 0x10000000 gets r 0 0 0
    ∷ d 14 0 1 8 0x10000010 8 gets r 0 2 0
    ∷ g 1 0x04B0 1 12 gets r 0 0 0
    ∷ d 15 0 0 0 0 0 gets r 0 1 1
    ∷ d 15 0 0 0 0 0 gets r 0 2 2
    ∷ g 0 0x04BC 0 0 gets r 0 0 0
    ∷ g 0 0x4010 1 0x44 gets r 0 0 0
    ∷ g 0 0x400C 1 0x55 gets r 0 0 0
    ∷ g 1 0x04BC 1 0xFFFFFFFF gets r 0 1 0
    ∷ g 1 0x04BC 0 0 gets r 0 0x203 0
    ∷ d 15 0 0 0 0 0 gets r 0 2 1
    ∷ d 3 0 0 0x10000000 0 0 gets r 0 0x55 0
    ∷ g 0 0x04BC 1 0x102 gets r 0 1 0
    ∷ g 0 0x04BC 0 0 gets r 0 0x202 0
    ∷ d 15 0 0 0 0 0 gets r 0 2 1
    ∷ g 1 0x04BC 1 1 gets r 0 1 0
    ∷ g 0 0x04BC 0 0 gets r 0 1 0
    ∷ []

-- a 0 in ARBUTIL gives a flag back; the other side's bits are ignored
flags : List CallCase
flags =
    g 0 0x04C0 1 0x01010101 gets r 0 0x01010101 0
    ∷ g 1 0x04C0 1 0x02 gets r 0 0 0
    ∷ g 1 0x04C0 0 0 gets r 0 0x01010101 0
    ∷ g 0 0x04C0 1 0x01000000 gets r 0 0x01000000 0
    ∷ g 1 0x04C0 1 0xFFFFFFFF gets r 0 0x00020202 0
    ∷ g 0 0x04C0 0 0 gets r 0 0x01020202 0
    ∷ []

-- bit 24 is not read back, and the label is the host's; HINT reads alike for both and is written by the host alone; bit 3 is cleared by a 1
mail_and_interrupts : List CallCase
mail_and_interrupts =
    g 1 0x04F8 1 0x01000017 gets r 0 0 0
    ∷ g 0 0x04F8 0 0 gets r 0 23 24
    ∷ g 1 0x04F8 0 0 gets r 0 23 0
    ∷ g 0 0x04F8 1 0 gets r 5 0 0
    ∷ g 0 0x04E4 0 0 gets r 0 8 0
    ∷ g 1 0x04E4 0 0 gets r 0 8 0
    ∷ g 1 0x04E4 1 8 gets r 5 0 0
    ∷ g 0 0x04E4 1 8 gets r 0 0 0
    ∷ g 1 0x04E4 0 0 gets r 0 0 0
    ∷ g 0 0x04E8 1 0x01000005 gets r 0 0 0
    ∷ g 1 0x04E8 0 0 gets r 0 5 0
    ∷ g 0 0x04E8 0 0 gets r 0 5 0
    ∷ g 0 0x04F4 0 0 gets r 0 8 0
    ∷ []

-- each port has two FIFOs and one side; shared memory begins at 0x4000 and ends at 0x7FFF
ports_and_memory : List CallCase
ports_and_memory =
    g 0 0x0040 1 7 gets r 0 1 1
    ∷ g 1 0x0048 0 0 gets r 0 7 1
    ∷ g 1 0x0048 1 8 gets r 0 1 1
    ∷ g 0 0x0040 0 0 gets r 0 8 1
    ∷ g 0 0x0044 1 9 gets r 0 1 1
    ∷ g 1 0x004C 0 0 gets r 0 9 1
    ∷ g 1 0x004C 1 10 gets r 0 1 1
    ∷ g 0 0x0044 0 0 gets r 0 10 1
    ∷ g 1 0x0040 0 0 gets r 5 0 0
    ∷ g 0 0x0048 0 0 gets r 5 0 0
    ∷ g 1 0x4000 1 0x11223344 gets r 0 0 0
    ∷ d 1 0 0 0 0 0 gets r 0 0x11223344 0
    ∷ g 0 0x7FFC 1 0x55667788 gets r 0 0 0
    ∷ d 1 0 0 16380 0 0 gets r 0 0x55667788 0
    ∷ g 0 0x7FFC 0 0 gets r 0 0x55667788 0
    ∷ []

-- in their order: 2, 11, 3, 4, 5
refusals : List CallCase
refusals =
    g 2 0x0041 0 1 gets r 2 0 0
    ∷ g 0 0x0041 0 1 gets r 11 0 0
    ∷ g 0 0x0041 2 0 gets r 11 0 0
    ∷ g 0 0x0030 0 0 gets r 11 0 0
    ∷ g 1 0x2000 0 0 gets r 11 0 0
    ∷ g 0 0x8000 0 0 gets r 11 0 0
    ∷ g 0 0x4001 0 0 gets r 11 0 0
    ∷ g 0 0x14000 0 0 gets r 11 0 0
    ∷ g 1 0x80004000 1 0 gets r 11 0 0
    ∷ g 0 0x04BC 0 1 gets r 3 0 0
    ∷ g 1 0x0040 0 1 gets r 3 0 0
    ∷ g 1 0x04E4 0 1 gets r 3 0 0
    ∷ g 0 0x04F8 0 1 gets r 3 0 0
    ∷ g 0 0x4000 0 1 gets r 3 0 0
    ∷ g 1 0x0040 2 0 gets r 4 0 0
    ∷ g 1 0x0040 2 1 gets r 4 0 0
    ∷ []

pub register_cases : List (List CallCase)
register_cases = programmed_transfer ∷ refused_starts ∷ control ∷ flags ∷ mail_and_interrupts ∷ ports_and_memory ∷ refusals ∷ []

pub cases_agree : map (λ l. (run call bench (map (λ e. e.access) l)).entries) register_cases ≡ register_cases
unfolding bench fresh_card access register_access sound read_dword write_dword register_cases programmed_transfer refused_starts control flags mail_and_interrupts ports_and_memory refusals
cases_agree = refl

-- THE MAP

abbrev modelled_from : (at n : ℕ) → List ℕ
modelled_from at zero = []
modelled_from at (suc n) = (if is_modelled (resource_at at) then at ∷ [] else []) ++ modelled_from (at + 4) n

-- of the dwords before shared memory these thirteen are modelled, and no other
pub thirteen : modelled_from 0 4096 ≡ 0x0040 ∷ 0x0044 ∷ 0x0048 ∷ 0x004C ∷ 0x04B0 ∷ 0x04B4 ∷ 0x04B8 ∷ 0x04BC ∷ 0x04C0 ∷ 0x04E4 ∷ 0x04E8 ∷ 0x04F4 ∷ 0x04F8 ∷ []
thirteen = refl
