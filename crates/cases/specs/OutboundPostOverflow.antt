-- Written by the independent program, oracle/: a list of accesses with its answers, and what it leaves.
use Rattle.std.specs.Prelude.{refl, List, [], ◌∷◌}
use Rattle.model.specs.Lanes.{read_dword, write_dword}
use Rattle.model.specs.State.{World, sound, fresh_card, fresh_world, with_interrupts}
use Rattle.model.specs.Runs.{Entry}
use Rattle.model.specs.Accesses.{Access, Answer, access}
use Rattle.model.specs.Bench.{q, r, ◌gives◌}
use Rattle.cases.specs.Vectors.{settings, interrupts, untouched, world, bytes, RunAgrees}

first : World
first = fresh_world (settings 268435456 64 0 68) (bytes ((0, 54 ∷ 4 ∷ 64 ∷ 92 ∷ 26 ∷ 44 ∷ 211 ∷ 79 ∷ 20 ∷ 89 ∷ 31 ∷ 198 ∷ 94 ∷ 135 ∷ 169 ∷ 171 ∷ 7 ∷ 112 ∷ 193 ∷ 204 ∷ []) ∷ (16344, 12 ∷ 53 ∷ 137 ∷ 66 ∷ 244 ∷ 136 ∷ 182 ∷ 1 ∷ 191 ∷ 118 ∷ 66 ∷ 58 ∷ 99 ∷ 71 ∷ 217 ∷ 104 ∷ 154 ∷ 247 ∷ 61 ∷ 114 ∷ []) ∷ [])) (bytes [])

entries : List (Entry Access Answer)
entries =
    q 5 0 3 0 0 0 gives r 0 4294967295 0
    ∷ q 12 0 0 0 12779520 0 gives r 0 0 0
    ∷ q 6 1 3 0 4294967295 0 gives r 0 1 1
    ∷ q 11 0 0 0 0 0 gives r 0 12779648 0
    ∷ q 11 1 0 0 0 0 gives r 0 128 0
    ∷ q 6 1 3 0 0 0 gives r 0 2 1
    ∷ q 6 1 3 0 2329089410 0 gives r 0 3 1
    ∷ q 6 1 3 0 1282814623 0 gives r 0 4 1
    ∷ q 6 1 3 0 4007090329 0 gives r 0 5 1
    ∷ q 6 1 3 0 3511685543 0 gives r 0 6 1
    ∷ q 6 1 3 0 1037708276 0 gives r 0 7 1
    ∷ q 6 1 3 0 4264537999 0 gives r 0 8 1
    ∷ q 6 1 3 0 3514321763 0 gives r 0 9 1
    ∷ q 6 1 3 0 1810609610 0 gives r 0 10 1
    ∷ q 6 1 3 0 365036895 0 gives r 0 11 1
    ∷ q 6 1 3 0 3675844551 0 gives r 0 12 1
    ∷ q 6 1 3 0 3993005439 0 gives r 0 13 1
    ∷ q 6 1 3 0 492641899 0 gives r 0 14 1
    ∷ q 6 1 3 0 2531725686 0 gives r 0 15 1
    ∷ q 6 1 3 0 1229934639 0 gives r 0 16 1
    ∷ q 6 1 3 0 537192850 0 gives r 0 17 1
    ∷ q 6 1 3 0 1757902929 0 gives r 0 18 1
    ∷ q 6 1 3 0 2263823466 0 gives r 0 19 1
    ∷ q 6 1 3 0 3456789218 0 gives r 0 20 1
    ∷ q 6 1 3 0 2133362369 0 gives r 0 21 1
    ∷ q 6 1 3 0 2522674211 0 gives r 0 22 1
    ∷ q 6 1 3 0 3785978324 0 gives r 0 23 1
    ∷ q 6 1 3 0 1190299830 0 gives r 0 24 1
    ∷ q 6 1 3 0 619330644 0 gives r 0 25 1
    ∷ q 6 1 3 0 670513101 0 gives r 0 26 1
    ∷ q 6 1 3 0 3193926775 0 gives r 0 27 1
    ∷ q 6 1 3 0 1891794582 0 gives r 0 28 1
    ∷ q 6 1 3 0 2240316479 0 gives r 0 29 1
    ∷ q 6 1 3 0 287666812 0 gives r 0 30 1
    ∷ q 6 1 3 0 3428159945 0 gives r 0 31 1
    ∷ q 6 1 3 0 2331670367 0 gives r 0 32 1
    ∷ q 13 0 0 0 0 0 gives r 0 1 0
    ∷ q 6 1 3 0 4321 0 gives r 0 32 0
    ∷ q 11 0 0 0 0 0 gives r 0 12779649 0
    ∷ q 11 1 0 0 0 0 gives r 0 129 0
    ∷ q 6 1 3 0 4322 0 gives r 0 32 0
    ∷ q 5 1 3 0 0 0 gives r 5 0 0
    ∷ q 6 0 3 0 1 0 gives r 5 0 0
    ∷ q 12 0 0 0 12583107 0 gives r 0 0 0
    ∷ q 13 0 0 0 0 0 gives r 0 1 0
    ∷ q 13 1 0 0 0 0 gives r 0 0 0
    ∷ q 5 0 3 0 0 0 gives r 0 4294967295 32
    ∷ q 5 0 3 0 0 0 gives r 0 0 31
    ∷ q 5 0 3 0 0 0 gives r 0 2329089410 30
    ∷ q 5 0 3 0 0 0 gives r 0 1282814623 29
    ∷ q 5 0 3 0 0 0 gives r 0 4007090329 28
    ∷ q 5 0 3 0 0 0 gives r 0 3511685543 27
    ∷ q 5 0 3 0 0 0 gives r 0 1037708276 26
    ∷ q 5 0 3 0 0 0 gives r 0 4264537999 25
    ∷ q 5 0 3 0 0 0 gives r 0 3514321763 24
    ∷ q 5 0 3 0 0 0 gives r 0 1810609610 23
    ∷ q 5 0 3 0 0 0 gives r 0 365036895 22
    ∷ q 5 0 3 0 0 0 gives r 0 3675844551 21
    ∷ q 5 0 3 0 0 0 gives r 0 3993005439 20
    ∷ q 5 0 3 0 0 0 gives r 0 492641899 19
    ∷ q 5 0 3 0 0 0 gives r 0 2531725686 18
    ∷ q 5 0 3 0 0 0 gives r 0 1229934639 17
    ∷ q 5 0 3 0 0 0 gives r 0 537192850 16
    ∷ q 5 0 3 0 0 0 gives r 0 1757902929 15
    ∷ q 5 0 3 0 0 0 gives r 0 2263823466 14
    ∷ q 5 0 3 0 0 0 gives r 0 3456789218 13
    ∷ q 5 0 3 0 0 0 gives r 0 2133362369 12
    ∷ q 5 0 3 0 0 0 gives r 0 2522674211 11
    ∷ q 5 0 3 0 0 0 gives r 0 3785978324 10
    ∷ q 5 0 3 0 0 0 gives r 0 1190299830 9
    ∷ q 5 0 3 0 0 0 gives r 0 619330644 8
    ∷ q 5 0 3 0 0 0 gives r 0 670513101 7
    ∷ q 5 0 3 0 0 0 gives r 0 3193926775 6
    ∷ q 5 0 3 0 0 0 gives r 0 1891794582 5
    ∷ q 5 0 3 0 0 0 gives r 0 2240316479 4
    ∷ q 5 0 3 0 0 0 gives r 0 287666812 3
    ∷ q 5 0 3 0 0 0 gives r 0 3428159945 2
    ∷ q 5 0 3 0 0 0 gives r 0 2331670367 1
    ∷ q 11 0 0 0 0 0 gives r 0 12582912 0
    ∷ q 11 1 0 0 0 0 gives r 0 1 0
    ∷ q 5 0 3 0 0 0 gives r 0 4294967295 0
    ∷ q 13 0 0 0 0 0 gives r 0 0 0
    ∷ q 13 1 0 0 0 0 gives r 0 0 0
    ∷ []

last : World
last =
    world
    (with_interrupts (interrupts 192 0 0 1) (untouched (settings 0 0 0 0)))
    (bytes ((0, 54 ∷ 4 ∷ 64 ∷ 92 ∷ 26 ∷ 44 ∷ 211 ∷ 79 ∷ 20 ∷ 89 ∷ 31 ∷ 198 ∷ 94 ∷ 135 ∷ 169 ∷ 171 ∷ 7 ∷ 112 ∷ 193 ∷ 204 ∷ []) ∷ (16344, 12 ∷ 53 ∷ 137 ∷ 66 ∷ 244 ∷ 136 ∷ 182 ∷ 1 ∷ 191 ∷ 118 ∷ 66 ∷ 58 ∷ 99 ∷ 71 ∷ 217 ∷ 104 ∷ 154 ∷ 247 ∷ 61 ∷ 114 ∷ []) ∷ []))
    (bytes [])

agrees : RunAgrees first entries last
unfolding first entries last access sound fresh_card read_dword write_dword
agrees = refl
