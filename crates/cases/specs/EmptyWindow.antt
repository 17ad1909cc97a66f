-- Written by the independent program, oracle/: a list of accesses with its answers, and what it leaves.
use Rattle.std.specs.Prelude.{refl, List, [], ◌∷◌}
use Rattle.model.specs.Lanes.{read_dword, write_dword}
use Rattle.model.specs.State.{World, sound, fresh_card, fresh_world, with_interrupts}
use Rattle.model.specs.Runs.{Entry}
use Rattle.model.specs.Accesses.{Access, Answer, access}
use Rattle.model.specs.Bench.{q, r, ◌gives◌}
use Rattle.cases.specs.Vectors.{settings, interrupts, untouched, world, bytes, RunAgrees}

first : World
first = fresh_world (settings 268435456 0 0 0) (bytes ((0, 17 ∷ 182 ∷ 110 ∷ 180 ∷ 30 ∷ 235 ∷ 250 ∷ 33 ∷ 181 ∷ 132 ∷ 99 ∷ 220 ∷ 212 ∷ 6 ∷ 220 ∷ 67 ∷ 13 ∷ 49 ∷ 255 ∷ 114 ∷ []) ∷ (16344, 156 ∷ 182 ∷ 119 ∷ 134 ∷ 24 ∷ 58 ∷ 25 ∷ 151 ∷ 116 ∷ 168 ∷ 210 ∷ 30 ∷ 113 ∷ 114 ∷ 170 ∷ 235 ∷ 248 ∷ 108 ∷ 133 ∷ 14 ∷ []) ∷ [])) (bytes [])

entries : List (Entry Access Answer)
entries =
    q 3 0 0 268435456 0 0 gives r 9 0 0
    ∷ q 4 0 6 268435456 1528609284 0 gives r 9 0 0
    ∷ q 3 0 0 268435456 0 0 gives r 9 0 0
    ∷ q 3 0 0 268435452 0 0 gives r 9 0 0
    ∷ q 4 0 6 268435452 445100288 0 gives r 9 0 0
    ∷ q 3 0 0 268435452 0 0 gives r 9 0 0
    ∷ q 3 0 0 268435456 0 0 gives r 9 0 0
    ∷ q 4 0 6 268435456 1498424745 0 gives r 9 0 0
    ∷ q 3 0 0 268435456 0 0 gives r 9 0 0
    ∷ q 3 0 0 268435456 0 0 gives r 9 0 0
    ∷ q 4 0 6 268435456 934198412 0 gives r 9 0 0
    ∷ q 3 0 0 268435456 0 0 gives r 9 0 0
    ∷ q 3 0 0 268435452 0 0 gives r 9 0 0
    ∷ q 4 0 6 268435452 305938697 0 gives r 9 0 0
    ∷ q 3 0 0 268435452 0 0 gives r 9 0 0
    ∷ q 3 0 0 268435465 0 0 gives r 9 0 0
    ∷ q 4 0 0 268435465 9 0 gives r 9 0 0
    ∷ q 3 0 0 268435466 0 0 gives r 9 0 0
    ∷ q 4 0 0 268435466 9 0 gives r 9 0 0
    ∷ q 3 0 0 268435467 0 0 gives r 9 0 0
    ∷ q 4 0 0 268435467 9 0 gives r 9 0 0
    ∷ q 1 1 0 0 0 0 gives r 0 3027154449 0
    ∷ q 2 0 9 0 2969248460 0 gives r 0 0 0
    ∷ q 1 1 0 0 0 0 gives r 0 3036357137 0
    ∷ q 1 1 0 16380 0 0 gives r 0 243625208 0
    ∷ q 2 0 9 16380 2580532618 0 gives r 0 0 0
    ∷ q 1 1 0 16380 0 0 gives r 0 248499704 0
    ∷ q 1 1 0 16384 0 0 gives r 9 0 0
    ∷ q 2 0 9 16384 1769363844 0 gives r 9 0 0
    ∷ q 1 1 0 16384 0 0 gives r 9 0 0
    ∷ q 14 0 0 0 268435456 8 gives r 0 2 0
    ∷ q 15 1 0 0 0 0 gives r 0 4 0
    ∷ q 11 0 0 0 0 0 gives r 0 512 0
    ∷ q 11 1 0 0 0 0 gives r 0 512 0
    ∷ q 15 0 0 0 0 0 gives r 10 0 0
    ∷ q 12 0 0 0 33554944 0 gives r 0 0 0
    ∷ q 13 0 0 0 0 0 gives r 0 0 0
    ∷ q 13 1 0 0 0 0 gives r 0 0 0
    ∷ q 14 0 1 0 268435456 8 gives r 0 2 0
    ∷ q 15 1 0 0 0 0 gives r 0 4 0
    ∷ q 11 0 0 0 0 0 gives r 0 33554944 0
    ∷ q 11 1 0 0 0 0 gives r 0 512 0
    ∷ q 15 0 0 0 0 0 gives r 10 0 0
    ∷ q 12 1 0 0 33554944 0 gives r 0 0 0
    ∷ q 13 0 0 0 0 0 gives r 0 1 0
    ∷ q 13 1 0 0 0 0 gives r 0 0 0
    ∷ q 3 0 0 268435462 0 0 gives r 9 0 0
    ∷ q 9 1 0 4294967295 16777221 0 gives r 3 0 0
    ∷ q 14 0 0 1 0 8 gives r 9 0 0
    ∷ q 1 1 0 6 0 0 gives r 9 0 0
    ∷ q 12 255 0 0 524288 0 gives r 2 0 0
    ∷ q 18 1 0 0 0 0 gives r 2 0 0
    ∷ q 5 2 1 0 0 0 gives r 2 0 0
    ∷ q 14 0 1 4294967292 0 4 gives r 9 0 0
    ∷ q 2 255 5 12 195939070 0 gives r 2 0 0
    ∷ q 4 0 15 268435456 2271560481 0 gives r 9 0 0
    ∷ q 4 0 10 268435456 2271560481 1 gives r 3 0 0
    ∷ q 3 2 0 268435456 0 0 gives r 2 0 0
    ∷ q 15 255 0 0 0 0 gives r 2 0 0
    ∷ q 7 0 3 256 0 0 gives r 3 0 0
    ∷ []

last : World
last =
    world
    (with_interrupts (interrupts 512 512 512 0) (untouched (settings 268435456 0 0 0)))
    (bytes ((0, 17 ∷ 34 ∷ 251 ∷ 180 ∷ 30 ∷ 235 ∷ 250 ∷ 33 ∷ 181 ∷ 132 ∷ 99 ∷ 220 ∷ 212 ∷ 6 ∷ 220 ∷ 67 ∷ 13 ∷ 49 ∷ 255 ∷ 114 ∷ []) ∷ (16344, 156 ∷ 182 ∷ 119 ∷ 134 ∷ 24 ∷ 58 ∷ 25 ∷ 151 ∷ 116 ∷ 168 ∷ 210 ∷ 30 ∷ 113 ∷ 114 ∷ 170 ∷ 235 ∷ 248 ∷ 205 ∷ 207 ∷ 14 ∷ []) ∷ []))
    (bytes [])

agrees : RunAgrees first entries last
unfolding first entries last access sound fresh_card read_dword write_dword
agrees = refl
