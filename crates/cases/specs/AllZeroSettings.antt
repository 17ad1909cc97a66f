-- Written by the independent program, oracle/: a list of accesses with its answers, and what it leaves.
use Rattle.std.specs.Prelude.{refl, List, [], ◌∷◌}
use Rattle.model.specs.Lanes.{read_dword, write_dword}
use Rattle.model.specs.State.{World, sound, fresh_card, fresh_world, with_interrupts}
use Rattle.model.specs.Runs.{Entry}
use Rattle.model.specs.Accesses.{Access, Answer, access}
use Rattle.model.specs.Bench.{q, r, ◌gives◌}
use Rattle.cases.specs.Vectors.{settings, interrupts, untouched, world, bytes, RunAgrees}

first : World
first = fresh_world (settings 0 0 0 0) (bytes ((0, 188 ∷ 29 ∷ 93 ∷ 21 ∷ 200 ∷ 245 ∷ 122 ∷ 145 ∷ 63 ∷ 134 ∷ 231 ∷ 237 ∷ 208 ∷ 223 ∷ 199 ∷ 191 ∷ 141 ∷ 145 ∷ 112 ∷ 148 ∷ []) ∷ (16344, 145 ∷ 89 ∷ 138 ∷ 7 ∷ 151 ∷ 94 ∷ 31 ∷ 107 ∷ 181 ∷ 25 ∷ 108 ∷ 188 ∷ 113 ∷ 191 ∷ 39 ∷ 100 ∷ 213 ∷ 174 ∷ 124 ∷ 244 ∷ []) ∷ [])) (bytes [])

entries : List (Entry Access Answer)
entries =
    q 3 0 0 0 0 0 gives r 9 0 0
    ∷ q 4 0 6 0 3884781565 0 gives r 9 0 0
    ∷ q 3 0 0 0 0 0 gives r 9 0 0
    ∷ q 3 0 0 4294967292 0 0 gives r 9 0 0
    ∷ q 4 0 6 4294967292 4164812381 0 gives r 9 0 0
    ∷ q 3 0 0 4294967292 0 0 gives r 9 0 0
    ∷ q 3 0 0 0 0 0 gives r 9 0 0
    ∷ q 4 0 6 0 516303602 0 gives r 9 0 0
    ∷ q 3 0 0 0 0 0 gives r 9 0 0
    ∷ q 3 0 0 0 0 0 gives r 9 0 0
    ∷ q 4 0 6 0 647051601 0 gives r 9 0 0
    ∷ q 3 0 0 0 0 0 gives r 9 0 0
    ∷ q 3 0 0 4294967292 0 0 gives r 9 0 0
    ∷ q 4 0 6 4294967292 2293022919 0 gives r 9 0 0
    ∷ q 3 0 0 4294967292 0 0 gives r 9 0 0
    ∷ q 3 0 0 9 0 0 gives r 9 0 0
    ∷ q 4 0 0 9 9 0 gives r 9 0 0
    ∷ q 3 0 0 10 0 0 gives r 9 0 0
    ∷ q 4 0 0 10 9 0 gives r 9 0 0
    ∷ q 3 0 0 11 0 0 gives r 9 0 0
    ∷ q 4 0 0 11 9 0 gives r 9 0 0
    ∷ q 1 1 0 0 0 0 gives r 0 358423996 0
    ∷ q 2 0 9 0 62163730 0 gives r 0 0 0
    ∷ q 1 1 0 0 0 0 gives r 0 364153788 0
    ∷ q 1 1 0 16380 0 0 gives r 0 4101811925 0
    ∷ q 2 0 9 16380 3356973910 0 gives r 0 0 0
    ∷ q 1 1 0 16380 0 0 gives r 0 4095171541 0
    ∷ q 1 1 0 16384 0 0 gives r 9 0 0
    ∷ q 2 0 9 16384 1385445053 0 gives r 9 0 0
    ∷ q 1 1 0 16384 0 0 gives r 9 0 0
    ∷ q 14 0 0 0 0 8 gives r 0 2 0
    ∷ q 15 1 0 0 0 0 gives r 0 4 0
    ∷ q 11 0 0 0 0 0 gives r 0 512 0
    ∷ q 11 1 0 0 0 0 gives r 0 512 0
    ∷ q 15 0 0 0 0 0 gives r 10 0 0
    ∷ q 12 0 0 0 33554944 0 gives r 0 0 0
    ∷ q 13 0 0 0 0 0 gives r 0 0 0
    ∷ q 13 1 0 0 0 0 gives r 0 0 0
    ∷ q 14 0 1 0 0 8 gives r 0 2 0
    ∷ q 15 1 0 0 0 0 gives r 0 4 0
    ∷ q 11 0 0 0 0 0 gives r 0 33554944 0
    ∷ q 11 1 0 0 0 0 gives r 0 512 0
    ∷ q 15 0 0 0 0 0 gives r 10 0 0
    ∷ q 12 1 0 0 33554944 0 gives r 0 0 0
    ∷ q 13 0 0 0 0 0 gives r 0 1 0
    ∷ q 13 1 0 0 0 0 gives r 0 0 0
    ∷ q 14 0 0 0 0 0 gives r 7 0 0
    ∷ q 12 0 1 0 524288 0 gives r 3 0 0
    ∷ q 14 0 1 0 4294967292 8 gives r 9 0 0
    ∷ q 7 0 3 0 2147483648 0 gives r 3 0 0
    ∷ q 5 255 1 0 0 0 gives r 2 0 0
    ∷ q 14 0 0 2 0 4 gives r 9 0 0
    ∷ q 15 0 4 0 0 0 gives r 3 0 0
    ∷ q 9 1 0 0 16777221 2147483648 gives r 3 0 0
    ∷ q 3 0 0 7 0 0 gives r 9 0 0
    ∷ q 2 0 5 12 195939070 4294967295 gives r 3 0 0
    ∷ q 18 2 0 0 0 0 gives r 2 0 0
    ∷ q 4 1 16 0 2271560481 0 gives r 4 0 0
    ∷ q 4 7 16 0 1 1 gives r 2 0 0
    ∷ q 1 1 0 7 0 0 gives r 9 0 0
    ∷ []

last : World
last =
    world
    (with_interrupts (interrupts 512 512 512 0) (untouched (settings 0 0 0 0)))
    (bytes ((0, 188 ∷ 139 ∷ 180 ∷ 21 ∷ 200 ∷ 245 ∷ 122 ∷ 145 ∷ 63 ∷ 134 ∷ 231 ∷ 237 ∷ 208 ∷ 223 ∷ 199 ∷ 191 ∷ 141 ∷ 145 ∷ 112 ∷ 148 ∷ []) ∷ (16344, 145 ∷ 89 ∷ 138 ∷ 7 ∷ 151 ∷ 94 ∷ 31 ∷ 107 ∷ 181 ∷ 25 ∷ 108 ∷ 188 ∷ 113 ∷ 191 ∷ 39 ∷ 100 ∷ 213 ∷ 91 ∷ 23 ∷ 244 ∷ []) ∷ []))
    (bytes [])

agrees : RunAgrees first entries last
unfolding first entries last access sound fresh_card read_dword write_dword
agrees = refl
