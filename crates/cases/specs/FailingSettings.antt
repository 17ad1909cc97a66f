-- Written by the independent program, oracle/: a list of accesses with its answers, and what it leaves.
use Rattle.std.specs.Prelude.{refl, List, [], ◌∷◌}
use Rattle.model.specs.Lanes.{read_dword, write_dword}
use Rattle.model.specs.State.{World, sound, fresh_card, fresh_world}
use Rattle.model.specs.Runs.{Entry}
use Rattle.model.specs.Accesses.{Access, Answer, access}
use Rattle.model.specs.Bench.{q, r, ◌gives◌}
use Rattle.cases.specs.Vectors.{settings, untouched, world, bytes, RunAgrees}

first : World
first = fresh_world (settings 268435456 64 0 68) (bytes ((0, 6 ∷ 234 ∷ 134 ∷ 166 ∷ 23 ∷ 116 ∷ 216 ∷ 21 ∷ 91 ∷ 177 ∷ 194 ∷ 139 ∷ 168 ∷ 147 ∷ 78 ∷ 126 ∷ 109 ∷ 203 ∷ 204 ∷ 150 ∷ []) ∷ (16344, 74 ∷ 104 ∷ 49 ∷ 40 ∷ 121 ∷ 0 ∷ 147 ∷ 222 ∷ 132 ∷ 68 ∷ 44 ∷ 77 ∷ 132 ∷ 39 ∷ 18 ∷ 107 ∷ 248 ∷ 8 ∷ 161 ∷ 43 ∷ []) ∷ [])) (bytes ((0, 21 ∷ 110 ∷ 108 ∷ 211 ∷ 65 ∷ 40 ∷ 151 ∷ 179 ∷ 35 ∷ 61 ∷ 102 ∷ 226 ∷ 107 ∷ 14 ∷ 225 ∷ 80 ∷ 109 ∷ 140 ∷ 253 ∷ 128 ∷ []) ∷ (24, 16 ∷ 216 ∷ 103 ∷ 101 ∷ 132 ∷ 20 ∷ 246 ∷ 103 ∷ 193 ∷ 247 ∷ 111 ∷ 200 ∷ 32 ∷ 40 ∷ 175 ∷ 228 ∷ 143 ∷ 134 ∷ 38 ∷ 173 ∷ []) ∷ []))

entries : List (Entry Access Answer)
entries =
    q 0 0 0 0 0 0 gives r 1 0 0
    ∷ q 1 1 0 8 0 0 gives r 1 0 0
    ∷ q 2 0 5 12 195939070 0 gives r 1 0 0
    ∷ q 3 0 0 0 0 0 gives r 1 0 0
    ∷ q 4 0 10 0 2271560481 0 gives r 1 0 0
    ∷ q 5 1 1 0 0 0 gives r 1 0 0
    ∷ q 6 1 3 0 77 0 gives r 1 0 0
    ∷ q 7 0 3 0 0 0 gives r 1 0 0
    ∷ q 8 1 3 0 0 0 gives r 1 0 0
    ∷ q 9 1 0 0 16777221 0 gives r 1 0 0
    ∷ q 10 0 0 0 0 0 gives r 1 0 0
    ∷ q 11 0 0 0 0 0 gives r 1 0 0
    ∷ q 12 0 0 0 524288 0 gives r 1 0 0
    ∷ q 13 0 0 0 0 0 gives r 1 0 0
    ∷ q 14 0 0 0 0 8 gives r 1 0 0
    ∷ q 15 0 0 0 0 0 gives r 1 0 0
    ∷ q 16 1 0 0 0 0 gives r 1 0 0
    ∷ q 5 1 1 0 1 0 gives r 1 0 0
    ∷ q 14 0 1 1 0 8 gives r 1 0 0
    ∷ q 3 0 0 0 0 16777216 gives r 1 0 0
    ∷ q 5 2 1 0 0 0 gives r 1 0 0
    ∷ q 5 0 1 0 0 0 gives r 1 0 0
    ∷ q 6 0 0 0 9 0 gives r 1 0 0
    ∷ q 9 1 0 0 16777221 4294967295 gives r 1 0 0
    ∷ q 3 0 16 0 0 1 gives r 1 0 0
    ∷ q 10 0 0 0 4294967295 0 gives r 1 0 0
    ∷ q 16 2 0 0 0 0 gives r 1 0 0
    ∷ q 1 1 0 16384 0 0 gives r 1 0 0
    ∷ q 4 0 16 0 2271560481 1 gives r 1 0 0
    ∷ q 14 0 0 0 3 4 gives r 1 0 0
    ∷ q 14 0 1 0 0 0 gives r 1 0 0
    ∷ q 15 1 1 0 0 0 gives r 1 0 0
    ∷ q 16 1 0 0 0 16777216 gives r 1 0 0
    ∷ q 1 1 15 16384 0 0 gives r 1 0 0
    ∷ q 11 0 0 256 0 0 gives r 1 0 0
    ∷ q 11 2 0 0 0 0 gives r 1 0 0
    ∷ q 0 255 0 0 0 0 gives r 1 0 0
    ∷ q 3 0 255 0 0 0 gives r 1 0 0
    ∷ q 1 255 0 8 0 0 gives r 1 0 0
    ∷ q 6 1 4 0 77 0 gives r 1 0 0
    ∷ q 3 1 0 0 0 1 gives r 1 0 0
    ∷ q 14 0 255 0 0 8 gives r 1 0 0
    ∷ q 9 1 0 0 16842507 0 gives r 1 0 0
    ∷ q 15 1 0 0 0 0 gives r 1 0 0
    ∷ q 10 0 0 0 0 0 gives r 1 0 0
    ∷ q 14 1 1 12 0 16 gives r 1 0 0
    ∷ q 1 1 12 16380 0 0 gives r 1 0 0
    ∷ q 14 1 1 28 0 12 gives r 1 0 0
    ∷ q 9 1 0 0 528285463 0 gives r 1 0 0
    ∷ q 13 1 0 0 0 0 gives r 1 0 0
    ∷ []

last : World
last =
    world
    (untouched (settings 0 0 0 0))
    (bytes ((0, 6 ∷ 234 ∷ 134 ∷ 166 ∷ 23 ∷ 116 ∷ 216 ∷ 21 ∷ 91 ∷ 177 ∷ 194 ∷ 139 ∷ 168 ∷ 147 ∷ 78 ∷ 126 ∷ 109 ∷ 203 ∷ 204 ∷ 150 ∷ []) ∷ (16344, 74 ∷ 104 ∷ 49 ∷ 40 ∷ 121 ∷ 0 ∷ 147 ∷ 222 ∷ 132 ∷ 68 ∷ 44 ∷ 77 ∷ 132 ∷ 39 ∷ 18 ∷ 107 ∷ 248 ∷ 8 ∷ 161 ∷ 43 ∷ []) ∷ []))
    (bytes ((0, 21 ∷ 110 ∷ 108 ∷ 211 ∷ 65 ∷ 40 ∷ 151 ∷ 179 ∷ 35 ∷ 61 ∷ 102 ∷ 226 ∷ 107 ∷ 14 ∷ 225 ∷ 80 ∷ 109 ∷ 140 ∷ 253 ∷ 128 ∷ []) ∷ (24, 16 ∷ 216 ∷ 103 ∷ 101 ∷ 132 ∷ 20 ∷ 246 ∷ 103 ∷ 193 ∷ 247 ∷ 111 ∷ 200 ∷ 32 ∷ 40 ∷ 175 ∷ 228 ∷ 143 ∷ 134 ∷ 38 ∷ 173 ∷ []) ∷ []))

agrees : RunAgrees first entries last
unfolding first entries last access sound fresh_card read_dword write_dword
agrees = refl
