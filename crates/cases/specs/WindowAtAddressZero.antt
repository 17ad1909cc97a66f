-- Written by the independent program, oracle/: a list of accesses with its answers, and what it leaves.
use Rattle.std.specs.Prelude.{refl, List, [], ◌∷◌}
use Rattle.model.specs.Lanes.{read_dword, write_dword}
use Rattle.model.specs.State.{World, sound, fresh_card, fresh_world}
use Rattle.model.specs.Runs.{Entry}
use Rattle.model.specs.Accesses.{Access, Answer, access}
use Rattle.model.specs.Bench.{q, r, ◌gives◌}
use Rattle.cases.specs.Vectors.{settings, untouched, world, bytes, RunAgrees}

first : World
first = fresh_world (settings 0 64 16 32) (bytes ((0, 106 ∷ 18 ∷ 3 ∷ 169 ∷ 230 ∷ 84 ∷ 0 ∷ 203 ∷ 248 ∷ 145 ∷ 55 ∷ 194 ∷ 39 ∷ 125 ∷ 151 ∷ 212 ∷ 237 ∷ 198 ∷ 252 ∷ 176 ∷ []) ∷ (16344, 177 ∷ 119 ∷ 134 ∷ 159 ∷ 69 ∷ 128 ∷ 44 ∷ 227 ∷ 237 ∷ 253 ∷ 102 ∷ 69 ∷ 36 ∷ 12 ∷ 86 ∷ 234 ∷ 114 ∷ 45 ∷ 187 ∷ 249 ∷ []) ∷ [])) (bytes ((0, 41 ∷ 95 ∷ 88 ∷ 4 ∷ 42 ∷ 157 ∷ 197 ∷ 209 ∷ 106 ∷ 116 ∷ 109 ∷ 87 ∷ 41 ∷ 69 ∷ 230 ∷ 145 ∷ 106 ∷ 59 ∷ 133 ∷ 231 ∷ 238 ∷ 203 ∷ 141 ∷ 27 ∷ 242 ∷ 234 ∷ 33 ∷ 80 ∷ 156 ∷ 45 ∷ 199 ∷ 136 ∷ 16 ∷ 36 ∷ 197 ∷ 106 ∷ 47 ∷ 207 ∷ 212 ∷ 189 ∷ 210 ∷ 151 ∷ 12 ∷ 213 ∷ 11 ∷ 176 ∷ 185 ∷ 23 ∷ 168 ∷ 69 ∷ 193 ∷ 114 ∷ 105 ∷ 162 ∷ 68 ∷ 219 ∷ 45 ∷ 126 ∷ 22 ∷ 56 ∷ 52 ∷ 104 ∷ 242 ∷ 81 ∷ []) ∷ []))

entries : List (Entry Access Answer)
entries =
    q 14 1 0 24 56 12 gives r 0 3 0
    ∷ q 15 0 0 0 0 0 gives r 0 1 1
    ∷ q 15 1 0 0 0 0 gives r 0 1 2
    ∷ q 15 0 0 0 0 0 gives r 0 4 2
    ∷ q 11 0 0 0 0 0 gives r 0 512 0
    ∷ q 11 1 0 0 0 0 gives r 0 512 0
    ∷ q 12 0 0 0 35652128 0 gives r 0 0 0
    ∷ q 12 1 0 0 33554976 0 gives r 0 0 0
    ∷ q 14 0 0 48 4294967292 8 gives r 9 0 0
    ∷ q 15 0 0 0 0 0 gives r 10 0 0
    ∷ q 14 1 0 16376 56 8 gives r 0 2 0
    ∷ q 15 0 0 0 0 0 gives r 0 1 1
    ∷ q 15 1 0 0 0 0 gives r 0 2 2
    ∷ q 11 0 0 0 0 0 gives r 0 35651616 0
    ∷ q 11 1 0 0 0 0 gives r 0 33554464 0
    ∷ q 14 0 0 16380 60 4 gives r 0 1 0
    ∷ q 15 0 0 0 0 0 gives r 0 2 1
    ∷ q 14 0 0 0 0 16 gives r 0 4 0
    ∷ q 15 1 0 0 0 0 gives r 0 1 1
    ∷ q 0 1 0 0 0 0 gives r 0 0 0
    ∷ q 15 1 0 0 0 0 gives r 10 0 0
    ∷ q 14 1 1 24 56 12 gives r 0 3 0
    ∷ q 15 0 0 0 0 0 gives r 0 1 1
    ∷ q 15 1 0 0 0 0 gives r 0 1 2
    ∷ q 15 0 0 0 0 0 gives r 0 4 2
    ∷ q 11 0 0 0 0 0 gives r 0 512 0
    ∷ q 11 1 0 0 0 0 gives r 0 512 0
    ∷ q 12 0 0 0 35652128 0 gives r 0 0 0
    ∷ q 12 1 0 0 33554976 0 gives r 0 0 0
    ∷ q 14 0 1 48 4294967292 8 gives r 9 0 0
    ∷ q 15 0 0 0 0 0 gives r 10 0 0
    ∷ q 14 1 1 16376 56 8 gives r 0 2 0
    ∷ q 15 0 0 0 0 0 gives r 0 1 1
    ∷ q 15 1 0 0 0 0 gives r 0 2 2
    ∷ q 11 0 0 0 0 0 gives r 0 35651616 0
    ∷ q 11 1 0 0 0 0 gives r 0 33554464 0
    ∷ q 14 0 1 16380 60 4 gives r 0 1 0
    ∷ q 15 0 0 0 0 0 gives r 0 2 1
    ∷ q 14 0 1 0 0 16 gives r 0 4 0
    ∷ q 15 1 0 0 0 0 gives r 0 1 1
    ∷ q 0 1 0 0 0 0 gives r 0 0 0
    ∷ q 15 1 0 0 0 0 gives r 10 0 0
    ∷ q 11 0 0 0 0 0 gives r 0 0 0
    ∷ q 11 1 0 0 0 0 gives r 0 0 0
    ∷ q 14 0 0 16380 0 8 gives r 9 0 0
    ∷ q 11 0 0 256 0 0 gives r 3 0 0
    ∷ q 14 2 2 1 1 1 gives r 2 0 0
    ∷ q 2 0 5 4294967295 195939070 0 gives r 9 0 0
    ∷ q 1 1 0 8 0 1 gives r 3 0 0
    ∷ q 3 0 16 64 0 0 gives r 4 0 0
    ∷ q 5 1 3 0 0 0 gives r 5 0 0
    ∷ q 8 1 255 0 0 0 gives r 4 0 0
    ∷ q 6 1 4 0 77 0 gives r 4 0 0
    ∷ q 14 0 1 0 0 4294967292 gives r 8 0 0
    ∷ q 16 0 0 0 0 1 gives r 3 0 0
    ∷ q 4 0 10 64 2271560481 0 gives r 9 0 0
    ∷ q 4 255 10 0 2271560481 0 gives r 2 0 0
    ∷ q 14 255 0 0 0 8 gives r 2 0 0
    ∷ q 17 0 0 0 0 0 gives r 2 0 0
    ∷ []

last : World
last =
    world
    (untouched (settings 0 64 16 32))
    (bytes ((0, 41 ∷ 95 ∷ 88 ∷ 4 ∷ 230 ∷ 84 ∷ 0 ∷ 203 ∷ 248 ∷ 145 ∷ 55 ∷ 194 ∷ 39 ∷ 125 ∷ 151 ∷ 212 ∷ 237 ∷ 198 ∷ 252 ∷ 176 ∷ 0 ∷ 0 ∷ 0 ∷ 0 ∷ 45 ∷ 126 ∷ 22 ∷ 56 ∷ 52 ∷ 104 ∷ 242 ∷ 81 ∷ []) ∷ (16332, 177 ∷ 119 ∷ 134 ∷ 159 ∷ 69 ∷ 128 ∷ 44 ∷ 227 ∷ 237 ∷ 253 ∷ 102 ∷ 69 ∷ 45 ∷ 126 ∷ 22 ∷ 56 ∷ 52 ∷ 104 ∷ 242 ∷ 81 ∷ []) ∷ []))
    (bytes ((0, 41 ∷ 95 ∷ 88 ∷ 4 ∷ 42 ∷ 157 ∷ 197 ∷ 209 ∷ 106 ∷ 116 ∷ 109 ∷ 87 ∷ 41 ∷ 69 ∷ 230 ∷ 145 ∷ 106 ∷ 59 ∷ 133 ∷ 231 ∷ 238 ∷ 203 ∷ 141 ∷ 27 ∷ 242 ∷ 234 ∷ 33 ∷ 80 ∷ 156 ∷ 45 ∷ 199 ∷ 136 ∷ 16 ∷ 36 ∷ 197 ∷ 106 ∷ 47 ∷ 207 ∷ 212 ∷ 189 ∷ 210 ∷ 151 ∷ 12 ∷ 213 ∷ 11 ∷ 176 ∷ 185 ∷ 23 ∷ 168 ∷ 69 ∷ 193 ∷ 114 ∷ 105 ∷ 162 ∷ 68 ∷ 219 ∷ 45 ∷ 126 ∷ 22 ∷ 56 ∷ 52 ∷ 104 ∷ 242 ∷ 81 ∷ []) ∷ []))

agrees : RunAgrees first entries last
unfolding first entries last access sound fresh_card read_dword write_dword
agrees = refl
