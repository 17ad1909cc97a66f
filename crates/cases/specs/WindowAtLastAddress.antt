-- Written by the independent program, oracle/: a list of accesses with its answers, and what it leaves.
use Rattle.std.specs.Prelude.{refl, List, [], ◌∷◌}
use Rattle.model.specs.Lanes.{read_dword, write_dword}
use Rattle.model.specs.State.{World, sound, fresh_card, fresh_world}
use Rattle.model.specs.Runs.{Entry}
use Rattle.model.specs.Accesses.{Access, Answer, access}
use Rattle.model.specs.Bench.{q, r, ◌gives◌}
use Rattle.cases.specs.Vectors.{settings, untouched, world, bytes, RunAgrees}

first : World
first = fresh_world (settings 4294967040 256 192 256) (bytes ((0, 196 ∷ 84 ∷ 162 ∷ 74 ∷ 209 ∷ 89 ∷ 185 ∷ 100 ∷ 54 ∷ 179 ∷ 134 ∷ 160 ∷ 110 ∷ 247 ∷ 208 ∷ 154 ∷ 254 ∷ 8 ∷ 86 ∷ 209 ∷ []) ∷ (16344, 71 ∷ 152 ∷ 69 ∷ 255 ∷ 92 ∷ 96 ∷ 42 ∷ 79 ∷ 73 ∷ 204 ∷ 89 ∷ 71 ∷ 7 ∷ 43 ∷ 207 ∷ 6 ∷ 237 ∷ 168 ∷ 222 ∷ 117 ∷ []) ∷ [])) (bytes ((0, 154 ∷ 15 ∷ 237 ∷ 25 ∷ 229 ∷ 236 ∷ 170 ∷ 156 ∷ 96 ∷ 156 ∷ 183 ∷ 215 ∷ 98 ∷ 28 ∷ 19 ∷ 156 ∷ 46 ∷ 65 ∷ 164 ∷ 167 ∷ []) ∷ (152, 206 ∷ 25 ∷ 222 ∷ 92 ∷ 157 ∷ 230 ∷ 41 ∷ 132 ∷ 49 ∷ 231 ∷ 123 ∷ 165 ∷ 126 ∷ 229 ∷ 88 ∷ 227 ∷ 57 ∷ 215 ∷ 14 ∷ 142 ∷ 75 ∷ 251 ∷ 14 ∷ 202 ∷ 152 ∷ 255 ∷ 57 ∷ 48 ∷ 89 ∷ 139 ∷ 115 ∷ 133 ∷ 246 ∷ 95 ∷ 239 ∷ 250 ∷ 255 ∷ 247 ∷ 22 ∷ 138 ∷ []) ∷ (24, 19 ∷ 32 ∷ 75 ∷ 121 ∷ 177 ∷ 125 ∷ 140 ∷ 194 ∷ 90 ∷ 136 ∷ 250 ∷ 223 ∷ 216 ∷ 43 ∷ 184 ∷ 23 ∷ 137 ∷ 219 ∷ 40 ∷ 38 ∷ []) ∷ []))

entries : List (Entry Access Answer)
entries =
    q 14 1 0 24 4294967288 12 gives r 9 0 0
    ∷ q 11 0 0 0 0 0 gives r 0 0 0
    ∷ q 11 1 0 0 0 0 gives r 0 0 0
    ∷ q 12 0 0 0 35652128 0 gives r 0 0 0
    ∷ q 12 1 0 0 33554976 0 gives r 0 0 0
    ∷ q 14 0 0 48 4294967036 8 gives r 0 2 0
    ∷ q 15 0 0 0 0 0 gives r 0 4 0
    ∷ q 14 1 0 16376 4294967288 8 gives r 0 2 0
    ∷ q 15 0 0 0 0 0 gives r 0 3 0
    ∷ q 11 0 0 0 0 0 gives r 0 35652352 0
    ∷ q 11 1 0 0 0 0 gives r 0 33555200 0
    ∷ q 14 0 0 16380 4294967292 4 gives r 0 1 0
    ∷ q 15 0 0 0 0 0 gives r 0 3 0
    ∷ q 14 0 0 0 4294967040 16 gives r 0 4 0
    ∷ q 15 1 0 0 0 0 gives r 0 1 1
    ∷ q 0 1 0 0 0 0 gives r 0 0 0
    ∷ q 15 1 0 0 0 0 gives r 10 0 0
    ∷ q 14 1 1 24 4294967288 12 gives r 9 0 0
    ∷ q 11 0 0 0 0 0 gives r 0 0 0
    ∷ q 11 1 0 0 0 0 gives r 0 0 0
    ∷ q 12 0 0 0 35652128 0 gives r 0 0 0
    ∷ q 12 1 0 0 33554976 0 gives r 0 0 0
    ∷ q 14 0 1 48 4294967036 8 gives r 0 2 0
    ∷ q 15 0 0 0 0 0 gives r 0 4 0
    ∷ q 14 1 1 16376 4294967288 8 gives r 0 2 0
    ∷ q 15 0 0 0 0 0 gives r 0 3 0
    ∷ q 11 0 0 0 0 0 gives r 0 35652352 0
    ∷ q 11 1 0 0 0 0 gives r 0 33555200 0
    ∷ q 14 0 1 16380 4294967292 4 gives r 0 1 0
    ∷ q 15 0 0 0 0 0 gives r 0 3 0
    ∷ q 14 0 1 0 4294967040 16 gives r 0 4 0
    ∷ q 15 1 0 0 0 0 gives r 0 1 1
    ∷ q 0 1 0 0 0 0 gives r 0 0 0
    ∷ q 15 1 0 0 0 0 gives r 10 0 0
    ∷ q 11 0 0 0 0 0 gives r 0 0 0
    ∷ q 11 1 0 0 0 0 gives r 0 0 0
    ∷ q 14 2 0 0 4294967040 8 gives r 2 0 0
    ∷ q 1 1 0 8 1 0 gives r 3 0 0
    ∷ q 6 1 2 0 9 0 gives r 5 0 0
    ∷ q 14 0 1 0 4294967040 16388 gives r 8 0 0
    ∷ q 16 1 0 0 0 256 gives r 3 0 0
    ∷ q 4 0 10 4294967047 2271560481 0 gives r 9 0 0
    ∷ q 8 1 4 0 0 0 gives r 4 0 0
    ∷ q 3 1 16 4294967292 0 0 gives r 4 0 0
    ∷ q 14 2 0 0 0 0 gives r 2 0 0
    ∷ q 11 0 255 0 0 0 gives r 3 0 0
    ∷ q 2 0 5 4294967292 195939070 0 gives r 9 0 0
    ∷ q 14 0 0 4 0 16384 gives r 9 0 0
    ∷ q 6 0 255 0 0 0 gives r 4 0 0
    ∷ q 6 1 3 0 77 4294967295 gives r 3 0 0
    ∷ q 4 2 10 4294967040 2271560481 0 gives r 2 0 0
    ∷ []

last : World
last =
    world
    (untouched (settings 4294967040 256 192 256))
    (bytes ((0, 154 ∷ 15 ∷ 237 ∷ 25 ∷ 209 ∷ 89 ∷ 185 ∷ 100 ∷ 54 ∷ 179 ∷ 134 ∷ 160 ∷ 110 ∷ 247 ∷ 208 ∷ 154 ∷ 254 ∷ 8 ∷ 86 ∷ 209 ∷ []) ∷ (16344, 71 ∷ 152 ∷ 69 ∷ 255 ∷ 92 ∷ 96 ∷ 42 ∷ 79 ∷ 73 ∷ 204 ∷ 89 ∷ 71 ∷ 7 ∷ 43 ∷ 207 ∷ 6 ∷ 237 ∷ 168 ∷ 222 ∷ 117 ∷ []) ∷ []))
    (bytes ((0, 154 ∷ 15 ∷ 237 ∷ 25 ∷ 229 ∷ 236 ∷ 170 ∷ 156 ∷ 96 ∷ 156 ∷ 183 ∷ 215 ∷ 98 ∷ 28 ∷ 19 ∷ 156 ∷ 46 ∷ 65 ∷ 164 ∷ 167 ∷ []) ∷ (152, 206 ∷ 25 ∷ 222 ∷ 92 ∷ 157 ∷ 230 ∷ 41 ∷ 132 ∷ 49 ∷ 231 ∷ 123 ∷ 165 ∷ 126 ∷ 229 ∷ 88 ∷ 227 ∷ 57 ∷ 215 ∷ 14 ∷ 142 ∷ 75 ∷ 251 ∷ 14 ∷ 202 ∷ 152 ∷ 255 ∷ 57 ∷ 48 ∷ 89 ∷ 139 ∷ 115 ∷ 133 ∷ 246 ∷ 95 ∷ 239 ∷ 250 ∷ 255 ∷ 247 ∷ 22 ∷ 138 ∷ []) ∷ (24, 19 ∷ 32 ∷ 75 ∷ 121 ∷ 177 ∷ 125 ∷ 140 ∷ 194 ∷ 90 ∷ 136 ∷ 250 ∷ 223 ∷ 216 ∷ 43 ∷ 184 ∷ 23 ∷ 137 ∷ 219 ∷ 40 ∷ 38 ∷ []) ∷ []))

agrees : RunAgrees first entries last
unfolding first entries last access sound fresh_card read_dword write_dword
agrees = refl
