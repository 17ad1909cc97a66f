-- Written by the independent program, oracle/: a list of accesses with its answers, and what it leaves.
use Rattle.std.specs.Prelude.{refl, List, [], ◌∷◌}
use Rattle.model.specs.Lanes.{read_dword, write_dword}
use Rattle.model.specs.State.{World, sound, fresh_card, fresh_world, with_interrupts}
use Rattle.model.specs.Runs.{Entry}
use Rattle.model.specs.Accesses.{Access, Answer, access}
use Rattle.model.specs.Bench.{q, r, ◌gives◌}
use Rattle.cases.specs.Vectors.{settings, interrupts, untouched, world, bytes, RunAgrees}

first : World
first = fresh_world (settings 268435456 32768 28672 32768) (bytes ((0, 151 ∷ 191 ∷ 152 ∷ 195 ∷ 79 ∷ 88 ∷ 185 ∷ 189 ∷ 64 ∷ 186 ∷ 86 ∷ 112 ∷ 142 ∷ 95 ∷ 238 ∷ 52 ∷ 51 ∷ 93 ∷ 96 ∷ 53 ∷ []) ∷ (16344, 12 ∷ 135 ∷ 97 ∷ 84 ∷ 234 ∷ 189 ∷ 134 ∷ 158 ∷ 2 ∷ 77 ∷ 221 ∷ 154 ∷ 68 ∷ 87 ∷ 226 ∷ 89 ∷ 71 ∷ 2 ∷ 230 ∷ 57 ∷ []) ∷ [])) (bytes ((0, 203 ∷ 43 ∷ 2 ∷ 173 ∷ 214 ∷ 111 ∷ 250 ∷ 217 ∷ 44 ∷ 140 ∷ 120 ∷ 192 ∷ 81 ∷ 152 ∷ 153 ∷ 59 ∷ 152 ∷ 91 ∷ 102 ∷ 43 ∷ []) ∷ (28632, 229 ∷ 93 ∷ 232 ∷ 83 ∷ 1 ∷ 157 ∷ 152 ∷ 45 ∷ 148 ∷ 208 ∷ 63 ∷ 31 ∷ 134 ∷ 232 ∷ 177 ∷ 55 ∷ 109 ∷ 96 ∷ 140 ∷ 194 ∷ 208 ∷ 94 ∷ 44 ∷ 19 ∷ 78 ∷ 122 ∷ 246 ∷ 238 ∷ 194 ∷ 239 ∷ 82 ∷ 220 ∷ 98 ∷ 58 ∷ 115 ∷ 85 ∷ 145 ∷ 248 ∷ 32 ∷ 139 ∷ []) ∷ (4056, 159 ∷ 30 ∷ 105 ∷ 137 ∷ 225 ∷ 99 ∷ 68 ∷ 122 ∷ 117 ∷ 112 ∷ 106 ∷ 79 ∷ 236 ∷ 167 ∷ 89 ∷ 57 ∷ 22 ∷ 134 ∷ 139 ∷ 210 ∷ []) ∷ []))

entries : List (Entry Access Answer)
entries =
    q 14 0 0 16 268464120 12 gives r 0 3 0
    ∷ q 15 0 0 0 0 0 gives r 0 1 1
    ∷ q 15 1 0 0 0 0 gives r 0 1 2
    ∷ q 15 0 0 0 0 0 gives r 0 3 2
    ∷ q 11 0 0 0 0 0 gives r 0 256 0
    ∷ q 11 1 0 0 0 0 gives r 0 256 0
    ∷ q 12 0 0 0 16778016 0 gives r 0 0 0
    ∷ q 12 1 0 0 18875168 0 gives r 0 0 0
    ∷ q 14 1 0 64 268468220 8 gives r 0 2 0
    ∷ q 15 0 0 0 0 0 gives r 0 3 0
    ∷ q 14 0 0 128 268468224 8 gives r 0 2 0
    ∷ q 15 0 0 0 0 0 gives r 0 4 0
    ∷ q 14 1 0 136 268468224 4 gives r 0 1 0
    ∷ q 15 0 0 0 0 0 gives r 0 4 0
    ∷ q 14 0 0 140 268464124 4 gives r 0 1 0
    ∷ q 15 1 0 0 0 0 gives r 0 2 1
    ∷ q 14 0 1 16 268464120 12 gives r 0 3 0
    ∷ q 15 0 0 0 0 0 gives r 0 1 1
    ∷ q 15 1 0 0 0 0 gives r 0 1 2
    ∷ q 15 0 0 0 0 0 gives r 0 3 2
    ∷ q 11 0 0 0 0 0 gives r 0 16778016 0
    ∷ q 11 1 0 0 0 0 gives r 0 18875168 0
    ∷ q 12 0 0 0 16778016 0 gives r 0 0 0
    ∷ q 12 1 0 0 18875168 0 gives r 0 0 0
    ∷ q 14 1 1 64 268468220 8 gives r 0 2 0
    ∷ q 15 0 0 0 0 0 gives r 0 3 0
    ∷ q 14 0 1 128 268468224 8 gives r 0 2 0
    ∷ q 15 0 0 0 0 0 gives r 0 4 0
    ∷ q 14 1 1 136 268468224 4 gives r 0 1 0
    ∷ q 15 0 0 0 0 0 gives r 0 4 0
    ∷ q 14 0 1 140 268464124 4 gives r 0 1 0
    ∷ q 15 1 0 0 0 0 gives r 0 2 1
    ∷ q 14 0 0 16 268464128 8 gives r 0 2 0
    ∷ q 15 0 0 0 0 0 gives r 0 3 0
    ∷ q 11 0 0 0 0 0 gives r 0 16778016 0
    ∷ q 11 1 0 0 0 0 gives r 0 18875168 0
    ∷ q 13 0 0 0 0 0 gives r 0 1 0
    ∷ q 13 1 0 0 0 0 gives r 0 1 0
    ∷ q 14 0 0 0 268435459 4 gives r 9 0 0
    ∷ q 10 255 0 0 0 0 gives r 2 0 0
    ∷ q 14 0 1 1 0 8 gives r 9 0 0
    ∷ q 4 1 10 268468224 2271560481 0 gives r 5 0 0
    ∷ q 0 255 0 0 0 0 gives r 2 0 0
    ∷ q 5 1 1 0 4 0 gives r 3 0 0
    ∷ q 15 0 0 0 256 0 gives r 3 0 0
    ∷ q 7 0 4 0 0 0 gives r 4 0 0
    ∷ q 3 0 0 4294967292 0 0 gives r 9 0 0
    ∷ q 12 0 0 0 524288 256 gives r 3 0 0
    ∷ q 14 0 2 0 0 0 gives r 4 0 0
    ∷ q 1 1 0 4294967292 0 0 gives r 9 0 0
    ∷ q 2 0 255 12 195939070 0 gives r 4 0 0
    ∷ q 14 0 0 0 268435456 2 gives r 8 0 0
    ∷ q 255 1 0 0 0 0 gives r 2 0 0
    ∷ []

last : World
last =
    world
    (with_interrupts (interrupts 256 800 288 800) (untouched (settings 268435456 32768 28672 32768)))
    (bytes ((0, 151 ∷ 191 ∷ 152 ∷ 195 ∷ 79 ∷ 88 ∷ 185 ∷ 189 ∷ 64 ∷ 186 ∷ 86 ∷ 112 ∷ 142 ∷ 95 ∷ 238 ∷ 52 ∷ 134 ∷ 232 ∷ 177 ∷ 55 ∷ 109 ∷ 96 ∷ 140 ∷ 194 ∷ []) ∷ (116, 109 ∷ 96 ∷ 140 ∷ 194 ∷ []) ∷ (16220, 12 ∷ 135 ∷ 97 ∷ 84 ∷ 234 ∷ 189 ∷ 134 ∷ 158 ∷ 2 ∷ 77 ∷ 221 ∷ 154 ∷ 68 ∷ 87 ∷ 226 ∷ 89 ∷ 71 ∷ 2 ∷ 230 ∷ 57 ∷ []) ∷ []))
    (bytes ((0, 203 ∷ 43 ∷ 2 ∷ 173 ∷ 214 ∷ 111 ∷ 250 ∷ 217 ∷ 44 ∷ 140 ∷ 120 ∷ 192 ∷ 81 ∷ 152 ∷ 153 ∷ 59 ∷ 152 ∷ 91 ∷ 102 ∷ 43 ∷ []) ∷ (28632, 229 ∷ 93 ∷ 232 ∷ 83 ∷ 1 ∷ 157 ∷ 152 ∷ 45 ∷ 148 ∷ 208 ∷ 63 ∷ 31 ∷ 134 ∷ 232 ∷ 177 ∷ 55 ∷ 109 ∷ 96 ∷ 140 ∷ 194 ∷ 208 ∷ 94 ∷ 44 ∷ 19 ∷ 78 ∷ 122 ∷ 246 ∷ 238 ∷ 194 ∷ 239 ∷ 82 ∷ 220 ∷ 98 ∷ 58 ∷ 115 ∷ 85 ∷ 145 ∷ 248 ∷ 32 ∷ 139 ∷ []) ∷ (4056, 159 ∷ 30 ∷ 105 ∷ 137 ∷ 225 ∷ 99 ∷ 68 ∷ 122 ∷ 117 ∷ 112 ∷ 106 ∷ 79 ∷ 236 ∷ 167 ∷ 89 ∷ 57 ∷ 22 ∷ 134 ∷ 139 ∷ 210 ∷ []) ∷ []))

agrees : RunAgrees first entries last
unfolding first entries last access sound fresh_card read_dword write_dword
agrees = refl
