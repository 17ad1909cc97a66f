-- Written by the independent program, oracle/: a list of accesses with its answers, and what it leaves.
use Rattle.std.specs.Prelude.{refl, List, [], ◌∷◌}
use Rattle.model.specs.Lanes.{read_dword, write_dword}
use Rattle.model.specs.State.{World, sound, fresh_card, fresh_world, with_interrupts}
use Rattle.model.specs.Runs.{Entry}
use Rattle.model.specs.Accesses.{Access, Answer, access}
use Rattle.model.specs.Bench.{q, r, ◌gives◌}
use Rattle.cases.specs.Vectors.{settings, interrupts, untouched, world, bytes, RunAgrees}

first : World
first = fresh_world (settings 536870912 256 64 128) (bytes ((0, 174 ∷ 192 ∷ 67 ∷ 200 ∷ 67 ∷ 29 ∷ 165 ∷ 251 ∷ 56 ∷ 202 ∷ 150 ∷ 54 ∷ 252 ∷ 61 ∷ 194 ∷ 226 ∷ 144 ∷ 50 ∷ 155 ∷ 173 ∷ []) ∷ (16344, 196 ∷ 20 ∷ 119 ∷ 95 ∷ 120 ∷ 170 ∷ 245 ∷ 66 ∷ 162 ∷ 179 ∷ 78 ∷ 0 ∷ 14 ∷ 218 ∷ 27 ∷ 235 ∷ 134 ∷ 198 ∷ 15 ∷ 222 ∷ []) ∷ [])) (bytes ((0, 61 ∷ 108 ∷ 106 ∷ 13 ∷ 175 ∷ 212 ∷ 59 ∷ 28 ∷ 117 ∷ 18 ∷ 253 ∷ 106 ∷ 186 ∷ 78 ∷ 216 ∷ 189 ∷ 122 ∷ 71 ∷ 129 ∷ 128 ∷ []) ∷ (24, 37 ∷ 121 ∷ 54 ∷ 21 ∷ 110 ∷ 67 ∷ 1 ∷ 247 ∷ 177 ∷ 60 ∷ 241 ∷ 187 ∷ 231 ∷ 111 ∷ 179 ∷ 248 ∷ 206 ∷ 66 ∷ 94 ∷ 151 ∷ 246 ∷ 125 ∷ 2 ∷ 128 ∷ 9 ∷ 131 ∷ 174 ∷ 235 ∷ 73 ∷ 35 ∷ 70 ∷ 47 ∷ 216 ∷ 235 ∷ 23 ∷ 104 ∷ 83 ∷ 112 ∷ 233 ∷ 128 ∷ []) ∷ (24, 186 ∷ 102 ∷ 231 ∷ 104 ∷ 179 ∷ 154 ∷ 86 ∷ 62 ∷ 47 ∷ 71 ∷ 86 ∷ 47 ∷ 158 ∷ 170 ∷ 140 ∷ 165 ∷ 199 ∷ 121 ∷ 162 ∷ 43 ∷ 173 ∷ 59 ∷ 183 ∷ 135 ∷ 153 ∷ 4 ∷ 174 ∷ 68 ∷ 213 ∷ 243 ∷ 191 ∷ 17 ∷ 153 ∷ 146 ∷ 46 ∷ 230 ∷ 11 ∷ 239 ∷ 18 ∷ 241 ∷ []) ∷ (88, 80 ∷ 52 ∷ 203 ∷ 124 ∷ 174 ∷ 10 ∷ 242 ∷ 32 ∷ 100 ∷ 240 ∷ 23 ∷ 217 ∷ 139 ∷ 35 ∷ 80 ∷ 94 ∷ 114 ∷ 203 ∷ 206 ∷ 0 ∷ []) ∷ []))

entries : List (Entry Access Answer)
entries =
    q 12 0 0 0 0 0 gives r 0 0 0
    ∷ q 12 1 0 0 0 0 gives r 0 0 0
    ∷ q 16 1 0 0 0 0 gives r 0 0 0
    ∷ q 11 0 0 0 0 0 gives r 0 16 0
    ∷ q 11 1 0 0 0 0 gives r 0 0 0
    ∷ q 12 0 0 0 4294967295 0 gives r 0 0 0
    ∷ q 12 1 0 0 4294967295 0 gives r 0 0 0
    ∷ q 11 0 0 0 0 0 gives r 0 66781184 0
    ∷ q 11 1 0 0 0 0 gives r 0 65732608 0
    ∷ q 6 0 1 0 7 0 gives r 0 1 1
    ∷ q 11 0 0 0 0 0 gives r 0 66781248 0
    ∷ q 11 1 0 0 0 0 gives r 0 65732672 0
    ∷ q 13 0 0 0 0 0 gives r 0 1 0
    ∷ q 13 1 0 0 0 0 gives r 0 1 0
    ∷ q 12 0 0 0 4194496 0 gives r 0 0 0
    ∷ q 12 1 0 0 8388800 0 gives r 0 0 0
    ∷ q 13 0 0 0 0 0 gives r 0 1 0
    ∷ q 13 1 0 0 0 0 gives r 0 0 0
    ∷ q 5 1 1 0 0 0 gives r 0 7 1
    ∷ q 6 1 3 0 8 0 gives r 0 1 1
    ∷ q 11 0 0 0 0 0 gives r 0 4194432 0
    ∷ q 11 1 0 0 0 0 gives r 0 8388736 0
    ∷ q 13 0 0 0 0 0 gives r 0 0 0
    ∷ q 13 1 0 0 0 0 gives r 0 1 0
    ∷ q 12 0 0 0 8388736 0 gives r 0 0 0
    ∷ q 12 1 0 0 8388736 0 gives r 0 0 0
    ∷ q 13 0 0 0 0 0 gives r 0 1 0
    ∷ q 5 0 3 0 0 0 gives r 0 8 1
    ∷ q 14 1 1 0 536870912 4 gives r 0 1 0
    ∷ q 15 0 0 0 0 0 gives r 0 2 1
    ∷ q 11 0 0 0 0 0 gives r 0 8388640 0
    ∷ q 11 1 0 0 0 0 gives r 0 8388640 0
    ∷ q 12 0 0 0 0 0 gives r 0 0 0
    ∷ q 12 1 0 0 0 0 gives r 0 0 0
    ∷ q 12 0 0 0 2097184 0 gives r 0 0 0
    ∷ q 11 0 0 0 0 0 gives r 0 2097152 0
    ∷ q 13 0 0 0 0 0 gives r 0 0 0
    ∷ q 13 1 0 0 0 0 gives r 0 0 0
    ∷ q 12 1 0 0 2097152 0 gives r 0 0 0
    ∷ q 13 0 0 0 0 0 gives r 0 0 0
    ∷ q 13 1 0 0 0 0 gives r 0 1 0
    ∷ q 2 0 5 6 195939070 0 gives r 9 0 0
    ∷ q 14 0 1 0 536870912 3 gives r 8 0 0
    ∷ q 10 0 0 0 0 1 gives r 3 0 0
    ∷ q 5 1 0 1 0 0 gives r 3 0 0
    ∷ q 3 0 0 536871164 0 2147483648 gives r 3 0 0
    ∷ q 0 0 0 0 0 2147483648 gives r 3 0 0
    ∷ q 8 1 3 256 0 0 gives r 3 0 0
    ∷ q 3 0 16 536871164 0 1 gives r 3 0 0
    ∷ q 14 0 0 0 536870912 16388 gives r 8 0 0
    ∷ q 4 1 10 536870912 2271560481 0 gives r 5 0 0
    ∷ q 16 1 128 0 0 0 gives r 3 0 0
    ∷ q 13 0 0 4294967295 0 0 gives r 3 0 0
    ∷ q 14 0 1 16388 0 0 gives r 7 0 0
    ∷ q 5 0 1 0 0 0 gives r 5 0 0
    ∷ q 6 2 3 0 77 0 gives r 2 0 0
    ∷ []

last : World
last =
    world
    (with_interrupts (interrupts 32 0 32 32) (untouched (settings 536870912 256 64 128)))
    (bytes ((0, 174 ∷ 192 ∷ 67 ∷ 200 ∷ 67 ∷ 29 ∷ 165 ∷ 251 ∷ 56 ∷ 202 ∷ 150 ∷ 54 ∷ 252 ∷ 61 ∷ 194 ∷ 226 ∷ 144 ∷ 50 ∷ 155 ∷ 173 ∷ []) ∷ (16344, 196 ∷ 20 ∷ 119 ∷ 95 ∷ 120 ∷ 170 ∷ 245 ∷ 66 ∷ 162 ∷ 179 ∷ 78 ∷ 0 ∷ 14 ∷ 218 ∷ 27 ∷ 235 ∷ 134 ∷ 198 ∷ 15 ∷ 222 ∷ []) ∷ []))
    (bytes ((0, 174 ∷ 192 ∷ 67 ∷ 200 ∷ 175 ∷ 212 ∷ 59 ∷ 28 ∷ 117 ∷ 18 ∷ 253 ∷ 106 ∷ 186 ∷ 78 ∷ 216 ∷ 189 ∷ 122 ∷ 71 ∷ 129 ∷ 128 ∷ []) ∷ (24, 37 ∷ 121 ∷ 54 ∷ 21 ∷ 110 ∷ 67 ∷ 1 ∷ 247 ∷ 177 ∷ 60 ∷ 241 ∷ 187 ∷ 231 ∷ 111 ∷ 179 ∷ 248 ∷ 206 ∷ 66 ∷ 94 ∷ 151 ∷ 246 ∷ 125 ∷ 2 ∷ 128 ∷ 9 ∷ 131 ∷ 174 ∷ 235 ∷ 73 ∷ 35 ∷ 70 ∷ 47 ∷ 216 ∷ 235 ∷ 23 ∷ 104 ∷ 83 ∷ 112 ∷ 233 ∷ 128 ∷ []) ∷ (24, 186 ∷ 102 ∷ 231 ∷ 104 ∷ 179 ∷ 154 ∷ 86 ∷ 62 ∷ 47 ∷ 71 ∷ 86 ∷ 47 ∷ 158 ∷ 170 ∷ 140 ∷ 165 ∷ 199 ∷ 121 ∷ 162 ∷ 43 ∷ 173 ∷ 59 ∷ 183 ∷ 135 ∷ 153 ∷ 4 ∷ 174 ∷ 68 ∷ 213 ∷ 243 ∷ 191 ∷ 17 ∷ 153 ∷ 146 ∷ 46 ∷ 230 ∷ 11 ∷ 239 ∷ 18 ∷ 241 ∷ []) ∷ (88, 80 ∷ 52 ∷ 203 ∷ 124 ∷ 174 ∷ 10 ∷ 242 ∷ 32 ∷ 100 ∷ 240 ∷ 23 ∷ 217 ∷ 139 ∷ 35 ∷ 80 ∷ 94 ∷ 114 ∷ 203 ∷ 206 ∷ 0 ∷ []) ∷ []))

agrees : RunAgrees first entries last
unfolding first entries last access sound fresh_card read_dword write_dword
agrees = refl
