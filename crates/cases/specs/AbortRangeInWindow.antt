-- Written by the independent program, oracle/: a list of accesses with its answers, and what it leaves.
use Rattle.std.specs.Prelude.{refl, List, [], ◌∷◌}
use Rattle.model.specs.Lanes.{read_dword, write_dword}
use Rattle.model.specs.State.{World, sound, fresh_card, fresh_world, with_interrupts}
use Rattle.model.specs.Runs.{Entry}
use Rattle.model.specs.Accesses.{Access, Answer, access}
use Rattle.model.specs.Bench.{q, r, ◌gives◌}
use Rattle.cases.specs.Vectors.{settings, interrupts, untouched, world, bytes, RunAgrees}

first : World
first = fresh_world (settings 536870912 256 64 128) (bytes ((0, 8 ∷ 187 ∷ 33 ∷ 215 ∷ 219 ∷ 242 ∷ 201 ∷ 200 ∷ 249 ∷ 75 ∷ 61 ∷ 73 ∷ 0 ∷ 230 ∷ 10 ∷ 74 ∷ 57 ∷ 235 ∷ 33 ∷ 75 ∷ []) ∷ (16344, 200 ∷ 148 ∷ 246 ∷ 221 ∷ 236 ∷ 105 ∷ 120 ∷ 34 ∷ 25 ∷ 154 ∷ 109 ∷ 236 ∷ 201 ∷ 89 ∷ 100 ∷ 115 ∷ 21 ∷ 170 ∷ 147 ∷ 106 ∷ []) ∷ [])) (bytes ((0, 177 ∷ 98 ∷ 55 ∷ 30 ∷ 134 ∷ 130 ∷ 38 ∷ 109 ∷ 186 ∷ 210 ∷ 24 ∷ 19 ∷ 0 ∷ 210 ∷ 170 ∷ 126 ∷ 123 ∷ 175 ∷ 81 ∷ 233 ∷ []) ∷ (24, 163 ∷ 44 ∷ 70 ∷ 45 ∷ 206 ∷ 235 ∷ 225 ∷ 73 ∷ 72 ∷ 172 ∷ 74 ∷ 218 ∷ 162 ∷ 86 ∷ 223 ∷ 154 ∷ 3 ∷ 91 ∷ 144 ∷ 184 ∷ 80 ∷ 57 ∷ 188 ∷ 181 ∷ 86 ∷ 114 ∷ 12 ∷ 72 ∷ 188 ∷ 136 ∷ 235 ∷ 236 ∷ 22 ∷ 110 ∷ 123 ∷ 131 ∷ 185 ∷ 175 ∷ 31 ∷ 84 ∷ []) ∷ (24, 229 ∷ 249 ∷ 65 ∷ 31 ∷ 172 ∷ 189 ∷ 150 ∷ 30 ∷ 81 ∷ 51 ∷ 32 ∷ 36 ∷ 248 ∷ 205 ∷ 169 ∷ 92 ∷ 170 ∷ 187 ∷ 188 ∷ 141 ∷ 27 ∷ 25 ∷ 255 ∷ 156 ∷ 135 ∷ 57 ∷ 126 ∷ 157 ∷ 247 ∷ 46 ∷ 212 ∷ 123 ∷ 226 ∷ 117 ∷ 129 ∷ 34 ∷ 88 ∷ 134 ∷ 135 ∷ 251 ∷ []) ∷ (88, 160 ∷ 47 ∷ 75 ∷ 239 ∷ 216 ∷ 0 ∷ 201 ∷ 140 ∷ 250 ∷ 20 ∷ 1 ∷ 225 ∷ 83 ∷ 255 ∷ 161 ∷ 252 ∷ 150 ∷ 236 ∷ 66 ∷ 216 ∷ []) ∷ []))

entries : List (Entry Access Answer)
entries =
    q 14 0 0 16 536870968 12 gives r 0 3 0
    ∷ q 15 0 0 0 0 0 gives r 0 1 1
    ∷ q 15 1 0 0 0 0 gives r 0 1 2
    ∷ q 15 0 0 0 0 0 gives r 0 3 2
    ∷ q 11 0 0 0 0 0 gives r 0 256 0
    ∷ q 11 1 0 0 0 0 gives r 0 256 0
    ∷ q 12 0 0 0 16778016 0 gives r 0 0 0
    ∷ q 12 1 0 0 18875168 0 gives r 0 0 0
    ∷ q 14 1 0 64 536871036 8 gives r 0 2 0
    ∷ q 15 0 0 0 0 0 gives r 0 3 0
    ∷ q 14 0 0 128 536871040 8 gives r 0 2 0
    ∷ q 15 0 0 0 0 0 gives r 0 1 1
    ∷ q 15 1 0 0 0 0 gives r 0 2 2
    ∷ q 14 1 0 136 536871040 4 gives r 0 1 0
    ∷ q 15 0 0 0 0 0 gives r 0 2 1
    ∷ q 14 0 0 140 536870972 4 gives r 0 1 0
    ∷ q 15 1 0 0 0 0 gives r 0 2 1
    ∷ q 14 0 1 16 536870968 12 gives r 0 3 0
    ∷ q 15 0 0 0 0 0 gives r 0 1 1
    ∷ q 15 1 0 0 0 0 gives r 0 1 2
    ∷ q 15 0 0 0 0 0 gives r 0 3 2
    ∷ q 11 0 0 0 0 0 gives r 0 16777504 0
    ∷ q 11 1 0 0 0 0 gives r 0 18874656 0
    ∷ q 12 0 0 0 16778016 0 gives r 0 0 0
    ∷ q 12 1 0 0 18875168 0 gives r 0 0 0
    ∷ q 14 1 1 64 536871036 8 gives r 0 2 0
    ∷ q 15 0 0 0 0 0 gives r 0 3 0
    ∷ q 14 0 1 128 536871040 8 gives r 0 2 0
    ∷ q 15 0 0 0 0 0 gives r 0 1 1
    ∷ q 15 1 0 0 0 0 gives r 0 2 2
    ∷ q 14 1 1 136 536871040 4 gives r 0 1 0
    ∷ q 15 0 0 0 0 0 gives r 0 2 1
    ∷ q 14 0 1 140 536870972 4 gives r 0 1 0
    ∷ q 15 1 0 0 0 0 gives r 0 2 1
    ∷ q 14 0 0 16 536870976 8 gives r 0 2 0
    ∷ q 15 0 0 0 0 0 gives r 0 3 0
    ∷ q 11 0 0 0 0 0 gives r 0 16777504 0
    ∷ q 11 1 0 0 0 0 gives r 0 18874656 0
    ∷ q 13 0 0 0 0 0 gives r 0 1 0
    ∷ q 13 1 0 0 0 0 gives r 0 1 0
    ∷ q 6 1 1 0 9 0 gives r 5 0 0
    ∷ q 14 0 0 0 536870912 4294967292 gives r 8 0 0
    ∷ q 16 1 0 256 0 0 gives r 3 0 0
    ∷ q 2 0 5 7 195939070 0 gives r 9 0 0
    ∷ q 4 0 10 536870917 2271560481 0 gives r 9 0 0
    ∷ q 8 1 3 0 256 0 gives r 3 0 0
    ∷ q 3 1 0 536871164 0 1 gives r 3 0 0
    ∷ q 14 0 1 0 536870912 5 gives r 8 0 0
    ∷ q 11 2 0 0 0 0 gives r 2 0 0
    ∷ q 13 0 0 0 16777216 0 gives r 3 0 0
    ∷ q 6 255 3 0 77 0 gives r 2 0 0
    ∷ q 14 0 1 3 0 6 gives r 8 0 0
    ∷ q 1 2 0 8 0 0 gives r 2 0 0
    ∷ q 3 0 16 536871164 0 0 gives r 4 0 0
    ∷ q 5 1 4 0 0 1 gives r 3 0 0
    ∷ []

last : World
last =
    world
    (with_interrupts (interrupts 256 288 288 288) (untouched (settings 536870912 256 64 128)))
    (bytes ((0, 8 ∷ 187 ∷ 33 ∷ 215 ∷ 219 ∷ 242 ∷ 201 ∷ 200 ∷ 249 ∷ 75 ∷ 61 ∷ 73 ∷ 0 ∷ 230 ∷ 10 ∷ 74 ∷ 162 ∷ 86 ∷ 223 ∷ 154 ∷ 3 ∷ 91 ∷ 144 ∷ 184 ∷ []) ∷ (104, 27 ∷ 25 ∷ 255 ∷ 156 ∷ 135 ∷ 57 ∷ 126 ∷ 157 ∷ 27 ∷ 25 ∷ 255 ∷ 156 ∷ 3 ∷ 91 ∷ 144 ∷ 184 ∷ []) ∷ (16220, 200 ∷ 148 ∷ 246 ∷ 221 ∷ 236 ∷ 105 ∷ 120 ∷ 34 ∷ 25 ∷ 154 ∷ 109 ∷ 236 ∷ 201 ∷ 89 ∷ 100 ∷ 115 ∷ 21 ∷ 170 ∷ 147 ∷ 106 ∷ []) ∷ []))
    (bytes ((0, 177 ∷ 98 ∷ 55 ∷ 30 ∷ 134 ∷ 130 ∷ 38 ∷ 109 ∷ 186 ∷ 210 ∷ 24 ∷ 19 ∷ 0 ∷ 210 ∷ 170 ∷ 126 ∷ 123 ∷ 175 ∷ 81 ∷ 233 ∷ []) ∷ (24, 163 ∷ 44 ∷ 70 ∷ 45 ∷ 206 ∷ 235 ∷ 225 ∷ 73 ∷ 72 ∷ 172 ∷ 74 ∷ 218 ∷ 162 ∷ 86 ∷ 223 ∷ 154 ∷ 3 ∷ 91 ∷ 144 ∷ 184 ∷ 80 ∷ 57 ∷ 188 ∷ 181 ∷ 86 ∷ 114 ∷ 12 ∷ 72 ∷ 188 ∷ 136 ∷ 235 ∷ 236 ∷ 22 ∷ 110 ∷ 123 ∷ 131 ∷ 185 ∷ 175 ∷ 31 ∷ 84 ∷ []) ∷ (24, 229 ∷ 249 ∷ 65 ∷ 31 ∷ 172 ∷ 189 ∷ 150 ∷ 30 ∷ 81 ∷ 51 ∷ 32 ∷ 36 ∷ 248 ∷ 205 ∷ 169 ∷ 92 ∷ 170 ∷ 187 ∷ 188 ∷ 141 ∷ 27 ∷ 25 ∷ 255 ∷ 156 ∷ 135 ∷ 57 ∷ 126 ∷ 157 ∷ 247 ∷ 46 ∷ 212 ∷ 123 ∷ 226 ∷ 117 ∷ 129 ∷ 34 ∷ 88 ∷ 134 ∷ 135 ∷ 251 ∷ []) ∷ (88, 160 ∷ 47 ∷ 75 ∷ 239 ∷ 216 ∷ 0 ∷ 201 ∷ 140 ∷ 250 ∷ 20 ∷ 1 ∷ 225 ∷ 83 ∷ 255 ∷ 161 ∷ 252 ∷ 150 ∷ 236 ∷ 66 ∷ 216 ∷ []) ∷ []))

agrees : RunAgrees first entries last
unfolding first entries last access sound fresh_card read_dword write_dword
agrees = refl
