-- Written by the independent program, oracle/: a list of accesses with its answers, and what it leaves.
use Rattle.std.specs.Prelude.{refl, List, [], ◌∷◌}
use Rattle.model.specs.Lanes.{read_dword, write_dword}
use Rattle.model.specs.State.{World, sound, fresh_card, fresh_world, with_interrupts}
use Rattle.model.specs.Runs.{Entry}
use Rattle.model.specs.Accesses.{Access, Answer, access}
use Rattle.model.specs.Bench.{q, r, ◌gives◌}
use Rattle.cases.specs.Vectors.{settings, interrupts, untouched, world, bytes, RunAgrees}

first : World
first = fresh_world (settings 4294967168 128 64 96) (bytes ((0, 93 ∷ 20 ∷ 217 ∷ 151 ∷ 164 ∷ 59 ∷ 95 ∷ 0 ∷ 142 ∷ 224 ∷ 172 ∷ 162 ∷ 7 ∷ 215 ∷ 61 ∷ 161 ∷ 169 ∷ 33 ∷ 193 ∷ 16 ∷ []) ∷ (16344, 20 ∷ 164 ∷ 231 ∷ 219 ∷ 53 ∷ 120 ∷ 43 ∷ 17 ∷ 141 ∷ 114 ∷ 156 ∷ 189 ∷ 116 ∷ 253 ∷ 121 ∷ 43 ∷ 171 ∷ 14 ∷ 84 ∷ 20 ∷ []) ∷ [])) (bytes ((0, 150 ∷ 211 ∷ 85 ∷ 71 ∷ 86 ∷ 140 ∷ 165 ∷ 74 ∷ 103 ∷ 46 ∷ 118 ∷ 127 ∷ 46 ∷ 78 ∷ 123 ∷ 148 ∷ 34 ∷ 35 ∷ 175 ∷ 106 ∷ []) ∷ (24, 6 ∷ 62 ∷ 185 ∷ 202 ∷ 70 ∷ 154 ∷ 107 ∷ 169 ∷ 74 ∷ 86 ∷ 194 ∷ 221 ∷ 80 ∷ 196 ∷ 169 ∷ 142 ∷ 161 ∷ 39 ∷ 24 ∷ 222 ∷ 18 ∷ 230 ∷ 104 ∷ 164 ∷ 200 ∷ 65 ∷ 199 ∷ 236 ∷ 204 ∷ 27 ∷ 145 ∷ 136 ∷ 11 ∷ 52 ∷ 80 ∷ 122 ∷ 132 ∷ 242 ∷ 192 ∷ 195 ∷ 129 ∷ 31 ∷ 44 ∷ 86 ∷ 246 ∷ 183 ∷ 25 ∷ 143 ∷ 214 ∷ 157 ∷ 177 ∷ 198 ∷ 118 ∷ 34 ∷ 29 ∷ 16 ∷ 33 ∷ 186 ∷ 230 ∷ 250 ∷ 61 ∷ 4 ∷ 241 ∷ 84 ∷ 70 ∷ 221 ∷ 74 ∷ 99 ∷ 71 ∷ 177 ∷ 209 ∷ 2 ∷ 126 ∷ 114 ∷ 169 ∷ 155 ∷ 234 ∷ 183 ∷ 218 ∷ 233 ∷ 145 ∷ 98 ∷ 198 ∷ 212 ∷ []) ∷ []))

entries : List (Entry Access Answer)
entries =
    q 14 0 0 0 4294967168 16 gives r 0 4 0
    ∷ q 15 1 0 0 0 0 gives r 0 1 1
    ∷ q 14 1 0 0 4294967168 4 gives r 6 0 0
    ∷ q 14 1 2 0 4294967168 4 gives r 4 0 0
    ∷ q 14 1 2 0 4294967168 3 gives r 4 0 0
    ∷ q 14 1 0 0 4294967168 0 gives r 6 0 0
    ∷ q 14 1 0 0 4294967168 6 gives r 6 0 0
    ∷ q 14 1 0 2 4294967168 4 gives r 6 0 0
    ∷ q 14 2 0 0 4294967168 4 gives r 2 0 0
    ∷ q 4 0 0 4294967172 3235774465 0 gives r 0 0 0
    ∷ q 2 1 0 4 3235774466 0 gives r 0 0 0
    ∷ q 15 0 0 0 0 0 gives r 0 1 2
    ∷ q 1 1 0 4 0 0 gives r 0 3235774465 0
    ∷ q 3 0 0 4294967172 0 0 gives r 0 3235774465 0
    ∷ q 0 0 0 0 0 0 gives r 0 0 0
    ∷ q 14 1 0 0 4294950912 16384 gives r 0 4096 0
    ∷ q 15 0 0 0 0 0 gives r 0 4 0
    ∷ q 14 1 0 16376 4294967288 8 gives r 0 2 0
    ∷ q 15 0 0 0 0 0 gives r 0 1 1
    ∷ q 15 1 0 0 0 0 gives r 0 2 2
    ∷ q 14 0 1 0 4294967168 16 gives r 0 4 0
    ∷ q 15 1 0 0 0 0 gives r 0 1 1
    ∷ q 14 1 1 0 4294967168 4 gives r 6 0 0
    ∷ q 14 1 2 0 4294967168 4 gives r 4 0 0
    ∷ q 14 1 2 0 4294967168 3 gives r 4 0 0
    ∷ q 14 1 1 0 4294967168 0 gives r 6 0 0
    ∷ q 14 1 1 0 4294967168 6 gives r 6 0 0
    ∷ q 14 1 1 2 4294967168 4 gives r 6 0 0
    ∷ q 14 2 1 0 4294967168 4 gives r 2 0 0
    ∷ q 4 0 0 4294967172 3235774465 0 gives r 0 0 0
    ∷ q 2 1 0 4 3235774466 0 gives r 0 0 0
    ∷ q 15 0 0 0 0 0 gives r 0 1 2
    ∷ q 1 1 0 4 0 0 gives r 0 3235774466 0
    ∷ q 3 0 0 4294967172 0 0 gives r 0 3235774466 0
    ∷ q 0 0 0 0 0 0 gives r 0 0 0
    ∷ q 14 1 1 0 4294950912 16384 gives r 0 4096 0
    ∷ q 15 0 0 0 0 0 gives r 0 4 0
    ∷ q 14 1 1 16376 4294967288 8 gives r 0 2 0
    ∷ q 15 0 0 0 0 0 gives r 0 1 1
    ∷ q 15 1 0 0 0 0 gives r 0 2 2
    ∷ q 14 0 255 0 4294967168 8 gives r 4 0 0
    ∷ q 11 0 0 0 0 4294967295 gives r 3 0 0
    ∷ q 9 255 0 0 16777221 0 gives r 2 0 0
    ∷ q 17 2 0 0 0 0 gives r 2 0 0
    ∷ q 14 0 1 4 0 16384 gives r 9 0 0
    ∷ q 4 0 16 4294967168 2271560481 0 gives r 4 0 0
    ∷ q 4 0 10 4294967295 2271560481 0 gives r 9 0 0
    ∷ q 4 0 16 4294967168 2271560481 1 gives r 3 0 0
    ∷ q 3 1 0 4294967292 0 0 gives r 5 0 0
    ∷ q 16 0 0 0 0 0 gives r 5 0 0
    ∷ q 7 2 3 0 0 0 gives r 2 0 0
    ∷ q 14 0 0 0 4294967292 8 gives r 9 0 0
    ∷ q 15 2 1 0 0 0 gives r 2 0 0
    ∷ q 1 1 255 8 0 0 gives r 4 0 0
    ∷ []

last : World
last =
    world
    (with_interrupts (interrupts 0 544 0 544) (untouched (settings 4294967168 128 64 96)))
    (bytes ((0, 150 ∷ 211 ∷ 85 ∷ 71 ∷ 2 ∷ 0 ∷ 222 ∷ 192 ∷ 142 ∷ 224 ∷ 172 ∷ 162 ∷ 7 ∷ 215 ∷ 61 ∷ 161 ∷ 169 ∷ 33 ∷ 193 ∷ 16 ∷ []) ∷ (16344, 20 ∷ 164 ∷ 231 ∷ 219 ∷ 53 ∷ 120 ∷ 43 ∷ 17 ∷ 141 ∷ 114 ∷ 156 ∷ 189 ∷ 234 ∷ 183 ∷ 218 ∷ 233 ∷ 145 ∷ 98 ∷ 198 ∷ 212 ∷ []) ∷ []))
    (bytes ((0, 150 ∷ 211 ∷ 85 ∷ 71 ∷ 2 ∷ 0 ∷ 222 ∷ 192 ∷ 103 ∷ 46 ∷ 118 ∷ 127 ∷ 46 ∷ 78 ∷ 123 ∷ 148 ∷ 34 ∷ 35 ∷ 175 ∷ 106 ∷ []) ∷ (24, 6 ∷ 62 ∷ 185 ∷ 202 ∷ 70 ∷ 154 ∷ 107 ∷ 169 ∷ 74 ∷ 86 ∷ 194 ∷ 221 ∷ 80 ∷ 196 ∷ 169 ∷ 142 ∷ 161 ∷ 39 ∷ 24 ∷ 222 ∷ 18 ∷ 230 ∷ 104 ∷ 164 ∷ 200 ∷ 65 ∷ 199 ∷ 236 ∷ 204 ∷ 27 ∷ 145 ∷ 136 ∷ 11 ∷ 52 ∷ 80 ∷ 122 ∷ 132 ∷ 242 ∷ 192 ∷ 195 ∷ 129 ∷ 31 ∷ 44 ∷ 86 ∷ 246 ∷ 183 ∷ 25 ∷ 143 ∷ 214 ∷ 157 ∷ 177 ∷ 198 ∷ 118 ∷ 34 ∷ 29 ∷ 16 ∷ 33 ∷ 186 ∷ 230 ∷ 250 ∷ 61 ∷ 4 ∷ 241 ∷ 84 ∷ 70 ∷ 221 ∷ 74 ∷ 99 ∷ 71 ∷ 177 ∷ 209 ∷ 2 ∷ 126 ∷ 114 ∷ 169 ∷ 155 ∷ 234 ∷ 183 ∷ 218 ∷ 233 ∷ 145 ∷ 98 ∷ 198 ∷ 212 ∷ []) ∷ []))

agrees : RunAgrees first entries last
unfolding first entries last access sound fresh_card read_dword write_dword
agrees = refl
