-- Written by the independent program, oracle/: a list of accesses with its answers, and what it leaves.
use Rattle.std.specs.Prelude.{refl, true, false, List, [], ◌∷◌}
use Rattle.model.specs.Lanes.{read_dword, write_dword}
use Rattle.model.specs.Transfer.{running}
use Rattle.model.specs.State.{World, sound, fresh_card, fresh_world, with_fifos, with_arbitration, with_transfer}
use Rattle.model.specs.Runs.{Entry}
use Rattle.model.specs.Accesses.{Access, Answer, access}
use Rattle.model.specs.Bench.{q, r, ◌gives◌}
use Rattle.cases.specs.Vectors.{settings, pair, request, untouched, world, bytes, RunAgrees}

first : World
first = fresh_world (settings 268435456 32768 28672 32768) (bytes ((0, 99 ∷ 4 ∷ 230 ∷ 149 ∷ 115 ∷ 63 ∷ 119 ∷ 83 ∷ 34 ∷ 105 ∷ 26 ∷ 245 ∷ 235 ∷ 223 ∷ 221 ∷ 140 ∷ 225 ∷ 83 ∷ 158 ∷ 193 ∷ []) ∷ (16344, 172 ∷ 27 ∷ 88 ∷ 108 ∷ 231 ∷ 245 ∷ 19 ∷ 104 ∷ 230 ∷ 106 ∷ 248 ∷ 13 ∷ 98 ∷ 72 ∷ 142 ∷ 155 ∷ 19 ∷ 239 ∷ 53 ∷ 45 ∷ []) ∷ [])) (bytes ((0, 164 ∷ 235 ∷ 97 ∷ 14 ∷ 10 ∷ 81 ∷ 136 ∷ 211 ∷ 216 ∷ 164 ∷ 171 ∷ 92 ∷ 16 ∷ 64 ∷ 146 ∷ 56 ∷ 127 ∷ 85 ∷ 146 ∷ 157 ∷ []) ∷ (28632, 90 ∷ 94 ∷ 223 ∷ 102 ∷ 118 ∷ 91 ∷ 203 ∷ 199 ∷ 252 ∷ 244 ∷ 93 ∷ 6 ∷ 134 ∷ 122 ∷ 167 ∷ 240 ∷ 56 ∷ 91 ∷ 135 ∷ 181 ∷ 159 ∷ 80 ∷ 196 ∷ 83 ∷ 3 ∷ 40 ∷ 163 ∷ 75 ∷ 213 ∷ 64 ∷ 244 ∷ 17 ∷ 113 ∷ 245 ∷ 178 ∷ 146 ∷ 24 ∷ 227 ∷ 255 ∷ 242 ∷ []) ∷ (4056, 139 ∷ 157 ∷ 53 ∷ 161 ∷ 158 ∷ 43 ∷ 233 ∷ 162 ∷ 149 ∷ 100 ∷ 252 ∷ 214 ∷ 68 ∷ 178 ∷ 187 ∷ 32 ∷ 74 ∷ 141 ∷ 117 ∷ 60 ∷ []) ∷ []))

entries : List (Entry Access Answer)
entries =
    q 8 0 0 0 0 0 gives r 0 0 0
    ∷ q 7 0 0 0 0 0 gives r 0 1 0
    ∷ q 7 0 0 0 0 0 gives r 0 1 0
    ∷ q 7 1 0 0 0 0 gives r 0 0 0
    ∷ q 8 1 0 0 0 0 gives r 0 0 0
    ∷ q 7 1 0 0 0 0 gives r 0 0 0
    ∷ q 8 0 0 0 0 0 gives r 0 0 0
    ∷ q 7 1 0 0 0 0 gives r 0 1 0
    ∷ q 7 0 1 0 0 0 gives r 0 1 0
    ∷ q 7 1 1 0 0 0 gives r 0 0 0
    ∷ q 8 1 2 0 0 0 gives r 0 0 0
    ∷ q 7 1 2 0 0 0 gives r 0 1 0
    ∷ q 7 1 2 0 0 0 gives r 0 1 0
    ∷ q 7 0 2 0 0 0 gives r 0 0 0
    ∷ q 8 0 2 0 0 0 gives r 0 0 0
    ∷ q 7 0 2 0 0 0 gives r 0 0 0
    ∷ q 8 1 2 0 0 0 gives r 0 0 0
    ∷ q 7 0 2 0 0 0 gives r 0 1 0
    ∷ q 7 1 3 0 0 0 gives r 0 1 0
    ∷ q 7 0 3 0 0 0 gives r 0 0 0
    ∷ q 0 0 0 0 0 0 gives r 0 0 0
    ∷ q 7 1 0 0 0 0 gives r 0 1 0
    ∷ q 7 0 2 0 0 0 gives r 0 1 0
    ∷ q 14 0 0 16372 268435520 12 gives r 0 3 0
    ∷ q 0 0 0 4 0 0 gives r 3 0 0
    ∷ q 6 0 2 0 0 0 gives r 0 1 1
    ∷ q 16 2 0 0 0 0 gives r 2 0 0
    ∷ q 14 0 0 0 268435456 5 gives r 6 0 0
    ∷ q 7 1 2 0 0 0 gives r 0 0 0
    ∷ q 10 0 0 256 0 0 gives r 3 0 0
    ∷ q 3 255 0 268468220 0 0 gives r 2 0 0
    ∷ q 3 0 0 268435452 0 0 gives r 9 0 0
    ∷ q 5 1 4 0 0 0 gives r 4 0 0
    ∷ q 14 0 1 0 268435458 8 gives r 6 0 0
    ∷ q 15 1 0 0 0 0 gives r 0 1 1
    ∷ q 5 1 1 0 0 0 gives r 0 4294967295 0
    ∷ q 1 0 16 4 1 0 gives r 3 0 0
    ∷ q 5 1 0 0 0 0 gives r 5 0 0
    ∷ q 7 1 2 0 0 0 gives r 0 0 0
    ∷ q 1 1 15 16384 0 0 gives r 9 0 0
    ∷ q 10 0 0 0 0 0 gives r 0 0 0
    ∷ q 10 0 0 0 0 0 gives r 0 0 0
    ∷ q 15 0 0 0 0 0 gives r 0 1 2
    ∷ q 8 2 3 0 0 0 gives r 2 0 0
    ∷ q 3 0 5 268435456 0 0 gives r 0 234941184 0
    ∷ q 14 1 0 0 268468216 16384 gives r 6 0 0
    ∷ q 14 1 255 1 0 4 gives r 4 0 0
    ∷ q 14 1 0 0 268464124 16384 gives r 6 0 0
    ∷ q 14 0 1 0 268435456 1 gives r 6 0 0
    ∷ q 13 255 0 0 0 0 gives r 2 0 0
    ∷ []

last : World
last =
    world
    (with_fifos ([] ∷ [] ∷ (0 ∷ []) ∷ [] ∷ []) (with_arbitration (pair false true ∷ pair false false ∷ pair true false ∷ pair false false ∷ []) (with_transfer (running (request 0 16372 268435520 12) 2) (untouched (settings 268435456 32768 28672 32768)))))
    (bytes ((0, 99 ∷ 4 ∷ 230 ∷ 149 ∷ 115 ∷ 63 ∷ 119 ∷ 83 ∷ 34 ∷ 105 ∷ 26 ∷ 245 ∷ 235 ∷ 223 ∷ 221 ∷ 140 ∷ 225 ∷ 83 ∷ 158 ∷ 193 ∷ []) ∷ (16344, 172 ∷ 27 ∷ 88 ∷ 108 ∷ 231 ∷ 245 ∷ 19 ∷ 104 ∷ []) ∷ (8, 19 ∷ 239 ∷ 53 ∷ 45 ∷ []) ∷ []))
    (bytes ((0, 164 ∷ 235 ∷ 97 ∷ 14 ∷ 10 ∷ 81 ∷ 136 ∷ 211 ∷ 216 ∷ 164 ∷ 171 ∷ 92 ∷ 16 ∷ 64 ∷ 146 ∷ 56 ∷ 127 ∷ 85 ∷ 146 ∷ 157 ∷ []) ∷ (28632, 90 ∷ 94 ∷ 223 ∷ 102 ∷ 118 ∷ 91 ∷ 203 ∷ 199 ∷ 252 ∷ 244 ∷ 93 ∷ 6 ∷ 134 ∷ 122 ∷ 167 ∷ 240 ∷ 56 ∷ 91 ∷ 135 ∷ 181 ∷ 159 ∷ 80 ∷ 196 ∷ 83 ∷ 3 ∷ 40 ∷ 163 ∷ 75 ∷ 213 ∷ 64 ∷ 244 ∷ 17 ∷ 113 ∷ 245 ∷ 178 ∷ 146 ∷ 24 ∷ 227 ∷ 255 ∷ 242 ∷ []) ∷ (4056, 139 ∷ 157 ∷ 53 ∷ 161 ∷ 158 ∷ 43 ∷ 233 ∷ 162 ∷ 149 ∷ 100 ∷ 252 ∷ 214 ∷ 68 ∷ 178 ∷ 187 ∷ 32 ∷ 74 ∷ 141 ∷ 117 ∷ 60 ∷ []) ∷ []))

agrees : RunAgrees first entries last
unfolding first entries last access sound fresh_card read_dword write_dword
agrees = refl
