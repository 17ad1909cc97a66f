-- Written by the independent program, oracle/: a list of accesses with its answers, and what it leaves.
use Rattle.std.specs.Prelude.{refl, List, [], ◌∷◌}
use Rattle.model.specs.Lanes.{read_dword, write_dword}
use Rattle.model.specs.State.{World, sound, fresh_card, fresh_world}
use Rattle.model.specs.Runs.{Entry}
use Rattle.model.specs.Accesses.{Access, Answer, access}
use Rattle.model.specs.Bench.{q, r, ◌gives◌}
use Rattle.cases.specs.Vectors.{settings, untouched, world, bytes, RunAgrees}

first : World
first = fresh_world (settings 4096 64 24 40) (bytes ((0, 128 ∷ 100 ∷ 84 ∷ 57 ∷ 4 ∷ 20 ∷ 8 ∷ 167 ∷ 6 ∷ 181 ∷ 65 ∷ 20 ∷ 104 ∷ 130 ∷ 205 ∷ 9 ∷ 252 ∷ 108 ∷ 42 ∷ 14 ∷ []) ∷ (16344, 181 ∷ 30 ∷ 87 ∷ 224 ∷ 104 ∷ 123 ∷ 127 ∷ 212 ∷ 34 ∷ 243 ∷ 170 ∷ 96 ∷ 65 ∷ 149 ∷ 224 ∷ 132 ∷ 131 ∷ 243 ∷ 32 ∷ 194 ∷ []) ∷ [])) (bytes ((0, 194 ∷ 103 ∷ 68 ∷ 3 ∷ 82 ∷ 45 ∷ 158 ∷ 53 ∷ 90 ∷ 58 ∷ 220 ∷ 241 ∷ 88 ∷ 38 ∷ 43 ∷ 117 ∷ 250 ∷ 246 ∷ 11 ∷ 241 ∷ 198 ∷ 238 ∷ 9 ∷ 213 ∷ 97 ∷ 98 ∷ 199 ∷ 87 ∷ 244 ∷ 226 ∷ 48 ∷ 28 ∷ 163 ∷ 229 ∷ 195 ∷ 49 ∷ 62 ∷ 169 ∷ 17 ∷ 188 ∷ 235 ∷ 20 ∷ 53 ∷ 207 ∷ 10 ∷ 7 ∷ 193 ∷ 147 ∷ 31 ∷ 78 ∷ 16 ∷ 1 ∷ 88 ∷ 251 ∷ 99 ∷ 10 ∷ 35 ∷ 120 ∷ 80 ∷ 184 ∷ 75 ∷ 143 ∷ 174 ∷ 217 ∷ []) ∷ []))

entries : List (Entry Access Answer)
entries =
    q 2 0 0 4 3194071153 0 gives r 0 0 0
    ∷ q 1 0 6 4 0 0 gives r 0 3187671153 0
    ∷ q 4 0 0 4100 1812721489 0 gives r 0 0 0
    ∷ q 3 0 9 4100 0 0 gives r 0 782080 0
    ∷ q 2 1 1 8 164603341 0 gives r 0 0 0
    ∷ q 1 0 7 8 0 0 gives r 0 150994944 0
    ∷ q 4 0 1 4148 2294464701 0 gives r 0 0 0
    ∷ q 3 0 8 4148 0 0 gives r 0 12763224 0
    ∷ q 2 0 2 12 1880362523 0 gives r 0 0 0
    ∷ q 1 0 4 12 0 0 gives r 0 1879081499 0
    ∷ q 4 0 2 4140 625489212 0 gives r 0 0 0
    ∷ q 3 0 11 4140 0 0 gives r 0 4718592 0
    ∷ q 2 1 3 0 1929677962 0 gives r 0 0 0
    ∷ q 1 0 5 0 0 0 gives r 0 1929405440 0
    ∷ q 4 0 3 4152 3845668422 0 gives r 0 0 0
    ∷ q 3 0 10 4152 0 0 gives r 0 3670051 0
    ∷ q 2 0 4 4 241127773 0 gives r 0 0 0
    ∷ q 1 0 2 4 0 0 gives r 0 241238109 0
    ∷ q 4 0 4 4156 2043806640 0 gives r 0 0 0
    ∷ q 3 0 13 4156 0 0 gives r 0 768 0
    ∷ q 2 1 5 12 3985673432 0 gives r 0 0 0
    ∷ q 1 0 3 12 0 0 gives r 0 3977510912 0
    ∷ q 4 0 5 4120 1244878262 0 gives r 0 0 0
    ∷ q 3 0 12 4120 0 0 gives r 0 21857 0
    ∷ q 2 0 6 4 3931036379 0 gives r 0 0 0
    ∷ q 1 0 0 4 0 0 gives r 0 3932246491 0
    ∷ q 4 0 6 4096 2980207728 0 gives r 0 0 0
    ∷ q 3 0 15 4096 0 0 gives r 0 0 0
    ∷ q 2 1 7 0 13413247 0 gives r 0 0 0
    ∷ q 1 0 1 0 0 0 gives r 0 287744 0
    ∷ q 4 0 7 4156 2761117654 0 gives r 0 0 0
    ∷ q 3 0 14 4156 0 0 gives r 0 176 0
    ∷ q 2 0 8 4 2184130723 0 gives r 0 0 0
    ∷ q 1 0 14 4 0 0 gives r 0 163 0
    ∷ q 4 0 8 4108 1068756068 0 gives r 0 0 0
    ∷ q 3 0 1 4108 0 0 gives r 0 1974725632 0
    ∷ q 2 1 9 8 106084960 0 gives r 0 0 0
    ∷ q 1 0 15 8 0 0 gives r 0 0 0
    ∷ q 4 0 9 4124 801331004 0 gives r 0 0 0
    ∷ q 3 0 0 4124 0 0 gives r 0 482564084 0
    ∷ q 2 0 10 12 193508960 0 gives r 0 0 0
    ∷ q 1 0 12 12 0 0 gives r 0 35936 0
    ∷ q 4 0 10 4100 1112581917 0 gives r 0 0 0
    ∷ q 3 0 3 4100 0 0 gives r 0 1817182208 0
    ∷ q 2 1 11 0 2962857634 0 gives r 0 0 0
    ∷ q 1 0 13 0 0 0 gives r 0 25600 0
    ∷ q 4 0 11 4136 2038749225 0 gives r 0 0 0
    ∷ q 3 0 2 4136 0 0 gives r 0 3481534699 0
    ∷ q 2 0 12 12 3950015289 0 gives r 0 0 0
    ∷ q 1 0 10 12 0 0 gives r 0 8912953 0
    ∷ q 4 0 12 4136 519532517 0 gives r 0 0 0
    ∷ q 3 0 5 4136 0 0 gives r 0 3472912128 0
    ∷ q 2 1 13 4 2037765967 0 gives r 0 0 0
    ∷ q 1 0 11 4 0 0 gives r 0 3080192 0
    ∷ q 4 0 13 4136 3838957329 0 gives r 0 0 0
    ∷ q 3 0 4 4136 0 0 gives r 0 3472938981 0
    ∷ q 2 0 14 4 766667688 0 gives r 0 0 0
    ∷ q 1 0 8 4 0 0 gives r 0 3135400 0
    ∷ q 4 0 14 4112 3563575306 0 gives r 0 0 0
    ∷ q 3 0 7 4112 0 0 gives r 0 4043309056 0
    ∷ q 2 1 15 4 179668062 0 gives r 0 0 0
    ∷ q 1 0 9 4 0 0 gives r 0 3135232 0
    ∷ q 4 0 15 4128 1524231536 0 gives r 0 0 0
    ∷ q 3 0 6 4128 0 0 gives r 0 822083747 0
    ∷ q 9 1 255 0 16777221 0 gives r 3 0 0
    ∷ q 18 0 0 0 0 0 gives r 2 0 0
    ∷ q 4 1 10 4096 2271560481 1 gives r 3 0 0
    ∷ q 1 1 0 5 0 0 gives r 9 0 0
    ∷ q 14 0 0 0 4294950916 16384 gives r 9 0 0
    ∷ q 4 0 255 4096 2271560481 0 gives r 4 0 0
    ∷ q 7 255 3 0 0 0 gives r 2 0 0
    ∷ q 12 2 0 0 524288 0 gives r 2 0 0
    ∷ q 3 0 0 4101 0 0 gives r 9 0 0
    ∷ q 2 2 5 12 195939070 0 gives r 2 0 0
    ∷ q 4 0 10 4092 2271560481 0 gives r 9 0 0
    ∷ q 14 0 1 16380 0 8 gives r 9 0 0
    ∷ q 15 3 0 0 0 0 gives r 2 0 0
    ∷ q 15 2 0 0 0 0 gives r 2 0 0
    ∷ []

last : World
last =
    world
    (untouched (settings 4096 64 24 40))
    (bytes ((0, 128 ∷ 100 ∷ 153 ∷ 0 ∷ 168 ∷ 215 ∷ 47 ∷ 234 ∷ 6 ∷ 186 ∷ 82 ∷ 9 ∷ 57 ∷ 115 ∷ 136 ∷ 237 ∷ 252 ∷ 108 ∷ 42 ∷ 14 ∷ []) ∷ (16344, 181 ∷ 30 ∷ 87 ∷ 224 ∷ 104 ∷ 123 ∷ 127 ∷ 212 ∷ 34 ∷ 243 ∷ 170 ∷ 96 ∷ 65 ∷ 149 ∷ 224 ∷ 132 ∷ 131 ∷ 243 ∷ 32 ∷ 194 ∷ []) ∷ []))
    (bytes ((0, 112 ∷ 103 ∷ 68 ∷ 177 ∷ 29 ∷ 239 ∷ 80 ∷ 108 ∷ 90 ∷ 58 ∷ 220 ∷ 241 ∷ 100 ∷ 236 ∷ 179 ∷ 117 ∷ 10 ∷ 246 ∷ 11 ∷ 241 ∷ 198 ∷ 238 ∷ 9 ∷ 213 ∷ 97 ∷ 85 ∷ 199 ∷ 74 ∷ 244 ∷ 87 ∷ 195 ∷ 28 ∷ 163 ∷ 229 ∷ 195 ∷ 49 ∷ 62 ∷ 169 ∷ 17 ∷ 188 ∷ 229 ∷ 215 ∷ 132 ∷ 207 ∷ 60 ∷ 7 ∷ 72 ∷ 37 ∷ 31 ∷ 78 ∷ 16 ∷ 1 ∷ 88 ∷ 192 ∷ 194 ∷ 136 ∷ 35 ∷ 120 ∷ 56 ∷ 229 ∷ 176 ∷ 3 ∷ 174 ∷ 164 ∷ []) ∷ []))

agrees : RunAgrees first entries last
unfolding first entries last access sound fresh_card read_dword write_dword
agrees = refl
