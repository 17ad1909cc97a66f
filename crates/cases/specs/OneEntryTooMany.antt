-- Written by the independent program, oracle/: a list of accesses with its answers, and what it leaves.
use Rattle.std.specs.Prelude.{refl, true, false, List, [], ◌∷◌}
use Rattle.model.specs.Lanes.{read_dword, write_dword}
use Rattle.model.specs.State.{World, sound, fresh_card, with_fifos, with_arbitration}
use Rattle.model.specs.Runs.{Entry}
use Rattle.model.specs.Accesses.{Access, Answer, access}
use Rattle.model.specs.Bench.{q, r, ◌gives◌}
use Rattle.cases.specs.Vectors.{settings, pair, untouched, world, bytes, RunAgrees}

first : World
first =
    world
    (with_fifos ([] ∷ [] ∷ (2834192250 ∷ 3093790456 ∷ 3080765449 ∷ 1360849915 ∷ 3842201763 ∷ 2060718600 ∷ 2668725996 ∷ 1245937528 ∷ 350991254 ∷ 2673018649 ∷ 1336186495 ∷ 690055659 ∷ 2539697361 ∷ 3339540131 ∷ 653148101 ∷ 4139649887 ∷ 4252005486 ∷ 2631707464 ∷ 1960168402 ∷ 4262414370 ∷ 1159699424 ∷ 3835864785 ∷ 1252348510 ∷ 4292773576 ∷ 3156503984 ∷ 1588680383 ∷ 3727650255 ∷ 2709590041 ∷ 2665463343 ∷ 1454711031 ∷ 3707256448 ∷ 2808106478 ∷ 855579694 ∷ []) ∷ [] ∷ []) (with_arbitration (pair false true ∷ pair false false ∷ pair false false ∷ pair false false ∷ []) (untouched (settings 4096 64 24 40))))
    (bytes ((0, 200 ∷ 239 ∷ 19 ∷ 172 ∷ 213 ∷ 201 ∷ 72 ∷ 155 ∷ 181 ∷ 255 ∷ 100 ∷ 174 ∷ 141 ∷ 198 ∷ 24 ∷ 43 ∷ 29 ∷ 52 ∷ 217 ∷ 8 ∷ []) ∷ (16344, 225 ∷ 254 ∷ 219 ∷ 154 ∷ 172 ∷ 68 ∷ 211 ∷ 63 ∷ 187 ∷ 34 ∷ 138 ∷ 81 ∷ 151 ∷ 212 ∷ 207 ∷ 75 ∷ 230 ∷ 173 ∷ 167 ∷ 95 ∷ []) ∷ []))
    (bytes ((0, 117 ∷ 30 ∷ 39 ∷ 224 ∷ 97 ∷ 38 ∷ 150 ∷ 250 ∷ 19 ∷ 61 ∷ 109 ∷ 148 ∷ 49 ∷ 208 ∷ 77 ∷ 224 ∷ 17 ∷ 122 ∷ 9 ∷ 235 ∷ 101 ∷ 200 ∷ 211 ∷ 202 ∷ 204 ∷ 138 ∷ 208 ∷ 228 ∷ 25 ∷ 233 ∷ 157 ∷ 209 ∷ 14 ∷ 212 ∷ 139 ∷ 204 ∷ 7 ∷ 48 ∷ 199 ∷ 45 ∷ 31 ∷ 137 ∷ 108 ∷ 22 ∷ 150 ∷ 117 ∷ 100 ∷ 250 ∷ 14 ∷ 32 ∷ 203 ∷ 26 ∷ 99 ∷ 234 ∷ 176 ∷ 169 ∷ 178 ∷ 2 ∷ 29 ∷ 13 ∷ 214 ∷ 114 ∷ 12 ∷ 191 ∷ []) ∷ []))

entries : List (Entry Access Answer)
entries =
    q 0 0 0 0 0 0 gives r 1 0 0
    ∷ q 1 1 0 8 0 0 gives r 1 0 0
    ∷ q 2 0 5 12 195939070 0 gives r 1 0 0
    ∷ q 3 0 0 4156 0 0 gives r 1 0 0
    ∷ q 4 0 10 4096 2271560481 0 gives r 1 0 0
    ∷ q 5 1 1 0 0 0 gives r 1 0 0
    ∷ q 6 1 3 0 77 0 gives r 1 0 0
    ∷ q 7 0 3 0 0 0 gives r 1 0 0
    ∷ q 8 1 3 0 0 0 gives r 1 0 0
    ∷ q 9 1 0 0 16777221 0 gives r 1 0 0
    ∷ q 10 0 0 0 0 0 gives r 1 0 0
    ∷ q 11 0 0 0 0 0 gives r 1 0 0
    ∷ q 12 0 0 0 524288 0 gives r 1 0 0
    ∷ q 13 0 0 0 0 0 gives r 1 0 0
    ∷ q 14 0 0 0 4096 8 gives r 1 0 0
    ∷ q 15 0 0 0 0 0 gives r 1 0 0
    ∷ q 16 1 0 0 0 0 gives r 1 0 0
    ∷ q 2 0 5 16384 195939070 0 gives r 1 0 0
    ∷ q 5 255 1 0 0 0 gives r 1 0 0
    ∷ q 14 0 1 16380 0 8 gives r 1 0 0
    ∷ q 9 1 0 0 16777221 4 gives r 1 0 0
    ∷ q 16 1 0 0 256 0 gives r 1 0 0
    ∷ q 3 1 16 4156 0 0 gives r 1 0 0
    ∷ q 0 2 0 0 0 0 gives r 1 0 0
    ∷ q 3 1 16 4156 0 0 gives r 1 0 0
    ∷ q 3 0 255 4156 0 0 gives r 1 0 0
    ∷ q 1 1 15 16384 0 0 gives r 1 0 0
    ∷ q 11 0 255 0 0 0 gives r 1 0 0
    ∷ q 10 0 0 4 0 0 gives r 1 0 0
    ∷ q 4 7 16 4160 1 1 gives r 1 0 0
    ∷ q 14 0 1 4294967292 0 4 gives r 1 0 0
    ∷ q 3 0 16 4156 0 1 gives r 1 0 0
    ∷ q 0 2 0 0 0 0 gives r 1 0 0
    ∷ q 3 2 0 4160 0 0 gives r 1 0 0
    ∷ q 4 0 10 4092 2271560481 0 gives r 1 0 0
    ∷ q 16 0 0 0 0 0 gives r 1 0 0
    ∷ q 3 0 0 4101 0 0 gives r 1 0 0
    ∷ q 4 0 10 4294967292 2271560481 0 gives r 1 0 0
    ∷ q 3 255 0 4156 0 0 gives r 1 0 0
    ∷ q 8 255 3 0 0 0 gives r 1 0 0
    ∷ q 1 1 15 16384 0 0 gives r 1 0 0
    ∷ q 2 0 16 12 195939070 0 gives r 1 0 0
    ∷ q 5 1 2 0 0 0 gives r 1 0 0
    ∷ q 7 0 3 0 0 0 gives r 1 0 0
    ∷ q 6 0 2 0 3733441754 0 gives r 1 0 0
    ∷ q 12 0 0 0 240058368 0 gives r 1 0 0
    ∷ q 15 0 0 0 0 0 gives r 1 0 0
    ∷ q 7 1 0 0 0 0 gives r 1 0 0
    ∷ q 8 0 2 0 0 0 gives r 1 0 0
    ∷ q 5 1 1 0 0 0 gives r 1 0 0
    ∷ []

last : World
last =
    world
    (with_fifos ([] ∷ [] ∷ (2834192250 ∷ 3093790456 ∷ 3080765449 ∷ 1360849915 ∷ 3842201763 ∷ 2060718600 ∷ 2668725996 ∷ 1245937528 ∷ 350991254 ∷ 2673018649 ∷ 1336186495 ∷ 690055659 ∷ 2539697361 ∷ 3339540131 ∷ 653148101 ∷ 4139649887 ∷ 4252005486 ∷ 2631707464 ∷ 1960168402 ∷ 4262414370 ∷ 1159699424 ∷ 3835864785 ∷ 1252348510 ∷ 4292773576 ∷ 3156503984 ∷ 1588680383 ∷ 3727650255 ∷ 2709590041 ∷ 2665463343 ∷ 1454711031 ∷ 3707256448 ∷ 2808106478 ∷ 855579694 ∷ []) ∷ [] ∷ []) (with_arbitration (pair false true ∷ pair false false ∷ pair false false ∷ pair false false ∷ []) (untouched (settings 4096 64 24 40))))
    (bytes ((0, 200 ∷ 239 ∷ 19 ∷ 172 ∷ 213 ∷ 201 ∷ 72 ∷ 155 ∷ 181 ∷ 255 ∷ 100 ∷ 174 ∷ 141 ∷ 198 ∷ 24 ∷ 43 ∷ 29 ∷ 52 ∷ 217 ∷ 8 ∷ []) ∷ (16344, 225 ∷ 254 ∷ 219 ∷ 154 ∷ 172 ∷ 68 ∷ 211 ∷ 63 ∷ 187 ∷ 34 ∷ 138 ∷ 81 ∷ 151 ∷ 212 ∷ 207 ∷ 75 ∷ 230 ∷ 173 ∷ 167 ∷ 95 ∷ []) ∷ []))
    (bytes ((0, 117 ∷ 30 ∷ 39 ∷ 224 ∷ 97 ∷ 38 ∷ 150 ∷ 250 ∷ 19 ∷ 61 ∷ 109 ∷ 148 ∷ 49 ∷ 208 ∷ 77 ∷ 224 ∷ 17 ∷ 122 ∷ 9 ∷ 235 ∷ 101 ∷ 200 ∷ 211 ∷ 202 ∷ 204 ∷ 138 ∷ 208 ∷ 228 ∷ 25 ∷ 233 ∷ 157 ∷ 209 ∷ 14 ∷ 212 ∷ 139 ∷ 204 ∷ 7 ∷ 48 ∷ 199 ∷ 45 ∷ 31 ∷ 137 ∷ 108 ∷ 22 ∷ 150 ∷ 117 ∷ 100 ∷ 250 ∷ 14 ∷ 32 ∷ 203 ∷ 26 ∷ 99 ∷ 234 ∷ 176 ∷ 169 ∷ 178 ∷ 2 ∷ 29 ∷ 13 ∷ 214 ∷ 114 ∷ 12 ∷ 191 ∷ []) ∷ []))

agrees : RunAgrees first entries last
unfolding first entries last access sound fresh_card read_dword write_dword
agrees = refl
