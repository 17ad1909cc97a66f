-- Written by the independent program, oracle/: a list of accesses with its answers, and what it leaves.
use Rattle.std.specs.Prelude.{refl, List, [], ◌∷◌}
use Rattle.model.specs.Lanes.{read_dword, write_dword}
use Rattle.model.specs.Transfer.{running}
use Rattle.model.specs.State.{World, sound, fresh_card, fresh_world, with_interrupts, with_transfer}
use Rattle.model.specs.Runs.{Entry}
use Rattle.model.specs.Accesses.{Access, Answer, access}
use Rattle.model.specs.Bench.{q, r, ◌gives◌}
use Rattle.cases.specs.Vectors.{settings, interrupts, request, untouched, world, bytes, RunAgrees}

first : World
first = fresh_world (settings 2147483584 64 0 64) (bytes ((0, 80 ∷ 67 ∷ 163 ∷ 129 ∷ 42 ∷ 141 ∷ 25 ∷ 199 ∷ 87 ∷ 245 ∷ 41 ∷ 65 ∷ 233 ∷ 248 ∷ 243 ∷ 62 ∷ 156 ∷ 233 ∷ 183 ∷ 201 ∷ []) ∷ (16344, 45 ∷ 208 ∷ 194 ∷ 116 ∷ 167 ∷ 238 ∷ 220 ∷ 191 ∷ 99 ∷ 232 ∷ 164 ∷ 51 ∷ 144 ∷ 160 ∷ 109 ∷ 236 ∷ 50 ∷ 69 ∷ 136 ∷ 23 ∷ []) ∷ [])) (bytes ((0, 114 ∷ 139 ∷ 240 ∷ 166 ∷ 196 ∷ 137 ∷ 109 ∷ 93 ∷ 65 ∷ 4 ∷ 255 ∷ 255 ∷ 144 ∷ 223 ∷ 66 ∷ 122 ∷ 65 ∷ 211 ∷ 125 ∷ 95 ∷ []) ∷ (24, 109 ∷ 151 ∷ 103 ∷ 152 ∷ 98 ∷ 110 ∷ 102 ∷ 207 ∷ 226 ∷ 108 ∷ 201 ∷ 106 ∷ 225 ∷ 170 ∷ 151 ∷ 142 ∷ 144 ∷ 86 ∷ 103 ∷ 9 ∷ []) ∷ []))

entries : List (Entry Access Answer)
entries =
    q 14 0 0 16 2147483576 12 gives r 0 3 0
    ∷ q 15 0 0 0 0 0 gives r 0 4 0
    ∷ q 11 0 0 0 0 0 gives r 0 512 0
    ∷ q 11 1 0 0 0 0 gives r 0 512 0
    ∷ q 12 0 0 0 16778016 0 gives r 0 0 0
    ∷ q 12 1 0 0 18875168 0 gives r 0 0 0
    ∷ q 14 1 0 64 2147483644 8 gives r 0 2 0
    ∷ q 15 0 0 0 0 0 gives r 0 3 0
    ∷ q 14 0 0 128 2147483648 8 gives r 0 2 0
    ∷ q 15 0 0 0 0 0 gives r 0 4 0
    ∷ q 14 1 0 136 2147483648 4 gives r 0 1 0
    ∷ q 15 0 0 0 0 0 gives r 0 4 0
    ∷ q 14 0 0 140 2147483580 4 gives r 0 1 0
    ∷ q 15 1 0 0 0 0 gives r 0 4 0
    ∷ q 14 0 1 16 2147483576 12 gives r 0 3 0
    ∷ q 15 0 0 0 0 0 gives r 0 4 0
    ∷ q 11 0 0 0 0 0 gives r 0 16777984 0
    ∷ q 11 1 0 0 0 0 gives r 0 18875136 0
    ∷ q 12 0 0 0 16778016 0 gives r 0 0 0
    ∷ q 12 1 0 0 18875168 0 gives r 0 0 0
    ∷ q 14 1 1 64 2147483644 8 gives r 0 2 0
    ∷ q 15 0 0 0 0 0 gives r 0 3 0
    ∷ q 14 0 1 128 2147483648 8 gives r 0 2 0
    ∷ q 15 0 0 0 0 0 gives r 0 4 0
    ∷ q 14 1 1 136 2147483648 4 gives r 0 1 0
    ∷ q 15 0 0 0 0 0 gives r 0 4 0
    ∷ q 14 0 1 140 2147483580 4 gives r 0 1 0
    ∷ q 15 1 0 0 0 0 gives r 0 4 0
    ∷ q 14 0 0 16 2147483584 8 gives r 0 2 0
    ∷ q 15 0 0 0 0 0 gives r 0 3 0
    ∷ q 11 0 0 0 0 0 gives r 0 16777984 0
    ∷ q 11 1 0 0 0 0 gives r 0 18875136 0
    ∷ q 13 0 0 0 0 0 gives r 0 1 0
    ∷ q 13 1 0 0 0 0 gives r 0 1 0
    ∷ q 16 1 0 0 256 0 gives r 3 0 0
    ∷ q 2 0 5 16384 195939070 0 gives r 9 0 0
    ∷ q 14 0 1 0 2147483584 16385 gives r 8 0 0
    ∷ q 6 1 3 2147483648 77 0 gives r 3 0 0
    ∷ q 14 0 0 16360 2147483616 24 gives r 0 6 0
    ∷ q 14 0 0 0 2147483584 4294967295 gives r 6 0 0
    ∷ q 3 0 0 2147483648 0 1 gives r 3 0 0
    ∷ q 4 0 10 2147483590 2271560481 0 gives r 9 0 0
    ∷ q 5 0 2 0 0 0 gives r 5 0 0
    ∷ q 14 1 0 0 4294967292 16388 gives r 6 0 0
    ∷ q 1 255 0 8 0 0 gives r 2 0 0
    ∷ q 11 255 0 0 0 0 gives r 2 0 0
    ∷ q 6 0 0 0 0 1 gives r 3 0 0
    ∷ q 8 1 3 0 0 256 gives r 3 0 0
    ∷ q 3 0 255 2147483644 0 0 gives r 4 0 0
    ∷ q 13 0 0 0 0 16777216 gives r 3 0 0
    ∷ []

last : World
last =
    world
    (with_interrupts (interrupts 256 768 288 768) (with_transfer (running (request 0 16360 2147483616 24) 0) (untouched (settings 2147483584 64 0 64))))
    (bytes ((0, 80 ∷ 67 ∷ 163 ∷ 129 ∷ 42 ∷ 141 ∷ 25 ∷ 199 ∷ 87 ∷ 245 ∷ 41 ∷ 65 ∷ 233 ∷ 248 ∷ 243 ∷ 62 ∷ 156 ∷ 233 ∷ 183 ∷ 201 ∷ []) ∷ (16344, 45 ∷ 208 ∷ 194 ∷ 116 ∷ 167 ∷ 238 ∷ 220 ∷ 191 ∷ 99 ∷ 232 ∷ 164 ∷ 51 ∷ 144 ∷ 160 ∷ 109 ∷ 236 ∷ 50 ∷ 69 ∷ 136 ∷ 23 ∷ []) ∷ []))
    (bytes ((0, 114 ∷ 139 ∷ 240 ∷ 166 ∷ 196 ∷ 137 ∷ 109 ∷ 93 ∷ 65 ∷ 4 ∷ 255 ∷ 255 ∷ 144 ∷ 223 ∷ 66 ∷ 122 ∷ 65 ∷ 211 ∷ 125 ∷ 95 ∷ []) ∷ (24, 109 ∷ 151 ∷ 103 ∷ 152 ∷ 98 ∷ 110 ∷ 102 ∷ 207 ∷ 226 ∷ 108 ∷ 201 ∷ 106 ∷ 225 ∷ 170 ∷ 151 ∷ 142 ∷ 144 ∷ 86 ∷ 103 ∷ 9 ∷ []) ∷ []))

agrees : RunAgrees first entries last
unfolding first entries last access sound fresh_card read_dword write_dword
agrees = refl
