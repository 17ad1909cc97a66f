-- Written by the independent program, oracle/: a list of accesses with its answers, and what it leaves.
use Rattle.std.specs.Prelude.{refl, true, List, [], ◌∷◌}
use Rattle.model.specs.Lanes.{read_dword, write_dword}
use Rattle.model.specs.Transfer.{running}
use Rattle.model.specs.State.{World, sound, fresh_card, with_mailboxes, with_transfer}
use Rattle.model.specs.Runs.{Entry}
use Rattle.model.specs.Accesses.{Access, Answer, access}
use Rattle.model.specs.Bench.{q, r, ◌gives◌}
use Rattle.cases.specs.Vectors.{settings, mail, request, untouched, world, bytes, RunAgrees}

first : World
first =
    world
    (with_mailboxes (mail 0 0 true) (with_transfer (running (request 2 0 4096 8) 1) (untouched (settings 4096 64 24 40))))
    (bytes ((0, 232 ∷ 153 ∷ 4 ∷ 236 ∷ 194 ∷ 136 ∷ 227 ∷ 49 ∷ 133 ∷ 79 ∷ 143 ∷ 169 ∷ 233 ∷ 205 ∷ 112 ∷ 245 ∷ 140 ∷ 132 ∷ 24 ∷ 24 ∷ []) ∷ (16344, 239 ∷ 179 ∷ 8 ∷ 130 ∷ 148 ∷ 210 ∷ 32 ∷ 39 ∷ 56 ∷ 226 ∷ 132 ∷ 146 ∷ 63 ∷ 18 ∷ 116 ∷ 56 ∷ 30 ∷ 168 ∷ 44 ∷ 147 ∷ []) ∷ []))
    (bytes ((0, 69 ∷ 244 ∷ 155 ∷ 80 ∷ 9 ∷ 118 ∷ 173 ∷ 5 ∷ 37 ∷ 182 ∷ 98 ∷ 59 ∷ 14 ∷ 227 ∷ 49 ∷ 62 ∷ 148 ∷ 135 ∷ 75 ∷ 185 ∷ 27 ∷ 226 ∷ 108 ∷ 66 ∷ 204 ∷ 210 ∷ 82 ∷ 123 ∷ 49 ∷ 59 ∷ 184 ∷ 166 ∷ 50 ∷ 147 ∷ 42 ∷ 35 ∷ 237 ∷ 137 ∷ 25 ∷ 215 ∷ 39 ∷ 172 ∷ 221 ∷ 69 ∷ 40 ∷ 85 ∷ 1 ∷ 215 ∷ 1 ∷ 202 ∷ 23 ∷ 149 ∷ 210 ∷ 21 ∷ 245 ∷ 33 ∷ 15 ∷ 194 ∷ 49 ∷ 91 ∷ 158 ∷ 255 ∷ 16 ∷ 66 ∷ []) ∷ []))

entries : List (Entry Access Answer)
entries =
    q 0 0 0 0 0 0 gives r 1 0 0
    ∷ q 1 1 0 8 0 0 gives r 1 0 0
    ∷ q 2 0 5 12 195939070 0 gives r 1 0 0
    ∷ q 3 0 0 4156 0 0 gives r 1 0 0
    ∷ q 4 0 10 4096 2271560481 0 gives r 1 0 0
    ∷ q 5 1 1 0 0 0 gives r 1 0 0
    ∷ q 6 1 3 0 77 0 gives r 1 0 0
    ∷ q 7 0 3 0 0 0 gives r 1 0 0
    ∷ q 8 1 3 0 0 0 gives r 1 0 0
    ∷ q 9 1 0 0 16777221 0 gives r 1 0 0
    ∷ q 10 0 0 0 0 0 gives r 1 0 0
    ∷ q 11 0 0 0 0 0 gives r 1 0 0
    ∷ q 12 0 0 0 524288 0 gives r 1 0 0
    ∷ q 13 0 0 0 0 0 gives r 1 0 0
    ∷ q 14 0 0 0 4096 8 gives r 1 0 0
    ∷ q 15 0 0 0 0 0 gives r 1 0 0
    ∷ q 16 1 0 0 0 0 gives r 1 0 0
    ∷ q 8 1 3 2147483648 0 0 gives r 1 0 0
    ∷ q 12 0 0 0 524288 4294967295 gives r 1 0 0
    ∷ q 2 0 15 16384 195939070 0 gives r 1 0 0
    ∷ q 10 0 0 4294967295 0 0 gives r 1 0 0
    ∷ q 6 1 3 2147483648 77 0 gives r 1 0 0
    ∷ q 2 0 5 7 195939070 0 gives r 1 0 0
    ∷ q 16 1 0 0 0 2147483648 gives r 1 0 0
    ∷ q 0 0 4 0 0 0 gives r 1 0 0
    ∷ q 2 0 255 12 195939070 0 gives r 1 0 0
    ∷ q 0 0 0 0 0 4 gives r 1 0 0
    ∷ q 7 0 3 0 0 256 gives r 1 0 0
    ∷ q 14 0 0 0 4294967292 8 gives r 1 0 0
    ∷ q 15 0 0 256 0 0 gives r 1 0 0
    ∷ q 14 0 1 0 4096 4294967292 gives r 1 0 0
    ∷ q 14 0 1 0 4096 1 gives r 1 0 0
    ∷ q 7 2 3 0 0 0 gives r 1 0 0
    ∷ q 13 0 0 0 0 16777216 gives r 1 0 0
    ∷ q 4 255 10 4096 2271560481 0 gives r 1 0 0
    ∷ q 255 2 0 0 0 0 gives r 1 0 0
    ∷ q 14 0 1 0 4096 16388 gives r 1 0 0
    ∷ q 5 1 1 4294967295 0 0 gives r 1 0 0
    ∷ q 14 0 0 1 0 0 gives r 1 0 0
    ∷ q 14 0 255 0 4096 8 gives r 1 0 0
    ∷ q 2 0 255 12 195939070 0 gives r 1 0 0
    ∷ q 1 1 0 8 0 16777216 gives r 1 0 0
    ∷ q 1 1 9 4 0 0 gives r 1 0 0
    ∷ q 3 0 10 4116 0 0 gives r 1 0 0
    ∷ q 6 0 2 0 1983799686 0 gives r 1 0 0
    ∷ q 13 0 0 0 0 0 gives r 1 0 0
    ∷ q 6 0 2 0 3347958585 0 gives r 1 0 0
    ∷ q 6 0 1 0 2048 0 gives r 1 0 0
    ∷ q 15 1 0 0 0 0 gives r 1 0 0
    ∷ q 5 0 3 0 0 0 gives r 1 0 0
    ∷ []

last : World
last =
    world
    (with_mailboxes (mail 0 0 true) (with_transfer (running (request 2 0 4096 8) 1) (untouched (settings 4096 64 24 40))))
    (bytes ((0, 232 ∷ 153 ∷ 4 ∷ 236 ∷ 194 ∷ 136 ∷ 227 ∷ 49 ∷ 133 ∷ 79 ∷ 143 ∷ 169 ∷ 233 ∷ 205 ∷ 112 ∷ 245 ∷ 140 ∷ 132 ∷ 24 ∷ 24 ∷ []) ∷ (16344, 239 ∷ 179 ∷ 8 ∷ 130 ∷ 148 ∷ 210 ∷ 32 ∷ 39 ∷ 56 ∷ 226 ∷ 132 ∷ 146 ∷ 63 ∷ 18 ∷ 116 ∷ 56 ∷ 30 ∷ 168 ∷ 44 ∷ 147 ∷ []) ∷ []))
    (bytes ((0, 69 ∷ 244 ∷ 155 ∷ 80 ∷ 9 ∷ 118 ∷ 173 ∷ 5 ∷ 37 ∷ 182 ∷ 98 ∷ 59 ∷ 14 ∷ 227 ∷ 49 ∷ 62 ∷ 148 ∷ 135 ∷ 75 ∷ 185 ∷ 27 ∷ 226 ∷ 108 ∷ 66 ∷ 204 ∷ 210 ∷ 82 ∷ 123 ∷ 49 ∷ 59 ∷ 184 ∷ 166 ∷ 50 ∷ 147 ∷ 42 ∷ 35 ∷ 237 ∷ 137 ∷ 25 ∷ 215 ∷ 39 ∷ 172 ∷ 221 ∷ 69 ∷ 40 ∷ 85 ∷ 1 ∷ 215 ∷ 1 ∷ 202 ∷ 23 ∷ 149 ∷ 210 ∷ 21 ∷ 245 ∷ 33 ∷ 15 ∷ 194 ∷ 49 ∷ 91 ∷ 158 ∷ 255 ∷ 16 ∷ 66 ∷ []) ∷ []))

agrees : RunAgrees first entries last
unfolding first entries last access sound fresh_card read_dword write_dword
agrees = refl
