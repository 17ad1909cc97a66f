-- Written by the independent program, oracle/: a list of accesses with its answers, and what it leaves.
use Rattle.std.specs.Prelude.{refl, true, false, List, [], ◌∷◌}
use Rattle.model.specs.Lanes.{read_dword, write_dword}
use Rattle.model.specs.Transfer.{running}
use Rattle.model.specs.State.{World, sound, fresh_card, fresh_world, with_fifos, with_arbitration, with_mailboxes, with_interrupts, with_transfer}
use Rattle.model.specs.Runs.{Entry}
use Rattle.model.specs.Accesses.{Access, Answer, access}
use Rattle.model.specs.Bench.{q, r, ◌gives◌}
use Rattle.cases.specs.Vectors.{settings, pair, mail, interrupts, request, untouched, world, bytes, RunAgrees}

first : World
first = fresh_world (settings 3221225536 128 32 32) (bytes ((0, 135 ∷ 199 ∷ 143 ∷ 55 ∷ 45 ∷ 233 ∷ 201 ∷ 196 ∷ 88 ∷ 129 ∷ 44 ∷ 152 ∷ 43 ∷ 30 ∷ 91 ∷ 147 ∷ 100 ∷ 197 ∷ 178 ∷ 57 ∷ []) ∷ (16344, 108 ∷ 164 ∷ 42 ∷ 128 ∷ 143 ∷ 106 ∷ 91 ∷ 104 ∷ 5 ∷ 32 ∷ 48 ∷ 8 ∷ 181 ∷ 197 ∷ 173 ∷ 213 ∷ 177 ∷ 25 ∷ 36 ∷ 131 ∷ []) ∷ [])) (bytes ((0, 70 ∷ 32 ∷ 155 ∷ 179 ∷ 80 ∷ 171 ∷ 54 ∷ 213 ∷ 110 ∷ 201 ∷ 54 ∷ 128 ∷ 184 ∷ 142 ∷ 171 ∷ 8 ∷ 85 ∷ 179 ∷ 207 ∷ 13 ∷ 249 ∷ 144 ∷ 145 ∷ 106 ∷ 129 ∷ 103 ∷ 78 ∷ 100 ∷ 71 ∷ 35 ∷ 217 ∷ 151 ∷ 60 ∷ 224 ∷ 53 ∷ 98 ∷ 196 ∷ 54 ∷ 208 ∷ 131 ∷ 81 ∷ 234 ∷ 125 ∷ 68 ∷ 11 ∷ 127 ∷ 66 ∷ 41 ∷ 196 ∷ 74 ∷ 23 ∷ 208 ∷ []) ∷ (56, 253 ∷ 117 ∷ 175 ∷ 86 ∷ 4 ∷ 1 ∷ 106 ∷ 37 ∷ 245 ∷ 175 ∷ 173 ∷ 197 ∷ 21 ∷ 95 ∷ 154 ∷ 71 ∷ 157 ∷ 154 ∷ 179 ∷ 195 ∷ []) ∷ []))

entries : List (Entry Access Answer)
entries =
    q 14 0 0 0 3221225536 0 gives r 7 0 0
    ∷ q 14 0 1 0 3221225536 1 gives r 8 0 0
    ∷ q 14 0 0 0 3221225536 2 gives r 8 0 0
    ∷ q 14 0 1 0 3221225536 3 gives r 8 0 0
    ∷ q 14 0 1 0 3221225536 5 gives r 8 0 0
    ∷ q 14 0 1 0 3221225536 16385 gives r 8 0 0
    ∷ q 14 0 0 0 3221225536 16388 gives r 8 0 0
    ∷ q 14 0 0 0 3221225536 4294967292 gives r 8 0 0
    ∷ q 14 0 1 0 3221225536 4294967295 gives r 8 0 0
    ∷ q 14 1 0 16380 3221225536 8 gives r 9 0 0
    ∷ q 14 1 1 4 3221225536 16384 gives r 9 0 0
    ∷ q 14 1 0 0 4294967292 8 gives r 9 0 0
    ∷ q 14 1 1 1 3221225536 8 gives r 9 0 0
    ∷ q 14 1 0 0 3221225538 8 gives r 9 0 0
    ∷ q 14 1 0 16376 3221225656 8 gives r 0 2 0
    ∷ q 15 0 0 0 0 0 gives r 0 1 1
    ∷ q 15 1 0 0 0 0 gives r 0 2 2
    ∷ q 8 0 4 0 9 0 gives r 3 0 0
    ∷ q 7 0 1 0 0 0 gives r 0 1 0
    ∷ q 4 0 10 3221225536 2271560481 256 gives r 3 0 0
    ∷ q 7 1 1 0 0 0 gives r 0 0 0
    ∷ q 2 0 0 32 2816728564 0 gives r 0 0 0
    ∷ q 4 0 10 4294967292 2271560481 0 gives r 9 0 0
    ∷ q 11 0 0 0 4 0 gives r 3 0 0
    ∷ q 2 0 15 16384 195939070 0 gives r 9 0 0
    ∷ q 6 1 0 0 1790026265 0 gives r 0 1 1
    ∷ q 3 0 12 3221225568 0 0 gives r 0 57404 0
    ∷ q 9 2 0 0 16777221 0 gives r 2 0 0
    ∷ q 15 1 1 0 0 0 gives r 3 0 0
    ∷ q 14 1 0 16376 3221225536 8 gives r 0 2 0
    ∷ q 14 0 2 0 3221225536 8 gives r 4 0 0
    ∷ q 6 0 3 0 9 0 gives r 5 0 0
    ∷ q 14 0 1 0 3221225536 4294967295 gives r 6 0 0
    ∷ q 9 0 0 0 16777242 0 gives r 0 0 0
    ∷ q 15 0 0 0 0 0 gives r 0 1 1
    ∷ q 6 1 255 0 77 0 gives r 4 0 0
    ∷ q 17 1 0 0 0 0 gives r 2 0 0
    ∷ q 1 0 5 16348 0 0 gives r 0 0 0
    ∷ q 3 1 0 3221225664 0 0 gives r 5 0 0
    ∷ q 12 1 0 0 4294967295 0 gives r 0 0 0
    ∷ q 8 0 0 0 0 0 gives r 0 0 0
    ∷ q 15 1 0 0 0 0 gives r 0 2 2
    ∷ q 14 1 1 0 3221225568 16384 gives r 0 4096 0
    ∷ q 15 0 0 0 0 0 gives r 0 1 1
    ∷ q 4 0 13 3221225564 4294967295 0 gives r 0 0 0
    ∷ q 14 0 0 4294967292 0 4 gives r 6 0 0
    ∷ q 4 0 1 3221225660 1195911884 0 gives r 0 0 0
    ∷ q 1 1 3 16352 0 0 gives r 0 0 0
    ∷ q 1 1 16 8 0 0 gives r 4 0 0
    ∷ q 3 0 4 3221225604 0 0 gives r 0 0 0
    ∷ []

last : World
last =
    world
    (with_fifos ((1790026265 ∷ []) ∷ [] ∷ [] ∷ [] ∷ []) (with_arbitration (pair false false ∷ pair true false ∷ pair false false ∷ pair false false ∷ []) (with_mailboxes (mail 26 0 false) (with_interrupts (interrupts 0 32 1003 32) (with_transfer (running (request 1 0 3221225568 16384) 1) (untouched (settings 3221225536 128 32 32)))))))
    (bytes ((0, 135 ∷ 199 ∷ 143 ∷ 55 ∷ 45 ∷ 233 ∷ 201 ∷ 196 ∷ 88 ∷ 129 ∷ 44 ∷ 152 ∷ 43 ∷ 30 ∷ 91 ∷ 147 ∷ 100 ∷ 197 ∷ 178 ∷ 57 ∷ []) ∷ (12, 244 ∷ 221 ∷ 227 ∷ 167 ∷ []) ∷ (16328, 108 ∷ 164 ∷ 42 ∷ 128 ∷ 143 ∷ 106 ∷ 91 ∷ 104 ∷ 5 ∷ 32 ∷ 48 ∷ 8 ∷ 70 ∷ 32 ∷ 155 ∷ 179 ∷ 80 ∷ 171 ∷ 54 ∷ 213 ∷ []) ∷ []))
    (bytes ((0, 70 ∷ 32 ∷ 155 ∷ 179 ∷ 80 ∷ 171 ∷ 54 ∷ 213 ∷ 110 ∷ 201 ∷ 54 ∷ 128 ∷ 184 ∷ 142 ∷ 171 ∷ 8 ∷ 85 ∷ 179 ∷ 207 ∷ 13 ∷ 249 ∷ 144 ∷ 145 ∷ 106 ∷ 129 ∷ 103 ∷ 78 ∷ 100 ∷ 71 ∷ 255 ∷ 217 ∷ 151 ∷ 135 ∷ 199 ∷ 143 ∷ 55 ∷ 196 ∷ 54 ∷ 208 ∷ 131 ∷ 81 ∷ 234 ∷ 125 ∷ 68 ∷ 11 ∷ 127 ∷ 66 ∷ 41 ∷ 196 ∷ 74 ∷ 23 ∷ 208 ∷ []) ∷ (56, 253 ∷ 117 ∷ 175 ∷ 86 ∷ 4 ∷ 1 ∷ 106 ∷ 37 ∷ 245 ∷ 175 ∷ 173 ∷ 197 ∷ 21 ∷ 95 ∷ 154 ∷ 71 ∷ 157 ∷ 42 ∷ 72 ∷ 71 ∷ []) ∷ []))

agrees : RunAgrees first entries last
unfolding first entries last access sound fresh_card read_dword write_dword
agrees = refl
