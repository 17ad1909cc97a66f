-- Written by the independent program, oracle/: a list of accesses with its answers, and what it leaves.
use Rattle.std.specs.Prelude.{refl, true, List, [], ◌∷◌}
use Rattle.model.specs.Lanes.{read_dword, write_dword}
use Rattle.model.specs.State.{World, sound, fresh_card, fresh_world, with_mailboxes}
use Rattle.model.specs.Runs.{Entry}
use Rattle.model.specs.Accesses.{Access, Answer, access}
use Rattle.model.specs.Bench.{q, r, ◌gives◌}
use Rattle.cases.specs.Vectors.{settings, mail, untouched, world, bytes, RunAgrees}

first : World
first = fresh_world (settings 3221225536 128 32 32) (bytes ((0, 158 ∷ 156 ∷ 176 ∷ 137 ∷ 16 ∷ 95 ∷ 244 ∷ 91 ∷ 20 ∷ 111 ∷ 160 ∷ 189 ∷ 112 ∷ 49 ∷ 175 ∷ 149 ∷ 0 ∷ 14 ∷ 226 ∷ 99 ∷ []) ∷ (16344, 216 ∷ 34 ∷ 89 ∷ 102 ∷ 254 ∷ 66 ∷ 14 ∷ 59 ∷ 204 ∷ 173 ∷ 127 ∷ 7 ∷ 31 ∷ 251 ∷ 141 ∷ 112 ∷ 32 ∷ 174 ∷ 26 ∷ 158 ∷ []) ∷ [])) (bytes ((0, 249 ∷ 105 ∷ 0 ∷ 89 ∷ 103 ∷ 68 ∷ 232 ∷ 201 ∷ 47 ∷ 64 ∷ 55 ∷ 189 ∷ 1 ∷ 136 ∷ 232 ∷ 130 ∷ 184 ∷ 147 ∷ 152 ∷ 33 ∷ 235 ∷ 154 ∷ 197 ∷ 242 ∷ 9 ∷ 91 ∷ 117 ∷ 46 ∷ 114 ∷ 71 ∷ 44 ∷ 236 ∷ 230 ∷ 51 ∷ 7 ∷ 225 ∷ 162 ∷ 189 ∷ 0 ∷ 193 ∷ 68 ∷ 62 ∷ 95 ∷ 175 ∷ 248 ∷ 197 ∷ 40 ∷ 184 ∷ 184 ∷ 120 ∷ 70 ∷ 244 ∷ []) ∷ (56, 32 ∷ 230 ∷ 125 ∷ 188 ∷ 87 ∷ 236 ∷ 95 ∷ 75 ∷ 231 ∷ 49 ∷ 223 ∷ 29 ∷ 8 ∷ 51 ∷ 236 ∷ 72 ∷ 184 ∷ 47 ∷ 84 ∷ 128 ∷ []) ∷ []))

entries : List (Entry Access Answer)
entries =
    q 10 0 0 0 0 0 gives r 0 0 0
    ∷ q 10 1 0 0 0 0 gives r 0 0 0
    ∷ q 9 0 0 0 4278124567 0 gives r 0 0 0
    ∷ q 11 1 0 0 0 0 gives r 0 0 0
    ∷ q 10 0 0 0 0 0 gives r 0 0 0
    ∷ q 10 1 0 0 0 0 gives r 0 23 0
    ∷ q 9 1 0 0 4278124567 0 gives r 0 0 0
    ∷ q 11 0 0 0 0 0 gives r 0 0 0
    ∷ q 10 0 0 0 0 0 gives r 0 23 24
    ∷ q 9 1 0 0 0 0 gives r 0 0 0
    ∷ q 10 0 0 0 0 0 gives r 0 0 1
    ∷ q 9 1 0 0 1 0 gives r 0 0 0
    ∷ q 10 0 0 0 0 0 gives r 0 1 7
    ∷ q 9 1 0 0 22 0 gives r 0 0 0
    ∷ q 10 0 0 0 0 0 gives r 0 22 18
    ∷ q 9 1 0 0 24 0 gives r 0 0 0
    ∷ q 10 0 0 0 0 0 gives r 0 24 0
    ∷ q 9 1 0 0 255 0 gives r 0 0 0
    ∷ q 10 0 0 0 0 0 gives r 0 255 0
    ∷ q 9 1 0 0 279 0 gives r 0 0 0
    ∷ q 10 0 0 0 0 0 gives r 0 279 24
    ∷ q 9 1 0 0 280 0 gives r 0 0 0
    ∷ q 10 0 0 0 0 0 gives r 0 280 0
    ∷ q 9 1 0 0 16842496 0 gives r 0 0 0
    ∷ q 10 0 0 0 0 0 gives r 0 65280 1
    ∷ q 10 1 0 0 0 0 gives r 0 23 0
    ∷ q 11 0 0 0 0 0 gives r 0 8 0
    ∷ q 11 1 0 0 0 0 gives r 0 0 0
    ∷ q 9 0 0 0 4294967295 0 gives r 0 0 0
    ∷ q 11 0 0 0 0 0 gives r 0 8 0
    ∷ q 11 1 0 0 0 0 gives r 0 8 0
    ∷ q 9 1 0 0 4294901782 0 gives r 0 0 0
    ∷ q 9 0 0 0 4660 0 gives r 0 0 0
    ∷ q 9 0 0 0 16794401 0 gives r 0 0 0
    ∷ q 10 1 0 0 0 0 gives r 0 17185 0
    ∷ q 0 1 0 0 0 0 gives r 0 0 0
    ∷ q 10 0 0 0 0 0 gives r 0 0 0
    ∷ q 10 1 0 0 0 0 gives r 0 0 0
    ∷ q 9 1 0 0 0 0 gives r 0 0 0
    ∷ q 10 0 0 0 0 0 gives r 0 0 1
    ∷ q 8 255 3 0 0 0 gives r 2 0 0
    ∷ q 6 0 0 0 9 0 gives r 5 0 0
    ∷ q 14 0 0 1 0 0 gives r 7 0 0
    ∷ q 2 1 0 16384 0 1 gives r 3 0 0
    ∷ q 14 0 1 0 3221225536 2 gives r 8 0 0
    ∷ q 16 255 0 0 0 0 gives r 2 0 0
    ∷ q 14 0 1 0 3221225539 4 gives r 9 0 0
    ∷ q 13 0 1 0 0 0 gives r 3 0 0
    ∷ q 14 0 0 0 3221225536 16385 gives r 8 0 0
    ∷ q 2 0 5 5 195939070 0 gives r 9 0 0
    ∷ q 5 1 255 0 0 0 gives r 4 0 0
    ∷ q 3 0 15 3221225664 0 0 gives r 9 0 0
    ∷ q 0 0 0 0 2147483648 0 gives r 3 0 0
    ∷ q 10 0 0 0 1 0 gives r 3 0 0
    ∷ q 3 0 0 3221225660 256 0 gives r 3 0 0
    ∷ []

last : World
last =
    world
    (with_mailboxes (mail 0 0 true) (untouched (settings 3221225536 128 32 32)))
    (bytes ((0, 158 ∷ 156 ∷ 176 ∷ 137 ∷ 16 ∷ 95 ∷ 244 ∷ 91 ∷ 20 ∷ 111 ∷ 160 ∷ 189 ∷ 112 ∷ 49 ∷ 175 ∷ 149 ∷ 0 ∷ 14 ∷ 226 ∷ 99 ∷ []) ∷ (16344, 216 ∷ 34 ∷ 89 ∷ 102 ∷ 254 ∷ 66 ∷ 14 ∷ 59 ∷ 204 ∷ 173 ∷ 127 ∷ 7 ∷ 31 ∷ 251 ∷ 141 ∷ 112 ∷ 32 ∷ 174 ∷ 26 ∷ 158 ∷ []) ∷ []))
    (bytes ((0, 249 ∷ 105 ∷ 0 ∷ 89 ∷ 103 ∷ 68 ∷ 232 ∷ 201 ∷ 47 ∷ 64 ∷ 55 ∷ 189 ∷ 1 ∷ 136 ∷ 232 ∷ 130 ∷ 184 ∷ 147 ∷ 152 ∷ 33 ∷ 235 ∷ 154 ∷ 197 ∷ 242 ∷ 9 ∷ 91 ∷ 117 ∷ 46 ∷ 114 ∷ 71 ∷ 44 ∷ 236 ∷ 230 ∷ 51 ∷ 7 ∷ 225 ∷ 162 ∷ 189 ∷ 0 ∷ 193 ∷ 68 ∷ 62 ∷ 95 ∷ 175 ∷ 248 ∷ 197 ∷ 40 ∷ 184 ∷ 184 ∷ 120 ∷ 70 ∷ 244 ∷ []) ∷ (56, 32 ∷ 230 ∷ 125 ∷ 188 ∷ 87 ∷ 236 ∷ 95 ∷ 75 ∷ 231 ∷ 49 ∷ 223 ∷ 29 ∷ 8 ∷ 51 ∷ 236 ∷ 72 ∷ 184 ∷ 47 ∷ 84 ∷ 128 ∷ []) ∷ []))

agrees : RunAgrees first entries last
unfolding first entries last access sound fresh_card read_dword write_dword
agrees = refl
