-- Written by the independent program, oracle/: a list of accesses with its answers, and what it leaves.
use Rattle.std.specs.Prelude.{refl, List, [], ◌∷◌}
use Rattle.model.specs.Lanes.{read_dword, write_dword}
use Rattle.model.specs.State.{World, sound, fresh_card, fresh_world, with_interrupts}
use Rattle.model.specs.Runs.{Entry}
use Rattle.model.specs.Accesses.{Access, Answer, access}
use Rattle.model.specs.Bench.{q, r, ◌gives◌}
use Rattle.cases.specs.Vectors.{settings, interrupts, untouched, world, bytes, RunAgrees}

first : World
first = fresh_world (settings 4096 64 24 40) (bytes ((0, 110 ∷ 228 ∷ 219 ∷ 125 ∷ 101 ∷ 150 ∷ 235 ∷ 114 ∷ 46 ∷ 137 ∷ 203 ∷ 178 ∷ 139 ∷ 174 ∷ 217 ∷ 203 ∷ 155 ∷ 43 ∷ 194 ∷ 34 ∷ []) ∷ (16344, 93 ∷ 2 ∷ 157 ∷ 33 ∷ 137 ∷ 232 ∷ 144 ∷ 222 ∷ 63 ∷ 169 ∷ 239 ∷ 13 ∷ 84 ∷ 46 ∷ 227 ∷ 221 ∷ 157 ∷ 252 ∷ 214 ∷ 50 ∷ []) ∷ [])) (bytes ((0, 190 ∷ 250 ∷ 0 ∷ 66 ∷ 138 ∷ 112 ∷ 169 ∷ 13 ∷ 85 ∷ 48 ∷ 47 ∷ 94 ∷ 187 ∷ 98 ∷ 171 ∷ 43 ∷ 95 ∷ 62 ∷ 1 ∷ 8 ∷ 242 ∷ 33 ∷ 136 ∷ 230 ∷ 41 ∷ 12 ∷ 198 ∷ 48 ∷ 222 ∷ 244 ∷ 51 ∷ 82 ∷ 184 ∷ 95 ∷ 15 ∷ 176 ∷ 92 ∷ 200 ∷ 15 ∷ 188 ∷ 212 ∷ 162 ∷ 232 ∷ 33 ∷ 59 ∷ 29 ∷ 126 ∷ 62 ∷ 34 ∷ 59 ∷ 169 ∷ 43 ∷ 13 ∷ 99 ∷ 9 ∷ 170 ∷ 214 ∷ 68 ∷ 225 ∷ 192 ∷ 149 ∷ 78 ∷ 215 ∷ 25 ∷ []) ∷ []))

entries : List (Entry Access Answer)
entries =
    q 5 0 0 0 0 0 gives r 0 4294967295 0
    ∷ q 12 0 0 0 12779520 0 gives r 0 0 0
    ∷ q 6 1 0 0 4294967295 0 gives r 0 1 1
    ∷ q 11 0 0 0 0 0 gives r 0 12779520 0
    ∷ q 11 1 0 0 0 0 gives r 0 0 0
    ∷ q 6 1 0 0 0 0 gives r 0 2 1
    ∷ q 6 1 0 0 621255497 0 gives r 0 3 1
    ∷ q 6 1 0 0 3470142183 0 gives r 0 4 1
    ∷ q 6 1 0 0 3946697920 0 gives r 0 5 1
    ∷ q 6 1 0 0 932763225 0 gives r 0 6 1
    ∷ q 6 1 0 0 1951177537 0 gives r 0 7 1
    ∷ q 6 1 0 0 3977974282 0 gives r 0 8 1
    ∷ q 6 1 0 0 119257419 0 gives r 0 9 1
    ∷ q 6 1 0 0 310277623 0 gives r 0 10 1
    ∷ q 6 1 0 0 2284030546 0 gives r 0 11 1
    ∷ q 6 1 0 0 3174479088 0 gives r 0 12 1
    ∷ q 6 1 0 0 363202087 0 gives r 0 13 1
    ∷ q 6 1 0 0 2399860391 0 gives r 0 14 1
    ∷ q 6 1 0 0 75073149 0 gives r 0 15 1
    ∷ q 6 1 0 0 2598952294 0 gives r 0 16 1
    ∷ q 6 1 0 0 3875379114 0 gives r 0 17 1
    ∷ q 6 1 0 0 3608924791 0 gives r 0 18 1
    ∷ q 6 1 0 0 2202224122 0 gives r 0 19 1
    ∷ q 6 1 0 0 3944316093 0 gives r 0 20 1
    ∷ q 6 1 0 0 3355431312 0 gives r 0 21 1
    ∷ q 6 1 0 0 4035446184 0 gives r 0 22 1
    ∷ q 6 1 0 0 2929073278 0 gives r 0 23 1
    ∷ q 6 1 0 0 2863265216 0 gives r 0 24 1
    ∷ q 6 1 0 0 948722894 0 gives r 0 25 1
    ∷ q 6 1 0 0 239591827 0 gives r 0 26 1
    ∷ q 6 1 0 0 516075593 0 gives r 0 27 1
    ∷ q 6 1 0 0 1268544934 0 gives r 0 28 1
    ∷ q 6 1 0 0 4185898382 0 gives r 0 29 1
    ∷ q 6 1 0 0 3511261683 0 gives r 0 30 1
    ∷ q 6 1 0 0 1575702255 0 gives r 0 31 1
    ∷ q 6 1 0 0 1974810914 0 gives r 0 32 1
    ∷ q 13 0 0 0 0 0 gives r 0 0 0
    ∷ q 6 1 0 0 4321 0 gives r 0 32 0
    ∷ q 11 0 0 0 0 0 gives r 0 12779521 0
    ∷ q 11 1 0 0 0 0 gives r 0 1 0
    ∷ q 6 1 0 0 4322 0 gives r 0 32 0
    ∷ q 5 1 0 0 0 0 gives r 5 0 0
    ∷ q 6 0 0 0 1 0 gives r 5 0 0
    ∷ q 12 0 0 0 12583107 0 gives r 0 0 0
    ∷ q 13 0 0 0 0 0 gives r 0 0 0
    ∷ q 13 1 0 0 0 0 gives r 0 0 0
    ∷ q 5 0 0 0 0 0 gives r 0 4294967295 32
    ∷ q 5 0 0 0 0 0 gives r 0 0 31
    ∷ q 5 0 0 0 0 0 gives r 0 621255497 30
    ∷ q 5 0 0 0 0 0 gives r 0 3470142183 29
    ∷ q 5 0 0 0 0 0 gives r 0 3946697920 28
    ∷ q 5 0 0 0 0 0 gives r 0 932763225 27
    ∷ q 5 0 0 0 0 0 gives r 0 1951177537 26
    ∷ q 5 0 0 0 0 0 gives r 0 3977974282 25
    ∷ q 5 0 0 0 0 0 gives r 0 119257419 24
    ∷ q 5 0 0 0 0 0 gives r 0 310277623 23
    ∷ q 5 0 0 0 0 0 gives r 0 2284030546 22
    ∷ q 5 0 0 0 0 0 gives r 0 3174479088 21
    ∷ q 5 0 0 0 0 0 gives r 0 363202087 20
    ∷ q 5 0 0 0 0 0 gives r 0 2399860391 19
    ∷ q 5 0 0 0 0 0 gives r 0 75073149 18
    ∷ q 5 0 0 0 0 0 gives r 0 2598952294 17
    ∷ q 5 0 0 0 0 0 gives r 0 3875379114 16
    ∷ q 5 0 0 0 0 0 gives r 0 3608924791 15
    ∷ q 5 0 0 0 0 0 gives r 0 2202224122 14
    ∷ q 5 0 0 0 0 0 gives r 0 3944316093 13
    ∷ q 5 0 0 0 0 0 gives r 0 3355431312 12
    ∷ q 5 0 0 0 0 0 gives r 0 4035446184 11
    ∷ q 5 0 0 0 0 0 gives r 0 2929073278 10
    ∷ q 5 0 0 0 0 0 gives r 0 2863265216 9
    ∷ q 5 0 0 0 0 0 gives r 0 948722894 8
    ∷ q 5 0 0 0 0 0 gives r 0 239591827 7
    ∷ q 5 0 0 0 0 0 gives r 0 516075593 6
    ∷ q 5 0 0 0 0 0 gives r 0 1268544934 5
    ∷ q 5 0 0 0 0 0 gives r 0 4185898382 4
    ∷ q 5 0 0 0 0 0 gives r 0 3511261683 3
    ∷ q 5 0 0 0 0 0 gives r 0 1575702255 2
    ∷ q 5 0 0 0 0 0 gives r 0 1974810914 1
    ∷ q 11 0 0 0 0 0 gives r 0 12582912 0
    ∷ q 11 1 0 0 0 0 gives r 0 1 0
    ∷ q 5 0 0 0 0 0 gives r 0 4294967295 0
    ∷ []

last : World
last =
    world
    (with_interrupts (interrupts 192 0 0 1) (untouched (settings 4096 64 24 40)))
    (bytes ((0, 110 ∷ 228 ∷ 219 ∷ 125 ∷ 101 ∷ 150 ∷ 235 ∷ 114 ∷ 46 ∷ 137 ∷ 203 ∷ 178 ∷ 139 ∷ 174 ∷ 217 ∷ 203 ∷ 155 ∷ 43 ∷ 194 ∷ 34 ∷ []) ∷ (16344, 93 ∷ 2 ∷ 157 ∷ 33 ∷ 137 ∷ 232 ∷ 144 ∷ 222 ∷ 63 ∷ 169 ∷ 239 ∷ 13 ∷ 84 ∷ 46 ∷ 227 ∷ 221 ∷ 157 ∷ 252 ∷ 214 ∷ 50 ∷ []) ∷ []))
    (bytes ((0, 190 ∷ 250 ∷ 0 ∷ 66 ∷ 138 ∷ 112 ∷ 169 ∷ 13 ∷ 85 ∷ 48 ∷ 47 ∷ 94 ∷ 187 ∷ 98 ∷ 171 ∷ 43 ∷ 95 ∷ 62 ∷ 1 ∷ 8 ∷ 242 ∷ 33 ∷ 136 ∷ 230 ∷ 41 ∷ 12 ∷ 198 ∷ 48 ∷ 222 ∷ 244 ∷ 51 ∷ 82 ∷ 184 ∷ 95 ∷ 15 ∷ 176 ∷ 92 ∷ 200 ∷ 15 ∷ 188 ∷ 212 ∷ 162 ∷ 232 ∷ 33 ∷ 59 ∷ 29 ∷ 126 ∷ 62 ∷ 34 ∷ 59 ∷ 169 ∷ 43 ∷ 13 ∷ 99 ∷ 9 ∷ 170 ∷ 214 ∷ 68 ∷ 225 ∷ 192 ∷ 149 ∷ 78 ∷ 215 ∷ 25 ∷ []) ∷ []))

agrees : RunAgrees first entries last
unfolding first entries last access sound fresh_card read_dword write_dword
agrees = refl
