-- Written by the independent program, oracle/: a list of direct and register accesses and bursts with its answers, and what it leaves.
use Rattle.std.specs.Prelude.{refl, List, [], ◌∷◌}
use Rattle.model.specs.Lanes.{read_dword, write_dword}
use Rattle.model.specs.State.{World, sound, fresh_card, fresh_world}
use Rattle.model.specs.Accesses.{access}
use Rattle.model.specs.Registers.{register_access}
use Rattle.model.specs.Pins.{decode}
use Rattle.model.specs.Bursts.{burst}
use Rattle.model.specs.Bench.{r, d, p, bw, br, ◌gets◌, ◌gets◌leaving◌, CallCase}
use Rattle.cases.specs.Vectors.{settings, untouched, world, bytes, CallsAgree}

first : World
first = fresh_world (settings 4096 64 24 40) (bytes ((0, 254 ∷ 219 ∷ 154 ∷ 39 ∷ 133 ∷ 195 ∷ 44 ∷ 42 ∷ 3 ∷ 126 ∷ 166 ∷ 74 ∷ 223 ∷ 157 ∷ 59 ∷ 248 ∷ 125 ∷ 54 ∷ 232 ∷ 194 ∷ []) ∷ (16344, 211 ∷ 181 ∷ 0 ∷ 183 ∷ 86 ∷ 187 ∷ 175 ∷ 10 ∷ 33 ∷ 22 ∷ 255 ∷ 93 ∷ 250 ∷ 147 ∷ 183 ∷ 141 ∷ 54 ∷ 232 ∷ 141 ∷ 116 ∷ []) ∷ [])) (bytes ((0, 173 ∷ 234 ∷ 183 ∷ 123 ∷ 22 ∷ 251 ∷ 178 ∷ 129 ∷ 12 ∷ 151 ∷ 193 ∷ 65 ∷ 142 ∷ 253 ∷ 177 ∷ 141 ∷ 26 ∷ 118 ∷ 134 ∷ 10 ∷ 136 ∷ 144 ∷ 81 ∷ 175 ∷ 50 ∷ 173 ∷ 146 ∷ 35 ∷ 93 ∷ 111 ∷ 158 ∷ 199 ∷ 12 ∷ 134 ∷ 137 ∷ 118 ∷ 64 ∷ 65 ∷ 89 ∷ 66 ∷ 250 ∷ 187 ∷ 64 ∷ 41 ∷ 78 ∷ 137 ∷ 156 ∷ 97 ∷ 184 ∷ 103 ∷ 80 ∷ 26 ∷ 165 ∷ 140 ∷ 73 ∷ 182 ∷ 232 ∷ 12 ∷ 7 ∷ 156 ∷ 93 ∷ 254 ∷ 168 ∷ 164 ∷ []) ∷ []))

calls : List CallCase
calls =
    bw 1 0 0 (p 7 2712847316 ∷ p 9 2729690341 ∷ p 14 2746533366 ∷ p 1 2763376391 ∷ p 15 2780219416 ∷ []) gets r 0 5 0
    ∷ d 1 1 0 0 0 0 gets r 0 4142257406 0
    ∷ d 1 1 0 4 0 0 gets r 0 405586695 0
    ∷ d 1 1 0 8 0 0 gets r 0 1252425219 0
    ∷ bw 1 1 1 (p 10 2712847316 ∷ p 1 2981350357 ∷ p 3 3249853398 ∷ p 12 3518356439 ∷ p 9 3786859480 ∷ []) gets r 0 5 0
    ∷ d 1 1 0 4 0 0 gets r 0 416596743 0
    ∷ d 1 1 0 8 0 0 gets r 0 3688352515 0
    ∷ bw 1 3 4091 (p 5 2712847316 ∷ p 15 2848121877 ∷ p 0 2983396438 ∷ p 14 3118670999 ∷ p 6 3253945560 ∷ []) gets r 0 5 0
    ∷ br 1 0 0 (p 7 2712847316 ∷ p 9 2729690341 ∷ p 14 2746533366 ∷ p 1 2763376391 ∷ p 15 2780219416 ∷ []) (7 ∷ 8 ∷ 9 ∷ 10 ∷ 11 ∷ 12 ∷ []) gets r 0 5 0 leaving (54272 ∷ 15007744 ∷ 4127195136 ∷ 7 ∷ 402653184 ∷ 12 ∷ [])
    ∷ br 1 1 1 (p 10 2712847316 ∷ p 1 2981350357 ∷ p 3 3249853398 ∷ p 12 3518356439 ∷ p 9 3786859480 ∷ []) (0 ∷ 0 ∷ 0 ∷ 0 ∷ 0 ∷ []) gets r 0 5 0 leaving (13893632 ∷ 51968 ∷ 0 ∷ 3688300544 ∷ 3808428032 ∷ [])
    ∷ br 1 3 4091 (p 5 2712847316 ∷ p 15 2848121877 ∷ p 0 2983396438 ∷ p 14 3118670999 ∷ p 6 3253945560 ∷ []) (4294967295 ∷ 4294967295 ∷ 4294967295 ∷ 4294967295 ∷ 4294967295 ∷ 4294967295 ∷ []) gets r 0 5 0 leaving (2701181696 ∷ 0 ∷ 2983396438 ∷ 151 ∷ 3238002904 ∷ 4294967295 ∷ [])
    ∷ br 1 0 0 [] (5 ∷ []) gets r 0 0 0 leaving (5 ∷ [])
    ∷ br 1 1 4095 [] [] gets r 0 0 0 leaving []
    ∷ br 1 3 4096 [] (6 ∷ 7 ∷ []) gets r 0 0 0 leaving (6 ∷ 7 ∷ [])
    ∷ []

last : World
last =
    world
    (untouched (settings 4096 64 24 40))
    (bytes ((0, 254 ∷ 212 ∷ 229 ∷ 246 ∷ 7 ∷ 195 ∷ 212 ∷ 24 ∷ 3 ∷ 203 ∷ 215 ∷ 219 ∷ 223 ∷ 157 ∷ 59 ∷ 227 ∷ 125 ∷ 54 ∷ 232 ∷ 194 ∷ []) ∷ (16344, 211 ∷ 195 ∷ 0 ∷ 161 ∷ 86 ∷ 187 ∷ 175 ∷ 10 ∷ 86 ∷ 4 ∷ 211 ∷ 177 ∷ 151 ∷ 147 ∷ 183 ∷ 141 ∷ 216 ∷ 232 ∷ 141 ∷ 193 ∷ []) ∷ []))
    (bytes ((0, 173 ∷ 234 ∷ 183 ∷ 123 ∷ 22 ∷ 251 ∷ 178 ∷ 129 ∷ 12 ∷ 151 ∷ 193 ∷ 65 ∷ 142 ∷ 253 ∷ 177 ∷ 141 ∷ 26 ∷ 118 ∷ 134 ∷ 10 ∷ 136 ∷ 144 ∷ 81 ∷ 175 ∷ 50 ∷ 173 ∷ 146 ∷ 35 ∷ 93 ∷ 111 ∷ 158 ∷ 199 ∷ 12 ∷ 134 ∷ 137 ∷ 118 ∷ 64 ∷ 65 ∷ 89 ∷ 66 ∷ 250 ∷ 187 ∷ 64 ∷ 41 ∷ 78 ∷ 137 ∷ 156 ∷ 97 ∷ 184 ∷ 103 ∷ 80 ∷ 26 ∷ 165 ∷ 140 ∷ 73 ∷ 182 ∷ 232 ∷ 12 ∷ 7 ∷ 156 ∷ 93 ∷ 254 ∷ 168 ∷ 164 ∷ []) ∷ []))

agrees : CallsAgree first calls last
unfolding first calls last access register_access sound fresh_card read_dword write_dword burst decode
agrees = refl
