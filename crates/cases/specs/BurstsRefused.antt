-- Written by the independent program, oracle/: a list of direct and register accesses and bursts with its answers, and what it leaves.
use Rattle.std.specs.Prelude.{refl, List, [], ◌∷◌}
use Rattle.model.specs.Lanes.{read_dword, write_dword}
use Rattle.model.specs.State.{World, sound, fresh_card, fresh_world}
use Rattle.model.specs.Accesses.{access}
use Rattle.model.specs.Registers.{register_access}
use Rattle.model.specs.Pins.{decode}
use Rattle.model.specs.Bursts.{burst}
use Rattle.model.specs.Bench.{r, d, p, bw, br, ◌gets◌, ◌gets◌leaving◌, CallCase}
use Rattle.cases.specs.Vectors.{settings, untouched, world, bytes, CallsAgree}

first : World
first = fresh_world (settings 536870912 256 64 128) (bytes ((0, 58 ∷ 190 ∷ 250 ∷ 200 ∷ 228 ∷ 111 ∷ 188 ∷ 22 ∷ 205 ∷ 94 ∷ 173 ∷ 33 ∷ 193 ∷ 69 ∷ 213 ∷ 154 ∷ 0 ∷ 155 ∷ 76 ∷ 148 ∷ []) ∷ (16344, 82 ∷ 216 ∷ 166 ∷ 175 ∷ 107 ∷ 212 ∷ 42 ∷ 136 ∷ 3 ∷ 60 ∷ 134 ∷ 60 ∷ 167 ∷ 188 ∷ 204 ∷ 89 ∷ 183 ∷ 47 ∷ 23 ∷ 233 ∷ []) ∷ [])) (bytes ((0, 233 ∷ 238 ∷ 121 ∷ 234 ∷ 247 ∷ 98 ∷ 205 ∷ 197 ∷ 3 ∷ 94 ∷ 195 ∷ 123 ∷ 14 ∷ 145 ∷ 90 ∷ 120 ∷ 178 ∷ 234 ∷ 11 ∷ 202 ∷ []) ∷ (24, 241 ∷ 143 ∷ 37 ∷ 37 ∷ 167 ∷ 249 ∷ 89 ∷ 252 ∷ 2 ∷ 6 ∷ 224 ∷ 84 ∷ 59 ∷ 224 ∷ 9 ∷ 101 ∷ 250 ∷ 111 ∷ 126 ∷ 49 ∷ 146 ∷ 70 ∷ 235 ∷ 183 ∷ 82 ∷ 22 ∷ 70 ∷ 76 ∷ 79 ∷ 136 ∷ 101 ∷ 252 ∷ 148 ∷ 171 ∷ 135 ∷ 131 ∷ 37 ∷ 131 ∷ 52 ∷ 130 ∷ []) ∷ (24, 204 ∷ 24 ∷ 164 ∷ 16 ∷ 185 ∷ 12 ∷ 204 ∷ 160 ∷ 229 ∷ 183 ∷ 78 ∷ 247 ∷ 16 ∷ 152 ∷ 176 ∷ 154 ∷ 53 ∷ 46 ∷ 233 ∷ 147 ∷ 1 ∷ 21 ∷ 183 ∷ 34 ∷ 156 ∷ 13 ∷ 229 ∷ 8 ∷ 21 ∷ 70 ∷ 186 ∷ 173 ∷ 244 ∷ 144 ∷ 200 ∷ 146 ∷ 3 ∷ 155 ∷ 174 ∷ 99 ∷ []) ∷ (88, 90 ∷ 154 ∷ 8 ∷ 33 ∷ 190 ∷ 125 ∷ 100 ∷ 58 ∷ 71 ∷ 108 ∷ 43 ∷ 158 ∷ 95 ∷ 44 ∷ 209 ∷ 125 ∷ 79 ∷ 9 ∷ 61 ∷ 137 ∷ []) ∷ []))

calls : List CallCase
calls =
    bw 2 0 0 (p 0 57005 ∷ p 0 57005 ∷ []) gets r 2 0 0
    ∷ bw 0 3 0 (p 0 57005 ∷ p 0 57005 ∷ []) gets r 5 0 0
    ∷ bw 1 2 0 (p 0 57005 ∷ p 0 57005 ∷ []) gets r 12 0 0
    ∷ bw 1 1 0 (p 0 57005 ∷ p 16 57005 ∷ []) gets r 4 0 0
    ∷ bw 255 2 0 (p 0 57005 ∷ p 0 57005 ∷ []) gets r 2 0 0
    ∷ bw 2 3 0 (p 0 57005 ∷ p 16 57005 ∷ []) gets r 2 0 0
    ∷ bw 2 3 4096 (p 0 57005 ∷ p 0 57005 ∷ []) gets r 2 0 0
    ∷ bw 0 4 0 (p 0 57005 ∷ p 0 57005 ∷ []) gets r 5 0 0
    ∷ bw 0 0 0 (p 16 57005 ∷ p 0 57005 ∷ []) gets r 5 0 0
    ∷ bw 0 0 4096 (p 0 57005 ∷ p 0 57005 ∷ []) gets r 5 0 0
    ∷ bw 1 255 0 (p 0 57005 ∷ p 16 57005 ∷ []) gets r 12 0 0
    ∷ bw 1 2 4096 (p 0 57005 ∷ p 0 57005 ∷ []) gets r 12 0 0
    ∷ bw 1 0 4096 (p 4294967295 0 ∷ p 0 57005 ∷ []) gets r 4 0 0
    ∷ bw 1 3 4095 (p 0 57005 ∷ p 16 57005 ∷ []) gets r 4 0 0
    ∷ br 2 0 0 (p 0 0 ∷ p 0 0 ∷ []) (3 ∷ []) gets r 2 0 0 leaving (3 ∷ [])
    ∷ br 0 1 0 (p 0 0 ∷ p 0 0 ∷ []) (3 ∷ []) gets r 5 0 0 leaving (3 ∷ [])
    ∷ br 1 4 0 (p 0 0 ∷ p 0 0 ∷ []) (3 ∷ []) gets r 12 0 0 leaving (3 ∷ [])
    ∷ br 1 3 0 (p 0 0 ∷ p 16 0 ∷ []) (3 ∷ []) gets r 4 0 0 leaving (3 ∷ [])
    ∷ br 1 0 0 (p 0 0 ∷ p 0 0 ∷ []) (3 ∷ []) gets r 14 0 0 leaving (3 ∷ [])
    ∷ br 1 3 4095 (p 0 0 ∷ p 0 0 ∷ []) (3 ∷ []) gets r 14 0 0 leaving (3 ∷ [])
    ∷ d 1 1 0 0 0 0 gets r 0 3371875898 0
    ∷ d 1 1 0 16380 0 0 gets r 0 3910610871 0
    ∷ []

last : World
last =
    world
    (untouched (settings 536870912 256 64 128))
    (bytes ((0, 58 ∷ 190 ∷ 250 ∷ 200 ∷ 228 ∷ 111 ∷ 188 ∷ 22 ∷ 205 ∷ 94 ∷ 173 ∷ 33 ∷ 193 ∷ 69 ∷ 213 ∷ 154 ∷ 0 ∷ 155 ∷ 76 ∷ 148 ∷ []) ∷ (16344, 82 ∷ 216 ∷ 166 ∷ 175 ∷ 107 ∷ 212 ∷ 42 ∷ 136 ∷ 3 ∷ 60 ∷ 134 ∷ 60 ∷ 167 ∷ 188 ∷ 204 ∷ 89 ∷ 183 ∷ 47 ∷ 23 ∷ 233 ∷ []) ∷ []))
    (bytes ((0, 233 ∷ 238 ∷ 121 ∷ 234 ∷ 247 ∷ 98 ∷ 205 ∷ 197 ∷ 3 ∷ 94 ∷ 195 ∷ 123 ∷ 14 ∷ 145 ∷ 90 ∷ 120 ∷ 178 ∷ 234 ∷ 11 ∷ 202 ∷ []) ∷ (24, 241 ∷ 143 ∷ 37 ∷ 37 ∷ 167 ∷ 249 ∷ 89 ∷ 252 ∷ 2 ∷ 6 ∷ 224 ∷ 84 ∷ 59 ∷ 224 ∷ 9 ∷ 101 ∷ 250 ∷ 111 ∷ 126 ∷ 49 ∷ 146 ∷ 70 ∷ 235 ∷ 183 ∷ 82 ∷ 22 ∷ 70 ∷ 76 ∷ 79 ∷ 136 ∷ 101 ∷ 252 ∷ 148 ∷ 171 ∷ 135 ∷ 131 ∷ 37 ∷ 131 ∷ 52 ∷ 130 ∷ []) ∷ (24, 204 ∷ 24 ∷ 164 ∷ 16 ∷ 185 ∷ 12 ∷ 204 ∷ 160 ∷ 229 ∷ 183 ∷ 78 ∷ 247 ∷ 16 ∷ 152 ∷ 176 ∷ 154 ∷ 53 ∷ 46 ∷ 233 ∷ 147 ∷ 1 ∷ 21 ∷ 183 ∷ 34 ∷ 156 ∷ 13 ∷ 229 ∷ 8 ∷ 21 ∷ 70 ∷ 186 ∷ 173 ∷ 244 ∷ 144 ∷ 200 ∷ 146 ∷ 3 ∷ 155 ∷ 174 ∷ 99 ∷ []) ∷ (88, 90 ∷ 154 ∷ 8 ∷ 33 ∷ 190 ∷ 125 ∷ 100 ∷ 58 ∷ 71 ∷ 108 ∷ 43 ∷ 158 ∷ 95 ∷ 44 ∷ 209 ∷ 125 ∷ 79 ∷ 9 ∷ 61 ∷ 137 ∷ []) ∷ []))

agrees : CallsAgree first calls last
unfolding first calls last access register_access sound fresh_card read_dword write_dword burst decode
agrees = refl
