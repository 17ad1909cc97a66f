-- Written by the independent program, oracle/: a list of direct and register accesses and bursts with its answers, and what it leaves.
use Rattle.std.specs.Prelude.{refl, true, false, List, [], ◌∷◌}
use Rattle.model.specs.Lanes.{read_dword, write_dword}
use Rattle.model.specs.State.{World, sound, fresh_card, with_dma}
use Rattle.model.specs.Accesses.{access}
use Rattle.model.specs.Registers.{register_access}
use Rattle.model.specs.Pins.{decode}
use Rattle.model.specs.Bursts.{burst}
use Rattle.model.specs.Bench.{r, p, bw, br, ◌gets◌, ◌gets◌leaving◌, CallCase}
use Rattle.cases.specs.Vectors.{settings, pair, dma, untouched, world, bytes, CallsAgree}

first : World
first =
    world
    (with_dma (dma 0 0 81923 (pair false false) false true) (untouched (settings 4096 64 24 40)))
    (bytes ((0, 34 ∷ 100 ∷ 228 ∷ 95 ∷ 36 ∷ 144 ∷ 236 ∷ 219 ∷ 245 ∷ 8 ∷ 243 ∷ 175 ∷ 101 ∷ 254 ∷ 122 ∷ 74 ∷ 235 ∷ 15 ∷ 229 ∷ 183 ∷ []) ∷ (16340, 196 ∷ 82 ∷ 130 ∷ 49 ∷ 99 ∷ 182 ∷ 69 ∷ 124 ∷ 113 ∷ 92 ∷ 49 ∷ 25 ∷ 237 ∷ 73 ∷ 137 ∷ 125 ∷ 141 ∷ 47 ∷ 59 ∷ 217 ∷ []) ∷ []))
    (bytes ((0, 115 ∷ 232 ∷ 194 ∷ 244 ∷ 190 ∷ 207 ∷ 242 ∷ 103 ∷ 178 ∷ 210 ∷ 160 ∷ 162 ∷ 121 ∷ 33 ∷ 130 ∷ 230 ∷ 16 ∷ 195 ∷ 118 ∷ 136 ∷ 69 ∷ 181 ∷ 31 ∷ 218 ∷ 226 ∷ 76 ∷ 223 ∷ 198 ∷ 157 ∷ 94 ∷ 191 ∷ 138 ∷ 217 ∷ 30 ∷ 22 ∷ 184 ∷ 231 ∷ 181 ∷ 20 ∷ 171 ∷ 26 ∷ 171 ∷ 132 ∷ 52 ∷ 143 ∷ 64 ∷ 159 ∷ 221 ∷ 124 ∷ 45 ∷ 207 ∷ 200 ∷ 27 ∷ 164 ∷ 52 ∷ 236 ∷ 117 ∷ 111 ∷ 124 ∷ 40 ∷ 147 ∷ 40 ∷ 54 ∷ 139 ∷ []) ∷ []))

calls : List CallCase
calls =
    bw 1 3 4094 (p 0 57005 ∷ p 0 57005 ∷ p 0 57005 ∷ []) gets r 1 0 0
    ∷ br 1 3 4095 (p 0 0 ∷ []) (5 ∷ []) gets r 1 0 0 leaving (5 ∷ [])
    ∷ bw 1 0 0 [] gets r 1 0 0
    ∷ []

last : World
last =
    world
    (with_dma (dma 0 0 81923 (pair false false) false true) (untouched (settings 4096 64 24 40)))
    (bytes ((0, 34 ∷ 100 ∷ 228 ∷ 95 ∷ 36 ∷ 144 ∷ 236 ∷ 219 ∷ 245 ∷ 8 ∷ 243 ∷ 175 ∷ 101 ∷ 254 ∷ 122 ∷ 74 ∷ 235 ∷ 15 ∷ 229 ∷ 183 ∷ []) ∷ (16340, 196 ∷ 82 ∷ 130 ∷ 49 ∷ 99 ∷ 182 ∷ 69 ∷ 124 ∷ 113 ∷ 92 ∷ 49 ∷ 25 ∷ 237 ∷ 73 ∷ 137 ∷ 125 ∷ 141 ∷ 47 ∷ 59 ∷ 217 ∷ []) ∷ []))
    (bytes ((0, 115 ∷ 232 ∷ 194 ∷ 244 ∷ 190 ∷ 207 ∷ 242 ∷ 103 ∷ 178 ∷ 210 ∷ 160 ∷ 162 ∷ 121 ∷ 33 ∷ 130 ∷ 230 ∷ 16 ∷ 195 ∷ 118 ∷ 136 ∷ 69 ∷ 181 ∷ 31 ∷ 218 ∷ 226 ∷ 76 ∷ 223 ∷ 198 ∷ 157 ∷ 94 ∷ 191 ∷ 138 ∷ 217 ∷ 30 ∷ 22 ∷ 184 ∷ 231 ∷ 181 ∷ 20 ∷ 171 ∷ 26 ∷ 171 ∷ 132 ∷ 52 ∷ 143 ∷ 64 ∷ 159 ∷ 221 ∷ 124 ∷ 45 ∷ 207 ∷ 200 ∷ 27 ∷ 164 ∷ 52 ∷ 236 ∷ 117 ∷ 111 ∷ 124 ∷ 40 ∷ 147 ∷ 40 ∷ 54 ∷ 139 ∷ []) ∷ []))

agrees : CallsAgree first calls last
unfolding first calls last access register_access sound fresh_card read_dword write_dword burst decode
agrees = refl
