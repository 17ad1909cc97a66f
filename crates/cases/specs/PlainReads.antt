-- Written by the independent program, oracle/: a list of direct and register accesses with its answers, and what it leaves.
use Rattle.std.specs.Prelude.{refl, List, [], ◌∷◌}
use Rattle.model.specs.Lanes.{read_dword, write_dword}
use Rattle.model.specs.State.{World, sound, fresh_card, fresh_world}
use Rattle.model.specs.Accesses.{access}
use Rattle.model.specs.Registers.{register_access}
use Rattle.model.specs.Bench.{r, d, g, ◌gets◌, CallCase}
use Rattle.cases.specs.Vectors.{settings, untouched, world, bytes, CallsAgree}

first : World
first = fresh_world (settings 4096 64 24 40) (bytes ((0, 232 ∷ 100 ∷ 180 ∷ 201 ∷ 130 ∷ 43 ∷ 148 ∷ 250 ∷ 200 ∷ 66 ∷ 184 ∷ 38 ∷ 38 ∷ 162 ∷ 237 ∷ 111 ∷ 34 ∷ 31 ∷ 88 ∷ 135 ∷ []) ∷ (16344, 192 ∷ 232 ∷ 146 ∷ 14 ∷ 105 ∷ 117 ∷ 108 ∷ 194 ∷ 5 ∷ 179 ∷ 165 ∷ 16 ∷ 209 ∷ 140 ∷ 132 ∷ 250 ∷ 97 ∷ 163 ∷ 86 ∷ 226 ∷ []) ∷ [])) (bytes ((0, 147 ∷ 176 ∷ 13 ∷ 93 ∷ 104 ∷ 201 ∷ 19 ∷ 247 ∷ 91 ∷ 156 ∷ 176 ∷ 240 ∷ 18 ∷ 20 ∷ 152 ∷ 229 ∷ 246 ∷ 170 ∷ 192 ∷ 64 ∷ 226 ∷ 243 ∷ 242 ∷ 171 ∷ 159 ∷ 242 ∷ 54 ∷ 222 ∷ 138 ∷ 120 ∷ 2 ∷ 196 ∷ 55 ∷ 114 ∷ 235 ∷ 158 ∷ 248 ∷ 93 ∷ 235 ∷ 79 ∷ 114 ∷ 151 ∷ 147 ∷ 88 ∷ 171 ∷ 111 ∷ 154 ∷ 85 ∷ 231 ∷ 113 ∷ 122 ∷ 166 ∷ 243 ∷ 11 ∷ 143 ∷ 152 ∷ 236 ∷ 245 ∷ 159 ∷ 116 ∷ 46 ∷ 2 ∷ 214 ∷ 39 ∷ []) ∷ []))

calls : List CallCase
calls =
    g 0 0x04e8 1 16821197 gets r 0 0 0
    ∷ g 1 0x04f8 1 4294902279 gets r 0 0 0
    ∷ g 0 0x04e4 1 4294901760 gets r 0 0 0
    ∷ g 1 0x04f4 1 4294901760 gets r 0 0 0
    ∷ d 16 1 0 0 0 0 gets r 0 0 0
    ∷ g 0 0x0040 1 1 gets r 0 1 1
    ∷ g 1 0x004c 1 2 gets r 0 1 1
    ∷ g 0 0x04c0 1 65537 gets r 0 65537 0
    ∷ g 1 0x04c0 1 33554944 gets r 0 33554944 0
    ∷ g 1 0x04b0 1 16380 gets r 0 0 0
    ∷ g 1 0x04b4 1 4156 gets r 0 0 0
    ∷ g 1 0x04b8 1 4 gets r 0 0 0
    ∷ g 0 0x04bc 1 259 gets r 0 1 0
    ∷ d 15 1 0 0 0 0 gets r 0 2 1
    ∷ g 0 0x04b0 0 0 gets r 0 16380 0
    ∷ g 0 0x04b4 0 0 gets r 0 4156 0
    ∷ g 0 0x04b8 0 0 gets r 0 4 0
    ∷ g 0 0x04bc 0 0 gets r 0 259 0
    ∷ g 1 0x04b0 0 0 gets r 0 16380 0
    ∷ g 1 0x04b4 0 0 gets r 0 4156 0
    ∷ g 1 0x04b8 0 0 gets r 0 4 0
    ∷ g 1 0x04bc 0 0 gets r 0 259 0
    ∷ g 0 0x04c0 0 0 gets r 0 33620481 0
    ∷ g 1 0x04c0 0 0 gets r 0 33620481 0
    ∷ g 1 0x04e4 0 0 gets r 0 66781432 0
    ∷ g 0 0x04f4 0 0 gets r 0 65732840 0
    ∷ g 0 0x04e8 0 0 gets r 0 43981 0
    ∷ g 1 0x04f8 0 0 gets r 0 519 0
    ∷ d 0 1 0 0 0 0 gets r 0 0 0
    ∷ g 0 0x04b0 0 0 gets r 0 0 0
    ∷ g 0 0x04b4 0 0 gets r 0 0 0
    ∷ g 0 0x04b8 0 0 gets r 0 0 0
    ∷ g 0 0x04bc 0 0 gets r 0 0 0
    ∷ g 1 0x04b0 0 0 gets r 0 0 0
    ∷ g 1 0x04b4 0 0 gets r 0 0 0
    ∷ g 1 0x04b8 0 0 gets r 0 0 0
    ∷ g 1 0x04bc 0 0 gets r 0 0 0
    ∷ g 0 0x04c0 0 0 gets r 0 0 0
    ∷ g 1 0x04c0 0 0 gets r 0 0 0
    ∷ g 1 0x04e4 0 0 gets r 0 0 0
    ∷ g 0 0x04f4 0 0 gets r 0 0 0
    ∷ g 0 0x04e8 0 0 gets r 0 0 0
    ∷ g 1 0x04f8 0 0 gets r 0 0 0
    ∷ []

last : World
last =
    world
    (untouched (settings 4096 64 24 40))
    (bytes ((0, 232 ∷ 100 ∷ 180 ∷ 201 ∷ 130 ∷ 43 ∷ 148 ∷ 250 ∷ 200 ∷ 66 ∷ 184 ∷ 38 ∷ 38 ∷ 162 ∷ 237 ∷ 111 ∷ 34 ∷ 31 ∷ 88 ∷ 135 ∷ []) ∷ (16344, 192 ∷ 232 ∷ 146 ∷ 14 ∷ 105 ∷ 117 ∷ 108 ∷ 194 ∷ 5 ∷ 179 ∷ 165 ∷ 16 ∷ 209 ∷ 140 ∷ 132 ∷ 250 ∷ 97 ∷ 163 ∷ 86 ∷ 226 ∷ []) ∷ []))
    (bytes ((0, 147 ∷ 176 ∷ 13 ∷ 93 ∷ 104 ∷ 201 ∷ 19 ∷ 247 ∷ 91 ∷ 156 ∷ 176 ∷ 240 ∷ 18 ∷ 20 ∷ 152 ∷ 229 ∷ 246 ∷ 170 ∷ 192 ∷ 64 ∷ 226 ∷ 243 ∷ 242 ∷ 171 ∷ 159 ∷ 242 ∷ 54 ∷ 222 ∷ 138 ∷ 120 ∷ 2 ∷ 196 ∷ 55 ∷ 114 ∷ 235 ∷ 158 ∷ 248 ∷ 93 ∷ 235 ∷ 79 ∷ 114 ∷ 151 ∷ 147 ∷ 88 ∷ 171 ∷ 111 ∷ 154 ∷ 85 ∷ 231 ∷ 113 ∷ 122 ∷ 166 ∷ 243 ∷ 11 ∷ 143 ∷ 152 ∷ 236 ∷ 245 ∷ 159 ∷ 116 ∷ 97 ∷ 163 ∷ 86 ∷ 226 ∷ []) ∷ []))

agrees : CallsAgree first calls last
unfolding first calls last access register_access sound fresh_card read_dword write_dword
agrees = refl
