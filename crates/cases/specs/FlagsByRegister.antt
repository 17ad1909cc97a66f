-- Written by the independent program, oracle/: a list of direct and register accesses with its answers, and what it leaves.
use Rattle.std.specs.Prelude.{refl, true, false, List, [], ◌∷◌}
use Rattle.model.specs.Lanes.{read_dword, write_dword}
use Rattle.model.specs.State.{World, sound, fresh_card, fresh_world, with_arbitration}
use Rattle.model.specs.Accesses.{access}
use Rattle.model.specs.Registers.{register_access}
use Rattle.model.specs.Bench.{r, d, g, ◌gets◌, CallCase}
use Rattle.cases.specs.Vectors.{settings, pair, untouched, world, bytes, CallsAgree}

first : World
first = fresh_world (settings 0 64 16 32) (bytes ((0, 32 ∷ 198 ∷ 221 ∷ 132 ∷ 65 ∷ 152 ∷ 112 ∷ 237 ∷ 93 ∷ 191 ∷ 46 ∷ 56 ∷ 88 ∷ 215 ∷ 231 ∷ 95 ∷ 42 ∷ 100 ∷ 252 ∷ 17 ∷ []) ∷ (16344, 192 ∷ 131 ∷ 175 ∷ 241 ∷ 223 ∷ 134 ∷ 160 ∷ 42 ∷ 201 ∷ 148 ∷ 207 ∷ 154 ∷ 153 ∷ 37 ∷ 77 ∷ 127 ∷ 197 ∷ 8 ∷ 128 ∷ 132 ∷ []) ∷ [])) (bytes ((0, 213 ∷ 25 ∷ 5 ∷ 29 ∷ 9 ∷ 135 ∷ 178 ∷ 238 ∷ 63 ∷ 211 ∷ 96 ∷ 169 ∷ 35 ∷ 121 ∷ 69 ∷ 202 ∷ 204 ∷ 174 ∷ 156 ∷ 97 ∷ 77 ∷ 175 ∷ 115 ∷ 160 ∷ 80 ∷ 143 ∷ 95 ∷ 25 ∷ 6 ∷ 37 ∷ 52 ∷ 196 ∷ 121 ∷ 44 ∷ 116 ∷ 32 ∷ 212 ∷ 255 ∷ 121 ∷ 136 ∷ 203 ∷ 39 ∷ 108 ∷ 39 ∷ 146 ∷ 111 ∷ 237 ∷ 233 ∷ 154 ∷ 179 ∷ 140 ∷ 97 ∷ 59 ∷ 189 ∷ 191 ∷ 205 ∷ 192 ∷ 207 ∷ 81 ∷ 71 ∷ 243 ∷ 190 ∷ 189 ∷ 29 ∷ []) ∷ []))

calls : List CallCase
calls =
    g 0 0x04c0 1 16843009 gets r 0 16843009 0
    ∷ g 0 0x04c0 0 0 gets r 0 16843009 0
    ∷ g 1 0x04c0 0 0 gets r 0 16843009 0
    ∷ g 1 0x04c0 1 2 gets r 0 0 0
    ∷ d 7 1 0 0 0 0 gets r 0 0 0
    ∷ d 8 0 0 0 0 0 gets r 0 0 0
    ∷ g 1 0x04c0 1 2 gets r 0 2 0
    ∷ g 0 0x04c0 0 0 gets r 0 16843010 0
    ∷ d 7 0 0 0 0 0 gets r 0 0 0
    ∷ g 0 0x04c0 1 16777216 gets r 0 16777216 0
    ∷ g 1 0x04c0 1 4294967295 gets r 0 131586 0
    ∷ g 1 0x04c0 0 0 gets r 0 16908802 0
    ∷ d 7 0 1 0 0 0 gets r 0 0 0
    ∷ d 8 1 1 0 0 0 gets r 0 0 0
    ∷ d 7 0 1 0 0 0 gets r 0 1 0
    ∷ g 0 0x04c0 0 0 gets r 0 16908546 0
    ∷ g 0 0x04c0 1 33686018 gets r 0 0 0
    ∷ g 1 0x04c0 0 0 gets r 0 131074 0
    ∷ g 1 0x04c0 1 16843009 gets r 0 0 0
    ∷ g 0 0x04c0 0 0 gets r 0 0 0
    ∷ d 7 0 0 0 0 0 gets r 0 1 0
    ∷ d 7 1 1 0 0 0 gets r 0 1 0
    ∷ d 7 0 2 0 0 0 gets r 0 1 0
    ∷ d 7 1 3 0 0 0 gets r 0 1 0
    ∷ g 0 0x04c0 0 0 gets r 0 33620481 0
    ∷ g 1 0x04c0 0 0 gets r 0 33620481 0
    ∷ g 0 0x04c0 1 16843009 gets r 0 65537 0
    ∷ g 1 0x04c0 1 33686018 gets r 0 33554944 0
    ∷ g 0 0x04c0 0 0 gets r 0 33620481 0
    ∷ g 1 0x04c0 1 4244438268 gets r 0 0 0
    ∷ g 1 0x04c0 0 0 gets r 0 65537 0
    ∷ d 7 1 2 0 0 0 gets r 0 0 0
    ∷ g 0 0x04c0 1 16842752 gets r 0 16842752 0
    ∷ d 8 0 1 0 0 0 gets r 0 0 0
    ∷ d 7 1 3 0 0 0 gets r 0 0 0
    ∷ g 0 0x04c0 0 0 gets r 0 16842752 0
    ∷ g 1 0x04c0 0 0 gets r 0 16842752 0
    ∷ d 0 0 0 0 0 0 gets r 0 0 0
    ∷ g 1 0x04c0 0 0 gets r 0 0 0
    ∷ g 1 0x04c0 1 33554434 gets r 0 33554434 0
    ∷ d 7 0 3 0 0 0 gets r 0 0 0
    ∷ d 7 0 1 0 0 0 gets r 0 1 0
    ∷ d 7 1 0 0 0 0 gets r 0 1 0
    ∷ g 0 0x04c0 0 0 gets r 0 33554690 0
    ∷ []

last : World
last =
    world
    (with_arbitration (pair false true ∷ pair true false ∷ pair false false ∷ pair false true ∷ []) (untouched (settings 0 64 16 32)))
    (bytes ((0, 32 ∷ 198 ∷ 221 ∷ 132 ∷ 65 ∷ 152 ∷ 112 ∷ 237 ∷ 93 ∷ 191 ∷ 46 ∷ 56 ∷ 88 ∷ 215 ∷ 231 ∷ 95 ∷ 42 ∷ 100 ∷ 252 ∷ 17 ∷ []) ∷ (16344, 192 ∷ 131 ∷ 175 ∷ 241 ∷ 223 ∷ 134 ∷ 160 ∷ 42 ∷ 201 ∷ 148 ∷ 207 ∷ 154 ∷ 153 ∷ 37 ∷ 77 ∷ 127 ∷ 197 ∷ 8 ∷ 128 ∷ 132 ∷ []) ∷ []))
    (bytes ((0, 213 ∷ 25 ∷ 5 ∷ 29 ∷ 9 ∷ 135 ∷ 178 ∷ 238 ∷ 63 ∷ 211 ∷ 96 ∷ 169 ∷ 35 ∷ 121 ∷ 69 ∷ 202 ∷ 204 ∷ 174 ∷ 156 ∷ 97 ∷ 77 ∷ 175 ∷ 115 ∷ 160 ∷ 80 ∷ 143 ∷ 95 ∷ 25 ∷ 6 ∷ 37 ∷ 52 ∷ 196 ∷ 121 ∷ 44 ∷ 116 ∷ 32 ∷ 212 ∷ 255 ∷ 121 ∷ 136 ∷ 203 ∷ 39 ∷ 108 ∷ 39 ∷ 146 ∷ 111 ∷ 237 ∷ 233 ∷ 154 ∷ 179 ∷ 140 ∷ 97 ∷ 59 ∷ 189 ∷ 191 ∷ 205 ∷ 192 ∷ 207 ∷ 81 ∷ 71 ∷ 243 ∷ 190 ∷ 189 ∷ 29 ∷ []) ∷ []))

agrees : CallsAgree first calls last
unfolding first calls last access register_access sound fresh_card read_dword write_dword
agrees = refl
