-- Written by the independent program, oracle/: a list of direct and register accesses with its answers, and what it leaves.
use Rattle.std.specs.Prelude.{refl, true, false, List, [], ◌∷◌}
use Rattle.model.specs.Lanes.{read_dword, write_dword}
use Rattle.model.specs.State.{World, sound, fresh_card, fresh_world, with_arbitration}
use Rattle.model.specs.Accesses.{access}
use Rattle.model.specs.Registers.{register_access}
use Rattle.model.specs.Bench.{r, d, g, ◌gets◌, CallCase}
use Rattle.cases.specs.Vectors.{settings, pair, untouched, world, bytes, CallsAgree}

first : World
first = fresh_world (settings 268435456 32768 28672 32768) (bytes ((0, 167 ∷ 25 ∷ 123 ∷ 170 ∷ 99 ∷ 186 ∷ 75 ∷ 31 ∷ 238 ∷ 129 ∷ 218 ∷ 208 ∷ 26 ∷ 182 ∷ 54 ∷ 156 ∷ 204 ∷ 137 ∷ 245 ∷ 46 ∷ []) ∷ (16344, 38 ∷ 101 ∷ 64 ∷ 205 ∷ 207 ∷ 82 ∷ 244 ∷ 27 ∷ 35 ∷ 227 ∷ 114 ∷ 235 ∷ 160 ∷ 63 ∷ 129 ∷ 238 ∷ 10 ∷ 42 ∷ 36 ∷ 13 ∷ []) ∷ [])) (bytes ((0, 119 ∷ 143 ∷ 192 ∷ 121 ∷ 53 ∷ 208 ∷ 105 ∷ 139 ∷ 40 ∷ 178 ∷ 219 ∷ 161 ∷ 156 ∷ 172 ∷ 174 ∷ 234 ∷ 31 ∷ 48 ∷ 103 ∷ 80 ∷ []) ∷ (28632, 7 ∷ 68 ∷ 183 ∷ 192 ∷ 195 ∷ 120 ∷ 216 ∷ 7 ∷ 245 ∷ 182 ∷ 71 ∷ 200 ∷ 122 ∷ 54 ∷ 157 ∷ 85 ∷ 206 ∷ 235 ∷ 40 ∷ 220 ∷ 125 ∷ 134 ∷ 13 ∷ 240 ∷ 92 ∷ 57 ∷ 162 ∷ 229 ∷ 187 ∷ 236 ∷ 70 ∷ 192 ∷ 164 ∷ 90 ∷ 69 ∷ 188 ∷ 113 ∷ 86 ∷ 15 ∷ 149 ∷ []) ∷ (4056, 14 ∷ 212 ∷ 122 ∷ 235 ∷ 205 ∷ 250 ∷ 96 ∷ 239 ∷ 78 ∷ 44 ∷ 113 ∷ 125 ∷ 238 ∷ 189 ∷ 205 ∷ 61 ∷ 156 ∷ 127 ∷ 236 ∷ 63 ∷ []) ∷ []))

calls : List CallCase
calls =
    g 0 0x04b0 1 0 gets r 0 0 0
    ∷ g 0 0x04b4 1 268435456 gets r 0 0 0
    ∷ g 0 0x04b8 1 16384 gets r 0 0 0
    ∷ g 0 0x04b8 0 0 gets r 0 0 0
    ∷ g 0 0x04bc 1 1 gets r 7 0 0
    ∷ g 0 0x04b8 1 16380 gets r 0 0 0
    ∷ g 0 0x04b8 0 0 gets r 0 16380 0
    ∷ g 0 0x04bc 1 1 gets r 0 4095 0
    ∷ d 0 0 0 0 0 0 gets r 0 0 0
    ∷ g 0 0x04c0 1 1 gets r 0 1 0
    ∷ g 0 0x04c0 0 0 gets r 0 1 0
    ∷ g 0 0x04c0 1 256 gets r 0 256 0
    ∷ g 0 0x04c0 0 0 gets r 0 256 0
    ∷ g 1 0x04c0 1 2 gets r 0 2 0
    ∷ g 1 0x04c0 0 0 gets r 0 258 0
    ∷ g 0 0x04c0 1 257 gets r 0 256 0
    ∷ []

last : World
last =
    world
    (with_arbitration (pair false true ∷ pair true false ∷ pair false false ∷ pair false false ∷ []) (untouched (settings 268435456 32768 28672 32768)))
    (bytes ((0, 167 ∷ 25 ∷ 123 ∷ 170 ∷ 99 ∷ 186 ∷ 75 ∷ 31 ∷ 238 ∷ 129 ∷ 218 ∷ 208 ∷ 26 ∷ 182 ∷ 54 ∷ 156 ∷ 204 ∷ 137 ∷ 245 ∷ 46 ∷ []) ∷ (16344, 38 ∷ 101 ∷ 64 ∷ 205 ∷ 207 ∷ 82 ∷ 244 ∷ 27 ∷ 35 ∷ 227 ∷ 114 ∷ 235 ∷ 160 ∷ 63 ∷ 129 ∷ 238 ∷ 10 ∷ 42 ∷ 36 ∷ 13 ∷ []) ∷ []))
    (bytes ((0, 119 ∷ 143 ∷ 192 ∷ 121 ∷ 53 ∷ 208 ∷ 105 ∷ 139 ∷ 40 ∷ 178 ∷ 219 ∷ 161 ∷ 156 ∷ 172 ∷ 174 ∷ 234 ∷ 31 ∷ 48 ∷ 103 ∷ 80 ∷ []) ∷ (28632, 7 ∷ 68 ∷ 183 ∷ 192 ∷ 195 ∷ 120 ∷ 216 ∷ 7 ∷ 245 ∷ 182 ∷ 71 ∷ 200 ∷ 122 ∷ 54 ∷ 157 ∷ 85 ∷ 206 ∷ 235 ∷ 40 ∷ 220 ∷ 125 ∷ 134 ∷ 13 ∷ 240 ∷ 92 ∷ 57 ∷ 162 ∷ 229 ∷ 187 ∷ 236 ∷ 70 ∷ 192 ∷ 164 ∷ 90 ∷ 69 ∷ 188 ∷ 113 ∷ 86 ∷ 15 ∷ 149 ∷ []) ∷ (4056, 14 ∷ 212 ∷ 122 ∷ 235 ∷ 205 ∷ 250 ∷ 96 ∷ 239 ∷ 78 ∷ 44 ∷ 113 ∷ 125 ∷ 238 ∷ 189 ∷ 205 ∷ 61 ∷ 156 ∷ 127 ∷ 236 ∷ 63 ∷ []) ∷ []))

agrees : CallsAgree first calls last
unfolding first calls last access register_access sound fresh_card read_dword write_dword
agrees = refl
