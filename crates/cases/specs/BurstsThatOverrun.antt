-- Written by the independent program, oracle/: a list of direct and register accesses and bursts with its answers, and what it leaves.
use Rattle.std.specs.Prelude.{refl, List, [], ◌∷◌}
use Rattle.model.specs.Lanes.{read_dword, write_dword}
use Rattle.model.specs.State.{World, sound, fresh_card, fresh_world}
use Rattle.model.specs.Accesses.{access}
use Rattle.model.specs.Registers.{register_access}
use Rattle.model.specs.Pins.{decode}
use Rattle.model.specs.Bursts.{burst}
use Rattle.model.specs.Bench.{r, d, p, bw, br, ◌gets◌, ◌gets◌leaving◌, CallCase}
use Rattle.cases.specs.Vectors.{settings, untouched, world, bytes, CallsAgree}

first : World
first = fresh_world (settings 0 64 16 32) (bytes ((0, 129 ∷ 105 ∷ 233 ∷ 3 ∷ 228 ∷ 32 ∷ 11 ∷ 89 ∷ 71 ∷ 143 ∷ 65 ∷ 114 ∷ 26 ∷ 193 ∷ 39 ∷ 187 ∷ 112 ∷ 209 ∷ 127 ∷ 135 ∷ []) ∷ (16344, 231 ∷ 46 ∷ 177 ∷ 197 ∷ 22 ∷ 185 ∷ 105 ∷ 81 ∷ 119 ∷ 240 ∷ 130 ∷ 216 ∷ 242 ∷ 195 ∷ 163 ∷ 8 ∷ 158 ∷ 149 ∷ 98 ∷ 137 ∷ []) ∷ [])) (bytes ((0, 249 ∷ 158 ∷ 150 ∷ 152 ∷ 53 ∷ 175 ∷ 79 ∷ 118 ∷ 137 ∷ 187 ∷ 211 ∷ 216 ∷ 91 ∷ 161 ∷ 216 ∷ 60 ∷ 218 ∷ 81 ∷ 13 ∷ 195 ∷ 98 ∷ 229 ∷ 185 ∷ 95 ∷ 71 ∷ 249 ∷ 254 ∷ 224 ∷ 96 ∷ 229 ∷ 3 ∷ 195 ∷ 123 ∷ 130 ∷ 104 ∷ 252 ∷ 184 ∷ 238 ∷ 206 ∷ 238 ∷ 89 ∷ 218 ∷ 89 ∷ 50 ∷ 77 ∷ 91 ∷ 76 ∷ 123 ∷ 217 ∷ 139 ∷ 130 ∷ 12 ∷ 107 ∷ 251 ∷ 197 ∷ 168 ∷ 202 ∷ 182 ∷ 170 ∷ 138 ∷ 185 ∷ 170 ∷ 11 ∷ 97 ∷ []) ∷ []))

calls : List CallCase
calls =
    bw 1 0 4095 (p 4 26 ∷ p 12 43 ∷ p 0 60 ∷ []) gets r 13 2 0
    ∷ br 1 0 4094 (p 12 0 ∷ p 8 0 ∷ p 15 0 ∷ p 0 0 ∷ p 4 0 ∷ []) (1 ∷ 2 ∷ 3 ∷ 4 ∷ 5 ∷ 6 ∷ []) gets r 13 3 0 leaving (134217728 ∷ 6422528 ∷ 721420288 ∷ 4 ∷ 5 ∷ 6 ∷ [])
    ∷ bw 1 1 4095 (p 0 23884 ∷ p 11 28270 ∷ p 3 32639 ∷ []) gets r 13 2 0
    ∷ br 1 1 4095 (p 8 0 ∷ p 0 0 ∷ []) (8 ∷ 9 ∷ []) gets r 13 1 0 leaving (727842816 ∷ 9 ∷ [])
    ∷ bw 1 3 4093 (p 3 2147483648 ∷ p 15 2 ∷ p 0 3 ∷ p 0 4 ∷ []) gets r 13 3 0
    ∷ br 1 3 4094 (p 0 0 ∷ p 15 0 ∷ p 15 0 ∷ []) (0 ∷ 0 ∷ 0 ∷ []) gets r 13 2 0 leaving (144950258 ∷ 0 ∷ 0 ∷ [])
    ∷ bw 1 0 4096 (p 0 85 ∷ []) gets r 13 0 0
    ∷ br 1 0 4096 (p 0 0 ∷ p 12 0 ∷ []) (102 ∷ 102 ∷ []) gets r 13 0 0 leaving (102 ∷ 102 ∷ [])
    ∷ bw 1 0 4096 [] gets r 0 0 0
    ∷ bw 1 1 1073741824 (p 0 85 ∷ []) gets r 13 0 0
    ∷ br 1 1 1073741824 (p 0 0 ∷ p 12 0 ∷ []) (102 ∷ 102 ∷ []) gets r 13 0 0 leaving (102 ∷ 102 ∷ [])
    ∷ bw 1 1 1073741824 [] gets r 0 0 0
    ∷ bw 1 3 4294967295 (p 0 85 ∷ []) gets r 13 0 0
    ∷ br 1 3 4294967295 (p 0 0 ∷ p 12 0 ∷ []) (102 ∷ 102 ∷ []) gets r 13 0 0 leaving (102 ∷ 102 ∷ [])
    ∷ bw 1 3 4294967295 [] gets r 0 0 0
    ∷ bw 1 3 4095 (p 13 39168 ∷ []) gets r 0 1 0
    ∷ br 1 0 4095 (p 12 0 ∷ []) (77 ∷ []) gets r 0 1 0 leaving (0 ∷ [])
    ∷ d 1 1 0 16376 0 0 gets r 0 144950258 0
    ∷ d 1 1 0 16380 0 0 gets r 0 39171 0
    ∷ []

last : World
last =
    world
    (untouched (settings 0 64 16 32))
    (bytes ((0, 129 ∷ 105 ∷ 233 ∷ 3 ∷ 228 ∷ 32 ∷ 11 ∷ 89 ∷ 71 ∷ 143 ∷ 65 ∷ 114 ∷ 26 ∷ 193 ∷ 39 ∷ 187 ∷ 112 ∷ 209 ∷ 127 ∷ 135 ∷ []) ∷ (16344, 231 ∷ 46 ∷ 177 ∷ 197 ∷ 22 ∷ 185 ∷ 105 ∷ 81 ∷ 119 ∷ 240 ∷ 0 ∷ 128 ∷ 242 ∷ 195 ∷ 163 ∷ 8 ∷ 3 ∷ 153 ∷ 0 ∷ 0 ∷ []) ∷ []))
    (bytes ((0, 249 ∷ 158 ∷ 150 ∷ 152 ∷ 53 ∷ 175 ∷ 79 ∷ 118 ∷ 137 ∷ 187 ∷ 211 ∷ 216 ∷ 91 ∷ 161 ∷ 216 ∷ 60 ∷ 218 ∷ 81 ∷ 13 ∷ 195 ∷ 98 ∷ 229 ∷ 185 ∷ 95 ∷ 71 ∷ 249 ∷ 254 ∷ 224 ∷ 96 ∷ 229 ∷ 3 ∷ 195 ∷ 123 ∷ 130 ∷ 104 ∷ 252 ∷ 184 ∷ 238 ∷ 206 ∷ 238 ∷ 89 ∷ 218 ∷ 89 ∷ 50 ∷ 77 ∷ 91 ∷ 76 ∷ 123 ∷ 217 ∷ 139 ∷ 130 ∷ 12 ∷ 107 ∷ 251 ∷ 197 ∷ 168 ∷ 202 ∷ 182 ∷ 170 ∷ 138 ∷ 185 ∷ 170 ∷ 11 ∷ 97 ∷ []) ∷ []))

agrees : CallsAgree first calls last
unfolding first calls last access register_access sound fresh_card read_dword write_dword burst decode
agrees = refl
