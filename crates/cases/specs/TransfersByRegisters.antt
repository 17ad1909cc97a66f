-- Written by the independent program, oracle/: a list of direct and register accesses with its answers, and what it leaves.
use Rattle.std.specs.Prelude.{refl, List, [], ◌∷◌}
use Rattle.model.specs.Lanes.{read_dword, write_dword}
use Rattle.model.specs.State.{World, sound, fresh_card, fresh_world}
use Rattle.model.specs.Accesses.{access}
use Rattle.model.specs.Registers.{register_access}
use Rattle.model.specs.Bench.{r, d, g, ◌gets◌, CallCase}
use Rattle.cases.specs.Vectors.{settings, untouched, world, bytes, CallsAgree}

first : World
first = fresh_world (settings 536870912 256 64 128) (bytes ((0, 117 ∷ 145 ∷ 83 ∷ 174 ∷ 15 ∷ 177 ∷ 113 ∷ 59 ∷ 58 ∷ 18 ∷ 221 ∷ 26 ∷ 248 ∷ 218 ∷ 59 ∷ 115 ∷ 3 ∷ 192 ∷ 56 ∷ 207 ∷ []) ∷ (16344, 162 ∷ 33 ∷ 41 ∷ 148 ∷ 90 ∷ 122 ∷ 169 ∷ 44 ∷ 166 ∷ 109 ∷ 195 ∷ 95 ∷ 225 ∷ 61 ∷ 1 ∷ 78 ∷ 151 ∷ 1 ∷ 183 ∷ 130 ∷ []) ∷ [])) (bytes ((0, 161 ∷ 45 ∷ 225 ∷ 145 ∷ 80 ∷ 163 ∷ 227 ∷ 172 ∷ 143 ∷ 92 ∷ 31 ∷ 68 ∷ 53 ∷ 244 ∷ 80 ∷ 42 ∷ 172 ∷ 138 ∷ 154 ∷ 243 ∷ []) ∷ (24, 246 ∷ 154 ∷ 132 ∷ 62 ∷ 23 ∷ 9 ∷ 190 ∷ 159 ∷ 254 ∷ 17 ∷ 16 ∷ 23 ∷ 33 ∷ 205 ∷ 85 ∷ 198 ∷ 251 ∷ 151 ∷ 234 ∷ 128 ∷ 182 ∷ 159 ∷ 191 ∷ 102 ∷ 6 ∷ 181 ∷ 166 ∷ 99 ∷ 180 ∷ 207 ∷ 38 ∷ 61 ∷ 24 ∷ 132 ∷ 219 ∷ 153 ∷ 158 ∷ 235 ∷ 183 ∷ 89 ∷ []) ∷ (24, 127 ∷ 220 ∷ 189 ∷ 47 ∷ 100 ∷ 2 ∷ 81 ∷ 5 ∷ 31 ∷ 50 ∷ 231 ∷ 161 ∷ 75 ∷ 36 ∷ 71 ∷ 217 ∷ 8 ∷ 227 ∷ 137 ∷ 184 ∷ 83 ∷ 232 ∷ 169 ∷ 166 ∷ 201 ∷ 236 ∷ 12 ∷ 249 ∷ 133 ∷ 171 ∷ 91 ∷ 17 ∷ 64 ∷ 27 ∷ 3 ∷ 74 ∷ 140 ∷ 53 ∷ 3 ∷ 110 ∷ []) ∷ (88, 30 ∷ 182 ∷ 15 ∷ 34 ∷ 134 ∷ 155 ∷ 228 ∷ 97 ∷ 145 ∷ 105 ∷ 235 ∷ 56 ∷ 183 ∷ 104 ∷ 1 ∷ 231 ∷ 202 ∷ 103 ∷ 59 ∷ 173 ∷ []) ∷ []))

calls : List CallCase
calls =
    g 0 0x04b0 1 8 gets r 0 0 0
    ∷ g 0 0x04b4 1 536870912 gets r 0 0 0
    ∷ g 0 0x04b8 1 8 gets r 0 0 0
    ∷ g 0 0x04bc 1 1 gets r 0 2 0
    ∷ d 15 0 0 0 0 0 gets r 0 1 1
    ∷ d 15 1 0 0 0 0 gets r 0 2 2
    ∷ g 1 0x04b0 0 0 gets r 0 8 0
    ∷ g 1 0x04b4 0 0 gets r 0 536870912 0
    ∷ g 1 0x04b8 0 0 gets r 0 8 0
    ∷ g 1 0x04bc 0 0 gets r 0 1 0
    ∷ g 1 0x04b4 1 536870972 gets r 0 0 0
    ∷ g 0 0x04b8 1 12 gets r 0 0 0
    ∷ g 1 0x04bc 1 0 gets r 0 3 0
    ∷ d 15 0 0 0 0 0 gets r 0 1 1
    ∷ d 15 1 0 0 0 0 gets r 0 3 1
    ∷ g 0 0x04b4 1 536871164 gets r 0 0 0
    ∷ g 0 0x04bc 1 3 gets r 0 3 0
    ∷ d 15 0 0 0 0 0 gets r 0 1 1
    ∷ d 15 1 0 0 0 0 gets r 0 4 1
    ∷ g 0 0x04b0 0 0 gets r 0 8 0
    ∷ g 0 0x04b4 0 0 gets r 0 536871164 0
    ∷ g 0 0x04b8 0 0 gets r 0 12 0
    ∷ g 0 0x04bc 0 0 gets r 0 3 0
    ∷ g 1 0x04b8 1 3 gets r 0 0 0
    ∷ g 1 0x04bc 1 512 gets r 7 0 0
    ∷ g 1 0x04b8 1 8 gets r 0 0 0
    ∷ g 1 0x04b0 1 16380 gets r 0 0 0
    ∷ g 0 0x04bc 1 256 gets r 9 0 0
    ∷ g 0 0x04bc 0 0 gets r 0 3 0
    ∷ g 0 0x04b0 1 16 gets r 0 0 0
    ∷ g 0 0x04b4 1 536870912 gets r 0 0 0
    ∷ g 0 0x04b8 1 8 gets r 0 0 0
    ∷ g 1 0x04bc 1 513 gets r 0 2 0
    ∷ g 1 0x04b0 1 4294967295 gets r 0 0 0
    ∷ g 1 0x04b4 1 536870916 gets r 0 0 0
    ∷ g 1 0x04b8 1 4 gets r 0 0 0
    ∷ g 0 0x04bc 1 0 gets r 6 0 0
    ∷ d 14 0 0 0 536870912 4 gets r 6 0 0
    ∷ g 0 0x04b0 0 0 gets r 0 16380 0
    ∷ g 0 0x04b4 0 0 gets r 0 536870916 0
    ∷ g 0 0x04b8 0 0 gets r 0 4 0
    ∷ g 0 0x04bc 0 0 gets r 0 513 0
    ∷ d 15 0 0 0 0 0 gets r 0 1 1
    ∷ d 15 1 0 0 0 0 gets r 0 2 2
    ∷ d 14 0 0 24 536870920 8 gets r 0 2 0
    ∷ g 0 0x04bc 1 258 gets r 6 0 0
    ∷ d 15 0 0 0 0 0 gets r 0 1 1
    ∷ g 0 0x04bc 0 0 gets r 0 513 0
    ∷ d 15 1 0 0 0 0 gets r 0 2 2
    ∷ g 1 0x04bc 1 2 gets r 0 1 0
    ∷ d 15 0 0 0 0 0 gets r 0 2 1
    ∷ g 1 0x04b0 0 0 gets r 0 16380 0
    ∷ g 1 0x04b4 0 0 gets r 0 536870916 0
    ∷ g 1 0x04b8 0 0 gets r 0 4 0
    ∷ g 1 0x04bc 0 0 gets r 0 2 0
    ∷ d 0 1 0 0 0 0 gets r 0 0 0
    ∷ g 0 0x04b0 0 0 gets r 0 0 0
    ∷ g 0 0x04b4 0 0 gets r 0 0 0
    ∷ g 0 0x04b8 0 0 gets r 0 0 0
    ∷ g 0 0x04bc 0 0 gets r 0 0 0
    ∷ g 1 0x04bc 1 1 gets r 7 0 0
    ∷ []

last : World
last =
    world
    (untouched (settings 536870912 256 64 128))
    (bytes ((0, 117 ∷ 145 ∷ 83 ∷ 174 ∷ 15 ∷ 177 ∷ 113 ∷ 59 ∷ 251 ∷ 151 ∷ 234 ∷ 128 ∷ 248 ∷ 218 ∷ 59 ∷ 115 ∷ 3 ∷ 192 ∷ 56 ∷ 207 ∷ 0 ∷ 0 ∷ 0 ∷ 0 ∷ 143 ∷ 92 ∷ 31 ∷ 68 ∷ 53 ∷ 244 ∷ 80 ∷ 42 ∷ []) ∷ (16332, 162 ∷ 33 ∷ 41 ∷ 148 ∷ 90 ∷ 122 ∷ 169 ∷ 44 ∷ 166 ∷ 109 ∷ 195 ∷ 95 ∷ 225 ∷ 61 ∷ 1 ∷ 78 ∷ 0 ∷ 0 ∷ 0 ∷ 0 ∷ []) ∷ []))
    (bytes ((0, 3 ∷ 192 ∷ 56 ∷ 207 ∷ 0 ∷ 0 ∷ 0 ∷ 0 ∷ 143 ∷ 92 ∷ 31 ∷ 68 ∷ 53 ∷ 244 ∷ 80 ∷ 42 ∷ 172 ∷ 138 ∷ 154 ∷ 243 ∷ []) ∷ (24, 246 ∷ 154 ∷ 132 ∷ 62 ∷ 23 ∷ 9 ∷ 190 ∷ 159 ∷ 254 ∷ 17 ∷ 16 ∷ 23 ∷ 33 ∷ 205 ∷ 85 ∷ 198 ∷ 251 ∷ 151 ∷ 234 ∷ 128 ∷ 182 ∷ 159 ∷ 191 ∷ 102 ∷ 6 ∷ 181 ∷ 166 ∷ 99 ∷ 180 ∷ 207 ∷ 38 ∷ 61 ∷ 24 ∷ 132 ∷ 219 ∷ 153 ∷ 158 ∷ 235 ∷ 183 ∷ 89 ∷ []) ∷ (24, 127 ∷ 220 ∷ 189 ∷ 47 ∷ 100 ∷ 2 ∷ 81 ∷ 5 ∷ 31 ∷ 50 ∷ 231 ∷ 161 ∷ 75 ∷ 36 ∷ 71 ∷ 217 ∷ 8 ∷ 227 ∷ 137 ∷ 184 ∷ 83 ∷ 232 ∷ 169 ∷ 166 ∷ 201 ∷ 236 ∷ 12 ∷ 249 ∷ 133 ∷ 171 ∷ 91 ∷ 17 ∷ 64 ∷ 27 ∷ 3 ∷ 74 ∷ 140 ∷ 53 ∷ 3 ∷ 110 ∷ []) ∷ (88, 30 ∷ 182 ∷ 15 ∷ 34 ∷ 134 ∷ 155 ∷ 228 ∷ 97 ∷ 145 ∷ 105 ∷ 235 ∷ 56 ∷ 183 ∷ 104 ∷ 1 ∷ 231 ∷ 251 ∷ 151 ∷ 234 ∷ 128 ∷ []) ∷ []))

agrees : CallsAgree first calls last
unfolding first calls last access register_access sound fresh_card read_dword write_dword
agrees = refl
