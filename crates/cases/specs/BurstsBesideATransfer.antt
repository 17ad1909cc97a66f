-- Written by the independent program, oracle/: a list of direct and register accesses and bursts with its answers, and what it leaves.
use Rattle.std.specs.Prelude.{refl, true, false, List, [], ◌∷◌}
use Rattle.model.specs.Lanes.{read_dword, write_dword}
use Rattle.model.specs.State.{World, sound, fresh_card, fresh_world, with_interrupts, with_dma}
use Rattle.model.specs.Accesses.{access}
use Rattle.model.specs.Registers.{register_access}
use Rattle.model.specs.Pins.{decode}
use Rattle.model.specs.Bursts.{burst}
use Rattle.model.specs.Bench.{r, d, g, p, bw, br, ◌gets◌, ◌gets◌leaving◌, CallCase}
use Rattle.cases.specs.Vectors.{settings, pair, interrupts, dma, untouched, world, bytes, CallsAgree}

first : World
first = fresh_world (settings 536870912 256 64 128) (bytes ((0, 200 ∷ 75 ∷ 4 ∷ 193 ∷ 211 ∷ 151 ∷ 122 ∷ 172 ∷ 59 ∷ 37 ∷ 232 ∷ 136 ∷ 29 ∷ 185 ∷ 231 ∷ 129 ∷ 165 ∷ 244 ∷ 19 ∷ 151 ∷ []) ∷ (16344, 181 ∷ 62 ∷ 62 ∷ 24 ∷ 236 ∷ 133 ∷ 219 ∷ 137 ∷ 91 ∷ 93 ∷ 133 ∷ 106 ∷ 111 ∷ 87 ∷ 249 ∷ 99 ∷ 46 ∷ 52 ∷ 4 ∷ 25 ∷ []) ∷ [])) (bytes ((0, 193 ∷ 125 ∷ 167 ∷ 135 ∷ 10 ∷ 34 ∷ 168 ∷ 44 ∷ 43 ∷ 198 ∷ 155 ∷ 116 ∷ 92 ∷ 49 ∷ 38 ∷ 147 ∷ 33 ∷ 150 ∷ 198 ∷ 102 ∷ []) ∷ (24, 119 ∷ 121 ∷ 186 ∷ 123 ∷ 141 ∷ 228 ∷ 235 ∷ 71 ∷ 92 ∷ 231 ∷ 231 ∷ 241 ∷ 161 ∷ 246 ∷ 110 ∷ 241 ∷ 118 ∷ 115 ∷ 185 ∷ 71 ∷ 230 ∷ 214 ∷ 125 ∷ 114 ∷ 236 ∷ 238 ∷ 35 ∷ 117 ∷ 34 ∷ 255 ∷ 28 ∷ 249 ∷ 71 ∷ 139 ∷ 193 ∷ 189 ∷ 18 ∷ 68 ∷ 106 ∷ 8 ∷ []) ∷ (24, 137 ∷ 222 ∷ 38 ∷ 146 ∷ 82 ∷ 177 ∷ 69 ∷ 143 ∷ 115 ∷ 193 ∷ 183 ∷ 27 ∷ 191 ∷ 76 ∷ 177 ∷ 78 ∷ 109 ∷ 135 ∷ 16 ∷ 38 ∷ 22 ∷ 40 ∷ 161 ∷ 209 ∷ 47 ∷ 67 ∷ 187 ∷ 54 ∷ 50 ∷ 137 ∷ 208 ∷ 207 ∷ 109 ∷ 55 ∷ 213 ∷ 6 ∷ 242 ∷ 197 ∷ 227 ∷ 246 ∷ []) ∷ (88, 103 ∷ 95 ∷ 224 ∷ 81 ∷ 133 ∷ 190 ∷ 85 ∷ 170 ∷ 113 ∷ 236 ∷ 188 ∷ 102 ∷ 228 ∷ 61 ∷ 129 ∷ 94 ∷ 149 ∷ 5 ∷ 64 ∷ 80 ∷ []) ∷ []))

calls : List CallCase
calls =
    g 0 0x04b0 1 4 gets r 0 0 0
    ∷ g 0 0x04b4 1 536870912 gets r 0 0 0
    ∷ g 0 0x04b8 1 12 gets r 0 0 0
    ∷ g 0 0x04bc 1 1 gets r 0 3 0
    ∷ bw 1 0 1 (p 8 49 ∷ p 12 65 ∷ p 0 82 ∷ []) gets r 0 3 0
    ∷ d 15 0 0 0 0 0 gets r 0 1 1
    ∷ bw 1 1 1 (p 8 45473 ∷ p 2 53697 ∷ []) gets r 0 2 0
    ∷ br 1 3 1 (p 0 0 ∷ p 0 0 ∷ []) (0 ∷ 0 ∷ 0 ∷ []) gets r 0 2 0 leaving (2980157395 ∷ 2296915393 ∷ 0 ∷ [])
    ∷ d 15 1 0 0 0 0 gets r 0 1 2
    ∷ bw 1 3 2 (p 0 67305985 ∷ p 0 134678021 ∷ []) gets r 0 2 0
    ∷ d 15 0 0 0 0 0 gets r 0 2 3
    ∷ d 3 0 0 536870912 0 0 gets r 0 1093769171 0
    ∷ d 3 0 0 536870916 0 0 gets r 0 2296915393 0
    ∷ d 3 0 0 536870920 0 0 gets r 0 134678021 0
    ∷ d 14 1 0 16376 536870916 8 gets r 0 2 0
    ∷ d 15 1 0 0 0 0 gets r 0 1 1
    ∷ bw 1 3 4094 (p 12 2863311530 ∷ p 0 3149642683 ∷ p 0 1 ∷ []) gets r 13 2 0
    ∷ br 1 0 4094 (p 8 0 ∷ p 12 0 ∷ p 4 0 ∷ []) (9 ∷ 9 ∷ 9 ∷ 9 ∷ []) gets r 0 3 0 leaving (15204352 ∷ 2281701376 ∷ 47872 ∷ 9 ∷ [])
    ∷ d 15 0 0 0 0 0 gets r 0 2 2
    ∷ br 1 1 4094 (p 0 0 ∷ p 8 0 ∷ p 1 0 ∷ p 10 0 ∷ p 0 0 ∷ []) (9 ∷ 9 ∷ 9 ∷ 9 ∷ 9 ∷ []) gets r 13 4 0 leaving (43690 ∷ 2296905728 ∷ 1536 ∷ 458752 ∷ 9 ∷ [])
    ∷ g 1 0x7ff8 0 0 gets r 0 2296949418 0
    ∷ g 0 0x04f4 0 0 gets r 0 32 0
    ∷ []

last : World
last =
    world
    (with_interrupts (interrupts 0 32 0 32) (with_dma (dma 4 536870912 12 (pair false false) false true) (untouched (settings 536870912 256 64 128))))
    (bytes ((0, 200 ∷ 75 ∷ 4 ∷ 193 ∷ 211 ∷ 151 ∷ 161 ∷ 177 ∷ 1 ∷ 2 ∷ 3 ∷ 4 ∷ 5 ∷ 6 ∷ 7 ∷ 8 ∷ 165 ∷ 244 ∷ 19 ∷ 151 ∷ []) ∷ (16344, 181 ∷ 62 ∷ 62 ∷ 24 ∷ 236 ∷ 133 ∷ 219 ∷ 137 ∷ 91 ∷ 93 ∷ 133 ∷ 106 ∷ 170 ∷ 170 ∷ 232 ∷ 136 ∷ 5 ∷ 6 ∷ 7 ∷ 8 ∷ []) ∷ []))
    (bytes ((0, 211 ∷ 151 ∷ 49 ∷ 65 ∷ 193 ∷ 37 ∷ 232 ∷ 136 ∷ 5 ∷ 6 ∷ 7 ∷ 8 ∷ 92 ∷ 49 ∷ 38 ∷ 147 ∷ 33 ∷ 150 ∷ 198 ∷ 102 ∷ []) ∷ (24, 119 ∷ 121 ∷ 186 ∷ 123 ∷ 141 ∷ 228 ∷ 235 ∷ 71 ∷ 92 ∷ 231 ∷ 231 ∷ 241 ∷ 161 ∷ 246 ∷ 110 ∷ 241 ∷ 118 ∷ 115 ∷ 185 ∷ 71 ∷ 230 ∷ 214 ∷ 125 ∷ 114 ∷ 236 ∷ 238 ∷ 35 ∷ 117 ∷ 34 ∷ 255 ∷ 28 ∷ 249 ∷ 71 ∷ 139 ∷ 193 ∷ 189 ∷ 18 ∷ 68 ∷ 106 ∷ 8 ∷ []) ∷ (24, 137 ∷ 222 ∷ 38 ∷ 146 ∷ 82 ∷ 177 ∷ 69 ∷ 143 ∷ 115 ∷ 193 ∷ 183 ∷ 27 ∷ 191 ∷ 76 ∷ 177 ∷ 78 ∷ 109 ∷ 135 ∷ 16 ∷ 38 ∷ 22 ∷ 40 ∷ 161 ∷ 209 ∷ 47 ∷ 67 ∷ 187 ∷ 54 ∷ 50 ∷ 137 ∷ 208 ∷ 207 ∷ 109 ∷ 55 ∷ 213 ∷ 6 ∷ 242 ∷ 197 ∷ 227 ∷ 246 ∷ []) ∷ (88, 103 ∷ 95 ∷ 224 ∷ 81 ∷ 133 ∷ 190 ∷ 85 ∷ 170 ∷ 113 ∷ 236 ∷ 188 ∷ 102 ∷ 228 ∷ 61 ∷ 129 ∷ 94 ∷ 149 ∷ 5 ∷ 64 ∷ 80 ∷ []) ∷ []))

agrees : CallsAgree first calls last
unfolding first calls last access register_access sound fresh_card read_dword write_dword burst decode
agrees = refl
