-- Written by the independent program, oracle/: a list of direct and register accesses with its answers, and what it leaves.
use Rattle.std.specs.Prelude.{refl, true, false, List, [], ◌∷◌}
use Rattle.model.specs.Lanes.{read_dword, write_dword}
use Rattle.model.specs.State.{World, sound, fresh_card, with_dma}
use Rattle.model.specs.Accesses.{access}
use Rattle.model.specs.Registers.{register_access}
use Rattle.model.specs.Bench.{r, d, g, ◌gets◌, CallCase}
use Rattle.cases.specs.Vectors.{settings, pair, dma, untouched, world, bytes, CallsAgree}

first : World
first =
    world
    (with_dma (dma 0 0 81923 (pair false false) false true) (untouched (settings 4096 64 24 40)))
    (bytes ((0, 148 ∷ 197 ∷ 98 ∷ 170 ∷ 235 ∷ 191 ∷ 16 ∷ 153 ∷ 48 ∷ 62 ∷ 4 ∷ 117 ∷ 146 ∷ 36 ∷ 199 ∷ 31 ∷ 228 ∷ 48 ∷ 204 ∷ 55 ∷ []) ∷ (16340, 42 ∷ 183 ∷ 64 ∷ 121 ∷ 24 ∷ 96 ∷ 157 ∷ 98 ∷ 228 ∷ 92 ∷ 0 ∷ 36 ∷ 137 ∷ 149 ∷ 9 ∷ 18 ∷ 105 ∷ 249 ∷ 0 ∷ 15 ∷ []) ∷ []))
    (bytes ((0, 201 ∷ 195 ∷ 94 ∷ 164 ∷ 147 ∷ 189 ∷ 170 ∷ 202 ∷ 22 ∷ 252 ∷ 236 ∷ 73 ∷ 75 ∷ 152 ∷ 11 ∷ 168 ∷ 32 ∷ 186 ∷ 105 ∷ 80 ∷ 72 ∷ 222 ∷ 179 ∷ 203 ∷ 10 ∷ 11 ∷ 152 ∷ 85 ∷ 179 ∷ 124 ∷ 94 ∷ 131 ∷ 112 ∷ 96 ∷ 177 ∷ 118 ∷ 72 ∷ 31 ∷ 34 ∷ 167 ∷ 187 ∷ 209 ∷ 255 ∷ 65 ∷ 78 ∷ 129 ∷ 83 ∷ 201 ∷ 18 ∷ 162 ∷ 231 ∷ 165 ∷ 94 ∷ 219 ∷ 11 ∷ 47 ∷ 90 ∷ 47 ∷ 8 ∷ 242 ∷ 18 ∷ 211 ∷ 222 ∷ 200 ∷ []) ∷ []))

calls : List CallCase
calls =
    g 0 0x0040 0 0 gets r 1 0 0
    ∷ g 1 0x0044 0 0 gets r 1 0 0
    ∷ g 0 0x0048 1 0 gets r 1 0 0
    ∷ g 1 0x004c 1 0 gets r 1 0 0
    ∷ g 0 0x04b0 0 0 gets r 1 0 0
    ∷ g 1 0x04b4 0 0 gets r 1 0 0
    ∷ g 0 0x04b8 1 0 gets r 1 0 0
    ∷ g 1 0x04bc 1 0 gets r 1 0 0
    ∷ g 0 0x04c0 0 0 gets r 1 0 0
    ∷ g 1 0x04e4 0 0 gets r 1 0 0
    ∷ g 0 0x04e8 1 0 gets r 1 0 0
    ∷ g 1 0x04f4 1 0 gets r 1 0 0
    ∷ g 0 0x04f8 0 0 gets r 1 0 0
    ∷ g 0 0x4000 0 0 gets r 1 0 0
    ∷ g 1 0x7ffc 1 5 gets r 1 0 0
    ∷ g 0 0x04bc 1 1 gets r 1 0 0
    ∷ g 2 0x04bc 1 1 gets r 1 0 0
    ∷ g 0 0x0041 0 0 gets r 1 0 0
    ∷ g 1 0x0041 0 1 gets r 1 0 0
    ∷ g 1 0x04c0 2 0 gets r 1 0 0
    ∷ g 1 0x0040 0 1 gets r 1 0 0
    ∷ g 1 0x04e4 1 0 gets r 1 0 0
    ∷ d 0 0 0 0 0 0 gets r 1 0 0
    ∷ d 2 0 5 12 195939070 0 gets r 1 0 0
    ∷ d 5 1 1 0 0 0 gets r 1 0 0
    ∷ d 7 0 3 0 0 0 gets r 1 0 0
    ∷ d 11 0 0 0 0 0 gets r 1 0 0
    ∷ d 14 0 0 0 4096 8 gets r 1 0 0
    ∷ d 15 0 0 0 0 0 gets r 1 0 0
    ∷ []

last : World
last =
    world
    (with_dma (dma 0 0 81923 (pair false false) false true) (untouched (settings 4096 64 24 40)))
    (bytes ((0, 148 ∷ 197 ∷ 98 ∷ 170 ∷ 235 ∷ 191 ∷ 16 ∷ 153 ∷ 48 ∷ 62 ∷ 4 ∷ 117 ∷ 146 ∷ 36 ∷ 199 ∷ 31 ∷ 228 ∷ 48 ∷ 204 ∷ 55 ∷ []) ∷ (16340, 42 ∷ 183 ∷ 64 ∷ 121 ∷ 24 ∷ 96 ∷ 157 ∷ 98 ∷ 228 ∷ 92 ∷ 0 ∷ 36 ∷ 137 ∷ 149 ∷ 9 ∷ 18 ∷ 105 ∷ 249 ∷ 0 ∷ 15 ∷ []) ∷ []))
    (bytes ((0, 201 ∷ 195 ∷ 94 ∷ 164 ∷ 147 ∷ 189 ∷ 170 ∷ 202 ∷ 22 ∷ 252 ∷ 236 ∷ 73 ∷ 75 ∷ 152 ∷ 11 ∷ 168 ∷ 32 ∷ 186 ∷ 105 ∷ 80 ∷ 72 ∷ 222 ∷ 179 ∷ 203 ∷ 10 ∷ 11 ∷ 152 ∷ 85 ∷ 179 ∷ 124 ∷ 94 ∷ 131 ∷ 112 ∷ 96 ∷ 177 ∷ 118 ∷ 72 ∷ 31 ∷ 34 ∷ 167 ∷ 187 ∷ 209 ∷ 255 ∷ 65 ∷ 78 ∷ 129 ∷ 83 ∷ 201 ∷ 18 ∷ 162 ∷ 231 ∷ 165 ∷ 94 ∷ 219 ∷ 11 ∷ 47 ∷ 90 ∷ 47 ∷ 8 ∷ 242 ∷ 18 ∷ 211 ∷ 222 ∷ 200 ∷ []) ∷ []))

agrees : CallsAgree first calls last
unfolding first calls last access register_access sound fresh_card read_dword write_dword
agrees = refl
