-- Written by the independent program, oracle/: a list of direct and register accesses with its answers, and what it leaves.
use Rattle.std.specs.Prelude.{refl, false, List, [], ◌∷◌}
use Rattle.model.specs.Lanes.{read_dword, write_dword}
use Rattle.model.specs.Transfer.{running}
use Rattle.model.specs.State.{World, sound, fresh_card, fresh_world, with_transfer, with_dma}
use Rattle.model.specs.Accesses.{access}
use Rattle.model.specs.Registers.{register_access}
use Rattle.model.specs.Bench.{r, g, ◌gets◌, CallCase}
use Rattle.cases.specs.Vectors.{settings, pair, request, dma, untouched, world, bytes, CallsAgree}

first : World
first = fresh_world (settings 4096 64 24 40) (bytes ((0, 27 ∷ 149 ∷ 57 ∷ 32 ∷ 7 ∷ 24 ∷ 97 ∷ 169 ∷ 92 ∷ 212 ∷ 39 ∷ 175 ∷ 178 ∷ 179 ∷ 0 ∷ 123 ∷ 249 ∷ 168 ∷ 127 ∷ 189 ∷ []) ∷ (16344, 163 ∷ 224 ∷ 218 ∷ 162 ∷ 189 ∷ 202 ∷ 124 ∷ 102 ∷ 76 ∷ 100 ∷ 181 ∷ 179 ∷ 144 ∷ 142 ∷ 25 ∷ 101 ∷ 234 ∷ 146 ∷ 215 ∷ 230 ∷ []) ∷ [])) (bytes ((0, 89 ∷ 229 ∷ 150 ∷ 11 ∷ 62 ∷ 214 ∷ 137 ∷ 195 ∷ 81 ∷ 155 ∷ 84 ∷ 32 ∷ 183 ∷ 109 ∷ 138 ∷ 88 ∷ 10 ∷ 237 ∷ 247 ∷ 161 ∷ 241 ∷ 157 ∷ 148 ∷ 126 ∷ 156 ∷ 109 ∷ 176 ∷ 10 ∷ 57 ∷ 83 ∷ 30 ∷ 89 ∷ 90 ∷ 95 ∷ 149 ∷ 140 ∷ 177 ∷ 221 ∷ 197 ∷ 214 ∷ 88 ∷ 150 ∷ 170 ∷ 146 ∷ 167 ∷ 97 ∷ 5 ∷ 136 ∷ 26 ∷ 193 ∷ 197 ∷ 122 ∷ 74 ∷ 93 ∷ 138 ∷ 252 ∷ 121 ∷ 231 ∷ 105 ∷ 150 ∷ 227 ∷ 184 ∷ 134 ∷ 169 ∷ []) ∷ []))

calls : List CallCase
calls =
    g 0 0x0000 0 0 gets r 11 0 0
    ∷ g 1 0x0030 0 0 gets r 11 0 0
    ∷ g 0 0x0034 1 0 gets r 11 0 0
    ∷ g 1 0x0038 1 0 gets r 11 0 0
    ∷ g 0 0x003c 0 0 gets r 11 0 0
    ∷ g 1 0x0460 0 0 gets r 11 0 0
    ∷ g 0 0x04a0 1 0 gets r 11 0 0
    ∷ g 1 0x04a4 1 0 gets r 11 0 0
    ∷ g 0 0x04a8 0 0 gets r 11 0 0
    ∷ g 1 0x04e0 0 0 gets r 11 0 0
    ∷ g 0 0x04fc 1 0 gets r 11 0 0
    ∷ g 1 0x0041 1 0 gets r 11 0 0
    ∷ g 0 0x04b1 0 0 gets r 11 0 0
    ∷ g 1 0x0800 0 0 gets r 11 0 0
    ∷ g 0 0x2000 1 0 gets r 11 0 0
    ∷ g 1 0x3ffc 1 0 gets r 11 0 0
    ∷ g 0 0x4001 0 0 gets r 11 0 0
    ∷ g 1 0x8000 0 0 gets r 11 0 0
    ∷ g 0 0x10040 1 0 gets r 11 0 0
    ∷ g 1 0x800004bc 1 0 gets r 11 0 0
    ∷ g 0 0x14000 0 0 gets r 11 0 0
    ∷ g 1 0x80004000 0 0 gets r 11 0 0
    ∷ g 0 0x0041 0 1 gets r 11 0 0
    ∷ g 1 0x0030 2 0 gets r 11 0 0
    ∷ g 0 0x2000 255 1 gets r 11 0 0
    ∷ g 2 0x0041 0 1 gets r 2 0 0
    ∷ g 2 0x0040 0 1 gets r 2 0 0
    ∷ g 255 0x04e4 2 0 gets r 2 0 0
    ∷ g 2 0x04f8 1 0 gets r 2 0 0
    ∷ g 2 0x04bc 1 1 gets r 2 0 0
    ∷ g 0 0x04bc 0 1 gets r 3 0 0
    ∷ g 1 0x0040 0 1 gets r 3 0 0
    ∷ g 1 0x0040 2 0 gets r 4 0 0
    ∷ g 0 0x04bc 2 1 gets r 4 0 0
    ∷ g 1 0x4000 255 7 gets r 4 0 0
    ∷ g 0 0x0048 0 0 gets r 5 0 0
    ∷ g 1 0x0044 1 9 gets r 5 0 0
    ∷ g 0 0x04f8 1 16777221 gets r 5 0 0
    ∷ g 1 0x04e4 1 67044351 gets r 5 0 0
    ∷ g 0 0x04bc 1 771 gets r 7 0 0
    ∷ g 1 0x04bc 1 771 gets r 7 0 0
    ∷ g 0 0x04b0 1 16380 gets r 0 0 0
    ∷ g 0 0x04b4 1 4096 gets r 0 0 0
    ∷ g 0 0x04b8 1 8 gets r 0 0 0
    ∷ g 0 0x04bc 1 771 gets r 9 0 0
    ∷ g 0 0x04b0 1 0 gets r 0 0 0
    ∷ g 1 0x04b4 1 4294967292 gets r 0 0 0
    ∷ g 1 0x04bc 1 771 gets r 9 0 0
    ∷ g 1 0x04b4 1 4096 gets r 0 0 0
    ∷ g 1 0x04bc 0 0 gets r 0 0 0
    ∷ g 0 0x04bc 1 0 gets r 0 2 0
    ∷ g 0 0x04bc 1 771 gets r 6 0 0
    ∷ g 1 0x04bc 1 771 gets r 6 0 0
    ∷ g 0 0x04b8 1 16384 gets r 0 0 0
    ∷ g 1 0x04bc 1 771 gets r 6 0 0
    ∷ g 0 0x04b8 1 16380 gets r 0 0 0
    ∷ g 1 0x04b0 1 8 gets r 0 0 0
    ∷ g 0 0x04bc 1 771 gets r 6 0 0
    ∷ g 2 0x04bc 1 771 gets r 2 0 0
    ∷ g 0 0x04bc 0 0 gets r 0 0 0
    ∷ []

last : World
last =
    world
    (with_transfer (running (request 0 0 4096 8) 0) (with_dma (dma 8 4096 16380 (pair false false) false false) (untouched (settings 4096 64 24 40))))
    (bytes ((0, 27 ∷ 149 ∷ 57 ∷ 32 ∷ 7 ∷ 24 ∷ 97 ∷ 169 ∷ 92 ∷ 212 ∷ 39 ∷ 175 ∷ 178 ∷ 179 ∷ 0 ∷ 123 ∷ 249 ∷ 168 ∷ 127 ∷ 189 ∷ []) ∷ (16344, 163 ∷ 224 ∷ 218 ∷ 162 ∷ 189 ∷ 202 ∷ 124 ∷ 102 ∷ 76 ∷ 100 ∷ 181 ∷ 179 ∷ 144 ∷ 142 ∷ 25 ∷ 101 ∷ 234 ∷ 146 ∷ 215 ∷ 230 ∷ []) ∷ []))
    (bytes ((0, 89 ∷ 229 ∷ 150 ∷ 11 ∷ 62 ∷ 214 ∷ 137 ∷ 195 ∷ 81 ∷ 155 ∷ 84 ∷ 32 ∷ 183 ∷ 109 ∷ 138 ∷ 88 ∷ 10 ∷ 237 ∷ 247 ∷ 161 ∷ 241 ∷ 157 ∷ 148 ∷ 126 ∷ 156 ∷ 109 ∷ 176 ∷ 10 ∷ 57 ∷ 83 ∷ 30 ∷ 89 ∷ 90 ∷ 95 ∷ 149 ∷ 140 ∷ 177 ∷ 221 ∷ 197 ∷ 214 ∷ 88 ∷ 150 ∷ 170 ∷ 146 ∷ 167 ∷ 97 ∷ 5 ∷ 136 ∷ 26 ∷ 193 ∷ 197 ∷ 122 ∷ 74 ∷ 93 ∷ 138 ∷ 252 ∷ 121 ∷ 231 ∷ 105 ∷ 150 ∷ 227 ∷ 184 ∷ 134 ∷ 169 ∷ []) ∷ []))

agrees : CallsAgree first calls last
unfolding first calls last access register_access sound fresh_card read_dword write_dword
agrees = refl
