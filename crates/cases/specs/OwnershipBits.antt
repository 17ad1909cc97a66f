-- Written by the independent program, oracle/: a list of direct and register accesses with its answers, and what it leaves.
use Rattle.std.specs.Prelude.{refl, true, false, List, [], ◌∷◌}
use Rattle.model.specs.Lanes.{read_dword, write_dword}
use Rattle.model.specs.Transfer.{running}
use Rattle.model.specs.State.{World, sound, fresh_card, fresh_world, with_transfer, with_dma}
use Rattle.model.specs.Accesses.{access}
use Rattle.model.specs.Registers.{register_access}
use Rattle.model.specs.Bench.{r, d, g, ◌gets◌, CallCase}
use Rattle.cases.specs.Vectors.{settings, pair, request, dma, untouched, world, bytes, CallsAgree}

first : World
first = fresh_world (settings 4096 64 24 40) (bytes ((0, 49 ∷ 80 ∷ 180 ∷ 146 ∷ 236 ∷ 143 ∷ 200 ∷ 29 ∷ 16 ∷ 117 ∷ 118 ∷ 13 ∷ 123 ∷ 208 ∷ 141 ∷ 177 ∷ 73 ∷ 41 ∷ 181 ∷ 98 ∷ []) ∷ (16344, 251 ∷ 158 ∷ 153 ∷ 16 ∷ 73 ∷ 200 ∷ 110 ∷ 143 ∷ 218 ∷ 208 ∷ 99 ∷ 201 ∷ 216 ∷ 132 ∷ 93 ∷ 235 ∷ 227 ∷ 57 ∷ 240 ∷ 24 ∷ []) ∷ [])) (bytes ((0, 192 ∷ 46 ∷ 94 ∷ 163 ∷ 150 ∷ 25 ∷ 184 ∷ 105 ∷ 241 ∷ 83 ∷ 216 ∷ 195 ∷ 112 ∷ 154 ∷ 198 ∷ 0 ∷ 90 ∷ 38 ∷ 144 ∷ 181 ∷ 72 ∷ 89 ∷ 144 ∷ 72 ∷ 150 ∷ 243 ∷ 208 ∷ 142 ∷ 145 ∷ 226 ∷ 204 ∷ 174 ∷ 133 ∷ 168 ∷ 63 ∷ 26 ∷ 140 ∷ 246 ∷ 125 ∷ 226 ∷ 211 ∷ 40 ∷ 239 ∷ 109 ∷ 90 ∷ 181 ∷ 57 ∷ 104 ∷ 152 ∷ 56 ∷ 235 ∷ 226 ∷ 163 ∷ 3 ∷ 95 ∷ 90 ∷ 196 ∷ 243 ∷ 194 ∷ 185 ∷ 253 ∷ 144 ∷ 121 ∷ 32 ∷ []) ∷ []))

calls : List CallCase
calls =
    g 0 0x04b0 1 4 gets r 0 0 0
    ∷ g 0 0x04b4 1 4100 gets r 0 0 0
    ∷ g 0 0x04b8 1 4 gets r 0 0 0
    ∷ g 1 0x04bc 1 256 gets r 0 1 0
    ∷ g 0 0x04bc 0 0 gets r 0 0 0
    ∷ d 15 1 0 0 0 0 gets r 0 2 1
    ∷ g 0 0x04bc 1 512 gets r 0 1 0
    ∷ g 1 0x04bc 0 0 gets r 0 0 0
    ∷ d 15 0 0 0 0 0 gets r 0 2 1
    ∷ g 0 0x04bc 1 768 gets r 0 1 0
    ∷ g 1 0x04bc 0 0 gets r 0 256 0
    ∷ d 15 0 0 0 0 0 gets r 0 2 1
    ∷ g 1 0x04bc 1 769 gets r 0 1 0
    ∷ g 0 0x04bc 0 0 gets r 0 257 0
    ∷ d 15 1 0 0 0 0 gets r 0 2 1
    ∷ g 1 0x04bc 1 2 gets r 0 1 0
    ∷ g 0 0x04bc 0 0 gets r 0 258 0
    ∷ d 15 1 0 0 0 0 gets r 0 2 1
    ∷ g 0 0x04bc 1 257 gets r 0 1 0
    ∷ g 1 0x04bc 0 0 gets r 0 257 0
    ∷ d 15 0 0 0 0 0 gets r 0 2 1
    ∷ g 0 0x04bc 1 4294967036 gets r 0 1 0
    ∷ g 1 0x04bc 0 0 gets r 0 0 0
    ∷ d 15 0 0 0 0 0 gets r 0 2 1
    ∷ g 1 0x04bc 1 515 gets r 0 1 0
    ∷ g 0 0x04bc 0 0 gets r 0 515 0
    ∷ d 15 1 0 0 0 0 gets r 0 2 1
    ∷ g 0 0x04bc 1 258 gets r 0 1 0
    ∷ g 1 0x04bc 0 0 gets r 0 514 0
    ∷ d 15 0 0 0 0 0 gets r 0 2 1
    ∷ g 0 0x04bc 1 1 gets r 0 1 0
    ∷ g 1 0x04bc 0 0 gets r 0 513 0
    ∷ d 15 0 0 0 0 0 gets r 0 2 1
    ∷ g 1 0x04bc 1 4294967295 gets r 0 1 0
    ∷ g 0 0x04bc 0 0 gets r 0 515 0
    ∷ d 15 1 0 0 0 0 gets r 0 2 1
    ∷ g 1 0x04bc 1 256 gets r 0 1 0
    ∷ g 0 0x04bc 0 0 gets r 0 0 0
    ∷ d 15 1 0 0 0 0 gets r 0 2 1
    ∷ g 0 0x04bc 1 259 gets r 0 1 0
    ∷ g 1 0x04bc 0 0 gets r 0 259 0
    ∷ d 15 0 0 0 0 0 gets r 0 2 1
    ∷ g 1 0x04bc 1 512 gets r 0 1 0
    ∷ g 0 0x04bc 0 0 gets r 0 256 0
    ∷ d 15 1 0 0 0 0 gets r 0 2 1
    ∷ g 1 0x04bc 1 0 gets r 0 1 0
    ∷ g 0 0x04bc 0 0 gets r 0 256 0
    ∷ d 15 1 0 0 0 0 gets r 0 2 1
    ∷ d 0 0 0 0 0 0 gets r 0 0 0
    ∷ g 1 0x04bc 0 0 gets r 0 0 0
    ∷ g 1 0x04b0 1 4 gets r 0 0 0
    ∷ g 1 0x04b4 1 4100 gets r 0 0 0
    ∷ g 1 0x04b8 1 4 gets r 0 0 0
    ∷ g 1 0x04bc 1 514 gets r 0 1 0
    ∷ g 1 0x04bc 0 0 gets r 0 514 0
    ∷ []

last : World
last =
    world
    (with_transfer (running (request 0 4 4100 4) 0) (with_dma (dma 4 4100 4 (pair false true) true false) (untouched (settings 4096 64 24 40))))
    (bytes ((0, 49 ∷ 80 ∷ 180 ∷ 146 ∷ 150 ∷ 25 ∷ 184 ∷ 105 ∷ 16 ∷ 117 ∷ 118 ∷ 13 ∷ 123 ∷ 208 ∷ 141 ∷ 177 ∷ 73 ∷ 41 ∷ 181 ∷ 98 ∷ []) ∷ (16344, 251 ∷ 158 ∷ 153 ∷ 16 ∷ 73 ∷ 200 ∷ 110 ∷ 143 ∷ 218 ∷ 208 ∷ 99 ∷ 201 ∷ 216 ∷ 132 ∷ 93 ∷ 235 ∷ 227 ∷ 57 ∷ 240 ∷ 24 ∷ []) ∷ []))
    (bytes ((0, 192 ∷ 46 ∷ 94 ∷ 163 ∷ 150 ∷ 25 ∷ 184 ∷ 105 ∷ 241 ∷ 83 ∷ 216 ∷ 195 ∷ 112 ∷ 154 ∷ 198 ∷ 0 ∷ 90 ∷ 38 ∷ 144 ∷ 181 ∷ 72 ∷ 89 ∷ 144 ∷ 72 ∷ 150 ∷ 243 ∷ 208 ∷ 142 ∷ 145 ∷ 226 ∷ 204 ∷ 174 ∷ 133 ∷ 168 ∷ 63 ∷ 26 ∷ 140 ∷ 246 ∷ 125 ∷ 226 ∷ 211 ∷ 40 ∷ 239 ∷ 109 ∷ 90 ∷ 181 ∷ 57 ∷ 104 ∷ 152 ∷ 56 ∷ 235 ∷ 226 ∷ 163 ∷ 3 ∷ 95 ∷ 90 ∷ 196 ∷ 243 ∷ 194 ∷ 185 ∷ 253 ∷ 144 ∷ 121 ∷ 32 ∷ []) ∷ []))

agrees : CallsAgree first calls last
unfolding first calls last access register_access sound fresh_card read_dword write_dword
agrees = refl
