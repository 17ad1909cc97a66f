-- Written by the independent program, oracle/: a list of direct and register accesses with its answers, and what it leaves.
use Rattle.std.specs.Prelude.{refl, true, false, List, [], ◌∷◌}
use Rattle.model.specs.Lanes.{read_dword, write_dword}
use Rattle.model.specs.State.{World, sound, fresh_card, fresh_world, with_arbitration, with_mailboxes, with_interrupts, with_dma}
use Rattle.model.specs.Accesses.{access}
use Rattle.model.specs.Registers.{register_access}
use Rattle.model.specs.Bench.{r, d, g, ◌gets◌, CallCase}
use Rattle.cases.specs.Vectors.{settings, pair, mail, interrupts, dma, untouched, world, bytes, CallsAgree}

first : World
first = fresh_world (settings 4096 64 24 40) (bytes ((0, 162 ∷ 50 ∷ 93 ∷ 145 ∷ 15 ∷ 25 ∷ 112 ∷ 51 ∷ 191 ∷ 67 ∷ 40 ∷ 19 ∷ 74 ∷ 203 ∷ 102 ∷ 21 ∷ 255 ∷ 172 ∷ 235 ∷ 200 ∷ []) ∷ (16344, 44 ∷ 229 ∷ 126 ∷ 103 ∷ 187 ∷ 242 ∷ 250 ∷ 227 ∷ 82 ∷ 219 ∷ 154 ∷ 78 ∷ 39 ∷ 29 ∷ 143 ∷ 30 ∷ 97 ∷ 69 ∷ 123 ∷ 15 ∷ []) ∷ [])) (bytes ((0, 70 ∷ 62 ∷ 76 ∷ 13 ∷ 209 ∷ 176 ∷ 42 ∷ 35 ∷ 216 ∷ 65 ∷ 109 ∷ 43 ∷ 16 ∷ 190 ∷ 87 ∷ 7 ∷ 37 ∷ 178 ∷ 220 ∷ 158 ∷ 229 ∷ 2 ∷ 137 ∷ 139 ∷ 227 ∷ 33 ∷ 110 ∷ 39 ∷ 252 ∷ 46 ∷ 215 ∷ 214 ∷ 212 ∷ 110 ∷ 86 ∷ 71 ∷ 17 ∷ 3 ∷ 98 ∷ 211 ∷ 93 ∷ 3 ∷ 28 ∷ 180 ∷ 29 ∷ 4 ∷ 168 ∷ 188 ∷ 15 ∷ 36 ∷ 176 ∷ 189 ∷ 191 ∷ 63 ∷ 141 ∷ 203 ∷ 37 ∷ 199 ∷ 72 ∷ 218 ∷ 68 ∷ 92 ∷ 165 ∷ 109 ∷ []) ∷ []))

calls : List CallCase
calls =
    g 0 0x0040 1 100 gets r 0 1 1
    ∷ g 1 0x0040 1 100 gets r 5 0 0
    ∷ g 0 0x0044 1 101 gets r 0 1 1
    ∷ g 1 0x0044 1 101 gets r 5 0 0
    ∷ g 0 0x0048 1 102 gets r 5 0 0
    ∷ g 1 0x0048 1 102 gets r 0 1 1
    ∷ g 0 0x004c 1 103 gets r 5 0 0
    ∷ g 1 0x004c 1 103 gets r 0 1 1
    ∷ g 0 0x0040 0 0 gets r 0 102 1
    ∷ g 1 0x0040 0 0 gets r 5 0 0
    ∷ g 0 0x0044 0 0 gets r 0 103 1
    ∷ g 1 0x0044 0 0 gets r 5 0 0
    ∷ g 0 0x0048 0 0 gets r 5 0 0
    ∷ g 1 0x0048 0 0 gets r 0 100 1
    ∷ g 0 0x004c 0 0 gets r 5 0 0
    ∷ g 1 0x004c 0 0 gets r 0 101 1
    ∷ g 0 0x04e8 1 16781876 gets r 0 0 0
    ∷ g 1 0x04e8 0 0 gets r 0 4660 0
    ∷ g 1 0x04e8 1 16777221 gets r 5 0 0
    ∷ g 0 0x04e8 0 0 gets r 0 4660 0
    ∷ g 0 0x04f8 1 16777222 gets r 5 0 0
    ∷ g 1 0x04f8 0 0 gets r 0 0 0
    ∷ g 1 0x04f8 1 16777239 gets r 0 0 0
    ∷ g 0 0x04f8 0 0 gets r 0 23 24
    ∷ g 0 0x04e4 1 1572864 gets r 0 0 0
    ∷ g 1 0x04e4 0 0 gets r 0 1572872 0
    ∷ g 1 0x04e4 1 524296 gets r 5 0 0
    ∷ g 0 0x04e4 0 0 gets r 0 1572872 0
    ∷ g 0 0x04f4 1 524296 gets r 5 0 0
    ∷ g 1 0x04f4 0 0 gets r 0 8 0
    ∷ g 1 0x04f4 1 19464192 gets r 0 0 0
    ∷ g 0 0x04f4 0 0 gets r 0 19464200 0
    ∷ g 0 0x04c0 1 65537 gets r 0 65537 0
    ∷ g 1 0x04c0 0 0 gets r 0 65537 0
    ∷ g 1 0x04c0 1 33686018 gets r 0 33554944 0
    ∷ g 0 0x04c0 0 0 gets r 0 33620481 0
    ∷ g 0 0x04b0 1 4294918163 gets r 0 0 0
    ∷ g 1 0x04b0 0 0 gets r 0 16 0
    ∷ g 1 0x04b0 1 8 gets r 0 0 0
    ∷ g 0 0x04b0 0 0 gets r 0 8 0
    ∷ g 0 0x04b4 1 4099 gets r 0 0 0
    ∷ g 1 0x04b4 0 0 gets r 0 4096 0
    ∷ g 1 0x04b4 1 4104 gets r 0 0 0
    ∷ g 0 0x04b4 0 0 gets r 0 4104 0
    ∷ g 0 0x04b8 1 4294950923 gets r 0 0 0
    ∷ g 1 0x04b8 0 0 gets r 0 8 0
    ∷ g 1 0x04b8 1 4 gets r 0 0 0
    ∷ g 0 0x04b8 0 0 gets r 0 4 0
    ∷ g 0 0x04bc 1 0 gets r 0 1 0
    ∷ g 0 0x04bc 0 0 gets r 0 0 0
    ∷ d 15 0 0 0 0 0 gets r 0 2 1
    ∷ g 1 0x04bc 1 515 gets r 0 1 0
    ∷ g 1 0x04bc 0 0 gets r 0 515 0
    ∷ d 15 1 0 0 0 0 gets r 0 2 1
    ∷ g 0 0x4000 1 2271560481 gets r 0 0 0
    ∷ g 1 0x4000 0 0 gets r 0 2271560481 0
    ∷ g 1 0x4000 1 16384 gets r 0 0 0
    ∷ g 0 0x4000 0 0 gets r 0 16384 0
    ∷ g 0 0x7ffc 1 2271560481 gets r 0 0 0
    ∷ g 1 0x7ffc 0 0 gets r 0 2271560481 0
    ∷ g 1 0x7ffc 1 32764 gets r 0 0 0
    ∷ g 0 0x7ffc 0 0 gets r 0 32764 0
    ∷ []

last : World
last =
    world
    (with_arbitration (pair true false ∷ pair false true ∷ pair true false ∷ pair false true ∷ []) (with_mailboxes (mail 4660 23 true) (with_interrupts (interrupts 24 40 297 40) (with_dma (dma 8 4104 4 (pair false true) true true) (untouched (settings 4096 64 24 40))))))
    (bytes ((1, 64 ∷ 0 ∷ 0 ∷ 15 ∷ 25 ∷ 112 ∷ 51 ∷ 216 ∷ 65 ∷ 109 ∷ 43 ∷ 74 ∷ 203 ∷ 102 ∷ 21 ∷ 255 ∷ 172 ∷ 235 ∷ 200 ∷ []) ∷ (16344, 44 ∷ 229 ∷ 126 ∷ 103 ∷ 187 ∷ 242 ∷ 250 ∷ 227 ∷ 82 ∷ 219 ∷ 154 ∷ 78 ∷ 39 ∷ 29 ∷ 143 ∷ 30 ∷ 252 ∷ 127 ∷ 0 ∷ 0 ∷ []) ∷ []))
    (bytes ((0, 70 ∷ 62 ∷ 76 ∷ 13 ∷ 209 ∷ 176 ∷ 42 ∷ 35 ∷ 216 ∷ 65 ∷ 109 ∷ 43 ∷ 16 ∷ 190 ∷ 87 ∷ 7 ∷ 37 ∷ 178 ∷ 220 ∷ 158 ∷ 229 ∷ 2 ∷ 137 ∷ 139 ∷ 227 ∷ 33 ∷ 110 ∷ 39 ∷ 252 ∷ 46 ∷ 215 ∷ 214 ∷ 212 ∷ 110 ∷ 86 ∷ 71 ∷ 17 ∷ 3 ∷ 98 ∷ 211 ∷ 93 ∷ 3 ∷ 28 ∷ 180 ∷ 29 ∷ 4 ∷ 168 ∷ 188 ∷ 15 ∷ 36 ∷ 176 ∷ 189 ∷ 191 ∷ 63 ∷ 141 ∷ 203 ∷ 37 ∷ 199 ∷ 72 ∷ 218 ∷ 68 ∷ 92 ∷ 165 ∷ 109 ∷ []) ∷ []))

agrees : CallsAgree first calls last
unfolding first calls last access register_access sound fresh_card read_dword write_dword
agrees = refl
