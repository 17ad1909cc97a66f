-- Written by the independent program, oracle/: a list of direct and register accesses with its answers, and what it leaves.
use Rattle.std.specs.Prelude.{refl, true, false, List, [], ◌∷◌}
use Rattle.model.specs.Lanes.{read_dword, write_dword}
use Rattle.model.specs.State.{World, sound, fresh_card, fresh_world, with_fifos, with_arbitration, with_mailboxes, with_interrupts, with_dma}
use Rattle.model.specs.Accesses.{access}
use Rattle.model.specs.Registers.{register_access}
use Rattle.model.specs.Bench.{r, d, g, ◌gets◌, CallCase}
use Rattle.cases.specs.Vectors.{settings, pair, mail, interrupts, dma, untouched, world, bytes, CallsAgree}

first : World
first = fresh_world (settings 4096 64 24 40) (bytes ((0, 45 ∷ 255 ∷ 102 ∷ 70 ∷ 36 ∷ 80 ∷ 241 ∷ 84 ∷ 173 ∷ 190 ∷ 64 ∷ 46 ∷ 231 ∷ 172 ∷ 0 ∷ 148 ∷ 76 ∷ 51 ∷ 225 ∷ 75 ∷ []) ∷ (16344, 122 ∷ 231 ∷ 65 ∷ 192 ∷ 242 ∷ 240 ∷ 131 ∷ 148 ∷ 91 ∷ 170 ∷ 225 ∷ 42 ∷ 147 ∷ 39 ∷ 141 ∷ 53 ∷ 228 ∷ 23 ∷ 119 ∷ 27 ∷ []) ∷ [])) (bytes ((0, 117 ∷ 168 ∷ 174 ∷ 154 ∷ 153 ∷ 206 ∷ 36 ∷ 248 ∷ 205 ∷ 16 ∷ 159 ∷ 135 ∷ 26 ∷ 255 ∷ 32 ∷ 250 ∷ 110 ∷ 20 ∷ 60 ∷ 80 ∷ 44 ∷ 148 ∷ 27 ∷ 144 ∷ 97 ∷ 87 ∷ 4 ∷ 99 ∷ 109 ∷ 226 ∷ 3 ∷ 18 ∷ 242 ∷ 229 ∷ 79 ∷ 252 ∷ 3 ∷ 79 ∷ 129 ∷ 77 ∷ 117 ∷ 223 ∷ 36 ∷ 12 ∷ 83 ∷ 246 ∷ 4 ∷ 159 ∷ 162 ∷ 121 ∷ 144 ∷ 79 ∷ 228 ∷ 90 ∷ 254 ∷ 237 ∷ 251 ∷ 91 ∷ 31 ∷ 31 ∷ 60 ∷ 33 ∷ 83 ∷ 24 ∷ []) ∷ []))

calls : List CallCase
calls =
    g 128 0x04c0 0 0 gets r 2 0 0
    ∷ g 1 0x04b8 1 4294967295 gets r 0 0 0
    ∷ g 0 0x04c0 1 959480454 gets r 0 16777216 0
    ∷ d 3 0 9 4116 0 0 gets r 0 1807360 0
    ∷ g 255 0x04c0 1 1217451114 gets r 2 0 0
    ∷ d 8 1 255 0 0 0 gets r 4 0 0
    ∷ g 0 0x0044 0 0 gets r 0 4294967295 0
    ∷ d 13 0 0 0 0 0 gets r 0 0 0
    ∷ d 5 1 1 0 1 0 gets r 3 0 0
    ∷ d 1 1 0 4294967292 0 0 gets r 9 0 0
    ∷ d 10 0 0 0 4 0 gets r 3 0 0
    ∷ g 1 0x04bc 0 0 gets r 0 0 0
    ∷ g 0 0x04b4 1 4128 gets r 0 0 0
    ∷ g 0 0x0030 1 3 gets r 11 0 0
    ∷ d 2 1 3 24 4294967295 0 gets r 0 0 0
    ∷ g 1 0x04b0 1 0 gets r 0 0 0
    ∷ d 14 0 0 0 4096 4294967292 gets r 8 0 0
    ∷ d 10 255 0 0 0 0 gets r 2 0 0
    ∷ g 0 0x0040 0 0 gets r 0 4294967295 0
    ∷ g 1 0x04c0 0 0 gets r 0 16777216 0
    ∷ g 1 0x04e8 1 4278141721 gets r 5 0 0
    ∷ g 1 0x04bc 0 2147483648 gets r 3 0 0
    ∷ g 1 0x04bc 1 771 gets r 0 4095 0
    ∷ g 1 0x7ff0 0 0 gets r 0 2491674866 0
    ∷ d 15 0 0 0 0 0 gets r 0 3 0
    ∷ d 15 0 0 0 0 0 gets r 10 0 0
    ∷ d 3 255 0 4156 0 0 gets r 2 0 0
    ∷ d 6 2 3 0 77 0 gets r 2 0 0
    ∷ d 14 1 0 8 4156 4 gets r 0 1 0
    ∷ g 1 0x04c0 0 0 gets r 0 16777216 0
    ∷ d 15 0 0 0 0 0 gets r 0 2 1
    ∷ g 1 0x04bc 1 1107384461 gets r 0 4095 0
    ∷ d 15 0 0 0 0 0 gets r 0 3 0
    ∷ d 6 1 3 0 4294967295 0 gets r 0 1 1
    ∷ d 15 1 0 0 0 0 gets r 10 0 0
    ∷ g 0 0x0040 1 4294967295 gets r 0 1 1
    ∷ g 0 0x7fd8 0 0 gets r 0 0 0
    ∷ d 6 1 2 0 9 0 gets r 5 0 0
    ∷ g 0 0x0040 0 0 gets r 0 4294967295 0
    ∷ g 0 0x04bc 1 3 gets r 0 4095 0
    ∷ g 1 0x0048 1 162127285 gets r 0 1 1
    ∷ g 0 0x04f8 0 0 gets r 0 0 0
    ∷ d 9 1 0 0 3052142870 0 gets r 0 0 0
    ∷ d 15 0 0 0 0 0 gets r 0 3 0
    ∷ g 0 0x04b4 0 0 gets r 0 4128 0
    ∷ g 1 0x04bc 1 768 gets r 0 4095 0
    ∷ g 1 0x2000 255 0 gets r 11 0 0
    ∷ d 14 0 1 16380 0 8 gets r 6 0 0
    ∷ d 5 1 1 2147483648 0 0 gets r 3 0 0
    ∷ d 15 1 0 0 0 0 gets r 0 3 0
    ∷ d 3 0 13 4108 0 0 gets r 0 65280 0
    ∷ d 12 0 0 2147483648 524288 0 gets r 3 0 0
    ∷ g 0 0x04bc 1 0 gets r 0 4095 0
    ∷ d 15 0 0 0 0 0 gets r 0 3 0
    ∷ g 0 0x0044 1 1712121423 gets r 0 1 1
    ∷ g 0 0x04bc 0 0 gets r 0 512 0
    ∷ []

last : World
last =
    world
    (with_fifos ((162127285 ∷ []) ∷ (4294967295 ∷ []) ∷ (1712121423 ∷ []) ∷ (4294967295 ∷ []) ∷ []) (with_arbitration (pair false false ∷ pair false false ∷ pair false false ∷ pair true false ∷ []) (with_mailboxes (mail 0 278 true) (with_interrupts (interrupts 0 296 0 288) (with_dma (dma 0 4128 16380 (pair false true) false false) (untouched (settings 4096 64 24 40)))))))
    (bytes ((0, 45 ∷ 255 ∷ 102 ∷ 70 ∷ 36 ∷ 80 ∷ 241 ∷ 84 ∷ 60 ∷ 33 ∷ 83 ∷ 24 ∷ 231 ∷ 172 ∷ 0 ∷ 148 ∷ 76 ∷ 51 ∷ 225 ∷ 75 ∷ 0 ∷ 0 ∷ 0 ∷ 0 ∷ 0 ∷ 0 ∷ 255 ∷ 255 ∷ []) ∷ (16336, 122 ∷ 231 ∷ 65 ∷ 192 ∷ 242 ∷ 240 ∷ 131 ∷ 148 ∷ 91 ∷ 170 ∷ 225 ∷ 42 ∷ 147 ∷ 39 ∷ 141 ∷ 53 ∷ 228 ∷ 23 ∷ 119 ∷ 27 ∷ []) ∷ []))
    (bytes ((0, 117 ∷ 168 ∷ 174 ∷ 154 ∷ 153 ∷ 206 ∷ 36 ∷ 248 ∷ 205 ∷ 16 ∷ 159 ∷ 135 ∷ 26 ∷ 255 ∷ 32 ∷ 250 ∷ 110 ∷ 20 ∷ 60 ∷ 80 ∷ 44 ∷ 148 ∷ 27 ∷ 144 ∷ 97 ∷ 87 ∷ 4 ∷ 99 ∷ 109 ∷ 226 ∷ 3 ∷ 18 ∷ 242 ∷ 229 ∷ 79 ∷ 252 ∷ 3 ∷ 79 ∷ 129 ∷ 77 ∷ 117 ∷ 223 ∷ 36 ∷ 12 ∷ 83 ∷ 246 ∷ 4 ∷ 159 ∷ 162 ∷ 121 ∷ 144 ∷ 79 ∷ 228 ∷ 90 ∷ 254 ∷ 237 ∷ 251 ∷ 91 ∷ 31 ∷ 31 ∷ 60 ∷ 33 ∷ 83 ∷ 24 ∷ []) ∷ []))

agrees : CallsAgree first calls last
unfolding first calls last access register_access sound fresh_card read_dword write_dword
agrees = refl
