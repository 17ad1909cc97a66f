-- Written by the independent program, oracle/: a list of direct and register accesses with its answers, and what it leaves.
use Rattle.std.specs.Prelude.{refl, true, false, List, [], ◌∷◌}
use Rattle.model.specs.Lanes.{read_dword, write_dword}
use Rattle.model.specs.State.{World, sound, fresh_card, fresh_world, with_fifos, with_mailboxes, with_interrupts, with_dma}
use Rattle.model.specs.Accesses.{access}
use Rattle.model.specs.Registers.{register_access}
use Rattle.model.specs.Bench.{r, d, g, ◌gets◌, CallCase}
use Rattle.cases.specs.Vectors.{settings, pair, mail, interrupts, dma, untouched, world, bytes, CallsAgree}

first : World
first = fresh_world (settings 3221225536 128 32 32) (bytes ((0, 84 ∷ 9 ∷ 76 ∷ 209 ∷ 254 ∷ 249 ∷ 90 ∷ 114 ∷ 201 ∷ 80 ∷ 157 ∷ 215 ∷ 238 ∷ 18 ∷ 82 ∷ 64 ∷ 96 ∷ 131 ∷ 81 ∷ 249 ∷ []) ∷ (16344, 253 ∷ 51 ∷ 72 ∷ 187 ∷ 101 ∷ 237 ∷ 90 ∷ 241 ∷ 122 ∷ 108 ∷ 201 ∷ 127 ∷ 158 ∷ 229 ∷ 32 ∷ 17 ∷ 173 ∷ 203 ∷ 66 ∷ 113 ∷ []) ∷ [])) (bytes ((0, 82 ∷ 186 ∷ 239 ∷ 44 ∷ 219 ∷ 145 ∷ 53 ∷ 143 ∷ 79 ∷ 118 ∷ 243 ∷ 69 ∷ 60 ∷ 205 ∷ 33 ∷ 55 ∷ 241 ∷ 73 ∷ 124 ∷ 170 ∷ 235 ∷ 7 ∷ 97 ∷ 109 ∷ 86 ∷ 210 ∷ 116 ∷ 190 ∷ 192 ∷ 4 ∷ 75 ∷ 184 ∷ 79 ∷ 154 ∷ 212 ∷ 83 ∷ 127 ∷ 192 ∷ 65 ∷ 22 ∷ 128 ∷ 47 ∷ 110 ∷ 136 ∷ 251 ∷ 14 ∷ 221 ∷ 126 ∷ 21 ∷ 207 ∷ 92 ∷ 239 ∷ []) ∷ (56, 6 ∷ 20 ∷ 105 ∷ 107 ∷ 139 ∷ 172 ∷ 233 ∷ 85 ∷ 46 ∷ 6 ∷ 150 ∷ 30 ∷ 222 ∷ 254 ∷ 88 ∷ 221 ∷ 230 ∷ 60 ∷ 172 ∷ 151 ∷ []) ∷ []))

calls : List CallCase
calls =
    g 1 0x04c0 0 0 gets r 0 0 0
    ∷ d 16 1 128 0 0 0 gets r 3 0 0
    ∷ d 3 0 7 3221225532 0 0 gets r 9 0 0
    ∷ d 4 0 15 3221225568 2097152 0 gets r 0 0 0
    ∷ d 11 0 0 0 0 0 gets r 0 0 0
    ∷ g 1 0x004c 1 2133356717 gets r 0 1 1
    ∷ g 0 0x04b8 1 28 gets r 0 0 0
    ∷ g 0 0x04b4 0 0 gets r 0 0 0
    ∷ g 1 0x04b0 0 0 gets r 0 0 0
    ∷ g 0 0x4024 0 0 gets r 0 0 0
    ∷ d 11 0 0 0 0 0 gets r 0 128 0
    ∷ d 10 0 0 0 0 0 gets r 0 0 0
    ∷ d 12 0 0 0 738207744 0 gets r 0 0 0
    ∷ g 0 0x04f8 1 16777217 gets r 5 0 0
    ∷ g 0 0x04b4 0 0 gets r 0 0 0
    ∷ d 3 0 3 3221225564 0 0 gets r 0 3091922944 0
    ∷ g 0 0x04b4 1 3221225656 gets r 0 0 0
    ∷ g 1 0x0048 0 0 gets r 0 4294967295 0
    ∷ g 0 0x0044 1 3282864614 gets r 0 1 1
    ∷ d 4 0 8 3221225568 16777216 0 gets r 0 0 0
    ∷ g 0 0x04b0 0 256 gets r 3 0 0
    ∷ d 9 0 0 0 16842519 0 gets r 0 0 0
    ∷ d 16 1 0 0 0 0 gets r 0 0 0
    ∷ d 9 1 0 0 34078487 0 gets r 0 0 0
    ∷ d 11 0 0 0 0 0 gets r 0 144 0
    ∷ d 15 1 0 0 0 0 gets r 10 0 0
    ∷ d 15 0 0 0 0 0 gets r 10 0 0
    ∷ d 6 0 2 0 4294967295 0 gets r 0 2 1
    ∷ g 0 0x04f8 0 0 gets r 0 65303 24
    ∷ g 1 0x04b4 1 1589393068 gets r 0 0 0
    ∷ g 1 0x4010 0 0 gets r 0 4182868832 0
    ∷ g 0 0x04bc 1 4050045264 gets r 0 7 0
    ∷ g 1 0x04bc 0 0 gets r 0 256 0
    ∷ d 16 1 0 0 0 0 gets r 0 0 0
    ∷ d 10 1 0 0 0 0 gets r 0 65303 0
    ∷ d 6 1 0 0 4294967295 0 gets r 0 1 1
    ∷ g 1 0x04bc 1 0 gets r 6 0 0
    ∷ d 15 1 0 0 0 0 gets r 0 4 0
    ∷ d 9 0 0 0 3581411072 0 gets r 0 0 0
    ∷ g 1 0x004c 0 0 gets r 0 3282864614 2
    ∷ d 14 1 0 16376 3221225536 8 gets r 0 2 0
    ∷ d 4 0 0 3221225568 4294967295 0 gets r 0 0 0
    ∷ g 0 0x04bc 1 258 gets r 6 0 0
    ∷ d 15 0 0 0 0 0 gets r 0 1 1
    ∷ g 1 0x04b0 1 16391 gets r 0 0 0
    ∷ g 1 0x04e4 1 1487798272 gets r 5 0 0
    ∷ d 15 0 0 0 0 0 gets r 0 2 2
    ∷ d 1 1 8 20 0 0 gets r 0 0 0
    ∷ d 2 1 7 16368 1643691590 0 gets r 0 0 0
    ∷ g 1 0x04e8 0 0 gets r 0 65280 0
    ∷ g 0 0x04b0 1 24 gets r 0 0 0
    ∷ g 0 0x4020 1 4294967295 gets r 0 0 0
    ∷ g 0 0x04e4 1 0 gets r 0 0 0
    ∷ d 2 1 15 36 4294967295 0 gets r 0 0 0
    ∷ g 0 0x04b0 1 16380 gets r 0 0 0
    ∷ d 13 0 0 0 0 0 gets r 0 0 0
    ∷ []

last : World
last =
    world
    (with_fifos ((4294967295 ∷ []) ∷ [] ∷ (4294967295 ∷ []) ∷ (2133356717 ∷ []) ∷ []) (with_mailboxes (mail 65280 65303 true) (with_interrupts (interrupts 0 560 0 552) (with_dma (dma 16380 1589393068 28 (pair true false) false false) (untouched (settings 3221225536 128 32 32))))))
    (bytes ((0, 84 ∷ 9 ∷ 76 ∷ 209 ∷ 254 ∷ 249 ∷ 90 ∷ 114 ∷ 201 ∷ 80 ∷ 157 ∷ 215 ∷ 238 ∷ 18 ∷ 82 ∷ 64 ∷ 96 ∷ 131 ∷ 81 ∷ 249 ∷ []) ∷ (12, 255 ∷ 255 ∷ 255 ∷ 255 ∷ []) ∷ (16328, 253 ∷ 51 ∷ 72 ∷ 187 ∷ 101 ∷ 237 ∷ 90 ∷ 97 ∷ 122 ∷ 108 ∷ 201 ∷ 127 ∷ 82 ∷ 186 ∷ 239 ∷ 44 ∷ 219 ∷ 145 ∷ 53 ∷ 143 ∷ []) ∷ []))
    (bytes ((0, 82 ∷ 186 ∷ 239 ∷ 44 ∷ 219 ∷ 145 ∷ 53 ∷ 143 ∷ 79 ∷ 118 ∷ 243 ∷ 69 ∷ 60 ∷ 205 ∷ 33 ∷ 55 ∷ 241 ∷ 73 ∷ 124 ∷ 170 ∷ 235 ∷ 7 ∷ 97 ∷ 109 ∷ 86 ∷ 210 ∷ 116 ∷ 190 ∷ 192 ∷ 4 ∷ 75 ∷ 184 ∷ 255 ∷ 255 ∷ 255 ∷ 255 ∷ 127 ∷ 192 ∷ 65 ∷ 22 ∷ 128 ∷ 47 ∷ 110 ∷ 136 ∷ 251 ∷ 14 ∷ 221 ∷ 126 ∷ 21 ∷ 207 ∷ 92 ∷ 239 ∷ []) ∷ (56, 6 ∷ 20 ∷ 105 ∷ 107 ∷ 139 ∷ 172 ∷ 233 ∷ 85 ∷ 46 ∷ 6 ∷ 150 ∷ 30 ∷ 222 ∷ 254 ∷ 88 ∷ 221 ∷ 230 ∷ 60 ∷ 172 ∷ 151 ∷ []) ∷ []))

agrees : CallsAgree first calls last
unfolding first calls last access register_access sound fresh_card read_dword write_dword
agrees = refl
