-- Written by the independent program, oracle/: a list of direct and register accesses with its answers, and what it leaves.
use Rattle.std.specs.Prelude.{refl, true, false, List, [], ◌∷◌}
use Rattle.model.specs.Lanes.{read_dword, write_dword}
use Rattle.model.specs.Transfer.{running}
use Rattle.model.specs.State.{World, sound, fresh_card, with_fifos, with_arbitration, with_mailboxes, with_interrupts, with_transfer, with_dma}
use Rattle.model.specs.Accesses.{access}
use Rattle.model.specs.Registers.{register_access}
use Rattle.model.specs.Bench.{r, g, ◌gets◌, CallCase}
use Rattle.cases.specs.Vectors.{settings, pair, mail, interrupts, request, dma, untouched, world, bytes, CallsAgree}

first : World
first =
    world
    (with_fifos ((143069886 ∷ 3154082905 ∷ []) ∷ [] ∷ (1358259325 ∷ 1126849746 ∷ 2740370992 ∷ 4294967295 ∷ 709496602 ∷ 2370554337 ∷ 431706400 ∷ 3349997377 ∷ 1462315896 ∷ 4111243483 ∷ 703614638 ∷ 1091891159 ∷ 3915723510 ∷ 4170958908 ∷ 4088629501 ∷ 1054793459 ∷ 2619959861 ∷ 3911551607 ∷ 3085336698 ∷ 3385225926 ∷ 762206583 ∷ 3495388262 ∷ 3260816471 ∷ 1957422447 ∷ 2812794572 ∷ 3997946514 ∷ 3692644764 ∷ 3212579882 ∷ 1668059612 ∷ 3905661044 ∷ []) ∷ (2487220732 ∷ 4034964006 ∷ 1008195543 ∷ []) ∷ []) (with_arbitration (pair false false ∷ pair true false ∷ pair false true ∷ pair false false ∷ []) (with_mailboxes (mail 65535 10759 false) (with_interrupts (interrupts 200 24 1 32) (with_transfer (running (request 0 8 536871040 24) 3) (with_dma (dma 4294950923 536871043 2882355218 (pair true true) true false) (untouched (settings 536870912 256 64 128))))))))
    (bytes ((0, 69 ∷ 67 ∷ 152 ∷ 134 ∷ 59 ∷ 201 ∷ 121 ∷ 28 ∷ 8 ∷ 139 ∷ 216 ∷ 121 ∷ 62 ∷ 33 ∷ 197 ∷ 243 ∷ 149 ∷ 69 ∷ 65 ∷ 240 ∷ []) ∷ (16344, 181 ∷ 94 ∷ 1 ∷ 243 ∷ 199 ∷ 125 ∷ 154 ∷ 151 ∷ 149 ∷ 113 ∷ 134 ∷ 91 ∷ 214 ∷ 218 ∷ 105 ∷ 158 ∷ 123 ∷ 30 ∷ 229 ∷ 104 ∷ []) ∷ []))
    (bytes ((0, 224 ∷ 80 ∷ 179 ∷ 185 ∷ 129 ∷ 119 ∷ 174 ∷ 252 ∷ 169 ∷ 242 ∷ 70 ∷ 38 ∷ 244 ∷ 124 ∷ 149 ∷ 15 ∷ 66 ∷ 224 ∷ 103 ∷ 60 ∷ []) ∷ (24, 88 ∷ 15 ∷ 28 ∷ 180 ∷ 56 ∷ 66 ∷ 172 ∷ 186 ∷ 53 ∷ 220 ∷ 137 ∷ 228 ∷ 254 ∷ 22 ∷ 110 ∷ 249 ∷ 144 ∷ 111 ∷ 247 ∷ 9 ∷ 84 ∷ 22 ∷ 106 ∷ 116 ∷ 255 ∷ 132 ∷ 119 ∷ 121 ∷ 119 ∷ 73 ∷ 67 ∷ 240 ∷ 69 ∷ 59 ∷ 109 ∷ 227 ∷ 148 ∷ 193 ∷ 3 ∷ 87 ∷ []) ∷ (24, 193 ∷ 51 ∷ 196 ∷ 214 ∷ 241 ∷ 14 ∷ 183 ∷ 110 ∷ 102 ∷ 68 ∷ 136 ∷ 54 ∷ 144 ∷ 205 ∷ 36 ∷ 220 ∷ 56 ∷ 27 ∷ 158 ∷ 179 ∷ 141 ∷ 35 ∷ 168 ∷ 149 ∷ 169 ∷ 132 ∷ 223 ∷ 0 ∷ 199 ∷ 252 ∷ 87 ∷ 123 ∷ 211 ∷ 133 ∷ 223 ∷ 248 ∷ 179 ∷ 109 ∷ 136 ∷ 248 ∷ []) ∷ (88, 24 ∷ 231 ∷ 213 ∷ 202 ∷ 2 ∷ 84 ∷ 48 ∷ 249 ∷ 166 ∷ 136 ∷ 95 ∷ 235 ∷ 147 ∷ 98 ∷ 3 ∷ 236 ∷ 57 ∷ 80 ∷ 32 ∷ 58 ∷ []) ∷ []))

calls : List CallCase
calls =
    g 0 0x0040 0 1 gets r 3 0 0
    ∷ g 1 0x0040 0 2 gets r 3 0 0
    ∷ g 0 0x0044 0 4 gets r 3 0 0
    ∷ g 1 0x0044 0 8 gets r 3 0 0
    ∷ g 0 0x0048 0 16 gets r 3 0 0
    ∷ g 1 0x0048 0 32 gets r 3 0 0
    ∷ g 0 0x004c 0 64 gets r 3 0 0
    ∷ g 1 0x004c 0 128 gets r 3 0 0
    ∷ g 0 0x04b0 0 256 gets r 3 0 0
    ∷ g 1 0x04b0 0 512 gets r 3 0 0
    ∷ g 0 0x04b4 0 1024 gets r 3 0 0
    ∷ g 1 0x04b4 0 2048 gets r 3 0 0
    ∷ g 0 0x04b8 0 4096 gets r 3 0 0
    ∷ g 1 0x04b8 0 8192 gets r 3 0 0
    ∷ g 0 0x04bc 0 16384 gets r 3 0 0
    ∷ g 1 0x04bc 0 32768 gets r 3 0 0
    ∷ g 0 0x04c0 0 65536 gets r 3 0 0
    ∷ g 1 0x04c0 0 131072 gets r 3 0 0
    ∷ g 0 0x04e4 0 262144 gets r 3 0 0
    ∷ g 1 0x04e4 0 524288 gets r 3 0 0
    ∷ g 0 0x04e8 0 1048576 gets r 3 0 0
    ∷ g 1 0x04e8 0 2097152 gets r 3 0 0
    ∷ g 0 0x04f4 0 4194304 gets r 3 0 0
    ∷ g 1 0x04f4 0 8388608 gets r 3 0 0
    ∷ g 0 0x04f8 0 16777216 gets r 3 0 0
    ∷ g 1 0x04f8 0 33554432 gets r 3 0 0
    ∷ g 0 0x4000 0 67108864 gets r 3 0 0
    ∷ g 1 0x4000 0 134217728 gets r 3 0 0
    ∷ g 0 0x7ffc 0 268435456 gets r 3 0 0
    ∷ g 1 0x7ffc 0 536870912 gets r 3 0 0
    ∷ []

last : World
last =
    world
    (with_fifos ((143069886 ∷ 3154082905 ∷ []) ∷ [] ∷ (1358259325 ∷ 1126849746 ∷ 2740370992 ∷ 4294967295 ∷ 709496602 ∷ 2370554337 ∷ 431706400 ∷ 3349997377 ∷ 1462315896 ∷ 4111243483 ∷ 703614638 ∷ 1091891159 ∷ 3915723510 ∷ 4170958908 ∷ 4088629501 ∷ 1054793459 ∷ 2619959861 ∷ 3911551607 ∷ 3085336698 ∷ 3385225926 ∷ 762206583 ∷ 3495388262 ∷ 3260816471 ∷ 1957422447 ∷ 2812794572 ∷ 3997946514 ∷ 3692644764 ∷ 3212579882 ∷ 1668059612 ∷ 3905661044 ∷ []) ∷ (2487220732 ∷ 4034964006 ∷ 1008195543 ∷ []) ∷ []) (with_arbitration (pair false false ∷ pair true false ∷ pair false true ∷ pair false false ∷ []) (with_mailboxes (mail 65535 10759 false) (with_interrupts (interrupts 200 24 1 32) (with_transfer (running (request 0 8 536871040 24) 3) (with_dma (dma 4294950923 536871043 2882355218 (pair true true) true false) (untouched (settings 536870912 256 64 128))))))))
    (bytes ((0, 69 ∷ 67 ∷ 152 ∷ 134 ∷ 59 ∷ 201 ∷ 121 ∷ 28 ∷ 8 ∷ 139 ∷ 216 ∷ 121 ∷ 62 ∷ 33 ∷ 197 ∷ 243 ∷ 149 ∷ 69 ∷ 65 ∷ 240 ∷ []) ∷ (16344, 181 ∷ 94 ∷ 1 ∷ 243 ∷ 199 ∷ 125 ∷ 154 ∷ 151 ∷ 149 ∷ 113 ∷ 134 ∷ 91 ∷ 214 ∷ 218 ∷ 105 ∷ 158 ∷ 123 ∷ 30 ∷ 229 ∷ 104 ∷ []) ∷ []))
    (bytes ((0, 224 ∷ 80 ∷ 179 ∷ 185 ∷ 129 ∷ 119 ∷ 174 ∷ 252 ∷ 169 ∷ 242 ∷ 70 ∷ 38 ∷ 244 ∷ 124 ∷ 149 ∷ 15 ∷ 66 ∷ 224 ∷ 103 ∷ 60 ∷ []) ∷ (24, 88 ∷ 15 ∷ 28 ∷ 180 ∷ 56 ∷ 66 ∷ 172 ∷ 186 ∷ 53 ∷ 220 ∷ 137 ∷ 228 ∷ 254 ∷ 22 ∷ 110 ∷ 249 ∷ 144 ∷ 111 ∷ 247 ∷ 9 ∷ 84 ∷ 22 ∷ 106 ∷ 116 ∷ 255 ∷ 132 ∷ 119 ∷ 121 ∷ 119 ∷ 73 ∷ 67 ∷ 240 ∷ 69 ∷ 59 ∷ 109 ∷ 227 ∷ 148 ∷ 193 ∷ 3 ∷ 87 ∷ []) ∷ (24, 193 ∷ 51 ∷ 196 ∷ 214 ∷ 241 ∷ 14 ∷ 183 ∷ 110 ∷ 102 ∷ 68 ∷ 136 ∷ 54 ∷ 144 ∷ 205 ∷ 36 ∷ 220 ∷ 56 ∷ 27 ∷ 158 ∷ 179 ∷ 141 ∷ 35 ∷ 168 ∷ 149 ∷ 169 ∷ 132 ∷ 223 ∷ 0 ∷ 199 ∷ 252 ∷ 87 ∷ 123 ∷ 211 ∷ 133 ∷ 223 ∷ 248 ∷ 179 ∷ 109 ∷ 136 ∷ 248 ∷ []) ∷ (88, 24 ∷ 231 ∷ 213 ∷ 202 ∷ 2 ∷ 84 ∷ 48 ∷ 249 ∷ 166 ∷ 136 ∷ 95 ∷ 235 ∷ 147 ∷ 98 ∷ 3 ∷ 236 ∷ 57 ∷ 80 ∷ 32 ∷ 58 ∷ []) ∷ []))

agrees : CallsAgree first calls last
unfolding first calls last access register_access sound fresh_card read_dword write_dword
agrees = refl
