-- Written by the independent program, oracle/: a list of direct and register accesses with its answers, and what it leaves.
use Rattle.std.specs.Prelude.{refl, true, false, List, [], ◌∷◌}
use Rattle.model.specs.Lanes.{read_dword, write_dword}
use Rattle.model.specs.Transfer.{running}
use Rattle.model.specs.State.{World, sound, fresh_card, with_fifos, with_arbitration, with_mailboxes, with_interrupts, with_transfer, with_dma}
use Rattle.model.specs.Accesses.{access}
use Rattle.model.specs.Registers.{register_access}
use Rattle.model.specs.Bench.{r, d, g, ◌gets◌, CallCase}
use Rattle.cases.specs.Vectors.{settings, pair, mail, interrupts, request, dma, untouched, world, bytes, CallsAgree}

first : World
first =
    world
    (with_fifos ((143069886 ∷ 3154082905 ∷ []) ∷ [] ∷ (1358259325 ∷ 1126849746 ∷ 2740370992 ∷ 4294967295 ∷ 709496602 ∷ 2370554337 ∷ 431706400 ∷ 3349997377 ∷ 1462315896 ∷ 4111243483 ∷ 703614638 ∷ 1091891159 ∷ 3915723510 ∷ 4170958908 ∷ 4088629501 ∷ 1054793459 ∷ 2619959861 ∷ 3911551607 ∷ 3085336698 ∷ 3385225926 ∷ 762206583 ∷ 3495388262 ∷ 3260816471 ∷ 1957422447 ∷ 2812794572 ∷ 3997946514 ∷ 3692644764 ∷ 3212579882 ∷ 1668059612 ∷ 3905661044 ∷ []) ∷ (2487220732 ∷ 4034964006 ∷ 1008195543 ∷ []) ∷ []) (with_arbitration (pair false false ∷ pair true false ∷ pair true true ∷ pair false false ∷ []) (with_mailboxes (mail 65535 10759 false) (with_interrupts (interrupts 200 24 1 32) (with_transfer (running (request 0 8 536871040 24) 3) (with_dma (dma 16380 536871043 2882355218 (pair true true) true false) (untouched (settings 536870912 256 64 128))))))))
    (bytes ((0, 186 ∷ 111 ∷ 42 ∷ 45 ∷ 18 ∷ 95 ∷ 241 ∷ 46 ∷ 173 ∷ 174 ∷ 215 ∷ 205 ∷ 222 ∷ 74 ∷ 220 ∷ 144 ∷ 63 ∷ 98 ∷ 190 ∷ 34 ∷ []) ∷ (16344, 48 ∷ 31 ∷ 24 ∷ 35 ∷ 96 ∷ 16 ∷ 194 ∷ 57 ∷ 215 ∷ 70 ∷ 223 ∷ 103 ∷ 190 ∷ 56 ∷ 73 ∷ 119 ∷ 32 ∷ 129 ∷ 34 ∷ 105 ∷ []) ∷ []))
    (bytes ((0, 227 ∷ 163 ∷ 180 ∷ 195 ∷ 75 ∷ 225 ∷ 82 ∷ 149 ∷ 73 ∷ 106 ∷ 74 ∷ 7 ∷ 127 ∷ 57 ∷ 17 ∷ 14 ∷ 249 ∷ 73 ∷ 17 ∷ 92 ∷ []) ∷ (24, 103 ∷ 243 ∷ 109 ∷ 89 ∷ 54 ∷ 76 ∷ 144 ∷ 178 ∷ 105 ∷ 23 ∷ 26 ∷ 181 ∷ 117 ∷ 157 ∷ 136 ∷ 220 ∷ 38 ∷ 245 ∷ 40 ∷ 10 ∷ 28 ∷ 197 ∷ 12 ∷ 70 ∷ 11 ∷ 82 ∷ 30 ∷ 199 ∷ 218 ∷ 26 ∷ 99 ∷ 5 ∷ 101 ∷ 36 ∷ 28 ∷ 197 ∷ 245 ∷ 101 ∷ 106 ∷ 131 ∷ []) ∷ (24, 85 ∷ 92 ∷ 220 ∷ 207 ∷ 81 ∷ 229 ∷ 209 ∷ 170 ∷ 247 ∷ 1 ∷ 72 ∷ 110 ∷ 227 ∷ 232 ∷ 92 ∷ 181 ∷ 229 ∷ 63 ∷ 193 ∷ 144 ∷ 137 ∷ 172 ∷ 7 ∷ 15 ∷ 0 ∷ 7 ∷ 94 ∷ 74 ∷ 100 ∷ 87 ∷ 20 ∷ 90 ∷ 123 ∷ 210 ∷ 113 ∷ 166 ∷ 63 ∷ 34 ∷ 87 ∷ 108 ∷ []) ∷ (88, 107 ∷ 228 ∷ 194 ∷ 146 ∷ 250 ∷ 20 ∷ 143 ∷ 240 ∷ 198 ∷ 65 ∷ 166 ∷ 135 ∷ 44 ∷ 44 ∷ 48 ∷ 147 ∷ 117 ∷ 10 ∷ 127 ∷ 117 ∷ []) ∷ []))

calls : List CallCase
calls =
    g 0 0x0040 0 0 gets r 1 0 0
    ∷ g 1 0x0044 0 0 gets r 1 0 0
    ∷ g 0 0x0048 1 0 gets r 1 0 0
    ∷ g 1 0x004c 1 0 gets r 1 0 0
    ∷ g 0 0x04b0 0 0 gets r 1 0 0
    ∷ g 1 0x04b4 0 0 gets r 1 0 0
    ∷ g 0 0x04b8 1 0 gets r 1 0 0
    ∷ g 1 0x04bc 1 0 gets r 1 0 0
    ∷ g 0 0x04c0 0 0 gets r 1 0 0
    ∷ g 1 0x04e4 0 0 gets r 1 0 0
    ∷ g 0 0x04e8 1 0 gets r 1 0 0
    ∷ g 1 0x04f4 1 0 gets r 1 0 0
    ∷ g 0 0x04f8 0 0 gets r 1 0 0
    ∷ g 0 0x4000 0 0 gets r 1 0 0
    ∷ g 1 0x7ffc 1 5 gets r 1 0 0
    ∷ g 0 0x04bc 1 1 gets r 1 0 0
    ∷ g 2 0x04bc 1 1 gets r 1 0 0
    ∷ g 0 0x0041 0 0 gets r 1 0 0
    ∷ g 1 0x0041 0 1 gets r 1 0 0
    ∷ g 1 0x04c0 2 0 gets r 1 0 0
    ∷ g 1 0x0040 0 1 gets r 1 0 0
    ∷ g 1 0x04e4 1 0 gets r 1 0 0
    ∷ d 0 0 0 0 0 0 gets r 1 0 0
    ∷ d 2 0 5 12 195939070 0 gets r 1 0 0
    ∷ d 5 1 1 0 0 0 gets r 1 0 0
    ∷ d 7 0 3 0 0 0 gets r 1 0 0
    ∷ d 11 0 0 0 0 0 gets r 1 0 0
    ∷ d 14 0 0 0 536870912 8 gets r 1 0 0
    ∷ d 15 0 0 0 0 0 gets r 1 0 0
    ∷ []

last : World
last =
    world
    (with_fifos ((143069886 ∷ 3154082905 ∷ []) ∷ [] ∷ (1358259325 ∷ 1126849746 ∷ 2740370992 ∷ 4294967295 ∷ 709496602 ∷ 2370554337 ∷ 431706400 ∷ 3349997377 ∷ 1462315896 ∷ 4111243483 ∷ 703614638 ∷ 1091891159 ∷ 3915723510 ∷ 4170958908 ∷ 4088629501 ∷ 1054793459 ∷ 2619959861 ∷ 3911551607 ∷ 3085336698 ∷ 3385225926 ∷ 762206583 ∷ 3495388262 ∷ 3260816471 ∷ 1957422447 ∷ 2812794572 ∷ 3997946514 ∷ 3692644764 ∷ 3212579882 ∷ 1668059612 ∷ 3905661044 ∷ []) ∷ (2487220732 ∷ 4034964006 ∷ 1008195543 ∷ []) ∷ []) (with_arbitration (pair false false ∷ pair true false ∷ pair true true ∷ pair false false ∷ []) (with_mailboxes (mail 65535 10759 false) (with_interrupts (interrupts 200 24 1 32) (with_transfer (running (request 0 8 536871040 24) 3) (with_dma (dma 16380 536871043 2882355218 (pair true true) true false) (untouched (settings 536870912 256 64 128))))))))
    (bytes ((0, 186 ∷ 111 ∷ 42 ∷ 45 ∷ 18 ∷ 95 ∷ 241 ∷ 46 ∷ 173 ∷ 174 ∷ 215 ∷ 205 ∷ 222 ∷ 74 ∷ 220 ∷ 144 ∷ 63 ∷ 98 ∷ 190 ∷ 34 ∷ []) ∷ (16344, 48 ∷ 31 ∷ 24 ∷ 35 ∷ 96 ∷ 16 ∷ 194 ∷ 57 ∷ 215 ∷ 70 ∷ 223 ∷ 103 ∷ 190 ∷ 56 ∷ 73 ∷ 119 ∷ 32 ∷ 129 ∷ 34 ∷ 105 ∷ []) ∷ []))
    (bytes ((0, 227 ∷ 163 ∷ 180 ∷ 195 ∷ 75 ∷ 225 ∷ 82 ∷ 149 ∷ 73 ∷ 106 ∷ 74 ∷ 7 ∷ 127 ∷ 57 ∷ 17 ∷ 14 ∷ 249 ∷ 73 ∷ 17 ∷ 92 ∷ []) ∷ (24, 103 ∷ 243 ∷ 109 ∷ 89 ∷ 54 ∷ 76 ∷ 144 ∷ 178 ∷ 105 ∷ 23 ∷ 26 ∷ 181 ∷ 117 ∷ 157 ∷ 136 ∷ 220 ∷ 38 ∷ 245 ∷ 40 ∷ 10 ∷ 28 ∷ 197 ∷ 12 ∷ 70 ∷ 11 ∷ 82 ∷ 30 ∷ 199 ∷ 218 ∷ 26 ∷ 99 ∷ 5 ∷ 101 ∷ 36 ∷ 28 ∷ 197 ∷ 245 ∷ 101 ∷ 106 ∷ 131 ∷ []) ∷ (24, 85 ∷ 92 ∷ 220 ∷ 207 ∷ 81 ∷ 229 ∷ 209 ∷ 170 ∷ 247 ∷ 1 ∷ 72 ∷ 110 ∷ 227 ∷ 232 ∷ 92 ∷ 181 ∷ 229 ∷ 63 ∷ 193 ∷ 144 ∷ 137 ∷ 172 ∷ 7 ∷ 15 ∷ 0 ∷ 7 ∷ 94 ∷ 74 ∷ 100 ∷ 87 ∷ 20 ∷ 90 ∷ 123 ∷ 210 ∷ 113 ∷ 166 ∷ 63 ∷ 34 ∷ 87 ∷ 108 ∷ []) ∷ (88, 107 ∷ 228 ∷ 194 ∷ 146 ∷ 250 ∷ 20 ∷ 143 ∷ 240 ∷ 198 ∷ 65 ∷ 166 ∷ 135 ∷ 44 ∷ 44 ∷ 48 ∷ 147 ∷ 117 ∷ 10 ∷ 127 ∷ 117 ∷ []) ∷ []))

agrees : CallsAgree first calls last
unfolding first calls last access register_access sound fresh_card read_dword write_dword
agrees = refl
