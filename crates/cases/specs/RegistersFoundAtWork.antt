-- Written by the independent program, oracle/: a list of direct and register accesses with its answers, and what it leaves.
use Rattle.std.specs.Prelude.{refl, true, false, List, [], ◌∷◌}
use Rattle.model.specs.Lanes.{read_dword, write_dword}
use Rattle.model.specs.Transfer.{running}
use Rattle.model.specs.State.{World, sound, fresh_card, with_fifos, with_arbitration, with_mailboxes, with_interrupts, with_transfer, with_dma}
use Rattle.model.specs.Accesses.{access}
use Rattle.model.specs.Registers.{register_access}
use Rattle.model.specs.Bench.{r, d, g, ◌gets◌, CallCase}
use Rattle.cases.specs.Vectors.{settings, pair, mail, interrupts, request, dma, untouched, world, bytes, CallsAgree}

first : World
first =
    world
    (with_fifos ((143069886 ∷ 3154082905 ∷ []) ∷ [] ∷ (1358259325 ∷ 1126849746 ∷ 2740370992 ∷ 4294967295 ∷ 709496602 ∷ 2370554337 ∷ 431706400 ∷ 3349997377 ∷ 1462315896 ∷ 4111243483 ∷ 703614638 ∷ 1091891159 ∷ 3915723510 ∷ 4170958908 ∷ 4088629501 ∷ 1054793459 ∷ 2619959861 ∷ 3911551607 ∷ 3085336698 ∷ 3385225926 ∷ 762206583 ∷ 3495388262 ∷ 3260816471 ∷ 1957422447 ∷ 2812794572 ∷ 3997946514 ∷ 3692644764 ∷ 3212579882 ∷ 1668059612 ∷ 3905661044 ∷ []) ∷ (2487220732 ∷ 4034964006 ∷ 1008195543 ∷ []) ∷ []) (with_arbitration (pair false false ∷ pair true false ∷ pair false true ∷ pair false false ∷ []) (with_mailboxes (mail 65535 10759 false) (with_interrupts (interrupts 200 24 1 32) (with_transfer (running (request 0 8 536871040 24) 3) (with_dma (dma 4294950923 536871043 2882355218 (pair true true) true false) (untouched (settings 536870912 256 64 128))))))))
    (bytes ((0, 56 ∷ 23 ∷ 215 ∷ 2 ∷ 0 ∷ 222 ∷ 180 ∷ 108 ∷ 211 ∷ 62 ∷ 72 ∷ 50 ∷ 72 ∷ 243 ∷ 131 ∷ 12 ∷ 63 ∷ 69 ∷ 134 ∷ 241 ∷ []) ∷ (16344, 213 ∷ 8 ∷ 82 ∷ 50 ∷ 40 ∷ 154 ∷ 123 ∷ 229 ∷ 211 ∷ 186 ∷ 19 ∷ 23 ∷ 60 ∷ 221 ∷ 8 ∷ 150 ∷ 124 ∷ 211 ∷ 171 ∷ 106 ∷ []) ∷ []))
    (bytes ((0, 41 ∷ 222 ∷ 52 ∷ 231 ∷ 184 ∷ 170 ∷ 14 ∷ 96 ∷ 121 ∷ 214 ∷ 108 ∷ 134 ∷ 199 ∷ 55 ∷ 150 ∷ 148 ∷ 249 ∷ 48 ∷ 114 ∷ 43 ∷ []) ∷ (24, 80 ∷ 126 ∷ 126 ∷ 117 ∷ 34 ∷ 32 ∷ 11 ∷ 66 ∷ 48 ∷ 217 ∷ 54 ∷ 158 ∷ 182 ∷ 132 ∷ 195 ∷ 20 ∷ 96 ∷ 65 ∷ 116 ∷ 55 ∷ 167 ∷ 18 ∷ 37 ∷ 132 ∷ 109 ∷ 187 ∷ 52 ∷ 220 ∷ 161 ∷ 32 ∷ 213 ∷ 174 ∷ 104 ∷ 212 ∷ 210 ∷ 241 ∷ 93 ∷ 201 ∷ 110 ∷ 243 ∷ []) ∷ (24, 226 ∷ 102 ∷ 230 ∷ 135 ∷ 115 ∷ 103 ∷ 212 ∷ 176 ∷ 81 ∷ 124 ∷ 157 ∷ 71 ∷ 119 ∷ 165 ∷ 234 ∷ 214 ∷ 20 ∷ 108 ∷ 175 ∷ 21 ∷ 149 ∷ 83 ∷ 247 ∷ 147 ∷ 36 ∷ 164 ∷ 64 ∷ 248 ∷ 223 ∷ 208 ∷ 245 ∷ 106 ∷ 168 ∷ 203 ∷ 147 ∷ 35 ∷ 7 ∷ 21 ∷ 71 ∷ 120 ∷ []) ∷ (88, 14 ∷ 234 ∷ 224 ∷ 130 ∷ 254 ∷ 122 ∷ 184 ∷ 23 ∷ 178 ∷ 183 ∷ 140 ∷ 169 ∷ 0 ∷ 38 ∷ 144 ∷ 175 ∷ 37 ∷ 197 ∷ 179 ∷ 189 ∷ []) ∷ []))

calls : List CallCase
calls =
    g 0 0x04b0 0 0 gets r 0 8 0
    ∷ g 0 0x04b4 0 0 gets r 0 536871040 0
    ∷ g 0 0x04b8 0 0 gets r 0 16 0
    ∷ g 0 0x04bc 0 0 gets r 0 770 0
    ∷ g 1 0x04b0 0 0 gets r 0 8 0
    ∷ g 1 0x04b4 0 0 gets r 0 536871040 0
    ∷ g 1 0x04b8 0 0 gets r 0 16 0
    ∷ g 1 0x04bc 0 0 gets r 0 770 0
    ∷ g 0 0x04bc 1 1 gets r 6 0 0
    ∷ g 1 0x04e4 1 0 gets r 5 0 0
    ∷ g 1 0x04e4 0 0 gets r 0 13107352 0
    ∷ g 0 0x04f8 0 0 gets r 0 10759 0
    ∷ g 1 0x04f8 0 0 gets r 0 10759 0
    ∷ g 0 0x04c0 0 0 gets r 0 131328 0
    ∷ g 1 0x04c0 0 0 gets r 0 131328 0
    ∷ d 15 0 0 0 0 0 gets r 0 1 4
    ∷ d 15 1 0 0 0 0 gets r 0 1 5
    ∷ d 15 0 0 0 0 0 gets r 0 2 6
    ∷ g 0 0x04f4 0 0 gets r 0 65696 0
    ∷ g 0 0x04bc 1 1 gets r 0 4 0
    ∷ g 0 0x04bc 0 0 gets r 0 769 0
    ∷ d 15 0 0 0 0 0 gets r 0 1 1
    ∷ d 15 1 0 0 0 0 gets r 0 1 2
    ∷ d 15 0 0 0 0 0 gets r 0 1 3
    ∷ d 15 1 0 0 0 0 gets r 0 2 4
    ∷ g 1 0x04bc 1 1 gets r 0 4 0
    ∷ g 1 0x04bc 0 0 gets r 0 769 0
    ∷ d 15 0 0 0 0 0 gets r 0 1 1
    ∷ d 15 1 0 0 0 0 gets r 0 1 2
    ∷ d 15 0 0 0 0 0 gets r 0 1 3
    ∷ d 15 1 0 0 0 0 gets r 0 2 4
    ∷ g 1 0x004c 1 5 gets r 0 4 1
    ∷ g 0 0x0044 0 0 gets r 0 2487220732 4
    ∷ d 14 1 0 64 536870912 8 gets r 0 2 0
    ∷ d 15 0 0 0 0 0 gets r 0 1 1
    ∷ d 15 1 0 0 0 0 gets r 0 2 2
    ∷ d 1 1 0 64 0 0 gets r 0 3879001641 0
    ∷ g 0 0x4008 0 0 gets r 0 843595475 0
    ∷ g 0 0x04b0 1 4294967295 gets r 0 0 0
    ∷ g 1 0x04bc 1 512 gets r 9 0 0
    ∷ g 1 0x04b0 0 0 gets r 0 16380 0
    ∷ g 1 0x04b4 0 0 gets r 0 536871040 0
    ∷ g 1 0x04b8 0 0 gets r 0 16 0
    ∷ g 1 0x04bc 0 0 gets r 0 769 0
    ∷ []

last : World
last =
    world
    (with_fifos ((143069886 ∷ 3154082905 ∷ []) ∷ [] ∷ (1358259325 ∷ 1126849746 ∷ 2740370992 ∷ 4294967295 ∷ 709496602 ∷ 2370554337 ∷ 431706400 ∷ 3349997377 ∷ 1462315896 ∷ 4111243483 ∷ 703614638 ∷ 1091891159 ∷ 3915723510 ∷ 4170958908 ∷ 4088629501 ∷ 1054793459 ∷ 2619959861 ∷ 3911551607 ∷ 3085336698 ∷ 3385225926 ∷ 762206583 ∷ 3495388262 ∷ 3260816471 ∷ 1957422447 ∷ 2812794572 ∷ 3997946514 ∷ 3692644764 ∷ 3212579882 ∷ 1668059612 ∷ 3905661044 ∷ []) ∷ (4034964006 ∷ 1008195543 ∷ 5 ∷ []) ∷ []) (with_arbitration (pair false false ∷ pair true false ∷ pair false true ∷ pair false false ∷ []) (with_mailboxes (mail 65535 10759 false) (with_interrupts (interrupts 200 56 1 32) (with_dma (dma 16380 536871043 2882355218 (pair true true) false true) (untouched (settings 536870912 256 64 128)))))))
    (bytes ((0, 56 ∷ 23 ∷ 215 ∷ 2 ∷ 0 ∷ 222 ∷ 180 ∷ 108 ∷ 211 ∷ 62 ∷ 72 ∷ 50 ∷ 72 ∷ 243 ∷ 131 ∷ 12 ∷ 63 ∷ 69 ∷ 134 ∷ 241 ∷ 168 ∷ 203 ∷ 147 ∷ 35 ∷ 7 ∷ 21 ∷ 71 ∷ 120 ∷ []) ∷ (36, 41 ∷ 222 ∷ 52 ∷ 231 ∷ 184 ∷ 170 ∷ 14 ∷ 96 ∷ []) ∷ (16292, 213 ∷ 8 ∷ 82 ∷ 50 ∷ 40 ∷ 154 ∷ 123 ∷ 229 ∷ 211 ∷ 186 ∷ 19 ∷ 23 ∷ 60 ∷ 221 ∷ 8 ∷ 150 ∷ 124 ∷ 211 ∷ 171 ∷ 106 ∷ []) ∷ []))
    (bytes ((0, 41 ∷ 222 ∷ 52 ∷ 231 ∷ 184 ∷ 170 ∷ 14 ∷ 96 ∷ 121 ∷ 214 ∷ 108 ∷ 134 ∷ 199 ∷ 55 ∷ 150 ∷ 148 ∷ 249 ∷ 48 ∷ 114 ∷ 43 ∷ []) ∷ (24, 80 ∷ 126 ∷ 126 ∷ 117 ∷ 34 ∷ 32 ∷ 11 ∷ 66 ∷ 48 ∷ 217 ∷ 54 ∷ 158 ∷ 182 ∷ 132 ∷ 195 ∷ 20 ∷ 96 ∷ 65 ∷ 116 ∷ 55 ∷ 167 ∷ 18 ∷ 37 ∷ 132 ∷ 109 ∷ 187 ∷ 52 ∷ 220 ∷ 161 ∷ 32 ∷ 213 ∷ 174 ∷ 104 ∷ 212 ∷ 210 ∷ 241 ∷ 93 ∷ 201 ∷ 110 ∷ 243 ∷ []) ∷ (24, 226 ∷ 102 ∷ 230 ∷ 135 ∷ 115 ∷ 103 ∷ 212 ∷ 176 ∷ 81 ∷ 124 ∷ 157 ∷ 71 ∷ 119 ∷ 165 ∷ 234 ∷ 214 ∷ 20 ∷ 108 ∷ 175 ∷ 21 ∷ 211 ∷ 62 ∷ 72 ∷ 50 ∷ 72 ∷ 243 ∷ 131 ∷ 12 ∷ 63 ∷ 69 ∷ 134 ∷ 241 ∷ 168 ∷ 203 ∷ 147 ∷ 35 ∷ 7 ∷ 21 ∷ 71 ∷ 120 ∷ []) ∷ (88, 14 ∷ 234 ∷ 224 ∷ 130 ∷ 254 ∷ 122 ∷ 184 ∷ 23 ∷ 178 ∷ 183 ∷ 140 ∷ 169 ∷ 0 ∷ 38 ∷ 144 ∷ 175 ∷ 37 ∷ 197 ∷ 179 ∷ 189 ∷ []) ∷ []))

agrees : CallsAgree first calls last
unfolding first calls last access register_access sound fresh_card read_dword write_dword
agrees = refl
