-- Written by the independent program, oracle/: a list of direct and register accesses and bursts with its answers, and what it leaves.
use Rattle.std.specs.Prelude.{refl, true, false, List, [], ◌∷◌}
use Rattle.model.specs.Lanes.{read_dword, write_dword}
use Rattle.model.specs.Transfer.{running}
use Rattle.model.specs.State.{World, sound, fresh_card, with_fifos, with_arbitration, with_mailboxes, with_interrupts, with_transfer, with_dma}
use Rattle.model.specs.Accesses.{access}
use Rattle.model.specs.Registers.{register_access}
use Rattle.model.specs.Pins.{decode}
use Rattle.model.specs.Bursts.{burst}
use Rattle.model.specs.Bench.{r, p, bw, br, ◌gets◌, ◌gets◌leaving◌, CallCase}
use Rattle.cases.specs.Vectors.{settings, pair, mail, interrupts, request, dma, untouched, world, bytes, CallsAgree}

first : World
first =
    world
    (with_fifos ((143069886 ∷ 3154082905 ∷ []) ∷ [] ∷ (1358259325 ∷ 1126849746 ∷ 2740370992 ∷ 4294967295 ∷ 709496602 ∷ 2370554337 ∷ 431706400 ∷ 3349997377 ∷ 1462315896 ∷ 4111243483 ∷ 703614638 ∷ 1091891159 ∷ 3915723510 ∷ 4170958908 ∷ 4088629501 ∷ 1054793459 ∷ 2619959861 ∷ 3911551607 ∷ 3085336698 ∷ 3385225926 ∷ 762206583 ∷ 3495388262 ∷ 3260816471 ∷ 1957422447 ∷ 2812794572 ∷ 3997946514 ∷ 3692644764 ∷ 3212579882 ∷ 1668059612 ∷ 3905661044 ∷ []) ∷ (2487220732 ∷ 4034964006 ∷ 1008195543 ∷ []) ∷ []) (with_arbitration (pair false false ∷ pair true false ∷ pair true true ∷ pair false false ∷ []) (with_mailboxes (mail 65535 10759 false) (with_interrupts (interrupts 200 24 1 32) (with_transfer (running (request 0 8 536871040 24) 3) (with_dma (dma 16380 536871043 2882355218 (pair true true) true false) (untouched (settings 536870912 256 64 128))))))))
    (bytes ((0, 48 ∷ 242 ∷ 44 ∷ 54 ∷ 98 ∷ 123 ∷ 199 ∷ 164 ∷ 92 ∷ 41 ∷ 227 ∷ 188 ∷ 44 ∷ 156 ∷ 52 ∷ 99 ∷ 235 ∷ 101 ∷ 189 ∷ 220 ∷ []) ∷ (16344, 60 ∷ 0 ∷ 55 ∷ 78 ∷ 18 ∷ 226 ∷ 102 ∷ 204 ∷ 170 ∷ 122 ∷ 192 ∷ 218 ∷ 98 ∷ 132 ∷ 204 ∷ 238 ∷ 198 ∷ 169 ∷ 71 ∷ 14 ∷ []) ∷ []))
    (bytes ((0, 247 ∷ 132 ∷ 21 ∷ 24 ∷ 73 ∷ 87 ∷ 10 ∷ 246 ∷ 236 ∷ 120 ∷ 77 ∷ 182 ∷ 101 ∷ 182 ∷ 198 ∷ 104 ∷ 235 ∷ 9 ∷ 51 ∷ 187 ∷ []) ∷ (24, 161 ∷ 77 ∷ 105 ∷ 32 ∷ 226 ∷ 126 ∷ 57 ∷ 123 ∷ 166 ∷ 238 ∷ 0 ∷ 39 ∷ 111 ∷ 250 ∷ 44 ∷ 189 ∷ 100 ∷ 101 ∷ 63 ∷ 178 ∷ 45 ∷ 205 ∷ 76 ∷ 115 ∷ 234 ∷ 91 ∷ 253 ∷ 236 ∷ 251 ∷ 31 ∷ 176 ∷ 165 ∷ 249 ∷ 210 ∷ 252 ∷ 195 ∷ 135 ∷ 75 ∷ 194 ∷ 231 ∷ []) ∷ (24, 196 ∷ 202 ∷ 18 ∷ 1 ∷ 170 ∷ 41 ∷ 136 ∷ 104 ∷ 46 ∷ 148 ∷ 58 ∷ 5 ∷ 176 ∷ 105 ∷ 233 ∷ 77 ∷ 173 ∷ 107 ∷ 211 ∷ 13 ∷ 208 ∷ 101 ∷ 34 ∷ 130 ∷ 73 ∷ 46 ∷ 98 ∷ 134 ∷ 203 ∷ 195 ∷ 103 ∷ 207 ∷ 106 ∷ 94 ∷ 20 ∷ 99 ∷ 121 ∷ 252 ∷ 75 ∷ 44 ∷ []) ∷ (88, 137 ∷ 119 ∷ 242 ∷ 10 ∷ 136 ∷ 155 ∷ 139 ∷ 116 ∷ 125 ∷ 252 ∷ 93 ∷ 89 ∷ 149 ∷ 63 ∷ 109 ∷ 147 ∷ 221 ∷ 25 ∷ 120 ∷ 179 ∷ []) ∷ []))

calls : List CallCase
calls =
    bw 1 3 4094 (p 0 57005 ∷ p 0 57005 ∷ p 0 57005 ∷ []) gets r 1 0 0
    ∷ br 1 3 4095 (p 0 0 ∷ []) (5 ∷ []) gets r 1 0 0 leaving (5 ∷ [])
    ∷ bw 1 0 0 [] gets r 1 0 0
    ∷ bw 2 3 0 (p 0 57005 ∷ []) gets r 1 0 0
    ∷ br 0 3 0 (p 0 0 ∷ []) (5 ∷ []) gets r 1 0 0 leaving (5 ∷ [])
    ∷ bw 1 2 0 (p 0 57005 ∷ []) gets r 1 0 0
    ∷ br 1 0 0 (p 16 0 ∷ []) (5 ∷ []) gets r 1 0 0 leaving (5 ∷ [])
    ∷ br 1 1 0 (p 0 0 ∷ p 0 0 ∷ []) (5 ∷ []) gets r 1 0 0 leaving (5 ∷ [])
    ∷ []

last : World
last =
    world
    (with_fifos ((143069886 ∷ 3154082905 ∷ []) ∷ [] ∷ (1358259325 ∷ 1126849746 ∷ 2740370992 ∷ 4294967295 ∷ 709496602 ∷ 2370554337 ∷ 431706400 ∷ 3349997377 ∷ 1462315896 ∷ 4111243483 ∷ 703614638 ∷ 1091891159 ∷ 3915723510 ∷ 4170958908 ∷ 4088629501 ∷ 1054793459 ∷ 2619959861 ∷ 3911551607 ∷ 3085336698 ∷ 3385225926 ∷ 762206583 ∷ 3495388262 ∷ 3260816471 ∷ 1957422447 ∷ 2812794572 ∷ 3997946514 ∷ 3692644764 ∷ 3212579882 ∷ 1668059612 ∷ 3905661044 ∷ []) ∷ (2487220732 ∷ 4034964006 ∷ 1008195543 ∷ []) ∷ []) (with_arbitration (pair false false ∷ pair true false ∷ pair true true ∷ pair false false ∷ []) (with_mailboxes (mail 65535 10759 false) (with_interrupts (interrupts 200 24 1 32) (with_transfer (running (request 0 8 536871040 24) 3) (with_dma (dma 16380 536871043 2882355218 (pair true true) true false) (untouched (settings 536870912 256 64 128))))))))
    (bytes ((0, 48 ∷ 242 ∷ 44 ∷ 54 ∷ 98 ∷ 123 ∷ 199 ∷ 164 ∷ 92 ∷ 41 ∷ 227 ∷ 188 ∷ 44 ∷ 156 ∷ 52 ∷ 99 ∷ 235 ∷ 101 ∷ 189 ∷ 220 ∷ []) ∷ (16344, 60 ∷ 0 ∷ 55 ∷ 78 ∷ 18 ∷ 226 ∷ 102 ∷ 204 ∷ 170 ∷ 122 ∷ 192 ∷ 218 ∷ 98 ∷ 132 ∷ 204 ∷ 238 ∷ 198 ∷ 169 ∷ 71 ∷ 14 ∷ []) ∷ []))
    (bytes ((0, 247 ∷ 132 ∷ 21 ∷ 24 ∷ 73 ∷ 87 ∷ 10 ∷ 246 ∷ 236 ∷ 120 ∷ 77 ∷ 182 ∷ 101 ∷ 182 ∷ 198 ∷ 104 ∷ 235 ∷ 9 ∷ 51 ∷ 187 ∷ []) ∷ (24, 161 ∷ 77 ∷ 105 ∷ 32 ∷ 226 ∷ 126 ∷ 57 ∷ 123 ∷ 166 ∷ 238 ∷ 0 ∷ 39 ∷ 111 ∷ 250 ∷ 44 ∷ 189 ∷ 100 ∷ 101 ∷ 63 ∷ 178 ∷ 45 ∷ 205 ∷ 76 ∷ 115 ∷ 234 ∷ 91 ∷ 253 ∷ 236 ∷ 251 ∷ 31 ∷ 176 ∷ 165 ∷ 249 ∷ 210 ∷ 252 ∷ 195 ∷ 135 ∷ 75 ∷ 194 ∷ 231 ∷ []) ∷ (24, 196 ∷ 202 ∷ 18 ∷ 1 ∷ 170 ∷ 41 ∷ 136 ∷ 104 ∷ 46 ∷ 148 ∷ 58 ∷ 5 ∷ 176 ∷ 105 ∷ 233 ∷ 77 ∷ 173 ∷ 107 ∷ 211 ∷ 13 ∷ 208 ∷ 101 ∷ 34 ∷ 130 ∷ 73 ∷ 46 ∷ 98 ∷ 134 ∷ 203 ∷ 195 ∷ 103 ∷ 207 ∷ 106 ∷ 94 ∷ 20 ∷ 99 ∷ 121 ∷ 252 ∷ 75 ∷ 44 ∷ []) ∷ (88, 137 ∷ 119 ∷ 242 ∷ 10 ∷ 136 ∷ 155 ∷ 139 ∷ 116 ∷ 125 ∷ 252 ∷ 93 ∷ 89 ∷ 149 ∷ 63 ∷ 109 ∷ 147 ∷ 221 ∷ 25 ∷ 120 ∷ 179 ∷ []) ∷ []))

agrees : CallsAgree first calls last
unfolding first calls last access register_access sound fresh_card read_dword write_dword burst decode
agrees = refl
