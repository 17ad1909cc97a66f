-- Written by the independent program, oracle/: a list of direct and register accesses with its answers, and what it leaves.
use Rattle.std.specs.Prelude.{refl, true, false, List, [], ◌∷◌}
use Rattle.model.specs.Lanes.{read_dword, write_dword}
use Rattle.model.specs.Transfer.{running}
use Rattle.model.specs.State.{World, sound, fresh_card, with_fifos, with_arbitration, with_mailboxes, with_interrupts, with_transfer, with_dma}
use Rattle.model.specs.Accesses.{access}
use Rattle.model.specs.Registers.{register_access}
use Rattle.model.specs.Bench.{r, d, g, ◌gets◌, CallCase}
use Rattle.cases.specs.Vectors.{settings, pair, mail, interrupts, request, dma, untouched, world, bytes, CallsAgree}

first : World
first =
    world
    (with_fifos ((143069886 ∷ 3154082905 ∷ []) ∷ [] ∷ (1358259325 ∷ 1126849746 ∷ 2740370992 ∷ 4294967295 ∷ 709496602 ∷ 2370554337 ∷ 431706400 ∷ 3349997377 ∷ 1462315896 ∷ 4111243483 ∷ 703614638 ∷ 1091891159 ∷ 3915723510 ∷ 4170958908 ∷ 4088629501 ∷ 1054793459 ∷ 2619959861 ∷ 3911551607 ∷ 3085336698 ∷ 3385225926 ∷ 762206583 ∷ 3495388262 ∷ 3260816471 ∷ 1957422447 ∷ 2812794572 ∷ 3997946514 ∷ 3692644764 ∷ 3212579882 ∷ 1668059612 ∷ 3905661044 ∷ []) ∷ (2487220732 ∷ 4034964006 ∷ 1008195543 ∷ []) ∷ []) (with_arbitration (pair false false ∷ pair true false ∷ pair false true ∷ pair false false ∷ []) (with_mailboxes (mail 65535 10759 false) (with_interrupts (interrupts 200 24 1 32) (with_transfer (running (request 0 8 536871040 24) 3) (with_dma (dma 4294950923 536871043 2882355218 (pair true true) true false) (untouched (settings 536870912 256 64 128))))))))
    (bytes ((0, 137 ∷ 207 ∷ 233 ∷ 60 ∷ 168 ∷ 112 ∷ 166 ∷ 250 ∷ 69 ∷ 185 ∷ 133 ∷ 115 ∷ 63 ∷ 125 ∷ 9 ∷ 54 ∷ 183 ∷ 233 ∷ 142 ∷ 61 ∷ []) ∷ (16344, 149 ∷ 134 ∷ 80 ∷ 192 ∷ 127 ∷ 52 ∷ 99 ∷ 222 ∷ 12 ∷ 129 ∷ 54 ∷ 201 ∷ 196 ∷ 40 ∷ 247 ∷ 115 ∷ 55 ∷ 15 ∷ 193 ∷ 128 ∷ []) ∷ []))
    (bytes ((0, 192 ∷ 55 ∷ 77 ∷ 137 ∷ 114 ∷ 38 ∷ 100 ∷ 150 ∷ 161 ∷ 175 ∷ 125 ∷ 70 ∷ 248 ∷ 118 ∷ 203 ∷ 0 ∷ 146 ∷ 77 ∷ 168 ∷ 13 ∷ []) ∷ (24, 126 ∷ 210 ∷ 217 ∷ 244 ∷ 255 ∷ 18 ∷ 183 ∷ 129 ∷ 238 ∷ 234 ∷ 75 ∷ 163 ∷ 169 ∷ 234 ∷ 24 ∷ 77 ∷ 39 ∷ 85 ∷ 65 ∷ 169 ∷ 37 ∷ 139 ∷ 171 ∷ 165 ∷ 16 ∷ 147 ∷ 22 ∷ 218 ∷ 222 ∷ 133 ∷ 218 ∷ 188 ∷ 112 ∷ 157 ∷ 231 ∷ 11 ∷ 248 ∷ 74 ∷ 188 ∷ 180 ∷ []) ∷ (24, 11 ∷ 147 ∷ 32 ∷ 13 ∷ 47 ∷ 101 ∷ 198 ∷ 154 ∷ 193 ∷ 30 ∷ 221 ∷ 118 ∷ 89 ∷ 165 ∷ 97 ∷ 254 ∷ 93 ∷ 218 ∷ 88 ∷ 159 ∷ 123 ∷ 242 ∷ 90 ∷ 223 ∷ 43 ∷ 5 ∷ 232 ∷ 154 ∷ 169 ∷ 28 ∷ 154 ∷ 18 ∷ 65 ∷ 225 ∷ 38 ∷ 8 ∷ 209 ∷ 3 ∷ 96 ∷ 7 ∷ []) ∷ (88, 111 ∷ 43 ∷ 117 ∷ 246 ∷ 162 ∷ 252 ∷ 112 ∷ 129 ∷ 145 ∷ 21 ∷ 50 ∷ 46 ∷ 108 ∷ 8 ∷ 143 ∷ 118 ∷ 66 ∷ 168 ∷ 225 ∷ 116 ∷ []) ∷ []))

calls : List CallCase
calls =
    g 0 0x04f8 0 0 gets r 0 10759 0
    ∷ g 1 0x04c0 0 0 gets r 0 131328 0
    ∷ g 0 0x0044 0 0 gets r 0 2487220732 3
    ∷ d 11 0 0 0 0 0 gets r 0 13107352 0
    ∷ g 0 0x04b4 1 536871036 gets r 0 0 0
    ∷ g 1 0x04bc 0 0 gets r 0 770 0
    ∷ d 15 1 0 0 0 0 gets r 0 1 4
    ∷ g 0 0x04c0 1 3399747400 gets r 0 256 0
    ∷ d 6 0 2 0 536870912 0 gets r 0 31 1
    ∷ g 1 0x04b4 0 0 gets r 0 536871036 0
    ∷ g 0 0x04c0 1 33686272 gets r 0 256 0
    ∷ g 1 0x04bc 1 769 gets r 6 0 0
    ∷ d 6 255 3 0 77 0 gets r 2 0 0
    ∷ d 6 1 2 0 9 0 gets r 5 0 0
    ∷ d 15 1 0 0 0 0 gets r 0 1 5
    ∷ g 1 0x04e8 1 22 gets r 5 0 0
    ∷ d 18 0 0 0 0 0 gets r 2 0 0
    ∷ g 0 0x04b0 0 0 gets r 0 8 0
    ∷ d 15 1 0 0 0 0 gets r 0 2 6
    ∷ d 11 1 0 0 0 0 gets r 0 65696 0
    ∷ g 0 0x04bc 1 770 gets r 0 4 0
    ∷ g 0 0x0048 3 2147483648 gets r 4 0 0
    ∷ d 15 0 0 0 0 0 gets r 0 3 0
    ∷ d 7 1 0 0 0 0 gets r 0 1 0
    ∷ g 0 0x04bc 0 0 gets r 0 770 0
    ∷ d 2 1 6 0 3350343568 0 gets r 0 0 0
    ∷ g 1 0x04f4 0 0 gets r 0 65952 0
    ∷ d 11 1 0 0 0 0 gets r 0 65952 0
    ∷ g 255 0x004c 1 256 gets r 2 0 0
    ∷ g 1 0x04e4 1 1616576512 gets r 5 0 0
    ∷ g 3 0x04bf 3 4 gets r 2 0 0
    ∷ g 1 0x04c0 0 0 gets r 0 131330 0
    ∷ g 0 0x04e4 1 0 gets r 0 0 0
    ∷ g 0 0x04b4 1 536870912 gets r 0 0 0
    ∷ d 15 1 0 0 0 0 gets r 10 0 0
    ∷ d 13 0 0 0 0 0 gets r 0 0 0
    ∷ d 1 0 4 16348 0 0 gets r 0 0 0
    ∷ d 14 0 1 0 536871160 16 gets r 0 4 0
    ∷ g 0 0x04bc 1 771 gets r 6 0 0
    ∷ g 1 0x400c 0 0 gets r 0 906591551 0
    ∷ d 4 0 7 536871036 3508095206 0 gets r 0 0 0
    ∷ d 15 0 0 0 0 0 gets r 0 1 1
    ∷ d 15 1 0 0 0 0 gets r 0 1 2
    ∷ d 12 0 0 0 2385513638 0 gets r 0 0 0
    ∷ d 2 1 5 16348 4294967295 0 gets r 0 0 0
    ∷ d 15 0 0 0 0 0 gets r 0 4 2
    ∷ d 3 0 9 536871036 0 0 gets r 0 5822976 0
    ∷ g 0 0x04f8 0 0 gets r 0 10759 0
    ∷ d 11 0 0 0 0 0 gets r 0 36701080 0
    ∷ d 1 1 9 24 0 0 gets r 0 6292224 0
    ∷ g 1 0x0048 0 0 gets r 0 4294967295 0
    ∷ d 5 1 1 0 0 0 gets r 0 4294967295 0
    ∷ g 0 0x04f4 1 0 gets r 5 0 0
    ∷ d 2 1 0 32 1896619981 0 gets r 0 0 0
    ∷ g 0 0x0044 0 0 gets r 0 4034964006 2
    ∷ g 1 0x0048 0 0 gets r 0 4294967295 0
    ∷ []

last : World
last =
    world
    (with_fifos ((143069886 ∷ 3154082905 ∷ []) ∷ [] ∷ (1358259325 ∷ 1126849746 ∷ 2740370992 ∷ 4294967295 ∷ 709496602 ∷ 2370554337 ∷ 431706400 ∷ 3349997377 ∷ 1462315896 ∷ 4111243483 ∷ 703614638 ∷ 1091891159 ∷ 3915723510 ∷ 4170958908 ∷ 4088629501 ∷ 1054793459 ∷ 2619959861 ∷ 3911551607 ∷ 3085336698 ∷ 3385225926 ∷ 762206583 ∷ 3495388262 ∷ 3260816471 ∷ 1957422447 ∷ 2812794572 ∷ 3997946514 ∷ 3692644764 ∷ 3212579882 ∷ 1668059612 ∷ 3905661044 ∷ 536870912 ∷ []) ∷ (1008195543 ∷ []) ∷ []) (with_arbitration (pair false true ∷ pair true false ∷ pair false true ∷ pair false false ∷ []) (with_mailboxes (mail 65535 10759 false) (with_interrupts (interrupts 560 792 1 800) (with_dma (dma 4294950923 536870912 2882355218 (pair true true) true false) (untouched (settings 536870912 256 64 128)))))))
    (bytes ((0, 144 ∷ 207 ∷ 233 ∷ 199 ∷ 168 ∷ 112 ∷ 166 ∷ 250 ∷ 69 ∷ 185 ∷ 133 ∷ 115 ∷ 63 ∷ 125 ∷ 9 ∷ 54 ∷ 183 ∷ 233 ∷ 142 ∷ 61 ∷ 65 ∷ 225 ∷ 38 ∷ 8 ∷ 209 ∷ 3 ∷ 96 ∷ 7 ∷ 0 ∷ 0 ∷ 0 ∷ 0 ∷ 205 ∷ 31 ∷ 12 ∷ 113 ∷ []) ∷ (16313, 255 ∷ 0 ∷ 255 ∷ []) ∷ (12, 149 ∷ 134 ∷ 80 ∷ 192 ∷ 127 ∷ 52 ∷ 99 ∷ 222 ∷ 12 ∷ 129 ∷ 54 ∷ 201 ∷ 196 ∷ 40 ∷ 247 ∷ 115 ∷ 55 ∷ 15 ∷ 193 ∷ 128 ∷ []) ∷ []))
    (bytes ((0, 192 ∷ 55 ∷ 77 ∷ 137 ∷ 114 ∷ 38 ∷ 100 ∷ 150 ∷ 161 ∷ 175 ∷ 125 ∷ 70 ∷ 248 ∷ 118 ∷ 203 ∷ 0 ∷ 146 ∷ 77 ∷ 168 ∷ 13 ∷ []) ∷ (24, 126 ∷ 210 ∷ 217 ∷ 244 ∷ 255 ∷ 18 ∷ 183 ∷ 129 ∷ 238 ∷ 234 ∷ 75 ∷ 163 ∷ 169 ∷ 234 ∷ 24 ∷ 77 ∷ 39 ∷ 85 ∷ 65 ∷ 169 ∷ 37 ∷ 139 ∷ 171 ∷ 165 ∷ 16 ∷ 147 ∷ 22 ∷ 218 ∷ 222 ∷ 133 ∷ 218 ∷ 188 ∷ 112 ∷ 157 ∷ 231 ∷ 11 ∷ 248 ∷ 74 ∷ 188 ∷ 180 ∷ []) ∷ (24, 11 ∷ 147 ∷ 32 ∷ 13 ∷ 47 ∷ 101 ∷ 198 ∷ 154 ∷ 193 ∷ 30 ∷ 221 ∷ 118 ∷ 89 ∷ 165 ∷ 97 ∷ 254 ∷ 93 ∷ 218 ∷ 88 ∷ 209 ∷ 123 ∷ 242 ∷ 90 ∷ 223 ∷ 43 ∷ 5 ∷ 232 ∷ 154 ∷ 169 ∷ 28 ∷ 154 ∷ 18 ∷ 65 ∷ 225 ∷ 38 ∷ 8 ∷ 209 ∷ 3 ∷ 96 ∷ 7 ∷ []) ∷ (88, 111 ∷ 43 ∷ 117 ∷ 246 ∷ 162 ∷ 252 ∷ 112 ∷ 129 ∷ 145 ∷ 21 ∷ 50 ∷ 46 ∷ 144 ∷ 207 ∷ 233 ∷ 199 ∷ 168 ∷ 112 ∷ 166 ∷ 250 ∷ []) ∷ []))

agrees : CallsAgree first calls last
unfolding first calls last access register_access sound fresh_card read_dword write_dword
agrees = refl
