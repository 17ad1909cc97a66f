-- Written by the independent program, oracle/: a list of accesses with its answers, and what it leaves.
use Rattle.std.specs.Prelude.{refl, true, false, List, [], ◌∷◌}
use Rattle.model.specs.Lanes.{read_dword, write_dword}
use Rattle.model.specs.Transfer.{running}
use Rattle.model.specs.State.{World, sound, fresh_card, with_fifos, with_arbitration, with_mailboxes, with_interrupts, with_transfer}
use Rattle.model.specs.Runs.{Entry}
use Rattle.model.specs.Accesses.{Access, Answer, access}
use Rattle.model.specs.Bench.{q, r, ◌gives◌}
use Rattle.cases.specs.Vectors.{settings, pair, mail, interrupts, request, untouched, world, bytes, RunAgrees}

first : World
first =
    world
    (with_fifos ((143069886 ∷ 3154082905 ∷ []) ∷ [] ∷ (1358259325 ∷ 1126849746 ∷ 2740370992 ∷ 4294967295 ∷ 709496602 ∷ 2370554337 ∷ 431706400 ∷ 3349997377 ∷ 1462315896 ∷ 4111243483 ∷ 703614638 ∷ 1091891159 ∷ 3915723510 ∷ 4170958908 ∷ 4088629501 ∷ 1054793459 ∷ 2619959861 ∷ 3911551607 ∷ 3085336698 ∷ 3385225926 ∷ 762206583 ∷ 3495388262 ∷ 3260816471 ∷ 1957422447 ∷ 2812794572 ∷ 3997946514 ∷ 3692644764 ∷ 3212579882 ∷ 1668059612 ∷ 3905661044 ∷ []) ∷ (2487220732 ∷ 4034964006 ∷ 1008195543 ∷ []) ∷ []) (with_arbitration (pair false false ∷ pair true false ∷ pair false true ∷ pair false false ∷ []) (with_mailboxes (mail 65535 10759 false) (with_interrupts (interrupts 200 24 1 32) (with_transfer (running (request 0 8 536871040 24) 3) (untouched (settings 536870912 256 64 128)))))))
    (bytes ((0, 99 ∷ 192 ∷ 59 ∷ 25 ∷ 48 ∷ 97 ∷ 252 ∷ 130 ∷ 109 ∷ 154 ∷ 115 ∷ 34 ∷ 223 ∷ 115 ∷ 244 ∷ 240 ∷ 212 ∷ 118 ∷ 40 ∷ 116 ∷ []) ∷ (16344, 29 ∷ 252 ∷ 46 ∷ 224 ∷ 39 ∷ 182 ∷ 239 ∷ 31 ∷ 117 ∷ 216 ∷ 69 ∷ 49 ∷ 250 ∷ 100 ∷ 248 ∷ 181 ∷ 95 ∷ 114 ∷ 31 ∷ 0 ∷ []) ∷ []))
    (bytes ((0, 135 ∷ 160 ∷ 119 ∷ 72 ∷ 166 ∷ 195 ∷ 55 ∷ 250 ∷ 36 ∷ 105 ∷ 120 ∷ 15 ∷ 97 ∷ 196 ∷ 233 ∷ 108 ∷ 102 ∷ 174 ∷ 224 ∷ 70 ∷ []) ∷ (24, 222 ∷ 80 ∷ 86 ∷ 0 ∷ 204 ∷ 136 ∷ 58 ∷ 68 ∷ 135 ∷ 253 ∷ 145 ∷ 173 ∷ 130 ∷ 25 ∷ 138 ∷ 0 ∷ 34 ∷ 52 ∷ 150 ∷ 110 ∷ 242 ∷ 42 ∷ 60 ∷ 10 ∷ 239 ∷ 28 ∷ 145 ∷ 240 ∷ 104 ∷ 250 ∷ 157 ∷ 102 ∷ 214 ∷ 99 ∷ 252 ∷ 90 ∷ 63 ∷ 45 ∷ 232 ∷ 234 ∷ []) ∷ (24, 112 ∷ 118 ∷ 218 ∷ 95 ∷ 200 ∷ 124 ∷ 216 ∷ 89 ∷ 1 ∷ 86 ∷ 180 ∷ 231 ∷ 4 ∷ 79 ∷ 182 ∷ 98 ∷ 249 ∷ 255 ∷ 127 ∷ 124 ∷ 111 ∷ 140 ∷ 98 ∷ 246 ∷ 3 ∷ 109 ∷ 122 ∷ 157 ∷ 136 ∷ 234 ∷ 21 ∷ 176 ∷ 193 ∷ 81 ∷ 7 ∷ 218 ∷ 228 ∷ 74 ∷ 203 ∷ 191 ∷ []) ∷ (88, 246 ∷ 221 ∷ 82 ∷ 2 ∷ 108 ∷ 32 ∷ 173 ∷ 9 ∷ 137 ∷ 72 ∷ 43 ∷ 141 ∷ 108 ∷ 77 ∷ 18 ∷ 189 ∷ 189 ∷ 10 ∷ 138 ∷ 95 ∷ []) ∷ []))

entries : List (Entry Access Answer)
entries =
    q 11 0 0 0 0 0 gives r 0 13107352 0
    ∷ q 11 1 0 0 0 0 gives r 0 65696 0
    ∷ q 13 0 0 0 0 0 gives r 0 1 0
    ∷ q 13 1 0 0 0 0 gives r 0 0 0
    ∷ q 15 0 0 0 0 0 gives r 0 1 4
    ∷ q 15 1 0 0 0 0 gives r 0 1 5
    ∷ q 15 0 0 0 0 0 gives r 0 2 6
    ∷ q 6 0 2 0 900 0 gives r 0 31 1
    ∷ q 6 0 2 0 901 0 gives r 0 32 1
    ∷ q 6 0 2 0 902 0 gives r 0 32 0
    ∷ q 6 0 2 0 903 0 gives r 0 32 0
    ∷ q 11 0 0 0 0 0 gives r 0 13107386 0
    ∷ q 11 1 0 0 0 0 gives r 0 65698 0
    ∷ q 5 0 2 0 0 0 gives r 5 0 0
    ∷ q 6 1 2 0 1 0 gives r 5 0 0
    ∷ q 5 1 2 0 0 0 gives r 0 1358259325 32
    ∷ q 5 1 2 0 0 0 gives r 0 1126849746 31
    ∷ q 5 1 2 0 0 0 gives r 0 2740370992 30
    ∷ q 5 1 2 0 0 0 gives r 0 4294967295 29
    ∷ q 5 1 2 0 0 0 gives r 0 709496602 28
    ∷ q 5 1 2 0 0 0 gives r 0 2370554337 27
    ∷ q 5 1 2 0 0 0 gives r 0 431706400 26
    ∷ q 5 1 2 0 0 0 gives r 0 3349997377 25
    ∷ q 5 1 2 0 0 0 gives r 0 1462315896 24
    ∷ q 5 1 2 0 0 0 gives r 0 4111243483 23
    ∷ q 5 1 2 0 0 0 gives r 0 703614638 22
    ∷ q 5 1 2 0 0 0 gives r 0 1091891159 21
    ∷ q 5 1 2 0 0 0 gives r 0 3915723510 20
    ∷ q 5 1 2 0 0 0 gives r 0 4170958908 19
    ∷ q 5 1 2 0 0 0 gives r 0 4088629501 18
    ∷ q 5 1 2 0 0 0 gives r 0 1054793459 17
    ∷ q 5 1 2 0 0 0 gives r 0 2619959861 16
    ∷ q 5 1 2 0 0 0 gives r 0 3911551607 15
    ∷ q 5 1 2 0 0 0 gives r 0 3085336698 14
    ∷ q 5 1 2 0 0 0 gives r 0 3385225926 13
    ∷ q 5 1 2 0 0 0 gives r 0 762206583 12
    ∷ q 5 1 2 0 0 0 gives r 0 3495388262 11
    ∷ q 5 1 2 0 0 0 gives r 0 3260816471 10
    ∷ q 5 1 2 0 0 0 gives r 0 1957422447 9
    ∷ q 5 1 2 0 0 0 gives r 0 2812794572 8
    ∷ q 5 1 2 0 0 0 gives r 0 3997946514 7
    ∷ q 5 1 2 0 0 0 gives r 0 3692644764 6
    ∷ q 5 1 2 0 0 0 gives r 0 3212579882 5
    ∷ q 5 1 2 0 0 0 gives r 0 1668059612 4
    ∷ q 5 1 2 0 0 0 gives r 0 3905661044 3
    ∷ q 5 1 2 0 0 0 gives r 0 900 2
    ∷ q 5 1 2 0 0 0 gives r 0 901 1
    ∷ q 11 0 0 0 0 0 gives r 0 13107386 0
    ∷ q 11 1 0 0 0 0 gives r 0 65698 0
    ∷ q 5 1 2 0 0 0 gives r 0 4294967295 0
    ∷ q 10 0 0 0 0 0 gives r 0 10759 0
    ∷ q 10 1 0 0 0 0 gives r 0 65535 0
    ∷ q 7 0 1 0 0 0 gives r 0 1 0
    ∷ q 7 1 1 0 0 0 gives r 0 0 0
    ∷ q 7 0 2 0 0 0 gives r 0 0 0
    ∷ q 7 1 2 0 0 0 gives r 0 1 0
    ∷ q 14 1 2 0 0 3 gives r 4 0 0
    ∷ q 1 0 16 16384 0 0 gives r 4 0 0
    ∷ q 5 1 1 0 0 2147483648 gives r 3 0 0
    ∷ q 15 0 0 0 0 1 gives r 3 0 0
    ∷ q 255 2 0 0 0 0 gives r 2 0 0
    ∷ q 13 2 0 0 0 0 gives r 2 0 0
    ∷ q 14 0 1 0 536870912 0 gives r 7 0 0
    ∷ q 3 2 0 536871164 0 0 gives r 2 0 0
    ∷ q 3 0 0 4294967295 0 0 gives r 9 0 0
    ∷ q 14 0 1 2 0 4 gives r 9 0 0
    ∷ q 10 0 1 0 0 0 gives r 3 0 0
    ∷ q 14 0 0 0 536870912 3 gives r 8 0 0
    ∷ q 7 0 255 0 0 0 gives r 4 0 0
    ∷ q 1 1 0 4294967295 0 0 gives r 9 0 0
    ∷ q 0 0 4 0 0 0 gives r 3 0 0
    ∷ []

last : World
last =
    world
    (with_fifos ((143069886 ∷ 3154082905 ∷ []) ∷ [] ∷ [] ∷ (2487220732 ∷ 4034964006 ∷ 1008195543 ∷ []) ∷ []) (with_arbitration (pair false false ∷ pair true false ∷ pair false true ∷ pair false false ∷ []) (with_mailboxes (mail 65535 10759 false) (with_interrupts (interrupts 200 58 1 34) (untouched (settings 536870912 256 64 128))))))
    (bytes ((0, 99 ∷ 192 ∷ 59 ∷ 25 ∷ 48 ∷ 97 ∷ 252 ∷ 130 ∷ 109 ∷ 154 ∷ 115 ∷ 34 ∷ 223 ∷ 115 ∷ 244 ∷ 240 ∷ 212 ∷ 118 ∷ 40 ∷ 116 ∷ 193 ∷ 81 ∷ 7 ∷ 218 ∷ 228 ∷ 74 ∷ 203 ∷ 191 ∷ []) ∷ (16336, 29 ∷ 252 ∷ 46 ∷ 224 ∷ 39 ∷ 182 ∷ 239 ∷ 31 ∷ 117 ∷ 216 ∷ 69 ∷ 49 ∷ 250 ∷ 100 ∷ 248 ∷ 181 ∷ 95 ∷ 114 ∷ 31 ∷ 0 ∷ []) ∷ []))
    (bytes ((0, 135 ∷ 160 ∷ 119 ∷ 72 ∷ 166 ∷ 195 ∷ 55 ∷ 250 ∷ 36 ∷ 105 ∷ 120 ∷ 15 ∷ 97 ∷ 196 ∷ 233 ∷ 108 ∷ 102 ∷ 174 ∷ 224 ∷ 70 ∷ []) ∷ (24, 222 ∷ 80 ∷ 86 ∷ 0 ∷ 204 ∷ 136 ∷ 58 ∷ 68 ∷ 135 ∷ 253 ∷ 145 ∷ 173 ∷ 130 ∷ 25 ∷ 138 ∷ 0 ∷ 34 ∷ 52 ∷ 150 ∷ 110 ∷ 242 ∷ 42 ∷ 60 ∷ 10 ∷ 239 ∷ 28 ∷ 145 ∷ 240 ∷ 104 ∷ 250 ∷ 157 ∷ 102 ∷ 214 ∷ 99 ∷ 252 ∷ 90 ∷ 63 ∷ 45 ∷ 232 ∷ 234 ∷ []) ∷ (24, 112 ∷ 118 ∷ 218 ∷ 95 ∷ 200 ∷ 124 ∷ 216 ∷ 89 ∷ 1 ∷ 86 ∷ 180 ∷ 231 ∷ 4 ∷ 79 ∷ 182 ∷ 98 ∷ 249 ∷ 255 ∷ 127 ∷ 124 ∷ 111 ∷ 140 ∷ 98 ∷ 246 ∷ 3 ∷ 109 ∷ 122 ∷ 157 ∷ 136 ∷ 234 ∷ 21 ∷ 176 ∷ 193 ∷ 81 ∷ 7 ∷ 218 ∷ 228 ∷ 74 ∷ 203 ∷ 191 ∷ []) ∷ (88, 246 ∷ 221 ∷ 82 ∷ 2 ∷ 108 ∷ 32 ∷ 173 ∷ 9 ∷ 137 ∷ 72 ∷ 43 ∷ 141 ∷ 108 ∷ 77 ∷ 18 ∷ 189 ∷ 189 ∷ 10 ∷ 138 ∷ 95 ∷ []) ∷ []))

agrees : RunAgrees first entries last
unfolding first entries last access sound fresh_card read_dword write_dword
agrees = refl
