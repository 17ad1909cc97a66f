-- Written by the independent program, oracle/: a list of accesses with its answers, and what it leaves.
use Rattle.std.specs.Prelude.{refl, true, false, List, [], ◌∷◌}
use Rattle.model.specs.Lanes.{read_dword, write_dword}
use Rattle.model.specs.Transfer.{running}
use Rattle.model.specs.State.{World, sound, fresh_card, with_fifos, with_arbitration, with_mailboxes, with_interrupts, with_transfer}
use Rattle.model.specs.Runs.{Entry}
use Rattle.model.specs.Accesses.{Access, Answer, access}
use Rattle.model.specs.Bench.{q, r, ◌gives◌}
use Rattle.cases.specs.Vectors.{settings, pair, mail, interrupts, request, untouched, world, bytes, RunAgrees}

first : World
first =
    world
    (with_fifos ((143069886 ∷ 3154082905 ∷ []) ∷ [] ∷ (1358259325 ∷ 1126849746 ∷ 2740370992 ∷ 4294967295 ∷ 709496602 ∷ 2370554337 ∷ 431706400 ∷ 3349997377 ∷ 1462315896 ∷ 4111243483 ∷ 703614638 ∷ 1091891159 ∷ 3915723510 ∷ 4170958908 ∷ 4088629501 ∷ 1054793459 ∷ 2619959861 ∷ 3911551607 ∷ 3085336698 ∷ 3385225926 ∷ 762206583 ∷ 3495388262 ∷ 3260816471 ∷ 1957422447 ∷ 2812794572 ∷ 3997946514 ∷ 3692644764 ∷ 3212579882 ∷ 1668059612 ∷ 3905661044 ∷ []) ∷ (2487220732 ∷ 4034964006 ∷ 1008195543 ∷ []) ∷ []) (with_arbitration (pair false false ∷ pair true false ∷ pair false true ∷ pair false false ∷ []) (with_mailboxes (mail 65535 10759 false) (with_interrupts (interrupts 200 24 1 32) (with_transfer (running (request 0 8 536871040 24) 3) (untouched (settings 536870912 256 64 128)))))))
    (bytes ((0, 170 ∷ 165 ∷ 7 ∷ 144 ∷ 216 ∷ 129 ∷ 214 ∷ 203 ∷ 133 ∷ 239 ∷ 237 ∷ 43 ∷ 70 ∷ 150 ∷ 198 ∷ 153 ∷ 5 ∷ 10 ∷ 78 ∷ 120 ∷ []) ∷ (16340, 251 ∷ 70 ∷ 52 ∷ 121 ∷ 241 ∷ 143 ∷ 69 ∷ 131 ∷ 124 ∷ 226 ∷ 6 ∷ 182 ∷ 22 ∷ 158 ∷ 195 ∷ 42 ∷ 185 ∷ 251 ∷ 38 ∷ 196 ∷ []) ∷ []))
    (bytes ((0, 125 ∷ 11 ∷ 89 ∷ 57 ∷ 221 ∷ 112 ∷ 177 ∷ 50 ∷ 90 ∷ 151 ∷ 72 ∷ 165 ∷ 170 ∷ 126 ∷ 56 ∷ 130 ∷ 19 ∷ 33 ∷ 124 ∷ 152 ∷ []) ∷ (24, 85 ∷ 111 ∷ 84 ∷ 196 ∷ 72 ∷ 202 ∷ 41 ∷ 67 ∷ 17 ∷ 247 ∷ 84 ∷ 43 ∷ 138 ∷ 20 ∷ 188 ∷ 19 ∷ 75 ∷ 204 ∷ 46 ∷ 173 ∷ 218 ∷ 170 ∷ 162 ∷ 66 ∷ 174 ∷ 9 ∷ 28 ∷ 200 ∷ 152 ∷ 247 ∷ 94 ∷ 239 ∷ 191 ∷ 231 ∷ 92 ∷ 48 ∷ 64 ∷ 56 ∷ 200 ∷ 141 ∷ []) ∷ (24, 24 ∷ 40 ∷ 245 ∷ 140 ∷ 233 ∷ 123 ∷ 56 ∷ 224 ∷ 17 ∷ 63 ∷ 244 ∷ 122 ∷ 93 ∷ 43 ∷ 138 ∷ 42 ∷ 189 ∷ 169 ∷ 83 ∷ 233 ∷ 192 ∷ 102 ∷ 139 ∷ 97 ∷ 62 ∷ 251 ∷ 68 ∷ 89 ∷ 155 ∷ 26 ∷ 193 ∷ 96 ∷ 219 ∷ 219 ∷ 65 ∷ 150 ∷ 103 ∷ 40 ∷ 139 ∷ 12 ∷ []) ∷ (88, 11 ∷ 142 ∷ 154 ∷ 141 ∷ 160 ∷ 191 ∷ 225 ∷ 233 ∷ 109 ∷ 164 ∷ 38 ∷ 2 ∷ 32 ∷ 95 ∷ 159 ∷ 227 ∷ 46 ∷ 194 ∷ 207 ∷ 72 ∷ []) ∷ []))

entries : List (Entry Access Answer)
entries =
    q 0 0 0 0 0 0 gives r 1 0 0
    ∷ q 1 1 0 8 0 0 gives r 1 0 0
    ∷ q 2 0 5 12 195939070 0 gives r 1 0 0
    ∷ q 3 0 0 536871164 0 0 gives r 1 0 0
    ∷ q 4 0 10 536870912 2271560481 0 gives r 1 0 0
    ∷ q 5 1 1 0 0 0 gives r 1 0 0
    ∷ q 6 1 3 0 77 0 gives r 1 0 0
    ∷ q 7 0 3 0 0 0 gives r 1 0 0
    ∷ q 8 1 3 0 0 0 gives r 1 0 0
    ∷ q 9 1 0 0 16777221 0 gives r 1 0 0
    ∷ q 10 0 0 0 0 0 gives r 1 0 0
    ∷ q 11 0 0 0 0 0 gives r 1 0 0
    ∷ q 12 0 0 0 524288 0 gives r 1 0 0
    ∷ q 13 0 0 0 0 0 gives r 1 0 0
    ∷ q 14 0 0 0 536870912 8 gives r 1 0 0
    ∷ q 15 0 0 0 0 0 gives r 1 0 0
    ∷ q 16 1 0 0 0 0 gives r 1 0 0
    ∷ q 8 1 4 0 0 0 gives r 1 0 0
    ∷ q 14 0 0 0 536870912 3 gives r 1 0 0
    ∷ q 14 2 0 0 536870912 8 gives r 1 0 0
    ∷ q 10 0 255 0 0 0 gives r 1 0 0
    ∷ q 11 255 0 0 0 0 gives r 1 0 0
    ∷ q 14 0 0 0 536870915 4 gives r 1 0 0
    ∷ q 11 0 0 0 0 256 gives r 1 0 0
    ∷ q 18 2 0 0 0 0 gives r 1 0 0
    ∷ q 14 0 1 0 536870912 16385 gives r 1 0 0
    ∷ q 17 2 16 1 1 1 gives r 1 0 0
    ∷ q 3 0 0 536871168 0 0 gives r 1 0 0
    ∷ q 14 0 0 0 4294950916 16384 gives r 1 0 0
    ∷ q 10 0 0 2147483648 0 0 gives r 1 0 0
    ∷ q 14 0 1 0 536870915 4 gives r 1 0 0
    ∷ q 10 0 0 0 4 0 gives r 1 0 0
    ∷ q 4 0 255 536870912 2271560481 0 gives r 1 0 0
    ∷ q 10 0 0 2147483648 0 0 gives r 1 0 0
    ∷ q 1 1 0 16384 0 0 gives r 1 0 0
    ∷ q 3 0 16 536871168 0 0 gives r 1 0 0
    ∷ q 5 1 1 4 0 0 gives r 1 0 0
    ∷ q 12 0 0 0 524288 1 gives r 1 0 0
    ∷ q 3 0 0 536871164 0 4294967295 gives r 1 0 0
    ∷ q 11 0 0 256 0 0 gives r 1 0 0
    ∷ q 4 1 16 536870912 2271560481 0 gives r 1 0 0
    ∷ q 3 1 0 536871164 0 1 gives r 1 0 0
    ∷ q 14 1 0 20 536870976 24 gives r 1 0 0
    ∷ q 13 1 0 0 0 0 gives r 1 0 0
    ∷ q 2 1 14 28 949041387 0 gives r 1 0 0
    ∷ q 6 1 0 0 4294967295 0 gives r 1 0 0
    ∷ q 12 1 0 0 65537 0 gives r 1 0 0
    ∷ q 15 0 0 0 0 0 gives r 1 0 0
    ∷ q 9 0 0 0 88145664 0 gives r 1 0 0
    ∷ q 7 0 2 0 0 0 gives r 1 0 0
    ∷ []

last : World
last =
    world
    (with_fifos ((143069886 ∷ 3154082905 ∷ []) ∷ [] ∷ (1358259325 ∷ 1126849746 ∷ 2740370992 ∷ 4294967295 ∷ 709496602 ∷ 2370554337 ∷ 431706400 ∷ 3349997377 ∷ 1462315896 ∷ 4111243483 ∷ 703614638 ∷ 1091891159 ∷ 3915723510 ∷ 4170958908 ∷ 4088629501 ∷ 1054793459 ∷ 2619959861 ∷ 3911551607 ∷ 3085336698 ∷ 3385225926 ∷ 762206583 ∷ 3495388262 ∷ 3260816471 ∷ 1957422447 ∷ 2812794572 ∷ 3997946514 ∷ 3692644764 ∷ 3212579882 ∷ 1668059612 ∷ 3905661044 ∷ []) ∷ (2487220732 ∷ 4034964006 ∷ 1008195543 ∷ []) ∷ []) (with_arbitration (pair false false ∷ pair true false ∷ pair false true ∷ pair false false ∷ []) (with_mailboxes (mail 65535 10759 false) (with_interrupts (interrupts 200 24 1 32) (with_transfer (running (request 0 8 536871040 24) 3) (untouched (settings 536870912 256 64 128)))))))
    (bytes ((0, 170 ∷ 165 ∷ 7 ∷ 144 ∷ 216 ∷ 129 ∷ 214 ∷ 203 ∷ 133 ∷ 239 ∷ 237 ∷ 43 ∷ 70 ∷ 150 ∷ 198 ∷ 153 ∷ 5 ∷ 10 ∷ 78 ∷ 120 ∷ []) ∷ (16340, 251 ∷ 70 ∷ 52 ∷ 121 ∷ 241 ∷ 143 ∷ 69 ∷ 131 ∷ 124 ∷ 226 ∷ 6 ∷ 182 ∷ 22 ∷ 158 ∷ 195 ∷ 42 ∷ 185 ∷ 251 ∷ 38 ∷ 196 ∷ []) ∷ []))
    (bytes ((0, 125 ∷ 11 ∷ 89 ∷ 57 ∷ 221 ∷ 112 ∷ 177 ∷ 50 ∷ 90 ∷ 151 ∷ 72 ∷ 165 ∷ 170 ∷ 126 ∷ 56 ∷ 130 ∷ 19 ∷ 33 ∷ 124 ∷ 152 ∷ []) ∷ (24, 85 ∷ 111 ∷ 84 ∷ 196 ∷ 72 ∷ 202 ∷ 41 ∷ 67 ∷ 17 ∷ 247 ∷ 84 ∷ 43 ∷ 138 ∷ 20 ∷ 188 ∷ 19 ∷ 75 ∷ 204 ∷ 46 ∷ 173 ∷ 218 ∷ 170 ∷ 162 ∷ 66 ∷ 174 ∷ 9 ∷ 28 ∷ 200 ∷ 152 ∷ 247 ∷ 94 ∷ 239 ∷ 191 ∷ 231 ∷ 92 ∷ 48 ∷ 64 ∷ 56 ∷ 200 ∷ 141 ∷ []) ∷ (24, 24 ∷ 40 ∷ 245 ∷ 140 ∷ 233 ∷ 123 ∷ 56 ∷ 224 ∷ 17 ∷ 63 ∷ 244 ∷ 122 ∷ 93 ∷ 43 ∷ 138 ∷ 42 ∷ 189 ∷ 169 ∷ 83 ∷ 233 ∷ 192 ∷ 102 ∷ 139 ∷ 97 ∷ 62 ∷ 251 ∷ 68 ∷ 89 ∷ 155 ∷ 26 ∷ 193 ∷ 96 ∷ 219 ∷ 219 ∷ 65 ∷ 150 ∷ 103 ∷ 40 ∷ 139 ∷ 12 ∷ []) ∷ (88, 11 ∷ 142 ∷ 154 ∷ 141 ∷ 160 ∷ 191 ∷ 225 ∷ 233 ∷ 109 ∷ 164 ∷ 38 ∷ 2 ∷ 32 ∷ 95 ∷ 159 ∷ 227 ∷ 46 ∷ 194 ∷ 207 ∷ 72 ∷ []) ∷ []))

agrees : RunAgrees first entries last
unfolding first entries last access sound fresh_card read_dword write_dword
agrees = refl
