-- Written by the independent program, oracle/: a list of accesses with its answers, and what it leaves.
use Rattle.std.specs.Prelude.{refl, true, false, List, [], ◌∷◌}
use Rattle.model.specs.Lanes.{read_dword, write_dword}
use Rattle.model.specs.Transfer.{running}
use Rattle.model.specs.State.{World, sound, fresh_card, with_fifos, with_arbitration, with_mailboxes, with_interrupts, with_transfer}
use Rattle.model.specs.Runs.{Entry}
use Rattle.model.specs.Accesses.{Access, Answer, access}
use Rattle.model.specs.Bench.{q, r, ◌gives◌}
use Rattle.cases.specs.Vectors.{settings, pair, mail, interrupts, request, untouched, world, bytes, RunAgrees}

first : World
first =
    world
    (with_fifos ((143069886 ∷ 3154082905 ∷ []) ∷ [] ∷ (1358259325 ∷ 1126849746 ∷ 2740370992 ∷ 4294967295 ∷ 709496602 ∷ 2370554337 ∷ 431706400 ∷ 3349997377 ∷ 1462315896 ∷ 4111243483 ∷ 703614638 ∷ 1091891159 ∷ 3915723510 ∷ 4170958908 ∷ 4088629501 ∷ 1054793459 ∷ 2619959861 ∷ 3911551607 ∷ 3085336698 ∷ 3385225926 ∷ 762206583 ∷ 3495388262 ∷ 3260816471 ∷ 1957422447 ∷ 2812794572 ∷ 3997946514 ∷ 3692644764 ∷ 3212579882 ∷ 1668059612 ∷ 3905661044 ∷ []) ∷ (2487220732 ∷ 4034964006 ∷ 1008195543 ∷ []) ∷ []) (with_arbitration (pair false false ∷ pair true false ∷ pair false true ∷ pair false false ∷ []) (with_mailboxes (mail 65535 10759 false) (with_interrupts (interrupts 200 24 1 32) (with_transfer (running (request 0 8 536871040 24) 3) (untouched (settings 536870912 256 64 128)))))))
    (bytes ((0, 148 ∷ 240 ∷ 60 ∷ 231 ∷ 218 ∷ 75 ∷ 35 ∷ 192 ∷ 81 ∷ 35 ∷ 239 ∷ 173 ∷ 160 ∷ 17 ∷ 153 ∷ 47 ∷ 231 ∷ 158 ∷ 140 ∷ 186 ∷ []) ∷ (16344, 159 ∷ 254 ∷ 78 ∷ 143 ∷ 200 ∷ 92 ∷ 107 ∷ 123 ∷ 117 ∷ 149 ∷ 98 ∷ 241 ∷ 70 ∷ 188 ∷ 182 ∷ 207 ∷ 183 ∷ 34 ∷ 174 ∷ 183 ∷ []) ∷ []))
    (bytes ((0, 117 ∷ 93 ∷ 190 ∷ 1 ∷ 153 ∷ 68 ∷ 92 ∷ 168 ∷ 28 ∷ 208 ∷ 133 ∷ 70 ∷ 53 ∷ 163 ∷ 34 ∷ 175 ∷ 149 ∷ 9 ∷ 212 ∷ 247 ∷ []) ∷ (24, 159 ∷ 153 ∷ 49 ∷ 95 ∷ 66 ∷ 196 ∷ 32 ∷ 75 ∷ 130 ∷ 8 ∷ 120 ∷ 73 ∷ 98 ∷ 86 ∷ 133 ∷ 91 ∷ 53 ∷ 39 ∷ 236 ∷ 113 ∷ 255 ∷ 97 ∷ 142 ∷ 47 ∷ 81 ∷ 157 ∷ 198 ∷ 145 ∷ 87 ∷ 48 ∷ 39 ∷ 153 ∷ 18 ∷ 142 ∷ 252 ∷ 229 ∷ 199 ∷ 254 ∷ 76 ∷ 241 ∷ []) ∷ (24, 206 ∷ 1 ∷ 240 ∷ 82 ∷ 32 ∷ 133 ∷ 43 ∷ 12 ∷ 213 ∷ 99 ∷ 173 ∷ 240 ∷ 53 ∷ 122 ∷ 84 ∷ 112 ∷ 248 ∷ 145 ∷ 15 ∷ 225 ∷ 48 ∷ 114 ∷ 250 ∷ 42 ∷ 63 ∷ 6 ∷ 107 ∷ 178 ∷ 237 ∷ 117 ∷ 162 ∷ 87 ∷ 107 ∷ 185 ∷ 143 ∷ 17 ∷ 215 ∷ 194 ∷ 57 ∷ []) ∷ (89, 107 ∷ 95 ∷ 91 ∷ 123 ∷ 39 ∷ 77 ∷ 5 ∷ 62 ∷ 45 ∷ 34 ∷ 93 ∷ 183 ∷ 88 ∷ 200 ∷ 149 ∷ 217 ∷ []) ∷ []))

entries : List (Entry Access Answer)
entries =
    q 0 0 0 0 0 0 gives r 1 0 0
    ∷ q 1 1 0 8 0 0 gives r 1 0 0
    ∷ q 2 0 5 12 195939070 0 gives r 1 0 0
    ∷ q 3 0 0 536871164 0 0 gives r 1 0 0
    ∷ q 4 0 10 536870912 2271560481 0 gives r 1 0 0
    ∷ q 5 1 1 0 0 0 gives r 1 0 0
    ∷ q 6 1 3 0 77 0 gives r 1 0 0
    ∷ q 7 0 3 0 0 0 gives r 1 0 0
    ∷ q 8 1 3 0 0 0 gives r 1 0 0
    ∷ q 9 1 0 0 16777221 0 gives r 1 0 0
    ∷ q 10 0 0 0 0 0 gives r 1 0 0
    ∷ q 11 0 0 0 0 0 gives r 1 0 0
    ∷ q 12 0 0 0 524288 0 gives r 1 0 0
    ∷ q 13 0 0 0 0 0 gives r 1 0 0
    ∷ q 14 0 0 0 536870912 8 gives r 1 0 0
    ∷ q 15 0 0 0 0 0 gives r 1 0 0
    ∷ q 16 1 0 0 0 0 gives r 1 0 0
    ∷ q 3 0 16 536871164 0 1 gives r 1 0 0
    ∷ q 2 0 5 16384 195939070 0 gives r 1 0 0
    ∷ q 3 0 0 536871164 1 0 gives r 1 0 0
    ∷ q 2 0 255 12 195939070 0 gives r 1 0 0
    ∷ q 2 0 5 7 195939070 0 gives r 1 0 0
    ∷ q 16 255 0 0 0 0 gives r 1 0 0
    ∷ q 3 0 0 536871164 1 0 gives r 1 0 0
    ∷ q 14 0 0 0 536870912 3 gives r 1 0 0
    ∷ q 2 0 16 12 195939070 0 gives r 1 0 0
    ∷ q 4 0 10 536870908 2271560481 0 gives r 1 0 0
    ∷ q 11 255 0 0 0 0 gives r 1 0 0
    ∷ q 11 2 0 0 0 0 gives r 1 0 0
    ∷ q 15 0 0 1 0 0 gives r 1 0 0
    ∷ q 9 2 0 0 16777221 0 gives r 1 0 0
    ∷ q 6 1 4 0 77 0 gives r 1 0 0
    ∷ q 9 1 0 16777216 16777221 0 gives r 1 0 0
    ∷ q 12 0 0 0 524288 16777216 gives r 1 0 0
    ∷ q 3 0 16 536871168 0 0 gives r 1 0 0
    ∷ q 3 0 16 536871168 0 0 gives r 1 0 0
    ∷ q 2 0 5 5 195939070 0 gives r 1 0 0
    ∷ q 9 255 0 0 16777221 0 gives r 1 0 0
    ∷ q 4 0 10 536870908 2271560481 0 gives r 1 0 0
    ∷ q 8 1 3 0 0 4 gives r 1 0 0
    ∷ q 6 1 255 0 77 0 gives r 1 0 0
    ∷ q 6 1 1 0 9 0 gives r 1 0 0
    ∷ q 4 0 7 536870972 1855295897 0 gives r 1 0 0
    ∷ q 8 1 1 0 0 0 gives r 1 0 0
    ∷ q 15 1 0 0 0 0 gives r 1 0 0
    ∷ q 4 0 6 536870976 4294967295 0 gives r 1 0 0
    ∷ q 9 0 0 0 23 0 gives r 1 0 0
    ∷ q 5 0 3 0 0 0 gives r 1 0 0
    ∷ q 3 0 10 536870940 0 0 gives r 1 0 0
    ∷ q 3 0 14 536870908 0 0 gives r 1 0 0
    ∷ []

last : World
last =
    world
    (with_fifos ((143069886 ∷ 3154082905 ∷ []) ∷ [] ∷ (1358259325 ∷ 1126849746 ∷ 2740370992 ∷ 4294967295 ∷ 709496602 ∷ 2370554337 ∷ 431706400 ∷ 3349997377 ∷ 1462315896 ∷ 4111243483 ∷ 703614638 ∷ 1091891159 ∷ 3915723510 ∷ 4170958908 ∷ 4088629501 ∷ 1054793459 ∷ 2619959861 ∷ 3911551607 ∷ 3085336698 ∷ 3385225926 ∷ 762206583 ∷ 3495388262 ∷ 3260816471 ∷ 1957422447 ∷ 2812794572 ∷ 3997946514 ∷ 3692644764 ∷ 3212579882 ∷ 1668059612 ∷ 3905661044 ∷ []) ∷ (2487220732 ∷ 4034964006 ∷ 1008195543 ∷ []) ∷ []) (with_arbitration (pair false false ∷ pair true false ∷ pair false true ∷ pair false false ∷ []) (with_mailboxes (mail 65535 10759 false) (with_interrupts (interrupts 200 24 1 32) (with_transfer (running (request 0 8 536871040 24) 3) (untouched (settings 536870912 256 64 128)))))))
    (bytes ((0, 148 ∷ 240 ∷ 60 ∷ 231 ∷ 218 ∷ 75 ∷ 35 ∷ 192 ∷ 81 ∷ 35 ∷ 239 ∷ 173 ∷ 160 ∷ 17 ∷ 153 ∷ 47 ∷ 231 ∷ 158 ∷ 140 ∷ 186 ∷ []) ∷ (16344, 159 ∷ 254 ∷ 78 ∷ 143 ∷ 200 ∷ 92 ∷ 107 ∷ 123 ∷ 117 ∷ 149 ∷ 98 ∷ 241 ∷ 70 ∷ 188 ∷ 182 ∷ 207 ∷ 183 ∷ 34 ∷ 174 ∷ 183 ∷ []) ∷ []))
    (bytes ((0, 117 ∷ 93 ∷ 190 ∷ 1 ∷ 153 ∷ 68 ∷ 92 ∷ 168 ∷ 28 ∷ 208 ∷ 133 ∷ 70 ∷ 53 ∷ 163 ∷ 34 ∷ 175 ∷ 149 ∷ 9 ∷ 212 ∷ 247 ∷ []) ∷ (24, 159 ∷ 153 ∷ 49 ∷ 95 ∷ 66 ∷ 196 ∷ 32 ∷ 75 ∷ 130 ∷ 8 ∷ 120 ∷ 73 ∷ 98 ∷ 86 ∷ 133 ∷ 91 ∷ 53 ∷ 39 ∷ 236 ∷ 113 ∷ 255 ∷ 97 ∷ 142 ∷ 47 ∷ 81 ∷ 157 ∷ 198 ∷ 145 ∷ 87 ∷ 48 ∷ 39 ∷ 153 ∷ 18 ∷ 142 ∷ 252 ∷ 229 ∷ 199 ∷ 254 ∷ 76 ∷ 241 ∷ []) ∷ (24, 206 ∷ 1 ∷ 240 ∷ 82 ∷ 32 ∷ 133 ∷ 43 ∷ 12 ∷ 213 ∷ 99 ∷ 173 ∷ 240 ∷ 53 ∷ 122 ∷ 84 ∷ 112 ∷ 248 ∷ 145 ∷ 15 ∷ 225 ∷ 48 ∷ 114 ∷ 250 ∷ 42 ∷ 63 ∷ 6 ∷ 107 ∷ 178 ∷ 237 ∷ 117 ∷ 162 ∷ 87 ∷ 107 ∷ 185 ∷ 143 ∷ 17 ∷ 215 ∷ 194 ∷ 57 ∷ []) ∷ (89, 107 ∷ 95 ∷ 91 ∷ 123 ∷ 39 ∷ 77 ∷ 5 ∷ 62 ∷ 45 ∷ 34 ∷ 93 ∷ 183 ∷ 88 ∷ 200 ∷ 149 ∷ 217 ∷ []) ∷ []))

agrees : RunAgrees first entries last
unfolding first entries last access sound fresh_card read_dword write_dword
agrees = refl
