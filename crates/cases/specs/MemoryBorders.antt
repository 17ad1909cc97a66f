-- Written by the independent program, oracle/: a list of accesses with its answers, and what it leaves.
use Rattle.std.specs.Prelude.{refl, List, [], ◌∷◌}
use Rattle.model.specs.Lanes.{read_dword, write_dword}
use Rattle.model.specs.State.{World, sound, fresh_card, fresh_world, with_interrupts}
use Rattle.model.specs.Runs.{Entry}
use Rattle.model.specs.Accesses.{Access, Answer, access}
use Rattle.model.specs.Bench.{q, r, ◌gives◌}
use Rattle.cases.specs.Vectors.{settings, interrupts, untouched, world, bytes, RunAgrees}

first : World
first = fresh_world (settings 268435456 32768 28672 32768) (bytes ((0, 145 ∷ 190 ∷ 248 ∷ 113 ∷ 113 ∷ 195 ∷ 224 ∷ 133 ∷ 73 ∷ 203 ∷ 103 ∷ 154 ∷ 116 ∷ 135 ∷ 111 ∷ 42 ∷ 165 ∷ 208 ∷ 174 ∷ 226 ∷ []) ∷ (16344, 16 ∷ 20 ∷ 126 ∷ 31 ∷ 73 ∷ 12 ∷ 131 ∷ 182 ∷ 11 ∷ 255 ∷ 153 ∷ 150 ∷ 101 ∷ 112 ∷ 64 ∷ 135 ∷ 139 ∷ 191 ∷ 209 ∷ 171 ∷ []) ∷ [])) (bytes ((0, 220 ∷ 181 ∷ 60 ∷ 167 ∷ 222 ∷ 214 ∷ 83 ∷ 40 ∷ 228 ∷ 233 ∷ 77 ∷ 33 ∷ 83 ∷ 240 ∷ 100 ∷ 22 ∷ 155 ∷ 39 ∷ 245 ∷ 224 ∷ []) ∷ (28632, 134 ∷ 17 ∷ 192 ∷ 136 ∷ 184 ∷ 71 ∷ 9 ∷ 5 ∷ 145 ∷ 30 ∷ 41 ∷ 210 ∷ 249 ∷ 176 ∷ 144 ∷ 120 ∷ 159 ∷ 220 ∷ 206 ∷ 27 ∷ 166 ∷ 56 ∷ 108 ∷ 227 ∷ 175 ∷ 240 ∷ 192 ∷ 32 ∷ 45 ∷ 188 ∷ 199 ∷ 99 ∷ 24 ∷ 243 ∷ 152 ∷ 24 ∷ 219 ∷ 216 ∷ 0 ∷ 79 ∷ []) ∷ (4056, 177 ∷ 189 ∷ 248 ∷ 122 ∷ 55 ∷ 50 ∷ 24 ∷ 101 ∷ 61 ∷ 82 ∷ 61 ∷ 133 ∷ 150 ∷ 20 ∷ 117 ∷ 11 ∷ 169 ∷ 9 ∷ 21 ∷ 99 ∷ []) ∷ []))

entries : List (Entry Access Answer)
entries =
    q 3 0 0 268435456 0 0 gives r 0 2805773788 0
    ∷ q 4 0 6 268435456 413376062 0 gives r 0 0 0
    ∷ q 3 0 0 268435456 0 0 gives r 0 406631742 0
    ∷ q 3 0 0 268468220 0 0 gives r 0 1662323113 0
    ∷ q 4 0 6 268468220 1298730035 0 gives r 0 0 0
    ∷ q 3 0 0 268468220 0 0 gives r 0 1293224243 0
    ∷ q 3 0 0 268468224 0 0 gives r 9 0 0
    ∷ q 4 0 6 268468224 1608557507 0 gives r 9 0 0
    ∷ q 3 0 0 268468224 0 0 gives r 9 0 0
    ∷ q 3 0 0 268464128 0 0 gives r 0 3815520422 0
    ∷ q 4 0 6 268464128 1834015386 0 gives r 0 0 0
    ∷ q 3 0 0 268464128 0 0 gives r 0 1835808922 0
    ∷ q 3 0 0 268435452 0 0 gives r 9 0 0
    ∷ q 4 0 6 268435452 565648671 0 gives r 9 0 0
    ∷ q 3 0 0 268435452 0 0 gives r 9 0 0
    ∷ q 3 0 0 268435465 0 0 gives r 9 0 0
    ∷ q 4 0 0 268435465 9 0 gives r 9 0 0
    ∷ q 3 0 0 268435466 0 0 gives r 9 0 0
    ∷ q 4 0 0 268435466 9 0 gives r 9 0 0
    ∷ q 3 0 0 268435467 0 0 gives r 9 0 0
    ∷ q 4 0 0 268435467 9 0 gives r 9 0 0
    ∷ q 1 1 0 0 0 0 gives r 0 1912127121 0
    ∷ q 2 0 9 0 1762653010 0 gives r 0 0 0
    ∷ q 1 1 0 0 0 0 gives r 0 1896870801 0
    ∷ q 1 1 0 16380 0 0 gives r 0 2882649995 0
    ∷ q 2 0 9 16380 1837652656 0 gives r 0 0 0
    ∷ q 1 1 0 16380 0 0 gives r 0 2877840011 0
    ∷ q 1 1 0 16384 0 0 gives r 9 0 0
    ∷ q 2 0 9 16384 2894219440 0 gives r 9 0 0
    ∷ q 1 1 0 16384 0 0 gives r 9 0 0
    ∷ q 2 0 16 12 195939070 0 gives r 4 0 0
    ∷ q 14 0 0 0 268435456 1 gives r 8 0 0
    ∷ q 2 0 6 16372 0 0 gives r 0 0 0
    ∷ q 17 2 16 1 1 1 gives r 2 0 0
    ∷ q 1 1 1 28 0 0 gives r 0 0 0
    ∷ q 14 0 0 0 268435458 8 gives r 9 0 0
    ∷ q 3 0 0 268468224 0 0 gives r 9 0 0
    ∷ q 2 0 7 16368 0 0 gives r 0 0 0
    ∷ q 1 1 0 16384 0 0 gives r 9 0 0
    ∷ q 7 0 3 0 0 1 gives r 3 0 0
    ∷ q 12 0 0 4294967295 524288 0 gives r 3 0 0
    ∷ q 255 0 0 0 0 0 gives r 2 0 0
    ∷ q 5 1 1 16777216 0 0 gives r 3 0 0
    ∷ q 15 0 0 4294967295 0 0 gives r 3 0 0
    ∷ q 14 0 1 0 4294950916 16384 gives r 9 0 0
    ∷ q 4 0 16 268468224 2271560481 0 gives r 4 0 0
    ∷ q 0 2 0 0 0 0 gives r 2 0 0
    ∷ q 14 1 0 12 268435452 20 gives r 0 5 0
    ∷ q 10 2 0 0 0 0 gives r 2 0 0
    ∷ q 15 0 0 0 0 0 gives r 0 4 0
    ∷ []

last : World
last =
    world
    (with_interrupts (interrupts 0 512 0 512) (untouched (settings 268435456 32768 28672 32768)))
    (bytes ((0, 145 ∷ 243 ∷ 15 ∷ 113 ∷ 113 ∷ 195 ∷ 224 ∷ 133 ∷ 73 ∷ 203 ∷ 103 ∷ 154 ∷ 116 ∷ 135 ∷ 111 ∷ 42 ∷ 165 ∷ 208 ∷ 174 ∷ 226 ∷ []) ∷ (16344, 16 ∷ 20 ∷ 126 ∷ 31 ∷ 73 ∷ 12 ∷ 131 ∷ 0 ∷ 0 ∷ 255 ∷ 153 ∷ 0 ∷ 101 ∷ 112 ∷ 64 ∷ 135 ∷ 139 ∷ 90 ∷ 136 ∷ 171 ∷ []) ∷ []))
    (bytes ((0, 62 ∷ 181 ∷ 60 ∷ 24 ∷ 222 ∷ 214 ∷ 83 ∷ 40 ∷ 228 ∷ 233 ∷ 77 ∷ 33 ∷ 83 ∷ 240 ∷ 100 ∷ 22 ∷ 155 ∷ 39 ∷ 245 ∷ 224 ∷ []) ∷ (28632, 134 ∷ 17 ∷ 192 ∷ 136 ∷ 184 ∷ 71 ∷ 9 ∷ 5 ∷ 145 ∷ 30 ∷ 41 ∷ 210 ∷ 249 ∷ 176 ∷ 144 ∷ 120 ∷ 159 ∷ 220 ∷ 206 ∷ 27 ∷ 154 ∷ 56 ∷ 108 ∷ 109 ∷ 175 ∷ 240 ∷ 192 ∷ 32 ∷ 45 ∷ 188 ∷ 199 ∷ 99 ∷ 24 ∷ 243 ∷ 152 ∷ 24 ∷ 219 ∷ 216 ∷ 0 ∷ 79 ∷ []) ∷ (4056, 177 ∷ 189 ∷ 248 ∷ 122 ∷ 55 ∷ 50 ∷ 24 ∷ 101 ∷ 61 ∷ 82 ∷ 61 ∷ 133 ∷ 150 ∷ 20 ∷ 117 ∷ 11 ∷ 51 ∷ 9 ∷ 21 ∷ 77 ∷ []) ∷ []))

agrees : RunAgrees first entries last
unfolding first entries last access sound fresh_card read_dword write_dword
agrees = refl
