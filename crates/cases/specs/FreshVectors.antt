-- Written by the independent program, oracle/: settings, and the number and the card that they give.
use Rattle.std.specs.Prelude.{refl, List, [], ◌∷◌}
use Rattle.model.specs.State.{fresh_card}
use Rattle.cases.specs.Vectors.{settings, untouched, FreshCase, fresh_case, FreshAgrees}

cases : List FreshCase
cases =
    fresh_case (settings 0 0 0 0) 0 (untouched (settings 0 0 0 0))
    ∷ fresh_case (settings 268435456 32768 28672 32768) 0 (untouched (settings 268435456 32768 28672 32768))
    ∷ fresh_case (settings 1 64 0 0) 1 (untouched (settings 0 0 0 0))
    ∷ fresh_case (settings 2 64 0 0) 1 (untouched (settings 0 0 0 0))
    ∷ fresh_case (settings 3 64 0 0) 1 (untouched (settings 0 0 0 0))
    ∷ fresh_case (settings 4 64 0 0) 0 (untouched (settings 4 64 0 0))
    ∷ fresh_case (settings 4 61 0 0) 1 (untouched (settings 0 0 0 0))
    ∷ fresh_case (settings 4 62 0 0) 1 (untouched (settings 0 0 0 0))
    ∷ fresh_case (settings 4 63 0 0) 1 (untouched (settings 0 0 0 0))
    ∷ fresh_case (settings 4 64 1 8) 1 (untouched (settings 0 0 0 0))
    ∷ fresh_case (settings 4 64 2 8) 1 (untouched (settings 0 0 0 0))
    ∷ fresh_case (settings 4 64 4 8) 0 (untouched (settings 4 64 4 8))
    ∷ fresh_case (settings 4 64 4 6) 1 (untouched (settings 0 0 0 0))
    ∷ fresh_case (settings 4 64 4 7) 1 (untouched (settings 0 0 0 0))
    ∷ fresh_case (settings 2 62 2 2) 1 (untouched (settings 0 0 0 0))
    ∷ fresh_case (settings 0 65536 0 65536) 0 (untouched (settings 0 65536 0 65536))
    ∷ fresh_case (settings 0 65540 0 0) 1 (untouched (settings 0 0 0 0))
    ∷ fresh_case (settings 0 65537 0 0) 1 (untouched (settings 0 0 0 0))
    ∷ fresh_case (settings 0 4294967292 0 0) 1 (untouched (settings 0 0 0 0))
    ∷ fresh_case (settings 4294901760 65536 0 0) 0 (untouched (settings 4294901760 65536 0 0))
    ∷ fresh_case (settings 4294901764 65536 0 0) 1 (untouched (settings 0 0 0 0))
    ∷ fresh_case (settings 4294967232 64 0 64) 0 (untouched (settings 4294967232 64 0 64))
    ∷ fresh_case (settings 4294967232 68 0 64) 1 (untouched (settings 0 0 0 0))
    ∷ fresh_case (settings 4294967292 0 0 0) 0 (untouched (settings 4294967292 0 0 0))
    ∷ fresh_case (settings 4294967292 4 0 4) 0 (untouched (settings 4294967292 4 0 4))
    ∷ fresh_case (settings 4294967292 8 0 4) 1 (untouched (settings 0 0 0 0))
    ∷ fresh_case (settings 4096 64 32 32) 0 (untouched (settings 4096 64 32 32))
    ∷ fresh_case (settings 4096 64 36 32) 1 (untouched (settings 0 0 0 0))
    ∷ fresh_case (settings 4096 64 64 64) 0 (untouched (settings 4096 64 64 64))
    ∷ fresh_case (settings 4096 64 64 68) 1 (untouched (settings 0 0 0 0))
    ∷ fresh_case (settings 4096 64 68 68) 1 (untouched (settings 0 0 0 0))
    ∷ fresh_case (settings 4096 0 0 4) 1 (untouched (settings 0 0 0 0))
    ∷ fresh_case (settings 4294967295 4294967295 5 3) 1 (untouched (settings 0 0 0 0))
    ∷ fresh_case (settings 268435457 32768 32768 28672) 1 (untouched (settings 0 0 0 0))
    ∷ []

agrees : FreshAgrees cases
unfolding cases fresh_card
agrees = refl
