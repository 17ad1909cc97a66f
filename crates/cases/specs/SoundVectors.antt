-- Written by the independent program, oracle/: records, and whether they are sound.
use Rattle.std.specs.Prelude.{refl, true, false, List, [], ◌∷◌}
use Rattle.model.specs.Transfer.{running}
use Rattle.model.specs.State.{sound, with_fifos, with_arbitration, with_mailboxes, with_interrupts, with_transfer}
use Rattle.cases.specs.Vectors.{settings, pair, mail, interrupts, request, untouched, SoundCase, sound_case, SoundnessAgrees}

cases : List SoundCase
cases =
    sound_case (untouched (settings 4096 64 16 32)) true
    ∷ sound_case (untouched (settings 0 0 0 0)) true
    ∷ sound_case (untouched (settings 268435456 32768 28672 32768)) true
    ∷ sound_case (untouched (settings 1 64 0 0)) false
    ∷ sound_case (untouched (settings 2 64 0 0)) false
    ∷ sound_case (untouched (settings 3 64 0 0)) false
    ∷ sound_case (untouched (settings 4 64 0 0)) true
    ∷ sound_case (untouched (settings 4 61 0 0)) false
    ∷ sound_case (untouched (settings 4 62 0 0)) false
    ∷ sound_case (untouched (settings 4 63 0 0)) false
    ∷ sound_case (untouched (settings 4 64 1 8)) false
    ∷ sound_case (untouched (settings 4 64 2 8)) false
    ∷ sound_case (untouched (settings 4 64 4 8)) true
    ∷ sound_case (untouched (settings 4 64 4 6)) false
    ∷ sound_case (untouched (settings 4 64 4 7)) false
    ∷ sound_case (untouched (settings 2 62 2 2)) false
    ∷ sound_case (untouched (settings 0 65536 0 65536)) true
    ∷ sound_case (untouched (settings 0 65540 0 0)) false
    ∷ sound_case (untouched (settings 0 65537 0 0)) false
    ∷ sound_case (untouched (settings 0 4294967292 0 0)) false
    ∷ sound_case (untouched (settings 4294901760 65536 0 0)) true
    ∷ sound_case (untouched (settings 4294901764 65536 0 0)) false
    ∷ sound_case (untouched (settings 4294967232 64 0 64)) true
    ∷ sound_case (untouched (settings 4294967232 68 0 64)) false
    ∷ sound_case (untouched (settings 4294967292 0 0 0)) true
    ∷ sound_case (untouched (settings 4294967292 4 0 4)) true
    ∷ sound_case (untouched (settings 4294967292 8 0 4)) false
    ∷ sound_case (untouched (settings 4096 64 32 32)) true
    ∷ sound_case (untouched (settings 4096 64 36 32)) false
    ∷ sound_case (untouched (settings 4096 64 64 64)) true
    ∷ sound_case (untouched (settings 4096 64 64 68)) false
    ∷ sound_case (untouched (settings 4096 64 68 68)) false
    ∷ sound_case (untouched (settings 4096 0 0 4)) false
    ∷ sound_case (untouched (settings 4294967295 4294967295 5 3)) false
    ∷ sound_case (untouched (settings 268435457 32768 32768 28672)) false
    ∷ sound_case (with_fifos ((0 ∷ 1 ∷ 2 ∷ 3 ∷ 4 ∷ 5 ∷ 6 ∷ 7 ∷ 8 ∷ 9 ∷ 10 ∷ 11 ∷ 12 ∷ 13 ∷ 14 ∷ 15 ∷ 16 ∷ 17 ∷ 18 ∷ 19 ∷ 20 ∷ 21 ∷ 22 ∷ 23 ∷ 24 ∷ 25 ∷ 26 ∷ 27 ∷ 28 ∷ 29 ∷ 30 ∷ []) ∷ [] ∷ [] ∷ [] ∷ []) (untouched (settings 4096 64 16 32))) true
    ∷ sound_case (with_fifos ((0 ∷ 1 ∷ 2 ∷ 3 ∷ 4 ∷ 5 ∷ 6 ∷ 7 ∷ 8 ∷ 9 ∷ 10 ∷ 11 ∷ 12 ∷ 13 ∷ 14 ∷ 15 ∷ 16 ∷ 17 ∷ 18 ∷ 19 ∷ 20 ∷ 21 ∷ 22 ∷ 23 ∷ 24 ∷ 25 ∷ 26 ∷ 27 ∷ 28 ∷ 29 ∷ 30 ∷ 31 ∷ []) ∷ [] ∷ [] ∷ [] ∷ []) (untouched (settings 4096 64 16 32))) true
    ∷ sound_case (with_fifos ((0 ∷ 1 ∷ 2 ∷ 3 ∷ 4 ∷ 5 ∷ 6 ∷ 7 ∷ 8 ∷ 9 ∷ 10 ∷ 11 ∷ 12 ∷ 13 ∷ 14 ∷ 15 ∷ 16 ∷ 17 ∷ 18 ∷ 19 ∷ 20 ∷ 21 ∷ 22 ∷ 23 ∷ 24 ∷ 25 ∷ 26 ∷ 27 ∷ 28 ∷ 29 ∷ 30 ∷ 31 ∷ 32 ∷ []) ∷ [] ∷ [] ∷ [] ∷ []) (untouched (settings 4096 64 16 32))) false
    ∷ sound_case (with_fifos ([] ∷ (0 ∷ 1 ∷ 2 ∷ 3 ∷ 4 ∷ 5 ∷ 6 ∷ 7 ∷ 8 ∷ 9 ∷ 10 ∷ 11 ∷ 12 ∷ 13 ∷ 14 ∷ 15 ∷ 16 ∷ 17 ∷ 18 ∷ 19 ∷ 20 ∷ 21 ∷ 22 ∷ 23 ∷ 24 ∷ 25 ∷ 26 ∷ 27 ∷ 28 ∷ 29 ∷ 30 ∷ []) ∷ [] ∷ [] ∷ []) (untouched (settings 4096 64 16 32))) true
    ∷ sound_case (with_fifos ([] ∷ (0 ∷ 1 ∷ 2 ∷ 3 ∷ 4 ∷ 5 ∷ 6 ∷ 7 ∷ 8 ∷ 9 ∷ 10 ∷ 11 ∷ 12 ∷ 13 ∷ 14 ∷ 15 ∷ 16 ∷ 17 ∷ 18 ∷ 19 ∷ 20 ∷ 21 ∷ 22 ∷ 23 ∷ 24 ∷ 25 ∷ 26 ∷ 27 ∷ 28 ∷ 29 ∷ 30 ∷ 31 ∷ []) ∷ [] ∷ [] ∷ []) (untouched (settings 4096 64 16 32))) true
    ∷ sound_case (with_fifos ([] ∷ (0 ∷ 1 ∷ 2 ∷ 3 ∷ 4 ∷ 5 ∷ 6 ∷ 7 ∷ 8 ∷ 9 ∷ 10 ∷ 11 ∷ 12 ∷ 13 ∷ 14 ∷ 15 ∷ 16 ∷ 17 ∷ 18 ∷ 19 ∷ 20 ∷ 21 ∷ 22 ∷ 23 ∷ 24 ∷ 25 ∷ 26 ∷ 27 ∷ 28 ∷ 29 ∷ 30 ∷ 31 ∷ 32 ∷ []) ∷ [] ∷ [] ∷ []) (untouched (settings 4096 64 16 32))) false
    ∷ sound_case (with_fifos ([] ∷ [] ∷ (0 ∷ 1 ∷ 2 ∷ 3 ∷ 4 ∷ 5 ∷ 6 ∷ 7 ∷ 8 ∷ 9 ∷ 10 ∷ 11 ∷ 12 ∷ 13 ∷ 14 ∷ 15 ∷ 16 ∷ 17 ∷ 18 ∷ 19 ∷ 20 ∷ 21 ∷ 22 ∷ 23 ∷ 24 ∷ 25 ∷ 26 ∷ 27 ∷ 28 ∷ 29 ∷ 30 ∷ []) ∷ [] ∷ []) (untouched (settings 4096 64 16 32))) true
    ∷ sound_case (with_fifos ([] ∷ [] ∷ (0 ∷ 1 ∷ 2 ∷ 3 ∷ 4 ∷ 5 ∷ 6 ∷ 7 ∷ 8 ∷ 9 ∷ 10 ∷ 11 ∷ 12 ∷ 13 ∷ 14 ∷ 15 ∷ 16 ∷ 17 ∷ 18 ∷ 19 ∷ 20 ∷ 21 ∷ 22 ∷ 23 ∷ 24 ∷ 25 ∷ 26 ∷ 27 ∷ 28 ∷ 29 ∷ 30 ∷ 31 ∷ []) ∷ [] ∷ []) (untouched (settings 4096 64 16 32))) true
    ∷ sound_case (with_fifos ([] ∷ [] ∷ (0 ∷ 1 ∷ 2 ∷ 3 ∷ 4 ∷ 5 ∷ 6 ∷ 7 ∷ 8 ∷ 9 ∷ 10 ∷ 11 ∷ 12 ∷ 13 ∷ 14 ∷ 15 ∷ 16 ∷ 17 ∷ 18 ∷ 19 ∷ 20 ∷ 21 ∷ 22 ∷ 23 ∷ 24 ∷ 25 ∷ 26 ∷ 27 ∷ 28 ∷ 29 ∷ 30 ∷ 31 ∷ 32 ∷ []) ∷ [] ∷ []) (untouched (settings 4096 64 16 32))) false
    ∷ sound_case (with_fifos ([] ∷ [] ∷ [] ∷ (0 ∷ 1 ∷ 2 ∷ 3 ∷ 4 ∷ 5 ∷ 6 ∷ 7 ∷ 8 ∷ 9 ∷ 10 ∷ 11 ∷ 12 ∷ 13 ∷ 14 ∷ 15 ∷ 16 ∷ 17 ∷ 18 ∷ 19 ∷ 20 ∷ 21 ∷ 22 ∷ 23 ∷ 24 ∷ 25 ∷ 26 ∷ 27 ∷ 28 ∷ 29 ∷ 30 ∷ []) ∷ []) (untouched (settings 4096 64 16 32))) true
    ∷ sound_case (with_fifos ([] ∷ [] ∷ [] ∷ (0 ∷ 1 ∷ 2 ∷ 3 ∷ 4 ∷ 5 ∷ 6 ∷ 7 ∷ 8 ∷ 9 ∷ 10 ∷ 11 ∷ 12 ∷ 13 ∷ 14 ∷ 15 ∷ 16 ∷ 17 ∷ 18 ∷ 19 ∷ 20 ∷ 21 ∷ 22 ∷ 23 ∷ 24 ∷ 25 ∷ 26 ∷ 27 ∷ 28 ∷ 29 ∷ 30 ∷ 31 ∷ []) ∷ []) (untouched (settings 4096 64 16 32))) true
    ∷ sound_case (with_fifos ([] ∷ [] ∷ [] ∷ (0 ∷ 1 ∷ 2 ∷ 3 ∷ 4 ∷ 5 ∷ 6 ∷ 7 ∷ 8 ∷ 9 ∷ 10 ∷ 11 ∷ 12 ∷ 13 ∷ 14 ∷ 15 ∷ 16 ∷ 17 ∷ 18 ∷ 19 ∷ 20 ∷ 21 ∷ 22 ∷ 23 ∷ 24 ∷ 25 ∷ 26 ∷ 27 ∷ 28 ∷ 29 ∷ 30 ∷ 31 ∷ 32 ∷ []) ∷ []) (untouched (settings 4096 64 16 32))) false
    ∷ sound_case (with_fifos ((4294967295 ∷ 4294967295 ∷ 4294967295 ∷ 4294967295 ∷ 4294967295 ∷ 4294967295 ∷ 4294967295 ∷ 4294967295 ∷ 4294967295 ∷ 4294967295 ∷ 4294967295 ∷ 4294967295 ∷ 4294967295 ∷ 4294967295 ∷ 4294967295 ∷ 4294967295 ∷ 4294967295 ∷ 4294967295 ∷ 4294967295 ∷ 4294967295 ∷ 4294967295 ∷ 4294967295 ∷ 4294967295 ∷ 4294967295 ∷ 4294967295 ∷ 4294967295 ∷ 4294967295 ∷ 4294967295 ∷ 4294967295 ∷ 4294967295 ∷ 4294967295 ∷ 4294967295 ∷ []) ∷ (4294967295 ∷ 4294967295 ∷ 4294967295 ∷ 4294967295 ∷ 4294967295 ∷ 4294967295 ∷ 4294967295 ∷ 4294967295 ∷ 4294967295 ∷ 4294967295 ∷ 4294967295 ∷ 4294967295 ∷ 4294967295 ∷ 4294967295 ∷ 4294967295 ∷ 4294967295 ∷ 4294967295 ∷ 4294967295 ∷ 4294967295 ∷ 4294967295 ∷ 4294967295 ∷ 4294967295 ∷ 4294967295 ∷ 4294967295 ∷ 4294967295 ∷ 4294967295 ∷ 4294967295 ∷ 4294967295 ∷ 4294967295 ∷ 4294967295 ∷ 4294967295 ∷ 4294967295 ∷ []) ∷ (4294967295 ∷ 4294967295 ∷ 4294967295 ∷ 4294967295 ∷ 4294967295 ∷ 4294967295 ∷ 4294967295 ∷ 4294967295 ∷ 4294967295 ∷ 4294967295 ∷ 4294967295 ∷ 4294967295 ∷ 4294967295 ∷ 4294967295 ∷ 4294967295 ∷ 4294967295 ∷ 4294967295 ∷ 4294967295 ∷ 4294967295 ∷ 4294967295 ∷ 4294967295 ∷ 4294967295 ∷ 4294967295 ∷ 4294967295 ∷ 4294967295 ∷ 4294967295 ∷ 4294967295 ∷ 4294967295 ∷ 4294967295 ∷ 4294967295 ∷ 4294967295 ∷ 4294967295 ∷ []) ∷ (4294967295 ∷ 4294967295 ∷ 4294967295 ∷ 4294967295 ∷ 4294967295 ∷ 4294967295 ∷ 4294967295 ∷ 4294967295 ∷ 4294967295 ∷ 4294967295 ∷ 4294967295 ∷ 4294967295 ∷ 4294967295 ∷ 4294967295 ∷ 4294967295 ∷ 4294967295 ∷ 4294967295 ∷ 4294967295 ∷ 4294967295 ∷ 4294967295 ∷ 4294967295 ∷ 4294967295 ∷ 4294967295 ∷ 4294967295 ∷ 4294967295 ∷ 4294967295 ∷ 4294967295 ∷ 4294967295 ∷ 4294967295 ∷ 4294967295 ∷ 4294967295 ∷ 4294967295 ∷ []) ∷ []) (untouched (settings 4096 64 16 32))) true
    ∷ sound_case (with_fifos [] (untouched (settings 4096 64 16 32))) false
    ∷ sound_case (with_fifos ([] ∷ [] ∷ [] ∷ []) (untouched (settings 4096 64 16 32))) false
    ∷ sound_case (with_fifos ([] ∷ [] ∷ [] ∷ [] ∷ [] ∷ []) (untouched (settings 4096 64 16 32))) false
    ∷ sound_case (with_fifos ([] ∷ [] ∷ [] ∷ [] ∷ (5 ∷ []) ∷ []) (untouched (settings 4096 64 16 32))) false
    ∷ sound_case (with_arbitration (pair true false ∷ pair false false ∷ pair false false ∷ pair false false ∷ []) (untouched (settings 4096 64 16 32))) true
    ∷ sound_case (with_arbitration (pair false true ∷ pair false false ∷ pair false false ∷ pair false false ∷ []) (untouched (settings 4096 64 16 32))) true
    ∷ sound_case (with_arbitration (pair true true ∷ pair false false ∷ pair false false ∷ pair false false ∷ []) (untouched (settings 4096 64 16 32))) false
    ∷ sound_case (with_arbitration (pair false false ∷ pair true false ∷ pair false false ∷ pair false false ∷ []) (untouched (settings 4096 64 16 32))) true
    ∷ sound_case (with_arbitration (pair false false ∷ pair false true ∷ pair false false ∷ pair false false ∷ []) (untouched (settings 4096 64 16 32))) true
    ∷ sound_case (with_arbitration (pair false false ∷ pair true true ∷ pair false false ∷ pair false false ∷ []) (untouched (settings 4096 64 16 32))) false
    ∷ sound_case (with_arbitration (pair false false ∷ pair false false ∷ pair true false ∷ pair false false ∷ []) (untouched (settings 4096 64 16 32))) true
    ∷ sound_case (with_arbitration (pair false false ∷ pair false false ∷ pair false true ∷ pair false false ∷ []) (untouched (settings 4096 64 16 32))) true
    ∷ sound_case (with_arbitration (pair false false ∷ pair false false ∷ pair true true ∷ pair false false ∷ []) (untouched (settings 4096 64 16 32))) false
    ∷ sound_case (with_arbitration (pair false false ∷ pair false false ∷ pair false false ∷ pair true false ∷ []) (untouched (settings 4096 64 16 32))) true
    ∷ sound_case (with_arbitration (pair false false ∷ pair false false ∷ pair false false ∷ pair false true ∷ []) (untouched (settings 4096 64 16 32))) true
    ∷ sound_case (with_arbitration (pair false false ∷ pair false false ∷ pair false false ∷ pair true true ∷ []) (untouched (settings 4096 64 16 32))) false
    ∷ sound_case (with_arbitration [] (untouched (settings 4096 64 16 32))) false
    ∷ sound_case (with_arbitration (pair false false ∷ pair false false ∷ pair false false ∷ []) (untouched (settings 4096 64 16 32))) false
    ∷ sound_case (with_arbitration (pair false false ∷ pair false false ∷ pair false false ∷ pair false false ∷ pair false false ∷ []) (untouched (settings 4096 64 16 32))) false
    ∷ sound_case (with_mailboxes (mail 65535 0 false) (untouched (settings 4096 64 16 32))) true
    ∷ sound_case (with_mailboxes (mail 0 65535 false) (untouched (settings 4096 64 16 32))) true
    ∷ sound_case (with_mailboxes (mail 0 65535 true) (untouched (settings 4096 64 16 32))) true
    ∷ sound_case (with_mailboxes (mail 65536 0 false) (untouched (settings 4096 64 16 32))) false
    ∷ sound_case (with_mailboxes (mail 0 65536 false) (untouched (settings 4096 64 16 32))) false
    ∷ sound_case (with_mailboxes (mail 0 65536 true) (untouched (settings 4096 64 16 32))) false
    ∷ sound_case (with_mailboxes (mail 4294967295 0 false) (untouched (settings 4096 64 16 32))) false
    ∷ sound_case (with_mailboxes (mail 0 4294967295 false) (untouched (settings 4096 64 16 32))) false
    ∷ sound_case (with_mailboxes (mail 0 4294967295 true) (untouched (settings 4096 64 16 32))) false
    ∷ sound_case (with_mailboxes (mail 0 0 true) (untouched (settings 4096 64 16 32))) true
    ∷ sound_case (with_interrupts (interrupts 0 1 0 0) (untouched (settings 4096 64 16 32))) true
    ∷ sound_case (with_interrupts (interrupts 0 0 0 1) (untouched (settings 4096 64 16 32))) true
    ∷ sound_case (with_interrupts (interrupts 1 0 0 0) (untouched (settings 4096 64 16 32))) true
    ∷ sound_case (with_interrupts (interrupts 0 0 1 0) (untouched (settings 4096 64 16 32))) true
    ∷ sound_case (with_interrupts (interrupts 0 2 0 0) (untouched (settings 4096 64 16 32))) true
    ∷ sound_case (with_interrupts (interrupts 0 0 0 2) (untouched (settings 4096 64 16 32))) true
    ∷ sound_case (with_interrupts (interrupts 2 0 0 0) (untouched (settings 4096 64 16 32))) true
    ∷ sound_case (with_interrupts (interrupts 0 0 2 0) (untouched (settings 4096 64 16 32))) true
    ∷ sound_case (with_interrupts (interrupts 0 4 0 0) (untouched (settings 4096 64 16 32))) false
    ∷ sound_case (with_interrupts (interrupts 0 0 0 4) (untouched (settings 4096 64 16 32))) false
    ∷ sound_case (with_interrupts (interrupts 4 0 0 0) (untouched (settings 4096 64 16 32))) false
    ∷ sound_case (with_interrupts (interrupts 0 0 4 0) (untouched (settings 4096 64 16 32))) false
    ∷ sound_case (with_interrupts (interrupts 0 8 0 0) (untouched (settings 4096 64 16 32))) true
    ∷ sound_case (with_interrupts (interrupts 0 0 0 8) (untouched (settings 4096 64 16 32))) true
    ∷ sound_case (with_interrupts (interrupts 8 0 0 0) (untouched (settings 4096 64 16 32))) true
    ∷ sound_case (with_interrupts (interrupts 0 0 8 0) (untouched (settings 4096 64 16 32))) true
    ∷ sound_case (with_interrupts (interrupts 0 16 0 0) (untouched (settings 4096 64 16 32))) true
    ∷ sound_case (with_interrupts (interrupts 0 0 0 16) (untouched (settings 4096 64 16 32))) false
    ∷ sound_case (with_interrupts (interrupts 16 0 0 0) (untouched (settings 4096 64 16 32))) true
    ∷ sound_case (with_interrupts (interrupts 0 0 16 0) (untouched (settings 4096 64 16 32))) false
    ∷ sound_case (with_interrupts (interrupts 0 32 0 0) (untouched (settings 4096 64 16 32))) true
    ∷ sound_case (with_interrupts (interrupts 0 0 0 32) (untouched (settings 4096 64 16 32))) true
    ∷ sound_case (with_interrupts (interrupts 32 0 0 0) (untouched (settings 4096 64 16 32))) true
    ∷ sound_case (with_interrupts (interrupts 0 0 32 0) (untouched (settings 4096 64 16 32))) true
    ∷ sound_case (with_interrupts (interrupts 0 64 0 0) (untouched (settings 4096 64 16 32))) false
    ∷ sound_case (with_interrupts (interrupts 0 0 0 64) (untouched (settings 4096 64 16 32))) false
    ∷ sound_case (with_interrupts (interrupts 64 0 0 0) (untouched (settings 4096 64 16 32))) true
    ∷ sound_case (with_interrupts (interrupts 0 0 64 0) (untouched (settings 4096 64 16 32))) true
    ∷ sound_case (with_interrupts (interrupts 0 128 0 0) (untouched (settings 4096 64 16 32))) false
    ∷ sound_case (with_interrupts (interrupts 0 0 0 128) (untouched (settings 4096 64 16 32))) false
    ∷ sound_case (with_interrupts (interrupts 128 0 0 0) (untouched (settings 4096 64 16 32))) true
    ∷ sound_case (with_interrupts (interrupts 0 0 128 0) (untouched (settings 4096 64 16 32))) true
    ∷ sound_case (with_interrupts (interrupts 0 256 0 0) (untouched (settings 4096 64 16 32))) true
    ∷ sound_case (with_interrupts (interrupts 0 0 0 256) (untouched (settings 4096 64 16 32))) true
    ∷ sound_case (with_interrupts (interrupts 256 0 0 0) (untouched (settings 4096 64 16 32))) true
    ∷ sound_case (with_interrupts (interrupts 0 0 256 0) (untouched (settings 4096 64 16 32))) true
    ∷ sound_case (with_interrupts (interrupts 0 512 0 0) (untouched (settings 4096 64 16 32))) true
    ∷ sound_case (with_interrupts (interrupts 0 0 0 512) (untouched (settings 4096 64 16 32))) true
    ∷ sound_case (with_interrupts (interrupts 512 0 0 0) (untouched (settings 4096 64 16 32))) true
    ∷ sound_case (with_interrupts (interrupts 0 0 512 0) (untouched (settings 4096 64 16 32))) true
    ∷ sound_case (with_interrupts (interrupts 0 1024 0 0) (untouched (settings 4096 64 16 32))) false
    ∷ sound_case (with_interrupts (interrupts 0 0 0 1024) (untouched (settings 4096 64 16 32))) false
    ∷ sound_case (with_interrupts (interrupts 1024 0 0 0) (untouched (settings 4096 64 16 32))) false
    ∷ sound_case (with_interrupts (interrupts 0 0 1024 0) (untouched (settings 4096 64 16 32))) false
    ∷ sound_case (with_interrupts (interrupts 0 65536 0 0) (untouched (settings 4096 64 16 32))) false
    ∷ sound_case (with_interrupts (interrupts 0 0 0 65536) (untouched (settings 4096 64 16 32))) false
    ∷ sound_case (with_interrupts (interrupts 65536 0 0 0) (untouched (settings 4096 64 16 32))) false
    ∷ sound_case (with_interrupts (interrupts 0 0 65536 0) (untouched (settings 4096 64 16 32))) false
    ∷ sound_case (with_interrupts (interrupts 0 2147483648 0 0) (untouched (settings 4096 64 16 32))) false
    ∷ sound_case (with_interrupts (interrupts 0 0 0 2147483648) (untouched (settings 4096 64 16 32))) false
    ∷ sound_case (with_interrupts (interrupts 2147483648 0 0 0) (untouched (settings 4096 64 16 32))) false
    ∷ sound_case (with_interrupts (interrupts 0 0 2147483648 0) (untouched (settings 4096 64 16 32))) false
    ∷ sound_case (with_interrupts (interrupts 1019 827 0 0) (untouched (settings 4096 64 16 32))) true
    ∷ sound_case (with_interrupts (interrupts 0 0 1003 811) (untouched (settings 4096 64 16 32))) true
    ∷ sound_case (with_interrupts (interrupts 0 0 1019 811) (untouched (settings 4096 64 16 32))) false
    ∷ sound_case (with_interrupts (interrupts 0 0 1003 827) (untouched (settings 4096 64 16 32))) false
    ∷ sound_case (with_transfer (running (request 0 0 4096 4) 0) (untouched (settings 4096 64 16 32))) true
    ∷ sound_case (with_transfer (running (request 1 0 4096 4) 0) (untouched (settings 4096 64 16 32))) true
    ∷ sound_case (with_transfer (running (request 2 0 4096 4) 0) (untouched (settings 4096 64 16 32))) false
    ∷ sound_case (with_transfer (running (request 255 0 4096 4) 0) (untouched (settings 4096 64 16 32))) false
    ∷ sound_case (with_transfer (running (request 0 0 4096 0) 0) (untouched (settings 4096 64 16 32))) false
    ∷ sound_case (with_transfer (running (request 0 0 4096 3) 0) (untouched (settings 4096 64 16 32))) false
    ∷ sound_case (with_transfer (running (request 0 0 4096 5) 0) (untouched (settings 4096 64 16 32))) false
    ∷ sound_case (with_transfer (running (request 1 0 4096 6) 0) (untouched (settings 4096 64 16 32))) false
    ∷ sound_case (with_transfer (running (request 0 0 4096 16384) 0) (untouched (settings 4096 64 16 32))) true
    ∷ sound_case (with_transfer (running (request 0 0 4096 16388) 0) (untouched (settings 4096 64 16 32))) false
    ∷ sound_case (with_transfer (running (request 1 0 4096 4294967292) 0) (untouched (settings 4096 64 16 32))) false
    ∷ sound_case (with_transfer (running (request 0 4 4096 16384) 0) (untouched (settings 4096 64 16 32))) false
    ∷ sound_case (with_transfer (running (request 1 16380 4096 4) 0) (untouched (settings 4096 64 16 32))) true
    ∷ sound_case (with_transfer (running (request 1 16384 4096 4) 0) (untouched (settings 4096 64 16 32))) false
    ∷ sound_case (with_transfer (running (request 1 16380 4096 8) 0) (untouched (settings 4096 64 16 32))) false
    ∷ sound_case (with_transfer (running (request 0 4294967292 4096 4) 0) (untouched (settings 4096 64 16 32))) false
    ∷ sound_case (with_transfer (running (request 0 1 4096 4) 0) (untouched (settings 4096 64 16 32))) false
    ∷ sound_case (with_transfer (running (request 0 2 4096 4) 0) (untouched (settings 4096 64 16 32))) false
    ∷ sound_case (with_transfer (running (request 0 0 4097 4) 0) (untouched (settings 4096 64 16 32))) false
    ∷ sound_case (with_transfer (running (request 1 0 4099 4) 0) (untouched (settings 4096 64 16 32))) false
    ∷ sound_case (with_transfer (running (request 1 0 0 4) 0) (untouched (settings 4096 64 16 32))) true
    ∷ sound_case (with_transfer (running (request 0 8 4112 16) 0) (untouched (settings 4096 64 16 32))) true
    ∷ sound_case (with_transfer (running (request 1 8 4160 16) 0) (untouched (settings 4096 64 16 32))) true
    ∷ sound_case (with_transfer (running (request 0 0 4294967292 4) 0) (untouched (settings 4096 64 16 32))) true
    ∷ sound_case (with_transfer (running (request 0 0 4294967292 8) 0) (untouched (settings 4096 64 16 32))) false
    ∷ sound_case (with_transfer (running (request 0 0 4294950912 16384) 0) (untouched (settings 4096 64 16 32))) true
    ∷ sound_case (with_transfer (running (request 0 0 4294950916 16384) 0) (untouched (settings 4096 64 16 32))) false
    ∷ sound_case (with_transfer (running (request 1 0 4096 4) 0) (untouched (settings 4096 64 16 32))) true
    ∷ sound_case (with_transfer (running (request 1 0 4096 4) 1) (untouched (settings 4096 64 16 32))) false
    ∷ sound_case (with_transfer (running (request 1 0 4096 8) 1) (untouched (settings 4096 64 16 32))) true
    ∷ sound_case (with_transfer (running (request 1 0 4096 8) 2) (untouched (settings 4096 64 16 32))) false
    ∷ sound_case (with_transfer (running (request 1 0 4096 8) 3) (untouched (settings 4096 64 16 32))) false
    ∷ sound_case (with_transfer (running (request 1 0 4096 16384) 4095) (untouched (settings 4096 64 16 32))) true
    ∷ sound_case (with_transfer (running (request 1 0 4096 16384) 4096) (untouched (settings 4096 64 16 32))) false
    ∷ sound_case (with_transfer (running (request 1 0 4096 16384) 4294967295) (untouched (settings 4096 64 16 32))) false
    ∷ sound_case (with_fifos ([] ∷ (501019691 ∷ 2400679748 ∷ 4061781853 ∷ 3152129611 ∷ 4003521704 ∷ 1376887382 ∷ 381512937 ∷ 1340373846 ∷ 2465869990 ∷ 2170807876 ∷ 2480495783 ∷ 649618027 ∷ 679145261 ∷ 335471757 ∷ 556829748 ∷ 2058536213 ∷ 1140334990 ∷ 2583320309 ∷ 1414689263 ∷ 3220735237 ∷ 3247129350 ∷ 704157410 ∷ 812359387 ∷ 2373922409 ∷ 3241418684 ∷ 1671925077 ∷ 3149861155 ∷ []) ∷ (654482646 ∷ 2531978795 ∷ 1217968121 ∷ 1295912909 ∷ 833711382 ∷ 3817740696 ∷ 3402999862 ∷ 4285952590 ∷ 2284141760 ∷ 1335103665 ∷ 4153575525 ∷ 4061052300 ∷ 3053653951 ∷ 1965933370 ∷ 3102926849 ∷ 204806765 ∷ 2098369169 ∷ 335225881 ∷ 786627764 ∷ 759762165 ∷ 2302337824 ∷ 271566505 ∷ 1989989695 ∷ []) ∷ (4262362249 ∷ 2715307428 ∷ 1009173338 ∷ 3707389812 ∷ 214102752 ∷ 2729267469 ∷ 2647743372 ∷ 3231197623 ∷ []) ∷ []) (with_arbitration (pair true false ∷ pair false false ∷ pair true false ∷ pair false false ∷ []) (with_mailboxes (mail 47277 3984 true) (with_interrupts (interrupts 928 56 747 43) (untouched (settings 4294967280 16 0 0)))))) true
    ∷ sound_case (with_fifos ((1137450698 ∷ 3822388742 ∷ 544541714 ∷ 4051764867 ∷ 3489146295 ∷ 2603323159 ∷ 2971601349 ∷ 4007349248 ∷ 3814173680 ∷ 2935716361 ∷ 2641557034 ∷ 2677657328 ∷ 236569351 ∷ 1603147022 ∷ 3370286216 ∷ 286717069 ∷ 2437731173 ∷ 300246943 ∷ 2130015065 ∷ 3028142335 ∷ 2121225410 ∷ 912205380 ∷ 1748663267 ∷ 3491706711 ∷ 3662064206 ∷ 3102443524 ∷ 1782114550 ∷ 1371784502 ∷ 4224049197 ∷ []) ∷ (3446142590 ∷ 3153696283 ∷ 966444046 ∷ 410328816 ∷ 4232353586 ∷ 1696980657 ∷ 2751597557 ∷ 3741924471 ∷ 4274358642 ∷ 118776306 ∷ 3316938717 ∷ 2367523806 ∷ 3988573666 ∷ 3829674991 ∷ 466119064 ∷ 3585699915 ∷ 2377864064 ∷ 2371543682 ∷ 4005254858 ∷ 1731765513 ∷ 4258106550 ∷ 4236271939 ∷ 1909078994 ∷ 950277189 ∷ 1035404465 ∷ 482188436 ∷ 3591023781 ∷ []) ∷ [] ∷ (1000868768 ∷ 406285100 ∷ 1483548268 ∷ 178870933 ∷ 3581546827 ∷ 4283735570 ∷ 3182437603 ∷ 1658824166 ∷ 3977385554 ∷ 3083059308 ∷ 2428009289 ∷ 2053657746 ∷ 3647097348 ∷ 3946832941 ∷ 953726096 ∷ 3357634983 ∷ 3609159203 ∷ 3428264809 ∷ 867526705 ∷ 2212547449 ∷ 1405746989 ∷ 3885731017 ∷ 3251355322 ∷ 2359301141 ∷ 1249976839 ∷ 2272871180 ∷ 425195099 ∷ 3904809515 ∷ 390882120 ∷ 1964030516 ∷ 667759266 ∷ 2019999520 ∷ []) ∷ []) (with_arbitration (pair true false ∷ pair false true ∷ pair true false ∷ pair false true ∷ []) (with_mailboxes (mail 44874 65218 false) (with_interrupts (interrupts 456 795 898 802) (untouched (settings 0 60 48 48)))))) true
    ∷ sound_case (with_fifos ((1971125091 ∷ 3750073244 ∷ 1915677281 ∷ 841177054 ∷ 1505380968 ∷ []) ∷ (4093416247 ∷ 4275604264 ∷ 2579197632 ∷ 64043530 ∷ 2794585251 ∷ 3574361983 ∷ 1945885540 ∷ 2230407797 ∷ 3933176436 ∷ 4081618492 ∷ 4068826491 ∷ 3982379259 ∷ 363406520 ∷ 176732971 ∷ 1313966079 ∷ 3882833425 ∷ 3163822596 ∷ 2725317099 ∷ 1056302594 ∷ 2636962665 ∷ 439699156 ∷ 918409960 ∷ 2359581920 ∷ 2889016376 ∷ 2521339506 ∷ 1251743763 ∷ 2072840629 ∷ 306958060 ∷ 1000741387 ∷ 1016403708 ∷ []) ∷ [] ∷ [] ∷ []) (with_arbitration (pair false true ∷ pair false false ∷ pair false true ∷ pair false true ∷ []) (with_mailboxes (mail 56442 5552 false) (with_interrupts (interrupts 920 50 384 555) (untouched (settings 4294967252 44 20 28)))))) true
    ∷ sound_case (with_fifos ((387215325 ∷ 1817767181 ∷ 3788378650 ∷ 2197460135 ∷ 3404859269 ∷ 3053210014 ∷ 3895985088 ∷ 2906269207 ∷ 963146331 ∷ 2704837074 ∷ 1793587316 ∷ 1267326759 ∷ 1587075191 ∷ 2169277811 ∷ []) ∷ (1490128566 ∷ 785999523 ∷ 1879852297 ∷ 1631278164 ∷ 2837858781 ∷ []) ∷ (4280966708 ∷ 2312253956 ∷ 741183986 ∷ 3607727996 ∷ 2314000448 ∷ 2700116970 ∷ 2989855931 ∷ 106138291 ∷ 623729236 ∷ 1538500324 ∷ 921706997 ∷ 1710659586 ∷ 2883985234 ∷ 1286933759 ∷ 4035467860 ∷ 2006422114 ∷ 1591629307 ∷ 3419295514 ∷ 3607187037 ∷ 1976384419 ∷ 3870625023 ∷ 3329448818 ∷ 2165596622 ∷ 47756115 ∷ 1077152960 ∷ 1939435552 ∷ 3498606624 ∷ 441337365 ∷ 364125350 ∷ 3178975304 ∷ 1355222235 ∷ 1582586624 ∷ []) ∷ (3707172774 ∷ 2872387202 ∷ 2968761202 ∷ 480831986 ∷ 3980345169 ∷ 410430939 ∷ 2607367198 ∷ 4208623938 ∷ 1243991893 ∷ 3231581939 ∷ 22789053 ∷ 2324695489 ∷ 2796057419 ∷ 2023302088 ∷ 2149887273 ∷ 2682244736 ∷ []) ∷ []) (with_arbitration (pair true false ∷ pair false true ∷ pair false true ∷ pair false true ∷ []) (with_mailboxes (mail 32192 23052 false) (with_interrupts (interrupts 1016 809 585 546) (with_transfer (running (request 1 8164 712869896 24) 1) (untouched (settings 712869788 100 0 0))))))) true
    ∷ sound_case (with_fifos ((3113877395 ∷ 2743281353 ∷ 705705381 ∷ 3059806023 ∷ 2887655152 ∷ 3983663845 ∷ 2505534446 ∷ 3621983843 ∷ 1423706244 ∷ 3643617174 ∷ 276944738 ∷ 3421488953 ∷ 2708501141 ∷ 746971856 ∷ 1869007898 ∷ 2570768361 ∷ 2942322193 ∷ 4138026627 ∷ 3383502944 ∷ 155188112 ∷ 3889838965 ∷ 1604528189 ∷ 3301014530 ∷ 3637864402 ∷ 4004563959 ∷ 4186301672 ∷ 2631908559 ∷ 368237535 ∷ 3984896731 ∷ 3996106330 ∷ 807588839 ∷ 3006201113 ∷ []) ∷ (2390109089 ∷ 4171794756 ∷ 2563020126 ∷ 2125081534 ∷ 2740376475 ∷ 2687665772 ∷ 3457187486 ∷ 343197413 ∷ 3366637175 ∷ 539592651 ∷ 891312829 ∷ 2175792346 ∷ 4221884655 ∷ 3033393231 ∷ 3731424427 ∷ 3596486197 ∷ []) ∷ (3592601684 ∷ 2019887753 ∷ 3279957902 ∷ 1972829068 ∷ 2415796472 ∷ 1855386448 ∷ 3216847808 ∷ []) ∷ [] ∷ []) (with_arbitration (pair true false ∷ pair false true ∷ pair false false ∷ pair true false ∷ []) (with_mailboxes (mail 49936 24512 true) (with_interrupts (interrupts 529 290 713 779) (untouched (settings 1070577052 116 12 76)))))) true
    ∷ sound_case (with_fifos ((1555741299 ∷ 146779097 ∷ 1340708031 ∷ 428523867 ∷ 2704683125 ∷ 4108139618 ∷ 1432680236 ∷ 410625259 ∷ 1984347215 ∷ 4136362257 ∷ 4045559876 ∷ 3275202309 ∷ 2838835215 ∷ 1692066442 ∷ 4092162234 ∷ 3407940754 ∷ 2967451502 ∷ 2958318075 ∷ 3691972251 ∷ 240710309 ∷ 2215642101 ∷ 2969833451 ∷ 2053803582 ∷ 2503965928 ∷ 2814448854 ∷ 1592644226 ∷ []) ∷ [] ∷ (3168185885 ∷ 1378231445 ∷ 3016005743 ∷ 3913280483 ∷ 2516709550 ∷ 3261586852 ∷ []) ∷ (3679125280 ∷ 314187041 ∷ 1823314147 ∷ 944424637 ∷ 861051678 ∷ 3971693285 ∷ 2552929404 ∷ 2172788911 ∷ 2354625857 ∷ 2236862044 ∷ 1881472806 ∷ 2782580368 ∷ 469398671 ∷ 1327611810 ∷ 1667810311 ∷ 3093305839 ∷ 1917261554 ∷ 3015231417 ∷ []) ∷ []) (with_arbitration (pair true false ∷ pair true false ∷ pair false true ∷ pair false false ∷ []) (with_mailboxes (mail 23681 44014 false) (with_interrupts (interrupts 11 785 288 769) (untouched (settings 0 32 0 4)))))) true
    ∷ sound_case (with_fifos ((3594742045 ∷ 2346270448 ∷ 1662224934 ∷ 3791003624 ∷ 3696806176 ∷ 1703764339 ∷ 3256481389 ∷ 4126664668 ∷ 1189103385 ∷ 3199464328 ∷ 3628169726 ∷ 4085596063 ∷ 1723919445 ∷ 3071549395 ∷ 1504024031 ∷ 2541449591 ∷ 313738727 ∷ 3553888249 ∷ 2971063805 ∷ 2033903044 ∷ 2424254607 ∷ 3178419162 ∷ 663582201 ∷ 112220169 ∷ 3487184608 ∷ 1743054485 ∷ 384928383 ∷ 4050698 ∷ 2160857392 ∷ 660572523 ∷ 478607751 ∷ 1193193464 ∷ []) ∷ [] ∷ (2016712700 ∷ 1574075333 ∷ 916668549 ∷ 1179153243 ∷ 2954873417 ∷ 2858372347 ∷ 1609101362 ∷ 2667399120 ∷ 1262935470 ∷ 2807473674 ∷ 94682277 ∷ 1417305260 ∷ 648533322 ∷ 550064483 ∷ 1910129706 ∷ 3786478377 ∷ 3827194512 ∷ 822612312 ∷ 4240898499 ∷ 3503516191 ∷ 1224931902 ∷ 2345239918 ∷ 1152975995 ∷ 3512090725 ∷ 1093022315 ∷ 2391856211 ∷ 1595251661 ∷ 2729841171 ∷ 1662983566 ∷ 2203858229 ∷ 2026760906 ∷ 1437145420 ∷ []) ∷ (2747864884 ∷ 2648302902 ∷ 3849618099 ∷ 2542951571 ∷ 2514940717 ∷ 1657649670 ∷ 4038803257 ∷ 4112089651 ∷ 1817848001 ∷ 1415211985 ∷ 2252037931 ∷ 1829143169 ∷ 2318342811 ∷ 2717178711 ∷ 1192607140 ∷ 3316803357 ∷ 677229648 ∷ 4081220979 ∷ 3130641913 ∷ 408969297 ∷ 3412517953 ∷ []) ∷ []) (with_arbitration (pair false true ∷ pair true false ∷ pair false true ∷ pair true false ∷ []) (with_mailboxes (mail 27079 55995 true) (with_interrupts (interrupts 737 275 521 771) (with_transfer (running (request 1 11876 116 12) 0) (untouched (settings 0 88 8 36))))))) true
    ∷ sound_case (with_fifos ((1703320265 ∷ 3477272699 ∷ 928200124 ∷ 2625818145 ∷ 902393249 ∷ 1583934885 ∷ 1980805407 ∷ 940112867 ∷ 4009521986 ∷ 3491759289 ∷ 3353085464 ∷ 3477654531 ∷ 728945790 ∷ 1000513140 ∷ 814882615 ∷ 345458323 ∷ 289127671 ∷ 141521976 ∷ 1442341466 ∷ 2910978335 ∷ 3627507013 ∷ 2068362933 ∷ 579542759 ∷ 974454536 ∷ 600231311 ∷ 3994241677 ∷ 2039543946 ∷ 2316505989 ∷ 3717011491 ∷ 430916471 ∷ 3919749107 ∷ 3168179035 ∷ []) ∷ [] ∷ (2088127167 ∷ 439201720 ∷ 3285161952 ∷ []) ∷ [] ∷ []) (with_arbitration (pair true false ∷ pair false false ∷ pair true false ∷ pair false false ∷ []) (with_mailboxes (mail 60734 6283 true) (with_interrupts (interrupts 793 547 227 299) (untouched (settings 0 84 56 72)))))) true
    ∷ sound_case (with_fifos ((1921970044 ∷ 1776895512 ∷ 67997633 ∷ 1827966281 ∷ 2472701601 ∷ []) ∷ (490902505 ∷ 3646106623 ∷ 660910172 ∷ 1192700213 ∷ 943624492 ∷ 940787677 ∷ 3878210134 ∷ 2900778625 ∷ 201110248 ∷ 2400473855 ∷ 261397243 ∷ 1384641754 ∷ 3992334671 ∷ 1718726055 ∷ 3113409391 ∷ []) ∷ (2894907022 ∷ 2959688663 ∷ 1361620036 ∷ 447004737 ∷ 686281176 ∷ 1363040054 ∷ 3505306172 ∷ 3316332396 ∷ 2686058603 ∷ 1975839679 ∷ 4204818348 ∷ 757279224 ∷ 3331756048 ∷ 1349187843 ∷ 1008712928 ∷ 1566864747 ∷ 101421924 ∷ 1851993429 ∷ 542293928 ∷ 2643115343 ∷ 2331434799 ∷ 1510674440 ∷ 138492059 ∷ 992216392 ∷ 686099167 ∷ 1073532562 ∷ 3440901196 ∷ 3498173483 ∷ 1825254758 ∷ 24935720 ∷ 2440128808 ∷ 1395471947 ∷ []) ∷ (671437066 ∷ 3399012339 ∷ 1228201885 ∷ 2027915517 ∷ 1894173570 ∷ 1901465165 ∷ 3563798993 ∷ 1162100613 ∷ 3932633820 ∷ 774018422 ∷ 1080184673 ∷ 715376165 ∷ 314199962 ∷ 3754586570 ∷ 294715865 ∷ 582786915 ∷ 1899479419 ∷ 1149418655 ∷ 3555893975 ∷ 3182665226 ∷ 1459015094 ∷ 1973601410 ∷ 812863504 ∷ 3245223998 ∷ 4098564462 ∷ 4015451318 ∷ 4138315955 ∷ 3593845826 ∷ 1506521946 ∷ 3989448885 ∷ 2848777600 ∷ 2000656900 ∷ []) ∷ []) (with_arbitration (pair true false ∷ pair true false ∷ pair true false ∷ pair false false ∷ []) (with_mailboxes (mail 41420 27007 true) (with_interrupts (interrupts 729 257 642 810) (untouched (settings 2698426440 56 20 24)))))) true
    ∷ sound_case (with_fifos ((530485063 ∷ 4101875463 ∷ 1078124450 ∷ 3518029124 ∷ 5816235 ∷ 911099183 ∷ 189473291 ∷ 756512670 ∷ 2526043552 ∷ 1416815247 ∷ 1054355852 ∷ 3563532171 ∷ 2947707017 ∷ 2665511382 ∷ 2145059021 ∷ 2467552779 ∷ 272534677 ∷ 857523501 ∷ 787346447 ∷ 3561610863 ∷ 2994277035 ∷ 3925979476 ∷ 2624078930 ∷ 1968084568 ∷ 2178748749 ∷ 3285022433 ∷ 383585714 ∷ 3142337657 ∷ 3293190832 ∷ 708741934 ∷ 40478406 ∷ 1505319048 ∷ []) ∷ (565232419 ∷ 2742469975 ∷ 57553765 ∷ 20592826 ∷ 1550942045 ∷ 1246377163 ∷ 1506922877 ∷ 109422711 ∷ 297966902 ∷ 614257612 ∷ 2622054898 ∷ 3536215616 ∷ 3512306214 ∷ 2825549312 ∷ 2325687050 ∷ 1821051039 ∷ 2114184280 ∷ 1460995126 ∷ 330368750 ∷ 1312832798 ∷ 2310719473 ∷ 2114548870 ∷ 4117045813 ∷ 2751786115 ∷ 305090112 ∷ 3820937619 ∷ 2760842845 ∷ 2903450511 ∷ 2887313623 ∷ 351710641 ∷ 2431789517 ∷ 3489551530 ∷ []) ∷ [] ∷ [] ∷ []) (with_arbitration (pair false false ∷ pair false true ∷ pair false false ∷ pair false true ∷ []) (with_mailboxes (mail 64951 35634 false) (with_interrupts (interrupts 499 544 224 42) (untouched (settings 2126873156 28 12 12)))))) true
    ∷ sound_case (with_fifos ([] ∷ (3544757962 ∷ 1834784074 ∷ 4004986248 ∷ 2934670137 ∷ []) ∷ (1974542588 ∷ 3890231336 ∷ 1207480342 ∷ 1893584089 ∷ 2115585904 ∷ 79068358 ∷ 205808869 ∷ 3624853129 ∷ 3449221728 ∷ 466451082 ∷ 372684345 ∷ 3197673575 ∷ 2615919101 ∷ 1057714772 ∷ 1215819521 ∷ 1393177824 ∷ 142270444 ∷ 2308747738 ∷ 732917513 ∷ 1501476134 ∷ []) ∷ (1238352995 ∷ 134201354 ∷ 112003923 ∷ 2223453498 ∷ 4087036887 ∷ 3769655498 ∷ 1742972956 ∷ 3972845778 ∷ []) ∷ []) (with_arbitration (pair false false ∷ pair false true ∷ pair true false ∷ pair true false ∷ []) (with_mailboxes (mail 44508 8945 false) (with_interrupts (interrupts 627 51 577 776) (with_transfer (running (request 1 9460 4294967288 8) 1) (untouched (settings 4294967244 52 8 16))))))) true
    ∷ sound_case (with_fifos ([] ∷ (1475791346 ∷ 156667691 ∷ 3759788586 ∷ 905938145 ∷ 2873872916 ∷ 2415873326 ∷ 3470957181 ∷ 1965729344 ∷ 2716175355 ∷ 2128653880 ∷ 4117214849 ∷ 3975306864 ∷ 3218999652 ∷ 1673952171 ∷ 3192579850 ∷ 1074573245 ∷ 3364405508 ∷ 784320047 ∷ 2197437625 ∷ 344843182 ∷ 2616759987 ∷ 1918013567 ∷ 2259302300 ∷ 1709806140 ∷ 3779366038 ∷ 2631601428 ∷ 179939702 ∷ 366015256 ∷ 1089580191 ∷ 389705097 ∷ 2570833540 ∷ 2543483876 ∷ []) ∷ (3766873698 ∷ 1753996734 ∷ 1349582960 ∷ 4069611356 ∷ 2493552609 ∷ 2044570003 ∷ 3750605844 ∷ 2421819228 ∷ 2921502455 ∷ 2109940956 ∷ 1105294252 ∷ 2583936488 ∷ 1966744478 ∷ 4108925275 ∷ 3391878465 ∷ 981335956 ∷ 244080136 ∷ 2956683366 ∷ 1511971201 ∷ 3954284987 ∷ 1336170019 ∷ 3920081902 ∷ 3858365249 ∷ 1480376051 ∷ 1556384090 ∷ 210938074 ∷ 4058385126 ∷ 2075553189 ∷ 2829618176 ∷ 2062507187 ∷ []) ∷ (2565867182 ∷ 924980372 ∷ 2982372404 ∷ 4212490199 ∷ 3192361789 ∷ 2772668686 ∷ 700418326 ∷ 2045800293 ∷ []) ∷ []) (with_arbitration (pair false true ∷ pair true false ∷ pair true false ∷ pair false true ∷ []) (with_mailboxes (mail 35229 29035 false) (with_interrupts (interrupts 827 298 483 1) (with_transfer (running (request 1 6820 52 20) 0) (untouched (settings 0 56 20 32))))))) true
    ∷ sound_case (with_fifos ([] ∷ (780962069 ∷ 2460980825 ∷ 519034689 ∷ 2699116360 ∷ 2447713708 ∷ 1237515491 ∷ 786203111 ∷ 4088033881 ∷ 1827677817 ∷ 3617599660 ∷ 2587498229 ∷ 108438697 ∷ 2141894072 ∷ 2574131498 ∷ 103820045 ∷ 3631732446 ∷ 2130551884 ∷ 1210501377 ∷ 1366633356 ∷ 4239651061 ∷ 1333558793 ∷ 2157951297 ∷ 291344785 ∷ 291901815 ∷ 2023280853 ∷ 715482810 ∷ 675909490 ∷ 459171255 ∷ 4189333837 ∷ 2755949003 ∷ 3799892235 ∷ 1404845896 ∷ []) ∷ [] ∷ [] ∷ []) (with_arbitration (pair false true ∷ pair true false ∷ pair true false ∷ pair true false ∷ []) (with_mailboxes (mail 10997 5956 false) (with_interrupts (interrupts 609 571 672 2) (with_transfer (running (request 1 6664 84 8) 1) (untouched (settings 0 88 0 48))))))) true
    ∷ sound_case (with_fifos ((311837078 ∷ 996540676 ∷ 926878541 ∷ 1701440090 ∷ 1241910138 ∷ 731626214 ∷ 2080305124 ∷ 502147487 ∷ 3066957860 ∷ 3088634149 ∷ 2856809783 ∷ 1126918235 ∷ 183883656 ∷ 583279522 ∷ 3757235841 ∷ 715742693 ∷ 3600135211 ∷ []) ∷ (1126517480 ∷ 1714937828 ∷ 1361961844 ∷ 3134012753 ∷ 1132650051 ∷ 89133850 ∷ 3070855322 ∷ 3672169542 ∷ 4197914053 ∷ 2245962111 ∷ 2565114739 ∷ 1028054383 ∷ 2516668942 ∷ 1371982394 ∷ 4282861229 ∷ 2868276812 ∷ 1622945004 ∷ 2494889618 ∷ 636680426 ∷ 4066790150 ∷ 780663744 ∷ 4133666265 ∷ 2496499685 ∷ 300922646 ∷ 1725535820 ∷ 1656441714 ∷ 746194559 ∷ 3307056062 ∷ 1567802793 ∷ 3464822921 ∷ 4052735981 ∷ 3344760295 ∷ []) ∷ [] ∷ (3346233298 ∷ 2623904450 ∷ 1146235724 ∷ 4203028125 ∷ 3877572646 ∷ 104099612 ∷ 2017949611 ∷ 1060913899 ∷ 2298568951 ∷ 3827907193 ∷ 2819194741 ∷ 4259640982 ∷ 620678222 ∷ 1856540560 ∷ 504256908 ∷ 3270021605 ∷ 3716928451 ∷ 972827847 ∷ 2562465628 ∷ 161166544 ∷ 3930412074 ∷ 667178877 ∷ 3833319736 ∷ 3455554170 ∷ 3040131905 ∷ 4135523656 ∷ 130980214 ∷ 1551377961 ∷ 1282675624 ∷ 1295663985 ∷ 95575247 ∷ 2316643536 ∷ []) ∷ []) (with_arbitration (pair false true ∷ pair false true ∷ pair false true ∷ pair false false ∷ []) (with_mailboxes (mail 4302 22954 false) (with_interrupts (interrupts 475 24 10 811) (untouched (settings 4288164572 72 4 8)))))) true
    ∷ sound_case (with_fifos ((4152890725 ∷ 3549962141 ∷ 1810391152 ∷ 3780317954 ∷ 2244295656 ∷ 4255503142 ∷ 97457254 ∷ 513394677 ∷ 2031802236 ∷ 4067593627 ∷ 1124320273 ∷ 2505747781 ∷ 2407626179 ∷ []) ∷ (567143979 ∷ 174085726 ∷ 1898905466 ∷ 2930499412 ∷ 197900996 ∷ 1621469674 ∷ 2574426686 ∷ 1595510838 ∷ 2081022183 ∷ []) ∷ (3700378403 ∷ 1395810516 ∷ 3921067340 ∷ 1517040934 ∷ 1980354335 ∷ 1548690968 ∷ 3326398503 ∷ 690051989 ∷ 3962230801 ∷ 1023546044 ∷ 289155873 ∷ 466801221 ∷ 4113420613 ∷ 2140418025 ∷ 2323749058 ∷ 3790207184 ∷ 2512695206 ∷ 4292996402 ∷ 3553281334 ∷ 1722031240 ∷ 117192057 ∷ []) ∷ (3142912583 ∷ 1399683776 ∷ 21587963 ∷ 378069365 ∷ 3715508893 ∷ 3462876405 ∷ 1710127908 ∷ 4006015014 ∷ 2524468566 ∷ []) ∷ []) (with_arbitration (pair false false ∷ pair false true ∷ pair true false ∷ pair false true ∷ []) (with_mailboxes (mail 36661 35433 false) (with_interrupts (interrupts 769 475 163 801) (untouched (settings 1765560316 68 24 40)))))) false
    ∷ sound_case (with_fifos ([] ∷ (2839880587 ∷ 850569793 ∷ 3274040151 ∷ 1466204321 ∷ 1908459658 ∷ []) ∷ (981398893 ∷ 465916946 ∷ 474058656 ∷ 4191451875 ∷ 629727100 ∷ 493426565 ∷ 4120907918 ∷ 2633711314 ∷ 967578706 ∷ 3590287234 ∷ 698621144 ∷ 567812987 ∷ 3725505713 ∷ 361446668 ∷ 1884059220 ∷ 4281524766 ∷ 3903337944 ∷ 862845542 ∷ 2504460966 ∷ 4119117071 ∷ 2315648211 ∷ 2258949201 ∷ 3827881984 ∷ 1912955722 ∷ 1197939952 ∷ 1179850262 ∷ 1177868679 ∷ 3125326989 ∷ 1297852937 ∷ 3979392092 ∷ 1134119607 ∷ 1018234772 ∷ []) ∷ (4236037122 ∷ 1513358860 ∷ 3627825132 ∷ 658993631 ∷ 696714080 ∷ 3483554978 ∷ 1395366133 ∷ 545260982 ∷ 2472247537 ∷ 539645124 ∷ 282583832 ∷ 3776989273 ∷ 128038638 ∷ 892141088 ∷ 3570090672 ∷ 2953355802 ∷ 551365844 ∷ 1179486032 ∷ 1729305651 ∷ 507368232 ∷ 1846005409 ∷ 1771572133 ∷ 964540202 ∷ 660162926 ∷ 1015983109 ∷ 1052004973 ∷ 1872178857 ∷ 2201263345 ∷ 3716050747 ∷ 1946637587 ∷ 2696398055 ∷ 463515409 ∷ []) ∷ []) (with_arbitration (pair true false ∷ pair true false ∷ pair false true ∷ pair false false ∷ []) (with_mailboxes (mail 62587 3083 false) (with_interrupts (interrupts 554 264 65 809) (untouched (settings 0 16 0 12)))))) true
    ∷ sound_case (with_fifos ((407266846 ∷ 867222776 ∷ 3514874497 ∷ 2213327052 ∷ 2265254553 ∷ 3148448910 ∷ 3470380513 ∷ []) ∷ (3634637851 ∷ 1248117784 ∷ 174925138 ∷ 1128602944 ∷ 923785318 ∷ 1854123331 ∷ []) ∷ (2598832529 ∷ 496155098 ∷ 134434836 ∷ 1379039268 ∷ 2004857227 ∷ 955002037 ∷ 1271289920 ∷ 644484232 ∷ 2467443006 ∷ 1041514699 ∷ 1385463572 ∷ 4227770962 ∷ 3934959049 ∷ 1657031362 ∷ 1501703104 ∷ 2342145379 ∷ 3976993067 ∷ 2091065965 ∷ 4188353898 ∷ 2716301729 ∷ 3291207357 ∷ 581984749 ∷ 1880180982 ∷ 3605374955 ∷ 1372389246 ∷ 2866260995 ∷ 365125350 ∷ 562434692 ∷ 4104787236 ∷ 1027100989 ∷ 1629172881 ∷ 2253502143 ∷ []) ∷ (1093974758 ∷ 828977731 ∷ 3412599741 ∷ 2112832038 ∷ 940740569 ∷ 2429536986 ∷ 2698955965 ∷ 1930427983 ∷ 3320243127 ∷ 230497183 ∷ 3258265484 ∷ 1762467016 ∷ 1432552151 ∷ 1341960246 ∷ 2393997103 ∷ 1476545625 ∷ 3241023448 ∷ 1581362679 ∷ 2849484921 ∷ 655520912 ∷ 1627015077 ∷ 2489160496 ∷ 4138380937 ∷ 3504075351 ∷ 1114761146 ∷ 2491229474 ∷ 2643213123 ∷ 575340575 ∷ 2531071148 ∷ 66003895 ∷ 1100926513 ∷ 4017023595 ∷ []) ∷ []) (with_mailboxes (mail 1130905038 19617 false) (with_interrupts (interrupts 425 43 297 10) (with_transfer (running (request 0 11464 0 8) 0) (untouched (settings 0 120 0 28)))))) false
    ∷ sound_case (with_fifos ((1853622458 ∷ 4137362881 ∷ 119818640 ∷ 1687612846 ∷ 2886144259 ∷ 2812762513 ∷ 2078937348 ∷ 937517716 ∷ 2702111494 ∷ 3279836536 ∷ 2204600849 ∷ 3717311308 ∷ 3864784305 ∷ []) ∷ [] ∷ (2515648743 ∷ 164473057 ∷ 2857469546 ∷ 653176116 ∷ 2162115650 ∷ 4116657253 ∷ 2098840508 ∷ 1953721691 ∷ 4166169442 ∷ 2310495858 ∷ 1203558340 ∷ 1703234704 ∷ 821525870 ∷ 543523944 ∷ 2712216546 ∷ 1278637915 ∷ 3871632753 ∷ 422953319 ∷ 2628163861 ∷ 1702536230 ∷ 2860292841 ∷ 2247073791 ∷ 2962011507 ∷ 1194505205 ∷ 4013542752 ∷ 3988353123 ∷ 770505272 ∷ 468977676 ∷ []) ∷ [] ∷ []) (with_arbitration (pair true false ∷ pair false false ∷ pair false false ∷ pair true false ∷ []) (with_mailboxes (mail 55422 47437 false) (with_interrupts (interrupts 114 3 488 555) (with_transfer (running (request 1 17018 1537780319 12) 3) (untouched (settings 2604891220 128 40 40))))))) false
    ∷ sound_case (with_fifos ((2019838308 ∷ 3953509559 ∷ 92551183 ∷ 2100688370 ∷ 134536557 ∷ 1415817947 ∷ 28711373 ∷ 9877865 ∷ 2936295807 ∷ 4141166115 ∷ 2540718055 ∷ 1832319012 ∷ 2697428924 ∷ 3290683224 ∷ 314873634 ∷ 254475426 ∷ 1269552585 ∷ 137926136 ∷ 3268010472 ∷ 3109611041 ∷ 3901725978 ∷ 2508730074 ∷ 4067320340 ∷ 2226779578 ∷ 2885436432 ∷ 771290619 ∷ 4209435951 ∷ 3367087003 ∷ 3980673249 ∷ 281703177 ∷ 2679250992 ∷ 1468684332 ∷ []) ∷ (1392306400 ∷ 2309491621 ∷ 2130089378 ∷ 457789577 ∷ 1507747375 ∷ 2394207105 ∷ 582850619 ∷ 429733978 ∷ 3175351451 ∷ 3970626619 ∷ 1129772266 ∷ 4048727837 ∷ 2948312451 ∷ 2382785134 ∷ 36451806 ∷ 3764620470 ∷ 3701621848 ∷ 4083037041 ∷ 484321758 ∷ 619847541 ∷ 797591520 ∷ 2469942288 ∷ 846037017 ∷ 1522877441 ∷ 433189480 ∷ 3359993417 ∷ 2523903507 ∷ 2593145014 ∷ 2313134120 ∷ 3168112893 ∷ 2964235611 ∷ 324297141 ∷ []) ∷ (1745274207 ∷ 3602644199 ∷ 550797385 ∷ 3798743155 ∷ 2808898197 ∷ 3475189538 ∷ 112437758 ∷ 1237485421 ∷ 3821458874 ∷ []) ∷ (729670989 ∷ 528083183 ∷ 655636614 ∷ 505201452 ∷ 1822186105 ∷ 607247258 ∷ 2227949505 ∷ 3474059004 ∷ 170648647 ∷ 294542281 ∷ 879514318 ∷ 3279587596 ∷ 1420202349 ∷ 3253488726 ∷ 2765738589 ∷ 1398197759 ∷ 2017064671 ∷ 4145413272 ∷ 2427802973 ∷ 2982287446 ∷ 1422789388 ∷ 2999198814 ∷ 774616744 ∷ 2516345972 ∷ 1436294158 ∷ 4039342120 ∷ 3021313071 ∷ []) ∷ []) (with_arbitration (pair false true ∷ pair false true ∷ pair true false ∷ pair false false ∷ []) (with_mailboxes (mail 47501 21993 true) (with_interrupts (interrupts 739 546 194 522) (with_transfer (running (request 0 24312 160722191 12) 1) (untouched (settings 1040394968 76 0 0))))))) false
    ∷ sound_case (with_fifos ((1298953437 ∷ 3346042929 ∷ 3678768885 ∷ 1427652284 ∷ 3653956393 ∷ 3871388424 ∷ 2784525836 ∷ 3020519061 ∷ 806487383 ∷ 3940860559 ∷ 2768074356 ∷ 3829784600 ∷ 3665386872 ∷ 959266582 ∷ 2608887495 ∷ 1794528710 ∷ []) ∷ [] ∷ (2046711807 ∷ 760163656 ∷ 94488721 ∷ 1427450758 ∷ 2211594234 ∷ 3710336014 ∷ 772245009 ∷ 3196772223 ∷ 583345973 ∷ []) ∷ (3800179637 ∷ 3175117283 ∷ 779940568 ∷ 3233578837 ∷ 1671859398 ∷ 805903078 ∷ 2529309135 ∷ 1234240480 ∷ 3021214653 ∷ 109756210 ∷ 3237513266 ∷ []) ∷ []) (with_arbitration (pair true false ∷ pair false false ∷ pair true false ∷ pair true false ∷ []) (with_mailboxes (mail 18770363 3960 true) (with_interrupts (interrupts 520 8 594 11) (untouched (settings 2605546020 12 8 8)))))) false
    ∷ sound_case (with_fifos ([] ∷ (154667068 ∷ 438659782 ∷ 1396848423 ∷ 1804698223 ∷ 885385144 ∷ 3738675798 ∷ 2648132361 ∷ 295946264 ∷ 3739436399 ∷ 1138208166 ∷ 836623093 ∷ 3129677766 ∷ 2796706576 ∷ 111965845 ∷ 1325512853 ∷ 3880889003 ∷ 349418915 ∷ 3766607135 ∷ 960095328 ∷ 1753455424 ∷ 1889668247 ∷ 1911404919 ∷ 1867263237 ∷ 3000084674 ∷ 346332722 ∷ 4044819848 ∷ 4150565909 ∷ 527013103 ∷ 3703615577 ∷ 1592125817 ∷ 3242206912 ∷ 2353430442 ∷ []) ∷ (4123804352 ∷ 4275334209 ∷ 1643457755 ∷ 2094641778 ∷ 1398665290 ∷ 3850023702 ∷ 2348784192 ∷ 4217196775 ∷ 1239402767 ∷ 2299056955 ∷ 2054275944 ∷ 1466128557 ∷ 3805053078 ∷ 1567049392 ∷ 293086104 ∷ 72858481 ∷ 1181547020 ∷ 3766235041 ∷ 3059608369 ∷ 2510169488 ∷ 178152587 ∷ 1402317599 ∷ 1245935707 ∷ 4278038310 ∷ 2011614678 ∷ 1259791295 ∷ []) ∷ (3453349985 ∷ 3287371653 ∷ 3583482191 ∷ 1147872403 ∷ 1660886157 ∷ 577322251 ∷ 1276839880 ∷ 87763348 ∷ 4007494964 ∷ 1710355878 ∷ 3886522946 ∷ 3810151299 ∷ 2475522379 ∷ 1564927771 ∷ 2775508862 ∷ 3786192418 ∷ 672799315 ∷ 3944563650 ∷ 3129469894 ∷ 3322166711 ∷ []) ∷ []) (with_arbitration (pair true false ∷ pair true false ∷ pair false false ∷ pair false true ∷ []) (with_mailboxes (mail 1632742383 43211 true) (with_interrupts (interrupts 138 808 34 297) (untouched (settings 1966610092 96 84 92)))))) false
    ∷ sound_case (with_fifos ((1935324634 ∷ 3807408517 ∷ 1637505983 ∷ 3377526160 ∷ 3697000811 ∷ 1932506116 ∷ 1752089155 ∷ 1472456541 ∷ 3355565018 ∷ 4077142543 ∷ 2753256589 ∷ 3435628180 ∷ 1808118890 ∷ 3031666001 ∷ 2449154531 ∷ 510395572 ∷ 1545619555 ∷ 2129900369 ∷ 512153689 ∷ 588487708 ∷ 3468243845 ∷ 522581218 ∷ 2502628369 ∷ 633613462 ∷ 795107568 ∷ 2643634681 ∷ 4006835166 ∷ 404304031 ∷ 432286326 ∷ []) ∷ (2224932790 ∷ 1862833873 ∷ 1232816313 ∷ 635944003 ∷ 1601391244 ∷ 1860966704 ∷ 2405226943 ∷ 2661693047 ∷ 471214298 ∷ 1784704697 ∷ 3681759778 ∷ 912690445 ∷ 1631160357 ∷ 4018493626 ∷ 3469962691 ∷ 2565970393 ∷ 3924567723 ∷ 3883547830 ∷ 3174949835 ∷ 3826618554 ∷ 1990720722 ∷ 4292244751 ∷ 4157800857 ∷ 3167150920 ∷ 4150960300 ∷ 2419316158 ∷ 1302314023 ∷ 2784929356 ∷ 4067603479 ∷ 930283399 ∷ 1870432710 ∷ 3346032635 ∷ []) ∷ (1015184819 ∷ 2942326548 ∷ 854158014 ∷ 2097654929 ∷ 1963449902 ∷ 3698786931 ∷ 1249014081 ∷ 1310755141 ∷ 3247342187 ∷ 2352803438 ∷ 3059228653 ∷ 996098742 ∷ 358644209 ∷ 724877682 ∷ []) ∷ [] ∷ []) (with_arbitration (pair false true ∷ pair false false ∷ pair false false ∷ pair true false ∷ []) (with_mailboxes (mail 23715 38063 true) (with_interrupts (interrupts 25 25 1556 2) (untouched (settings 4294967288 8 4 8)))))) false
    ∷ sound_case (with_fifos ((2389246978 ∷ 4239734701 ∷ 3985555475 ∷ 3148058661 ∷ 744031026 ∷ 242791204 ∷ 2974627249 ∷ 984216208 ∷ 124828804 ∷ []) ∷ (73095700 ∷ 2846475266 ∷ 2279845644 ∷ 2010621790 ∷ 3366109414 ∷ 595158518 ∷ 207244509 ∷ 2710329037 ∷ 3059147101 ∷ 719826478 ∷ 683498943 ∷ 464691818 ∷ 1652211833 ∷ 2542652616 ∷ 44577251 ∷ 415834848 ∷ 1405399932 ∷ 146139182 ∷ 1516476903 ∷ 2278107292 ∷ 1121467487 ∷ 2899349884 ∷ 2515289118 ∷ 430264549 ∷ 59553331 ∷ 3887042130 ∷ 2943130201 ∷ 3781749263 ∷ 792048609 ∷ 1899292084 ∷ []) ∷ (3208808621 ∷ 292618050 ∷ 4072259214 ∷ 90339568 ∷ 305009502 ∷ 1804638698 ∷ 382336497 ∷ 3226914291 ∷ 4232435684 ∷ 2831228282 ∷ 3584432108 ∷ 1943757912 ∷ 466091655 ∷ 3488030570 ∷ 1038327969 ∷ 3358532664 ∷ []) ∷ (2485685379 ∷ 2070854125 ∷ 3619139586 ∷ 2996831651 ∷ 4239296474 ∷ 3603737211 ∷ 1284491649 ∷ 4235335855 ∷ 2275833814 ∷ 1417951202 ∷ 4005762787 ∷ 2267206706 ∷ 807404855 ∷ 3220956733 ∷ 2978758580 ∷ 3669377144 ∷ 2450335351 ∷ 3098436614 ∷ 3869667551 ∷ 3550637501 ∷ 1196050140 ∷ 1956476319 ∷ []) ∷ []) (with_arbitration (pair false true ∷ pair false false ∷ pair false true ∷ pair false false ∷ []) (with_mailboxes (mail 26983 60088 false) (with_interrupts (interrupts 515 24 619 264) (untouched (settings 0 128 16 40)))))) true
    ∷ sound_case (with_fifos ((3207161166 ∷ 4136926151 ∷ 4057739360 ∷ 169243673 ∷ 1805684700 ∷ []) ∷ (2878484971 ∷ 4114932566 ∷ 83550721 ∷ 3311748983 ∷ 453063689 ∷ 797820128 ∷ 3355078124 ∷ 3493410216 ∷ 1958253839 ∷ 3157543301 ∷ 2691604498 ∷ 1810099391 ∷ 1952267007 ∷ 4168408173 ∷ 2193065308 ∷ 21573601 ∷ 3621489971 ∷ 1058747400 ∷ 183521537 ∷ 2048428269 ∷ 1511540265 ∷ 4224270088 ∷ 250429316 ∷ []) ∷ (3143250288 ∷ 730786210 ∷ 3440624351 ∷ 3725640578 ∷ 41316184 ∷ 2052928167 ∷ 1151111226 ∷ 1199774553 ∷ 3474731916 ∷ 701903383 ∷ 3815918861 ∷ 1181869856 ∷ []) ∷ (686172813 ∷ 2530214344 ∷ 370518645 ∷ 4000624771 ∷ 3011768410 ∷ 4197085375 ∷ 925219307 ∷ 2201021211 ∷ 329407702 ∷ 3367618396 ∷ 3568665414 ∷ 793202143 ∷ 211383930 ∷ 272688075 ∷ 1876841036 ∷ 450446276 ∷ 575555190 ∷ 2449596542 ∷ 3366441334 ∷ 1815510374 ∷ 3083039364 ∷ 4237010097 ∷ 3791871465 ∷ 396257674 ∷ 2374769326 ∷ 2140702993 ∷ 952141370 ∷ 2283586755 ∷ 2000927931 ∷ 2592734517 ∷ 3256255091 ∷ 2378441188 ∷ []) ∷ []) (with_arbitration (pair true false ∷ pair false true ∷ pair false false ∷ pair false false ∷ []) (with_mailboxes (mail 39924 35608 false) (with_interrupts (interrupts 306 801 375 291) (untouched (settings 0 68 4 64)))))) false
    ∷ sound_case (with_fifos ([] ∷ [] ∷ (3415839203 ∷ 2574332459 ∷ 3798537927 ∷ 4214501879 ∷ 2963937864 ∷ 4007223897 ∷ 1282855791 ∷ 3670848755 ∷ 180188818 ∷ 3528202956 ∷ 1011764229 ∷ 4117585141 ∷ 272862167 ∷ 10999804 ∷ 419988271 ∷ 592246121 ∷ 2317042758 ∷ 2810561366 ∷ 3489708565 ∷ 4076334323 ∷ 2603281567 ∷ 1049453560 ∷ 1231913855 ∷ 715946976 ∷ 1108390405 ∷ 31022453 ∷ 2711700151 ∷ 3745812793 ∷ 266585267 ∷ 275543391 ∷ 2619053404 ∷ 815593553 ∷ []) ∷ [] ∷ []) (with_arbitration (pair false true ∷ pair true false ∷ pair false true ∷ pair false true ∷ []) (with_mailboxes (mail 8219 9441 false) (with_interrupts (interrupts 266 24 680 32) (untouched (settings 2417432928 72 40 72)))))) true
    ∷ sound_case (with_fifos ((1590220780 ∷ 1202284822 ∷ 2214550313 ∷ 2693460838 ∷ 3224365382 ∷ 4171531675 ∷ 2549922336 ∷ 126976369 ∷ 1159176764 ∷ 430868696 ∷ 2503587449 ∷ 2884492896 ∷ 600287802 ∷ 1027722106 ∷ 2127400559 ∷ 3763630068 ∷ 1667968839 ∷ 171141461 ∷ 1503481942 ∷ 3554670855 ∷ 3284922248 ∷ 3962624431 ∷ 3899350055 ∷ 4050388638 ∷ 1607194254 ∷ 3474701674 ∷ 1221509370 ∷ 3849985204 ∷ 4280006534 ∷ 3710219210 ∷ 520858278 ∷ 3127696921 ∷ []) ∷ (2891670778 ∷ 3952066410 ∷ 2353539045 ∷ 3533318153 ∷ 206014674 ∷ 2270825898 ∷ 3895515086 ∷ 3220897931 ∷ 2934969775 ∷ 1141169523 ∷ 2463824110 ∷ 3095943328 ∷ 2467059247 ∷ 1165297987 ∷ 1368415664 ∷ 4229811361 ∷ 4220059600 ∷ 2879078437 ∷ 332109541 ∷ 2204461571 ∷ 4135749135 ∷ 97855103 ∷ 1939960806 ∷ 719916418 ∷ 1290210897 ∷ 327261415 ∷ 3624208929 ∷ 3060663458 ∷ 1952799625 ∷ 2509196601 ∷ 1647043508 ∷ 209147817 ∷ []) ∷ (1084248949 ∷ 1593442902 ∷ 1706408320 ∷ 783478769 ∷ 3749214568 ∷ 1363724922 ∷ 2052174258 ∷ 3752381074 ∷ 1739562535 ∷ 2303753569 ∷ 2932540634 ∷ 572159726 ∷ 635431618 ∷ 3971256204 ∷ 2962496853 ∷ 2481275065 ∷ 1090146420 ∷ 3389982573 ∷ 2500140329 ∷ 3161900409 ∷ 3496293840 ∷ 3159520542 ∷ 3761554008 ∷ 1894019193 ∷ 2696647224 ∷ 1537097681 ∷ 1593980527 ∷ 688553709 ∷ 3708359075 ∷ 4218052919 ∷ 3327337256 ∷ 3760750113 ∷ []) ∷ [] ∷ []) (with_arbitration (pair false false ∷ pair false false ∷ pair true false ∷ pair false true ∷ []) (with_mailboxes (mail 32778 13815 false) (with_interrupts (interrupts 264 17 683 41) (untouched (settings 1816477920 64 20 56)))))) true
    ∷ sound_case (with_fifos ((6483520 ∷ 3624727405 ∷ 2717355081 ∷ 2496915737 ∷ 3370271621 ∷ 2239018817 ∷ 677653182 ∷ 2708831293 ∷ 4142766809 ∷ 1157479233 ∷ 269760100 ∷ 4011001422 ∷ 2411847501 ∷ 2947635737 ∷ 200917466 ∷ 3204273530 ∷ 252146345 ∷ 234803265 ∷ 1396906305 ∷ 648125514 ∷ 2891888184 ∷ 1588206912 ∷ 1091373502 ∷ 1918465098 ∷ 151486346 ∷ 762966928 ∷ []) ∷ (869861381 ∷ 112060063 ∷ 75334761 ∷ 4137720702 ∷ 2646081730 ∷ 3776225227 ∷ 3845187697 ∷ 946511981 ∷ 86533541 ∷ 1439785057 ∷ 951999441 ∷ 44813851 ∷ 3449891355 ∷ 2769513911 ∷ 3321681844 ∷ 2296513840 ∷ 768904072 ∷ 3681969250 ∷ 2104054248 ∷ 593845153 ∷ 1185951716 ∷ 2095220561 ∷ 3781014136 ∷ 3930850273 ∷ 3480757113 ∷ []) ∷ [] ∷ (1760426668 ∷ 3672566692 ∷ 71592950 ∷ 3821708409 ∷ 1101353580 ∷ 1107312553 ∷ 1345855304 ∷ 3305120560 ∷ 2443018152 ∷ 627076686 ∷ 1839003598 ∷ 2275565852 ∷ 1695035337 ∷ 1364236528 ∷ 2427635114 ∷ 4143523144 ∷ 239258419 ∷ 1455729029 ∷ 3165425072 ∷ 1620718910 ∷ 3787745026 ∷ 1393635874 ∷ 1343520700 ∷ 2744488996 ∷ 3095255369 ∷ 283495960 ∷ 1115177210 ∷ 4110377549 ∷ 143057774 ∷ 3081007976 ∷ 971190154 ∷ 4131234126 ∷ []) ∷ []) (with_arbitration (pair false true ∷ pair false false ∷ pair false false ∷ pair false true ∷ []) (with_mailboxes (mail 4690 8869 false) (with_interrupts (interrupts 520 760 33 9) (with_transfer (running (request 1 15104 84 8) 0) (untouched (settings 0 108 0 32))))))) false
    ∷ sound_case (with_fifos ([] ∷ (3534929649 ∷ 3842564411 ∷ 4209444719 ∷ 3335156554 ∷ 714007706 ∷ 1076709428 ∷ 366993451 ∷ 2266710002 ∷ 240118363 ∷ 1716776235 ∷ 1607667871 ∷ 1042304909 ∷ 4166355072 ∷ 959640462 ∷ 3409905018 ∷ 1196895718 ∷ []) ∷ (3730972872 ∷ 2590133658 ∷ 4180597054 ∷ 2713045988 ∷ []) ∷ (2516549554 ∷ 871400667 ∷ []) ∷ []) (with_arbitration (pair false true ∷ pair true false ∷ pair true false ∷ pair true false ∷ []) (with_mailboxes (mail 28831 42863 true) (with_interrupts (interrupts 1018 808 512 297) (with_transfer (running (request 1 2756 4294967264 32) 7) (untouched (settings 4294967204 92 4 24))))))) true
    ∷ []

agrees : SoundnessAgrees cases
unfolding cases sound
agrees = refl
