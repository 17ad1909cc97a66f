-- Worked cases of L14, computed: marks, ranges, lists with and without room, and what the program writes.
use Rattle.std.specs.Prelude.{◌≡◌, refl, true, false, List, [], ◌∷◌, ◌++◌, map, ℕ, take, set, replicate}
use Rattle.model.specs.Trace.{record_bytes}
use Rattle.model.specs.Text.{decimal_text, digits_within}
use Rattle.model.specs.Convert.{written}
use Rattle.model.specs.Bench.{q}
use Rattle.model.specs.Rescue.{scan, kept, skipped, listed, after, entries, numbers_of, count, refused, rescue}
use Rattle.model.specs.RescueText.{entry_text, entry_lines, tally, total_text, rescue_text, accesses_of, rescued_trace}

-- a record with a number
abbrev r : (number : ℕ) → List ℕ
r number = record_bytes number (q 1 1 0 4 0 0)

-- No doubt of number 0 at first, nor of 0 behind 65,535; doubt of 1 at first. Against the last kept one (14.3): of 0, 5, 6 only 5 is doubtful.
-- Bytes skipped between, the number right (14.4): no doubt.
pub doubts_told : map entries (r 0 ∷ r 1 ∷ (r 65535 ++ r 0) ∷ (r 0 ++ r 5 ++ r 6) ∷ (r 0 ++ (7 ∷ 7 ∷ []) ++ r 1) ∷ [])
    ≡ (kept 0 0 false ∷ [])
    ∷ (kept 0 1 true ∷ [])
    ∷ (kept 0 65535 true ∷ kept 20 0 false ∷ [])
    ∷ (kept 0 0 false ∷ kept 20 5 true ∷ kept 40 6 false ∷ [])
    ∷ (kept 0 0 false ∷ skipped 20 2 ∷ kept 22 1 false ∷ [])
    ∷ []
unfolding entries listed after scan
doubts_told = refl

-- No bytes; a tail of 19 bytes (14.5), alone and behind a record; byte 0, 1 or 7 overwritten; and number, kind, side and S, which are not looked at
-- for keeping (14.2).
pub ranges_told : map entries (
    [] ∷ take 19 (r 0) ∷ (r 0 ++ replicate 19 0) ∷ set (r 0) 0 0 ∷ set (r 0) 1 0 ∷ set (r 0) 7 1 ∷ record_bytes 9 (q 255 255 255 0 0 0) ∷ [])
    ≡ []
    ∷ (skipped 0 19 ∷ [])
    ∷ (kept 0 0 false ∷ skipped 20 19 ∷ [])
    ∷ (skipped 0 20 ∷ [])
    ∷ (skipped 0 20 ∷ [])
    ∷ (skipped 0 20 ∷ [])
    ∷ (kept 0 9 true ∷ [])
    ∷ []
unfolding entries listed after scan
ranges_told = refl

-- One byte is skipped and no more: a stray 0x42 in front of a record, and a stray mark; but with side 0 at byte 7, that mark stands as a record.
pub strays_told : map entries ((0x42 ∷ r 0) ∷ (0x42 ∷ 0x50 ∷ r 0) ∷ (0x42 ∷ 0x50 ∷ record_bytes 0 (q 1 0 0 4 0 0)) ∷ [])
    ≡ (skipped 0 1 ∷ kept 1 0 false ∷ [])
    ∷ (skipped 0 2 ∷ kept 2 0 false ∷ [])
    ∷ (kept 0 0x5042 true ∷ skipped 20 2 ∷ [])
    ∷ []
unfolding entries listed after scan
strays_told = refl

-- No bytes and no places (14.6); exact room, for one kept record and for two; no place, and two numbers that are no place; 14.9: 2 bytes and a record,
-- with 1 place, with 1 place and two numbers more, with 2 places and one number more.
pub lists_told :
    rescue [] [] ∷ rescue (r 0) (9 ∷ 9 ∷ 9 ∷ []) ∷ rescue (r 0 ++ r 1) (replicate 6 9) ∷ rescue (r 0) [] ∷ rescue (r 0) (9 ∷ 9 ∷ [])
    ∷ map (rescue (7 ∷ 7 ∷ r 5)) (replicate 3 9 ∷ replicate 5 9 ∷ replicate 7 9 ∷ [])
    ≡ record { answer = count 0; list = [] }
    ∷ record { answer = count 1; list = 1 ∷ 0 ∷ 0 ∷ [] }
    ∷ record { answer = count 2; list = 1 ∷ 0 ∷ 0 ∷ 1 ∷ 20 ∷ 1 ∷ [] }
    ∷ record { answer = refused 60; list = [] }
    ∷ record { answer = refused 60; list = 9 ∷ 9 ∷ [] }
    ∷ record { answer = refused 60; list = 3 ∷ 0 ∷ 2 ∷ [] }
    ∷ record { answer = refused 60; list = 3 ∷ 0 ∷ 2 ∷ 9 ∷ 9 ∷ [] }
    ∷ record { answer = count 2; list = 3 ∷ 0 ∷ 2 ∷ 2 ∷ 2 ∷ 5 ∷ 9 ∷ [] }
    ∷ []
unfolding rescue entries listed after scan numbers_of
lists_told = refl

-- `end 0 0 0`; `kept 0 0`, `end 1 0 0`; `skipped 0 1`, `doubtful 1 10`, `end 1 1 1`
pub texts_told : map rescue_text ([] ∷ r 0 ∷ (7 ∷ r 10) ∷ [])
    ≡ (101 ∷ 110 ∷ 100 ∷ 32 ∷ 48 ∷ 32 ∷ 48 ∷ 32 ∷ 48 ∷ 10 ∷ [])
    ∷ (107 ∷ 101 ∷ 112 ∷ 116 ∷ 32 ∷ 48 ∷ 32 ∷ 48 ∷ 10 ∷ 101 ∷ 110 ∷ 100 ∷ 32 ∷ 49 ∷ 32 ∷ 48 ∷ 32 ∷ 48 ∷ 10 ∷ [])
    ∷ ((115 ∷ 107 ∷ 105 ∷ 112 ∷ 112 ∷ 101 ∷ 100 ∷ 32 ∷ 48 ∷ 32 ∷ 49 ∷ 10 ∷ []) ++ (100 ∷ 111 ∷ 117 ∷ 98 ∷ 116 ∷ 102 ∷ 117 ∷ 108 ∷ 32 ∷ 49 ∷ 32 ∷ 49 ∷ 48 ∷ 10 ∷ [])
    ++ (101 ∷ 110 ∷ 100 ∷ 32 ∷ 49 ∷ 32 ∷ 49 ∷ 32 ∷ 49 ∷ 10 ∷ []))
    ∷ []
unfolding rescue_text entries listed after scan entry_lines entry_text tally total_text decimal_text digits_within
texts_told = refl

-- `kept 0 0`, `doubtful 20 9`, `skipped 40 3`, `doubtful 43 30`, `kept 63 31`, `end 4 2 3`
pub totals_told : rescue_text (r 0 ++ r 9 ++ (7 ∷ 7 ∷ 7 ∷ []) ++ r 30 ++ r 31)
    ≡ (107 ∷ 101 ∷ 112 ∷ 116 ∷ 32 ∷ 48 ∷ 32 ∷ 48 ∷ 10 ∷ []) ++ (100 ∷ 111 ∷ 117 ∷ 98 ∷ 116 ∷ 102 ∷ 117 ∷ 108 ∷ 32 ∷ 50 ∷ 48 ∷ 32 ∷ 57 ∷ 10 ∷ [])
    ++ (115 ∷ 107 ∷ 105 ∷ 112 ∷ 112 ∷ 101 ∷ 100 ∷ 32 ∷ 52 ∷ 48 ∷ 32 ∷ 51 ∷ 10 ∷ []) ++ (100 ∷ 111 ∷ 117 ∷ 98 ∷ 116 ∷ 102 ∷ 117 ∷ 108 ∷ 32 ∷ 52 ∷ 51 ∷ 32 ∷ 51 ∷ 48 ∷ 10 ∷ [])
    ++ (107 ∷ 101 ∷ 112 ∷ 116 ∷ 32 ∷ 54 ∷ 51 ∷ 32 ∷ 51 ∷ 49 ∷ 10 ∷ []) ++ (101 ∷ 110 ∷ 100 ∷ 32 ∷ 52 ∷ 32 ∷ 50 ∷ 32 ∷ 51 ∷ 10 ∷ [])
unfolding rescue_text entries listed after scan entry_lines entry_text tally total_text decimal_text digits_within
totals_told = refl

-- doubtful records are kept, with new numbers
pub rescued_told : rescued_trace ((7 ∷ r 5) ++ (7 ∷ r 9)) ≡ r 0 ++ r 1
unfolding rescued_trace scan accesses_of written
rescued_told = refl
