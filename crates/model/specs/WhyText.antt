-- Document 02, L7: what the program is asked, and what it writes.
use Rattle.std.specs.Prelude.{List, [], ◌∷◌, ◌++◌, ℕ, length}
use Rattle.model.specs.Text.{field_text, FieldReading, number, unreadable, read_decimal}
use Rattle.model.specs.Why.{Holding, never, cleared_by, set_by, held, Answer, refused, because, why}

-- WHAT IT WRITES

-- 32 98 121 32 114 101 99 111 114 100 32 spells ` by record `
abbrev pub by_record : (n : ℕ) → List ℕ
by_record n = (32 ∷ 98 ∷ 121 ∷ 32 ∷ 114 ∷ 101 ∷ 99 ∷ 111 ∷ 114 ∷ 100 ∷ 32 ∷ []) ++ field_text n 10

-- `entry 7 put by record 3`: 101 110 116 114 121 32 spells `entry `, 112 117 116 spells `put`
unfoldable pub holding_text : Holding → List ℕ
holding_text h = (101 ∷ 110 ∷ 116 ∷ 114 ∷ 121 ∷ 32 ∷ []) ++ field_text h.entry 32 ++ (112 ∷ 117 ∷ 116 ∷ []) ++ by_record h.put_by

unfoldable pub holding_lines : List Holding → List ℕ
holding_lines [] = []
holding_lines (h ∷ hs) = holding_text h ++ holding_lines hs

-- `why 42`: 119 104 121 32 spells `why `
unfoldable pub why_text : (refusal : ℕ) → List ℕ
why_text n = (119 ∷ 104 ∷ 121 ∷ 32 ∷ []) ++ field_text n 10

-- `set: 2 held`: 115 101 116 58 32 spells `set: `, 104 101 108 100 10 spells `held` with its line feed
unfoldable pub held_text : (count : ℕ) → List ℕ
held_text n = (115 ∷ 101 ∷ 116 ∷ 58 ∷ 32 ∷ []) ++ field_text n 32 ++ (104 ∷ 101 ∷ 108 ∷ 100 ∷ 10 ∷ [])

-- "It writes `never raised`, `cleared by record 17`, or `set by record 4`; for positions 6 and 7 with entries held `set: 2 held` and then a line an
-- entry, oldest first ..; a refusal is `why 42`."
unfoldable pub answer_text : Answer → List ℕ
answer_text (refused n) = why_text n
-- 110 101 118 101 114 32 114 97 105 115 101 100 10 spells `never raised` with its line feed
answer_text (because never) = 110 ∷ 101 ∷ 118 ∷ 101 ∷ 114 ∷ 32 ∷ 114 ∷ 97 ∷ 105 ∷ 115 ∷ 101 ∷ 100 ∷ 10 ∷ []
-- 99 108 101 97 114 101 100 spells `cleared`
answer_text (because (cleared_by n)) = (99 ∷ 108 ∷ 101 ∷ 97 ∷ 114 ∷ 101 ∷ 100 ∷ []) ++ by_record n
-- 115 101 116 spells `set`
answer_text (because (set_by n)) = (115 ∷ 101 ∷ 116 ∷ []) ++ by_record n
answer_text (because (held hs)) = held_text (length hs) ++ holding_lines hs

-- WHAT IT IS ASKED

-- what the program writes: a text to standard output, or its usage line to standard error
pub data Output : Type 0 where
  answered : (text : List ℕ) → Output
  usage : Output

abbrev pub output : (trace : List ℕ) → (side p : FieldReading) → Output
output trace (number side) (number p) = answered (answer_text (why trace side p))
output trace (number side) unreadable = usage
output trace unreadable p = usage

-- "side and position in decimal"; "all else gets the usage line on standard error"
unfoldable pub why_output : (trace side p : List ℕ) → Output
why_output trace side p = output trace (read_decimal side) (read_decimal p)

-- `usage: ./why capture.bin side position` with its line feed
unfoldable pub usage_text : List ℕ
usage_text =
    117 ∷ 115 ∷ 97 ∷ 103 ∷ 101 ∷ 58 ∷ 32 ∷ 46 ∷ 47 ∷ 119 ∷ 104 ∷ 121 ∷ 32 ∷ 99 ∷ 97 ∷ 112 ∷ 116 ∷ 117 ∷ 114 ∷ 101 ∷ 46 ∷ 98 ∷ 105 ∷ 110 ∷ 32 ∷ 115 ∷ 105 ∷ 100 ∷ 101 ∷ 32 ∷ 112 ∷ 111 ∷ 115 ∷ 105 ∷ 116 ∷ 105 ∷ 111 ∷ 110 ∷ 10 ∷ []
