-- Document 02, L14: what the program writes of a damaged trace, a line an entry; and with -t the kept records as a trace.
use Rattle.std.specs.Prelude.{true, false, List, [], ◌∷◌, ◌++◌, ℕ, ◌+◌}
use Rattle.model.specs.Accesses.{Access}
use Rattle.model.specs.Text.{field_text}
use Rattle.model.specs.Convert.{trace_form, written}
use Rattle.model.specs.Rescue.{Move, keep, skip, Entry, kept, skipped, moves, entries}

-- A LINE AN ENTRY

-- `kept AT NUMBER`, `doubtful AT NUMBER`, `skipped AT LENGTH`, "in decimal with single spaces"
unfoldable pub entry_text : Entry → List ℕ
entry_text (kept at number false) = (107 ∷ 101 ∷ 112 ∷ 116 ∷ 32 ∷ []) ++ field_text at 32 ++ field_text number 10
entry_text (kept at number true) = (100 ∷ 111 ∷ 117 ∷ 98 ∷ 116 ∷ 102 ∷ 117 ∷ 108 ∷ 32 ∷ []) ++ field_text at 32 ++ field_text number 10
entry_text (skipped at size) = (115 ∷ 107 ∷ 105 ∷ 112 ∷ 112 ∷ 101 ∷ 100 ∷ 32 ∷ []) ++ field_text at 32 ++ field_text size 10

unfoldable pub entry_lines : List Entry → List ℕ
entry_lines [] = []
entry_lines (e ∷ es) = entry_text e ++ entry_lines es

-- "the kept records (doubtful ones included), how many of them are doubtful, the bytes skipped"
pub record Tally : Type 0 where
  pub kept : ℕ
  pub doubtful : ℕ
  pub skipped : ℕ

abbrev pub none : Tally
none = record { kept = 0; doubtful = 0; skipped = 0 }

-- one entry more
abbrev pub tallied : Tally → Entry → Tally
tallied t (kept at number false) = record { kept = t.kept + 1; doubtful = t.doubtful; skipped = t.skipped }
tallied t (kept at number true) = record { kept = t.kept + 1; doubtful = t.doubtful + 1; skipped = t.skipped }
tallied t (skipped at size) = record { kept = t.kept; doubtful = t.doubtful; skipped = t.skipped + size }

unfoldable pub tally : Tally → List Entry → Tally
tally t [] = t
tally t (e ∷ es) = tally (tallied t e) es

-- `end KEPT DOUBTFUL SKIPPED`: 101 110 100 32 spells `end `
unfoldable pub total_text : Tally → List ℕ
total_text t = (101 ∷ 110 ∷ 100 ∷ 32 ∷ []) ++ field_text t.kept 32 ++ field_text t.doubtful 32 ++ field_text t.skipped 10

-- all that the program writes for a trace
unfoldable pub rescue_text : (trace : List ℕ) → List ℕ
rescue_text trace = entry_lines (entries trace) ++ total_text (tally none (entries trace))

-- THE KEPT RECORDS ANEW

unfoldable pub accesses_of : List Move → List Access
accesses_of [] = []
accesses_of (keep number q ∷ ms) = q ∷ accesses_of ms
accesses_of (skip ∷ ms) = accesses_of ms

-- "the kept records anew as a trace numbered from 0"
unfoldable pub rescued_trace : (trace : List ℕ) → List ℕ
rescued_trace trace = written trace_form 0 (accesses_of (moves trace))
