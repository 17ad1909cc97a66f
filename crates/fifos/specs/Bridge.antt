-- The entries that the code's FIFOs hold, and what a put and a take make of them.
use Rattle.std.specs.Prelude.{Bool, true, false, Option, Some, None, List, [], ◌∷◌, ◌++◌, map, ℕ, ◌+◌, length, take, replicate, ltb, if◌then◌else◌}
use Rattle.model.specs.Fifos as model
use Rattle.model.specs.Fifos.{entries_of, pushed_on, popped_from}
use Rattle.fifos.specs.declared.Fifo.{Fifo}
use Rattle.fifos.specs.declared.Fifos.{Fifos}
use Rattle.fifos.specs.declared.Taken.{Taken}

-- Oldest first. There are exactly `count`, so that a count above 32 shows as a longer list, which is not sound.
unfoldable pub entries_as : Fifo → List ℕ
entries_as f = take f.count (f.entries ++ replicate f.count 0)

abbrev pub fifos_as : Fifos → model.Fifos
fifos_as fs = map entries_as fs.each

-- the FIFOs after a put into FIFO i, how many entries it holds then, 32 where it was full, and whether the entry was kept
pub record PutOn : Type 0 where
  pub fifos : model.Fifos
  pub held : ℕ
  pub kept : Bool

abbrev pub put_on : (i entry : ℕ) → model.Fifos → PutOn
put_on i entry fs =
    if ltb (length (entries_of fs i)) 32
    then record { fifos = pushed_on i entry fs; held = length (entries_of fs i) + 1; kept = true }
    else record { fifos = fs; held = 32; kept = false }

-- what a put into FIFO i of `before` gives: the FIFOs after it, or none where it was full, and they are as they were
abbrev pub put_as : (i : ℕ) → (before : Fifos) → Option Fifos → PutOn
put_as i before (Some after) = record { fifos = fifos_as after; held = length (entries_of (fifos_as after) i); kept = true }
put_as i before None = record { fifos = fifos_as before; held = 32; kept = false }

-- the FIFOs after a take from FIFO i, which held `entries`, the entry taken, if there was one, and how many were held
pub record TakenOff : Type 0 where
  pub fifos : model.Fifos
  pub entry : ℕ
  pub held : ℕ

abbrev pub taken_off : (i : ℕ) → model.Fifos → (entries : List ℕ) → TakenOff
taken_off i fs [] = record { fifos = fs; entry = 4294967295; held = 0 }
taken_off i fs (oldest ∷ rest) = record { fifos = popped_from i fs; entry = oldest; held = length (oldest ∷ rest) }

-- what a take from FIFO i of `before` gives: the entry and the FIFOs after it, where one more was held before, or none where it was empty
abbrev pub taken_as : (i : ℕ) → (before : Fifos) → Option Taken → TakenOff
taken_as i before (Some t) = record { fifos = fifos_as t.fifos; entry = t.entry; held = length (t.entry ∷ entries_of (fifos_as t.fifos) i) }
taken_as i before None = record { fifos = fifos_as before; entry = 4294967295; held = 0 }
