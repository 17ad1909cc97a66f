-- Document 01, "FIFOs and flags": the four FIFOs, and who puts and takes.
use Rattle.std.specs.Prelude.{Bool, ◌&&◌, List, [], ◌∷◌, ◌++◌, ℕ, length, get_or, set, drop, replicate, eqb, leb}
use Rattle.model.specs.Choice.{every}
use Rattle.model.specs.Sides.{Side, host, local, other}

-- "Each FIFO holds 32 numbers of 32 bits": the list of the entries that it holds, oldest first; there are four.
abbrev pub Fifos : Type 0
Fifos = List (List ℕ)

-- "A fresh card has empty FIFOs."
abbrev pub fresh_fifos : Fifos
fresh_fifos = replicate 4 []

-- "each FIFO holds at most 32 entries"
abbrev pub fifo_sound : (entries : List ℕ) → Bool
fifo_sound entries = leb (length entries) 32

abbrev pub fifos_sound : Fifos → Bool
fifos_sound fs = eqb (length fs) 4 && every fifo_sound fs

-- "Who puts": 0 inbound free, 1 inbound post, 2 outbound free, 3 outbound post. The other side takes.
abbrev pub putter : (i : ℕ) → Side
putter i = get_or (local ∷ host ∷ host ∷ local ∷ []) i host

abbrev pub taker : (i : ℕ) → Side
taker i = other (putter i)

-- the entries that FIFO i holds; an entry put behind them, the oldest taken out
abbrev pub entries_of : Fifos → (i : ℕ) → List ℕ
entries_of fs i = get_or fs i []

abbrev pub pushed_on : (i entry : ℕ) → Fifos → Fifos
pushed_on i entry fs = set fs i (entries_of fs i ++ (entry ∷ []))

abbrev pub popped_from : (i : ℕ) → Fifos → Fifos
popped_from i fs = set fs i (drop 1 (entries_of fs i))
