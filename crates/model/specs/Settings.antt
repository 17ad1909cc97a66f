-- Document 01, "The part we model": the settings, and what they say of PCI addresses and of the memories.
use Rattle.std.specs.Prelude.{Bool, ◌&&◌, List, [], ◌∷◌, ℕ, ◌+◌, eqb, leb, ltb, length as length_of}
use Rattle.model.specs.Choice.{all_of}
use Rattle.model.specs.Checks.{multiple_of4, misplaced, shared_length, pci_length}

-- "Settings: window base, window length, and a target-abort range given as two offsets lo and hi (lo included, hi not). All four are 32-bit
-- numbers."
pub record Settings : Type 0 where
  pub base : ℕ
  pub length : ℕ
  pub lo : ℕ
  pub hi : ℕ

-- "all-zero settings"
abbrev pub zero_settings : Settings
zero_settings = record { base = 0; length = 0; lo = 0; hi = 0 }

-- "They pass if all are multiples of 4, length is at most 65,536, base + length is at most 4,294,967,296, and lo <= hi <= length."
abbrev pub settings_pass : Settings → Bool
settings_pass s =
    all_of
    (multiple_of4 s.base ∷ multiple_of4 s.length ∷ multiple_of4 s.lo ∷ multiple_of4 s.hi
    ∷ leb s.length 65536
    ∷ leb (s.base + s.length) pci_length
    ∷ leb s.lo s.hi
    ∷ leb s.hi s.length ∷ [])

-- the contrary of "shared memory not 16,384 bytes, or window not of the set length"
abbrev pub lengths_fit : Settings → (shared window : List ℕ) → Bool
lengths_fit s shared window = eqb (length_of shared) shared_length && eqb (length_of window) s.length

-- A PCI address in the target-abort range: lo included, hi not. "The abort range bears on steps alone; kinds 3 and 4 reach it like the rest of
-- the window."
abbrev pub in_abort_range : Settings → (pci : ℕ) → Bool
in_abort_range s at = leb (s.base + s.lo) at && ltb at (s.base + s.hi)

-- "an address that is no multiple of 4 or whose four bytes leave the memory": here the window, and `n` bytes
abbrev pub outside_window : Settings → (pci n : ℕ) → Bool
outside_window s at n = misplaced at n s.base (s.base + s.length)
