-- Document 01, "Transfer": the one DMA transfer, and the checks of a start.
use Rattle.std.specs.Prelude.{Bool, true, false, not, ◌&&◌, ◌||◌, List, [], ◌∷◌, ℕ, ◌+◌, ◌*◌, ◌/◌, eqb, ltb}
use Rattle.model.specs.Checks.{Check, ◌for◌, refusal, multiple_of4, above, misplaced, shared_length, pci_length}

-- What a start asks for: S, A, B and C. "Direction 0 is window to shared, 1 shared to window."
pub record Request : Type 0 where
  pub direction : ℕ
  pub shared : ℕ
  pub pci : ℕ
  pub size : ℕ

abbrev pub request_of : (s a b c : ℕ) → Request
request_of s a b c = record { direction = s; shared = a; pci = b; size = c }

-- "one DMA transfer": none runs, or one of which `moved` dwords have been moved
pub data Transfer : Type 0 where
  idle : Transfer
  running : Request → (moved : ℕ) → Transfer

abbrev pub is_idle : Transfer → Bool
is_idle idle = true
is_idle (running t moved) = false

-- Causes 7, 8 and 9: a start, a sound record and one who asks for a source share them.
-- "For 14 it covers either address not a multiple of 4, A + C above 16,384, or B + C above 4,294,967,296."
abbrev pub request_checks : Request → List Check
request_checks t =
    7 for eqb t.size 0
    ∷ 8 for (not (multiple_of4 t.size) || above 16384 t.size)
    ∷ 9 for (misplaced t.shared t.size 0 shared_length || misplaced t.pci t.size 0 pci_length) ∷ []

-- "selector out of range: .. direction above 1"
abbrev pub direction_check : Request → Check
direction_check t = 4 for above 1 t.direction

-- "the start checks": causes 4, 7, 8 and 9. A start has 6 between them.
abbrev pub start_checks : Request → List Check
start_checks t = direction_check t ∷ request_checks t

-- "a running transfer meets the start checks with fewer dwords moved than size / 4"
abbrev pub transfer_sound : Transfer → Bool
transfer_sound idle = true
transfer_sound (running t moved) = eqb (refusal (start_checks t)) 0 && ltb moved (t.size / 4)

-- "A step treats dword i, counting from 0, at PCI address B + 4i."
abbrev pub pci_of : Request → (i : ℕ) → ℕ
pci_of t i = t.pci + 4 * i
