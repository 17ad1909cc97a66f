-- Document 02, L4: reads and writes of dwords at offsets in the map, row by row. Where one is an access of document 01, its row is that access's.
use Rattle.std.specs.Prelude.{true, not, List, [], ◌∷◌, ◌++◌, ℕ, zero, suc, ◌+◌, ◌*◌, ◌^◌, if◌then◌else◌}
use Rattle.model.specs.Checks.{Check, ◌for◌, refusal, nonzero, above}
use Rattle.model.specs.Sides.{Side, side_of, other, not_by}
use Rattle.model.specs.Events.{bit}
use Rattle.model.specs.Arbitration.{flags_value, flag_bit}
use Rattle.model.specs.Mailboxes.{mail_for}
use Rattle.model.specs.Transfer.{Request}
use Rattle.model.specs.Dma.{shown, programmed, control_value, control_written, request_in}
use Rattle.model.specs.State.{World}
use Rattle.model.specs.Changes.{dma_is, Effect, done, ◌also◌}
use Rattle.model.specs.Runs.{Outcome}
use Rattle.model.specs.Accesses.{Answer, Row, ◌⇒◌, Kind, row, fit, settled}
use Rattle.model.specs.RegisterMap.{Resource, port, dma_register, dmactl, arbutil, interrupts_of, mail_from, shared_at, unmodelled, resource_at, is_modelled}

-- "Side, offset, direction of access and dword": side and direction are bytes, offset and dword 32-bit numbers. Direction 0 is a read, 1 a write.
pub record RegisterAccess : Type 0 where
  pub side : ℕ
  pub offset : ℕ
  pub direction : ℕ
  pub dword : ℕ

-- "A read there that is no such access answers as the sheet says, changing nothing."
abbrev pub plainly : (dword v : ℕ) → Row
plainly d v = 3 for nonzero (d ∷ []) ∷ [] ⇒ done v 0 []

-- an access that one side alone may do here
abbrev pub only_by : (may caller : Side) → Row → Row
only_by may side r = 5 for not_by may side ∷ r.checks ⇒ r.effect

-- ARBUTIL: "A write to this bit .. updates this bit if and only if the [other side's] bit is not set" (document 000, page 37): a 1 at the
-- caller's bit of a pair claims its flag, a 0 releases it.
abbrev pub flag_written : World → Side → (dword pair : ℕ) → Effect
flag_written w side d k = (row (if bit (flag_bit side k) d then Kind.claim else Kind.release) w side k 0 0 0).effect

-- pair after pair: V has the V of each at its bit
abbrev pub flags_written : World → Side → (dword : ℕ) → (pairs : List ℕ) → Effect
flags_written w side d [] = done 0 0 []
flags_written w side d (k ∷ ks) =
    let first = flag_written w side d k in
    let rest = flags_written w side d ks in
    done (first.v * 2 ^ flag_bit side k + rest.v) 0 (first.changes ++ rest.changes)

-- kind 14 with a transfer's fields
abbrev pub start_row : World → Side → Request → Row
start_row w side t = row Kind.start w side t.direction t.shared t.pci t.size

-- THE TABLE

-- A register access has all lanes, S 0. A read hands its dword on as B, so that one that is not 0 is refused with 3.
abbrev pub read_row : Resource → World → Side → (dword : ℕ) → Row
read_row (port taken put) w side d = row Kind.take w side taken 0 d 0
read_row (dma_register p) w side d = plainly d (shown p w.card.dma)
read_row dmactl w side d = plainly d (control_value w.card.dma)
read_row arbutil w side d = plainly d (flags_value w.card.arbitration)
-- "Access is available through either interface" (page 31): either side reads it as the side whose register it is
read_row (interrupts_of owner) w side d = row Kind.interrupt_read w owner 0 0 d 0
-- the side that writes a mailbox reads its data there, and no label
read_row (mail_from writer) w side d =
    if not_by writer side
    then row Kind.mailbox_read w side 0 0 d 0
    else plainly d (mail_for (other writer) w.card.mailboxes)
read_row (shared_at a) w side d = row Kind.shared_read w side 0 a d 0
-- refused with 11 before its row is read
read_row unmodelled w side d = [] ⇒ done 0 0 []

abbrev pub write_row : Resource → World → Side → (dword : ℕ) → Row
write_row (port taken put) w side d = row Kind.put w side put 0 d 0
write_row (dma_register p) w side d = [] ⇒ done 0 0 (dma_is (programmed p d w.card.dma) ∷ [])
-- "A write to the low byte of this register triggers the DMA to occur" (page 37): kind 14, and what DMACTL stores
write_row dmactl w side d =
    let started = start_row w side (request_in w.card.dma d) in
    started.checks ⇒ started.effect also (dma_is (control_written side d w.card.dma) ∷ [])
write_row arbutil w side d = [] ⇒ flags_written w side d (0 ∷ 1 ∷ 2 ∷ 3 ∷ [])
write_row (interrupts_of owner) w side d = only_by owner side (row Kind.interrupt_write w side 0 0 d 0)
write_row (mail_from writer) w side d = only_by writer side (row Kind.mailbox_write w side 0 0 d 0)
write_row (shared_at a) w side d = row Kind.shared_write w side 0 a d 0
write_row unmodelled w side d = [] ⇒ done 0 0 []

-- "selector out of range: .. direction above 1"
abbrev pub register_row : Resource → (direction : ℕ) → World → Side → (dword : ℕ) → Row
register_row x zero w side d = read_row x w side d
register_row x (suc zero) w side d = write_row x w side d
register_row x (suc (suc n)) w side d = 4 for true ∷ [] ⇒ done 0 0 []

abbrev pub register_row_of : World → RegisterAccess → Row
register_row_of w q = register_row (resource_at q.offset) q.direction w (side_of q.side) q.dword

-- A REGISTER ACCESS

-- "11, an offset no multiple of 4 or one we do not model; it comes after 2 and before 3."
abbrev pub register_checks : World → RegisterAccess → List Check
register_checks w q =
    1 for not (fit w)
    ∷ 2 for above 1 q.side
    ∷ 11 for not (is_modelled (resource_at q.offset))
    ∷ (register_row_of w q).checks

unfoldable pub register_access : World → RegisterAccess → Outcome Answer World
register_access w q = settled (refusal (register_checks w q)) (register_row_of w q).effect w
