-- Rule 1 of register accesses: the causes in their order, and that the first that holds gives its number; a refusal answers two zeros and changes
-- nothing. The rows of the table refuse as that order says, resource by resource; the map names no FIFO, no address and no transfer that would be
-- refused for another cause.
use Rattle.std.specs.Prelude.{◌≡◌, refl, ◌≢◌, ◌↔◌, Bool, true, false, not, ◌&&◌, ◌||◌, List, [], ◌∷◌, ℕ, zero, suc, ◌+◌, ◌-◌, ◌*◌, ◌/◌, ◌%◌, ◌≤◌, ◌<◌, eqb, leb, ltb, if◌then◌else◌}
use Rattle.std.proofs.Common.{ap, ◌∙◌, arith, leb-true, ltb-true, eqb-true, le-ltb, lt-ltb, eq-eqb}
use Rattle.std.proofs.lemmas.Nat.Bits.{and_high}
use Rattle.std.proofs.Math.Dec.{eqb-suc-zero}
use Rattle.model.specs.Checks.{Check, ◌for◌, refusal, First, nonzero, multiple_of4, above, misplaced, shared_length, pci_length}
use Rattle.model.specs.Sides.{Side, side_of, other, not_by}
use Rattle.model.specs.Fifos.{putter, taker}
use Rattle.model.specs.Mailboxes.{mail_for}
use Rattle.model.specs.Transfer.{Request, is_idle}
use Rattle.model.specs.Dma.{Programmed, dmalbase, dmahbase, dmasize, Dma, shown, request_in}
use Rattle.model.specs.State.{World}
use Rattle.model.specs.Accesses.{Kind, row, fit}
use Rattle.model.specs.RegisterMap.{Resource, port, dma_register, dmactl, arbutil, interrupts_of, mail_from, shared_at, unmodelled, registers, found_in, resource_at, is_modelled}
use Rattle.model.specs.Registers.{RegisterAccess, plainly, register_row, register_checks, register_access}
use Rattle.model.proofs.TestLaws.{and_left, and_right}
use Rattle.model.specs.Choice.{All}
use Rattle.model.proofs.CheckLaws.{first_given}
use Rattle.model.proofs.RegisterLaws.{register_number_is, register_is}

-- THE ORDER

-- 5: "a FIFO port of the other side (read or write); a write to the other side's interrupt register or mailbox"
abbrev pub wrong_side : Resource → (direction : ℕ) → Side → Bool
wrong_side (port taken put) zero side = not_by (taker taken) side
wrong_side (port taken put) (suc n) side = not_by (putter put) side
wrong_side (dma_register p) n side = false
wrong_side dmactl n side = false
wrong_side arbutil n side = false
wrong_side (interrupts_of owner) zero side = false
wrong_side (interrupts_of owner) (suc n) side = not_by owner side
wrong_side (mail_from writer) zero side = false
wrong_side (mail_from writer) (suc n) side = not_by writer side
wrong_side (shared_at a) n side = false
wrong_side unmodelled n side = false

-- 6, 7 and 9 are a write of DMACTL's
abbrev pub is_start : Resource → (direction : ℕ) → Bool
is_start (port taken put) n = false
is_start (dma_register p) n = false
is_start dmactl zero = false
is_start dmactl (suc n) = true
is_start arbutil n = false
is_start (interrupts_of owner) n = false
is_start (mail_from writer) n = false
is_start (shared_at a) n = false
is_start unmodelled n = false

abbrev outside : Request → Bool
outside t = above shared_length (t.shared + t.size) || above pci_length (t.pci + t.size)

-- past 1 and 2, by what the offset names
abbrev pub causes_of : Resource → (direction : ℕ) → World → Side → (dword : ℕ) → List Check
causes_of x n w side d =
    11 for not (is_modelled x)
    ∷ 3 for (eqb n 0 && nonzero (d ∷ []))
    ∷ 4 for above 1 n
    ∷ 5 for wrong_side x n side
    ∷ 6 for (is_start x n && not (is_idle w.card.transfer))
    ∷ 7 for (is_start x n && eqb (request_in w.card.dma d).size 0)
    ∷ 9 for (is_start x n && outside (request_in w.card.dma d)) ∷ []

abbrev pub causes : World → RegisterAccess → List Check
causes w q = 1 for not (fit w) ∷ 2 for above 1 q.side ∷ causes_of (resource_at q.offset) q.direction w (side_of q.side) q.dword

-- WHAT THE MAP DOES NOT NAME

-- a FIFO above 3, an address outside shared memory
abbrev Well : Resource → Type 0
Well (port taken put) = (above 3 taken ≡ false) × (above 3 put ≡ false)
Well (dma_register p) = Unit {0}
Well dmactl = Unit {0}
Well arbutil = Unit {0}
Well (interrupts_of owner) = Unit {0}
Well (mail_from writer) = Unit {0}
Well (shared_at a) = misplaced a 4 0 shared_length ≡ false
Well unmodelled = Unit {0}

found_well : (rs : List (ℕ × Resource)) (offset : ℕ) → All (λ r. Well r.1) rs → Well (found_in rs offset)
found_well [] offset h = tt
found_well (r ∷ rs) offset h = by (eqb offset r.0) (found_well rs offset h.1)
  where
    by : (b : Bool) → Well (found_in rs offset) → Well (if b then r.1 else found_in rs offset)
    by true i = h.0
    by false i = i

well : (offset : ℕ) → Well (resource_at offset)
well offset = by (multiple_of4 offset && (leb 0x4000 offset && ltb offset 0x8000)) refl
  where
    all_well : All (λ r. Well r.1) registers
    all_well = ((refl, refl), ((refl, refl), ((refl, refl), ((refl, refl), (tt, (tt, (tt, (tt, (tt, (tt, (tt, (tt, (tt, tt)))))))))))))

    by : (b : Bool) → (multiple_of4 offset && (leb 0x4000 offset && ltb offset 0x8000)) ≡ b → Well (if b then shared_at (offset - 0x4000) else found_in registers offset)
    by true e =
        let bounds = and_right (multiple_of4 offset) (leb 0x4000 offset && ltb offset 0x8000) e in
        let aligned : offset % 4 ≡ 0 = eqb-true (offset % 4) 0 (and_left (multiple_of4 offset) (leb 0x4000 offset && ltb offset 0x8000) e) in
        let low : 0x4000 ≤ offset = leb-true 0x4000 offset (and_left (leb 0x4000 offset) (ltb offset 0x8000) bounds) in
        let high : offset < 0x8000 = ltb-true offset 0x8000 (and_right (leb 0x4000 offset) (ltb offset 0x8000) bounds) in
        let m : (offset - 0x4000) % 4 ≡ 0 = omega arith in
        rw (eq-eqb ((offset - 0x4000) % 4) 0 m, le-ltb (offset - 0x4000) 0 (omega arith), le-ltb shared_length (offset - 0x4000 + 4) (omega arith))
    by false e = found_well registers offset all_well

-- THE TRANSFER THAT IS PROGRAMMED has a direction, a size and addresses that its checks 4, 8 and 9 pass, but for the ends of its ranges

quarters : (p : Programmed) (r : Dma) → (q : ℕ) × (shown p r ≡ q * 4)
quarters dmalbase r = (r.shared / 4 % 4096, and_high r.shared 12 2)
quarters dmahbase r = (r.pci / 4 % 1073741824, and_high r.pci 30 2)
quarters dmasize r = (r.size / 4 % 4096, and_high r.size 12 2)

module _ (r : Dma) where
  shown_aligned : (p : Programmed) → multiple_of4 (shown p r) ≡ true
  shown_aligned p = let q = quarters p r in let e = q.1 in eq-eqb (shown p r % 4) 0 (omega arith)

  size_small : above 16384 (shown dmasize r) ≡ false
  size_small = let e = and_high r.size 12 2 in le-ltb 16384 (shown dmasize r) (omega arith)

  start_causes : (d : ℕ) (busy : Bool) → let t = request_in r d in
      refusal ((4 for above 1 (d % 2)) ∷ (6 for busy) ∷ (7 for eqb t.size 0) ∷ (8 for (not (multiple_of4 t.size) || above 16384 t.size))
      ∷ (9 for (misplaced t.shared t.size 0 shared_length || misplaced t.pci t.size 0 pci_length)) ∷ [])
      ≡ refusal ((6 for busy) ∷ (7 for eqb t.size 0) ∷ (9 for outside t) ∷ [])
  start_causes d busy =
      rw (le-ltb 1 (d % 2) (omega arith), shown_aligned dmasize, size_small, shown_aligned dmalbase, shown_aligned dmahbase, le-ltb (shown dmalbase r) 0 (omega arith), le-ltb (shown dmahbase r) 0 (omega arith))

-- THE ROWS REFUSE IN THAT ORDER

row_causes : (x : Resource) → Well x → (n : ℕ) (w : World) (side : Side) (d : ℕ) → refusal ((11 for not (is_modelled x)) ∷ (register_row x n w side d).checks) ≡ refusal (causes_of x n w side d)
row_causes (port taken put) h zero w side d = rw h.0
row_causes (port taken put) h (suc zero) w side d = rw h.1
row_causes (dma_register p) h zero w side d = refl
row_causes (dma_register p) h (suc zero) w side d = refl
row_causes dmactl h zero w side d = refl
row_causes dmactl h (suc zero) w side d = start_causes w.card.dma d (not (is_idle w.card.transfer))
row_causes arbutil h zero w side d = refl
row_causes arbutil h (suc zero) w side d = refl
row_causes (interrupts_of owner) h zero w side d = refl
row_causes (interrupts_of owner) h (suc zero) w side d = refl
row_causes (mail_from writer) h zero w side d = by (not_by writer side)
  where
    by : (b : Bool) → refusal (if b then row Kind.mailbox_read w side 0 0 d 0 else plainly d (mail_for (other writer) w.card.mailboxes)).checks ≡ refusal ((3 for nonzero (d ∷ [])) ∷ [])
    by true = refl
    by false = refl
row_causes (mail_from writer) h (suc zero) w side d = refl
row_causes (shared_at a) h zero w side d = rw h
row_causes (shared_at a) h (suc zero) w side d = rw h
row_causes unmodelled h zero w side d = refl
row_causes unmodelled h (suc zero) w side d = refl
row_causes x h (suc (suc n)) w side d = rw (eqb-suc-zero (suc n), lt-ltb 1 (suc (suc n)) (omega arith))

pub refused_in_order : (w : World) (q : RegisterAccess) → refusal (register_checks w q) ≡ refusal (causes w q)
refused_in_order w q =
    ap (λ m. if not (fit w) then 1 else (if above 1 q.side then 2 else m))
    (row_causes (resource_at q.offset) (well q.offset) q.direction w (side_of q.side) q.dword)

-- RULE 1

-- "Each number is given exactly if its cause holds and none above it in this list does."
pub register_given_iff : (w : World) (q : RegisterAccess) (n : ℕ) → 0 < n → ((register_access w q).answer.number ≡ n) ↔ First n (causes w q)
register_given_iff w q n z = rw (register_number_is w q ∙ refused_in_order w q) (first_given (causes w q) n z)

pub register_refusal_changes_nothing : (w : World) (q : RegisterAccess) → (register_access w q).answer.number ≢ 0 →
    register_access w q ≡ record { answer = record { number = refusal (causes w q); v = 0; x = 0 }; world = w }
register_refusal_changes_nothing w q h = by (refusal (causes w q)) (refused_in_order w q)
  where
    by : (n : ℕ) → refusal (register_checks w q) ≡ n → register_access w q ≡ record { answer = record { number = n; v = 0; x = 0 }; world = w }
    by zero e = absurd (h (register_number_is w q ∙ e))
    by (suc n) e = register_is w q (suc n) e
