-- Document 02, L4: what an offset in the 32 KB map names. Pages are those of document 000, the data sheet.
use Rattle.std.specs.Prelude.{Bool, true, false, ◌&&◌, List, [], ◌∷◌, ℕ, ◌-◌, eqb, leb, ltb, if◌then◌else◌}
use Rattle.model.specs.Checks.{multiple_of4}
use Rattle.model.specs.Sides.{Side, host, local}
use Rattle.model.specs.Dma.{Programmed, dmalbase, dmahbase, dmasize}

-- "CY7C09449PVA resources are accessed from the PCI bus as an offset .. Resources are also accessed from the local bus" (page 8): one map for both.
pub data Resource : Type 0 where
  -- a port of two FIFOs: the one that a read takes from, the one that a write puts into
  port : (taken put : ℕ) → Resource
  -- DMALBASE, DMAHBASE and DMASIZE; DMACTL
  dma_register : Programmed → Resource
  dmactl : Resource
  -- all arbitration flags
  arbutil : Resource
  -- HINT or LINT, by the side whose register it is
  interrupts_of : Side → Resource
  -- HLDATA or LHDATA, by the side that writes it
  mail_from : Side → Resource
  -- four bytes of shared memory
  shared_at : (address : ℕ) → Resource
  unmodelled : Resource

-- The registers at their offsets, which "are DWORD aligned" (pages 31 and 32): IBFPFIFO, OBPFFIFO, IBPFFIFO and OBFPFIFO; DMALBASE, DMAHBASE, DMASIZE and DMACTL; ARBUTIL;
-- HINT, HLDATA, LINT and LHDATA.
abbrev pub registers : List (ℕ × Resource)
registers =
    (0x0040, port 0 1) ∷ (0x0044, port 3 2) ∷ (0x0048, port 1 0) ∷ (0x004C, port 2 3)
    ∷ (0x04B0, dma_register dmalbase) ∷ (0x04B4, dma_register dmahbase) ∷ (0x04B8, dma_register dmasize) ∷ (0x04BC, dmactl)
    ∷ (0x04C0, arbutil)
    ∷ (0x04E4, interrupts_of host) ∷ (0x04E8, mail_from host)
    ∷ (0x04F4, interrupts_of local) ∷ (0x04F8, mail_from local) ∷ []

abbrev pub found_in : List (ℕ × Resource) → (offset : ℕ) → Resource
found_in [] offset = unmodelled
found_in (r ∷ rs) offset = if eqb offset r.0 then r.1 else found_in rs offset

-- "Shared Memory 0x4000-0x7FFF" (page 8), dword by dword
abbrev pub resource_at : (offset : ℕ) → Resource
resource_at offset =
    if multiple_of4 offset && (leb 0x4000 offset && ltb offset 0x8000)
    then shared_at (offset - 0x4000)
    else found_in registers offset

-- "11, an offset no multiple of 4 or one we do not model": every register's offset is a multiple of 4
abbrev pub is_modelled : Resource → Bool
is_modelled (port taken put) = true
is_modelled (dma_register p) = true
is_modelled dmactl = true
is_modelled arbutil = true
is_modelled (interrupts_of side) = true
is_modelled (mail_from side) = true
is_modelled (shared_at a) = true
is_modelled unmodelled = false
