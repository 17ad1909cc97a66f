-- Document 02, L4: the DMA registers, which a transfer is programmed in. Pages are those of document 000, the data sheet.
use Rattle.std.specs.Prelude.{Bool, false, ℕ, ◌+◌, ◌*◌, ◌%◌, eqb, if◌then◌else◌}
use Rattle.model.specs.Sides.{Side, host, local, other}
use Rattle.model.specs.Events.{bit, common}
use Rattle.model.specs.Arbitration.{Pair, fresh_pair, pair_value, flag, with_flag}
use Rattle.model.specs.Transfer.{Request, request_of}

-- DMALBASE, DMAHBASE and DMASIZE, named as in a transfer; and DMACTL: the flags P and L, PI and W
pub record Dma : Type 0 where
  pub shared : ℕ
  pub pci : ℕ
  pub size : ℕ
  pub owner : Pair
  pub inhibit : Bool
  pub outward : Bool

-- fresh: "all else 0, clear or idle"
abbrev pub fresh_dma : Dma
fresh_dma = record { shared = 0; pci = 0; size = 0; owner = fresh_pair; inhibit = false; outward = false }

-- "A transfer is now programmed by several writes before the one that starts it."
pub data Programmed : Type 0 where
  dmalbase dmahbase dmasize : Programmed

-- The bits that each has: 13 to 2, 31 to 2 and 13 to 2 (pages 36 and 37).
abbrev pub bits_of : Programmed → ℕ
bits_of dmalbase = 0x3FFC
bits_of dmahbase = 0xFFFFFFFC
bits_of dmasize = 0x3FFC

abbrev pub stored_in : Programmed → Dma → ℕ
stored_in dmalbase r = r.shared
stored_in dmahbase r = r.pci
stored_in dmasize r = r.size

abbrev pub with_stored : Programmed → ℕ → Dma → Dma
with_stored dmalbase n r = record { shared = n; pci = r.pci; size = r.size; owner = r.owner; inhibit = r.inhibit; outward = r.outward }
with_stored dmahbase n r = record { shared = r.shared; pci = n; size = r.size; owner = r.owner; inhibit = r.inhibit; outward = r.outward }
with_stored dmasize n r = record { shared = r.shared; pci = r.pci; size = n; owner = r.owner; inhibit = r.inhibit; outward = r.outward }

-- "The lower two bits of each of the address and transfer size fields are ignored" (page 48); "Unused bits are read as '0'" (page 32).
-- A register is written through its bits, and read through them.
abbrev pub shown : Programmed → Dma → ℕ
shown p r = common (stored_in p r) (bits_of p)

abbrev pub programmed : Programmed → (dword : ℕ) → Dma → Dma
programmed p d r = with_stored p (common d (bits_of p)) r

-- DMACTL: bit 9 L, 8 P, 1 PI, 0 W (page 37)
abbrev pub control_value : Dma → ℕ
control_value r = pair_value r.owner * 256 + (if r.inhibit then 2 else 0) + (if r.outward then 1 else 0)

-- where a side's ownership bit stands
abbrev pub owner_bit : Side → ℕ
owner_bit host = 8
owner_bit local = 9

-- "Writing to this bit by the local processor updates the value if and only if the P bit is not set to '1.' A write to this bit from the PCI bus
-- never updates this bit"; of P the same with the sides exchanged (page 37).
abbrev pub owner_written : Side → (dword : ℕ) → Pair → Pair
owner_written side d p = if flag (other side) p then p else with_flag side (bit (owner_bit side) d) p

abbrev pub control_written : Side → (dword : ℕ) → Dma → Dma
control_written side d r =
    record { shared = r.shared; pci = r.pci; size = r.size; owner = owner_written side d r.owner; inhibit = bit 1 d; outward = eqb (d % 2) 1 }

-- W "determines the direction of the DMA .. 1: DMA operation is a write to the PCI bus memory from the CY7C09449PVA shared memory" (page 37):
-- the transfer that a write of DMACTL starts is the one programmed, each register as it reads.
abbrev pub request_in : Dma → (dword : ℕ) → Request
request_in r d = request_of (d % 2) (shown dmalbase r) (shown dmahbase r) (shown dmasize r)
