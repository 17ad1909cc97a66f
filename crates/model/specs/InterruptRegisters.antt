-- Document 01, "Interrupt registers": a side's register as read and written, and its line.
use Rattle.std.specs.Prelude.{Bool, List, [], ◌∷◌, ℕ, ◌/◌}
use Rattle.std.specs.Int.Bits.{bit_or}
use Rattle.model.specs.Sides.{Side}
use Rattle.model.specs.Events.{Event, inbound_post, outbound_post, mask, common, enable_mask}
use Rattle.model.specs.Fifos.{Fifos, entries_of}
use Rattle.model.specs.Interrupts.{register, register_value, active}
use Rattle.model.specs.State.{State}
use Rattle.model.specs.Changes.{Effect, done, cleared, enables_are}

-- the bit of an event that follows a FIFO: set while the FIFO holds an entry
abbrev pub live_bit : Event → (entries : List ℕ) → ℕ
live_bit e [] = 0
live_bit e (oldest ∷ rest) = mask e

-- "Bits 6 and 7 follow FIFOs 1 and 3 and cannot be cleared by a write."
abbrev pub live_of : Fifos → ℕ
live_of fs = bit_or (live_bit inbound_post (entries_of fs 1)) (live_bit outbound_post (entries_of fs 3))

-- "caller's own register (our rule)": as it is read, and its line
abbrev pub register_read : Side → State → ℕ
register_read side s = register_value (live_of s.fifos) (register side s.interrupts)

abbrev pub line_active : Side → State → Bool
line_active side s = active (live_of s.fifos) (register side s.interrupts)

-- "A write replaces the enables (reserved positions stay 0) and clears each status bit where it has a 1. A 0 clears nothing."
abbrev pub register_written : Side → (b : ℕ) → Effect
register_written side b = done 0 0 (enables_are side (common (b / 65536) (enable_mask side)) ∷ cleared side b ∷ [])
