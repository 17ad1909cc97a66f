-- A register of the code in the model's words, and a set of events raised in it.
use Rattle.std.specs.Prelude.{ℕ}
use Rattle.std.specs.Int.Bits.{bit_or}
use Rattle.model.specs.Interrupts as model
use Rattle.events.specs.declared.Register.{Register}

abbrev pub register_as : Register → model.Register
register_as r = record { enables = r.enables.0; status = r.status.0 }

-- every event of a set raised
abbrev pub raised_all : (events : ℕ) → model.Register → model.Register
raised_all events r = record { enables = r.enables; status = bit_or r.status events }
