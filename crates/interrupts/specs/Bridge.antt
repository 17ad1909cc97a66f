-- The code's two interrupt registers in the model's words, and events raised in both.
use Rattle.std.specs.Prelude.{ℕ}
use Rattle.model.specs.Sides.{host, local}
use Rattle.model.specs.Interrupts as model
use Rattle.model.specs.Interrupts.{on_register}
use Rattle.events.specs.Bridge.{register_as, raised_all}
use Rattle.interrupts.specs.declared.Interrupts.{Interrupts}

abbrev pub interrupts_as : Interrupts → model.Interrupts
interrupts_as i = record { hint = register_as i.hint; lint = register_as i.lint }

-- every event of a set raised in both registers
abbrev pub raised_both : (events : ℕ) → model.Interrupts → model.Interrupts
raised_both events i = on_register local (raised_all events) (on_register host (raised_all events) i)
