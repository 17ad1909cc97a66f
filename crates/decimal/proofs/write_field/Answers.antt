-- A number and the byte after it are stored: one text then another, in room for both.
use Rattle.decimal.specs.Laws.{then}
use Rattle.decimal.proofs.write_field.Goals as goal

pub returns-clause-written : goal.returns-clause-written
returns-clause-written c = then c.write_decimal-p.ensures c.write_byte.ensures
