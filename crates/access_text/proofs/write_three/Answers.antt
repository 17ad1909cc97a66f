-- Three fields are stored in turn, in room for all of them.
use Rattle.decimal.specs.Laws.{then}
use Rattle.access_text.proofs.write_three.Goals as goal

pub returns : goal.returns
returns c = then c.write_field-p1.ensures.written (then c.write_field-p2.ensures.written c.write_field.ensures.written)
