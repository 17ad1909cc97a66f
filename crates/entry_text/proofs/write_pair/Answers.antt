-- A word and two fields are stored in turn.
use Rattle.decimal.specs.Laws.{then}
use Rattle.entry_text.proofs.write_pair.Goals as goal

pub returns-clause-written : goal.returns-clause-written
returns-clause-written c = then (then c.write_word-p1.ensures c.write_field-p2.ensures.written) c.write_field.ensures.written
