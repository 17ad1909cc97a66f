-- A word, ` by record ` and a field are stored in turn: 22 bytes hold them behind the word.
use Rattle.decimal.specs.Laws.{then}
use Rattle.why_text.proofs.write_by_record.Goals as goal

pub returns-clause-written : goal.returns-clause-written
returns-clause-written c = then c.write_word-p1.ensures (then c.write_word-p2.ensures c.write_field.ensures.written)
