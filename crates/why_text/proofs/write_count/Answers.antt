-- `set: `, a field and `held` are stored in turn: 21 bytes hold them.
use Rattle.model.specs.WhyText.{held_text}
use Rattle.decimal.specs.Laws.{then}
use Rattle.why_text.proofs.write_count.Goals as goal

pub returns-clause-written : goal.returns-clause-written
unfolding held_text
returns-clause-written c = then (then c.write_word-p1.ensures c.write_field-p2.ensures.written) c.write_word.ensures
