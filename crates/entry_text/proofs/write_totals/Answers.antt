-- The last line is stored, `end ` and three fields.
use Rattle.model.specs.RescueText.{total_text}
use Rattle.decimal.specs.Laws.{then}
use Rattle.entry_text.proofs.write_totals.Goals as goal

pub returns-clause-written : goal.returns-clause-written
unfolding total_text
returns-clause-written c =
    then (then (then c.write_word-p1.ensures c.write_field-p2.ensures.written) c.write_field-p3.ensures.written) c.write_field.ensures.written
