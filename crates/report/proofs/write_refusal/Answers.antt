-- The line of a refusal is stored, its words and fields in turn.
use Rattle.model.specs.Text.{refusal_text}
use Rattle.decimal.specs.Laws.{then}
use Rattle.report.proofs.write_refusal.Goals as goal

pub returns-clause-written : goal.returns-clause-written
unfolding refusal_text
returns-clause-written c =
    then (then (then c.write_word-p1.ensures c.write_field-p2.ensures.written) c.write_word-p3.ensures) c.write_field.ensures.written
