-- The line is stored field by field.
use Rattle.model.specs.Text.{line_text}
use Rattle.decimal.specs.Laws.{then}
use Rattle.report.proofs.write_line.Goals as goal

pub returns-clause-written : goal.returns-clause-written
unfolding line_text
returns-clause-written c =
    then (then (then c.write_field-p1.ensures.written c.write_field-p2.ensures.written) c.write_field-p3.ensures.written) c.write_field.ensures.written
