-- How far an access goes, in either form.
use Rattle.convert.specs.declared.Form.TheVariants.{Text, Trace}
use Rattle.convert.specs.Laws.{far}
use Rattle.convert.proofs.turn_one.Goals as goal

pub returns-in-Text-clause-far : goal.returns-in-Text-clause-far
returns-in-Text-clause-far c = far Text c.line_to_record.ensures

pub returns-in-Trace-clause-far : goal.returns-in-Trace-clause-far
returns-in-Trace-clause-far c = far Trace c.record_to_line.ensures
