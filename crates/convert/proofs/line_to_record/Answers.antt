-- A line becomes its record, or the line of its refusal, by what the reader says.
use Rattle.std.proofs.Common.{arith}
use Rattle.model.specs.Convert.{trace_form, text_form}
use Rattle.access.specs.Bridge.{access_as}
use Rattle.convert.specs.Laws.{recorded_turned, record_written}
use Rattle.convert.proofs.line_to_record.Goals as goal

pub returns-in-Ok : goal.returns-in-Ok
returns-in-Ok c =
    let a = c.args in
    let q = access_as c.in-Ok.line.access in
    let written = record_written c.number_after.result q a.out.now c.write_record.new.out a.end c.write_record.result (omega arith) c.write_record.ensures in
    recorded_turned {from = text_form} {to = trace_form} c.in-Ok.ensures.result_value (rw c.number_after.ensures at written) c.in-Ok.ensures.ends (omega arith)
