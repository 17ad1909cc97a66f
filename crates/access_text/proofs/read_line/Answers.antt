-- A line is read in two halves of three fields, or the half that is none is told.
use Rattle.std.proofs.lemmas.Result.{err_from_is_err_and}
use Rattle.access_text.specs.Laws.{line_read, line_none_first, line_none_second, when_read, when_none}
use Rattle.access_text.proofs.read_line.Goals as goal

pub returns-in_err-bytes-clause-result_value : goal.returns-in_err-bytes-clause-result_value
returns-in_err-bytes-clause-result_value c =
    let p = err_from_is_err_and c.from_residual.result c.from_residual.ensures.1 in
    let n = when_none c.args.text.now 0 255 32 c.read_three.result c.read_three.ensures c.in_err-bytes.field-0.0 c.in_err-bytes.ensures.value in
    rw (p.1, p.2, n.1) (line_none_first _ n.0)

pub returns-in_err-dwords-clause-result_value : goal.returns-in_err-dwords-clause-result_value
returns-in_err-dwords-clause-result_value c =
    let p = err_from_is_err_and c.from_residual-in_err-dwords.result c.from_residual-in_err-dwords.ensures.1 in
    let f = when_read c.args.text.now 0 255 32 c.read_three.result c.read_three.ensures c.in_ok-bytes.bytes c.in_ok-bytes.ensures.value in
    let n = when_none c.args.text.now c.in_ok-bytes.bytes.next 4294967295 10 c.read_three-2.result c.read_three-2.ensures c.in_err-dwords.field-0.0 c.in_err-dwords.ensures.value in
    rw (p.1, p.2, n.1) (line_none_second _ f n.0)

pub returns-clause-result_value : goal.returns-clause-result_value
returns-clause-result_value c =
    (line_read c.args.text.now (when_read c.args.text.now 0 255 32 c.read_three.result c.read_three.ensures c.in_ok-bytes.bytes c.in_ok-bytes.ensures.value)
    (when_read c.args.text.now c.in_ok-bytes.bytes.next 4294967295 10 c.read_three-2.result c.read_three-2.ensures c.in_ok-dwords.dwords c.in_ok-dwords.ensures.value)).0

pub returns-clause-ends : goal.returns-clause-ends
returns-clause-ends c =
    (line_read c.args.text.now (when_read c.args.text.now 0 255 32 c.read_three.result c.read_three.ensures c.in_ok-bytes.bytes c.in_ok-bytes.ensures.value)
    (when_read c.args.text.now c.in_ok-bytes.bytes.next 4294967295 10 c.read_three-2.result c.read_three-2.ensures c.in_ok-dwords.dwords c.in_ok-dwords.ensures.value)).1
