-- `read_record` meets its contract: what is refused has the refusal's number, and what is not has 20 bytes.
use Rattle.std.proofs.Common.{rules, ◌≡◌, Err, sym}
use Rattle.trace.specs.Laws.{refused_read, recorded_read}
use Rattle.trace.proofs.read_record.Goals as goal

pub returns-in_err-checks : goal.returns-in_err-checks
returns-in_err-checks c =
    let told : c.from_residual.result ≡ Err c.in_err-checks.field-0.0 = search rules in
    rw told (refused_read c.args.bytes.now c.args.expected c.in_err-checks.field-0.0 c.in_err-checks.ensures)

pub returns : goal.returns
returns c = rw c.access_of.ensures (recorded_read c.args.bytes.now c.args.expected (sym c.in_ok-checks.ensures))
