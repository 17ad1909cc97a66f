-- By what is written: the line of the entry, or the record.
use Rattle.std.proofs.Common.{arith}
use Rattle.model.specs.Trace.{number_after, access_at}
use Rattle.convert.specs.Laws.{record_written}
use Rattle.rescue_chunk.proofs.write_kept.Goals as goal

pub returns-in-Records-clause-written : goal.returns-in-Records-clause-written
returns-in-Records-clause-written c =
    let a = c.args in
    let wrote = rw (c.number_after.ensures, c.access_of.ensures) at c.write_record.ensures in
    rw c.in-Records.is
    (record_written (number_after a.s.tally.kept) (access_at a.bytes.now) a.out.now c.write_record.new.out a.s.end c.write_record.result (omega arith) wrote)
