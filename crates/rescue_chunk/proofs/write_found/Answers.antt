-- What was skipped and then the record are written and counted, each by what its function promises.
use Rattle.std.proofs.Common.{refl, ap, arith}
use Rattle.model.specs.RescueText.{Tally}
use Rattle.scan.specs.declared.Place.{Place}
use Rattle.rescue_chunk.specs.Laws.{ranged, small_behind, record_wrote}
use Rattle.rescue_chunk.proofs.write_found.Goals as goal

pub with-requires : goal.with-requires
with-requires c =
    let s = c.args.s in
    let small = c.requires.small in
    let fits = c.requires.run_bound in
    let behind = ranged s.place s.tally c.tally_range.result c.tally_range.ensures in
    rw c.kept.ensures (record { kept = omega (arith, small.kept, fits); doubtful = omega (arith, small.doubtful, fits); skipped = omega (arith, small.skipped, fits) })

pub returns-clause-wrote : goal.returns-clause-wrote
returns-clause-wrote c =
    let tally = rw c.kept.ensures at c.with.ensures in
    record_wrote c.args.output c.args.bytes.now c.record_number-number.ensures (ap (λ (t : Tally). t.kept) c.tally_range.ensures)
    c.write_range.ensures.written c.write_kept.ensures.written (rw c.keep.ensures) (rw c.tally_range.ensures at tally) refl

pub returns-clause-further : goal.returns-clause-further
returns-clause-further c =
    let s = c.args.s in
    let tally = rw c.kept.ensures at c.with.ensures in
    record {
      at = omega arith;
      end = omega (arith, c.write_range.ensures.upper_bound, c.write_kept.ensures.upper_bound);
      place = rw c.keep.ensures (omega arith);
      small = small_behind s.place s.tally c.tally_range.result c.tally_range.ensures c.record_number-number.result c.requires.small tally (ap (λ (p : Place). p.from) c.keep.ensures);
    }
