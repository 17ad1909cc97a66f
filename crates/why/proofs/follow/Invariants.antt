-- A turn of the loop does one record: the reason of the records done is known, and what is left of the trace gives the whole one.
use Rattle.std.proofs.Common.{◌≡◌, ◌*◌, drop}
use Rattle.model.specs.Sides.{side_of}
use Rattle.standing.specs.Bridge.{standing_as}
use Rattle.why.specs.Laws.{Half}
use Rattle.why.proofs.follow.Given as goal

abbrev pub invariant-loop-record : goal.invariant-loop-record
invariant-loop-record l =
    let at = 20 * l.standing.count in
    record {
      size : l.record-iterator.size ≡ 20;
      rest : l.record-iterator.rest.now ≡ drop at l.trace;
      half : Half l.trace (side_of l.side) l.position (standing_as l.standing l.shared l.window) l.history at;
    }
