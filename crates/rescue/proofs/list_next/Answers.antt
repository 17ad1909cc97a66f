-- By whether a record stands ahead: then it is listed behind what was skipped, or one of the two has no room.
use Rattle.std.proofs.Common.{rules, ◌≡◌, ◌<◌, length, refl, Err, arith}
use Rattle.model.proofs.LaneLaws.{from_place}
use Rattle.rescue.specs.Laws.{half_skipped, half_listed, range_full, kept_full}
use Rattle.rescue.proofs.list_next.Goals as goal

pub returns-then-next-end-clause-by_index : goal.returns-then-next-end-clause-by_index
returns-then-next-end-clause-by_index c = λ before h. half_skipped c.next_record-next.ensures h (rw c.skip-place.ensures) refl refl

pub returns-in_err-ranged-clause-by_index : goal.returns-in_err-ranged-clause-by_index
returns-in_err-ranged-clause-by_index c =
    let ahead = c.next_record-next.ensures in
    let next = c.next_record-next.result in
    let there : next < length c.args.trace.now = omega (arith, ahead.within, c.if-next-end.false) in
    let full : c.from_residual.result ≡ Err c.in_err-ranged.field-0.0 = search rules in
    λ before h. rw full (range_full ahead h there ((rw c.skip-place.ensures at c.in_err-ranged.ensures.by_index) before h.es h.holds))

pub returns-in_err-count-clause-by_index : goal.returns-in_err-count-clause-by_index
returns-in_err-count-clause-by_index c =
    let ahead = c.next_record-next.ensures in
    let next = c.next_record-next.result in
    let there : next < length c.args.trace.now = omega (arith, ahead.within, c.if-next-end.false) in
    let told = rw (from_place c.args.trace.now next) at c.record_number-number.ensures in
    let full : c.from_residual-in_err-count.result ≡ Err c.in_err-count.field-0.0 = search rules in
    let kept = rw c.skip-place.ensures at c.kept.ensures in
    λ before h.
    let ranged = (rw c.skip-place.ensures at c.in_ok-ranged.ensures.by_index) before h.es h.holds in
    rw full (kept_full ahead h there told (rw kept at (c.in_err-count.ensures.by_index before _ ranged)))

pub returns-clause-by_index : goal.returns-clause-by_index
returns-clause-by_index c =
    let ahead = c.next_record-next.ensures in
    let next = c.next_record-next.result in
    let there : next < length c.args.trace.now = omega (arith, ahead.within, c.if-next-end.false) in
    let told = rw (from_place c.args.trace.now next) at c.record_number-number.ensures in
    let kept = rw c.skip-place.ensures at c.kept.ensures in
    λ before h.
    let ranged = (rw c.skip-place.ensures at c.in_ok-ranged.ensures.by_index) before h.es h.holds in
    half_listed ahead h there told (rw (c.keep.ensures, c.skip-place.ensures)) refl (rw kept at (c.in_ok-count.ensures.by_index before _ ranged))
