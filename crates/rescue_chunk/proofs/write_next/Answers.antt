-- By whether a record stands ahead: the bytes up to it write nothing, and then it is written.
use Rattle.std.proofs.Common.{◌≡◌, refl, ap, ◌∙◌, ℕ, ◌+◌, ◌-◌, ◌≤◌, ◌<◌, length, drop, arith}
use Rattle.model.proofs.LaneLaws.{from_place}
use Rattle.scan.specs.declared.Place.{Place}
use Rattle.scan.specs.Bridge.{place_as}
use Rattle.scan.specs.Laws.{record_within, record_ahead}
use Rattle.rescue_chunk.specs.Laws.{record_size, half_more, wrote_then, skips_wrote}
use Rattle.rescue_chunk.proofs.write_next.Goals as goal

pub returns-then-next-to-clause-by_index : goal.returns-then-next-to-clause-by_index
returns-then-next-to-clause-by_index c =
    let a = c.args in
    let ahead = c.next_record-next.ensures in
    λ least first before g h.
    half_more h (ahead.passed least g)
    (skips_wrote a.output a.out.now (c.next_record-next.result - a.s.at) (ap place_as c.skip.ensures) refl refl (omega (arith, ahead.within)))

pub returns-clause-by_index : goal.returns-clause-by_index
returns-clause-by_index c =
    let a = c.args in
    let next = c.next_record-next.result in
    let ahead = c.next_record-next.ensures in
    let there : next < a.to = omega (arith, ahead.within, c.if-next-to.false) in
    let wrote = rw (from_place a.input.now next) at c.write_found.ensures.wrote in
    let at : c.write_found.result.at ≡ next + 20 = wrote.at ∙ ap (λ (n : ℕ). next + n) (record_size (drop next a.input.now)) in
    λ least first before g h.
    half_more h (rw at (record_ahead ahead least g there))
    (wrote_then (skips_wrote a.output a.out.now (next - a.s.at) (ap place_as c.skip.ensures) refl refl (omega (arith, ahead.within))) wrote)

pub returns-clause-further : goal.returns-clause-further
returns-clause-further c =
    let a = c.args in
    let next = c.next_record-next.result in
    let ahead = c.next_record-next.ensures in
    let there : next < a.to = omega (arith, ahead.within, c.if-next-to.false) in
    let inside : next + 20 ≤ length a.input.now = record_within ahead 0 (omega (arith, c.requires.at_lt_to)) there in
    let from = ap (λ (p : Place). p.from) c.skip.ensures in
    let run = ap (λ (p : Place). p.run) c.skip.ensures in
    let wrote = rw (from_place a.input.now next) at c.write_found.ensures.wrote in
    let at : c.write_found.result.at ≡ next + 20 = wrote.at ∙ ap (λ (n : ℕ). next + n) (record_size (drop next a.input.now)) in
    let goes = c.write_found.ensures.further in (
      record { at = omega (arith, ahead.within); end = omega (arith, goes.end, ahead.within); place = omega (arith, goes.place, ahead.within); small = goes.small },
      omega arith,
    )
