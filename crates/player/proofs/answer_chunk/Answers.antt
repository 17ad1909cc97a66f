-- Each case of a turn by what the reader said: nothing more of the text is left, or the rest of it behind this record's line.
use Rattle.std.proofs.Common.{ℕ, refl, ap, ◌∙◌, arith, length, length-append}
use Rattle.std.specs.declared.slice.Chunks.{Chunks}
use Rattle.model.proofs.ReplayLaws.{replay_stopped}
use Rattle.standing.specs.Bridge.{standing_as, performed_as}
use Rattle.standing.specs.Laws.{counted, stop_counted}
use Rattle.standing.specs.Records.{cut_of, none_cut}
use Rattle.player.specs.Laws.{all_left, none_left, answered_left, refused_left, read_refused}
use Rattle.player.proofs.answer_chunk.Goals as goal

pub returns-then-start-clause-played : goal.returns-then-start-clause-played
returns-then-start-clause-played c =
    let a = c.args in
    let none = replay_stopped (standing_as a.start a.shared.now a.window.now) a.input.now c.if-start.true in
    record { text = rw none (record { place = refl; bytes = refl }); standing = rw none }

pub loop-record-init : goal.loop-record-init
loop-record-init c =
    let a = c.args in
    let rest = ap (λ (i : Chunks ℕ). i.rest.now) c.into_iter-record-iterator.ensures.into_iter_gives ∙ c.chunks-record-items.ensures.rest in
    let size = ap (λ (i : Chunks ℕ). i.size) c.into_iter-record-iterator.ensures.into_iter_gives ∙ c.chunks-record-items.ensures.size in
    record {
      size = size;
      room = rw rest (omega (arith, c.requires.input_in_bounds));
      count = rw rest (omega arith);
      going = c.if-start.false;
      left = rw rest (all_left (standing_as a.start a.shared.now a.window.now) a.input.now a.out.now);
    }

pub returns-in_default-clause-played : goal.returns-in_default-clause-played
returns-in_default-clause-played c =
    let l = c.loop-record in
    let cut = (cut_of l.record-iterator c.next.new.self c.in-Some.record c.in-Some.ensures.steps l.invariant.size).1 in
    let refused = read_refused c.in_default.is c.refusal_number.ensures ∙ c.read_record-read.ensures in
    let played = refused_left (standing_as l.standing l.shared l.window) l.invariant.going cut c.refusal_number.result refused c.write_log-end.ensures.written l.invariant.left in
    rw (c.stop.ensures l.shared l.window) played

pub returns-in_default-clause-end_in_bounds : goal.returns-in_default-clause-end_in_bounds
returns-in_default-clause-end_in_bounds c =
    let l = c.loop-record in
    let cut = (cut_of l.record-iterator c.next.new.self c.in-Some.record c.in-Some.ensures.steps l.invariant.size).1 in
    omega (arith, cut.some, l.invariant.room, c.write_log-end.ensures.upper_bound)

pub returns-in_default-clause-count_bound : goal.returns-in_default-clause-count_bound
returns-in_default-clause-count_bound c = omega (arith, stop_counted _ c.loop-record.standing c.stop.ensures, c.loop-record.invariant.count)

pub loop-record-preserved : goal.loop-record-preserved
loop-record-preserved c =
    let l = c.loop-record in
    let step = cut_of l.record-iterator c.next.new.self c.in-Some.record c.in-Some.ensures.steps l.invariant.size in
    let cut = step.1 in
    let size = ap length cut.is in
    let sum = length-append c.in-Some.record.now c.next.new.self.rest.now in
    let q = rw c.in-Ok.is at c.read_record-read.ensures in
    let left = answered_left (standing_as l.standing l.shared l.window) l.invariant.going cut (performed_as c.perform-performed.result _ _) q c.perform-performed.ensures c.write_answer-end.ensures.written l.invariant.left in
    let count = counted c.perform-performed.result l.standing _ _ _ _ _ c.perform-performed.ensures in
    record {
      size = step.0;
      room = omega (arith, size, sum, cut.size, cut.some, c.write_answer-end.ensures.upper_bound, l.invariant.room);
      count = omega (arith, size, sum, cut.size, cut.some, count.0, l.invariant.count);
      going = count.1 ∙ l.invariant.going;
      left = left;
    }

pub returns-clause-played : goal.returns-clause-played
returns-clause-played c = none_left (none_cut c.loop-record.record-iterator c.next.new.self c.in-None.ensures.steps) c.loop-record.invariant.left
