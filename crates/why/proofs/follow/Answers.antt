-- A record that is refused stops the replay; one that is taken gives the next reason; and at the end the reason of all records is the answer.
use Rattle.std.proofs.Common.{ℕ, ◌<◌, ◌≤◌, ◌*◌, sym, ap, ◌∙◌, arith, length, length-drop, drop-drop, ltb-false}
use Rattle.std.specs.declared.slice.Chunks.{Chunks}
use Rattle.model.specs.Why.{places, told}
use Rattle.standing.specs.Bridge.{standing_as, performed_as}
use Rattle.standing.specs.Records.{cut_of, none_cut, cut_reads, cut_rest}
use Rattle.why.specs.Laws.{all_ahead, one_explained, refused_there, all_explained, few_shown, few_puts, entries_held, why_refused, why_because}
use Rattle.why.proofs.follow.Goals as goal

pub loop-record-init : goal.loop-record-init
loop-record-init c =
    let zeroed = c.requires.shared_value in
    let gives = c.into_iter-record-iterator.ensures.into_iter_gives in
    let start = c.start-standing.ensures in
    let s = standing_as c.start-standing.result c.args.shared.now c.args.window.now in
    let half = all_ahead c.requires.side_value.1 s c.start-history.result (rw (zeroed.0, zeroed.1) start) c.start-history.ensures in
    record {
      size = ap (λ (i : Chunks ℕ). i.size) gives ∙ c.chunks-record-items.ensures.size;
      rest = rw (← half.place) (ap (λ (i : Chunks ℕ). i.rest.now) gives ∙ c.chunks-record-items.ensures.rest);
      half = rw (← half.place) half;
    }

pub returns-in_default : goal.returns-in_default
returns-in_default c =
    let a = c.args in
    let r = c.requires.side_value in
    let l = c.loop-record in
    let half = l.invariant.half in
    let at = 20 * l.standing.count in
    let rest = l.invariant.rest in
    let cut = (cut_of l.record-iterator c.next.new.self c.in-Some.record c.in-Some.ensures.steps l.invariant.size).1 in
    let there : at < length a.trace.now = omega (arith, cut.some, ap length rest, length-drop at a.trace.now) in
    let read = rw rest at (cut_reads l.record-iterator.rest.now c.in-Some.record.now c.next.new.self.rest.now l.standing.expected cut) in
    let stopped = refused_there r.1 half _ there (rw c.in_default.is at c.read_record.ensures ∙ sym read) in
    ap told (sym (why_refused a.trace.now a.side a.position r.0 r.1 r.2 stopped))

pub after-history-requires : goal.after-history-requires
after-history-requires c =
    rw c.look-shown.ensures (few_shown c.requires.side_value.1 c.loop-record.invariant.half _ (performed_as c.perform.result _ _) c.perform.ensures)

pub loop-record-preserved : goal.loop-record-preserved
loop-record-preserved c =
    let a = c.args in
    let r = c.requires.side_value in
    let l = c.loop-record in
    let half = l.invariant.half in
    let at = 20 * l.standing.count in
    let rest = l.invariant.rest in
    let step = cut_of l.record-iterator c.next.new.self c.in-Some.record c.in-Some.ensures.steps l.invariant.size in
    let cut = step.1 in
    let there : at < length a.trace.now = omega (arith, cut.some, ap length rest, length-drop at a.trace.now) in
    let read = rw rest at (cut_reads l.record-iterator.rest.now c.in-Some.record.now c.next.new.self.rest.now l.standing.expected cut) in
    let q = rw c.in-Ok.is at c.read_record.ensures ∙ sym read in
    let next = rw (half.number, c.look-shown.ensures) at c.after-history.ensures in
    let done = one_explained r.1 half (performed_as c.perform.result _ _) there q c.perform.ensures (ltb-false 81920 (length a.trace.now) r.2) next in
    let more = rw rest at (cut_rest l.record-iterator.rest.now c.in-Some.record.now c.next.new.self.rest.now cut) in
    record {
      size = step.0;
      rest = rw (← done.place) (sym more ∙ drop-drop 20 at a.trace.now);
      half = rw (← done.place) done;
    }

pub told-requires : goal.told-requires
told-requires c = few_puts c.requires.side_value.1 c.loop-record.invariant.half

pub returns : goal.returns
returns c =
    let a = c.args in
    let r = c.requires.side_value in
    let l = c.loop-record in
    let half = l.invariant.half in
    let at = 20 * l.standing.count in
    let none = none_cut l.record-iterator c.next.new.self c.in-None.ensures.steps in
    let end : length a.trace.now ≤ at = omega (arith, none, ap length l.invariant.rest, length-drop at a.trace.now) in
    let all = all_explained r.1 half end in
    c.told.ensures half.reason half.knows (c.entries.ensures ∙ ap places (sym (entries_held half.agrees)))
    ∙ ap told (sym (why_because a.trace.now a.side a.position r.0 r.1 r.2 half.reason all))
