-- A turn that goes on is followed by one that has turned one chunk more.
use Rattle.std.proofs.Common.{refl, sym, ◌∙◌, arith, rules}
use Rattle.model.proofs.TestLaws.{no_both}
use Rattle.stream.specs.Laws.{none_behind, one_behind, ended_early}
use Rattle.converter.specs.Laws.{first_going, none_yet, more_going, chunk_more, ended}
use Rattle.converter.proofs.convert_input.Goals as goal

pub loop-init : goal.loop-init
loop-init c =
    let first = c.first-turn.ensures in
    record {
      input = search rules;
      out = search rules;
      count = rw first (omega arith);
      behind = rw first (none_behind _ refl (none_yet c.args.from c.args.input.now, first_going));
    }

pub loop-preserved : goal.loop-preserved
loop-preserved c =
    let l = c.loop in
    let turn = c.convert_next-turn in
    let on = l.invariant.behind.on (sym c.goes_on-on.ensures ∙ c.if-not-on.false) in
    record {
      input = search rules;
      out = search rules;
      count = omega (arith, turn.ensures.count_bound_2, l.invariant.count);
      behind = one_behind l.counter turn.result (λ m. (chunk_more m turn.ensures.turned on.0, more_going m turn.ensures.turned))
          (record { before = l.counter; counted = refl; place = _; reached = on.0; last = turn.ensures.turned });
    }

pub returns-then-not-on-clause-ended : goal.returns-then-not-on-clause-ended
returns-then-not-on-clause-ended c =
    let m = sym c.goes_on-on.ensures ∙ c.if-not-on.true in
    ended (ended_early c.loop.invariant.behind m) (λ n. no_both (sym m ∙ n))

pub returns-clause-ended : goal.returns-clause-ended
returns-clause-ended c = ended (c.loop.invariant.behind.last (λ z. absurd (omega arith))) (λ m. omega arith)

pub convert_next-turn-requires-clause-going : goal.convert_next-turn-requires-clause-going
convert_next-turn-requires-clause-going c = (c.loop.invariant.behind.on (sym c.goes_on-on.ensures ∙ c.if-not-on.false)).1
