-- A turn that goes on is followed by one that has scanned one chunk more.
use Rattle.std.proofs.Common.{◌≡◌, refl, sym, ◌∙◌, arith, rules}
use Rattle.model.proofs.TestLaws.{no_both}
use Rattle.stream.specs.Laws.{none_behind, one_behind, ended_early}
use Rattle.rescuer.specs.Bridge.{first_turn}
use Rattle.rescuer.specs.Laws.{first_going, none_yet, more_going, chunk_more, ended}
use Rattle.rescuer.proofs.rescue_input.Goals as goal

pub loop-init : goal.loop-init
loop-init c =
    let first : c.first-turn.result ≡ first_turn = c.first-turn.ensures ∙ rw (c.start.ensures, c.none.ensures) in
    record {
      input = search rules;
      out = search rules;
      run = rw first (omega arith);
      behind = rw first (none_behind _ refl (none_yet c.args.input.now, first_going));
    }

pub loop-preserved : goal.loop-preserved
loop-preserved c =
    let l = c.loop in
    let turn = c.rescue_next-turn in
    let on = l.invariant.behind.on (sym c.goes_on-on.ensures ∙ c.if-not-on.false) in
    record {
      input = search rules;
      out = search rules;
      run = omega (arith, turn.ensures.run_bound_2, l.invariant.run);
      behind = one_behind l.counter turn.result (λ m. (chunk_more m turn.ensures.turned on.0, more_going m turn.ensures.turned))
          (record { before = l.counter; counted = refl; stood = _; reached = on.0; last = turn.ensures.turned });
    }

pub returns-then-not-on-clause-ended : goal.returns-then-not-on-clause-ended
returns-then-not-on-clause-ended c =
    let m = sym c.goes_on-on.ensures ∙ c.if-not-on.true in
    ended (ended_early c.loop.invariant.behind m) (λ n. no_both (sym m ∙ n))

pub returns-clause-ended : goal.returns-clause-ended
returns-clause-ended c = ended (c.loop.invariant.behind.last (λ z. absurd (omega arith))) (λ m. omega arith)

pub rescue_next-turn-requires-clause-going : goal.rescue_next-turn-requires-clause-going
rescue_next-turn-requires-clause-going c = (c.loop.invariant.behind.on (sym c.goes_on-on.ensures ∙ c.if-not-on.false)).1
