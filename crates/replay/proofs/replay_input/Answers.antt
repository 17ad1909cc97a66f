-- None is read before the first turn; a turn that goes on is followed by one that has read one full chunk more.
use Rattle.std.proofs.Common.{rules, refl, sym, ◌≡◌, ap, ◌∙◌, arith, length}
use Rattle.standing.specs.Bridge.{standing_as}
use Rattle.stream.specs.Bridge.{chunk_bytes}
use Rattle.stream.specs.Laws.{none_behind, one_behind, ended_early}
use Rattle.model.specs.Replay.{Standing}
use Rattle.model.proofs.TestLaws.{no_both}
use Rattle.sealed_turn.specs.Bridge.{Turn}
use Rattle.replay.specs.Laws.{none_yet, chunk_more, ended}
use Rattle.replay.proofs.replay_input.Goals as goal

pub loop-init : goal.loop-init
loop-init c =
    let a = c.args in
    let first = c.first-turn.ensures in
    let now = ap (λ (t : Turn). standing_as t.work.standing a.shared.now a.window.now) first ∙ c.requires in
    record {
      input = search rules;
      out = search rules;
      count = omega (arith, ap (λ (s : Standing). s.count) now);
      behind = none_behind c.first-turn.result.went (ap (λ (t : Turn). t.more) first) (none_yet now);
    }

pub loop-preserved : goal.loop-preserved
loop-preserved c =
    let l = c.loop in
    let turned = c.replay_chunk-turn in
    let reached = l.invariant.behind.on (sym c.goes_on-on.ensures ∙ c.if-not-on.false) in
    let input : length turned.new.input ≡ chunk_bytes = search rules in
    record {
      input = input;
      out = search rules;
      count = omega (arith, turned.ensures.count_bound_2, l.invariant.count);
      behind = one_behind l.counter turned.result.went (λ m. chunk_more input m reached turned.ensures.turned)
          (record { before = l.counter; counted = refl; start = _; reached = reached; last = turned.ensures.turned });
    }

pub returns-then-not-on : goal.returns-then-not-on
returns-then-not-on c =
    let m = sym c.goes_on-on.ensures ∙ c.if-not-on.true in
    ended (ended_early c.loop.invariant.behind m) (λ n. no_both (sym m ∙ n))

pub returns : goal.returns
returns c = ended (c.loop.invariant.behind.last (λ z. absurd (omega arith))) (λ m. omega arith)
