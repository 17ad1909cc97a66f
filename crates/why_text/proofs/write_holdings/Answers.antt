-- One line more is stored, and one less is left.
use Rattle.std.proofs.Common.{◌≡◌, ◌≤◌, take, length, ap, arith, rules, length-take}
use Rattle.why_text.specs.Laws.{all_lines, line_less, no_lines}
use Rattle.why_text.proofs.write_holdings.Goals as goal

pub loop-entry-init : goal.loop-entry-init
loop-entry-init c =
    let es : length c.args.entries ≡ 32 = search rules in
    let rs : length c.args.records ≡ 32 = search rules in
    let size : c.args.count ≤ length c.args.entries = omega arith in
    let first : c.into_iter-entry-iterator.result.a.rest.now ≡ take c.args.count c.args.entries = search rules in
    let second : c.into_iter-entry-iterator.result.b.rest.now ≡ c.args.records = search rules in
    record {
      paired = rw (first, second) (omega (arith, length-take c.args.count c.args.entries));
      room = rw first (omega (arith, length-take c.args.count c.args.entries));
      lines = rw (first, second) (all_lines _ _ _ _ _ size);
    }

pub write_holding-p-requires : goal.write_holding-p-requires
write_holding-p-requires c = omega (arith, ap length c.in-Some.ensures.steps.0, c.loop-entry.invariant.room)

pub loop-entry-preserved : goal.loop-entry-preserved
loop-entry-preserved c =
    let es = c.in-Some.ensures.steps.0 in
    let rs = c.in-Some.ensures.steps.1 in
    record {
      paired = omega (arith, ap length es, ap length rs, c.loop-entry.invariant.paired);
      room = omega (arith, ap length es, c.loop-entry.invariant.room);
      lines = line_less _ _ _ es rs c.write_holding-p.ensures.written c.loop-entry.invariant.lines;
    }

pub returns-clause-written : goal.returns-clause-written
returns-clause-written c = no_lines _ _ _ _ _ (omega (arith, c.in-None.ensures.steps, c.loop-entry.invariant.paired)) c.loop-entry.invariant.lines
