-- A turn of the loop turns one access: what is left of the chunk's output and place is the conversion of the bytes from `at` on.
use Rattle.std.proofs.Common.{arith, rules}
use Rattle.model.proofs.LaneLaws.{from_place}
use Rattle.convert.specs.Laws.{readable, none_left, one_less, refused_left}
use Rattle.convert.proofs.convert_chunk.Goals as goal

pub returns-in_default-clause-chunk_turned : goal.returns-in_default-clause-chunk_turned
returns-in_default-clause-chunk_turned c =
    let l = c.loop-turned in
    let t = rw (from_place c.args.input.now l.turned.at) at c.turn_one-step.ensures.turned in
    refused_left (readable c.args.from) c.requires.le_least l.invariant.5 c.loop-turned-test.true t c.in_default.is (omega (arith, t.room))

pub loop-turned-preserved : goal.loop-turned-preserved
loop-turned-preserved c =
    let l = c.loop-turned in
    let t = rw (from_place c.args.input.now l.turned.at) at c.turn_one-step.ensures.turned in
    (search rules, search rules, search rules, search rules, search rules, one_less (readable c.args.from) c.requires.le_least l.invariant.5 c.loop-turned-test.true t c.in-Some.is)

pub returns-clause-chunk_turned : goal.returns-clause-chunk_turned
returns-clause-chunk_turned c =
    let l = c.loop-turned in
    let none = none_left (readable c.args.from) c.requires.le_least l.invariant.5 c.loop-turned-test.false l.invariant.1 (omega (arith, l.invariant)) in
    record { output = none.output; place = rw l.invariant.4 none.place; within = none.within }
