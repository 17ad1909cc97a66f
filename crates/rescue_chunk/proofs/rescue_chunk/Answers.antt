-- Each turn writes one record more with what was skipped before it: the moves done, and those of the bytes from `at` on, are all.
use Rattle.std.proofs.Common.{refl, arith}
use Rattle.rescue_chunk.specs.Bridge.{at_first}
use Rattle.rescue_chunk.specs.Laws.{none_done, all_done}
use Rattle.rescue_chunk.proofs.rescue_chunk.Goals as goal

pub loop-s-init : goal.loop-s-init
loop-s-init c =
    let a = c.args in
    (refl, omega arith, omega arith, c.requires.small, omega arith, none_done a.output a.least (at_first a.place a.tally) a.input.now a.out.now refl)

pub returns : goal.returns
returns c =
    let i = c.loop-s.invariant in
    record {
      wrote = all_done i.5 c.requires.le_least (omega arith);
      within = (i.1, omega (arith, i.1, i.2));
      place = i.4;
      small = i.3;
    }
