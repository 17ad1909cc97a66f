use Rattle.model.specs.Bursts.{writes}
use Rattle.phases.specs.Laws.{Walk}
use Rattle.phases.proofs.write_dwords.Given as goal

abbrev pub invariant-loop-i : goal.invariant-loop-i
invariant-loop-i l = Walk writes 3 l.start l.phases l.fn.shared l.shared l.d l.i
