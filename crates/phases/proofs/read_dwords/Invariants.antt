use Rattle.phases.specs.Laws.{Listing}
use Rattle.phases.proofs.read_dwords.Given as goal

abbrev pub invariant-loop-i : goal.invariant-loop-i
invariant-loop-i l = Listing 3 l.start l.phases l.shared l.fn.list l.list l.d l.i
