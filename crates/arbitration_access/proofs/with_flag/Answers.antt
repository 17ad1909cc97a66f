-- `arbitration_access::with_flag` meets its contract: a flag of the part changed is a flag of the card changed.
use Rattle.model.specs.Sides.{side_of}
use Rattle.arbitration_access.specs.Laws.{flag_set}
use Rattle.arbitration_access.proofs.with_flag.Goals as goal

pub returns : goal.returns
returns c =
    let a = c.args in
    flag_set a.card a.i (side_of a.side) a.set c.with.result _ c.with.ensures c.with_arbitration.ensures
