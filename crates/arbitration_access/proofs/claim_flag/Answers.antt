-- `arbitration_access::claim_flag` meets its contract: won and lost as the other side's flag tells.
use Rattle.model.specs.Sides.{side_of}
use Rattle.arbitration_access.specs.Laws.{claim_lost, claim_won}
use Rattle.arbitration_access.proofs.claim_flag.Goals as goal

pub returns-then-other : goal.returns-then-other
returns-then-other c =
    let a = c.args in
    rw c.done.ensures (claim_lost a.card a.i (side_of a.side) _ c.other.ensures c.if-other.true)

pub returns : goal.returns
returns c =
    let a = c.args in
    rw c.done-2.ensures (claim_won a.card a.i (side_of a.side) _ c.other.ensures c.with_flag.result c.if-other.false c.with_flag.ensures)
