-- `arbitration_access::claim` meets its contract: refused by its checks, or done with the effect of its row.
use Rattle.model.specs.Accesses as model
use Rattle.model.specs.Arbitration.{pair_of}
use Rattle.model.specs.Sides.{side_of}
use Rattle.card.specs.Bridge.{state_as}
use Rattle.access.specs.Laws.{passed_number}
use Rattle.card.specs.Laws.{refused_did, done_did}
use Rattle.arbitration_access.specs.Laws.{claim_stores}
use Rattle.arbitration_access.proofs.claim.Goals as goal

pub returns-in-Err : goal.returns-in-Err
returns-in-Err c =
    let a = c.args in
    λ m w. rw c.refused.ensures (refused_did model.claim a.card a.q m w _ _ c.in-Err.is c.check_pair.ensures)

pub returns : goal.returns
returns c =
    let a = c.args in
    λ m w. done_did model.claim a.card a.q m w _ (passed_number c.in_default.is c.check_pair.ensures) (claim_stores (side_of a.q.side) a.q.s (pair_of (state_as a.card).arbitration a.q.s)) c.claim_flag.ensures
