-- `fifo_access::take` meets its contract: refused by its checks, or done with the effect of its row.
use Rattle.std.proofs.Common.{◌≡◌, []}
use Rattle.model.specs.Checks.{refusal}
use Rattle.model.specs.Fifos.{entries_of}
use Rattle.model.specs.Accesses as model
use Rattle.model.specs.Accesses.{row_of}
use Rattle.access.specs.Bridge.{access_as, refusal_as}
use Rattle.access.specs.Laws.{passed_number}
use Rattle.card.specs.Bridge.{state_as, world_as}
use Rattle.card.specs.Laws.{refused_did, done_did}
use Rattle.fifo_access.specs.Laws.{taken_stores}
use Rattle.fifo_access.proofs.take.Goals as goal

pub returns-in-Err : goal.returns-in-Err
returns-in-Err c =
    let a = c.args in
    λ m w. rw c.refused.ensures (refused_did model.take a.card a.q m w _ _ c.in-Err.is (rw (c.fifo_checks.ensures, c.taker.ensures, c.nonzero.ensures)))

pub returns : goal.returns
returns c =
    let a = c.args in
    let row : refusal_as c.fifo_checks.result ≡ refusal (row_of model.take (world_as a.card [] []) (access_as a.q)).checks = rw (c.fifo_checks.ensures, c.taker.ensures, c.nonzero.ensures) in
    λ m w. done_did model.take a.card a.q m w _ (passed_number c.in_default.is row) (taken_stores a.q.s (entries_of (state_as a.card).fifos a.q.s)) c.take_entry.ensures
