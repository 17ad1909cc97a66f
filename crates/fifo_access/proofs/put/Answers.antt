-- `fifo_access::put` meets its contract: refused by its checks, or done with the effect of its row.
use Rattle.std.proofs.Common.{◌≡◌, []}
use Rattle.model.specs.Checks.{refusal}
use Rattle.model.specs.Sides.{side_of}
use Rattle.model.specs.Fifos.{entries_of}
use Rattle.model.specs.Accesses as model
use Rattle.model.specs.Accesses.{row_of}
use Rattle.access.specs.Bridge.{access_as, refusal_as}
use Rattle.access.specs.Laws.{passed_number}
use Rattle.card.specs.Bridge.{state_as, world_as}
use Rattle.card.specs.Laws.{refused_did, done_did}
use Rattle.fifo_access.specs.Laws.{put_stores}
use Rattle.fifo_access.proofs.put.Goals as goal

pub returns-in-Err : goal.returns-in-Err
returns-in-Err c =
    let a = c.args in
    λ m w. rw c.refused.ensures (refused_did model.put a.card a.q m w _ _ c.in-Err.is (rw (c.fifo_checks.ensures, c.putter.ensures, c.nonzero.ensures)))

pub returns : goal.returns
returns c =
    let a = c.args in
    let row : refusal_as c.fifo_checks.result ≡ refusal (row_of model.put (world_as a.card [] []) (access_as a.q)).checks = rw (c.fifo_checks.ensures, c.putter.ensures, c.nonzero.ensures) in
    λ m w. done_did model.put a.card a.q m w _ (passed_number c.in_default.is row) (put_stores (side_of a.q.side) a.q.s (entries_of (state_as a.card).fifos a.q.s) a.q.b) c.put_entry.ensures
