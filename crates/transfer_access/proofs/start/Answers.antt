-- `transfer_access::start` meets its contract: refused by its checks, or done with the effect of its row.
use Rattle.std.proofs.Common.{◌≡◌, refl, ◌∙◌}
use Rattle.model.specs.Checks.{refusal}
use Rattle.model.specs.Accesses as model
use Rattle.model.specs.Accesses.{row_of}
use Rattle.access.specs.Bridge.{access_as, refusal_as}
use Rattle.access.specs.Laws.{passed_number}
use Rattle.card.specs.Bridge.{state_as, world_as}
use Rattle.card.specs.Laws.{refused_did, done_did}
use Rattle.transfer_access.proofs.start.Goals as goal

pub returns-in-Err : goal.returns-in-Err
unfolding state_as
returns-in-Err c = λ m w. rw c.refused.ensures (refused_did model.start _ _ m w _ _ c.in-Err.is (c.check_start.ensures ∙ rw c.is_idle.ensures))

pub returns : goal.returns
unfolding state_as
returns c =
    let a = c.args in
    λ m w.
    let row : refusal_as c.check_start.result ≡ refusal (row_of model.start (world_as a.card m w) (access_as a.q)).checks = c.check_start.ensures ∙ rw c.is_idle.ensures in
    done_did model.start _ _ m w _ (passed_number c.in_default.is row) refl c.begin.ensures
