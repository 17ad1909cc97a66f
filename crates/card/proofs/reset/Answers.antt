-- `card::reset` meets its contract: refused by its checks, or done with the effect of its row.
use Rattle.std.proofs.Common.{refl}
use Rattle.access.specs.Laws.{passed_number}
use Rattle.card.specs.Bridge.{state_as}
use Rattle.card.specs.Laws.{refused_did, done_did}
use Rattle.card.proofs.reset.Goals as goal

pub returns-in-Err : goal.returns-in-Err
returns-in-Err c = λ m w. rw c.refused.ensures (refused_did _ _ _ _ _ _ _ c.in-Err.is c.no_field.ensures)

pub returns : goal.returns
unfolding state_as
returns c =
    λ m w. rw c.done.ensures (done_did _ _ _ _ _ _ (passed_number c.in_default.is c.no_field.ensures) refl (record { answer = refl; state = c.fresh.ensures }))
