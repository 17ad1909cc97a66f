-- `interrupt_access::write` meets its contract: refused by its checks, or done with the effect of its row.
use Rattle.std.proofs.Common.{refl}
use Rattle.model.specs.Accesses as model
use Rattle.access.specs.Laws.{passed_number}
use Rattle.card.specs.Laws.{refused_did, done_did}
use Rattle.interrupt_access.proofs.write.Goals as goal

pub returns-in-Err : goal.returns-in-Err
returns-in-Err c =
    let a = c.args in
    λ m w. rw c.refused.ensures (refused_did model.interrupt_write a.card a.q m w _ _ c.in-Err.is c.value_only.ensures)

pub returns : goal.returns
returns c =
    let a = c.args in
    λ m w. done_did model.interrupt_write a.card a.q m w _ (passed_number c.in_default.is c.value_only.ensures) refl c.write_register.ensures
