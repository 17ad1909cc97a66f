-- `memory_access::shared_write` meets its contract: refused by its checks; past them the four bytes lie in the memory, and the dword is stored as the row says.
use Rattle.std.proofs.Common.{refl}
use Rattle.access.specs.Laws.{passed_number}
use Rattle.card.specs.Laws.{refused_did, stored_did}
use Rattle.memory_access.proofs.shared_write.Goals as goal

pub returns-in-Err : goal.returns-in-Err
returns-in-Err c = λ w. rw c.refused.ensures (refused_did _ _ _ _ _ _ _ c.in-Err.is c.check_shared.ensures)

pub returns : goal.returns
returns c =
    λ w. rw c.done.ensures (stored_did _ _ _ _ _ _ _ _ (passed_number c.in_default.is c.check_shared.ensures)
    (record { effected = record { answer = refl; state = refl }; memories = record { shared = c.write_dword.ensures; window = refl } }))
