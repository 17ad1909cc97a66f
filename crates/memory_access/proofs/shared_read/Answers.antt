-- `memory_access::shared_read` meets its contract: refused by its checks; past them the four bytes lie in the memory, and the dword is read as the row says.
use Rattle.std.proofs.Common.{refl}
use Rattle.access.specs.Laws.{passed_number}
use Rattle.card.specs.Laws.{unchanged, refused_did, done_did}
use Rattle.memory_access.proofs.shared_read.Goals as goal

pub returns-in-Err : goal.returns-in-Err
returns-in-Err c = λ w. rw c.refused.ensures (refused_did _ _ _ _ _ _ _ c.in-Err.is c.check_shared.ensures)

pub returns : goal.returns
returns c =
    λ w. rw c.done.ensures (done_did _ _ _ _ _ _ (passed_number c.in_default.is c.check_shared.ensures) refl (unchanged _ _ _ _ _ c.read_dword.ensures refl))
