-- `memory_access::window_write` meets its contract: refused by its checks; past them the four bytes lie in the window, and the dword is stored as the row says.
use Rattle.std.proofs.Common.{refl}
use Rattle.card.specs.Bridge.{state_as}
use Rattle.access.specs.Laws.{passed_number}
use Rattle.card.specs.Laws.{refused_did, stored_did}
use Rattle.memory_access.proofs.window_write.Goals as goal

pub returns-in-Err : goal.returns-in-Err
unfolding state_as
returns-in-Err c = λ m. rw c.refused.ensures (refused_did _ _ _ _ _ _ _ c.in-Err.is c.check_window.ensures)

pub returns : goal.returns
unfolding state_as
returns c =
    λ m. rw c.done.ensures (stored_did _ _ _ _ _ _ _ _ (passed_number c.in_default.is c.check_window.ensures)
    (record { effected = record { answer = refl; state = refl }; memories = record { shared = refl; window = rw (c.write_dword.ensures, c.offset.ensures) } }))
