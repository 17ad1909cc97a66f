-- `mailbox_access::write_data` meets its contract: the data stored, and event 3 raised where bit 24 is set.
use Rattle.model.specs.Sides.{side_of}
use Rattle.mailbox_access.specs.Laws.{mail_rung, mail_quiet}
use Rattle.mailbox_access.proofs.write_data.Goals as goal

pub returns-then-value-eq1 : goal.returns-then-value-eq1
returns-then-value-eq1 c =
    let a = c.args in
    rw c.done.ensures (mail_rung a.card c.with_mailboxes-stored.result (side_of a.side) a.value c.write.result c.write.ensures c.with_mailboxes-stored.ensures _ _ c.raise-raised.result c.if-value-eq1.true c.other_side.ensures.0 c.raise-raised.ensures c.with_interrupts.ensures)

pub returns : goal.returns
returns c =
    let a = c.args in
    rw c.done-2.ensures (mail_quiet a.card c.with_mailboxes-stored.result (side_of a.side) a.value c.write.result c.write.ensures c.with_mailboxes-stored.ensures c.if-value-eq1.false)
