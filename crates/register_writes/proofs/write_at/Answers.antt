-- `register_writes::write_at` meets its contract: each arm of the match is a row of the table.
use Rattle.model.specs.Accesses as words
use Rattle.card.specs.Laws.{did_asked}
use Rattle.register_writes.proofs.write_at.Goals as goal

pub returns-in-Port : goal.returns-in-Port
returns-in-Port c = λ w. rw c.in-Port.is (did_asked words.put _ _ _ w _ c.asked.ensures (c.put.ensures _ w))

pub returns-in-DmaRegister : goal.returns-in-DmaRegister
returns-in-DmaRegister c = λ w. rw c.in-DmaRegister.is (c.write.ensures _ w)

pub returns-in-Dmactl : goal.returns-in-Dmactl
returns-in-Dmactl c = λ w. rw c.in-Dmactl.is (c.write_control.ensures _ w)

pub returns-in-Arbutil : goal.returns-in-Arbutil
returns-in-Arbutil c = λ w. rw c.in-Arbutil.is (c.write-in-Arbutil.ensures _ w)

pub returns-in-InterruptsOf : goal.returns-in-InterruptsOf
returns-in-InterruptsOf c = λ w. rw c.in-InterruptsOf.is (c.write_interrupts.ensures _ w)

pub returns-in-MailFrom : goal.returns-in-MailFrom
returns-in-MailFrom c = λ w. rw c.in-MailFrom.is (c.write_mail.ensures _ w)

pub returns-in-SharedAt : goal.returns-in-SharedAt
returns-in-SharedAt c = λ w. rw c.in-SharedAt.is (did_asked words.shared_write _ _ _ w _ c.asked-in-SharedAt.ensures (c.shared_write.ensures w))
