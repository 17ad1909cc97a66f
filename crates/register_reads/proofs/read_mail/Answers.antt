-- `register_reads::read_mail` meets its contract: kind 10 for the side that it goes to, the data alone for the side that writes it.
use Rattle.std.proofs.Common.{sym, ◌∙◌}
use Rattle.model.specs.Sides.{side_of}
use Rattle.model.specs.Accesses as words
use Rattle.card.specs.Laws.{did_asked}
use Rattle.register_reads.specs.Laws.{mail_read, own_mail}
use Rattle.register_reads.proofs.read_mail.Goals as goal

pub returns-then-wrong_side : goal.returns-then-wrong_side
returns-then-wrong_side c =
    let a = c.args in
    λ m w. mail_read a.card m w (side_of a.writer) (side_of a.side) a.dword (sym c.wrong_side.ensures ∙ c.if-wrong_side.true)
    (did_asked words.mailbox_read a.card _ m w _ c.asked.ensures (c.read.ensures m w))

pub returns : goal.returns
returns c =
    let a = c.args in
    λ m w. own_mail a.card m w (side_of a.writer) (side_of a.side) a.dword _ _ (sym c.wrong_side.ensures ∙ c.if-wrong_side.false) c.other_side.ensures.0 c.read-2.ensures (c.told.ensures m w)
