-- `register_writes::write_mail` meets its contract: kind 9 for the side that writes it, 5 for the other.
use Rattle.std.proofs.Common.{sym, ◌∙◌}
use Rattle.model.specs.Sides.{side_of}
use Rattle.model.specs.Accesses as words
use Rattle.card.specs.Laws.{did_asked}
use Rattle.register_writes.specs.Laws.{only_done}
use Rattle.register_writes.proofs.write_mail.Goals as goal

pub returns : goal.returns
returns c =
    let a = c.args in
    λ m w. only_done a.card m w (side_of a.writer) (side_of a.side) _ (sym c.wrong_side.ensures ∙ c.if-wrong_side.false)
    (did_asked words.mailbox_write a.card _ m w _ c.asked.ensures (c.write.ensures m w))
