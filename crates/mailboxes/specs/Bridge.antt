-- The code's mailboxes in the model's words.
use Rattle.model.specs.Mailboxes as model
use Rattle.mailboxes.specs.declared.Mailboxes.{Mailboxes}

abbrev pub mailboxes_as : Mailboxes → model.Mailboxes
mailboxes_as m = record { hldata = m.hldata; lhdata = m.lhdata; lhwritten = m.lhwritten }
