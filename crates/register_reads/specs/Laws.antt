-- A mailbox read by its offset: by the side that it goes to, or by the side that writes it.
use Rattle.std.specs.Prelude.{◌≡◌, true, false, List, ℕ, if◌then◌else◌}
use Rattle.std.proofs.Common.{ap, sym, subst, ◌∙◌}
use Rattle.model.specs.Sides.{Side, other, not_by}
use Rattle.model.specs.Mailboxes.{mail_for}
use Rattle.model.specs.Accesses.{Kind, row}
use Rattle.model.specs.RegisterMap.{mail_from}
use Rattle.model.specs.Registers.{plainly, read_row}
use Rattle.mailboxes.specs.Bridge.{mailboxes_as}
use Rattle.card.specs.declared.Card.{Card}
use Rattle.card.specs.declared.Outcome.{Outcome}
use Rattle.card.specs.Bridge.{state_as, world_as, Settles}
use Rattle.card.specs.Laws.{mailboxes_is}

module _ (c : Card) (m w : List ℕ) (writer side : Side) (d : ℕ) {r : Outcome} where
  pub mail_read : not_by writer side ≡ true → Settles (row Kind.mailbox_read (world_as c m w) side 0 0 d 0) c m w r m w → Settles (read_row (mail_from writer) (world_as c m w) side d) c m w r m w
  mail_read e s =
      subst (λ b. Settles (if b then row Kind.mailbox_read (world_as c m w) side 0 0 d 0 else plainly d (mail_for (other writer) (state_as c).mailboxes)) c m w r m w) (sym e) s

  pub own_mail : (reader : Side) (v : ℕ) → not_by writer side ≡ false → reader ≡ other writer → v ≡ mail_for reader (mailboxes_as c.mailboxes) → Settles (plainly d v) c m w r m w →
      Settles (read_row (mail_from writer) (world_as c m w) side d) c m w r m w
  own_mail reader v e p q s =
      subst (λ b. Settles (if b then row Kind.mailbox_read (world_as c m w) side 0 0 d 0 else plainly d (mail_for (other writer) (state_as c).mailboxes)) c m w r m w) (sym e)
      (subst (λ n. Settles (plainly d n) c m w r m w) (q ∙ ap (λ side. mail_for side (mailboxes_as c.mailboxes)) p ∙ ap (mail_for (other writer)) (sym (mailboxes_is c))) s)
