-- Laws of a mailbox write: the effect with bit 24 set or clear.
use Rattle.std.specs.Prelude.{◌≡◌, refl, [], ◌∷◌, ℕ, ◌/◌, ◌%◌, Ok}
use Rattle.std.proofs.Common.{ap, sym, ◌∙◌, eq-eqb, ne_eqb}
use Rattle.model.specs.Sides.{Side, other}
use Rattle.model.specs.Events.{mailbox, mask}
use Rattle.model.specs.Mailboxes.{with_mail}
use Rattle.model.specs.Interrupts.{on_register}
use Rattle.model.specs.State.{with_mailboxes, with_interrupts}
use Rattle.model.specs.Changes.{mail_is, raised, apply, done}
use Rattle.model.specs.MailboxWrites.{mail_written}
use Rattle.events.specs.Bridge.{raised_all}
use Rattle.mailboxes.specs.declared.Mailboxes.{Mailboxes}
use Rattle.mailboxes.specs.Bridge.{mailboxes_as}
use Rattle.interrupts.specs.declared.Interrupts.{Interrupts}
use Rattle.interrupts.specs.Bridge.{interrupts_as}
use Rattle.card.specs.declared.Card.{Card}
use Rattle.card.specs.Bridge.{state_as, Effected}
use Rattle.card.specs.Laws.{mailboxes_is, interrupts_is, by_effect, Gives}

-- c with the mailboxes written is d
module _ (c d : Card) (side : Side) (b : ℕ) (m : Mailboxes) (e : mailboxes_as m ≡ with_mail side (b % 65536) (mailboxes_as c.mailboxes))
    (s : state_as d ≡ with_mailboxes (mailboxes_as m) (state_as c)) where
  mail_is_lem : state_as d ≡ apply (mail_is side (b % 65536)) (state_as c)
  mail_is_lem = s ∙ ap (λ m. with_mailboxes m (state_as c)) (e ∙ ap (with_mail side (b % 65536)) (sym (mailboxes_is c)))

  pub mail_rung : (o : Side) (k : Card) (i : Interrupts) → b / 16777216 % 2 ≡ 1 → o ≡ other side →
      interrupts_as i ≡ on_register o (raised_all (mask mailbox)) (interrupts_as c.interrupts) → state_as k ≡ with_interrupts (interrupts_as i) (state_as d) →
      Effected (mail_written side b) c (record { card = k; answer = Ok (record { v = 0; x = 0 }) })
  mail_rung o k i h p r t =
      by_effect (Gives c _) _ (done 0 0 (mail_is side (b % 65536) ∷ raised (other side) mailbox ∷ [])) (rw (eq-eqb (b / 16777216 % 2) 1 h))
      (record { answer = refl; state = t ∙ rw (r, p, mail_is_lem, interrupts_is c) })

  pub mail_quiet : (b / 16777216 % 2 ≡ 1 → ⊥) → Effected (mail_written side b) c (record { card = d; answer = Ok (record { v = 0; x = 0 }) })
  mail_quiet h = by_effect (Gives c _) _ (done 0 0 (mail_is side (b % 65536) ∷ [])) (rw (ne_eqb (b / 16777216 % 2) 1 h)) (record { answer = refl; state = mail_is_lem })
