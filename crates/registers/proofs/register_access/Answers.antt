-- `registers::register_access` meets its contract: past the record, the side and the offset each direction is a row of the table.
use Rattle.std.proofs.Common.{◌≡◌, refl, sym, ◌∙◌, arith, Bool, true, List, ℕ, length}
use borrow.Author.Tests.{lt-ltb, le-ltb}
use Rattle.model.specs.Accesses.{fit}
use Rattle.model.specs.Registers.{RegisterAccess, register_access}
use Rattle.model.proofs.Soundness.{Fit, fit_parts}
use Rattle.std.specs.Prelude.{IsOk}
use Rattle.access.specs.Bridge.{answer_as}
use Rattle.card.specs.declared.Card.{Card}
use Rattle.card.specs.declared.Outcome.{Outcome}
use Rattle.card.specs.Bridge.{world_as, outcome_as}
use Rattle.registers.specs.Bridge.{RegisterAccessed}
use Rattle.registers.specs.Laws.{unfit_arm, side_arm, offset_arm, read_arm, write_arm, direction_arm}
use Rattle.registers.proofs.register_access.Goals as goal

module _ (card : Card) (m w : List ℕ) {b : Bool} (tested : (m' w' : List ℕ) → length m ≡ length m' → length w ≡ length w' → b ≡ fit (world_as card m' w')) where
  -- the first test is whether it is fit; past the test it is
  fit_by : {v : Bool} → b ≡ v → fit (world_as card m w) ≡ v
  fit_by e = sym (tested m w refl refl) ∙ e

  parts : b ≡ true → Fit (world_as card m w)
  parts e = fit_parts (world_as card m w) (fit_by e)

-- the three promises, as the goals have them
promised : {card : Card} (q : RegisterAccess) (m w : List ℕ) (r : Outcome) {m' w' : List ℕ} → RegisterAccessed card q m w r m' w' → record {
  window_after : outcome_as r m' w' ≡ register_access (world_as card m w) q;
  card_value : ((answer_as r.answer).number ≡ 0 → ⊥) → r.card ≡ card;
  fact : (answer_as r.answer).number ≡ 0 → IsOk r.answer;
}
promised q m w r a = record { window_after = a.0; card_value = a.1.0; fact = a.1.1 }

pub returns-then-not-fits-clause-window_after : goal.returns-then-not-fits-clause-window_after
returns-then-not-fits-clause-window_after c = (unfit_arm c.args.card _ _ _ _ _ _ _ (fit_by _ _ _ c.fits.ensures c.if-not-fits.true) c.refused.ensures).0

pub returns-then-side-gt1-clause-window_after : goal.returns-then-side-gt1-clause-window_after
returns-then-side-gt1-clause-window_after c =
    (side_arm c.args.card _ _ _ _ _ _ _ (fit_by _ _ _ c.fits.ensures c.if-not-fits.false) (lt-ltb 1 _ c.if-side-gt1.true) c.refused-then-side-gt1.ensures).0

pub returns-then-not-modelled-clause-window_after : goal.returns-then-not-modelled-clause-window_after
returns-then-not-modelled-clause-window_after c =
    (offset_arm c.args.card _ _ _ _ _ _ _ (fit_by _ _ _ c.fits.ensures c.if-not-fits.false) (le-ltb 1 _ c.if-side-gt1.false) c.resource_at-x.ensures
    (sym c.is_modelled-modelled.ensures ∙ c.if-not-modelled.true) c.refused-then-not-modelled.ensures).0

pub read_at-requires-clause-card_value : goal.read_at-requires-clause-card_value
read_at-requires-clause-card_value c = (parts _ _ _ c.fits.ensures c.if-not-fits.false).sound

pub read_at-requires-clause-shared_len : goal.read_at-requires-clause-shared_len
read_at-requires-clause-shared_len c = (parts _ _ _ c.fits.ensures c.if-not-fits.false).shared

pub write_at-requires : goal.write_at-requires
write_at-requires c = (parts _ _ _ c.fits.ensures c.if-not-fits.false).shared

pub returns-in-0 : goal.returns-in-0
returns-in-0 c =
    promised _ _ _ _
    (read_arm c.args.card c.args.side c.args.offset c.args.direction c.args.dword _ _ _ (fit_by _ _ _ c.fits.ensures c.if-not-fits.false) (le-ltb 1 _ c.if-side-gt1.false) c.resource_at-x.ensures
    (sym c.is_modelled-modelled.ensures ∙ c.if-not-modelled.false) c.in-0.is (c.read_at.ensures _))

pub returns-in-1 : goal.returns-in-1
returns-in-1 c =
    promised _ _ _ _
    (write_arm c.args.card c.args.side c.args.offset c.args.direction c.args.dword _ _ _ (fit_by _ _ _ c.fits.ensures c.if-not-fits.false) (le-ltb 1 _ c.if-side-gt1.false) c.resource_at-x.ensures
    (sym c.is_modelled-modelled.ensures ∙ c.if-not-modelled.false) c.in-1.is (c.write_at.ensures _))

pub returns-in-2-to-255-clause-window_after : goal.returns-in-2-to-255-clause-window_after
returns-in-2-to-255-clause-window_after c =
    (direction_arm c.args.card c.args.side c.args.offset c.args.direction c.args.dword _ _ _ (fit_by _ _ _ c.fits.ensures c.if-not-fits.false) (le-ltb 1 _ c.if-side-gt1.false) c.resource_at-x.ensures
    (sym c.is_modelled-modelled.ensures ∙ c.if-not-modelled.false) (λ e. omega arith) (λ e. omega arith) c.refused-in-2-to-255.ensures).0
