-- `device::access` meets its contract: past the record and the side each arm of the match is one kind, and its promise is the kind's.
use Rattle.std.proofs.Common.{◌≡◌, ◌≤◌, refl, sym, ◌∙◌, arith, Bool, true, false, List, ℕ, length, IsOk}
use borrow.Author.Tests.{lt-ltb, le-ltb}
use Rattle.model.specs.Checks.{above}
use Rattle.model.specs.Accesses.{kind_of, fit, access}
use Rattle.model.proofs.Soundness.{Fit, fit_parts}
use Rattle.access.specs.declared.Access.{Access}
use Rattle.access.specs.Bridge.{access_as, answer_as}
use Rattle.card.specs.declared.Card.{Card}
use Rattle.card.specs.declared.Outcome.{Outcome}
use Rattle.card.specs.Bridge.{state_as, world_as, outcome_as, Did}
use Rattle.device.specs.Laws.{arm, unfit_arm, side_arm, kind_arm}
use Rattle.device.proofs.access.Goals as goal

module _ (card : Card) (m w : List ℕ) {b : Bool} (tested : (m' w' : List ℕ) → length m ≡ length m' → length w ≡ length w' → b ≡ fit (world_as card m' w')) where
  -- the first test is whether it is fit; past the test it is
  fit_by : {v : Bool} → b ≡ v → fit (world_as card m w) ≡ v
  fit_by e = sym (tested m w refl refl) ∙ e

  module _ (past : b ≡ true) where
    parts : Fit (world_as card m w)
    parts = fit_parts (world_as card m w) (fit_by past)

    wide : length w ≡ card.settings.length
    unfolding state_as
    wide = parts.window

    -- past the second test, of the side, an arm: the kind with this number keeps its promise
    one : (q : Access) → q.side ≤ 1 → (n : ℕ) {r : Outcome} {m' w' : List ℕ} → above 16 n ≡ false → q.kind ≡ n → Did (kind_of n) card q m w r m' w' → record {
      window_after : outcome_as r m' w' ≡ access (world_as card m w) (access_as q);
      card_value : ((answer_as r.answer).number ≡ 0 → ⊥) → r.card ≡ card;
      fact : (answer_as r.answer).number ≡ 0 → IsOk r.answer;
    }
    one q s n l k d = let a = arm card q m w n (fit_by past) (le-ltb 1 q.side s) l k d in record { window_after = a.0; card_value = a.1.0; fact = a.1.1 }

pub returns-then-not-fits-clause-window_after : goal.returns-then-not-fits-clause-window_after
returns-then-not-fits-clause-window_after c = (unfit_arm c.args.card c.args.q _ _ (fit_by _ _ _ c.fits.ensures c.if-not-fits.true) c.refused.ensures).0

pub returns-then-q-gt1-clause-window_after : goal.returns-then-q-gt1-clause-window_after
returns-then-q-gt1-clause-window_after c =
    (side_arm c.args.card c.args.q _ _ (fit_by _ _ _ c.fits.ensures c.if-not-fits.false) (lt-ltb 1 _ c.if-q-gt1.true) c.refused-then-q-gt1.ensures).0

pub shared_read-requires : goal.shared_read-requires
shared_read-requires c = (parts _ _ _ c.fits.ensures c.if-not-fits.false).shared

pub shared_write-requires : goal.shared_write-requires
shared_write-requires c = (parts _ _ _ c.fits.ensures c.if-not-fits.false).shared

pub window_read-requires : goal.window_read-requires
window_read-requires c = wide c.args.card _ _ c.fits.ensures c.if-not-fits.false

pub window_write-requires : goal.window_write-requires
window_write-requires c = wide c.args.card _ _ c.fits.ensures c.if-not-fits.false

pub read-requires-in-11 : goal.read-requires-in-11
read-requires-in-11 c = (parts _ _ _ c.fits.ensures c.if-not-fits.false).sound

pub returns-in-0 : goal.returns-in-0
returns-in-0 c = one c.args.card _ _ c.fits.ensures c.if-not-fits.false c.args.q c.if-q-gt1.false 0 refl c.in-0.is (c.reset.ensures _ _)

pub returns-in-1 : goal.returns-in-1
returns-in-1 c = one c.args.card _ _ c.fits.ensures c.if-not-fits.false c.args.q c.if-q-gt1.false 1 refl c.in-1.is (c.shared_read.ensures _)

pub returns-in-2 : goal.returns-in-2
returns-in-2 c = one c.args.card _ _ c.fits.ensures c.if-not-fits.false c.args.q c.if-q-gt1.false 2 refl c.in-2.is (c.shared_write.ensures _)

pub returns-in-3 : goal.returns-in-3
returns-in-3 c = one c.args.card _ _ c.fits.ensures c.if-not-fits.false c.args.q c.if-q-gt1.false 3 refl c.in-3.is (c.window_read.ensures _)

pub returns-in-4 : goal.returns-in-4
returns-in-4 c = one c.args.card _ _ c.fits.ensures c.if-not-fits.false c.args.q c.if-q-gt1.false 4 refl c.in-4.is (c.window_write.ensures _)

pub returns-in-5 : goal.returns-in-5
returns-in-5 c = one c.args.card _ _ c.fits.ensures c.if-not-fits.false c.args.q c.if-q-gt1.false 5 refl c.in-5.is (c.take.ensures _ _)

pub returns-in-6 : goal.returns-in-6
returns-in-6 c = one c.args.card _ _ c.fits.ensures c.if-not-fits.false c.args.q c.if-q-gt1.false 6 refl c.in-6.is (c.put.ensures _ _)

pub returns-in-7 : goal.returns-in-7
returns-in-7 c = one c.args.card _ _ c.fits.ensures c.if-not-fits.false c.args.q c.if-q-gt1.false 7 refl c.in-7.is (c.claim.ensures _ _)

pub returns-in-8 : goal.returns-in-8
returns-in-8 c = one c.args.card _ _ c.fits.ensures c.if-not-fits.false c.args.q c.if-q-gt1.false 8 refl c.in-8.is (c.release.ensures _ _)

pub returns-in-9 : goal.returns-in-9
returns-in-9 c = one c.args.card _ _ c.fits.ensures c.if-not-fits.false c.args.q c.if-q-gt1.false 9 refl c.in-9.is (c.write.ensures _ _)

pub returns-in-10 : goal.returns-in-10
returns-in-10 c = one c.args.card _ _ c.fits.ensures c.if-not-fits.false c.args.q c.if-q-gt1.false 10 refl c.in-10.is (c.read.ensures _ _)

pub returns-in-11 : goal.returns-in-11
returns-in-11 c = one c.args.card _ _ c.fits.ensures c.if-not-fits.false c.args.q c.if-q-gt1.false 11 refl c.in-11.is (c.read-in-11.ensures _ _)

pub returns-in-12 : goal.returns-in-12
returns-in-12 c = one c.args.card _ _ c.fits.ensures c.if-not-fits.false c.args.q c.if-q-gt1.false 12 refl c.in-12.is (c.write-in-12.ensures _ _)

pub returns-in-13 : goal.returns-in-13
returns-in-13 c = one c.args.card _ _ c.fits.ensures c.if-not-fits.false c.args.q c.if-q-gt1.false 13 refl c.in-13.is (c.line.ensures _ _)

pub returns-in-14 : goal.returns-in-14
returns-in-14 c = one c.args.card _ _ c.fits.ensures c.if-not-fits.false c.args.q c.if-q-gt1.false 14 refl c.in-14.is (c.start.ensures _ _)

pub returns-in-15 : goal.returns-in-15
returns-in-15 c = one c.args.card _ _ c.fits.ensures c.if-not-fits.false c.args.q c.if-q-gt1.false 15 refl c.in-15.is c.step.ensures

pub returns-in-16 : goal.returns-in-16
returns-in-16 c = one c.args.card _ _ c.fits.ensures c.if-not-fits.false c.args.q c.if-q-gt1.false 16 refl c.in-16.is (c.external_pin.ensures _ _)

pub returns-in-17-to-255-clause-window_after : goal.returns-in-17-to-255-clause-window_after
returns-in-17-to-255-clause-window_after c =
    (kind_arm c.args.card c.args.q _ _ (fit_by _ _ _ c.fits.ensures c.if-not-fits.false) (lt-ltb 16 c.args.q.kind (omega arith)) c.refused-in-17-to-255.ensures).0
