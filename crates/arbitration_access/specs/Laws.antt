-- Laws of claim and release: a flag changed in the card, and a claim won or lost.
use Rattle.std.specs.Prelude.{◌≡◌, refl, Bool, true, false, [], ◌∷◌, ℕ, Ok}
use Rattle.std.proofs.Common.{ap, sym, ◌∙◌}
use Rattle.model.specs.Sides.{Side, other}
use Rattle.model.specs.Arbitration.{Pair, pair_of, flag, with_flag_of}
use Rattle.model.specs.State.{with_arbitration}
use Rattle.model.specs.Changes.{flag_is, apply, nothing, Effect, done}
use Rattle.model.specs.FifosAndFlags.{claimed}
use Rattle.model.proofs.TestLaws.{if_case}
use Rattle.arbitration.specs.declared.Arbitration.{Arbitration}
use Rattle.arbitration.specs.Bridge.{arbitration_as}
use Rattle.card.specs.declared.Card.{Card}
use Rattle.card.specs.Bridge.{state_as, Effected}
use Rattle.card.specs.Laws.{arbitration_is, by_effect, Gives, unchanged}

pub claim_stores : (side : Side) (i : ℕ) (p : Pair) → (claimed side i p).store ≡ nothing
claim_stores side i p = if_case (λ (e : Effect). e.store ≡ nothing) (flag (other side) p) _ _ (λ _. refl) (λ _. refl)

module _ (c : Card) (i : ℕ) (side : Side) where
  pub flag_set : (b : Bool) (a : Arbitration) (d : Card) → arbitration_as a ≡ with_flag_of side i b (arbitration_as c.arbitration) →
      state_as d ≡ with_arbitration (arbitration_as a) (state_as c) → state_as d ≡ apply (flag_is side i b) (state_as c)
  flag_set b a d h s = s ∙ ap (λ a. with_arbitration a (state_as c)) (h ∙ ap (with_flag_of side i b) (sym (arbitration_is c)))

  module _ (b : Bool) (e : b ≡ flag (other side) (pair_of (arbitration_as c.arbitration) i)) where
    pub claim_lost : b ≡ true → Effected (claimed side i (pair_of (state_as c).arbitration i)) c (record { card = c; answer = Ok (record { v = 0; x = 0 }) })
    claim_lost h = by_effect (Gives c _) _ (done 0 0 []) (rw (arbitration_is c, ← e, h)) (unchanged 0 0 0 0 c refl refl)

    pub claim_won : (d : Card) → b ≡ false → state_as d ≡ apply (flag_is side i true) (state_as c) →
        Effected (claimed side i (pair_of (state_as c).arbitration i)) c (record { card = d; answer = Ok (record { v = 1; x = 0 }) })
    claim_won d h s = by_effect (Gives c _) _ (done 1 0 (flag_is side i true ∷ [])) (rw (arbitration_is c, ← e, h)) (record { answer = refl; state = s })
