-- How the promise of a kind gives the promise of an access: one law for an arm of the match, and one for each refusal in front of it.
use Rattle.std.specs.Prelude.{◌≡◌, refl, Bool, true, false, ◌&&◌, List, ℕ, zero, suc, ◌≤◌, Err}
use Rattle.std.proofs.Common.{sym, ◌∙◌, zero-le, arith}
use Rattle.model.specs.Checks.{above}
use Rattle.model.specs.Settings.{lengths_fit}
use Rattle.model.specs.State.{sound}
use Rattle.model.specs.Accesses.{kind_of, fit, access}
use Rattle.model.proofs.KindLaws.{refused_with, unfit_is, no_side_is, no_kind_is, kind_is}
use Rattle.access.specs.declared.Access.{Access}
use Rattle.access.specs.declared.Refusal.{Refusal}
use Rattle.access.specs.declared.Refusal.TheVariants.{Unfit, Unknown}
use Rattle.access.specs.Bridge.{access_as, number_of}
use Rattle.access.specs.Laws.{number_positive}
use Rattle.settings.specs.Bridge.{settings_as}
use Rattle.card.specs.declared.Card.{Card}
use Rattle.card.specs.declared.Outcome.{Outcome}
use Rattle.card.specs.Bridge.{state_as, world_as, Did}
use Rattle.device.specs.Bridge.{Accessed}

module _ (card : Card) (q : Access) (m w : List ℕ) where
  pub arm : (n : ℕ) {r : Outcome} {m' w' : List ℕ} → fit (world_as card m w) ≡ true → above 1 q.side ≡ false → above 16 n ≡ false → q.kind ≡ n →
      Did (kind_of n) card q m w r m' w' → Accessed card q m w r m' w'
  arm n h k l p d = (d.told ∙ sym (kind_is n (world_as card m w) (access_as q) h k l p), (d.kept, d.said))

  -- refused before a kind is looked at
  module _ {r : Outcome} where
    refused_arm : (f : Refusal) → access (world_as card m w) (access_as q) ≡ refused_with (number_of f) (world_as card m w) → r ≡ record { card = card; answer = Err f } → Accessed card q m w r m w
    refused_arm f h e = rw e (sym h, (λ _. refl, λ z. absurd (let p = number_positive f in omega (arith, p, z))))

    pub unfit_arm : fit (world_as card m w) ≡ false → r ≡ record { card = card; answer = Err Unfit } → Accessed card q m w r m w
    unfit_arm h = refused_arm Unfit (unfit_is (world_as card m w) (access_as q) h)

    pub side_arm : fit (world_as card m w) ≡ true → above 1 q.side ≡ true → r ≡ record { card = card; answer = Err Unknown } → Accessed card q m w r m w
    side_arm h k = refused_arm Unknown (no_side_is (world_as card m w) (access_as q) h k)

    pub kind_arm : fit (world_as card m w) ≡ true → above 16 q.kind ≡ true → r ≡ record { card = card; answer = Err Unknown } → Accessed card q m w r m w
    kind_arm h k = refused_arm Unknown (no_kind_is (world_as card m w) (access_as q) h k)

-- fit by two tests
pub fit_is : (card : Card) (m w : List ℕ) (fine lengths : Bool) → fine ≡ sound (state_as card) → lengths ≡ lengths_fit (settings_as card.settings) m w → (fine && lengths) ≡ fit (world_as card m w)
unfolding state_as
fit_is card m w fine lengths h p = rw (h, p)

-- x is none of 0 to n - 1, as the last arm of a match has it
abbrev pub NoneOf : ℕ → ℕ → Type 0
NoneOf x zero = Unit
NoneOf x (suc n) = NoneOf x n × (x ≡ n → ⊥)

pub past : (x n : ℕ) → NoneOf x n → n ≤ x
past x zero r = zero-le
past x (suc n) r = omega (arith, past x n r.0, r.1)
