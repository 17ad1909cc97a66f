-- The numbers of the kinds; and from an access to what its kind does: refusals 1 and 2 aside, an access of a fit world is settled by the row of its kind.
use Rattle.std.specs.Prelude.{◌≡◌, true, false, List, [], ◌∷◌, ℕ, zero, suc, ◌+◌, ◌<◌, min, get_or}
use Rattle.std.proofs.Common.{sym, ap, ◌∙◌, arith}
use Rattle.std.proofs.Math.Bool.{or-true}
use Rattle.std.proofs.Math.ListN.{get_or-map}
use Rattle.model.specs.Checks.{above}
use Rattle.model.specs.State.{World}
use Rattle.model.specs.Runs.{Outcome}
use Rattle.model.specs.Accesses.{Access, Answer, Kind, unknown, kinds, kind_of, number_of, fit, access, does}

abbrev up_from : ℕ → ℕ → List ℕ
up_from k zero = []
up_from k (suc n) = k ∷ up_from (suc k) n

up_at : (n k i : ℕ) → get_or (up_from k n) i (k + n) ≡ k + min i n
up_at zero k i = omega arith
up_at (suc n) k zero = omega arith
up_at (suc n) k (suc i) =
    let e : k + suc n ≡ suc k + n = omega arith in
    let f : k + min (suc i) (suc n) ≡ suc k + min i n = omega arith in
    rw (e, f) (up_at n (suc k) i)

pub number_at : (n : ℕ) (k : Kind) → kind_of n ≡ k → number_of k ≡ min n 17
number_at n k h = sym (ap number_of h) ∙ sym (get_or-map number_of kinds n unknown) ∙ up_at 17 0 n ∙ omega arith

-- an access of a known kind has its number
pub kind_at : (n : ℕ) (k : Kind) → number_of k < 17 → kind_of n ≡ k → n ≡ number_of k
kind_at n k l h = let e = number_at n k h in omega arith

abbrev pub refused_with : (number : ℕ) → World → Outcome Answer World
refused_with n w = record { answer = record { number = n; v = 0; x = 0 }; world = w }

pub unfit_is : (w : World) (q : Access) → fit w ≡ false → access w q ≡ refused_with 1 w
unfolding access
unfit_is w q h = rw h

pub no_side_is : (w : World) (q : Access) → fit w ≡ true → above 1 q.side ≡ true → access w q ≡ refused_with 2 w
unfolding access
no_side_is w q h k = rw (h, k, or-true (above 16 q.kind))

pub no_kind_is : (w : World) (q : Access) → fit w ≡ true → above 16 q.kind ≡ true → access w q ≡ refused_with 2 w
unfolding access
no_kind_is w q h k = rw (h, k)

pub kind_is : (n : ℕ) (w : World) (q : Access) → fit w ≡ true → above 1 q.side ≡ false → above 16 n ≡ false → q.kind ≡ n → access w q ≡ does (kind_of n) w q
unfolding access does
kind_is n w q h k l p = rw (h, p, k, l)
