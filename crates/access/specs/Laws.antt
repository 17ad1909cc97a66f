-- Laws of the refusals' numbers: none of them is 0, so what is done is told apart by the number alone.
use Rattle.std.specs.Prelude.{◌≡◌, ℕ, ◌<◌, Result, Ok, Err, IsOk}
use Rattle.std.proofs.Common.{refl, sym, ◌∙◌, ap, arith, lit<}
use Rattle.access.specs.declared.Refusal.{Refusal}
use Rattle.access.specs.declared.Refusal.TheVariants as refusals
use Rattle.access.specs.Bridge.{number_of, refusal_as}

pub number_positive : (r : Refusal) → 0 < number_of r
number_positive refusals.Unfit = lit< tt
number_positive refusals.Unknown = lit< tt
number_positive refusals.UnusedField = lit< tt
number_positive refusals.Selector = lit< tt
number_positive refusals.WrongSide = lit< tt
number_positive refusals.Busy = lit< tt
number_positive refusals.EmptyTransfer = lit< tt
number_positive refusals.Size = lit< tt
number_positive refusals.Address = lit< tt
number_positive refusals.NotRunning = lit< tt
number_positive refusals.Unmodelled = lit< tt
number_positive refusals.NoBurst = lit< tt
number_positive refusals.Overrun = lit< tt
number_positive refusals.ShortList = lit< tt
number_positive refusals.ShortRecord = lit< tt
number_positive refusals.WrongMark = lit< tt
number_positive refusals.RecordNumber = lit< tt
number_positive refusals.ZeroByte = lit< tt
number_positive refusals.NoRoom = lit< tt
number_positive refusals.NoLine = lit< tt
number_positive refusals.RefusedTrace = lit< tt
number_positive refusals.LongTrace = lit< tt
number_positive refusals.Reserved = lit< tt
number_positive refusals.NoSide = lit< tt
number_positive refusals.ListFull = lit< tt

-- a row of checks that gives 0 lets all pass
pub passed_is_ok : {T : Type 0} (r : Result T Refusal) → refusal_as r ≡ 0 → IsOk r
passed_is_ok (Ok x) e = refl
passed_is_ok (Err r) e = absurd (let h = number_positive r in omega (arith, h, e))

-- and one that refuses gives the number of the refusal
pub refused_number : {T : Type 0} {c : Result T Refusal} {r : Refusal} {n : ℕ} → c ≡ Err r → refusal_as c ≡ n → number_of r ≡ n
refused_number {T} e p = sym (ap (λ (c : Result T Refusal). refusal_as c) e) ∙ p

pub passed_number : {T : Type 0} {c : Result T Refusal} {x : T} {n : ℕ} → c ≡ Ok x → refusal_as c ≡ n → n ≡ 0
passed_number {T} e p = sym p ∙ ap (λ (c : Result T Refusal). refusal_as c) e
