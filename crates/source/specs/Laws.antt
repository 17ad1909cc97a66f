-- A request for a source: its checks as the code groups them, and by its refusal the part that it gets, which lies in its memory.
use Rattle.std.specs.Prelude.{◌≡◌, refl, ⊤, Bool, true, false, not, ◌&&◌, List, [], ◌∷◌, ◌++◌, ℕ, zero, suc, ◌+◌, ◌-◌, ◌≤◌, ◌<◌, eqb, length, Result, Ok, Err, is_err, if◌then◌else◌}
use Rattle.std.proofs.Common.{ap, sym, ◌∙◌, arith, lit<}
use Rattle.std.proofs.Math.Dec.{eqb-suc-zero}
use borrow.Author.Tests.{eqb-true, ne_eqb, not-false}
use Rattle.model.specs.Checks.{◌for◌, refusal, above, misplaced, shared_length, pci_length}
use Rattle.model.specs.Settings.{Settings, settings_pass, lengths_fit, outside_window}
use Rattle.model.specs.Transfer.{Request, request_checks}
use Rattle.model.specs.Source.{shared_memory, window_memory, leaves_window, source_checks, source_part, source}
use Rattle.model.proofs.TestLaws.{and_left, and_right, or_left}
use Rattle.model.proofs.CheckLaws.{refusal_append}
use Rattle.model.proofs.CauseLaws.{placed}
use Rattle.model.proofs.SourceLaws.{source_passed}
use Rattle.access.specs.declared.Refusal.{Refusal}
use Rattle.access.specs.declared.Refusal.TheVariants as refusals
use Rattle.access.specs.Bridge.{number_of, refusal_as, refused_when}
use Rattle.access.specs.Laws.{number_positive}

-- THE CHECKS

-- only a window source must lie in the window
leaves_by : (s : Settings) (direction pci size : ℕ) → (eqb direction 0 && outside_window s pci size) ≡ leaves_window s direction pci size
leaves_by s zero pci size = refl
leaves_by s (suc d) pci size = rw (eqb-suc-zero d)

-- what refuses the request, before the check of its source
then_source : (t : Request) (leaves : Bool) (n : ℕ) → n ≡ refusal (request_checks t) →
    (if not (eqb n 0) then n else if leaves then 9 else 0) ≡ refusal (request_checks t ++ (9 for leaves ∷ []))
then_source t leaves n e =
    swapped n (if leaves then 9 else 0) ∙ rw e (sym (refusal_append (request_checks t) (9 for leaves ∷ []) (lit< tt, (lit< tt, (lit< tt, tt)))))
  where
    swapped : (n later : ℕ) → (if not (eqb n 0) then n else later) ≡ (if eqb n 0 then later else n)
    swapped zero later = refl
    swapped (suc n) later = rw (eqb-suc-zero n)

-- by whether the settings pass, whether the lengths fit, what refuses the request, and whether it lies outside the window
pub row_is : (s : Settings) (m w : List ℕ) (t : Request) (pass fit outside : Bool) (n : ℕ) →
    pass ≡ settings_pass s → fit ≡ lengths_fit s m w → n ≡ refusal (request_checks t) → outside ≡ outside_window s t.pci t.size →
    (if not (pass && fit) then 1 else if above 1 t.direction then 4 else if not (eqb n 0) then n else if eqb t.direction 0 && outside then 9 else 0)
    ≡ refusal (source_checks s m w t)
row_is s m w t pass fit outside n a b c d = rw (a, b, d, leaves_by s t.direction t.pci t.size, then_source t _ n c)

-- a check that let pass had no cause
passed_when : (r : Refusal) (cause : Bool) → Ok tt ≡ refused_when r cause → cause ≡ false
passed_when r true e = absurd (let h = number_positive r in let z = ap (λ (c : Result ⊤ Refusal). refusal_as c) e in omega (arith, h, z))
passed_when r false e = refl

past_both : (x y : Bool) (n : ℕ) → x ≡ false → y ≡ false → n ≡ (if x then 1 else if y then 4 else n)
past_both x y n p q = rw (p, q) refl

-- past causes 1 and 4, by what the request's own checks gave
module _ (s : Settings) (m w : List ℕ) (t : Request) (pass fit outside : Bool) (a : pass ≡ settings_pass s) (b : fit ≡ lengths_fit s m w) (d : outside ≡ outside_window s t.pci t.size)
    (fits : Ok tt ≡ refused_when refusals.Unfit (not (pass && fit))) (either : Ok tt ≡ refused_when refusals.Selector (above 1 t.direction)) (checked : Result ⊤ Refusal)
    (c : refusal_as checked ≡ refusal (request_checks t)) where
  past_direction : (if not (eqb (refusal_as checked) 0) then refusal_as checked else if eqb t.direction 0 && outside then 9 else 0) ≡ refusal (source_checks s m w t)
  past_direction =
      past_both (not (pass && fit)) (above 1 t.direction) _ (passed_when refusals.Unfit (not (pass && fit)) fits) (passed_when refusals.Selector (above 1 t.direction) either)
      ∙ row_is s m w t pass fit outside (refusal_as checked) a b c d

  pub request_refused : {r : Refusal} → checked ≡ Err r → number_of r ≡ refusal (source_checks s m w t)
  request_refused {r} e = by (number_of r) (number_positive r) ∙ (rw e at past_direction)
    where
      by : (n : ℕ) → 0 < n → n ≡ (if not (eqb n 0) then n else if eqb t.direction 0 && outside then 9 else 0)
      by zero h = absurd (omega (arith, h))
      by (suc n) h = rw (eqb-suc-zero n)

  pub request_passed : checked ≡ Ok tt → refusal_as (refused_when refusals.Address (eqb t.direction 0 && outside)) ≡ refusal (source_checks s m w t)
  request_passed e = by (eqb t.direction 0 && outside) ∙ (rw e at past_direction)
    where
      by : (leaves : Bool) → refusal_as (refused_when refusals.Address leaves) ≡ (if leaves then 9 else 0)
      by true = refl
      by false = refl

-- BY REFUSAL

part_shared : (s : Settings) (direction shared pci size : ℕ) → (direction ≡ 0 → ⊥) →
    source_part s direction shared pci size ≡ record { memory = shared_memory; offset = shared; count = size }
part_shared s zero shared pci size d = absurd (d refl)
part_shared s (suc n) shared pci size d = refl

-- a row of checks that let all pass, and one that did not, by the number that it gives
pub passed_number : (c : Result ⊤ Refusal) → is_err c ≡ false → refusal_as c ≡ 0
passed_number (Ok x) e = refl
passed_number (Err r) e = absurd (let z = ap {B = ℕ} (λ (b : Bool). if b then 1 else 0) e in omega (arith, z))

pub refused_number : (c : Result ⊤ Refusal) → is_err c ≡ true → refusal_as c ≡ 0 → ⊥
refused_number (Ok x) e z = let z = ap {B = ℕ} (λ (b : Bool). if b then 1 else 0) e in omega (arith, z)
refused_number (Err r) e z = let h = number_positive r in omega (arith, h, z)

-- a request with the refusal `number`
pub record Cases (s : Settings) (shared window : List ℕ) (t : Request) (number : ℕ) : Type 0 where
  pub refused : (number ≡ 0 → ⊥) → source s shared window t ≡ record { memory = shared_memory; offset = 0; count = 0 }
  pub in_window : number ≡ 0 → t.direction ≡ 0 → source s shared window t ≡ record { memory = window_memory; offset = t.pci - s.base; count = t.size }
  pub in_shared : number ≡ 0 → (t.direction ≡ 0 → ⊥) → source s shared window t ≡ record { memory = shared_memory; offset = t.shared; count = t.size }
  pub window_holds : number ≡ 0 → t.direction ≡ 0 → (s.base ≤ t.pci) × (t.pci - s.base + t.size ≤ length window)
  pub shared_holds : number ≡ 0 → t.shared + t.size ≤ length shared

module _ (s : Settings) (shared window : List ℕ) (t : Request) where
  -- the lengths that cause 1 asks for
  lengths : refusal (source_checks s shared window t) ≡ 0 → (length shared ≡ shared_length) × (length window ≡ s.length)
  lengths h =
      let whole = eqb (length shared) shared_length in
      let set = eqb (length window) s.length in
      let fit = and_right (settings_pass s) (whole && set) (not-false _ (source_passed s shared window t h).0) in
      (eqb-true _ _ (and_left whole set fit), eqb-true _ _ (and_right whole set fit))

  window_holds_lem : refusal (source_checks s shared window t) ≡ 0 → t.direction ≡ 0 → (s.base ≤ t.pci) × (t.pci - s.base + t.size ≤ length window)
  window_holds_lem h d =
      let r = placed t.pci t.size s.base (s.base + s.length) (rw d at (source_passed s shared window t h).1.1.1.1.1.0) in
      (r.low, omega (arith, r.low, r.high, (lengths h).1))

  shared_holds_lem : refusal (source_checks s shared window t) ≡ 0 → t.shared + t.size ≤ length shared
  shared_holds_lem h =
      let far = misplaced t.shared t.size 0 shared_length in
      let out = misplaced t.pci t.size 0 pci_length in
      rw (lengths h).0 (placed t.shared t.size 0 shared_length (or_left far out (source_passed s shared window t h).1.1.1.1.0)).high

  pub cases : (number : ℕ) → number ≡ refusal (source_checks s shared window t) → Cases s shared window t number
  unfolding source
  cases number e = record {
    refused = λ n. rw (← e, ne_eqb number 0 n);
    in_window = λ z d. rw (← e, z, d);
    in_shared = λ z d. rw (← e, z) (part_shared s t.direction t.shared t.pci t.size d);
    window_holds = λ z. window_holds_lem (sym e ∙ z);
    shared_holds = λ z. shared_holds_lem (sym e ∙ z);
  }
