-- Laws of take and put: who puts, told by numbers, and the effects branch by branch, by what the card's FIFOs gave.
use Rattle.std.specs.Prelude.{◌≡◌, refl, Bool, true, false, Option, Some, None, Ok, ◌||◌, List, [], ◌∷◌, ℕ, zero, suc, ◌+◌, length, eqb, ltb}
use Rattle.std.proofs.Common.{ap, sym, ◌∙◌, arith, ne_eqb}
use Rattle.model.specs.Sides.{Side, host, local}
use Rattle.model.specs.Events.{mask}
use Rattle.model.specs.Fifos.{entries_of, pushed_on, putter}
use Rattle.model.specs.State.{with_fifos, with_interrupts}
use Rattle.model.specs.Changes.{nothing, Effect}
use Rattle.model.specs.FifosAndFlags.{overflow, taken_from, put_into}
use Rattle.model.proofs.TestLaws.{no_both, or-false, if_case}
use Rattle.fifos.specs.declared.Fifos.{Fifos}
use Rattle.fifos.specs.declared.Taken.{Taken}
use Rattle.fifos.specs.Bridge.{fifos_as, PutOn, put_on, put_as, TakenOff, taken_off, taken_as}
use Rattle.fifos.specs.Laws.{kept_is}
use Rattle.interrupts.specs.declared.Interrupts.{Interrupts}
use Rattle.interrupts.specs.Bridge.{interrupts_as, raised_both}
use Rattle.card.specs.declared.Card.{Card}
use Rattle.card.specs.Bridge.{state_as, Effected}
use Rattle.card.specs.Laws.{fifos_is, interrupts_is, raised_both_lem}

pub puts_local : (s : ℕ) → (eqb s 0 || eqb s 3) ≡ true → putter s ≡ local
puts_local zero h = refl
puts_local (suc zero) h = no_both h
puts_local (suc (suc zero)) h = no_both h
puts_local (suc (suc (suc zero))) h = refl
puts_local (suc (suc (suc (suc s)))) h =
    let n = suc (suc (suc (suc s))) in
    no_both (sym (or-false (ne_eqb n 0 (λ e. omega arith)) (ne_eqb n 3 (λ e. omega arith))) ∙ h)

pub puts_host : (s : ℕ) → (eqb s 0 || eqb s 3) ≡ false → putter s ≡ host
puts_host zero h = no_both (let e : false ≡ true = cc in e)
puts_host (suc zero) h = refl
puts_host (suc (suc zero)) h = refl
puts_host (suc (suc (suc zero))) h = no_both (let e : false ≡ true = cc in e)
puts_host (suc (suc (suc (suc s)))) h = refl

pub taken_stores : (i : ℕ) (l : List ℕ) → (taken_from i l).store ≡ nothing
taken_stores i [] = refl
taken_stores i (x ∷ l) = refl

pub put_stores : (side : Side) (i : ℕ) (l : List ℕ) (v : ℕ) → (put_into side i l v).store ≡ nothing
put_stores side i l v = if_case (λ (e : Effect). e.store ≡ nothing) (ltb (length l) 32) _ _ (λ _. refl) (λ _. refl)

module _ (c : Card) (i : ℕ) where
  -- what the FIFOs' put promises, of the FIFOs as the definition has them, and whether there was room
  put_is : (v : ℕ) (p : Option Fifos) (b : Bool) → put_as i c.fifos p ≡ put_on i v (fifos_as c.fifos) → (put_as i c.fifos p).kept ≡ b →
      (put_as i c.fifos p ≡ put_on i v (state_as c).fifos) × (ltb (length (entries_of (state_as c).fifos i)) 32 ≡ b)
  put_is v p b e h = rw (fifos_is c) (e, sym (ap (λ (r : PutOn). r.kept) e ∙ kept_is i v (fifos_as c.fifos)) ∙ h)

  module _ (side : Side) (v : ℕ) {p : Option Fifos} (e : put_as i c.fifos p ≡ put_on i v (fifos_as c.fifos)) (d : Card) where
    pub put_kept : (fs : Fifos) (n : ℕ) → p ≡ Some fs → n ≡ length (entries_of (fifos_as fs) i) → state_as d ≡ with_fifos (fifos_as fs) (state_as c) →
        Effected (put_into side i (entries_of (state_as c).fifos i) v) c (record { card = d; answer = Ok (record { v = n; x = 1 }) })
    put_kept fs n h q s =
        let k = put_is v (Some fs) true (rw h at e) refl in
        let r : put_as i c.fifos (Some fs) ≡ record { fifos = pushed_on i v (state_as c).fifos; held = length (entries_of (state_as c).fifos i) + 1; kept = true } = rw k.1 at k.0 in
        rw k.1 (record { answer = rw q (ap (λ (r : PutOn). Ok (record { v = r.held; x = 1 })) r); state = s ∙ ap (λ (r : PutOn). with_fifos r.fifos (state_as c)) r })

    pub put_lost : (n : ℕ) (j : Interrupts) → p ≡ None → n ≡ mask (overflow side) → interrupts_as j ≡ raised_both n (interrupts_as c.interrupts) →
        state_as d ≡ with_interrupts (interrupts_as j) (state_as c) → Effected (put_into side i (entries_of (state_as c).fifos i) v) c (record { card = d; answer = Ok (record { v = 32; x = 0 }) })
    put_lost n j h m r s =
        let k = put_is v None false (rw h at e) refl in
        rw k.1 (record { answer = refl; state = s ∙ raised_both_lem (state_as c) (interrupts_as j) (overflow side) n m (r ∙ ap (raised_both n) (sym (interrupts_is c))) })

  module _ {p : Option Taken} (e : taken_as i c.fifos p ≡ taken_off i (fifos_as c.fifos) (entries_of (fifos_as c.fifos) i)) where
    pub taken_some : (t : Taken) (d : Card) (n : ℕ) → p ≡ Some t → n ≡ length (entries_of (fifos_as c.fifos) i) → state_as d ≡ with_fifos (fifos_as t.fifos) (state_as c) →
        Effected (taken_from i (entries_of (state_as c).fifos i)) c (record { card = d; answer = Ok (record { v = t.entry; x = n }) })
    taken_some t d n h q s = by (entries_of (state_as c).fifos i) (rw (fifos_is c) (rw h at e)) (rw (fifos_is c) q)
      where
        by : (l : List ℕ) → taken_as i c.fifos (Some t) ≡ taken_off i (state_as c).fifos l → n ≡ length l → Effected (taken_from i l) c (record { card = d; answer = Ok (record { v = t.entry; x = n }) })
        by [] k m = absurd (let z = ap (λ (r : TakenOff). r.held) k in omega arith)
        by (x ∷ l) k m = record { answer = rw m (ap (λ (r : TakenOff). Ok (record { v = r.entry; x = length (x ∷ l) })) k); state = s ∙ ap (λ (r : TakenOff). with_fifos r.fifos (state_as c)) k }

    pub taken_none : p ≡ None → Effected (taken_from i (entries_of (state_as c).fifos i)) c (record { card = c; answer = Ok (record { v = 4294967295; x = 0 }) })
    taken_none h = by (entries_of (state_as c).fifos i) (rw (fifos_is c) (rw h at e))
      where
        by : (l : List ℕ) → taken_as i c.fifos None ≡ taken_off i (state_as c).fifos l → Effected (taken_from i l) c (record { card = c; answer = Ok (record { v = 4294967295; x = 0 }) })
        by [] k = record { answer = refl; state = refl }
        by (x ∷ l) k = absurd (let z = ap (λ (r : TakenOff). r.held) k in omega arith)
