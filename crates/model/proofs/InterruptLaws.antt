-- Laws of the interrupt registers as they are read: the line, position by position, and bits 6 and 7.
use Rattle.std.specs.Prelude.{◌≡◌, refl, ◌≢◌, ◌↔◌, Bool, true, false, not, ◌&&◌, ◌||◌, List, [], ◌∷◌, ℕ, zero, suc, ◌+◌, ◌-◌, ◌*◌, ◌/◌, ◌%◌, ◌^◌, ◌≤◌, ◌<◌, eqb}
use Rattle.std.proofs.Common.{ap, sym, ◌∙◌, arith, div-one, zero-add, eqb-true}
use Rattle.std.proofs.Math.Bool.{or-false, and-false}
use Rattle.std.proofs.Math.Nat.{pow-succ'}
use Rattle.std.proofs.lemmas.Bool.{eqb-false, not-true}
use Rattle.model.specs.Sides.{Side, host, local}
use Rattle.model.specs.Events.{Event, inbound_post, outbound_post, position, bit, common, stored_mask}
use Rattle.model.specs.Fifos.{Fifos, entries_of}
use Rattle.model.specs.Interrupts.{Register, register_sound, status_of, register_value, active}
use Rattle.model.specs.State.{State}
use Rattle.model.specs.Changes.{apply_all}
use Rattle.model.specs.InterruptRegisters.{live_bit, live_of, register_written}
use Rattle.model.proofs.TestLaws.{no_both, and_left, and_right, and-true}
use Rattle.model.proofs.EventLaws.{no_bit, bit_common, bit_or_lem, bit_power, within_bit, bit_next}

-- a number that is not 0 has a bit
some_upto : (n a : ℕ) → a ≤ n → a ≢ 0 → (p : ℕ) × (bit p a ≡ true)
some_upto zero a l h = absurd (h (omega arith))
some_upto (suc n) a l h = by (a % 2) refl (omega arith) (λ k z. some_upto n (a / 2) k z)
  where
    by : (d : ℕ) → a % 2 ≡ d → d < 2 → (a / 2 ≤ n → a / 2 ≢ 0 → (p : ℕ) × (bit p (a / 2) ≡ true)) → (p : ℕ) × (bit p a ≡ true)
    by zero e k f =
        let r = f (omega arith) (λ z. h (omega arith)) in
        (suc r.0, bit_next r.0 a ∙ r.1)
    by (suc zero) e k f = (0, rw (div-one a, e))
    by (suc (suc d)) e k f = absurd (omega arith)

-- "A line is active exactly when some position has status and enable both set."
module _ (live : ℕ) (r : Register) where
  abbrev BothSet : Type 0
  BothSet = (p : ℕ) × (bit p (status_of live r) ≡ true) × (bit p r.enables ≡ true)

  pub line_by_position : (active live r ≡ true) ↔ BothSet
  line_by_position = (f, g)
    where
      both : ℕ
      both = common (status_of live r) r.enables

      f : active live r ≡ true → BothSet
      f h =
          let b = some_upto both both (omega arith) (eqb-false _ 0 (not-true _ h)) in
          let c = sym (bit_common b.0 (status_of live r) r.enables) ∙ b.1 in
          (b.0, and_left _ _ c, and_right (bit b.0 (status_of live r)) _ c)

      g : BothSet → active live r ≡ true
      g b = by (eqb both 0) refl
        where
          by : (t : Bool) → eqb both 0 ≡ t → not t ≡ true
          by false e = refl
          by true e = no_both (sym (no_bit b.0) ∙ ap (bit b.0) (sym (eqb-true _ 0 e)) ∙ bit_common b.0 (status_of live r) r.enables ∙ and-true b.1 b.2)

abbrev pub holds_entry : List ℕ → Bool
holds_entry [] = false
holds_entry (e ∷ l) = true

live_bit_lem : (p : ℕ) (e : Event) (l : List ℕ) → bit p (live_bit e l) ≡ (holds_entry l && eqb p (position e))
live_bit_lem p e [] = no_bit p
live_bit_lem p e (x ∷ l) = bit_power p (position e)

-- "stored event bits exist for that side and exclude 6 and 7"
pub live_unstored : (side : Side) → (bit 6 (stored_mask side) ≡ false) × (bit 7 (stored_mask side) ≡ false)
live_unstored host = (refl, refl)
live_unstored local = (refl, refl)

module _ (side : Side) (fs : Fifos) (r : Register) (sound : register_sound side r ≡ true) where
  not_stored : (p : ℕ) → bit p (stored_mask side) ≡ false → bit p r.status ≡ false
  not_stored p m = by (bit p r.status) refl
    where
      by : (b : Bool) → bit p r.status ≡ b → b ≡ false
      by false e = refl
      by true e = no_both (sym m ∙ within_bit r.status (stored_mask side) p (and_left _ _ sound) e)

  status_bit : (p : ℕ) → bit p (stored_mask side) ≡ false →
      bit p (status_of (live_of fs) r) ≡ ((holds_entry (entries_of fs 1) && eqb p 6) || (holds_entry (entries_of fs 3) && eqb p 7))
  status_bit p m =
      bit_or_lem p r.status _ ∙ rw (not_stored p m) (bit_or_lem p (live_bit inbound_post (entries_of fs 1)) (live_bit outbound_post (entries_of fs 3)) ∙ rw (live_bit_lem p inbound_post (entries_of fs 1), live_bit_lem p outbound_post (entries_of fs 3)))

  -- "Bits 6 and 7 follow FIFOs 1 and 3"
  pub live_follows : (bit 6 (status_of (live_of fs) r) ≡ holds_entry (entries_of fs 1)) × (bit 7 (status_of (live_of fs) r) ≡ holds_entry (entries_of fs 3))
  live_follows = (
    status_bit 6 (live_unstored side).0 ∙ a (holds_entry (entries_of fs 1)) (holds_entry (entries_of fs 3)),
    status_bit 7 (live_unstored side).1 ∙ b (holds_entry (entries_of fs 1)) (holds_entry (entries_of fs 3)),
  )
    where
      a : (x y : Bool) → ((x && true) || (y && false)) ≡ x
      a true y = refl
      a false true = refl
      a false false = refl

      b : (x y : Bool) → ((x && false) || (y && true)) ≡ y
      b true true = refl
      b true false = refl
      b false true = refl
      b false false = refl

-- a stored position shows what is stored
pub stored_shows : (fs : Fifos) (r : Register) (p : ℕ) → eqb p 6 ≡ false → eqb p 7 ≡ false → bit p (status_of (live_of fs) r) ≡ bit p r.status
stored_shows fs r p a b =
    bit_or_lem p r.status (live_of fs)
    ∙ ap (bit p r.status ||◌) (bit_or_lem p (live_bit inbound_post (entries_of fs 1)) (live_bit outbound_post (entries_of fs 3)) ∙ rw (live_bit_lem p inbound_post (entries_of fs 1), live_bit_lem p outbound_post (entries_of fs 3), a, b, and-false (holds_entry (entries_of fs 1)), and-false (holds_entry (entries_of fs 3))))
    ∙ or-false (bit p r.status)

-- what stands above a bit does not change it
bit_above : (k p m n : ℕ) → bit p (m * 2 ^ (p + suc k) + n) ≡ bit p n
bit_above k zero m n =
    let e : (m * 2 ^ (0 + suc k) + n) % 2 ≡ n % 2 = rw (zero-add (suc k), pow-succ' 2 k) (omega arith) in
    rw (div-one (m * 2 ^ (0 + suc k) + n), div-one n, e)
bit_above k (suc p) m n =
    let s : suc p + suc k ≡ suc (p + suc k) = omega arith in
    let e : (m * 2 ^ (suc p + suc k) + n) / 2 ≡ m * 2 ^ (p + suc k) + n / 2 = rw (s, pow-succ' 2 (p + suc k)) (omega arith) in
    bit_next p (m * 2 ^ (suc p + suc k) + n) ∙ ap (bit p) e ∙ bit_above k p m (n / 2) ∙ sym (bit_next p n)

-- "Enables are bits 25 to 16, event status bits 9 to 0."
pub value_bit : (live : ℕ) (r : Register) (p : ℕ) → p < 16 → bit p (register_value live r) ≡ bit p (status_of live r)
value_bit live r p h =
    let e : p + suc (15 - p) ≡ 16 = omega arith in
    rw e at (bit_above (15 - p) p r.enables (status_of live r))

-- "and cannot be cleared by a write": no write of an interrupt register changes a FIFO
pub write_keeps_fifos : (side : Side) (b : ℕ) (s : State) → (apply_all (register_written side b).changes s).fifos ≡ s.fifos
write_keeps_fifos side b s = refl
