-- Laws of the interrupt registers: the live bits, a register written or raised in, and in a sound record a register as read fits 32 bits.
use Rattle.std.specs.Prelude.{◌≡◌, refl, Bool, true, not, List, [], ◌∷◌, ℕ, ◌<◌, length, eqb, if◌then◌else◌}
use Rattle.std.proofs.Common.{ap, ap₂, sym, ◌∙◌, arith, eqb-true}
use Rattle.std.specs.Int.Bits.{bit_or}
use Rattle.std.proofs.lemmas.Nat.{and_le_r, or_lt}
use Rattle.std.proofs.Math.Dec.{eqb-suc-zero}
use Rattle.model.specs.Sides.{Side, host, local}
use Rattle.model.specs.Events.{Event, inbound_post, outbound_post, mask, common, within, stored_mask, enable_mask}
use Rattle.model.specs.Fifos.{Fifos, entries_of}
use Rattle.model.specs.Interrupts.{register_sound, register, register_value, active}
use Rattle.model.specs.State.{sound, with_interrupts}
use Rattle.model.specs.InterruptRegisters.{live_bit, live_of, register_read, line_active}
use Rattle.model.proofs.TestLaws.{and_left, and_right}
use Rattle.model.proofs.Soundness.{sound_parts_lem, register_sound_lem}
use Rattle.model.specs.Interrupts as model
use Rattle.fifos.specs.Bridge.{fifos_as}
use Rattle.interrupts.specs.declared.Interrupts.{Interrupts}
use Rattle.interrupts.specs.Bridge.{interrupts_as}
use Rattle.card.specs.declared.Card.{Card}
use Rattle.card.specs.Bridge.{state_as}
use Rattle.card.specs.Laws.{fifos_is, interrupts_is}

live_bit_lem : (e : Event) (l : List ℕ) → (if not (eqb (length l) 0) then mask e else 0) ≡ live_bit e l
live_bit_lem e [] = refl
live_bit_lem e (x ∷ l) = rw (eqb-suc-zero (length l))

live_one : (fs : Fifos) (i : ℕ) (e : Event) (n : ℕ) (empty : Bool) → n ≡ (if not empty then mask e else 0) → empty ≡ eqb (length (entries_of fs i)) 0 → n ≡ live_bit e (entries_of fs i)
live_one fs i e n empty p q = p ∙ ap (λ b. if not b then mask e else 0) q ∙ live_bit_lem e (entries_of fs i)

pub live_is : (c : Card) (n a b : ℕ) (p q : Bool) → n ≡ bit_or a b → a ≡ (if not p then mask inbound_post else 0) → b ≡ (if not q then mask outbound_post else 0) →
    p ≡ eqb (length (entries_of (fifos_as c.fifos) 1)) 0 → q ≡ eqb (length (entries_of (fifos_as c.fifos) 3)) 0 → n ≡ live_of (state_as c).fifos
live_is c n a b p q e f g h k = e ∙ rw (live_one (fifos_as c.fifos) 1 inbound_post a p f h, live_one (fifos_as c.fifos) 3 outbound_post b q g k, fifos_is c)

-- the registers changed in the card, as they change by themselves
pub registers_changed : (c d : Card) (i : Interrupts) (f : model.Interrupts → model.Interrupts) → interrupts_as i ≡ f (interrupts_as c.interrupts) →
    state_as d ≡ with_interrupts (interrupts_as i) (state_as c) → state_as d ≡ with_interrupts (f (state_as c).interrupts) (state_as c)
registers_changed c d i f e s = s ∙ ap (λ i. with_interrupts i (state_as c)) (e ∙ ap f (sym (interrupts_is c)))

module _ (c : Card) (side : Side) (r : model.Register) (live : ℕ) (g : r ≡ register side (interrupts_as c.interrupts)) (l : live ≡ live_of (state_as c).fifos) where
  own : r ≡ register side (state_as c).interrupts
  own = g ∙ ap (register side) (sym (interrupts_is c))

  pub value_read : (v : ℕ) → v ≡ register_value live r → v ≡ register_read side (state_as c)
  value_read v h = h ∙ ap₂ register_value l own

  pub line_read : (b t : Bool) → b ≡ active live r → b ≡ t → ◌≡◌ {A = ℕ} (if t then 1 else 0) (if line_active side (state_as c) then 1 else 0)
  line_read b t h k = ap (λ (b : Bool). if◌then◌else◌ {A = ℕ} b 1 0) (sym k ∙ h ∙ ap₂ active l own)

-- in a sound record the register as read fits 32 bits
register_small : (side : Side) (r : model.Register) → register_sound side r ≡ true → (r.enables < 65536) × (r.status < 65536)
register_small side r h =
    let e = eqb-true (common r.enables (enable_mask side)) r.enables (and_right (within r.status (stored_mask side)) (within r.enables (enable_mask side)) h) in
    let f = eqb-true (common r.status (stored_mask side)) r.status (and_left (within r.status (stored_mask side)) (within r.enables (enable_mask side)) h) in
    let k = masks side in
    (omega (arith, and_le_r r.enables (enable_mask side)), omega (arith, and_le_r r.status (stored_mask side)))
  where
    masks : (side : Side) → (enable_mask side < 65536) × (stored_mask side < 65536)
    masks host = (omega arith, omega arith)
    masks local = (omega arith, omega arith)

live_small : (e : Event) (l : List ℕ) → mask e < 65536 → live_bit e l < 65536
live_small e [] h = omega arith
live_small e (x ∷ l) h = h

pub value_fits : (c : Card) (side : Side) (r : model.Register) (n : ℕ) → sound (state_as c) ≡ true → r ≡ register side (interrupts_as c.interrupts) → n ≡ live_of (state_as c).fifos →
    (r.enables < 65536) × (r.status < 65536) × (n < 65536)
value_fits c side r n h p q =
    let fs = (state_as c).fifos in
    let k = register_small side r (rw (p, ← interrupts_is c) (register_sound_lem side (state_as c).interrupts (sound_parts_lem (state_as c) h).interrupts)) in
    (k.0, k.1, rw q (or_lt 16 (live_bit inbound_post (entries_of fs 1)) (live_bit outbound_post (entries_of fs 3)) (live_small inbound_post (entries_of fs 1) (omega arith)) (live_small outbound_post (entries_of fs 3) (omega arith))))
