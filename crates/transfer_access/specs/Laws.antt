-- Laws of a step: the dword copied by its direction, the step's effect branch by branch, and that a sound card can step.
use Rattle.std.specs.Prelude.{◌≡◌, ⊤, Bool, true, false, List, [], ◌∷◌, ℕ, zero, suc, ◌+◌, ◌-◌, ◌*◌, ◌/◌, eqb, if◌then◌else◌, Result, Ok, Err}
use Rattle.std.proofs.Math.Path.{refl}
use Rattle.std.proofs.Common.{ap, sym, ◌∙◌, arith, add-one}
use Rattle.model.specs.Checks.{refusal, ◌for◌, nonzero, misplaced, shared_length, pci_length}
use Rattle.model.specs.Lanes.{read_dword, write_dword}
use Rattle.model.specs.Events.{Event, target_abort, master_abort, mask, dma_complete}
use Rattle.model.specs.Settings.{in_abort_range, outside_window}
use Rattle.model.specs.Interrupts.{Interrupts}
use Rattle.model.specs.Transfer.{idle, running, is_idle, pci_of}
use Rattle.model.specs.State.{with_interrupts, with_transfer}
use Rattle.model.specs.Changes.{Store, Effect, ◌storing◌, transfer_is, done}
use Rattle.model.specs.Steps.{stepped}
use Rattle.model.specs.Accesses.{row_of, fit}
use Rattle.model.proofs.TestLaws.{or_left, or_right}
use Rattle.model.proofs.CauseLaws.{placed}
use Rattle.model.proofs.Soundness.{sound_parts_lem, sound_transfer, fit_parts}
use Rattle.model.specs.Transfer as model
use Rattle.model.specs.Accesses as kinds
use Rattle.access.specs.declared.Access.{Access}
use Rattle.access.specs.declared.Refusal.{Refusal}
use Rattle.access.specs.declared.Refusal.TheVariants.{NotRunning}
use Rattle.access.specs.Bridge.{access_as, number_of, refusal_as}
use Rattle.access.specs.Laws.{number_positive, refused_number}
use Rattle.settings.specs.Bridge.{settings_as}
use Rattle.interrupts.specs.Bridge.{interrupts_as, raised_both}
use Rattle.transfer.specs.declared.Request.{Request}
use Rattle.transfer.specs.declared.Transfer.{Transfer}
use Rattle.transfer.specs.declared.Transfer.TheVariants.{Idle, Running}
use Rattle.transfer.specs.Bridge.{request_as, transfer_as}
use Rattle.card.specs.declared.Card.{Card}
use Rattle.card.specs.declared.Outcome.{Outcome}
use Rattle.card.specs.Bridge.{state_as, world_as, Effected, MemoriesAfter, Stored, Did}
use Rattle.card.specs.Laws.{interrupts_is, transfer_is_lem, raised_both_lem, by_effect, refused_did, stored_did}
use Rattle.transfer_access.specs.Bridge.{StepFits, Copied, ending}

-- with so many dwords moved, the last ends the transfer
abbrev pub counted : model.Request → (moved : ℕ) → Effect
counted t moved =
    if eqb moved (t.size / 4)
    then ending 2 moved dma_complete
    else done 1 moved (transfer_is (running t moved) ∷ [])

-- THE PIECES OF A STEP

module _ {m w : List ℕ} {direction v : ℕ} (place offset : ℕ) where
  pub copy_in : {m' : List ℕ} → direction ≡ 0 → v ≡ read_dword w offset 0 → m' ≡ write_dword m place 0 v → Copied direction place offset m w m' w
  copy_in h q r c = rw h (record { shared = r ∙ ap (write_dword m place 0) q; window = refl })

  pub copy_out : {w' : List ℕ} → (direction ≡ 0 → ⊥) → v ≡ read_dword m place 0 → w' ≡ write_dword w offset 0 v → Copied direction place offset m w m w'
  copy_out {w'} h q r = by direction h
    where
      by : (d : ℕ) → (d ≡ 0 → ⊥) → Copied d place offset m w m w'
      by zero h c = absurd (h refl)
      by (suc d) h c = record { shared = refl; window = r ∙ ap (write_dword w offset 0) q }

-- the set of events raised by the code has the one event
pub ended_by_lem : (c d k : Card) (i : Interrupts) (e : Event) (n v x : ℕ) → n ≡ mask e → state_as d ≡ with_transfer idle (state_as c) →
    i ≡ raised_both n (interrupts_as c.interrupts) → state_as k ≡ with_interrupts i (state_as d) → Effected (ending v x e) c (record { card = k; answer = Ok (record { v = v; x = x }) })
ended_by_lem c d k i e n v x p q h s = record { answer = refl; state = s ∙ rw q (raised_both_lem (with_transfer idle (state_as c)) i e n p (rw (interrupts_is c) h)) }

-- THE EFFECT, by where the dword's PCI address lies

-- an effect by a test, and the same with a dword stored
both_store : (b : Bool) (e f : Effect) (s : Store) (c : Card) (m w : List ℕ) (r : Outcome) (m' w' : List ℕ) →
    Effected (if b then e else f) c r → MemoriesAfter s m w m' w' → Stored (if b then e storing s else f storing s) c m w r m' w'
both_store true e f s c m w r m' w' h p = record { effected = record { answer = h.answer; state = h.state }; memories = p }
both_store false e f s c m w r m' w' h p = record { effected = record { answer = h.answer; state = h.state }; memories = p }

module _ {c : Card} {m w : List ℕ} {r : Outcome} (t : model.Request) (i : ℕ) {at : ℕ} (here : at ≡ pci_of t i) where
  pub step_aborts : in_abort_range (settings_as c.settings) at ≡ true → Effected (ending 3 i target_abort) c r → Stored (stepped (world_as c m w) (running t i)) c m w r m w
  unfolding state_as
  step_aborts h e = rw (← here, h) (record { effected = e; memories = record { shared = refl; window = refl } })

  module _ (h : in_abort_range (settings_as c.settings) at ≡ false) where
    pub step_outside : outside_window (settings_as c.settings) at 4 ≡ true → Effected (ending 4 i master_abort) c r → Stored (stepped (world_as c m w) (running t i)) c m w r m w
    unfolding state_as
    step_outside k e = rw (← here, h, k) (record { effected = e; memories = record { shared = refl; window = refl } })

    -- between a place in shared memory and an offset of the window
    pub step_copies : {place offset : ℕ} {m' w' : List ℕ} → outside_window (settings_as c.settings) at 4 ≡ false → place ≡ t.shared + 4 * i → offset ≡ at - c.settings.base →
        Copied t.direction place offset m w m' w' → Effected (counted t (i + 1)) c r → Stored (stepped (world_as c m w) (running t i)) c m w r m' w'
    unfolding state_as
    step_copies k p o s e =
        rw (← here, h, k, ← p, ← o) (both_store (eqb (suc i) (t.size / 4)) _ _ _ c m w r _ _ (rw (add-one i) at e) (s (state_as c)))

-- THE PROMISE

-- what refuses a step, by whether no transfer runs
abbrev number : Access → (none : Bool) → ℕ
number q none = refusal ((3 for nonzero (q.s ∷ q.a ∷ q.b ∷ q.c ∷ [])) ∷ (10 for none) ∷ [])

-- cause 3 is the first of the row, and where it does not hold cause 10 decides
unused_first : (unused none : Bool) (r : Refusal) → number_of r ≡ refusal ((3 for unused) ∷ []) → number_of r ≡ refusal ((3 for unused) ∷ (10 for none) ∷ [])
unused_first true none r h = h
unused_first false none r h = absurd (let p = number_positive r in omega (arith, p, h))

used_then : (unused none : Bool) → refusal ((3 for unused) ∷ []) ≡ 0 → refusal ((10 for none) ∷ []) ≡ refusal ((3 for unused) ∷ (10 for none) ∷ [])
used_then true none h = absurd (omega (arith, h))
used_then false none h = refl

-- by the transfer that the card runs
module _ (c : Card) (q : Access) (m w : List ℕ) {d : Transfer} (e : c.transfer ≡ d) where
  abbrev unused : Bool
  unused = nonzero (q.s ∷ q.a ∷ q.b ∷ q.c ∷ [])

  row : number q (is_idle (transfer_as d)) ≡ refusal (row_of kinds.step (world_as c m w) (access_as q)).checks
  unfolding state_as
  row = rw e refl

  pub step_done : {r : Outcome} {m' w' : List ℕ} → refusal ((3 for unused) ∷ []) ≡ 0 → is_idle (transfer_as d) ≡ false →
      Stored (stepped (world_as c m w) (transfer_as d)) c m w r m' w' → Did kinds.step c q m w r m' w'
  step_done {r} {m'} {w'} h k s =
      stored_did kinds.step c q m w r m' w' (sym row ∙ sym (used_then unused (is_idle (transfer_as d)) h) ∙ rw k refl)
      (by_effect (λ e. Stored e c m w r m' w') _ _ (ap (stepped (world_as c m w)) (transfer_is_lem c ∙ ap transfer_as e)) s)

-- a step that uses a field is refused
pub step_refused : (c : Card) (q : Access) (m w : List ℕ) {T : Type 0} (checked : Result T Refusal) (r : Refusal) → checked ≡ Err r →
    refusal_as checked ≡ refusal ((3 for nonzero (q.s ∷ q.a ∷ q.b ∷ q.c ∷ [])) ∷ []) → Did kinds.step c q m w (record { card = c; answer = Err r }) m w
step_refused c q m w {T} checked r e p =
    refused_did kinds.step c q m w checked r e
    (ap (λ (c : Result T Refusal). refusal_as c) e ∙ unused_first (nonzero (q.s ∷ q.a ∷ q.b ∷ q.c ∷ [])) (is_idle (transfer_as c.transfer)) r (refused_number e p) ∙ row c q m w refl)

-- a step without a transfer is refused
pub step_idle : (c : Card) (q : Access) (m w : List ℕ) → c.transfer ≡ Idle → refusal ((3 for nonzero (q.s ∷ q.a ∷ q.b ∷ q.c ∷ [])) ∷ []) ≡ 0 →
    Did kinds.step c q m w (record { card = c; answer = Err NotRunning }) m w
step_idle c q m w e h =
    let checked : Result ⊤ Refusal = Err NotRunning in
    refused_did kinds.step c q m w checked NotRunning refl (used_then (nonzero (q.s ∷ q.a ∷ q.b ∷ q.c ∷ [])) true h ∙ row c q m w e)

-- a sound card with its memories can step
pub step_fits : (c : Card) (m w : List ℕ) (t : Request) (i : ℕ) → fit (world_as c m w) ≡ true → c.transfer ≡ Running t i → StepFits (settings_as c.settings) (request_as t) i m w
unfolding state_as
step_fits c m w t i h e =
    let f = fit_parts (world_as c m w) h in
    let p = sound_transfer (request_as t) i (rw e at (sound_parts_lem (state_as c) f.sound).transfer) in
    let far = misplaced t.shared t.size 0 shared_length in
    let out = misplaced t.pci t.size 0 pci_length in
    let addresses = p.0.1.1.1.0 in
    let a = placed t.shared t.size 0 shared_length (or_left far out addresses) in
    let b = placed t.pci t.size 0 pci_length (or_right far out addresses) in
    record { place = omega (arith, p.1); pci = omega (arith, p.1); next = omega (arith, p.1); shared = f.shared; window = f.window }
