-- A sound record stays sound, the settings stay, and both memories keep their lengths, whatever the access; a fresh card is sound.
-- Each change keeps one part sound under a condition of its own, and each kind's changes meet theirs.
use Rattle.std.specs.Prelude.{◌≡◌, refl, Bool, true, false, not, ◌&&◌, List, [], ◌∷◌, ◌++◌, ℕ, zero, suc, ◌/◌, ◌%◌, ◌≤◌, ◌<◌, length, set, drop, eqb, ltb, if◌then◌else◌}
use Rattle.std.proofs.Common.{ap, sym, ◌∙◌, arith, length-append, lit≤, lit<, eqb-true, leb-true, ltb-true, le-leb, lt-ltb, eq-eqb}
use Rattle.std.proofs.Math.Bool.{and-false}
use Rattle.std.proofs.lemmas.Bool.{eqb-false, not-false}
use Rattle.model.specs.Checks.{refusal, multiple_of4, above, shared_length}
use Rattle.model.specs.Sides.{Side, host, local, side_of, other}
use Rattle.model.specs.Events.{mailbox, mask, within, bit, stored_mask, enable_mask}
use Rattle.model.specs.Settings.{Settings, zero_settings, settings_pass, in_abort_range, outside_window}
use Rattle.model.specs.Fifos.{Fifos, fifo_sound, fifos_sound, entries_of}
use Rattle.model.specs.Arbitration.{Arbitration, Pair, pair_sound, arbitration_sound, pair_of, with_flag}
use Rattle.model.specs.Mailboxes.{Mailboxes, mailboxes_sound, with_mail}
use Rattle.model.specs.Interrupts.{Register, Interrupts, register_sound, interrupts_sound, register, on_register, raised_in, cleared_in, enables_in}
use Rattle.model.specs.Transfer.{Request, Transfer, idle, running, start_checks, transfer_sound, request_of, pci_of}
use Rattle.model.specs.Dma.{Dma}
use Rattle.model.specs.State.{State, World, sound_parts, sound, with_fifos, with_arbitration, with_mailboxes, with_interrupts, with_transfer, with_dma, fresh, NewCard, fresh_card}
use Rattle.model.specs.Changes.{Change, all_fresh, pushed, popped, flag_is, mail_is, raised, cleared, enables_are, transfer_is, dma_is, apply, apply_all, raised_in_both, Store, nothing, to_shared, to_window, shared_after, window_after, Effect}
use Rattle.model.specs.FifosAndFlags.{taken_from, overflow, put_into, claimed}
use Rattle.model.specs.MailboxWrites.{mail_written}
use Rattle.model.specs.Steps.{stepped}
use Rattle.model.specs.Accesses.{Access, Kind, kind_of, row, row_of, fit, checks, settled, access}
use Rattle.model.proofs.TestLaws.{and_left, and_right, and-true, or_left, each, all_of_lem, if_case}
use Rattle.model.proofs.CheckLaws.{Pass, passed, pass_refusal}
use Rattle.model.proofs.FourLaws.{four_kept, four_get}
use Rattle.model.proofs.LaneLaws.{length_write}
use Rattle.model.proofs.EventLaws.{within_insert, within_without, within_common}
use Rattle.model.proofs.Refusals.{checks_passed}

-- `sound`, part by part
pub record Sound (s : State) : Type 0 where
  pub settings : settings_pass s.settings ≡ true
  pub fifos : fifos_sound s.fifos ≡ true
  pub arbitration : arbitration_sound s.arbitration ≡ true
  pub mailboxes : mailboxes_sound s.mailboxes ≡ true
  pub interrupts : interrupts_sound s.interrupts ≡ true
  pub transfer : transfer_sound s.transfer ≡ true

pub sound_parts_lem : (s : State) → sound s ≡ true → Sound s
unfolding sound
sound_parts_lem s h =
    let p = each (sound_parts s) h in
    record { settings = p.0; fifos = p.1.0; arbitration = p.1.1.0; mailboxes = p.1.1.1.0; interrupts = p.1.1.1.1.0; transfer = p.1.1.1.1.1.0 }

pub parts_sound : (s : State) → Sound s → sound s ≡ true
unfolding sound
parts_sound s p =
    all_of_lem (sound_parts s) (p.settings, (p.fifos, (p.arbitration, (p.mailboxes, (p.interrupts, (p.transfer, tt))))))

-- ONE PART REPLACED

fifos_replaced : (f : Fifos) (s : State) → fifos_sound f ≡ true → Sound s → Sound (with_fifos f s)
fifos_replaced f s h p = record { settings = p.settings; fifos = h; arbitration = p.arbitration; mailboxes = p.mailboxes; interrupts = p.interrupts; transfer = p.transfer }

arbitration_replaced : (a : Arbitration) (s : State) → arbitration_sound a ≡ true → Sound s → Sound (with_arbitration a s)
arbitration_replaced a s h p = record { settings = p.settings; fifos = p.fifos; arbitration = h; mailboxes = p.mailboxes; interrupts = p.interrupts; transfer = p.transfer }

mailboxes_replaced : (m : Mailboxes) (s : State) → mailboxes_sound m ≡ true → Sound s → Sound (with_mailboxes m s)
mailboxes_replaced m s h p = record { settings = p.settings; fifos = p.fifos; arbitration = p.arbitration; mailboxes = h; interrupts = p.interrupts; transfer = p.transfer }

interrupts_replaced : (i : Interrupts) (s : State) → interrupts_sound i ≡ true → Sound s → Sound (with_interrupts i s)
interrupts_replaced i s h p = record { settings = p.settings; fifos = p.fifos; arbitration = p.arbitration; mailboxes = p.mailboxes; interrupts = h; transfer = p.transfer }

transfer_replaced : (t : Transfer) (s : State) → transfer_sound t ≡ true → Sound s → Sound (with_transfer t s)
transfer_replaced t s h p = record { settings = p.settings; fifos = p.fifos; arbitration = p.arbitration; mailboxes = p.mailboxes; interrupts = p.interrupts; transfer = h }

-- of the DMA registers nothing is asked
dma_replaced : (d : Dma) (s : State) → Sound s → Sound (with_dma d s)
dma_replaced d s p = record { settings = p.settings; fifos = p.fifos; arbitration = p.arbitration; mailboxes = p.mailboxes; interrupts = p.interrupts; transfer = p.transfer }

fresh_parts : (t : Settings) → settings_pass t ≡ true → Sound (fresh t)
fresh_parts t h = record { settings = h; fifos = refl; arbitration = refl; mailboxes = refl; interrupts = refl; transfer = refl }

-- WHAT A CHANGE MUST MEET

abbrev pub Fine : Change → State → Type 0
Fine all_fresh s = Unit {0}
Fine (pushed i entry) s = ltb (length (entries_of s.fifos i)) 32 ≡ true
Fine (popped i) s = Unit {0}
Fine (flag_is side i b) s = pair_sound (with_flag side b (pair_of s.arbitration i)) ≡ true
Fine (mail_is side d) s = ltb d 65536 ≡ true
Fine (raised side e) s = within (mask e) (stored_mask side) ≡ true
Fine (cleared side bits) s = Unit {0}
Fine (enables_are side n) s = within n (enable_mask side) ≡ true
Fine (transfer_is t) s = transfer_sound t ≡ true
Fine (dma_is d) s = Unit {0}

abbrev pub FineAll : List Change → State → Type 0
FineAll [] s = Unit {0}
FineAll (c ∷ cs) s = Fine c s × FineAll cs (apply c s)

-- a FIFO of sound ones holds at most 32, and may be replaced by another that does
pub fifo_sound_lem : (fs : Fifos) (i : ℕ) → fifos_sound fs ≡ true → length (entries_of fs i) ≤ 32
fifo_sound_lem fs i h = leb-true (length (entries_of fs i)) 32 (four_get fifo_sound fs i [] h refl)

fifo_kept : (fs : Fifos) (i : ℕ) (l : List ℕ) → length l ≤ 32 → fifos_sound fs ≡ true → fifos_sound (set fs i l) ≡ true
fifo_kept fs i l k h = four_kept fifo_sound fs i l h (le-leb (length l) 32 k)

mail_kept : (side : Side) (d : ℕ) (m : Mailboxes) → ltb d 65536 ≡ true → mailboxes_sound m ≡ true → mailboxes_sound (with_mail side d m) ≡ true
mail_kept host d m k h = and-true k (and_right (ltb m.hldata 65536) (ltb m.lhdata 65536) h)
mail_kept local d m k h = and-true (and_left (ltb m.hldata 65536) (ltb m.lhdata 65536) h) k

pub register_sound_lem : (side : Side) (i : Interrupts) → interrupts_sound i ≡ true → register_sound side (register side i) ≡ true
register_sound_lem host i h = and_left (register_sound host i.hint) (register_sound local i.lint) h
register_sound_lem local i h = and_right (register_sound host i.hint) (register_sound local i.lint) h

register_kept : (side : Side) (f : Register → Register) (i : Interrupts) → register_sound side (f (register side i)) ≡ true → interrupts_sound i ≡ true → interrupts_sound (on_register side f i) ≡ true
register_kept host f i k h = and-true k (register_sound_lem local i h)
register_kept local f i k h = and-true (register_sound_lem host i h) k

drop_one : (l : List ℕ) → length (drop 1 l) ≤ length l
drop_one [] = omega arith
drop_one (x ∷ l) = omega arith

-- a side's register, whose status and enables stay within their masks
register_fine : (side : Side) (f : Register → Register) (s : State) →
    ((r : Register) → within r.status (stored_mask side) ≡ true → within r.enables (enable_mask side) ≡ true → register_sound side (f r) ≡ true) →
    Sound s → Sound (with_interrupts (on_register side f s.interrupts) s)
register_fine side f s k p =
    let r = register side s.interrupts in
    let h = register_sound_lem side s.interrupts p.interrupts in
    let status = within r.status (stored_mask side) in
    let enables = within r.enables (enable_mask side) in
    interrupts_replaced _ s (register_kept side f s.interrupts (k r (and_left status enables h) (and_right status enables h)) p.interrupts) p

keeps : (c : Change) (s : State) → Fine c s → Sound s → Sound (apply c s)
keeps all_fresh s f p = fresh_parts s.settings p.settings
keeps (pushed i entry) s f p =
    let l = entries_of s.fifos i in
    fifos_replaced _ s (fifo_kept s.fifos i (l ++ (entry ∷ [])) (rw (length-append l (entry ∷ [])) (let k = ltb-true (length l) 32 f in omega arith)) p.fifos) p
keeps (popped i) s f p =
    let l = entries_of s.fifos i in
    fifos_replaced _ s (fifo_kept s.fifos i (drop 1 l) (let k = fifo_sound_lem s.fifos i p.fifos in let d = drop_one l in omega arith) p.fifos) p
keeps (flag_is side i b) s f p = arbitration_replaced _ s (four_kept pair_sound s.arbitration i (with_flag side b (pair_of s.arbitration i)) p.arbitration f) p
keeps (mail_is side d) s f p = mailboxes_replaced _ s (mail_kept side d s.mailboxes f p.mailboxes) p
keeps (raised side e) s f p = register_fine side (raised_in e) s (λ r a b. and-true (within_insert r.status (stored_mask side) e a f) b) p
keeps (cleared side bits) s f p = register_fine side (cleared_in bits) s (λ r a b. and-true (within_without r.status bits (stored_mask side) a) b) p
keeps (enables_are side n) s f p = register_fine side (enables_in n) s (λ r a b. and-true a f) p
keeps (transfer_is t) s f p = transfer_replaced t s f p
keeps (dma_is d) s f p = dma_replaced d s p

pub keeps_all : (cs : List Change) (s : State) → FineAll cs s → Sound s → Sound (apply_all cs s)
keeps_all [] s f p = p
keeps_all (c ∷ cs) s f p = keeps_all cs (apply c s) f.1 (keeps c s f.0 p)

-- EACH KIND'S CHANGES MEET IT

taken_fine : (i : ℕ) (l : List ℕ) (s : State) → FineAll (taken_from i l).changes s
taken_fine i [] s = tt
taken_fine i (e ∷ l) s = (tt, tt)

overflow_fine : (side : Side) (s : State) → FineAll (raised_in_both (overflow side)) s
overflow_fine host s = (refl, (refl, tt))
overflow_fine local s = (refl, (refl, tt))

put_fine : (side : Side) (i entry : ℕ) (s : State) → FineAll (put_into side i (entries_of s.fifos i) entry).changes s
put_fine side i entry s = if_case (λ (f : Effect). FineAll f.changes s) (ltb (length (entries_of s.fifos i)) 32) _ _ (λ h. (h, tt)) (λ h. overflow_fine side s)

pub claim_fine : (side : Side) (i : ℕ) (s : State) → FineAll (claimed side i (pair_of s.arbitration i)).changes s
claim_fine host i s = if_case (λ (e : Effect). FineAll e.changes s) (pair_of s.arbitration i).of_local _ _ (λ h. tt) (λ h. (rw h, tt))
claim_fine local i s = if_case (λ (e : Effect). FineAll e.changes s) (pair_of s.arbitration i).of_host _ _ (λ h. tt) (λ h. (rw h, tt))

pub release_fine : (side : Side) (f : Pair) → pair_sound (with_flag side false f) ≡ true
release_fine host f = refl
release_fine local f = rw (and-false f.of_host)

mail_fine : (side : Side) (b : ℕ) (s : State) → FineAll (mail_written side b).changes s
mail_fine side b s = (lt-ltb (b % 65536) 65536 (omega arith), by side (bit 24 b) (apply (mail_is side (b % 65536)) s))
  where
    by : (side : Side) (t : Bool) (s : State) → FineAll (if t then raised (other side) mailbox ∷ [] else []) s
    by host true s = (refl, tt)
    by local true s = (refl, tt)
    by side false s = tt

-- a transfer that passed the start checks, and one that moves on
pub sound_transfer : (t : Request) (moved : ℕ) → transfer_sound (running t moved) ≡ true → Pass (start_checks t) × (moved < t.size / 4)
sound_transfer t moved h =
    let r = refusal (start_checks t) in
    (passed 1 (lit< tt) (start_checks t) (lit≤ tt, (lit≤ tt, (lit≤ tt, (lit≤ tt, tt)))) (eqb-true r 0 (and_left (eqb r 0) (ltb moved (t.size / 4)) h)), ltb-true moved (t.size / 4) (and_right (eqb r 0) (ltb moved (t.size / 4)) h))

transfer_sound_lem : (t : Request) (moved : ℕ) → Pass (start_checks t) → moved < t.size / 4 → transfer_sound (running t moved) ≡ true
transfer_sound_lem t moved p l = and-true (eq-eqb _ 0 (pass_refusal (start_checks t) p)) (lt-ltb moved (t.size / 4) l)

start_fine : (t : Request) → Pass (start_checks t) → transfer_sound (running t 0) ≡ true
start_fine t p =
    let n : ¬ (t.size ≡ 0) = eqb-false t.size 0 p.1.0 in
    let f : t.size % 4 ≡ 0 = eqb-true (t.size % 4) 0 (not-false (multiple_of4 t.size) (or_left (not (multiple_of4 t.size)) (above 16384 t.size) p.1.1.0)) in
    transfer_sound_lem t 0 p (omega arith)

next_fine : (t : Request) (i : ℕ) → transfer_sound (running t i) ≡ true → eqb (suc i) (t.size / 4) ≡ false → transfer_sound (running t (suc i)) ≡ true
next_fine t i h k =
    let p = sound_transfer t i h in
    let l = p.1 in
    let n = eqb-false (suc i) (t.size / 4) k in
    transfer_sound_lem t (suc i) p.0 (omega arith)

step_fine : (w : World) (d : Transfer) (s : State) → transfer_sound d ≡ true → FineAll (stepped w d).changes s
step_fine w idle s h = tt
step_fine w (running t i) s h =
    let P : Effect → Type 0 = λ e. FineAll e.changes s in
    if_case P (in_abort_range w.card.settings (pci_of t i)) _ _ (λ _. (refl, (refl, (refl, tt))))
    (λ _. if_case P (outside_window w.card.settings (pci_of t i) 4) _ _ (λ _. (refl, (refl, (refl, tt))))
    (λ _. if_case P (eqb (suc i) (t.size / 4)) _ _ (λ _. (refl, (refl, (refl, tt)))) (λ e. (next_fine t i h e, tt))))

pub fine : (k : Kind) (w : World) (side : Side) (s a b c : ℕ) → Sound w.card → Pass (row k w side s a b c).checks → FineAll (row k w side s a b c).effect.changes w.card
fine Kind.reset w side s a b c p h = (tt, tt)
fine Kind.shared_read w side s a b c p h = tt
fine Kind.shared_write w side s a b c p h = tt
fine Kind.window_read w side s a b c p h = tt
fine Kind.window_write w side s a b c p h = tt
fine Kind.take w side s a b c p h = taken_fine s (entries_of w.card.fifos s) w.card
fine Kind.put w side s a b c p h = put_fine side s b w.card
fine Kind.claim w side s a b c p h = claim_fine side s w.card
fine Kind.release w side s a b c p h = (release_fine side (pair_of w.card.arbitration s), tt)
fine Kind.mailbox_write w side s a b c p h = mail_fine side b w.card
fine Kind.mailbox_read w side s a b c p h = tt
fine Kind.interrupt_read w side s a b c p h = tt
fine Kind.interrupt_write w side s a b c p h = (within_common (b / 65536) (enable_mask side), (tt, tt))
fine Kind.line w side s a b c p h = tt
fine Kind.start w side s a b c p h = (start_fine (request_of s a b c) (h.0, h.1.1), tt)
fine Kind.step w side s a b c p h = step_fine w w.card.transfer w.card p.transfer
fine Kind.external_pin w side s a b c p h = (refl, tt)
fine Kind.unknown w side s a b c p h = tt

-- THE LAWS

pub stays_sound : (w : World) (q : Access) → sound w.card ≡ true → sound (access w q).world.card ≡ true
unfolding access
stays_sound w q h = parts_sound _ (by (refusal (checks w q)) refl (sound_parts_lem w.card h))
  where
    by : (n : ℕ) → refusal (checks w q) ≡ n → Sound w.card → Sound (settled n (row_of (kind_of q.kind) w q).effect w).world.card
    by zero e p = keeps_all (row_of (kind_of q.kind) w q).effect.changes w.card (fine (kind_of q.kind) w (side_of q.side) q.s q.a q.b q.c p (checks_passed w q e).1.1) p
    by (suc n) e p = p

-- what no access changes
pub record Stays (w w' : World) : Type 0 where
  pub settings : w'.card.settings ≡ w.card.settings
  pub shared : length w'.shared ≡ length w.shared
  pub window : length w'.window ≡ length w.window

settings_one : (c : Change) (s : State) → (apply c s).settings ≡ s.settings
settings_one all_fresh s = refl
settings_one (pushed i entry) s = refl
settings_one (popped i) s = refl
settings_one (flag_is side i b) s = refl
settings_one (mail_is side d) s = refl
settings_one (raised side e) s = refl
settings_one (cleared side bits) s = refl
settings_one (enables_are side n) s = refl
settings_one (transfer_is d) s = refl
settings_one (dma_is d) s = refl

pub settings_all : (cs : List Change) (s : State) → (apply_all cs s).settings ≡ s.settings
settings_all [] s = refl
settings_all (c ∷ cs) s = settings_all cs (apply c s) ∙ settings_one c s

length_shared : (t : Store) (m : List ℕ) → length (shared_after t m) ≡ length m
length_shared nothing m = refl
length_shared (to_shared at lanes v) m = length_write m at lanes v
length_shared (to_window at lanes v) m = refl

length_window : (t : Store) (m : List ℕ) → length (window_after t m) ≡ length m
length_window nothing m = refl
length_window (to_shared at lanes v) m = refl
length_window (to_window at lanes v) m = length_write m at lanes v

pub settled_stays : (w : World) (n : ℕ) (e : Effect) → Stays w (settled n e w).world
settled_stays w zero e = record { settings = settings_all e.changes w.card; shared = length_shared e.store w.shared; window = length_window e.store w.window }
settled_stays w (suc n) e = record { settings = refl; shared = refl; window = refl }

pub stays : (w : World) (q : Access) → Stays w (access w q).world
unfolding access
stays w q = settled_stays w (refusal (checks w q)) (row_of (kind_of q.kind) w q).effect

-- so a fit world stays fit
pub record Fit (w : World) : Type 0 where
  pub sound : sound w.card ≡ true
  pub shared : length w.shared ≡ shared_length
  pub window : length w.window ≡ w.card.settings.length

pub fit_parts : (w : World) → fit w ≡ true → Fit w
fit_parts w h =
    let c = w.card in
    let x = eqb (length w.shared) shared_length in
    let y = eqb (length w.window) c.settings.length in
    let g = and_right (sound c) (x && y) h in
    record { sound = and_left (sound c) (x && y) h; shared = eqb-true _ _ (and_left x y g); window = eqb-true _ _ (and_right x y g) }

pub parts_fit : (w : World) → Fit w → fit w ≡ true
parts_fit w p = and-true p.sound (and-true (eq-eqb _ _ p.shared) (eq-eqb _ _ p.window))

pub keeps_fit : (w w' : World) → Stays w w' → (sound w.card ≡ true → sound w'.card ≡ true) → fit w ≡ true → fit w' ≡ true
keeps_fit w w' t s h =
    let p = fit_parts w h in
    parts_fit w' (record { sound = s p.sound; shared = t.shared ∙ p.shared; window = t.window ∙ p.window ∙ sym (ap (λ s. s.length) t.settings) })

pub stays_fit : (w : World) (q : Access) → fit w ≡ true → fit (access w q).world ≡ true
stays_fit w q = keeps_fit w (access w q).world (stays w q) (stays_sound w q)

pub done_fit : (w : World) (q : Access) → refusal (checks w q) ≡ 0 → fit w ≡ true
done_fit w q h = not-false (fit w) (checks_passed w q h).0

-- every fresh card is sound, that of failing settings too
pub fresh_sound : (s : Settings) → sound (fresh_card s).card ≡ true
unfolding fresh_card
fresh_sound s = parts_sound _ (if_case (λ (m : NewCard). Sound m.card) (settings_pass s) _ _ (fresh_parts s) (λ _. fresh_parts zero_settings refl))
