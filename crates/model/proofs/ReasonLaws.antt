-- What one access makes of a reason (L7): it is read off each change, and at most one change of an access touches a position of a side's register.
use Rattle.std.specs.Prelude.{◌≡◌, refl, Bool, true, false, not, ◌&&◌, ◌||◌, List, [], ◌∷◌, ◌++◌, map, ℕ, zero, suc, ◌/◌, ◌%◌, ◌<◌, length, set, drop, eqb, ltb, if◌then◌else◌}
use Rattle.std.proofs.Common.{ap, sym, subst, ◌∙◌, arith, get_or-set_same, get_or-set_other, eqb-true}
use Rattle.std.proofs.Math.Bool.{or-false, and-true, and-false}
use Rattle.std.proofs.lemmas.List.{map-append}
use Rattle.std.proofs.Math.Dec.{eqb-suc-zero}
use Rattle.std.proofs.lemmas.Bool.{eqb-false}
use Rattle.model.specs.Checks.{refusal}
use Rattle.model.specs.Sides.{Side, host, local, side_of, other, not_by}
use Rattle.model.specs.Events.{Event, local_overflow, pci_overflow, mailbox, external, dma_complete, target_abort, master_abort, position, bit, common, enable_mask, stored_mask}
use Rattle.model.specs.Settings.{in_abort_range, outside_window}
use Rattle.model.specs.Fifos.{Fifos, fresh_fifos, entries_of}
use Rattle.model.specs.Arbitration.{pair_of, flag}
use Rattle.model.specs.Transfer.{Transfer, idle, running, pci_of}
use Rattle.model.specs.State.{State, World}
use Rattle.model.specs.Changes.{Change, all_fresh, mail_is, raised, cleared, enables_are, apply, apply_all, raised_in_both, Effect}
use Rattle.model.specs.FifosAndFlags.{taken_from, put_into, overflow}
use Rattle.model.specs.Steps.{stepped}
use Rattle.model.specs.Accesses.{Access, Kind, kind_of, row_of, checks, access}
use Rattle.model.proofs.TestLaws.{no_both, if_case}
use Rattle.model.proofs.EventLaws.{no_bit, bit_insert, bit_without}
use Rattle.model.proofs.InterruptLaws.{holds_entry, live_unstored}
use Rattle.model.proofs.Refusals.{done_is, refused_is}
use Rattle.model.specs.Why.{Reason, never, cleared_by, set_by, held, raise, clear, reset, put, take, follows, noted, noted_all, changes_by, is_up, held_by, turned, Moved, same, longer, shorter, emptied, settled_by, stored_bit}

-- whether it tells the entries held
abbrev pub is_held : Reason → Bool
is_held never = false
is_held (cleared_by n) = false
is_held (set_by n) = false
is_held (held hs) = true

pub down_none : (r : Reason) → is_up r ≡ false → held_by r ≡ []
down_none never h = refl
down_none (cleared_by n) h = refl
down_none (set_by n) h = refl
down_none (held hs) h = no_both (sym h)

-- STORED POSITIONS

-- what a reason says of a bit, and no entries
pub record Says (b : Bool) (r : Reason) : Type 0 where
  pub up : is_up r ≡ b
  pub none : is_held r ≡ false

-- what a reason says of a stored bit is what the register stores
abbrev pub Stored : Side → (p : ℕ) → State → Reason → Type 0
Stored side p s r = Says (stored_bit side p s) r

turned_same : (n : ℕ) (b : Bool) (r : Reason) → is_up r ≡ b → r ≡ turned n b r
turned_same n b never h = rw (← h)
turned_same n b (cleared_by k) h = rw (← h)
turned_same n b (set_by k) h = rw (← h)
turned_same n b (held hs) h = rw (← h)

pub turned_says : (n : ℕ) (b : Bool) (r : Reason) → is_held r ≡ false → Says b (turned n b r)
turned_says n true never h = record { up = refl; none = refl }
turned_says n true (cleared_by k) h = record { up = refl; none = refl }
turned_says n true (set_by k) h = record { up = refl; none = refl }
turned_says n true (held hs) h = no_both (sym h)
turned_says n false never h = record { up = refl; none = refl }
turned_says n false (cleared_by k) h = record { up = refl; none = refl }
turned_says n false (set_by k) h = record { up = refl; none = refl }
turned_says n false (held hs) h = no_both (sym h)

raise_turned : (n : ℕ) (r : Reason) → is_held r ≡ false → raise n r ≡ turned n true r
raise_turned n never h = refl
raise_turned n (cleared_by k) h = refl
raise_turned n (set_by k) h = refl
raise_turned n (held hs) h = no_both (sym h)

clear_turned : (n : ℕ) (r : Reason) → is_held r ≡ false → clear n r ≡ turned n false r
clear_turned n never h = refl
clear_turned n (cleared_by k) h = refl
clear_turned n (set_by k) h = refl
clear_turned n (held hs) h = no_both (sym h)

reset_turned : (n : ℕ) (r : Reason) → reset n r ≡ turned n false r
reset_turned n never = refl
reset_turned n (cleared_by k) = refl
reset_turned n (set_by k) = refl
reset_turned n (held hs) = refl

-- "stored event bits .. exclude 6 and 7": a stored position follows no FIFO
pub stored_follows_none : (side : Side) (p i : ℕ) → bit p (stored_mask side) ≡ true → follows p i ≡ false
stored_follows_none side p i h = by (eqb p 6) (eqb p 7) refl refl
  where
    absent : (k : ℕ) → bit k (stored_mask side) ≡ false → eqb p k ≡ true → ⊥
    absent k f e = no_both (sym f ∙ ap (λ p. bit p (stored_mask side)) (sym (eqb-true p k e)) ∙ h)

    by : (a b : Bool) → eqb p 6 ≡ a → eqb p 7 ≡ b → ((a && eqb i 1) || (b && eqb i 3)) ≡ false
    by true b e f = absurd (absent 6 (live_unstored side).0 e)
    by false true e f = absurd (absent 7 (live_unstored side).1 f)
    by false false e f = refl

-- the bit after a change of a register
raised_bit : (side by : Side) (p : ℕ) (e : Event) (s : State) → stored_bit side p (apply (raised by e) s) ≡ (stored_bit side p s || (not (not_by side by) && eqb p (position e)))
raised_bit host host p e s = bit_insert p _ e
raised_bit host local p e s = sym (or-false _)
raised_bit local host p e s = sym (or-false _)
raised_bit local local p e s = bit_insert p _ e

cleared_bit : (side by : Side) (p bits : ℕ) (s : State) → stored_bit side p (apply (cleared by bits) s) ≡ (stored_bit side p s && not (not (not_by side by) && bit p bits))
cleared_bit host host p bits s = bit_without p _ bits
cleared_bit host local p bits s = sym (and-true _)
cleared_bit local host p bits s = sym (and-true _)
cleared_bit local local p bits s = bit_without p _ bits

enables_bit : (side by : Side) (p enables : ℕ) (s : State) → stored_bit side p (apply (enables_are by enables) s) ≡ stored_bit side p s
enables_bit host host p enables s = refl
enables_bit host local p enables s = refl
enables_bit local host p enables s = refl
enables_bit local local p enables s = refl

-- these changes make of the reason what the bit's edge makes of it
abbrev Turns : Side → (p n : ℕ) → List Change → State → Reason → Type 0
Turns side p n cs s r = noted_all side p n cs r ≡ turned n (stored_bit side p (apply_all cs s)) r

module _ (side : Side) (p n : ℕ) (s : State) (r : Reason) where
  none_turns : Stored side p s r → Turns side p n [] s r
  none_turns h = turned_same n _ r h.up

  fresh_turns : Turns side p n (all_fresh ∷ []) s r
  fresh_turns = reset_turned n r ∙ ap (λ b. turned n b r) (sym (by side))
    where
      by : (side : Side) → stored_bit side p (apply all_fresh s) ≡ false
      by host = no_bit p
      by local = no_bit p

  raised_turns : (by : Side) (e : Event) → Stored side p s r → Turns side p n (raised by e ∷ []) s r
  raised_turns by e h = raises (not (not_by side by) && eqb p (position e)) (stored_bit side p s) h ∙ ap (λ b. turned n b r) (sym (raised_bit side by p e s))
    where
      raises : (t b : Bool) → Says b r → (if t then raise n r else r) ≡ turned n (b || t) r
      raises true true h = raise_turned n r h.none
      raises true false h = raise_turned n r h.none
      raises false true h = turned_same n true r h.up
      raises false false h = turned_same n false r h.up

  cleared_turns : (by : Side) (bits : ℕ) → Stored side p s r → Turns side p n (cleared by bits ∷ []) s r
  cleared_turns by bits h = clears (not (not_by side by) && bit p bits) (stored_bit side p s) h ∙ ap (λ b. turned n b r) (sym (cleared_bit side by p bits s))
    where
      clears : (t b : Bool) → Says b r → (if t then clear n r else r) ≡ turned n (b && not t) r
      clears true true h = clear_turned n r h.none
      clears true false h = clear_turned n r h.none
      clears false true h = turned_same n true r h.up
      clears false false h = turned_same n false r h.up

-- an event in both registers: that of the side counts
both_turn : (side : Side) (p n : ℕ) (s : State) (r : Reason) (e : Event) → Stored side p s r → Turns side p n (raised_in_both e) s r
both_turn host p n s r e h = raised_turns host p n s r host e h
both_turn local p n s r e h = raised_turns local p n s r local e h

written_turns : (side : Side) (p n : ℕ) (s : State) (r : Reason) (by : Side) (enables bits : ℕ) → Stored side p s r → Turns side p n (enables_are by enables ∷ cleared by bits ∷ []) s r
written_turns side p n s r by enables bits h =
    cleared_turns side p n (apply (enables_are by enables) s) r by bits (record { up = h.up ∙ sym (enables_bit side by p enables s); none = h.none })

module _ (side : Side) (p n : ℕ) (m : bit p (stored_mask side) ≡ true) (w : World) (r : Reason) (h : Stored side p w.card r) where
  abbrev TurnsBy : Effect → Type 0
  TurnsBy e = Turns side p n e.changes w.card r

  quiet : Turns side p n [] w.card r
  quiet = none_turns side p n w.card r h

  both : (e : Event) → Turns side p n (raised_in_both e) w.card r
  both e = both_turn side p n w.card r e h

  take_turns : (i : ℕ) (entries : List ℕ) → TurnsBy (taken_from i entries)
  take_turns i [] = quiet
  take_turns i (x ∷ l) = rw (stored_follows_none side p i m) quiet

  put_turns : (by : Side) (i entry : ℕ) (entries : List ℕ) → TurnsBy (put_into by i entries entry)
  put_turns by i entry entries = if_case TurnsBy (ltb (length entries) 32) _ _ (λ _. rw (stored_follows_none side p i m) quiet) (λ _. both (overflow by))

  step_turns : (d : Transfer) → TurnsBy (stepped w d)
  step_turns idle = quiet
  step_turns (running t i) =
      if_case TurnsBy (in_abort_range w.card.settings (pci_of t i)) _ _ (λ _. both target_abort)
      (λ _. if_case TurnsBy (outside_window w.card.settings (pci_of t i) 4) _ _ (λ _. both master_abort)
      (λ _. if_case TurnsBy (eqb (suc i) (t.size / 4)) _ _ (λ _. both dma_complete) (λ _. quiet)))

  kind_turns : (k : Kind) (q : Access) → TurnsBy (row_of k w q).effect
  kind_turns Kind.reset q = fresh_turns side p n w.card r
  kind_turns Kind.shared_read q = quiet
  kind_turns Kind.shared_write q = quiet
  kind_turns Kind.window_read q = quiet
  kind_turns Kind.window_write q = quiet
  kind_turns Kind.take q = take_turns q.s (entries_of w.card.fifos q.s)
  kind_turns Kind.put q = put_turns (side_of q.side) q.s q.b (entries_of w.card.fifos q.s)
  kind_turns Kind.claim q = if_case TurnsBy (flag (other (side_of q.side)) (pair_of w.card.arbitration q.s)) _ _ (λ _. quiet) (λ _. quiet)
  kind_turns Kind.release q = quiet
  kind_turns Kind.mailbox_write q =
      if_case (λ cs. Turns side p n (mail_is (side_of q.side) (q.b % 65536) ∷ cs) w.card r) (bit 24 q.b) _ _
      (λ _. raised_turns side p n w.card r (other (side_of q.side)) mailbox h) (λ _. quiet)
  kind_turns Kind.mailbox_read q = quiet
  kind_turns Kind.interrupt_read q = quiet
  kind_turns Kind.interrupt_write q = written_turns side p n w.card r (side_of q.side) (common (q.b / 65536) (enable_mask (side_of q.side))) q.b h
  kind_turns Kind.line q = quiet
  kind_turns Kind.start q = quiet
  kind_turns Kind.step q = step_turns w.card.transfer
  kind_turns Kind.external_pin q = raised_turns side p n w.card r host external h
  kind_turns Kind.unknown q = quiet

pub stored_step : (side : Side) (p n : ℕ) (w : World) (q : Access) (r : Reason) → bit p (stored_mask side) ≡ true → Stored side p w.card r →
    let r' = noted_all side p n (changes_by w q) r in
    (r' ≡ turned n (stored_bit side p (access w q).world.card) r) × Stored side p (access w q).world.card r'
stored_step side p n w q r m h =
    let e = by (refusal (checks w q)) refl in
    (e, subst (Says (stored_bit side p (access w q).world.card)) (sym e) (turned_says n _ r h.none))
  where
    by : (number : ℕ) → refusal (checks w q) ≡ number → noted_all side p n (changes_by w q) r ≡ turned n (stored_bit side p (access w q).world.card) r
    by zero e = rw (done_is w q e) (kind_turns side p n m w r h (kind_of q.kind) q)
    by (suc k) e = rw (refused_is w q k e, eqb-suc-zero k) (none_turns side p n w.card r h)

-- POSITIONS THAT FOLLOW A FIFO

-- a reason tells these entries, and says that the bit is set exactly where there are some
pub record Tells (l : List ℕ) (r : Reason) : Type 0 where
  pub entries : map (λ h. h.entry) (held_by r) ≡ l
  pub up : is_up r ≡ not (eqb (length (held_by r)) 0)

-- it tells what the FIFO holds
abbrev pub Live : (i : ℕ) → State → Reason → Type 0
Live i s r = Tells (entries_of s.fifos i) r

-- the bit is set exactly where the FIFO holds an entry
pub tells_up : (l : List ℕ) (r : Reason) → Tells l r → is_up r ≡ holds_entry l
tells_up l never h = ap holds_entry h.entries
tells_up l (cleared_by k) h = ap holds_entry h.entries
tells_up l (set_by k) h = no_both (sym h.up)
tells_up l (held []) h = no_both (sym h.up)
tells_up l (held (x ∷ hs)) h = ap holds_entry h.entries

-- record `n` leaves these entries and this reason
abbrev Goes : (n : ℕ) → (after : List ℕ) → (r r' : Reason) → Type 0
Goes n l r r' = Moved n (held_by r) (held_by r') × (r' ≡ settled_by n r (held_by r')) × Tells l r'

stays_so : (n : ℕ) (l : List ℕ) (r : Reason) → Tells l r → Goes n l r r
stays_so n l never h = (same, refl, h)
stays_so n l (cleared_by k) h = (same, refl, h)
stays_so n l (set_by k) h = no_both (sym h.up)
stays_so n l (held []) h = no_both (sym h.up)
stays_so n l (held (x ∷ hs)) h = (same, refl, h)

put_goes : (n entry : ℕ) (l : List ℕ) (r : Reason) → Tells l r → Goes n (l ++ (entry ∷ [])) r (put n entry r)
put_goes n entry l never h = (longer entry, refl, record { entries = ap (◌++ (entry ∷ [])) h.entries; up = refl })
put_goes n entry l (cleared_by k) h = (longer entry, refl, record { entries = ap (◌++ (entry ∷ [])) h.entries; up = refl })
put_goes n entry l (set_by k) h = no_both (sym h.up)
put_goes n entry l (held []) h = no_both (sym h.up)
put_goes n entry l (held (x ∷ hs)) h =
    (longer entry, refl, record { entries = map-append (λ h. h.entry) (x ∷ hs) _ ∙ ap (◌++ (entry ∷ [])) h.entries; up = rw (eqb-suc-zero (length (hs ++ (record { entry = entry; put_by = n } ∷ [])))) })

take_goes : (n : ℕ) (l : List ℕ) (r : Reason) → Tells l r → Goes n (drop 1 l) r (take n r)
take_goes n l never h = (same, refl, record { entries = ap (drop 1) h.entries; up = refl })
take_goes n l (cleared_by k) h = (same, refl, record { entries = ap (drop 1) h.entries; up = refl })
take_goes n l (set_by k) h = no_both (sym h.up)
take_goes n l (held []) h = no_both (sym h.up)
take_goes n l (held (x ∷ [])) h = (shorter, refl, record { entries = ap (drop 1) h.entries; up = refl })
take_goes n l (held (x ∷ y ∷ hs)) h = (shorter, refl, record { entries = ap (drop 1) h.entries; up = rw (eqb-suc-zero (length hs)) })

reset_goes : (n : ℕ) (l : List ℕ) (r : Reason) → Tells l r → Goes n [] r (reset n r)
reset_goes n l never h = (emptied, refl, record { entries = refl; up = refl })
reset_goes n l (cleared_by k) h = (emptied, refl, record { entries = refl; up = refl })
reset_goes n l (set_by k) h = no_both (sym h.up)
reset_goes n l (held hs) h = (emptied, refl, record { entries = refl; up = refl })

-- a write of the register changes no such reason: bits 6 and 7 "cannot be cleared by a write"
clear_keeps : (n : ℕ) (l : List ℕ) (r : Reason) → Tells l r → clear n r ≡ r
clear_keeps n l never h = refl
clear_keeps n l (cleared_by k) h = refl
clear_keeps n l (set_by k) h = no_both (sym h.up)
clear_keeps n l (held hs) h = refl

-- "Bits 6 and 7 follow FIFOs 1 and 3": what holds of both holds of any position that follows a FIFO
pub following : (P : (p i : ℕ) → Type 0) → P 6 1 → P 7 3 → (p i : ℕ) → follows p i ≡ true → P p i
following P six seven p i h = by (eqb p 6) (eqb i 1) (eqb p 7) (eqb i 3) refl refl refl refl h
  where
    at : (a b : ℕ) → P a b → eqb p a ≡ true → eqb i b ≡ true → P p i
    at a b x e f = rw (eqb-true p a e, eqb-true i b f) x

    by : (a b c d : Bool) → eqb p 6 ≡ a → eqb i 1 ≡ b → eqb p 7 ≡ c → eqb i 3 ≡ d → ((a && b) || (c && d)) ≡ true → P p i
    by true true c d e f g k t = at 6 1 six e f
    by true false true true e f g k t = at 7 3 seven g k
    by true false true false e f g k t = no_both t
    by true false false d e f g k t = no_both t
    by false b true true e f g k t = at 7 3 seven g k
    by false b true false e f g k t = no_both t
    by false b false d e f g k t = no_both t

-- a position follows one FIFO alone
follows_only : (p i : ℕ) → follows p i ≡ true → (j : ℕ) → follows p j ≡ eqb j i
follows_only = following (λ p i. (j : ℕ) → follows p j ≡ eqb j i) (λ j. or-false (eqb j 1)) (λ j. refl)

module _ (side : Side) (p i n : ℕ) (f : follows p i ≡ true) (w : World) (four : length w.card.fifos ≡ 4) (r : Reason) (h : Live i w.card r) where
  abbrev fs : Fifos
  fs = w.card.fifos

  abbrev GoesWith : List Change → Type 0
  GoesWith cs = Goes n (entries_of (apply_all cs w.card).fifos i) r (noted_all side p n cs r)

  abbrev GoesBy : Effect → Type 0
  GoesBy e = GoesWith e.changes

  calm : Goes n (entries_of fs i) r r
  calm = stays_so n (entries_of fs i) r h

  -- no event at this position is ever raised
  unraised : (by : Side) (e : Event) → eqb p (position e) ≡ false → noted side p n (raised by e) r ≡ r
  unraised by e k = rw (k, and-false (not (not_by side by)))

  both_calm : (e : Event) → eqb p (position e) ≡ false → GoesWith (raised_in_both e)
  both_calm e k = rw (unraised host e k, unraised local e k) calm

  elsewhere : (e : Event) → eqb 6 (position e) ≡ false → eqb 7 (position e) ≡ false → eqb p (position e) ≡ false
  elsewhere e a b = following (λ p i. eqb p (position e) ≡ false) a b p i f

  room : i < length fs
  room = rw four (following (λ p i. i < 4) (omega arith) (omega arith) p i f)

  -- another FIFO, or this one, with other entries
  replaced_goes : (j : ℕ) (l : List ℕ) (g : Reason → Reason) → (j ≡ i → Goes n l r (g r)) → Goes n (entries_of (set fs j l) i) r (if follows p j then g r else r)
  replaced_goes j l g k = rw (follows_only p i f j) (by (eqb j i) refl)
    where
      by : (t : Bool) → eqb j i ≡ t → Goes n (entries_of (set fs j l) i) r (if t then g r else r)
      by true e = rw (eqb-true j i e, get_or-set_same fs i l [] room) (k (eqb-true j i e))
      by false e = rw (get_or-set_other fs j i l [] (λ c. eqb-false j i e (sym c))) calm

  take_live : (j : ℕ) (entries : List ℕ) → GoesBy (taken_from j entries)
  take_live j [] = calm
  take_live j (x ∷ l) = replaced_goes j (drop 1 (entries_of fs j)) (take n) (λ e. rw e (take_goes n (entries_of fs i) r h))

  put_live : (by : Side) (j entry : ℕ) (entries : List ℕ) → GoesBy (put_into by j entries entry)
  put_live by j entry entries =
      if_case GoesBy (ltb (length entries) 32) _ _
      (λ _. replaced_goes j (entries_of fs j ++ (entry ∷ [])) (put n entry) (λ e. rw e (put_goes n entry (entries_of fs i) r h)))
      (λ _. both_calm (overflow by) (over by))
    where
      over : (by : Side) → eqb p (position (overflow by)) ≡ false
      over host = elsewhere pci_overflow refl refl
      over local = elsewhere local_overflow refl refl

  reset_live : Goes n (entries_of fresh_fifos i) r (reset n r)
  reset_live = rw (following (λ p i. entries_of fresh_fifos i ≡ []) refl refl p i f) (reset_goes n (entries_of fs i) r h)

  written_live : (by : Side) (bits : ℕ) → Goes n (entries_of fs i) r (noted side p n (cleared by bits) r)
  written_live by bits = if_case (Goes n (entries_of fs i) r) (not (not_by side by) && bit p bits) _ _ (λ _. rw (clear_keeps n (entries_of fs i) r h) calm) (λ _. calm)

  step_live : (d : Transfer) → GoesBy (stepped w d)
  step_live idle = calm
  step_live (running t k) =
      if_case GoesBy (in_abort_range w.card.settings (pci_of t k)) _ _ (λ _. both_calm target_abort (elsewhere target_abort refl refl))
      (λ _. if_case GoesBy (outside_window w.card.settings (pci_of t k) 4) _ _ (λ _. both_calm master_abort (elsewhere master_abort refl refl))
      (λ _. if_case GoesBy (eqb (suc k) (t.size / 4)) _ _ (λ _. both_calm dma_complete (elsewhere dma_complete refl refl)) (λ _. calm)))

  kind_live : (k : Kind) (q : Access) → GoesBy (row_of k w q).effect
  kind_live Kind.reset q = reset_live
  kind_live Kind.shared_read q = calm
  kind_live Kind.shared_write q = calm
  kind_live Kind.window_read q = calm
  kind_live Kind.window_write q = calm
  kind_live Kind.take q = take_live q.s (entries_of fs q.s)
  kind_live Kind.put q = put_live (side_of q.side) q.s q.b (entries_of fs q.s)
  kind_live Kind.claim q = if_case GoesBy (flag (other (side_of q.side)) (pair_of w.card.arbitration q.s)) _ _ (λ _. calm) (λ _. calm)
  kind_live Kind.release q = calm
  kind_live Kind.mailbox_write q =
      if_case (λ cs. GoesWith (mail_is (side_of q.side) (q.b % 65536) ∷ cs)) (bit 24 q.b) _ _
      (λ _. rw (unraised (other (side_of q.side)) mailbox (elsewhere mailbox refl refl)) calm) (λ _. calm)
  kind_live Kind.mailbox_read q = calm
  kind_live Kind.interrupt_read q = calm
  kind_live Kind.interrupt_write q = written_live (side_of q.side) q.b
  kind_live Kind.line q = calm
  kind_live Kind.start q = calm
  kind_live Kind.step q = step_live w.card.transfer
  kind_live Kind.external_pin q = rw (unraised host external (elsewhere external refl refl)) calm
  kind_live Kind.unknown q = calm

pub live_step : (side : Side) (p i n : ℕ) (w : World) (q : Access) (r : Reason) → follows p i ≡ true → length w.card.fifos ≡ 4 → Live i w.card r →
    let r' = noted_all side p n (changes_by w q) r in
    Moved n (held_by r) (held_by r') × (r' ≡ settled_by n r (held_by r')) × Live i (access w q).world.card r'
live_step side p i n w q r f four h = by (refusal (checks w q)) refl
  where
    by : (number : ℕ) → refusal (checks w q) ≡ number → Goes n (entries_of (access w q).world.card.fifos i) r (noted_all side p n (changes_by w q) r)
    by zero e = rw (done_is w q e) (kind_live side p i n f w four r h (kind_of q.kind) q)
    by (suc k) e = rw (refused_is w q k e, eqb-suc-zero k) (stays_so n (entries_of w.card.fifos i) r h)
