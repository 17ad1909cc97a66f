-- A trace half explained: from one record to the next a reason agrees with what the card shows, and the history knows it.
use Rattle.std.specs.Prelude.{◌≡◌, Bool, not, ◌&&◌, ◌||◌, List, [], ◌∷◌, map, ℕ, zero, suc, ◌+◌, ◌-◌, ◌*◌, ◌/◌, ◌≤◌, ◌<◌, length, drop, eqb, if◌then◌else◌}
use Rattle.std.proofs.Math.Path.{refl, sym}
use Rattle.std.proofs.Common.{ap, ◌∙◌, inl, inr, true≢false, arith, add-one, length-drop, drop-drop, eqb-true, ltb-false}
use Rattle.std.proofs.Math.Bool.{true, false}
use Rattle.std.proofs.lemmas.List.{length-map}
use Rattle.model.specs.Checks.{Check, ◌for◌, refusal, above}
use Rattle.model.specs.Sides.{Side, host, local, side_of}
use Rattle.model.specs.Events.{inbound_post, outbound_post, bit, insert, stored_mask, enable_mask}
use Rattle.model.specs.Fifos.{entries_of}
use Rattle.model.specs.Interrupts.{register}
use Rattle.model.specs.Interrupts as interrupts
use Rattle.model.specs.State.{State, World, sound, fresh_card}
use Rattle.model.specs.Accesses as words
use Rattle.model.specs.Accesses.{fit, access}
use Rattle.model.specs.Bench.{bench}
use Rattle.model.specs.Trace.{recorded, refused, read_record, access_at}
use Rattle.model.proofs.TraceLaws.{recorded_is}
use Rattle.model.specs.Replay.{Standing, logged, replay, replay_start}
use Rattle.model.proofs.ReplayLaws.{replay_stopped, replay_none, replay_more}
use Rattle.model.proofs.TestLaws.{and_left, or_left, or_right, if_case}
use Rattle.model.proofs.EventLaws.{no_bit, bit_insert}
use Rattle.model.proofs.Soundness.{sound_parts_lem, fit_parts, fifo_sound_lem, stays, stays_fit}
use Rattle.model.specs.Why.{Reason, never, noted_all, changes_by, history, accesses_from, accesses_in, follows, reserved, places, because, why, same, stored_bit, Moved, held_by, is_up}
use Rattle.model.specs.Why as model
use Rattle.model.proofs.ReasonLaws.{is_held, Stored, stored_step, Live, live_step}
use Rattle.fifos.specs.Bridge.{fifos_as}
use Rattle.fifos.specs.Laws.{length_entries}
use Rattle.interrupts.specs.Bridge.{interrupts_as}
use Rattle.card.specs.declared.Card.{Card}
use Rattle.card.specs.Bridge.{state_as}
use Rattle.card.specs.Laws.{fifos_is, interrupts_is}
use Rattle.zeroed.specs.Bridge.{zeros}
use Rattle.standing.specs.Bridge.{PerformedOn, performed}
use Rattle.history.specs.declared.History.{History}
use Rattle.history.specs.Bridge.{Knows, Next}
use Rattle.why.specs.Bridge.{is_live, fifo_of, entries_for, shown_by}

-- WHAT A CARD SHOWS

module _ (card : Card) (p : ℕ) where
  pub live_shown : (side n i : ℕ) → is_live p ≡ true → i ≡ fifo_of p → n ≡ length (entries_of (fifos_as card.fifos) i) →
      record { up = not (eqb n 0); held = n } ≡ shown_by (side_of side) p (state_as card)
  live_shown side n i l f e = rw (l, fifos_is card, ← f, ← e)

  pub stored_shown : (side : ℕ) (b : Bool) (r : interrupts.Register) → is_live p ≡ false → r ≡ register (side_of side) (interrupts_as card.interrupts) → b ≡ bit p r.status →
      record { up = b; held = 0 } ≡ shown_by (side_of side) p (state_as card)
  stored_shown side b r l e f = rw (l, interrupts_is card, ← e, f)

  pub live_entries : (i : ℕ) (r : List ℕ) → is_live p ≡ true → i ≡ fifo_of p → r ≡ places (entries_of (fifos_as card.fifos) i) → r ≡ places (entries_for p (state_as card))
  live_entries i r l f e = rw (l, fifos_is card, ← f) e

  pub at_most_32 : (i : ℕ) → sound (state_as card) ≡ true → length (entries_of (fifos_as card.fifos) i) ≤ 32
  at_most_32 i h = rw (← fifos_is card) (fifo_sound_lem (state_as card).fifos i (sound_parts_lem (state_as card) h).fifos)

-- A POSITION THAT IS NOT RESERVED

follows_its : (p : ℕ) → is_live p ≡ true → follows p (fifo_of p) ≡ true
follows_its p = by (eqb p 6) (eqb p 7)
  where
    by : (six seven : Bool) → (six || seven) ≡ true → ((six && eqb (if six then 1 else 3) 1) || (seven && eqb (if six then 1 else 3) 3)) ≡ true
    by true seven h = refl
    by false true h = refl
    by false false h = h

-- one that follows no FIFO is stored
stored_there : (side : Side) (p : ℕ) → reserved side p ≡ false → is_live p ≡ false → bit p (stored_mask side) ≡ true
stored_there side p known l =
    by (bit p (stored_mask side)) (eqb p 6) (eqb p 7) l
    (sym (bit_insert p (insert (stored_mask side) outbound_post) inbound_post ∙ ap (◌|| eqb p 6) (bit_insert p (stored_mask side) outbound_post)) ∙ enabled)
  where
    off : (b : Bool) → not b ≡ false → b ≡ true
    off true h = refl
    off false h = sym h

    enabled : bit p (enable_mask side) ≡ true
    enabled = off (bit p (enable_mask side)) (or_right (above 9 p) (not (bit p (enable_mask side))) known)

    by : (stored six seven : Bool) → (six || seven) ≡ false → ((stored || seven) || six) ≡ true → stored ≡ true
    by true six seven n h = refl
    by false false false n h = h
    by false true seven n h = sym n
    by false false true n h = sym n

pub small_position : (side : Side) (p : ℕ) → reserved side p ≡ false → p < 32
small_position side p known = omega (arith, ltb-false 9 p (or_left (above 9 p) (not (bit p (enable_mask side))) known))

-- a reason agrees with what a card shows
pub record Agrees (side : Side) (p : ℕ) (s : State) (r : Reason) : Type 0 where
  pub stored : is_live p ≡ false → Stored side p s r
  pub live : is_live p ≡ true → Live (fifo_of p) s r

none_held : (r : Reason) → is_held r ≡ false → held_by r ≡ []
none_held never h = refl
none_held (model.cleared_by n) h = refl
none_held (model.set_by n) h = refl
none_held (model.held hs) h = absurd (true≢false h)

-- as many entries as the reason holds
pub entries_held : {side : Side} {p : ℕ} {s : State} {r : Reason} → Agrees side p s r → map (λ h. h.entry) (held_by r) ≡ entries_for p s
entries_held {p = p} {s = s} {r = r} a = by (is_live p) refl
  where
    by : (b : Bool) → is_live p ≡ b → map (λ h. h.entry) (held_by r) ≡ (if b then entries_of s.fifos (fifo_of p) else [])
    by true e = (a.live e).entries
    by false e = ap (map (λ h. h.entry)) (none_held r (a.stored e).none)

pub few_entries : (p : ℕ) (s : State) → sound s ≡ true → length (entries_for p s) ≤ 32
few_entries p s h = if_case (λ (l : List ℕ). length l ≤ 32) (is_live p) _ _ (λ _. fifo_sound_lem s.fifos (fifo_of p) (sound_parts_lem s h).fifos) (λ _. omega arith)

module _ (side : Side) (p : ℕ) (known : reserved side p ≡ false) where
  -- the fresh card shows nothing, and nothing has happened
  fresh_agrees : Agrees side p bench.card never
  unfolding bench fresh_card
  fresh_agrees = record { stored = λ _. record { up = sym (none side); none = refl }; live = λ _. record { entries = empty (eqb p 6); up = refl } }
    where
      none : (side : Side) → stored_bit side p bench.card ≡ false
      none host = no_bit p
      none local = no_bit p

      empty : (six : Bool) → [] ≡ entries_of bench.card.fifos (if six then 1 else 3)
      empty true = refl
      empty false = refl

  -- an access more
  agrees_next : (n : ℕ) (w : World) (q : words.Access) (r : Reason) → fit w ≡ true → Agrees side p w.card r →
      let r' = noted_all side p n (changes_by w q) r in
      let s' = (access w q).world.card in
      Agrees side p s' r' × Next n (shown_by side p s').up (shown_by side p s').held r r'
  agrees_next n w q r h a = by (is_live p) refl
    where
      four : length w.card.fifos ≡ 4
      four = eqb-true (length w.card.fifos) 4 (and_left _ _ (sound_parts_lem w.card (fit_parts w h).sound).fifos)

      r' : Reason
      r' = noted_all side p n (changes_by w q) r

      s' : State
      s' = (access w q).world.card

      by : (b : Bool) → is_live p ≡ b → Agrees side p s' r' × Next n (shown_by side p s').up (shown_by side p s').held r r'
      by true e =
          let step = live_step side p (fifo_of p) n w q r (follows_its p e) four (a.live e) in
          let size = sym (length-map (held_by r') (λ h. h.entry)) ∙ ap length step.2.entries in (
            record { stored = λ f. absurd (true≢false (sym e ∙ f)); live = λ _. step.2 },
            rw e (record { bit = step.2.up ∙ ap (λ n. not (eqb n 0)) size; size = size; moved = step.0; reason = inr step.1 }),
          )
      by false e =
          let step = stored_step side p n w q r (stored_there side p known e) (a.stored e) in
          let before = none_held r (a.stored e).none in
          let after = none_held r' step.1.none in (
            record { stored = λ _. step.1; live = λ f. absurd (true≢false (sym f ∙ e)) },
            rw e (record { bit = step.1.up; size = ap length after; moved = rw (before, after) same; reason = inl step.0 }),
          )

-- A TRACE HALF EXPLAINED

-- So many records are done, and the reason so far is known: the rest of the trace gives the whole one.
pub record Half (trace : List ℕ) (side : Side) (p : ℕ) (s : Standing) (h : History) (at : ℕ) : Type 0 where
  pub reason : Reason
  pub place : at ≡ 20 * s.count
  pub within : at ≤ length trace
  pub number : s.expected ≡ s.count
  pub going : s.stopped ≡ false
  pub fits : fit s.world ≡ true
  pub shared : length s.world.shared ≡ length (zeros 16384)
  pub window : length s.world.window ≡ length (zeros 32768)
  pub agrees : Agrees side p s.world.card reason
  pub knows : Knows h reason
  pub rest : history side p 0 never bench (accesses_in trace) ≡ history side p s.count reason s.world (accesses_from (length trace / 20 - s.count) (drop at trace))
  pub ends : (replay replay_start trace).standing.stopped ≡ (replay s (drop at trace)).standing.stopped

bench_fit : fit bench ≡ true
unfolding bench sound fresh_card
bench_fit = refl

bench_sizes : (length bench.shared ≡ length (zeros 16384)) × (length bench.window ≡ length (zeros 32768))
unfolding bench zeros
bench_sizes = (refl, refl)

history_more : (side : Side) (p n k : ℕ) (r : Reason) (w : World) (bytes : List ℕ) (q : words.Access) → access_at bytes ≡ q →
    history side p n r w (accesses_from (suc k) bytes) ≡ history side p (suc n) (noted_all side p n (changes_by w q) r) (access w q).world (accesses_from k (drop 20 bytes))
unfolding history accesses_from
history_more side p n k r w bytes q e =
    ap (λ (a : words.Access). history side p (suc n) (noted_all side p n (changes_by w a) r) (access w a).world (accesses_from k (drop 20 bytes))) e

history_none : (side : Side) (p n : ℕ) (r : Reason) (w : World) (bytes : List ℕ) → history side p n r w (accesses_from 0 bytes) ≡ r
unfolding history accesses_from
history_none side p n r w bytes = refl

module _ {trace : List ℕ} {side : Side} {p : ℕ} (known : reserved side p ≡ false) where
  pub all_ahead : (s : Standing) (h : History) → s ≡ replay_start → Knows h never → Half trace side p s h 0
  all_ahead s h e k =
      let all : length trace / 20 - 0 ≡ length trace / 20 = omega arith in
      rw e
      (record { reason = never; place = refl; within = omega arith; number = refl; going = refl; fits = bench_fit; shared = bench_sizes.0; window = bench_sizes.1; agrees = fresh_agrees side p known; knows = k; rest = rw all; ends = refl })

  module _ {s : Standing} {h : History} {at : ℕ} (f : Half trace side p s h at) where
    -- the reader takes a record
    pub one_explained : {q : words.Access} {h' : History} (o : PerformedOn) → at < length trace → recorded q ≡ read_record (drop at trace) s.expected → o ≡ performed s q → length trace ≤ 81920 →
        ((r r' : Reason) → Knows h r → Next s.count (shown_by side p o.standing.world.card).up (shown_by side p o.standing.world.card).held r r' → Knows h' r') →
        Half trace side p o.standing h' (at + 20)
    one_explained {q} {h'} o l read done most next =
        let bytes = drop at trace in
        let stands = recorded_is s.expected q bytes (sym read) in
        let more : length trace / 20 - s.count ≡ suc (length trace / 20 - (s.count + 1)) = omega (arith, stands.long, length-drop at trace, f.place, f.within) in
        let step = agrees_next side p known s.count s.world q f.reason f.fits f.agrees in
        rw done
        (record {
          reason = noted_all side p s.count (changes_by s.world q) f.reason;
          place = omega (arith, f.place);
          within = omega (arith, stands.long, length-drop at trace);
          number = omega (arith, f.number, f.place, l, most);
          going = f.going;
          fits = stays_fit s.world q f.fits;
          shared = (stays s.world q).shared ∙ f.shared;
          window = (stays s.world q).window ∙ f.window;
          agrees = step.0;
          knows = (rw done at next) f.reason _ f.knows step.1;
          rest = f.rest ∙ rw (more, history_more side p s.count _ f.reason s.world bytes q stands.access, drop-drop 20 at trace, ← add-one s.count);
          ends = f.ends ∙ rw (replay_more s bytes (omega (arith, length-drop at trace)) f.going, ← read, drop-drop 20 at trace);
        })

    -- it refuses one
    pub refused_there : (n : ℕ) → at < length trace → refused n ≡ read_record (drop at trace) s.expected → (replay replay_start trace).standing.stopped ≡ true
    refused_there n l read =
        let bytes = drop at trace in
        f.ends ∙ rw (replay_more s bytes (omega (arith, length-drop at trace)) f.going, ← read, replay_stopped (logged s n).standing (drop 20 bytes) refl)

    -- no record is left
    pub all_explained : length trace ≤ at → ((replay replay_start trace).standing.stopped ≡ false) × (history side p 0 never bench (accesses_in trace) ≡ f.reason)
    all_explained l =
        let none : length trace / 20 - s.count ≡ 0 = omega (arith, f.place) in
        (f.ends ∙ rw (replay_none s (drop at trace) (omega (arith, length-drop at trace))) f.going, f.rest ∙ rw none (history_none side p s.count f.reason s.world (drop at trace)))

    -- what the code learns of the card, behind the last record and behind one more
    pub few_shown : (q : words.Access) (o : PerformedOn) → o ≡ performed s q → (shown_by side p o.standing.world.card).held ≤ 32
    few_shown q o done = rw done (few_entries p (access s.world q).world.card (fit_parts (access s.world q).world (stays_fit s.world q f.fits)).sound)

    pub card_sound : sound s.world.card ≡ true
    card_sound = (fit_parts s.world f.fits).sound

    pub few_puts : h.puts.count ≤ 32
    few_puts =
        let puts = sym (length_entries h.puts) ∙ ap length f.knows.puts ∙ length-map (held_by f.reason) (λ h. h.put_by) in
        let held = sym (length-map (held_by f.reason) (λ h. h.entry)) ∙ ap length (entries_held f.agrees) in
        omega (arith, puts, held, few_entries p s.world.card card_sound)

-- THE ANSWER

module _ (trace : List ℕ) (side p : ℕ) (one : above 1 side ≡ false) (known : reserved (side_of side) p ≡ false) (short : above 81920 (length trace) ≡ false) where
  pub why_refused : (replay replay_start trace).standing.stopped ≡ true → why trace side p ≡ model.refused 40
  unfolding why
  why_refused h = rw (one, known, short, h)

  pub why_because : (r : Reason) → ((replay replay_start trace).standing.stopped ≡ false) × (history (side_of side) p 0 never bench (accesses_in trace) ≡ r) → why trace side p ≡ because r
  unfolding why
  why_because r h = rw (one, known, short, h.0, h.1)

-- the causes that are looked at before the trace is run
abbrev early : (trace : List ℕ) → (side p : ℕ) → List Check
early trace side p = 43 for above 1 side ∷ 42 for reserved (side_of side) p ∷ 41 for above 81920 (length trace) ∷ []

module _ (trace : List ℕ) (side p n : ℕ) (e : n ≡ refusal (early trace side p)) where
  pub none_early : n ≡ 0 → (above 1 side ≡ false) × (reserved (side_of side) p ≡ false) × (above 81920 (length trace) ≡ false)
  none_early z = by (above 1 side) (reserved (side_of side) p) (above 81920 (length trace)) (sym e ∙ z)
    where
      by : (a b c : Bool) → refusal (43 for a ∷ 42 for b ∷ 41 for c ∷ []) ≡ 0 → (a ≡ false) × (b ≡ false) × (c ≡ false)
      by false false false h = (refl, refl, refl)
      by true b c h = absurd (omega arith)
      by false true c h = absurd (omega arith)
      by false false true h = absurd (omega arith)

  pub early_refused : (n ≡ 0 → ⊥) → why trace side p ≡ model.refused n
  unfolding why
  early_refused z = rw (by (above 1 side) (reserved (side_of side) p) (above 81920 (length trace)) (replay replay_start trace).standing.stopped (λ y. z (e ∙ y)) ∙ sym e) (alone n z _)
    where
      by : (a b c d : Bool) → (refusal (43 for a ∷ 42 for b ∷ 41 for c ∷ []) ≡ 0 → ⊥) →
          refusal (43 for a ∷ 42 for b ∷ 41 for c ∷ 40 for d ∷ []) ≡ refusal (43 for a ∷ 42 for b ∷ 41 for c ∷ [])
      by true b c d h = refl
      by false true c d h = refl
      by false false true d h = refl
      by false false false d h = absurd (h refl)

      alone : (n : ℕ) → (n ≡ 0 → ⊥) → (r : Reason) → model.answered_by n r ≡ model.refused n
      alone zero z r = absurd (z refl)
      alone (suc n) z r = refl
