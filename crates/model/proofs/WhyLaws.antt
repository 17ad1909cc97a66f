-- Document 02, L7: the answer is told by what the register shows before each record (T7.1, T7.2), by the accepted puts (T7.3), and its refusals
-- by their causes (T7.4). Each record moves the reason as it moves the register, so the laws of one access and of any sequence of bits give it.
use Rattle.std.specs.Prelude.{◌≡◌, ◌≢◌, ◌↔◌, Bool, true, false, ◌||◌, List, [], ◌∷◌, ◌++◌, map, ℕ, zero, suc, ◌≤◌, ◌<◌, length, eqb, if◌then◌else◌}
use Rattle.std.proofs.Math.Path.{refl, ap}
use Rattle.std.proofs.Common.{sym, ◌∙◌, zero-add, arith, lit<, ltb-true, ltb-false, lt-ltb}
use Rattle.std.proofs.lemmas.Bool.{not-false}
use Rattle.model.specs.Checks.{refusal, First, above}
use Rattle.model.specs.Sides.{Side, host, local, side_of}
use Rattle.model.specs.Events.{bit, inbound_post, outbound_post, insert, stored_mask}
use Rattle.model.specs.Fifos.{entries_of}
use Rattle.model.specs.State.{World, fresh_card}
use Rattle.model.specs.InterruptRegisters.{register_read}
use Rattle.model.specs.Interrupts.{register}
use Rattle.model.specs.Runs.{run}
use Rattle.model.specs.Accesses.{fit, access, does}
use Rattle.model.specs.Bench.{q, bench}
use Rattle.model.specs.Trace.{number_after}
use Rattle.model.specs.Replay.{records_in, replay, replay_start}
use Rattle.model.proofs.TestLaws.{all_imply, all_map, all_behind, no_both, or_left, or_right}
use Rattle.model.specs.Choice.{All}
use Rattle.model.proofs.CheckLaws.{Pass, Positive, passed_all, pass_refusal, first_given, first_positive}
use Rattle.model.proofs.KindLaws.{kind_is}
use Rattle.model.proofs.EventLaws.{no_bit, bit_insert}
use Rattle.model.proofs.InterruptLaws.{holds_entry, live_follows, stored_shows, value_bit}
use Rattle.model.proofs.Soundness.{fit_parts, sound_parts_lem, register_sound_lem}
use Rattle.model.proofs.FifoRuns.{four_fifos}
use Rattle.model.proofs.HeldLaws.{puts_of, Rising, AcceptedPut, PutAt, held_puts, rising_behind, puts_rising, puts_made, one_for_both}
use Rattle.model.specs.Why.{Holding, Reason, never, cleared_by, set_by, held, follows, history, accesses_in, reserved, why_checks, refused, because, answered_by, why, stored_bit, turned, held_by, is_up}
use Rattle.model.proofs.ReasonLaws.{is_held, down_none, Stored, Live, following, tells_up, stored_step, live_step}
use Rattle.model.proofs.EdgeLaws.{Largest, Explains, Turning, turning_explains, never_always, cleared_last, set_last, by_bits, turning_by_bits}
use Rattle.model.proofs.WhyRuns.{card_at, record_at, reason_at, first_card, first_reason, next_card, next_reason, last_reason, cards_fit, bench_fit, runs_as_replay, access_is, accesses_records}

-- WHAT THE REGISTER SHOWS

-- "bit(i) = bit p of the register of that side as kind 11 would read it from ci"
abbrev pub shown : (trace : List ℕ) → (side p i : ℕ) → Bool
shown trace side p i = bit p (access (card_at trace i) (q 11 side 0 0 0 0)).answer.v

module _ (w : World) (side : ℕ) (f : fit w ≡ true) (s : above 1 side ≡ false) where
  read_is : (access w (q 11 side 0 0 0 0)).answer.v ≡ register_read (side_of side) w.card
  unfolding does
  read_is = ap (λ o. o.answer.v) (kind_is 11 w (q 11 side 0 0 0 0) f s refl refl)

  shows_stored : (p : ℕ) → p < 16 → eqb p 6 ≡ false → eqb p 7 ≡ false → bit p (access w (q 11 side 0 0 0 0)).answer.v ≡ stored_bit (side_of side) p w.card
  shows_stored p l a b = ap (bit p) read_is ∙ value_bit _ (register (side_of side) w.card.interrupts) p l ∙ stored_shows w.card.fifos (register (side_of side) w.card.interrupts) p a b

  shows_live : (p i : ℕ) → follows p i ≡ true → bit p (access w (q 11 side 0 0 0 0)).answer.v ≡ holds_entry (entries_of w.card.fifos i)
  shows_live =
      let r = register (side_of side) w.card.interrupts in
      let sound = register_sound_lem (side_of side) w.card.interrupts (sound_parts_lem w.card (fit_parts w f).sound).interrupts in
      let both = live_follows (side_of side) w.card.fifos r sound in
      following (λ p i. bit p (access w (q 11 side 0 0 0 0)).answer.v ≡ holds_entry (entries_of w.card.fifos i))
      (ap (bit 6) read_is ∙ value_bit _ r 6 (omega arith) ∙ both.0)
      (ap (bit 7) read_is ∙ value_bit _ r 7 (omega arith) ∙ both.1)

-- WHAT IS GIVEN

-- the reason at the end
abbrev pub reason_of : (trace : List ℕ) → (side p : ℕ) → Reason
reason_of trace side p = history (side_of side) p 0 never bench (accesses_in trace)

-- a trace that is not refused, and the reason that is answered
record Given (trace : List ℕ) (side p : ℕ) (r : Reason) : Type 0 where
  caller : above 1 side ≡ false
  position : reserved (side_of side) p ≡ false
  short : above 81920 (length trace) ≡ false
  read : (replay replay_start trace).standing.stopped ≡ false
  is : reason_of trace side p ≡ r

-- every number of its row differs from 0
positive : (trace : List ℕ) (side p : ℕ) → Positive (why_checks trace side p)
positive trace side p = (lit< tt, (lit< tt, (lit< tt, (lit< tt, tt))))

given : (trace : List ℕ) (side p : ℕ) (r : Reason) → why trace side p ≡ because r → Given trace side p r
unfolding why
given trace side p r h = by (refusal (why_checks trace side p)) refl h
  where
    by : (n : ℕ) → refusal (why_checks trace side p) ≡ n → answered_by n (reason_of trace side p) ≡ because r → Given trace side p r
    by zero e k =
        let c = passed_all (why_checks trace side p) (positive trace side p) e in
        record { caller = c.0; position = c.1.0; short = c.1.1.0; read = c.1.1.1.0; is = cc }
    by (suc n) e k = no_both (cc)

-- a position that has an enable is stored, or follows a FIFO
data Sort (side : Side) (p : ℕ) : Type 0 where
  stored : bit p (stored_mask side) ≡ true → eqb p 6 ≡ false → eqb p 7 ≡ false → Sort side p
  live : (i : ℕ) → follows p i ≡ true → Sort side p

sort : (side : Side) (p : ℕ) → reserved side p ≡ false → Sort side p
sort side p h = by (eqb p 6) (eqb p 7) refl refl
  where
    enabled : ((bit p (stored_mask side) || eqb p 7) || eqb p 6) ≡ true
    enabled =
        sym (bit_insert p (insert (stored_mask side) outbound_post) inbound_post ∙ ap (◌|| eqb p 6) (bit_insert p (stored_mask side) outbound_post))
        ∙ not-false _ (or_right (above 9 p) _ h)

    by : (a b : Bool) → eqb p 6 ≡ a → eqb p 7 ≡ b → Sort side p
    by true b e f = live 1 (rw e)
    by false true e f = live 3 (rw (e, f))
    by false false e f = stored (plain (bit p (stored_mask side)) (rw (e, f) at enabled)) e f
      where
        plain : (b : Bool) → (b || false || false) ≡ true → b ≡ true
        plain true h = refl
        plain false h = no_both h

-- THE REASON FOLLOWS THE REGISTER

-- on the replay's fresh card no bit is set, and no entry held
bench_stored : (side : Side) (p : ℕ) → Stored side p bench.card never
unfolding bench fresh_card
bench_stored host p = record { up = sym (no_bit p); none = refl }
bench_stored local p = record { up = sym (no_bit p); none = refl }

bench_live : (p i : ℕ) → follows p i ≡ true → Live i bench.card never
unfolding bench fresh_card
bench_live = following (λ p i. Live i bench.card never) (record { entries = refl; up = refl }) (record { entries = refl; up = refl })

module _ (trace : List ℕ) (side p : ℕ) (r : Reason) (g : Given trace side p r) where
  abbrev n : ℕ
  n = records_in trace

  abbrev own : Side
  own = side_of side

  low : p < 16
  low = let l = ltb-false 9 p (or_left (above 9 p) _ g.position) in omega arith

  fits : (i : ℕ) → i ≤ n → fit (card_at trace i) ≡ true
  fits = cards_fit trace g.read

  module _ (m : bit p (stored_mask own) ≡ true) (a : eqb p 6 ≡ false) (b : eqb p 7 ≡ false) where
    shows : (i : ℕ) → i ≤ n → shown trace side p i ≡ stored_bit own p (card_at trace i).card
    shows i l = shows_stored (card_at trace i) side (fits i l) g.caller p low a b

    stored_along : (i : ℕ) → i ≤ n → Stored own p (card_at trace i).card (reason_at trace own p i)
    stored_along zero l = rw (first_card trace, first_reason trace own p) (bench_stored own p)
    stored_along (suc i) l =
        rw (next_reason trace g.read own p i l, next_card trace g.read i l)
        (stored_step own p i (card_at trace i) (record_at trace i) (reason_at trace own p i) m (stored_along i (omega arith))).1

    stored_turning : Turning n (shown trace side p) (reason_at trace own p)
    stored_turning = record {
      first = first_reason trace own p;
      up = λ i l. (stored_along i l).up ∙ sym (shows i l);
      turns = λ i l.
          next_reason trace g.read own p i l
          ∙ (stored_step own p i (card_at trace i) (record_at trace i) (reason_at trace own p i) m (stored_along i (omega arith))).0
          ∙ ap (λ b. turned i b (reason_at trace own p i)) (ap (λ w. stored_bit own p w.card) (sym (next_card trace g.read i l)) ∙ sym (shows (suc i) l));
    }

  module _ (i : ℕ) (f : follows p i ≡ true) where
    four : (k : ℕ) → k ≤ n → length (card_at trace k).card.fifos ≡ 4
    four k l = four_fifos (card_at trace k) (fits k l)

    live_along : (k : ℕ) → k ≤ n → Live i (card_at trace k).card (reason_at trace own p k)
    live_along zero l = rw (first_card trace, first_reason trace own p) (bench_live p i f)
    live_along (suc k) l =
        rw (next_reason trace g.read own p k l, next_card trace g.read k l)
        (live_step own p i k (card_at trace k) (record_at trace k) (reason_at trace own p k) f (four k (omega arith)) (live_along k (omega arith))).2

    live_up : (k : ℕ) → k ≤ n → is_up (reason_at trace own p k) ≡ shown trace side p k
    live_up k l = tells_up _ (reason_at trace own p k) (live_along k l) ∙ sym (shows_live (card_at trace k) side (fits k l) g.caller p i f)

    live_explains : Explains n (shown trace side p) (reason_at trace own p)
    live_explains = record { first = first_reason trace own p; up = live_up; falls = falls }
      where
        falls : (k : ℕ) → k < n → shown trace side p (suc k) ≡ false → reason_at trace own p (suc k) ≡ (if shown trace side p k then cleared_by k else reason_at trace own p k)
        falls k l z =
            let r = reason_at trace own p k in
            let e = next_reason trace g.read own p k l in
            let step = (live_step own p i k (card_at trace k) (record_at trace k) r f (four k (omega arith)) (live_along k (omega arith))).1 in
            let none = down_none (reason_at trace own p (suc k)) (live_up (suc k) l ∙ z) in
            rw (← live_up k (omega arith)) (rw (← e, none) at step)

-- T7.1 AND T7.2

module _ (trace : List ℕ) (side p : ℕ) (r : Reason) (h : why trace side p ≡ because r) where
  facts : Given trace side p r
  facts = given trace side p r h

  answered : reason_at trace (side_of side) p (records_in trace) ≡ r
  answered = last_reason trace facts.read (side_of side) p ∙ facts.is

  explained : Explains (records_in trace) (shown trace side p) (reason_at trace (side_of side) p)
  explained = by (sort (side_of side) p facts.position)
    where
      by : Sort (side_of side) p → Explains (records_in trace) (shown trace side p) (reason_at trace (side_of side) p)
      by (stored m a b) = turning_explains (records_in trace) (shown trace side p) (reason_at trace (side_of side) p) (stored_turning trace side p r facts m a b)
      by (live i f) = live_explains trace side p r facts i f

  turning : p ≢ 6 → p ≢ 7 → Turning (records_in trace) (shown trace side p) (reason_at trace (side_of side) p)
  turning a b = by (sort (side_of side) p facts.position)
    where
      by : Sort (side_of side) p → Turning (records_in trace) (shown trace side p) (reason_at trace (side_of side) p)
      by (stored m c d) = stored_turning trace side p r facts m c d
      by (live i f) = absurd (following (λ p i. p ≢ 6 → p ≢ 7 → ⊥) (λ c d. c refl) (λ c d. d refl) p i f a b)

  -- T7.1 "The answer is set or held iff bit(n) = 1."
  pub set_iff_shown : (is_up r ≡ true) ↔ (shown trace side p (records_in trace) ≡ true)
  set_iff_shown =
      let e : is_up r ≡ shown trace side p (records_in trace) = ap is_up (sym answered) ∙ explained.up (records_in trace) (omega arith) in
      (λ u. sym e ∙ u, λ b. e ∙ b)

  -- T7.2 "never iff bit(i) = 0 for all i <= n."
  pub never_iff : (r ≡ never) ↔ ((i : ℕ) → i ≤ records_in trace → shown trace side p i ≡ false)
  never_iff = rw answered at (never_always (records_in trace) (shown trace side p) (reason_at trace (side_of side) p) explained (records_in trace) (omega arith))

  -- "cleared r iff bit(n) = 0 and r is the largest i < n with bit(i) = 1 and bit(i+1) = 0."
  pub cleared_iff : (k : ℕ) →
      (r ≡ cleared_by k) ↔ ((shown trace side p (records_in trace) ≡ false) × Largest (records_in trace) (λ i. (shown trace side p i ≡ true) × (shown trace side p (suc i) ≡ false)) k)
  cleared_iff k = rw answered at (cleared_last (records_in trace) (shown trace side p) (reason_at trace (side_of side) p) explained k)

  -- "set r (p not 6, 7) iff bit(n) = 1 and r is the largest i < n with bit(i) = 0."
  pub set_iff : p ≢ 6 → p ≢ 7 → (k : ℕ) →
      (r ≡ set_by k) ↔ ((shown trace side p (records_in trace) ≡ true) × Largest (records_in trace) (λ i. shown trace side p i ≡ false) k)
  set_iff a b k = rw answered at (set_last (records_in trace) (shown trace side p) (reason_at trace (side_of side) p) (turning a b) k)

  -- "(So the answer is a function of the registers alone.)"
  pub by_registers_lem : p ≢ 6 → p ≢ 7 → r ≡ by_bits (shown trace side p) (records_in trace)
  by_registers_lem a b = sym answered ∙ turning_by_bits (records_in trace) (shown trace side p) (reason_at trace (side_of side) p) (turning a b) (records_in trace) (omega arith)

  -- "at most 4,095": a trace has at most 4,096 records
  pub few_records : records_in trace ≤ 4096
  few_records = let l = ltb-false 81920 (length trace) facts.short in omega arith

-- T7.3

-- the accepted puts to a FIFO along a trace, each with its record
abbrev pub puts_in : (trace : List ℕ) → (i : ℕ) → List Holding
puts_in trace i = puts_of i 0 (run access bench (accesses_in trace)).entries

-- a record of the trace, "a done put with X not 0 to that FIFO with B = entry"
abbrev pub PutByRecord : (trace : List ℕ) → (i : ℕ) → Holding → Type 0
PutByRecord trace i h = (h.put_by < records_in trace) × AcceptedPut i h.entry (card_at trace h.put_by) (record_at trace h.put_by)

puts_by_records : (trace : List ℕ) (i : ℕ) → (replay replay_start trace).standing.stopped ≡ false → All (PutByRecord trace i) (puts_in trace i)
puts_by_records trace i g =
    let none = record_at trace 0 in
    all_imply (PutAt i 0 bench (accesses_in trace) none) (PutByRecord trace i) by (puts_in trace i) (puts_made i 0 bench (accesses_in trace) none)
  where
    by : (h : Holding) → PutAt i 0 bench (accesses_in trace) (record_at trace 0) h → PutByRecord trace i h
    by h x =
        let j = x.0 in
        let l : j < records_in trace = (let a = accesses_records trace g in let b = x.2 in omega arith) in
        let e : h.put_by ≡ j = x.1 ∙ zero-add j in
        let put : AcceptedPut i h.entry (card_at trace j) (record_at trace j) = rw (← runs_as_replay trace g j (omega arith), access_is trace g j (record_at trace 0) l) at x.3 in
        rw e (l, put)

-- "the records are strictly rising, record k is a done put with X not 0 to that FIFO with B = entry k, and they are the last accepted puts to it"
pub record LastPuts (trace : List ℕ) (i : ℕ) (hs : List Holding) : Type 0 where
  pub rising : Rising 0 hs
  pub puts : All (PutByRecord trace i) hs
  pub earlier : List Holding
  pub last : puts_in trace i ≡ earlier ++ hs

module _ (trace : List ℕ) (side p : ℕ) (hs : List Holding) (h : why trace side p ≡ because (held hs)) where
  abbrev known : Given trace side p (held hs)
  known = facts trace side p (held hs) h

  at_end : reason_at trace (side_of side) p (records_in trace) ≡ held hs
  at_end = answered trace side p (held hs) h

  -- only positions 6 and 7 are explained by entries
  pub held_follows : (i : ℕ) × (follows p i ≡ true)
  held_follows = by (sort (side_of side) p known.position)
    where
      by : Sort (side_of side) p → (i : ℕ) × (follows p i ≡ true)
      by (stored m a b) = no_both (sym (stored_along trace side p (held hs) known m a b (records_in trace) (omega arith)).none ∙ ap is_held at_end)
      by (live i f) = (i, f)

  -- "entries = the FIFO of cn", and there are some
  pub held_fifo : (i : ℕ) → follows p i ≡ true → (map (λ h. h.entry) hs ≡ entries_of (card_at trace (records_in trace)).card.fifos i) × (hs ≢ [])
  held_fifo i f =
      let tells : Live i (card_at trace (records_in trace)).card (held hs) = rw at_end at (live_along trace side p (held hs) known i f (records_in trace) (omega arith)) in
      (tells.entries, λ z. no_both (sym (rw z at tells.up)))

  -- "and they are the last accepted puts to it"
  pub held_records : (i : ℕ) → follows p i ≡ true → LastPuts trace i hs
  held_records i f =
      let all = held_puts (side_of side) p i f 0 never bench (accesses_in trace) bench_fit (bench_live p i f) in
      let last : puts_in trace i ≡ all.0 ++ hs = all.1 ∙ ap (λ r. all.0 ++ held_by r) known.is in
      record {
        rising = rising_behind 0 all.0 hs (rw last at (puts_rising i 0 (run access bench (accesses_in trace)).entries));
        puts = all_behind (PutByRecord trace i) all.0 hs (rw last at (puts_by_records trace i known.read));
        earlier = all.0;
        last = last;
      }

-- where the bit of such a position is set, no record is named alone: it is explained by entries
pub set_follows_none : (trace : List ℕ) (side p k : ℕ) → why trace side p ≡ because (set_by k) → (i : ℕ) → follows p i ≡ true → ⊥
set_follows_none trace side p k h i f =
    let known = facts trace side p (set_by k) h in
    let tells : Live i (card_at trace (records_in trace)).card (set_by k) = rw (answered trace side p (set_by k) h) at (live_along trace side p (set_by k) known i f (records_in trace) (omega arith)) in
    no_both (sym tells.up)

-- THE RECORD NUMBERS

-- those that a reason names
abbrev pub numbers_in : Reason → List ℕ
numbers_in never = []
numbers_in (cleared_by k) = k ∷ []
numbers_in (set_by k) = k ∷ []
numbers_in (held hs) = map (λ h. h.put_by) hs

-- "the place from 0; at most 4,095, so it is also the number in the record"
pub numbers_low : (trace : List ℕ) (side p : ℕ) (r : Reason) → why trace side p ≡ because r → All (λ k. (k ≤ 4095) × (number_after k ≡ k)) (numbers_in r)
numbers_low trace side p never h = tt
numbers_low trace side p (cleared_by k) h =
    let few = few_records trace side p (cleared_by k) h in
    let l = ((cleared_iff trace side p (cleared_by k) h k).0 refl).1.below in
    ((omega arith, omega arith), tt)
numbers_low trace side p (set_by k) h =
    let few = few_records trace side p (set_by k) h in
    let no = set_follows_none trace side p k h in
    let l = ((set_iff trace side p (set_by k) h (λ e. no 1 (rw e)) (λ e. no 3 (rw e)) k).0 refl).1.below in
    ((omega arith, omega arith), tt)
numbers_low trace side p (held hs) h =
    let few = few_records trace side p (held hs) h in
    let f = held_follows trace side p hs h in
    all_map (λ k. (k ≤ 4095) × (number_after k ≡ k)) (λ h. h.put_by) hs
    (all_imply (PutByRecord trace f.0) (λ h. (h.put_by ≤ 4095) × (number_after h.put_by ≡ h.put_by)) (λ h x. let l = x.0 in (omega arith, omega arith)) hs
    (held_records trace side p hs h f.0 f.1).puts)

-- "the same answer for host and local"
pub same_for_both : (trace : List ℕ) (p i : ℕ) → follows p i ≡ true → why trace 0 p ≡ why trace 1 p
unfolding why
same_for_both trace p i f =
    ap (answered_by (refusal (why_checks trace 0 p))) (one_for_both p i f 0 never bench (accesses_in trace) bench_fit (bench_live p i f))
    ∙ ap (λ n. answered_by n (reason_of trace 1 p)) (following (λ p i. refusal (why_checks trace 0 p) ≡ refusal (why_checks trace 1 p)) refl refl p i f)

-- T7.4

-- a number is answered exactly where it is the refusal
answer_refused : (n m : ℕ) (r : Reason) → (answered_by n r ≡ refused m) ↔ ((n ≡ m) × (0 < m))
answer_refused zero m r = (λ e. no_both (cc), λ x. absurd (let z = x.0 in let l = x.1 in omega arith))
answer_refused (suc n) m r = (λ e. let z : suc n ≡ m = cc in (z, omega arith), λ x. ap refused x.0)

answer_because : (n : ℕ) (r : Reason) → (answered_by n r ≡ because r) ↔ (n ≡ 0)
answer_because zero r = (λ e. refl, λ z. refl)
answer_because (suc n) r = (λ e. no_both (cc), λ z. absurd (omega arith))

module _ (trace : List ℕ) (side p : ℕ) where
  -- "Each refusal iff its cause holds and none before it in the order."
  pub refused_iff : (m : ℕ) → (why trace side p ≡ refused m) ↔ First m (why_checks trace side p)
  unfolding why
  refused_iff m =
      let a = answer_refused (refusal (why_checks trace side p)) m (reason_of trace side p) in
      (λ e. (first_given (why_checks trace side p) m (a.0 e).1).0 (a.0 e).0, λ f. let z = first_positive f (positive trace side p) in a.1 ((first_given (why_checks trace side p) m z).1 f, z))

  -- and the reason, where no cause holds
  pub because_iff : (why trace side p ≡ because (reason_of trace side p)) ↔ Pass (why_checks trace side p)
  unfolding why
  because_iff =
      let a = answer_because (refusal (why_checks trace side p)) (reason_of trace side p) in
      (λ e. passed_all (why_checks trace side p) (positive trace side p) (a.0 e), λ c. a.1 (pass_refusal (why_checks trace side p) c))

-- "42 position > 9, 2, or 4 on side 1"
pub data Reserved (side : Side) (p : ℕ) : Type 0 where
  high : 9 < p → Reserved side p
  two : p ≡ 2 → Reserved side p
  fourth : side ≡ local → p ≡ 4 → Reserved side p

-- what holds of 0 to 9 holds of each number up to 9
upto_nine : (P : ℕ → Type 0) → P 0 → P 1 → P 2 → P 3 → P 4 → P 5 → P 6 → P 7 → P 8 → P 9 → (p : ℕ) → p ≤ 9 → P p
upto_nine P a b c d e f g h i j zero l = a
upto_nine P a b c d e f g h i j (suc zero) l = b
upto_nine P a b c d e f g h i j (suc (suc zero)) l = c
upto_nine P a b c d e f g h i j (suc (suc (suc zero))) l = d
upto_nine P a b c d e f g h i j (suc (suc (suc (suc zero)))) l = e
upto_nine P a b c d e f g h i j (suc (suc (suc (suc (suc zero))))) l = f
upto_nine P a b c d e f g h i j (suc (suc (suc (suc (suc (suc zero)))))) l = g
upto_nine P a b c d e f g h i j (suc (suc (suc (suc (suc (suc (suc zero))))))) l = h
upto_nine P a b c d e f g h i j (suc (suc (suc (suc (suc (suc (suc (suc zero)))))))) l = i
upto_nine P a b c d e f g h i j (suc (suc (suc (suc (suc (suc (suc (suc (suc zero))))))))) l = j
upto_nine P a b c d e f g h i j (suc (suc (suc (suc (suc (suc (suc (suc (suc (suc n)))))))))) l = absurd (omega arith)

reserved_low : (side : Side) (p : ℕ) → p ≤ 9 → reserved side p ≡ true → Reserved side p
reserved_low host = upto_nine (λ p. reserved host p ≡ true → Reserved host p) no_both no_both (λ h. two refl) no_both no_both no_both no_both no_both no_both no_both
reserved_low local = upto_nine (λ p. reserved local p ≡ true → Reserved local p) no_both no_both (λ h. two refl) no_both (λ h. fourth refl refl) no_both no_both no_both no_both no_both

pub reserved_iff : (side : Side) (p : ℕ) → (reserved side p ≡ true) ↔ Reserved side p
reserved_iff side p = (forth (above 9 p) refl, back)
  where
    forth : (b : Bool) → above 9 p ≡ b → reserved side p ≡ true → Reserved side p
    forth true e h = high (ltb-true 9 p e)
    forth false e h = reserved_low side p (ltb-false 9 p e) h

    at_two : (side : Side) → reserved side 2 ≡ true
    at_two host = refl
    at_two local = refl

    back : Reserved side p → reserved side p ≡ true
    back (high l) = rw (lt-ltb 9 p l)
    back (two e) = rw e (at_two side)
    back (fourth s e) = rw (s, e)
