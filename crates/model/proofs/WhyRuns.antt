-- A trace that the reader does not refuse (L7): before each record the replay stands where a run of the accesses stands, and a reason follows it.
use Rattle.std.specs.Prelude.{◌≡◌, refl, Bool, true, false, List, [], ◌∷◌, ◌++◌, ℕ, zero, suc, ◌+◌, ◌*◌, ◌/◌, ◌≤◌, ◌<◌, length, get_or, take, drop}
use Rattle.std.proofs.Common.{ap, sym, ◌∙◌, zero-add, add-zero, arith, take-append-drop, length-append, length-drop, length-take-le, take_all, take-suc, take-add, drop_at, drop-drop}
use Rattle.model.specs.Sides.{Side}
use Rattle.model.specs.State.{World, sound, fresh_card}
use Rattle.model.specs.Runs.{run}
use Rattle.model.specs.Accesses.{Access, fit, access}
use Rattle.model.specs.Bench.{bench}
use Rattle.model.specs.Trace.{access_at, Reading, recorded, refused, read_record}
use Rattle.model.specs.Replay.{Standing, moved_on, stop, records_in, replay, replay_start}
use Rattle.model.proofs.TestLaws.{no_both}
use Rattle.model.proofs.Soundness.{stays_fit}
use Rattle.model.proofs.FifoRuns.{run_behind}
use Rattle.model.proofs.TraceLaws.{reads_first, recorded_is}
use Rattle.model.proofs.ReplayLaws.{replay_stopped, replay_none, replay_more}
use Rattle.model.specs.Why.{Reason, never, noted_all, changes_by, history, accesses_from, accesses_in}

-- "c0 .. the replay's fresh card, c(i+1) the card after record i": the card before record `i`
abbrev pub card_at : (trace : List ℕ) → (i : ℕ) → World
card_at trace i = (replay replay_start (take (20 * i) trace)).standing.world

-- the access of record `i`
abbrev pub record_at : (trace : List ℕ) → (i : ℕ) → Access
record_at trace i = access_at (drop (20 * i) trace)

-- the reason before record `i`
abbrev pub reason_at : (trace : List ℕ) → Side → (p i : ℕ) → Reason
reason_at trace side p i = history side p 0 never bench (take i (accesses_in trace))

pub first_card : (trace : List ℕ) → card_at trace 0 ≡ bench
first_card trace = ap (λ r. r.standing.world) (replay_none replay_start [] refl)

pub first_reason : (trace : List ℕ) (side : Side) (p : ℕ) → reason_at trace side p 0 ≡ never
unfolding history
first_reason trace side p = refl

-- THE FIRST RECORD

-- a record stands first, and is read
record Reads (s : Standing) (bytes : List ℕ) : Type 0 where
  going : s.stopped ≡ false
  long : 20 ≤ length bytes
  read : read_record bytes s.expected ≡ recorded (access_at bytes)

reads : (s : Standing) (bytes : List ℕ) → 0 < length bytes → (replay s bytes).standing.stopped ≡ false → Reads s bytes
reads s bytes p h = by s.stopped refl (read_record bytes s.expected) refl
  where
    by : (b : Bool) → s.stopped ≡ b → (r : Reading) → read_record bytes s.expected ≡ r → Reads s bytes
    by true e r d = no_both (sym (rw (replay_stopped s bytes e) at h) ∙ e)
    by false e (recorded q) d = let k = recorded_is s.expected q bytes d in record { going = e; long = k.long; read = d ∙ ap recorded (sym k.access) }
    by false e (refused m) d = no_both (sym (rw (replay_more s bytes p e, d, replay_stopped (stop s) (drop 20 bytes) refl) at h))

-- what the replay makes of it, whatever stands behind it
reads_on : (s : Standing) (bytes rest : List ℕ) → Reads s bytes →
    (replay s (take 20 bytes ++ rest)).standing ≡ (replay (moved_on s (access s.world (access_at bytes)).world) rest).standing
reads_on s bytes rest r =
    let l = length-take-le 20 bytes r.long in
    let first : read_record (take 20 bytes ++ rest) s.expected ≡ recorded (access_at bytes) =
    reads_first (take 20 bytes) rest s.expected (omega arith) ∙ sym (reads_first (take 20 bytes) (drop 20 bytes) s.expected (omega arith))
    ∙ ap (λ l. read_record l s.expected) (take-append-drop 20 bytes) ∙ r.read in
    rw (replay_more s (take 20 bytes ++ rest) (omega (arith, length-append (take 20 bytes) rest)) r.going, first, drop_at (take 20 bytes) rest 20 l)

-- RECORD AFTER RECORD

pub bench_fit : fit bench ≡ true
unfolding bench sound fresh_card
bench_fit = refl

-- what stands behind it is replayed from there, and is not refused either
next_unstopped : (s : Standing) (bytes : List ℕ) → Reads s bytes → (replay s bytes).standing.stopped ≡ false →
    (replay (moved_on s (access s.world (access_at bytes)).world) (drop 20 bytes)).standing.stopped ≡ false
next_unstopped s bytes r h =
    sym (ap (λ t. t.stopped) (rw (take-append-drop 20 bytes) at (reads_on s bytes (drop 20 bytes) r))) ∙ h

-- nothing is left over
all_whole : (k : ℕ) (s : Standing) (bytes : List ℕ) → records_in bytes ≡ k → (replay s bytes).standing.stopped ≡ false → length bytes ≡ 20 * k
all_whole zero s bytes e h = omega arith
all_whole (suc k) s bytes e h =
    let r = reads s bytes (omega arith) h in
    let long = r.long in
    let rest = all_whole k (moved_on s (access s.world (access_at bytes)).world) (drop 20 bytes) (omega (arith, length-drop 20 bytes)) (next_unstopped s bytes r h) in
    omega (arith, length-drop 20 bytes)

runs : (i k : ℕ) (s : Standing) (bytes : List ℕ) → i ≤ k → length bytes ≡ 20 * k → (replay s bytes).standing.stopped ≡ false →
    (replay s (take (20 * i) bytes)).standing.world ≡ (run access s.world (take i (accesses_from k bytes))).world
unfolding accesses_from
runs zero k s bytes l e h = rw (replay_none s [] refl)
runs (suc i) zero s bytes l e h = absurd (omega arith)
runs (suc i) (suc k) s bytes l e h =
    let r = reads s bytes (omega arith) h in
    let more : 20 * suc i ≡ 20 + 20 * i = omega arith in
    let t = moved_on s (access s.world (access_at bytes)).world in
    let rest = runs i k t (drop 20 bytes) (omega arith) (omega (arith, length-drop 20 bytes)) (next_unstopped s bytes r h) in
    rw (more, take-add 20 (20 * i) bytes, reads_on s bytes (take (20 * i) (drop 20 bytes)) r) rest

record_of : (i k : ℕ) (bytes : List ℕ) (d : Access) → i < k → get_or (accesses_from k bytes) i d ≡ access_at (drop (20 * i) bytes)
unfolding accesses_from
record_of i zero bytes d l = absurd (omega arith)
record_of zero (suc k) bytes d l = refl
record_of (suc i) (suc k) bytes d l =
    let more : 20 * suc i ≡ 20 + 20 * i = omega arith in
    rw (more, ← drop-drop (20 * i) 20 bytes) (record_of i k (drop 20 bytes) d (omega arith))

length_accesses : (k : ℕ) (bytes : List ℕ) → length (accesses_from k bytes) ≡ k
unfolding accesses_from
length_accesses zero bytes = refl
length_accesses (suc k) bytes = ap suc (length_accesses k (drop 20 bytes))

-- an access behind a list
history_behind : (side : Side) (p n : ℕ) (r : Reason) (w : World) (qs : List Access) (q : Access) →
    history side p n r w (qs ++ (q ∷ [])) ≡ noted_all side p (n + length qs) (changes_by (run access w qs).world q) (history side p n r w qs)
unfolding history
history_behind side p n r w [] q = rw (add-zero n)
history_behind side p n r w (a ∷ qs) q =
    let more : n + length (a ∷ qs) ≡ suc n + length qs = omega arith in
    rw more (history_behind side p (suc n) (noted_all side p n (changes_by w a) r) (access w a).world qs q)

-- A TRACE THAT IS NOT REFUSED

module _ (trace : List ℕ) (h : (replay replay_start trace).standing.stopped ≡ false) where
  -- "1 to 19 bytes left over are refusal 20"
  pub whole_records : length trace ≡ 20 * records_in trace
  whole_records = all_whole (records_in trace) replay_start trace refl h

  pub accesses_records : length (accesses_in trace) ≡ records_in trace
  accesses_records = length_accesses (length trace / 20) trace ∙ (let w = whole_records in omega arith)

  -- the replay's card is that of a run
  pub runs_as_replay : (i : ℕ) → i ≤ records_in trace → card_at trace i ≡ (run access bench (take i (accesses_in trace))).world
  runs_as_replay i l = let w = whole_records in runs i (length trace / 20) replay_start trace (omega arith) (omega arith) h

  pub access_is : (i : ℕ) (none : Access) → i < records_in trace → get_or (accesses_in trace) i none ≡ record_at trace i
  access_is i none l = let w = whole_records in record_of i (length trace / 20) trace none (omega arith)

  taken : (i : ℕ) → i < records_in trace → take (suc i) (accesses_in trace) ≡ take i (accesses_in trace) ++ (record_at trace i ∷ [])
  taken i l =
      let a = accesses_records in
      take-suc (accesses_in trace) i (record_at trace i) (omega arith) ∙ ap (λ q. take i (accesses_in trace) ++ (q ∷ [])) (access_is i (record_at trace i) l)

  pub next_card : (i : ℕ) → i < records_in trace → card_at trace (suc i) ≡ (access (card_at trace i) (record_at trace i)).world
  next_card i l =
      runs_as_replay (suc i) l ∙ rw (taken i l, run_behind bench (take i (accesses_in trace)) (record_at trace i), ← runs_as_replay i (omega arith))

  pub next_reason : (side : Side) (p i : ℕ) → i < records_in trace →
      reason_at trace side p (suc i) ≡ noted_all side p i (changes_by (card_at trace i) (record_at trace i)) (reason_at trace side p i)
  next_reason side p i l =
      let a = accesses_records in
      let n : 0 + length (take i (accesses_in trace)) ≡ i = zero-add _ ∙ length-take-le i (accesses_in trace) (omega arith) in
      rw (taken i l) (history_behind side p 0 never bench (take i (accesses_in trace)) (record_at trace i) ∙ rw (n, ← runs_as_replay i (omega arith)))

  pub last_reason : (side : Side) (p : ℕ) → reason_at trace side p (records_in trace) ≡ history side p 0 never bench (accesses_in trace)
  last_reason side p = ap (history side p 0 never bench) (take_all (records_in trace) (accesses_in trace) (let a = accesses_records in omega arith))

  pub cards_fit : (i : ℕ) → i ≤ records_in trace → fit (card_at trace i) ≡ true
  cards_fit zero l = ap fit (first_card trace) ∙ bench_fit
  cards_fit (suc i) l = rw (next_card i l) (stays_fit (card_at trace i) (record_at trace i) (cards_fit i (omega arith)))
