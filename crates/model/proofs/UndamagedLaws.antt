-- Laws of undamaged traces, and of what the program writes: record after record the number is the one expected, so nothing is skipped and nothing doubtful.
use Rattle.std.specs.Prelude.{◌≡◌, refl, Bool, true, false, not, List, [], ◌∷◌, ◌++◌, ℕ, zero, suc, ◌+◌, ◌*◌, ◌≤◌, length, drop, eqb}
use Rattle.std.proofs.Common.{sym, ap, ◌∙◌, add-zero, arith, eq-eqb, eqb-true}
use Rattle.std.proofs.Math.Bool.{not-not}
use Rattle.model.specs.Choice.{every, All}
use Rattle.model.proofs.TestLaws.{no_both, and_left, and_right}
use Rattle.model.proofs.LaneLaws.{Bytes, bytes_drop}
use Rattle.model.specs.Accesses.{Access, Fits}
use Rattle.model.specs.Trace.{record_bytes, number_after, number_at, access_at, recorded, read_record}
use Rattle.model.proofs.TraceLaws.{next_after, read_recorded, RecordStands, recorded_is, recorded_fits, recorded_bytes}
use Rattle.model.specs.Replay.{replay, replay_start}
use Rattle.model.specs.Convert.{trace_form, written}
use Rattle.model.proofs.ConvertLaws.{trace_and_back, trace_turned, as_replayed}
use Rattle.model.specs.Rescue.{keep, skip, moves, Entry, kept, skipped, Place, beginning, range, kept_at, moved, entries, entries_from, kept_first}
use Rattle.model.specs.RescueText.{Tally, none, tallied, tally, accesses_of, rescued_trace}
use Rattle.model.proofs.ScanLaws.{stands_whole, scan_short, scan_kept, scan_skipped}
use Rattle.model.proofs.EntryLaws.{Walk, done, keeps, skips, walk, from_none, from_kept, from_skipped, range_by, further, length_of, Covers, ended, next, entries_cover, stands_read, recorded_stands, standing_at}

-- T14.5: KEPT WHOLE

-- `n` records from number `k` on, each in its place without doubt
unfoldable pub kept_records : (k n : ℕ) → List Entry
kept_records k zero = []
kept_records k (suc n) = kept (20 * k) (number_after k) false ∷ kept_records (k + 1) n

-- where the scan of an undamaged trace stands behind `k` records
abbrev behind_records : (k : ℕ) → Place
behind_records k = standing_at (20 * k) (number_after k)

one_behind : (k : ℕ) (q : Access) → moved (behind_records k) (keep (number_after k) q) ≡ behind_records (k + 1)
one_behind k q =
    let z : 20 * k + 0 + 20 ≡ 20 * (k + 1) = omega arith in
    rw (z, next_after k)

record_there : (k : ℕ) (q : Access) (rest : List ℕ) → Fits q → RecordStands (record_bytes (number_after k) q ++ rest) (number_after k) q
record_there k q rest f = recorded_is (number_after k) q (record_bytes (number_after k) q ++ rest) (read_recorded (number_after k) q rest (omega arith) f)

-- from any record on
pub undamaged_from : (k : ℕ) (qs : List Access) → All Fits qs → entries_from (behind_records k) (written trace_form k qs) ≡ kept_records k (length qs)
unfolding written kept_records
undamaged_from k [] h = from_none (behind_records k)
undamaged_from k (q ∷ qs) h =
    let n = number_after k in
    let rest = written trace_form (k + 1) qs in
    let r = record_there k q rest h.0 in
    rw (
      from_kept (behind_records k) (record_bytes n q ++ rest) (recorded_stands n q rest),
      ← r.number,
      one_behind k (access_at (record_bytes n q ++ rest)),
      undamaged_from (k + 1) qs h.1,
      eq-eqb n n refl,
      add-zero,
    )

-- "an undamaged trace is kept whole, nothing doubtful"
pub undamaged_kept : (qs : List Access) → All Fits qs → entries (written trace_form 0 qs) ≡ kept_records 0 (length qs)
unfolding entries entries_from
undamaged_kept qs h = undamaged_from 0 qs h

-- a kept record without doubt
abbrev pub sure : Entry → Bool
sure (kept at number doubtful) = not doubtful
sure (skipped at size) = false

records_sure : (k n : ℕ) → every sure (kept_records k n) ≡ true
unfolding kept_records
records_sure k zero = refl
records_sure k (suc n) = records_sure (k + 1) n

-- "All entries kept and none doubtful" if "t = trace(q0 .. qk) for some list", ..
pub undamaged_sure : (qs : List Access) → All Fits qs → every sure (entries (written trace_form 0 qs)) ≡ true
undamaged_sure qs h = rw (undamaged_kept qs h) (records_sure 0 (length qs))

-- bytes that are the records of a list, numbered from `k` on
pub record Undamaged (k : ℕ) (bytes : List ℕ) : Type 0 where
  pub accesses : List Access
  pub fit : All Fits accesses
  pub is : bytes ≡ written trace_form k accesses

-- a range is never sure
unsure : (p : Place) {bytes : List ℕ} → Walk bytes → 1 ≤ p.run → every sure (entries_from p bytes) ≡ false
unsure p done h = rw (from_none p) (range_by (λ r. every sure (r ++ []) ≡ false) p (λ e. absurd (omega arith)) (λ l. refl))
unsure p (keeps {bytes} s w) h =
    let es = kept_at p (number_at 2 2 bytes) ∷ entries_from (moved p (kept_first bytes)) (drop 20 bytes) in
    rw (from_kept p bytes s) (range_by (λ r. every sure (r ++ es) ≡ false) p (λ e. absurd (omega arith)) (λ l. refl))
unsure p (skips {b} {bytes} s w) h = rw (from_skipped p b bytes s) (unsure (moved p skip) w (omega arith))

sure_from : (k : ℕ) {bytes : List ℕ} → Walk bytes → Bytes bytes → every sure (entries_from (behind_records k) bytes) ≡ true → Undamaged k bytes
unfolding written
sure_from k done all h = record { accesses = []; fit = tt; is = refl }
sure_from k (keeps {bytes} s w) all h =
    let n = number_at 2 2 bytes in
    let q = access_at bytes in
    let p = behind_records k in
    let es = entries_from (moved p (keep n q)) (drop 20 bytes) in
    let g : every sure (kept_at p n ∷ es) ≡ true = rw (from_kept p bytes s) at h in
    let e : n ≡ number_after k = eqb-true n (number_after k) (sym (not-not (eqb n (number_after k))) ∙ and_left (sure (kept_at p n)) (every sure es) g) in
    let read : read_record bytes (number_after k) ≡ recorded q = rw e at (stands_read bytes s) in
    let rest = sure_from (k + 1) w (bytes_drop 20 bytes all) (rw (e, one_behind k q) at (and_right (sure (kept_at p n)) (every sure es) g)) in
    record {
      accesses = q ∷ rest.accesses;
      fit = (recorded_fits (number_after k) q bytes all read, rest.fit);
      is = recorded_bytes (number_after k) q bytes all read ∙ ap (record_bytes (number_after k) q ++◌) rest.is;
    }
sure_from k (skips {b} {bytes} s w) all h =
    no_both (sym (unsure (moved (behind_records k) skip) w (omega arith)) ∙ (rw (from_skipped (behind_records k) b bytes s) at h))

-- .. "and back"
pub sure_undamaged : (t : List ℕ) → Bytes t → every sure (entries t) ≡ true → Undamaged 0 t
unfolding entries entries_from
sure_undamaged t all h = sure_from 0 (walk t) all h

-- "(iff the replay ends without `log`)"
pub written_replays : (qs : List Access) → All Fits qs → (replay replay_start (written trace_form 0 qs)).standing.stopped ≡ false
written_replays qs h = (as_replayed (written trace_form 0 qs)).stopped ∙ rw (trace_turned qs h)

pub sure_replays : (t : List ℕ) → Bytes t → every sure (entries t) ≡ true → (replay replay_start t).standing.stopped ≡ false
sure_replays t all h = let u = sure_undamaged t all h in rw u.is (written_replays u.accesses u.fit)

pub replays_sure : (t : List ℕ) → Bytes t → (replay replay_start t).standing.stopped ≡ false → every sure (entries t) ≡ true
replays_sure t all h =
    let r = trace_and_back t all (sym (as_replayed t).stopped ∙ h) in
    rw r.is (undamaged_sure r.accesses r.fit)

-- THE KEPT RECORDS ANEW

-- an access that stands in bytes fits, ..
kept_fit : {bytes : List ℕ} → Walk bytes → Bytes bytes → All Fits (accesses_of (moves bytes))
unfolding accesses_of
kept_fit done all = rw (scan_short 1 [] (omega arith)) tt
kept_fit (keeps {bytes} s w) all =
    rw (scan_kept 1 bytes (omega (arith, stands_whole bytes s)) s)
    (recorded_fits (number_at 2 2 bytes) (access_at bytes) bytes all (stands_read bytes s), kept_fit w (bytes_drop 20 bytes all))
kept_fit (skips {b} {bytes} s w) all = rw (scan_skipped 1 (b ∷ bytes) (omega arith) (omega arith) s) (kept_fit w (bytes_drop 1 (b ∷ bytes) all))

-- .. "so that what was rescued can be replayed", without a refusal
pub rescued_replays : (t : List ℕ) → Bytes t → (replay replay_start (rescued_trace t)).standing.stopped ≡ false
unfolding rescued_trace
rescued_replays t all = written_replays (accesses_of (moves t)) (kept_fit (walk t) all)

accesses_back : (k : ℕ) (qs : List Access) → All Fits qs → accesses_of (moves (written trace_form k qs)) ≡ qs
unfolding written accesses_of
accesses_back k [] h = rw (scan_short 1 [] (omega arith))
accesses_back k (q ∷ qs) h =
    let n = number_after k in
    let rest = written trace_form (k + 1) qs in
    rw (scan_kept 1 (record_bytes n q ++ rest) (omega arith) (recorded_stands n q rest), (record_there k q rest h.0).access, accesses_back (k + 1) qs h.1)

-- "`./rescue -t` of an undamaged lesson gives that lesson back, byte for byte"
pub undamaged_back : (qs : List Access) → All Fits qs → rescued_trace (written trace_form 0 qs) ≡ written trace_form 0 qs
unfolding rescued_trace
undamaged_back qs h = rw (accesses_back 0 qs h)

-- what was rescued is undamaged, and rescued as it stands
pub rescued_once : (t : List ℕ) → Bytes t → rescued_trace (rescued_trace t) ≡ rescued_trace t
unfolding rescued_trace
rescued_once t all = undamaged_back (accesses_of (moves t)) (kept_fit (walk t) all)

-- the accesses of the records that are listed as kept, each read at its place
unfoldable pub read_at : (t : List ℕ) → List Entry → List Access
read_at t [] = []
read_at t (kept at number doubtful ∷ es) = access_at (drop at t) ∷ read_at t es
read_at t (skipped at size ∷ es) = read_at t es

range_reads : (t : List ℕ) (p : Place) (es : List Entry) → read_at t (range p ++ es) ≡ read_at t es
unfolding read_at
range_reads t p es = range_by (λ r. read_at t (r ++ es) ≡ read_at t es) p (λ e. refl) (λ l. refl)

-- from any place on
pub reads_from : (t : List ℕ) (p : Place) {bytes : List ℕ} → Walk bytes → bytes ≡ drop (p.from + p.run) t → accesses_of (moves bytes) ≡ read_at t (entries_from p bytes)
unfolding read_at accesses_of
reads_from t p done e = rw (scan_short 1 [] (omega arith), from_none p, range_reads t p [])
reads_from t p (keeps {bytes} s w) e =
    let rest = reads_from t (moved p (kept_first bytes)) w (further t 20 p (moved p (kept_first bytes)) bytes e (omega arith)) in
    rw (scan_kept 1 bytes (omega (arith, stands_whole bytes s)) s, from_kept p bytes s, range_reads t p _, ← e, rest)
reads_from t p (skips {b} {bytes} s w) e =
    let rest = reads_from t (moved p skip) w (further t 1 p (moved p skip) (b ∷ bytes) e (omega arith)) in
    rw (scan_skipped 1 (b ∷ bytes) (omega arith) (omega arith) s, from_skipped p b bytes s, rest)

-- "`-t` keeps doubtful records": it writes the accesses of all records listed as kept, in order, and no other
pub rescued_reads : (t : List ℕ) → accesses_of (moves t) ≡ read_at t (entries t)
unfolding entries entries_from
rescued_reads t = reads_from t beginning (walk t) refl

-- THE TOTALS

tallied_bytes : (s : Tally) (e : Entry) → 20 * (tallied s e).kept + (tallied s e).skipped ≡ 20 * s.kept + s.skipped + length_of e
tallied_bytes s (kept at number false) = omega arith
tallied_bytes s (kept at number true) = omega arith
tallied_bytes s (skipped at size) = omega arith

tally_bytes : {at to : ℕ} {es : List Entry} (s : Tally) → Covers at es to → 20 * (tally s es).kept + (tally s es).skipped + at ≡ 20 * s.kept + s.skipped + to
unfolding tally
tally_bytes s ended = refl
tally_bytes s (next {e} {es} b l c) = omega (arith, tallied_bytes s e, tally_bytes (tallied s e) c)

-- `end KEPT DOUBTFUL SKIPPED`: 20 bytes a kept record and the bytes skipped are all bytes
pub total_bytes : (t : List ℕ) → 20 * (tally none (entries t)).kept + (tally none (entries t)).skipped ≡ length t
total_bytes t = omega (arith, tally_bytes none (entries_cover t))

tally_grows : (s : Tally) (es : List Entry) → (s.doubtful ≤ (tally s es).doubtful) × (s.skipped ≤ (tally s es).skipped)
unfolding tally
tally_grows s [] = (omega arith, omega arith)
tally_grows s (kept at number false ∷ es) = tally_grows (tallied s (kept at number false)) es
tally_grows s (kept at number true ∷ es) = let h = tally_grows (tallied s (kept at number true)) es in (omega arith, omega arith)
tally_grows s (skipped at size ∷ es) = let h = tally_grows (tallied s (skipped at size)) es in (omega arith, omega arith)

clean : {at to : ℕ} {es : List Entry} (s : Tally) → Covers at es to → (tally s es).doubtful ≡ 0 → (tally s es).skipped ≡ 0 → every sure es ≡ true
unfolding tally
clean s ended d k = refl
clean s (next {e = kept at number false} {es} g l c) d k = clean (tallied s (kept at number false)) c d k
clean s (next {e = kept at number true} {es} g l c) d k = let h = tally_grows (tallied s (kept at number true)) es in absurd (omega arith)
clean s (next {e = skipped at size} {es} g l c) d k = let h = tally_grows (tallied s (skipped at size)) es in absurd (omega arith)

-- after `end KEPT 0 0` the trace is undamaged
pub clean_end : (t : List ℕ) → Bytes t → (tally none (entries t)).doubtful ≡ 0 → (tally none (entries t)).skipped ≡ 0 → Undamaged 0 t
clean_end t all d k = sure_undamaged t all (clean none (entries_cover t) d k)
