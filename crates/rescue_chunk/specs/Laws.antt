-- What moves write, list and leave, one part after another; up to a record, and with it; and a chunk, from its start to its end.
use Rattle.std.specs.Prelude.{◌≡◌, refl, Bool, true, false, not, List, [], ◌∷◌, ◌++◌, ℕ, zero, suc, ◌+◌, ◌≤◌, length, drop, eqb, if◌then◌else◌}
use Rattle.std.proofs.Common.{sym, ap, ◌∙◌, append_assoc, append-nil, add-zero, arith, length-drop, eqb-true, eq-eqb}
use Rattle.model.specs.Accesses.{Access}
use Rattle.model.specs.Trace.{next_number, number_at}
use Rattle.model.specs.Convert.{Form, trace_form, written}
use Rattle.model.specs.Rescue.{Move, keep, skip, scan, Entry, kept, skipped, Place, range, kept_at, moved, listed, after, moves, beginning, entries, sizes, kept_first}
use Rattle.model.specs.RescueText.{Tally, none, tallied, tally, entry_lines, accesses_of, rescue_text, rescued_trace}
use Rattle.model.proofs.ScanLaws.{scan_short, listed_append, after_append}
use Rattle.decimal.specs.Bridge.{Written}
use Rattle.decimal.specs.Laws.{then}
use Rattle.scan.specs.declared.Place as code
use Rattle.scan.specs.Bridge.{place_as}
use Rattle.scan.specs.Laws.{skips, behind, skips_listed, skips_after}
use Rattle.entry_text.specs.declared.Tally as count
use Rattle.entry_text.specs.Bridge.{tally_as}
use Rattle.rescue_chunk.specs.declared.Output.{Output}
use Rattle.rescue_chunk.specs.declared.Output.TheVariants.{Entries, Records}
use Rattle.rescue_chunk.specs.declared.Rescued.{Rescued}
use Rattle.rescue_chunk.specs.Bridge.{output_of, range_text, kept_text, last_text, whole_of, Small, Wrote, Half}

-- IN TWO PARTS

lines_append : (es fs : List Entry) → entry_lines (es ++ fs) ≡ entry_lines es ++ entry_lines fs
unfolding entry_lines
lines_append [] fs = refl
lines_append (e ∷ es) fs = rw (lines_append es fs, append_assoc)

pub tally_append : (t : Tally) (es fs : List Entry) → tally t (es ++ fs) ≡ tally (tally t es) fs
unfolding tally
tally_append t [] fs = refl
tally_append t (e ∷ es) fs = tally_append (tallied t e) es fs

accesses_append : (ms ns : List Move) → accesses_of (ms ++ ns) ≡ accesses_of ms ++ accesses_of ns
unfolding accesses_of
accesses_append [] ns = refl
accesses_append (keep number q ∷ ms) ns = ap (λ (l : List Access). q ∷ l) (accesses_append ms ns)
accesses_append (skip ∷ ms) ns = accesses_append ms ns

sizes_append : (ms ns : List Move) → sizes (ms ++ ns) ≡ sizes ms + sizes ns
unfolding sizes
sizes_append [] ns = omega arith
sizes_append (m ∷ ms) ns = rw (sizes_append ms ns) (omega arith)

written_append : (f : Form) (count : ℕ) (qs rs : List Access) → written f count (qs ++ rs) ≡ written f count qs ++ written f (count + length qs) rs
unfolding written
written_append f count [] rs = rw add-zero
written_append f count (q ∷ qs) rs =
    let shift : count + 1 + length qs ≡ count + suc (length qs) = omega arith in
    rw (written_append f (count + 1) qs rs, shift, append_assoc)

-- COUNTS

-- what a range adds: its bytes
pub range_tally : (t : Tally) (p : Place) → tally t (range p) ≡ record { kept = t.kept; doubtful = t.doubtful; skipped = t.skipped + p.run }
unfolding tally
range_tally t p = by (eqb p.run 0) refl
  where
    by : (none : Bool) → eqb p.run 0 ≡ none →
        tally t (if none then [] else skipped p.from p.run ∷ []) ≡ record { kept = t.kept; doubtful = t.doubtful; skipped = t.skipped + p.run }
    by true e = rw (eqb-true p.run 0 e, add-zero)
    by false e = refl

-- a kept record is counted, doubtful or not
kept_more : (t : Tally) (at number : ℕ) (doubtful : Bool) → (tallied t (kept at number doubtful)).kept ≡ t.kept + 1
kept_more t at number true = refl
kept_more t at number false = refl

count_kept : (t : Tally) (p : Place) (ms : List Move) → (tally t (listed p ms)).kept ≡ t.kept + length (accesses_of ms)
unfolding tally listed accesses_of
count_kept t p [] = rw add-zero
count_kept t p (skip ∷ ms) = count_kept t (moved p skip) ms
count_kept t p (keep number q ∷ ms) =
    let r = tally t (range p) in
    let one : (tallied r (kept_at p number)).kept ≡ t.kept + 1 = kept_more r (p.from + p.run) number (not (eqb number p.expected)) ∙ ap (λ (s : Tally). s.kept + 1) (range_tally t p) in
    rw (tally_append t (range p ++ (kept_at p number ∷ [])) (listed (moved p (keep number q)) ms), tally_append t (range p) (kept_at p number ∷ []))
    (omega (arith, count_kept (tallied r (kept_at p number)) (moved p (keep number q)) ms, one))

module _ (p : code.Place) (t u : count.Tally) (e : tally_as u ≡ tally (tally_as t) (range (place_as p))) where
  ranged_is : tally_as u ≡ record { kept = t.kept; doubtful = t.doubtful; skipped = t.skipped + p.run }
  ranged_is = e ∙ range_tally (tally_as t) (place_as p)

  -- the counts behind a range ..
  pub ranged : (u.kept ≡ t.kept) × (u.doubtful ≡ t.doubtful) × (u.skipped ≡ t.skipped + p.run)
  ranged = (ap (λ (c : Tally). c.kept) ranged_is, ap (λ (c : Tally). c.doubtful) ranged_is, ap (λ (c : Tally). c.skipped) ranged_is)

  -- .. and behind a record
  pub small_behind : {q : code.Place} {v : count.Tally} (number : ℕ) → Small p t → tally_as v ≡ tallied (tally_as u) (kept_at (place_as p) number) → q.from ≡ p.from + p.run + 20 → Small q v
  small_behind {q} {v} number s f g = by (not (eqb number p.expected)) f
    where
      by : (doubtful : Bool) → tally_as v ≡ tallied (tally_as u) (kept (p.from + p.run) number doubtful) → Small q v
      by true f =
          let k = ap (λ (c : Tally). c.kept) f in
          let d = ap (λ (c : Tally). c.doubtful) f in
          let n = ap (λ (c : Tally). c.skipped) f in
          record { kept = omega (arith, ranged, s.kept); doubtful = omega (arith, ranged, s.doubtful); skipped = omega (arith, ranged, s.skipped) }
      by false f =
          let k = ap (λ (c : Tally). c.kept) f in
          let d = ap (λ (c : Tally). c.doubtful) f in
          let n = ap (λ (c : Tally). c.skipped) f in
          record { kept = omega (arith, ranged, s.kept); doubtful = omega (arith, ranged, s.doubtful); skipped = omega (arith, ranged, s.skipped) }

-- ONE STANDING AFTER ANOTHER

pub outputs_append : (output : Output) (p : Place) (t : Tally) (ms ns : List Move) →
    output_of output p t.kept (ms ++ ns) ≡ output_of output p t.kept ms ++ output_of output (after p ms) (tally t (listed p ms)).kept ns
outputs_append Entries p t ms ns = rw (listed_append p ms ns, lines_append (listed p ms) (listed (after p ms) ns))
outputs_append Records p t ms ns = rw (accesses_append ms ns, written_append trace_form t.kept (accesses_of ms) (accesses_of ns), count_kept t p ms)

module _ {output : Output} {s r : Rescued} {before now : List ℕ} where
  -- more moves
  pub wrote_then : {ms ns : List Move} {q : Rescued} {later : List ℕ} → Wrote output ms s before r now → Wrote output ns r now q later → Wrote output (ms ++ ns) s before q later
  wrote_then {ms} {ns} f g =
      let p : Place = place_as s.place in
      let t : Tally = tally_as s.tally in
      let count : r.tally.kept ≡ (tally t (listed p ms)).kept = ap (λ (u : Tally). u.kept) f.tally in
      record {
        text = rw (outputs_append output p t ms ns, ← f.place, ← count) ((then) f.text g.text);
        place = g.place ∙ rw (f.place, after_append p ms ns);
        tally = g.tally ∙ rw (f.tally, f.place, listed_append p ms ns, tally_append t (listed p ms) (listed (after p ms) ns));
        at = omega (arith, f.at, g.at, sizes_append ms ns);
      }

-- UP TO A RECORD

skips_sizes : (n : ℕ) → sizes (skips n) ≡ n
unfolding sizes
skips_sizes zero = refl
skips_sizes (suc n) = rw (skips_sizes n) (omega arith)

skips_accesses : (n : ℕ) → accesses_of (skips n) ≡ []
unfolding accesses_of
skips_accesses zero = refl
skips_accesses (suc n) = skips_accesses n

skips_output : (output : Output) (p : Place) (count n : ℕ) → output_of output p count (skips n) ≡ []
unfolding entry_lines written
skips_output Entries p count n = rw (skips_listed p n)
skips_output Records p count n = rw (skips_accesses n)

-- bytes that are skipped write nothing
pub skips_wrote : (output : Output) {s r : Rescued} (before : List ℕ) (n : ℕ) → place_as r.place ≡ behind (place_as s.place) n → r.tally ≡ s.tally → r.end ≡ s.end →
    r.at ≡ s.at + n → Wrote output (skips n) s before r before
unfolding tally
skips_wrote output {s} before n p t e a =
    let q : Place = place_as s.place in
    record {
      text = rw (skips_output output q s.tally.kept n, e) (record { place = omega arith; bytes = refl });
      place = p ∙ sym (skips_after q n);
      tally = rw (t, skips_listed q n);
      at = rw (skips_sizes n) a;
    }

-- AND WITH IT

-- where none were skipped
pub no_range : (output : Output) (p : Place) → p.run ≡ 0 → range_text output p ≡ []
unfolding entry_lines
no_range Entries p e = rw (eq-eqb p.run 0 e)
no_range Records p e = refl

record_output : (output : Output) (p : Place) (t : Tally) (bytes : List ℕ) →
    output_of output p t.kept (kept_first bytes ∷ []) ≡ range_text output p ++ kept_text output p (tally t (range p)).kept bytes
unfolding listed entry_lines written accesses_of
record_output Entries p t bytes = rw (append-nil (range p ++ (kept_at p (number_at 2 2 bytes) ∷ [])), lines_append (range p) (kept_at p (number_at 2 2 bytes) ∷ []), append-nil)
record_output Records p t bytes = rw (range_tally t p, append-nil)

-- a record: what was skipped before it, and itself
pub record_wrote : (output : Output) (bytes : List ℕ) {s r : Rescued} {before ranged now : List ℕ} {middle number count : ℕ} →
    number ≡ number_at 2 2 bytes → count ≡ (tally (tally_as s.tally) (range (place_as s.place))).kept →
    Written before s.end (range_text output (place_as s.place)) middle ranged → Written ranged middle (kept_text output (place_as s.place) count bytes) r.end now →
    place_as r.place ≡ record { from = s.place.from + s.place.run + 20; run = 0; expected = next_number number } →
    tally_as r.tally ≡ tallied (tally (tally_as s.tally) (range (place_as s.place))) (kept_at (place_as s.place) number) → r.at ≡ s.at + 20 →
    Wrote output (kept_first bytes ∷ []) s before r now
unfolding listed after tally sizes
record_wrote output bytes {s} {number} n c ranges keeps place t a =
    let p : Place = place_as s.place in
    let u : Tally = tally_as s.tally in
    record {
      text = rw (record_output output p u bytes, ← c) ((then) ranges keeps);
      place = place ∙ rw n;
      tally = t ∙ rw (n, append-nil (range p ++ (kept_at p (number_at 2 2 bytes) ∷ [])), tally_append u (range p) (kept_at p (number_at 2 2 bytes) ∷ []));
      at = a;
    }

pub record_size : (bytes : List ℕ) → sizes (kept_first bytes ∷ []) ≡ 20
unfolding sizes
record_size bytes = refl

-- A CHUNK

module _ {output : Output} {least : ℕ} {first s : Rescued} {input before now : List ℕ} (h : Half output least first input before s now) where
  pub half_more : {ms : List Move} {r : Rescued} {later : List ℕ} → scan least 0 (drop s.at input) ≡ ms ++ scan least 0 (drop r.at input) → Wrote output ms s now r later →
      Half output least first input before r later
  half_more {ms} e w = record { done = h.done ++ ms; split = h.split ∙ rw (e, append_assoc); wrote = wrote_then h.wrote w }

  -- too few bytes are left
  pub all_done : 1 ≤ least → length input + 1 ≤ s.at + least → Wrote output (scan least 0 input) first before s now
  all_done some l =
      let none = scan_short least (drop s.at input) (omega (arith, length-drop s.at input)) in
      rw (h.split, none, append-nil h.done) h.wrote

pub none_done : (output : Output) (least : ℕ) (first : Rescued) (input before : List ℕ) → first.at ≡ 0 → Half output least first input before first before
unfolding listed after tally sizes entry_lines accesses_of written
none_done output least first input before e = record { done = []; split = rw e; wrote = by output }
  where
    by : (output : Output) → Wrote output [] first before first before
    by Entries = record { text = record { place = omega arith; bytes = refl }; place = refl; tally = refl; at = omega arith }
    by Records = record { text = record { place = omega arith; bytes = refl }; place = refl; tally = refl; at = omega arith }

-- A WHOLE TRACE: what its moves write, and what closes the output
pub whole_is : (output : Output) (trace : List ℕ) →
    whole_of output trace ≡ output_of output beginning 0 (moves trace) ++ last_text output (after beginning (moves trace)) (tally none (listed beginning (moves trace)))
unfolding rescue_text rescued_trace entries
whole_is Entries trace =
    let es = listed beginning (moves trace) in
    let last = range (after beginning (moves trace)) in
    rw (lines_append es last, tally_append none es last, append_assoc)
whole_is Records trace = rw append-nil
