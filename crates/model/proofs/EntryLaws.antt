-- Laws of the entries: the scan walks the bytes record by record and byte by byte, the entries follow that walk, and L14's sentences leave no other list.
use Rattle.std.specs.Prelude.{◌≡◌, Bool, true, false, not, ◌&&◌, List, [], ◌∷◌, ◌++◌, ℕ, zero, suc, ◌+◌, ◌≤◌, ◌<◌, length, get_or, drop, eqb, ltb, if◌then◌else◌}
use Rattle.std.proofs.Math.Path.{refl}
use Rattle.std.proofs.Common.{sym, ◌∙◌, append_assoc, append-nil, add-zero, zero-add, arith, length-drop, drop-drop, lt-ltb, le-ltb, ltb-true, ltb-false, eq-eqb, ne_eqb, eqb-true}
use Rattle.std.proofs.Math.Seq.{drop-length}
use Rattle.std.proofs.lemmas.Bool.{eqb-false}
use Rattle.model.proofs.TestLaws.{and_left, and_right, if_case}
use Rattle.model.specs.Choice.{All}
use Rattle.model.specs.Accesses.{Access}
use Rattle.model.specs.Trace.{record_bytes, next_number, number_at, access_at, recorded, read_record}
use Rattle.model.proofs.TraceLaws.{recorded_is}
use Rattle.model.proofs.ConvertLaws.{FromShorter, by_length}
use Rattle.model.specs.Rescue.{stands, skip, scan, Entry, kept, skipped, Place, beginning, range, kept_at, moved, listed, after, entries, entries_from, kept_first}
use Rattle.model.proofs.ScanLaws.{stands_whole, scan_kept, scan_skipped}

-- THE WALK

-- bytes, passed as the scan passes them
pub data Walk : List ℕ → Type 0 where
  done : Walk []
  keeps : {bytes : List ℕ} → stands bytes ≡ true → Walk (drop 20 bytes) → Walk bytes
  skips : {b : ℕ} {bytes : List ℕ} → stands (b ∷ bytes) ≡ false → Walk bytes → Walk (b ∷ bytes)

pub walk : (bytes : List ℕ) → Walk bytes
walk = by_length Walk step
  where
    step : FromShorter Walk
    step [] i = done
    step (b ∷ later) i = by (stands (b ∷ later)) refl
      where
        by : (there : Bool) → stands (b ∷ later) ≡ there → Walk (b ∷ later)
        by true e = keeps e (i (drop 20 (b ∷ later)) (omega (arith, length-drop 20 (b ∷ later))))
        by false e = skips e (i later (omega arith))

-- ENTRIES FROM A PLACE ON

-- where a scan stands, `run` bytes behind `from`; and where it stands with nothing skipped that is not listed
abbrev placed : (from run expected : ℕ) → Place
placed from run expected = record { from = from; run = run; expected = expected }

abbrev pub standing_at : (b expected : ℕ) → Place
standing_at b expected = placed b 0 expected

-- at the end the last range is listed; a record that stands is kept behind its range; any other byte lengthens the range
pub from_none : (p : Place) → entries_from p [] ≡ range p ++ []
unfolding entries_from listed after scan
from_none p = rw append-nil

pub from_kept : (p : Place) (bytes : List ℕ) → stands bytes ≡ true →
    entries_from p bytes ≡ range p ++ (kept_at p (number_at 2 2 bytes) ∷ entries_from (moved p (kept_first bytes)) (drop 20 bytes))
unfolding entries_from listed after
from_kept p bytes s = rw (scan_kept 1 bytes (omega (arith, stands_whole bytes s)) s) (simp append_assoc)

pub from_skipped : (p : Place) (b : ℕ) (bytes : List ℕ) → stands (b ∷ bytes) ≡ false → entries_from p (b ∷ bytes) ≡ entries_from (moved p skip) bytes
unfolding entries_from listed after
from_skipped p b bytes s = rw (scan_skipped 1 (b ∷ bytes) (omega arith) (omega arith) s)

-- a range is listed where some bytes were skipped
pub range_by : (P : List Entry → Type 0) (p : Place) → (p.run ≡ 0 → P []) → (1 ≤ p.run → P (skipped p.from p.run ∷ [])) → P (range p)
range_by P p f g =
    if_case P (eqb p.run 0) [] (skipped p.from p.run ∷ []) (λ e. f (eqb-true p.run 0 e)) (λ e. g (let n = eqb-false p.run 0 e in omega arith))

-- the bytes of the trace further on
pub further : (t : List ℕ) (n : ℕ) (p p' : Place) (bytes : List ℕ) → bytes ≡ drop (p.from + p.run) t → p.from + p.run + n ≡ p'.from + p'.run →
    drop n bytes ≡ drop (p'.from + p'.run) t
further t n p p' bytes e g = rw (e, drop-drop n (p.from + p.run) t, g)

-- T14.1: EVERY BYTE IN ONE ENTRY

-- where an entry begins, and how many bytes it has
abbrev pub start_of : Entry → ℕ
start_of (kept at number doubtful) = at
start_of (skipped at size) = at

abbrev pub length_of : Entry → ℕ
length_of (kept at number doubtful) = 20
length_of (skipped at size) = size

-- Entries cover the bytes from `at` to `to`: each begins where the one before it ends, and has some bytes.
pub data Covers : (at : ℕ) → List Entry → (to : ℕ) → Type 0 where
  ended : {at : ℕ} → Covers at [] at
  next : {at to : ℕ} {e : Entry} {es : List Entry} → start_of e ≡ at → 1 ≤ length_of e → Covers (at + length_of e) es to → Covers at (e ∷ es) to

range_covers : (p : Place) (es : List Entry) (to : ℕ) → Covers (p.from + p.run) es to → Covers p.from (range p ++ es) to
range_covers p es to c =
    range_by (λ r. Covers p.from (r ++ es) to) p
    (λ e. let z : p.from + p.run ≡ p.from = omega arith in rw z at c)
    (λ l. next refl l c)

-- from any place on
pub covers : (p : Place) {bytes : List ℕ} → Walk bytes → Covers p.from (entries_from p bytes) (p.from + p.run + length bytes)
covers p done = rw (from_none p, add-zero) (range_covers p [] (p.from + p.run) ended)
covers p (keeps {bytes} s w) =
    let z : p.from + p.run + length bytes ≡ p.from + p.run + 20 + 0 + length (drop 20 bytes) = omega (arith, stands_whole bytes s, length-drop 20 bytes) in
    rw (from_kept p bytes s, z) (range_covers p _ _ (next refl (omega arith) (covers (moved p (kept_first bytes)) w)))
covers p (skips {b} {bytes} s w) =
    let z : p.from + p.run + length (b ∷ bytes) ≡ p.from + (p.run + 1) + length bytes = omega arith in
    rw (from_skipped p b bytes s, z) (covers (moved p skip) w)

-- "The entries, in order, cover 0 .. |t| without gap or overlap."
pub entries_cover : (t : List ℕ) → Covers 0 (entries t) (length t)
unfolding entries entries_from
entries_cover t = rw (zero-add (length t)) at (covers beginning (walk t))

-- whether byte `i` lies in an entry, and in how many it lies
abbrev pub holds : (i : ℕ) → Entry → Bool
holds i e = not (ltb i (start_of e)) && ltb i (start_of e + length_of e)

unfoldable pub holding : (i : ℕ) → List Entry → ℕ
holding i [] = 0
holding i (e ∷ es) = (if holds i e then 1 else 0) + holding i es

held_before : {at to : ℕ} {es : List Entry} (i : ℕ) → Covers at es to → i < at → holding i es ≡ 0
unfolding holding
held_before i ended h = refl
held_before i (next {e} {es} s l c) h = rw (lt-ltb i (start_of e) (omega arith), held_before i c (omega arith))

held_once : {at to : ℕ} {es : List Entry} (i : ℕ) → Covers at es to → at ≤ i → i < to → holding i es ≡ 1
unfolding holding
held_once i ended g h = absurd (omega arith)
held_once i (next {at} {e} {es} s l c) g h = by (ltb i (start_of e + length_of e)) refl (λ k. held_once i c k h)
  where
    by : (inside : Bool) → ltb i (start_of e + length_of e) ≡ inside → (at + length_of e ≤ i → holding i es ≡ 1) → holding i (e ∷ es) ≡ 1
    by true k later = rw (le-ltb i (start_of e) (omega arith), k, held_before i c (let m = ltb-true i (start_of e + length_of e) k in omega arith))
    by false k later = rw (le-ltb i (start_of e) (omega arith), k, later (let m = ltb-false i (start_of e + length_of e) k in omega arith))

-- "every byte lies in exactly one kept record or skipped range"
pub each_byte_once : (t : List ℕ) (i : ℕ) → i < length t → holding i (entries t) ≡ 1
each_byte_once t i h = held_once i (entries_cover t) (omega arith) h

-- T14.2: RANGES APART, AND NO RECORD SKIPPED

-- behind a range comes a kept record, or nothing
pub data Apart : List Entry → Type 0 where
  none_left : Apart []
  record_first : {at number : ℕ} {doubtful : Bool} {es : List Entry} → Apart es → Apart (kept at number doubtful ∷ es)
  range_last : {at size : ℕ} → Apart (skipped at size ∷ [])
  range_first : {from size at number : ℕ} {doubtful : Bool} {es : List Entry} → Apart es → Apart (skipped from size ∷ kept at number doubtful ∷ es)

apart : (p : Place) {bytes : List ℕ} → Walk bytes → Apart (entries_from p bytes)
apart p done = rw (from_none p) (range_by (λ r. Apart (r ++ [])) p (λ e. none_left) (λ l. range_last))
apart p (keeps {bytes} s w) =
    let m = kept_first bytes in
    let rest = apart (moved p m) w in
    let es = entries_from (moved p m) (drop 20 bytes) in
    rw (from_kept p bytes s) (range_by (λ r. Apart (r ++ (kept_at p (number_at 2 2 bytes) ∷ es))) p (λ e. record_first rest) (λ l. range_first rest))
apart p (skips {b} {bytes} s w) = rw (from_skipped p b bytes s) (apart (moved p skip) w)

-- "No two skipped side by side": that is "each as long as it can be", said of the ranges (14.1)
pub ranges_apart : (t : List ℕ) → Apart (entries t)
unfolding entries entries_from
ranges_apart t = apart beginning (walk t)

-- no record stands at any of `size` bytes from `at` on
abbrev pub Clear : (t : List ℕ) → (at size : ℕ) → Type 0
Clear t at size = (i : ℕ) → i < size → stands (drop (at + i) t) ≡ false

-- what holds of every record that stands, and of every range where none stands, holds of all entries
module _ (t : List ℕ) (P : Entry → Type 0)
    (record_has : (at : ℕ) (bytes : List ℕ) (doubtful : Bool) → bytes ≡ drop at t → stands bytes ≡ true → P (kept at (number_at 2 2 bytes) doubtful))
    (range_has : (at size : ℕ) → Clear t at size → P (skipped at size)) where
  range_all : (p : Place) (es : List Entry) → Clear t p.from p.run → All P es → All P (range p ++ es)
  range_all p es c a = range_by (λ r. All P (r ++ es)) p (λ e. a) (λ l. (range_has p.from p.run c, a))

  all_from : (p : Place) {bytes : List ℕ} → Walk bytes → bytes ≡ drop (p.from + p.run) t → Clear t p.from p.run → All P (entries_from p bytes)
  all_from p done e c = rw (from_none p) (range_all p [] c tt)
  all_from p (keeps {bytes} s w) e c =
      let m = kept_first bytes in
      let rest = all_from (moved p m) w (further t 20 p (moved p m) bytes e (omega arith)) (λ i h. absurd (omega arith)) in
      rw (from_kept p bytes s) (range_all p _ c (record_has (p.from + p.run) bytes _ e s, rest))
  all_from p (skips {b} {bytes} s w) e c =
      rw (from_skipped p b bytes s)
      (all_from (moved p skip) w (further t 1 p (moved p skip) (b ∷ bytes) e (omega arith)) clear)
    where
      clear : Clear t p.from (p.run + 1)
      clear i h = by (ltb i p.run) refl
        where
          by : (before : Bool) → ltb i p.run ≡ before → stands (drop (p.from + i) t) ≡ false
          by true k = c i (ltb-true i p.run k)
          by false k = let z : p.from + i ≡ p.from + p.run = (let l = ltb-false i p.run k in omega arith) in rw (z, ← e) s

  all_entries : All P (entries t)
  unfolding entries entries_from
  all_entries = all_from beginning (walk t) refl (λ i h. absurd (omega arith))

-- as a fact of entries, which of kept records says nothing
abbrev pub RangeClear : (t : List ℕ) → Entry → Type 0
RangeClear t (kept at number doubtful) = Unit {0}
RangeClear t (skipped at size) = Clear t at size

-- "at no skipped byte a record stands"
pub no_record_skipped : (t : List ℕ) → All (RangeClear t) (entries t)
no_record_skipped t = all_entries t (RangeClear t) (λ at bytes doubtful e s. tt) (λ at size c. c)

-- T14.4: WHAT STANDS IS READ

-- 14.8: "`read` of the trace from there with that number gives the access"
pub stands_read : (bytes : List ℕ) → stands bytes ≡ true → read_record bytes (number_at 2 2 bytes) ≡ recorded (access_at bytes)
unfolding read_record
stands_read bytes h =
    let whole = not (ltb (length bytes) 20) in
    let b0 = eqb (get_or bytes 0 0) 0x42 in
    let b1 = eqb (get_or bytes 1 0) 0x50 in
    let b7 = eqb (get_or bytes 7 0) 0 in
    let front = and_left (whole && b0 && b1) b7 h in
    rw (
      le-ltb (length bytes) 20 (stands_whole bytes h),
      and_right whole b0 (and_left (whole && b0) b1 front),
      and_right (whole && b0) b1 front,
      eq-eqb (number_at 2 2 bytes) (number_at 2 2 bytes) refl,
      and_right (whole && b0 && b1) b7 h,
    )

-- as a fact of entries, which of ranges says nothing
abbrev pub RecordRead : (t : List ℕ) → Entry → Type 0
RecordRead t (kept at number doubtful) = read_record (drop at t) number ≡ recorded (access_at (drop at t))
RecordRead t (skipped at size) = Unit {0}

-- "read(drop k t, number) is a record for each kept(k, number, ..)."
pub kept_read : (t : List ℕ) → All (RecordRead t) (entries t)
kept_read t = all_entries t (RecordRead t) (λ at bytes doubtful e s. rw (← e) (stands_read bytes s)) (λ at size c. tt)

-- And back: what the reader takes for a record, with any number, stands.
pub read_stands : (bytes : List ℕ) (expected : ℕ) (q : Access) → read_record bytes expected ≡ recorded q → stands bytes ≡ true
read_stands bytes expected q h =
    let r = recorded_is expected q bytes h in
    rw (le-ltb (length bytes) 20 r.long, ← r.mark.0, ← r.mark.1, ← r.zero_byte)

-- 14.2: record number, kind and side are "not looked at for keeping"
pub recorded_stands : (number : ℕ) (q : Access) (rest : List ℕ) → stands (record_bytes number q ++ rest) ≡ true
recorded_stands number q rest = rw (le-ltb (length (record_bytes number q ++ rest)) 20 (omega arith))

-- MARKS

-- "mark a kept record doubtful when its number is not the previous kept one plus one, modulo 65,536", over ranges too (14.4), and whether or not the
-- previous one is doubtful (14.3)
pub data Marked : (expected : ℕ) → List Entry → Type 0 where
  none_marked : {n : ℕ} → Marked n []
  over_range : {n at size : ℕ} {es : List Entry} → Marked n es → Marked n (skipped at size ∷ es)
  by_number : {n at number : ℕ} {es : List Entry} → Marked (next_number number) es → Marked n (kept at number (not (eqb number n)) ∷ es)

range_marked : (p : Place) (n : ℕ) (es : List Entry) → Marked n es → Marked n (range p ++ es)
range_marked p n es m = range_by (λ r. Marked n (r ++ es)) p (λ e. m) (λ l. over_range m)

marked : (p : Place) {bytes : List ℕ} → Walk bytes → Marked p.expected (entries_from p bytes)
marked p done = rw (from_none p) (range_marked p _ [] none_marked)
marked p (keeps {bytes} s w) = rw (from_kept p bytes s) (range_marked p _ _ (by_number (marked (moved p (kept_first bytes)) w)))
marked p (skips {b} {bytes} s w) = rw (from_skipped p b bytes s) (marked (moved p skip) w)

-- "the first is doubtful unless its number is 0"
pub entries_marked : (t : List ℕ) → Marked 0 (entries t)
unfolding entries entries_from
entries_marked t = marked beginning (walk t)

-- NO OTHER ENTRIES

-- bytes where no record stands lengthen the range
skip_over : (size : ℕ) (p : Place) (bytes : List ℕ) → ((i : ℕ) → i < size → stands (drop i bytes) ≡ false) → size ≤ length bytes →
    entries_from p bytes ≡ entries_from (placed p.from (p.run + size) p.expected) (drop size bytes)
skip_over zero p bytes c h = rw add-zero
skip_over (suc size) p [] c h = absurd (omega arith)
skip_over (suc size) p (b ∷ bytes) c h =
    let z : p.run + suc size ≡ p.run + 1 + size = omega arith in
    rw (z, from_skipped p b bytes (c 0 (omega arith))) (skip_over size (moved p skip) bytes (λ i l. c (suc i) (omega arith)) (omega arith))

covers_to : {at to : ℕ} {es : List Entry} → Covers at es to → at ≤ to
covers_to ended = omega arith
covers_to (next s l c) = let h = covers_to c in omega arith

covers_none : {at to : ℕ} → Covers at [] to → at ≡ to
covers_none ended = refl

-- the mark of a kept record first in the list, and those behind it
marked_first : {n at number : ℕ} {doubtful : Bool} {es : List Entry} → Marked n (kept at number doubtful ∷ es) →
    (doubtful ≡ not (eqb number n)) × Marked (next_number number) es
marked_first (by_number m) = (refl, m)

marked_behind : {n at size : ℕ} {es : List Entry} → Marked n (skipped at size ∷ es) → Marked n es
marked_behind (over_range m) = m

module _ (t : List ℕ) where
  -- a range or none and the record that is kept behind it
  kept_only : (at run here number expected : ℕ) (es : List Entry) → at + run ≡ here → read_record (drop here t) number ≡ recorded (access_at (drop here t)) →
      es ≡ entries_from (standing_at (here + 20) (next_number number)) (drop (here + 20) t) →
      range (placed at run expected) ++ (kept here number (not (eqb number expected)) ∷ es) ≡ entries_from (placed at run expected) (drop here t)
  kept_only at run here number expected es z h e =
      let bytes = drop here t in
      let r = recorded_is number (access_at bytes) bytes h in
      rw (from_kept (placed at run expected) bytes (read_stands bytes number (access_at bytes) h), z, ← r.number, drop-drop 20 here t, e)

  -- a range up to its end
  range_only : (at size n : ℕ) → Clear t at size → at + size ≤ length t → entries_from (standing_at at n) (drop at t) ≡ entries_from (placed at size n) (drop (at + size) t)
  range_only at size n c h =
      skip_over size (standing_at at n) (drop at t) (λ i l. rw (drop-drop i at t) (c i l)) (omega (arith, length-drop at t)) ∙ rw (zero-add size, drop-drop size at t)

  only_from : (n : ℕ) {at : ℕ} {es : List Entry} → Covers at es (length t) → Apart es → All (RangeClear t) es → All (RecordRead t) es → Marked n es →
      es ≡ entries_from (standing_at at n) (drop at t)
  only_from n ended none_left c r m = sym (rw (drop-length t) (from_none (standing_at (length t) n)))
  only_from n (next s l v) (record_first {at} {number} {es = es} a) (c, cs) (r, rs) m =
      let first = marked_first m in
      let rest = only_from (next_number number) v a cs rs first.1 in
      rw (← s, first.0) (kept_only at 0 at number n es (omega arith) r (rw (← s) at rest))
  only_from n (next s l v) (range_last {at} {size}) (c, cs) r m =
      let z : at + size ≡ length t = (let e = covers_none v in omega arith) in
      rw (← s, range_only at size n c (omega arith), z, drop-length t, from_none (placed at size n), ne_eqb size 0 (λ e. omega arith))
  only_from n (next s l (next s' l' v)) (range_first {from} {size} {at} {number} {es = es} a) (c, (c', cs)) (r, (r', rs)) m =
      let first = marked_first (marked_behind m) in
      let rest = only_from (next_number number) v a cs rs first.1 in
      let z : from + size ≡ at = omega arith in
      let h = covers_to v in
      rw (← s, range_only from size n c (omega arith), z, first.0)
      (rw (ne_eqb size 0 (λ e. omega arith)) at (kept_only from size at number n es z r' (rw (← s') at rest)))

  -- L14's sentences have one answer: entries that cover the trace, with no two ranges side by side, no record at a skipped byte, a record at each kept
  -- place and the marks by the numbers, are those that the scan lists.
  pub entries_only : (es : List Entry) → Covers 0 es (length t) → Apart es → All (RangeClear t) es → All (RecordRead t) es → Marked 0 es → es ≡ entries t
  unfolding entries entries_from
  entries_only es v a c r m = only_from 0 v a c r m
