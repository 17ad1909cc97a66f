-- Laws of a damaged trace behind a place where its scan stands: what stands in front of it decides only which number is expected next.
use Rattle.std.specs.Prelude.{◌≡◌, refl, Bool, true, false, not, ◌&&◌, ◌||◌, List, [], ◌∷◌, ◌++◌, ℕ, zero, suc, ◌+◌, ◌-◌, ◌*◌, ◌≤◌, ◌<◌, length, drop, ltb, if◌then◌else◌}
use Rattle.std.proofs.Common.{subst, sym, ap, ◌∙◌, add-zero, zero-add, arith, length-drop, drop-drop, lt-ltb, le-ltb, ltb-true, ltb-false, eq-eqb, ne_eqb}
use Rattle.std.proofs.Math.Bool.{or-true}
use Rattle.std.proofs.Math.Seq.{drop-nil}
use Rattle.model.specs.Choice.{every, All}
use Rattle.model.proofs.TestLaws.{and_left, and_right, and-true}
use Rattle.model.specs.Accesses.{Access, Fits}
use Rattle.model.specs.Trace.{number_after, number_at}
use Rattle.model.specs.Convert.{trace_form, written}
use Rattle.model.specs.Rescue.{stands, Move, skip, moves, Entry, kept, skipped, Place, beginning, range, kept_at, moved, entries, entries_from, sizes, kept_first}
use Rattle.model.specs.RescueText.{accesses_of}
use Rattle.model.proofs.ScanLaws.{stands_whole, scan_short, scan_kept, scan_skipped}
use Rattle.model.proofs.EntryLaws.{Walk, done, keeps, skips, walk, from_none, from_kept, from_skipped, range_by, start_of, length_of, Covers, ended, next, covers, standing_at}
use Rattle.model.proofs.UndamagedLaws.{kept_records, undamaged_from, undamaged_kept, read_at, reads_from}

-- WHERE THE SCAN STANDS

-- the scan of the bytes comes to stand at a place
pub data StandsAt : (bytes : List ℕ) → (b : ℕ) → Type 0 where
  at_start : {bytes : List ℕ} → StandsAt bytes 0
  after_record : {bytes : List ℕ} {b : ℕ} → stands bytes ≡ true → StandsAt (drop 20 bytes) b → StandsAt bytes (20 + b)
  after_byte : {byte : ℕ} {bytes : List ℕ} {b : ℕ} → stands (byte ∷ bytes) ≡ false → StandsAt bytes b → StandsAt (byte ∷ bytes) (1 + b)

-- so it does exactly where its first moves pass `b` bytes, ..
pub record Passes (bytes : List ℕ) (b : ℕ) : Type 0 where
  pub first : List Move
  pub rest : List Move
  pub is : moves bytes ≡ first ++ rest
  pub passed : sizes first ≡ b

pub stands_passes : {bytes : List ℕ} {b : ℕ} → StandsAt bytes b → Passes bytes b
unfolding sizes
stands_passes (at_start {bytes}) = record { first = []; rest = moves bytes; is = refl; passed = refl }
stands_passes (after_record {bytes} s w) =
    let i = stands_passes w in
    record {
      first = kept_first bytes ∷ i.first;
      rest = i.rest;
      is = scan_kept 1 bytes (omega (arith, stands_whole bytes s)) s ∙ ap (kept_first bytes ∷◌) i.is;
      passed = ap (20 +◌) i.passed;
    }
stands_passes (after_byte {byte} {bytes} s w) =
    let i = stands_passes w in
    record {
      first = skip ∷ i.first;
      rest = i.rest;
      is = scan_skipped 1 (byte ∷ bytes) (omega arith) (omega arith) s ∙ ap (skip ∷◌) i.is;
      passed = ap (1 +◌) i.passed;
    }

passes_stands_by : {bytes : List ℕ} → Walk bytes → (first rest : List Move) → moves bytes ≡ first ++ rest → StandsAt bytes (sizes first)
unfolding sizes
passes_stands_by w [] rest e = at_start
passes_stands_by done (m ∷ first) rest e =
    let g : [] ≡ m ∷ (first ++ rest) = sym (scan_short 1 [] (omega arith)) ∙ e in
    absurd (let z : ◌≡◌ {A = ℕ} 0 1 = cc in omega arith)
passes_stands_by (keeps {bytes} s w) (m ∷ first) rest e =
    let g : kept_first bytes ∷ moves (drop 20 bytes) ≡ m ∷ (first ++ rest) = sym (scan_kept 1 bytes (omega (arith, stands_whole bytes s)) s) ∙ e in
    let is : m ≡ kept_first bytes = cc in
    rw is (after_record s (passes_stands_by w first rest (cc)))
passes_stands_by (skips {b} {bytes} s w) (m ∷ first) rest e =
    let g : skip ∷ moves bytes ≡ m ∷ (first ++ rest) = sym (scan_skipped 1 (b ∷ bytes) (omega arith) (omega arith) s) ∙ e in
    let is : m ≡ skip = cc in
    rw is (after_byte s (passes_stands_by w first rest (cc)))

pub passes_stands : {bytes : List ℕ} {b : ℕ} → Passes bytes b → StandsAt bytes b
passes_stands {bytes} p = rw p.passed at (passes_stands_by (walk bytes) p.first p.rest p.is)

-- .. and, up to the end, exactly outside of the records that it keeps
abbrev pub outside : (b : ℕ) → Entry → Bool
outside b (kept at number doubtful) = not (ltb at b) || not (ltb b (at + 20))
outside b (skipped at size) = true

record_outside : (b : ℕ) (p : Place) (number : ℕ) (es : List Entry) → outside b (kept_at p number) ≡ true → every (outside b) es ≡ true →
    every (outside b) (range p ++ (kept_at p number ∷ es)) ≡ true
record_outside b p number es o h = range_by (λ r. every (outside b) (r ++ (kept_at p number ∷ es)) ≡ true) p (λ e. and-true o h) (λ l. and-true o h)

later_outside : (b : ℕ) (p : Place) {bytes : List ℕ} → Walk bytes → b ≤ p.from + p.run → every (outside b) (entries_from p bytes) ≡ true
later_outside b p done h = rw (from_none p) (range_by (λ r. every (outside b) (r ++ []) ≡ true) p (λ e. refl) (λ l. refl))
later_outside b p (keeps {bytes} s w) h =
    let rest = later_outside b (moved p (kept_first bytes)) w (omega arith) in
    rw (from_kept p bytes s) (record_outside b p (number_at 2 2 bytes) _ (rw (le-ltb (p.from + p.run) b h)) rest)
later_outside b p (skips {b = c} {bytes} s w) h = rw (from_skipped p c bytes s) (later_outside b (moved p skip) w (omega arith))

come_outside : (at : ℕ) (p : Place) {bytes : List ℕ} {b : ℕ} → StandsAt bytes b → p.from + p.run + b ≡ at → every (outside at) (entries_from p bytes) ≡ true
come_outside at p (at_start {bytes}) e = later_outside at p (walk bytes) (omega arith)
come_outside at p (after_record {bytes} {b} s w) e =
    let here = p.from + p.run in
    let rest = come_outside at (moved p (kept_first bytes)) w (omega arith) in
    rw (from_kept p bytes s) (record_outside at p (number_at 2 2 bytes) _ (rw (le-ltb at (here + 20) (omega arith)) (or-true (not (ltb here at)))) rest)
come_outside at p (after_byte {byte} {bytes} {b} s w) e = rw (from_skipped p byte bytes s) (come_outside at (moved p skip) w (omega arith))

pub stands_outside : (t : List ℕ) (b : ℕ) → StandsAt t b → every (outside b) (entries t) ≡ true
unfolding entries entries_from
stands_outside t b w = come_outside b beginning w (omega arith)

record_tells : (b : ℕ) (p : Place) (number : ℕ) (es : List Entry) → every (outside b) (range p ++ (kept_at p number ∷ es)) ≡ true →
    (outside b (kept_at p number) && every (outside b) es) ≡ true
record_tells b p number es = range_by (λ r. every (outside b) (r ++ (kept_at p number ∷ es)) ≡ true → (outside b (kept_at p number) && every (outside b) es) ≡ true) p (λ e h. h) (λ l h. h)

beyond : (here at : ℕ) → here < at → (not (ltb here at) || not (ltb at (here + 20))) ≡ true → here + 20 ≤ at
beyond here at h o = ltb-false at (here + 20) (by (ltb at (here + 20)) (rw (lt-ltb here at h) at o))
  where
    by : (b : Bool) → not b ≡ true → b ≡ false
    by true o = sym o
    by false o = refl

at_or_past : {bytes : List ℕ} (b : ℕ) → (1 ≤ b → StandsAt bytes b) → StandsAt bytes b
at_or_past zero f = at_start
at_or_past (suc b) f = f (omega arith)

outside_from : (at : ℕ) (p : Place) {bytes : List ℕ} → Walk bytes → (b : ℕ) → p.from + p.run + b ≡ at → b ≤ length bytes →
    every (outside at) (entries_from p bytes) ≡ true → StandsAt bytes b
outside_from at p done b e l h = let z : b ≡ 0 = omega arith in rw z at_start
outside_from at p (keeps {bytes} s w) b e l h = at_or_past b (past (outside_from at (moved p (kept_first bytes)) w (b - 20)))
  where
    past : (p.from + p.run + 20 + 0 + (b - 20) ≡ at → b - 20 ≤ length (drop 20 bytes) → every (outside at) (entries_from (moved p (kept_first bytes)) (drop 20 bytes)) ≡ true → StandsAt (drop 20 bytes) (b - 20)) →
        1 ≤ b → StandsAt bytes b
    past f k =
        let n = number_at 2 2 bytes in
        let es = entries_from (moved p (kept_first bytes)) (drop 20 bytes) in
        let g = record_tells at p n es (rw (from_kept p bytes s) at h) in
        let far = beyond (p.from + p.run) at (omega arith) (and_left (outside at (kept_at p n)) (every (outside at) es) g) in
        let z : b ≡ 20 + (b - 20) = omega arith in
        rw z (after_record s (f (omega arith) (omega (arith, length-drop 20 bytes)) (and_right (outside at (kept_at p n)) (every (outside at) es) g)))
outside_from at p (skips {b = byte} {bytes} s w) b e l h =
    at_or_past b (past (λ i j. outside_from at (moved p skip) w (b - 1) i j (rw (from_skipped p byte bytes s) at h)))
  where
    past : (p.from + (p.run + 1) + (b - 1) ≡ at → b - 1 ≤ length bytes → StandsAt bytes (b - 1)) → 1 ≤ b → StandsAt (byte ∷ bytes) b
    past f k = let z : b ≡ 1 + (b - 1) = omega arith in rw z (after_byte s (f (omega arith) (omega arith)))

pub outside_stands : (t : List ℕ) (b : ℕ) → b ≤ length t → every (outside b) (entries t) ≡ true → StandsAt t b
unfolding entries entries_from
outside_stands t b l h = outside_from b beginning (walk t) b (omega arith) l h

-- THE ENTRIES BEHIND

-- what entries say of the bytes from `b` on: a range that `b` stands in is cut there; it stands in no kept record (`stands_outside`)
abbrev pub part_behind : (b : ℕ) → Entry → List Entry
part_behind b (kept at number doubtful) = if ltb at b then [] else kept at number doubtful ∷ []
part_behind b (skipped at size) =
    if ltb b (at + size)
    then (if ltb at b then skipped b (at + size - b) else skipped at size) ∷ []
    else []

unfoldable pub behind : (b : ℕ) → List Entry → List Entry
behind b [] = []
behind b (e ∷ es) = part_behind b e ++ behind b es

-- the same entries, but perhaps for the mark of the first kept record
pub data Alike : List Entry → List Entry → Type 0 where
  none_listed : Alike [] []
  same_range : {at size : ℕ} {es es' : List Entry} → Alike es es' → Alike (skipped at size ∷ es) (skipped at size ∷ es')
  first_kept : {at number : ℕ} {doubtful doubtful' : Bool} {es : List Entry} → Alike (kept at number doubtful ∷ es) (kept at number doubtful' ∷ es)

-- only the first mark asks which number is expected
abbrev expecting : (number : ℕ) → Place → Place
expecting n p = record { from = p.from; run = p.run; expected = n }

range_alike : (p : Place) (es es' : List Entry) → Alike es es' → Alike (range p ++ es) (range p ++ es')
range_alike p es es' a = range_by (λ r. Alike (r ++ es) (r ++ es')) p (λ e. a) (λ l. same_range a)

alike_from : (n : ℕ) (p : Place) {bytes : List ℕ} → Walk bytes → Alike (entries_from p bytes) (entries_from (expecting n p) bytes)
alike_from n p done = rw (from_none p, from_none (expecting n p)) (range_alike p [] [] none_listed)
alike_from n p (keeps {bytes} s w) = rw (from_kept p bytes s, from_kept (expecting n p) bytes s) (range_alike p _ _ first_kept)
alike_from n p (skips {b} {bytes} s w) = rw (from_skipped p b bytes s, from_skipped (expecting n p) b bytes s) (alike_from n (moved p skip) w)

-- all of what begins behind is kept
behind_all : {at to : ℕ} {es : List Entry} (b : ℕ) → Covers at es to → b ≤ at → behind b es ≡ es
unfolding behind
behind_all b ended h = refl
behind_all b (next {at} {to} {e} {es} s l c) h = rw (whole e (omega arith) l, behind_all b c (omega arith))
  where
    whole : (e : Entry) → b ≤ start_of e → 1 ≤ length_of e → part_behind b e ≡ e ∷ []
    whole (kept at number doubtful) h l = rw (le-ltb at b h)
    whole (skipped at size) h l = rw (lt-ltb b (at + size) (omega arith), le-ltb at b h)

-- a scan that stands in or at the end of the range at `b`, as if it had begun there
abbrev cut_at : (b : ℕ) → Place → Place
cut_at b p = record { from = b; run = p.from + p.run - b; expected = p.expected }

range_behind : (b : ℕ) (p : Place) (es : List Entry) → p.from ≤ b → b ≤ p.from + p.run → behind b (range p ++ es) ≡ range (cut_at b p) ++ behind b es
unfolding behind
range_behind b p es h g =
    range_by (λ r. behind b (r ++ es) ≡ range (cut_at b p) ++ behind b es) p
    (λ e. rw (eq-eqb (p.from + p.run - b) 0 (omega arith)))
    (λ l. by (ltb b (p.from + p.run)) refl (ltb p.from b) refl)
  where
    by : (inside : Bool) → ltb b (p.from + p.run) ≡ inside → (cut : Bool) → ltb p.from b ≡ cut →
        behind b (skipped p.from p.run ∷ es) ≡ range (cut_at b p) ++ behind b es
    by false e cut c = let m = ltb-false b (p.from + p.run) e in rw (e, eq-eqb (p.from + p.run - b) 0 (omega arith))
    by true e true c = let m = ltb-true b (p.from + p.run) e in rw (e, c, ne_eqb (p.from + p.run - b) 0 (λ z. omega arith))
    by true e false c =
        let m = ltb-true b (p.from + p.run) e in
        let f : p.from ≡ b = (let k = ltb-false p.from b c in omega arith) in
        let r : p.run ≡ p.from + p.run - b = omega arith in
        rw (e, c, ne_eqb (p.from + p.run - b) 0 (λ z. omega arith), ← r, f)

behind_from : (b : ℕ) (p : Place) {bytes : List ℕ} → Walk bytes → p.from ≤ b → b ≤ p.from + p.run → behind b (entries_from p bytes) ≡ entries_from (cut_at b p) bytes
unfolding behind
behind_from b p done h g = rw (from_none p, from_none (cut_at b p)) (range_behind b p [] h g)
behind_from b p (keeps {bytes} s w) h g =
    let n = number_at 2 2 bytes in
    let es = entries_from (moved p (kept_first bytes)) (drop 20 bytes) in
    let z : b + (p.from + p.run - b) ≡ p.from + p.run = omega arith in
    let later = behind_all b (next {e = kept_at p n} refl (omega arith) (covers (moved p (kept_first bytes)) w)) g in
    rw (from_kept p bytes s, from_kept (cut_at b p) bytes s, z) (range_behind b p (kept_at p n ∷ es) h g ∙ ap (range (cut_at b p) ++◌) later)
behind_from b p (skips {b = c} {bytes} s w) h g =
    let z : p.from + (p.run + 1) - b ≡ p.from + p.run - b + 1 = omega arith in
    rw (from_skipped p c bytes s, from_skipped (cut_at b p) c bytes s) (rw z at (behind_from b (moved p skip) w h (omega arith)))

-- what was listed in front of `b` is gone
behind_passed : (b : ℕ) (p : Place) (number : ℕ) (es : List Entry) → p.from + p.run < b → behind b (range p ++ (kept_at p number ∷ es)) ≡ behind b es
unfolding behind
behind_passed b p number es h =
    range_by (λ r. behind b (r ++ (kept_at p number ∷ es)) ≡ behind b es) p
    (λ e. rw (lt-ltb (p.from + p.run) b h))
    (λ l. rw (le-ltb b (p.from + p.run) (omega arith), lt-ltb (p.from + p.run) b h))

-- so only the number that is expected at `b` comes from what stands in front of it
record BehindIs (t : List ℕ) (b : ℕ) (es : List Entry) : Type 0 where
  expected : ℕ
  is : es ≡ entries_from (standing_at b expected) t

come_to : (at : ℕ) (p : Place) {bytes : List ℕ} {b : ℕ} → StandsAt bytes b → p.from + p.run + b ≡ at → BehindIs (drop b bytes) at (behind at (entries_from p bytes))
come_to at p (at_start {bytes}) e =
    let z : p.from + p.run - at ≡ 0 = omega arith in
    record { expected = p.expected; is = rw z at (behind_from at p (walk bytes) (omega arith) (omega arith)) }
come_to at p (after_record {bytes} {b} s w) e =
    let m = kept_first bytes in
    let rest = come_to at (moved p m) w (omega arith) in
    record { expected = rest.expected; is = rw (from_kept p bytes s) (behind_passed at p (number_at 2 2 bytes) _ (omega arith) ∙ rest.is ∙ rw (drop-drop b 20 bytes)) }
come_to at p (after_byte {byte} {bytes} {b} s w) e =
    let rest = come_to at (moved p skip) w (omega arith) in
    record { expected = rest.expected; is = rw (from_skipped p byte bytes s) (rest.is ∙ rw (drop-drop b 1 (byte ∷ bytes))) }

behind_stands : (t : List ℕ) (b : ℕ) → StandsAt t b → BehindIs (drop b t) b (behind b (entries t))
unfolding entries entries_from
behind_stands t b w = come_to b beginning w (omega arith)

-- T14.7: BEHIND ANY PLACE

-- "drop b t = drop b t', and both scans stand at b: from b on the same kept places and numbers, the same skipped bytes, and the same marks but perhaps
-- the first." That |t| = |t'| follows.
pub alike_behind : (t t' : List ℕ) (b : ℕ) → drop b t ≡ drop b t' → StandsAt t b → StandsAt t' b → Alike (behind b (entries t)) (behind b (entries t'))
alike_behind t t' b e w w' =
    let one = behind_stands t b w in
    let other = behind_stands t' b w' in
    rw (one.is, other.is, e) (alike_from other.expected (standing_at b one.expected) (walk (drop b t')))

behind_reads : (t : List ℕ) (b : ℕ) → StandsAt t b → read_at t (behind b (entries t)) ≡ accesses_of (moves (drop b t))
behind_reads t b w =
    let one = behind_stands t b w in
    let here : drop b t ≡ drop (b + 0) t = rw add-zero in
    rw one.is (sym (reads_from t (standing_at b one.expected) (walk (drop b t)) here))

-- 14.11: "places, numbers and bytes": the records kept from there on are read as the same accesses
pub same_reads : (t t' : List ℕ) (b : ℕ) → drop b t ≡ drop b t' → StandsAt t b → StandsAt t' b → read_at t (behind b (entries t)) ≡ read_at t' (behind b (entries t'))
same_reads t t' b e w w' = rw (behind_reads t b w, behind_reads t' b w', e)

-- T14.6: BEHIND A BOUNDARY

-- behind `k` records of a list
written_drop : (k n : ℕ) (qs : List Access) → drop (20 * k) (written trace_form n qs) ≡ written trace_form (n + k) (drop k qs)
unfolding written
written_drop zero n qs = rw add-zero
written_drop (suc k) n [] = drop-nil (20 * suc k)
written_drop (suc k) n (q ∷ qs) =
    let z : 20 * suc k ≡ 20 + 20 * k = omega arith in
    let shift : n + suc k ≡ n + 1 + k = omega arith in
    rw (z, ← drop-drop (20 * k) 20 (written trace_form n (q ∷ qs)), written_drop k (n + 1) qs, shift)

all_drop : (k : ℕ) (qs : List Access) → All Fits qs → All Fits (drop k qs)
all_drop zero qs h = h
all_drop (suc k) [] h = h
all_drop (suc k) (q ∷ qs) h = all_drop k qs h.1

-- "t = trace(..), t' = t from byte d on, b a multiple of 20, b >= d, and the scan of t' stands at b: the kept entries of t' from b on are
-- (b, b / 20), (b + 20, ..), .. as of t, none skipped, and all marks but the first's are clear."
pub same_records_behind : (qs : List Access) (t' : List ℕ) (d k : ℕ) → All Fits qs → drop d t' ≡ drop d (written trace_form 0 qs) → d ≤ 20 * k → StandsAt t' (20 * k) →
    Alike (behind (20 * k) (entries t')) (kept_records k (length qs - k))
same_records_behind qs t' d k h e l w =
    let other = behind_stands t' (20 * k) w in
    let t = written trace_form 0 qs in
    let z : d + (20 * k - d) ≡ 20 * k = omega arith in
    let same : drop (20 * k) t' ≡ drop (20 * k) t = rw (drop-drop (20 * k - d) d t', drop-drop (20 * k - d) d t, z) at (ap (drop (20 * k - d)) e) in
    let rest : drop (20 * k) t ≡ written trace_form k (drop k qs) = rw (zero-add k) at (written_drop k 0 qs) in
    let records = undamaged_from k (drop k qs) (all_drop k qs h) in
    rw (other.is, same, rest, ← length-drop k qs, ← records)
    (alike_from (number_after k) (standing_at (20 * k) other.expected) (walk (written trace_form k (drop k qs))))

records_cover : (k n : ℕ) → Covers (20 * k) (kept_records k n) (20 * (k + n))
unfolding kept_records
records_cover k zero = rw add-zero ended
records_cover k (suc n) =
    let z : 20 * (k + 1) ≡ 20 * k + 20 = omega arith in
    let shift : k + suc n ≡ k + 1 + n = omega arith in
    rw shift (next {e = kept (20 * k) (number_after k) false} refl (omega arith) (rw z at (records_cover (k + 1) n)))

records_behind : (k i n : ℕ) → behind (20 * (k + i)) (kept_records k n) ≡ kept_records (k + i) (n - i)
unfolding behind kept_records
records_behind k zero n =
    let same : n - 0 ≡ n = omega arith in
    rw (add-zero, same) (behind_all (20 * k) (records_cover k n) (omega arith))
records_behind k (suc i) zero = let none : 0 - suc i ≡ 0 = omega arith in rw none
records_behind k (suc i) (suc n) =
    let fewer : suc n - suc i ≡ n - i = omega arith in
    rw fewer (at (k + suc i) (omega arith) (records_behind (k + 1) i n))
  where
    at : (m : ℕ) → m ≡ k + 1 + i → behind (20 * (k + 1 + i)) (kept_records (k + 1) n) ≡ kept_records (k + 1 + i) (n - i) → behind (20 * m) (kept_records k (suc n)) ≡ kept_records m (n - i)
    at m e r = rw (lt-ltb (20 * k) (20 * m) (omega arith)) (subst (λ (m : ℕ). behind (20 * m) (kept_records (k + 1) n) ≡ kept_records m (n - i)) (sym e) r)

-- "it keeps the same records from there as the undamaged scan": which lists these
pub undamaged_behind : (qs : List Access) (k : ℕ) → All Fits qs → behind (20 * k) (entries (written trace_form 0 qs)) ≡ kept_records k (length qs - k)
undamaged_behind qs k h = rw (undamaged_kept qs h) (rw (zero-add k) at (records_behind 0 k (length qs)))
