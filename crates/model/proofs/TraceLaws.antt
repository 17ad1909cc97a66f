-- Laws of the record of 20 bytes: the reader refuses with the smallest number whose cause holds, and looks at no more than 20 bytes; what was written
-- is read back, and what was read is written the same.
use Rattle.std.specs.Prelude.{◌≡◌, refl, Bool, true, false, ◌&&◌, List, [], ◌∷◌, ◌++◌, ℕ, zero, suc, ◌+◌, ◌^◌, ◌≤◌, ◌<◌, eqb, ltb, length, get_or, take, drop, if◌then◌else◌}
use Rattle.std.proofs.Common.{sym, ap, ◌∙◌, arith, lit≤, lit<, length-append, length-drop, take-append-drop, length-take-le, drop-cons, eq-eqb, ne_eqb, lt-ltb, le-ltb, ltb-false, eqb-true}
use Rattle.std.proofs.Math.ListN.{get_or-append}
use Rattle.std.proofs.lemmas.List.{take-append-le, drop-append-le}
use Rattle.std.proofs.lemmas.Bool.{not-false}
use Rattle.model.specs.Checks.{refusal, Smallest}
use Rattle.model.specs.Lanes.{bytes_of}
use Rattle.model.specs.Accesses.{Access, Fits}
use Rattle.model.proofs.CheckLaws.{Ascending, smallest, passed}
use Rattle.model.proofs.TestLaws.{and_left, and_right}
use Rattle.model.proofs.LaneLaws.{Bytes, bytes_take, bytes_drop, bytes_dword, dword_below, dword_bytes}
use Rattle.model.specs.Trace.{record_bytes, number_after, next_number, number_at, trace_checks, access_at, recorded, refused, read_record, next, unwritten, write_record, reading_number}

-- THE RECORD NUMBER

pub next_after : (count : ℕ) → next_number (number_after count) ≡ number_after (count + 1)
next_after count = omega arith

-- THE REFUSAL

reading_number_lem : (bytes : List ℕ) (expected : ℕ) → reading_number (read_record bytes expected) ≡ refusal (trace_checks bytes expected)
unfolding read_record
reading_number_lem bytes expected = by (refusal (trace_checks bytes expected))
  where
    by : (n : ℕ) → reading_number (if eqb n 0 then recorded (access_at bytes) else refused n) ≡ n
    by zero = refl
    by (suc n) = rw (ne_eqb (suc n) 0 (λ e. omega arith))

ascending : (bytes : List ℕ) (expected : ℕ) → Ascending 1 (trace_checks bytes expected)
ascending bytes expected = (lit≤ tt, (lit≤ tt, (lit≤ tt, (lit≤ tt, tt))))

pub reading_smallest : (bytes : List ℕ) (expected : ℕ) → Smallest (reading_number (read_record bytes expected)) (trace_checks bytes expected)
reading_smallest bytes expected =
    rw (reading_number_lem bytes expected) (smallest 1 (lit< tt) (trace_checks bytes expected) (ascending bytes expected))

-- what is not refused with 20 has 20 bytes
pub record_whole : (bytes : List ℕ) (expected : ℕ) → (refusal (trace_checks bytes expected) ≡ 20 → ⊥) → 20 ≤ length bytes
record_whole bytes expected h = ltb-false (length bytes) 20 (by (ltb (length bytes) 20) _ h)
  where
    by : (short : Bool) (later : ℕ) → ((if short then 20 else later) ≡ 20 → ⊥) → short ≡ false
    by true later h = absurd (h refl)
    by false later h = refl

-- WHAT WAS RECORDED IS READ

-- where the numbers fit their fields, and whatever follows
pub read_recorded : (number : ℕ) (q : Access) (rest : List ℕ) → number < 65536 → Fits q → read_record (record_bytes number q ++ rest) number ≡ recorded q
unfolding read_record
read_recorded number q rest n f =
    let whole : ltb (length (record_bytes number q ++ rest)) 20 ≡ false = le-ltb (length (record_bytes number q ++ rest)) 20 (omega arith) in
    rw (whole, eq-eqb _ _ (dword_bytes 2 number n), dword_bytes 4 q.a f.a, dword_bytes 4 q.b f.b, dword_bytes 4 q.c f.c)

-- ONLY THE FIRST 20 BYTES ARE READ

pub number_first : (n at : ℕ) (s t : List ℕ) → at + n ≤ length s → number_at n at (s ++ t) ≡ number_at n at s
number_first n at s t h =
    rw (drop-append-le at s t (omega arith), take-append-le n (drop at s) t (omega (arith, length-drop at s)))

pub access_first : (s t : List ℕ) → 20 ≤ length s → access_at (s ++ t) ≡ access_at s
access_first s t h =
    rw (
      get_or-append s t 0 4 (omega arith),
      get_or-append s t 0 5 (omega arith),
      get_or-append s t 0 6 (omega arith),
      number_first 4 8 s t (omega arith),
      number_first 4 12 s t (omega arith),
      number_first 4 16 s t (omega arith),
    )

pub reads_first : (s t : List ℕ) (expected : ℕ) → 20 ≤ length s → read_record (s ++ t) expected ≡ read_record s expected
unfolding read_record
reads_first s t expected h =
    let whole : ltb (length (s ++ t)) 20 ≡ ltb (length s) 20 = rw (le-ltb (length s) 20 h) (le-ltb (length (s ++ t)) 20 (omega (arith, length-append s t))) in
    rw (
      whole,
      get_or-append s t 0 0 (omega arith),
      get_or-append s t 0 1 (omega arith),
      number_first 2 2 s t (omega arith),
      get_or-append s t 0 7 (omega arith),
      access_first s t h,
    )

-- WHAT IS READ WAS RECORDED

-- a record with this number and this access stands at the start of the bytes
pub record RecordStands (bytes : List ℕ) (expected : ℕ) (q : Access) : Type 0 where
  pub long : 20 ≤ length bytes
  pub mark : (0x42 ≡ get_or bytes 0 0) × (0x50 ≡ get_or bytes 1 0)
  pub number : expected ≡ number_at 2 2 bytes
  pub zero_byte : 0 ≡ get_or bytes 7 0
  pub access : access_at bytes ≡ q

pub recorded_is : (number : ℕ) (q : Access) (bytes : List ℕ) → read_record bytes number ≡ recorded q → RecordStands bytes number q
unfolding read_record
recorded_is number q bytes h = by (refusal (trace_checks bytes number)) refl h
  where
    by : (r : ℕ) → refusal (trace_checks bytes number) ≡ r → (if eqb r 0 then recorded (access_at bytes) else refused r) ≡ recorded q → RecordStands bytes number q
    by zero e h =
        let p = passed 1 (lit< tt) (trace_checks bytes number) (ascending bytes number) e in
        let b0 = eqb (get_or bytes 0 0) 0x42 in
        let b1 = eqb (get_or bytes 1 0) 0x50 in
        let mark = not-false (b0 && b1) p.1.0 in
        record {
          long = ltb-false (length bytes) 20 p.0;
          mark = (sym (eqb-true (get_or bytes 0 0) 0x42 (and_left b0 b1 mark)), sym (eqb-true (get_or bytes 1 0) 0x50 (and_right b0 b1 mark)));
          number = sym (eqb-true (number_at 2 2 bytes) number (not-false (eqb (number_at 2 2 bytes) number) p.1.1.0));
          zero_byte = sym (eqb-true (get_or bytes 7 0) 0 (not-false (eqb (get_or bytes 7 0) 0) p.1.1.1.0));
          access = cc;
        }
    by (suc r) e h =
        let g : refused (suc r) ≡ recorded q = rw (ne_eqb (suc r) 0 (λ z. omega arith)) at h in
        absurd (let z : ◌≡◌ {A = ℕ} 0 1 = cc in omega arith)

-- `n` members from place `i` on, one by one
unfoldable pub members : (n i : ℕ) → List ℕ → List ℕ
members zero i l = []
members (suc n) i l = get_or l i 0 ∷ members n (suc i) l

pub take_members : (n i : ℕ) (l : List ℕ) → i + n ≤ length l → take n (drop i l) ≡ members n i l
unfolding members
take_members zero i l h = refl
take_members (suc n) i l h = rw (drop-cons l i 0 (omega arith)) (ap (get_or l i 0 ∷◌) (take_members n (suc i) l (omega arith)))

module _ (n i : ℕ) (bytes : List ℕ) (all : Bytes bytes) (h : i + n ≤ length bytes) where
  long : length (take n (drop i bytes)) ≡ n
  long = length-take-le n (drop i bytes) (omega (arith, length-drop i bytes))

  each : Bytes (take n (drop i bytes))
  each = bytes_take n (drop i bytes) (bytes_drop i bytes all)

  -- the bytes that a number was read from
  number_bytes : bytes_of n (number_at n i bytes) ≡ members n i bytes
  number_bytes = rw long at (bytes_dword (take n (drop i bytes)) each) ∙ take_members n i bytes h

  number_below : number_at n i bytes < 256 ^ n
  number_below = rw long at (dword_below (take n (drop i bytes)) each)

-- a record by its parts
layout : (m m' : ℕ) (number : List ℕ) (kind side s z : ℕ) (a b c : List ℕ) → List ℕ
layout m m' number kind side s z a b c = m ∷ m' ∷ (number ++ (kind ∷ side ∷ s ∷ z ∷ (a ++ b ++ c)))

parts : {m m' x x' z z' : ℕ} {n n' a a' b b' c c' : List ℕ} (kind side s : ℕ) → m ≡ m' → x ≡ x' → n ≡ n' → z ≡ z' → a ≡ a' → b ≡ b' → c ≡ c' →
    layout m x n kind side s z a b c ≡ layout m' x' n' kind side s z' a' b' c'
parts kind side s em ex en ez ea eb ec = cc

-- the numbers of an access that is read fit, ..
pub recorded_fits : (number : ℕ) (q : Access) (bytes : List ℕ) → Bytes bytes → read_record bytes number ≡ recorded q → Fits q
recorded_fits number q bytes all h =
    let r = recorded_is number q bytes h in
    let l = r.long in
    rw (← r.access)
    (record {
      kind = all 4;
      side = all 5;
      s = all 6;
      a = number_below 4 8 bytes all (omega arith);
      b = number_below 4 12 bytes all (omega arith);
      c = number_below 4 16 bytes all (omega arith);
    })

first_bytes : (number : ℕ) (q : Access) (bytes : List ℕ) → Bytes bytes → RecordStands bytes number q → record_bytes number q ≡ take 20 bytes
unfolding members layout
first_bytes number q bytes all r =
    let l = r.long in
    rw (← r.access)
    (parts (get_or bytes 4 0) (get_or bytes 5 0) (get_or bytes 6 0) r.mark.0 r.mark.1
    (ap (bytes_of 2) r.number ∙ number_bytes 2 2 bytes all (omega arith))
    r.zero_byte
    (number_bytes 4 8 bytes all (omega arith))
    (number_bytes 4 12 bytes all (omega arith))
    (number_bytes 4 16 bytes all (omega arith))
    ∙ sym (take_members 20 0 bytes l))

-- .. and its record is the first 20 bytes
pub recorded_bytes : (number : ℕ) (q : Access) (bytes : List ℕ) → Bytes bytes → read_record bytes number ≡ recorded q → bytes ≡ record_bytes number q ++ drop 20 bytes
recorded_bytes number q bytes all h =
    sym (take-append-drop 20 bytes) ∙ ap (λ (l : List ℕ). l ++ drop 20 bytes) (sym (first_bytes number q bytes all (recorded_is number q bytes h)))

-- THE WRITER

pub write_stores : (number : ℕ) (q : Access) (buffer : List ℕ) → 20 ≤ length buffer →
    write_record number q buffer ≡ record { answer = next (next_number number); buffer = record_bytes number q ++ drop 20 buffer }
unfolding write_record
write_stores number q buffer h = rw (le-ltb (length buffer) 20 h)

pub write_refuses : (number : ℕ) (q : Access) (buffer : List ℕ) → length buffer < 20 → write_record number q buffer ≡ record { answer = unwritten 24; buffer = buffer }
unfolding write_record
write_refuses number q buffer h = rw (lt-ltb (length buffer) 20 h)

-- "Reading what was written gives the access back, ..
pub written_read : (number : ℕ) (q : Access) (buffer : List ℕ) → number < 65536 → Fits q → 20 ≤ length buffer →
    read_record (write_record number q buffer).buffer number ≡ recorded q
written_read number q buffer n f h = rw (write_stores number q buffer h) (read_recorded number q (drop 20 buffer) n f)

-- .. and writing what was read gives the same 20 bytes, for every access."
pub read_written : (number : ℕ) (q : Access) (bytes : List ℕ) → Bytes bytes → read_record bytes number ≡ recorded q → (write_record number q bytes).buffer ≡ bytes
read_written number q bytes all h = rw (write_stores number q bytes (recorded_is number q bytes h).long) (sym (recorded_bytes number q bytes all h))
