-- Laws of the two conversions: of any two forms whose readers read back what is written, and nothing else; then of the trace and the text.
use Rattle.std.specs.Prelude.{◌≡◌, Bool, true, false, drop, replicate, ltb, if◌then◌else◌}
use Rattle.std.proofs.Math.Path.{refl, sym, ap}
use Rattle.std.proofs.Common.{◌∙◌, true≢false, zero-add, length-append, lit≤, lt-ltb, le-ltb, ltb-true, ltb-false}
use mathlib.Core.List.{List, [], ◌∷◌, ◌++◌, flatten, append_assoc, append-nil}
use Prim.Native.Nat.{ℕ, zero, suc, ◌+◌, ◌<◌, ◌≤◌}
use Rattle.std.proofs.Math.Nat.{add-zero}
use native.Mathlib.Omega.{arith}
use Rattle.std.proofs.Math.ListN.{length, length-drop}
use Rattle.std.proofs.Math.Seq.{drop-append_seam}
use Rattle.std.proofs.lemmas.List.{drop-append-le}
use Rattle.model.specs.Choice.{All}
use Rattle.model.proofs.LaneLaws.{Bytes, bytes_drop}
use Rattle.model.specs.Accesses.{Access, Fits, access}
use Rattle.model.specs.Trace.{record_bytes, number_after, Reading, recorded, refused, read_record}
use Rattle.model.proofs.TraceLaws.{next_after, read_recorded, reads_first, recorded_is, recorded_fits, recorded_bytes}
use Rattle.model.specs.Text.{digits_within, decimal_text, refusal_text, log_text, refused_line_text, spelt, starts_with, ◌ended_by◌, read_field}
use Rattle.model.proofs.TextLaws.{field_none}
use Rattle.model.specs.AccessText.{access_line, read_line}
use Rattle.model.proofs.AccessTextLaws.{line_back, line_read, line_length, NoLine, refused_no_line, no_line_refused, line_first}
use Rattle.model.specs.Replay.{Standing, answered, logged, replay, replay_start}
use Rattle.model.proofs.ReplayLaws.{replay_none, replay_more, replay_stopped}
use Rattle.model.specs.Convert.{Form, trace_form, text_form, written, Place, waiting, stopped_at, Converted, nothing_more, convert_up_to, convert, convert_on, ◌and_then◌, to_trace, to_text, beginning, convert_chunks}

-- What the laws ask of a form.
pub record Readable (f : Form) : Type 0 where
  -- what is written is read back, whatever follows
  pub back : (count : ℕ) (q : Access) (rest : List ℕ) → Fits q → f.read count (f.bytes count q ++ rest) ≡ recorded q
  -- nothing else is read
  pub only : (count : ℕ) (q : Access) (input : List ℕ) → Bytes input → f.read count input ≡ recorded q →
      Fits q × (input ≡ f.bytes count q ++ drop (length (f.bytes count q)) input)
  -- an access that is read has 12 bytes or more, no more than the longest, and no more than there are
  pub size : (count : ℕ) (q : Access) (input : List ℕ) → f.read count input ≡ recorded q →
      (12 ≤ length (f.bytes count q)) × (length (f.bytes count q) ≤ f.longest) × (length (f.bytes count q) ≤ length input)
  -- the reader looks at no more bytes than the longest has
  pub first : (count : ℕ) (s t : List ℕ) → f.longest ≤ length s → f.read count (s ++ t) ≡ f.read count s

-- a fact of every list, from the same of every shorter one
abbrev pub FromShorter : (List ℕ → Type 0) → Type 0
FromShorter P = (l : List ℕ) → ((m : List ℕ) → length m < length l → P m) → P l

pub by_length : (P : List ℕ → Type 0) → FromShorter P → (l : List ℕ) → P l
by_length P f l = within (suc (length l)) l (omega arith)
  where
    within : (k : ℕ) (l : List ℕ) → length l < k → P l
    within zero l h = absurd (omega arith)
    within (suc k) l h = f l (λ m g. within k m (omega arith))

-- ACCESS BY ACCESS

module _ (from : Form) (ok : Readable from) (least : ℕ) (some : 1 ≤ least) (to : Form) where
  -- room for more accesses than there are changes nothing
  enough : (k j count : ℕ) (input : List ℕ) → length input ≤ k → length input ≤ j → convert_up_to k from to least count input ≡ convert_up_to j from to least count input
  unfolding convert_up_to
  enough zero zero count input h g = refl
  enough zero (suc j) count input h g = rw (lt-ltb (length input) least (omega arith))
  enough (suc k) zero count input h g = rw (lt-ltb (length input) least (omega arith))
  enough (suc k) (suc j) count input h g = by (from.read count input) refl (λ rest l. enough k j (count + 1) rest (omega arith) (omega arith))
    where
      by : (r : Reading) → from.read count input ≡ r →
          ((rest : List ℕ) → length rest < length input → convert_up_to k from to least (count + 1) rest ≡ convert_up_to j from to least (count + 1) rest) →
          convert_up_to (suc k) from to least count input ≡ convert_up_to (suc j) from to least count input
      by (recorded q) e i =
          let n = length (from.bytes count q) in
          let s = ok.size count q input e in
          rw (e, i (drop n input) (omega (arith, s.0, s.2, length-drop n input)))
      by (refused n) e i = rw e

  -- where fewer bytes are left than asked for, nothing is read
  pub convert_none : (count : ℕ) (input : List ℕ) → length input < least → convert from to least count input ≡ nothing_more (waiting count input)
  unfolding convert convert_up_to
  convert_none count [] h = refl
  convert_none count (b ∷ input) h = rw (lt-ltb (length (b ∷ input)) least h)

  -- an access that is read is turned, and then the rest
  pub convert_more : (count : ℕ) (input : List ℕ) (q : Access) → least ≤ length input → from.read count input ≡ recorded q →
      convert from to least count input
      ≡ (let rest = convert from to least (count + 1) (drop (length (from.bytes count q)) input) in record { output = to.bytes count q ++ rest.output; place = rest.place })
  unfolding convert convert_up_to
  convert_more count [] q h e = absurd (omega arith)
  convert_more count (b ∷ input) q h e =
      let n = length (from.bytes count q) in
      let l : 1 ≤ n = omega (arith, (ok.size count q (b ∷ input) e).0) in
      let d = length-drop n (b ∷ input) in
      rw (le-ltb (length (b ∷ input)) least h, e, enough (length input) (length (drop n (b ∷ input))) (count + 1) (drop n (b ∷ input)) (omega arith) (omega arith))

  -- a refusal writes its line and stops
  pub convert_refused : (count : ℕ) (input : List ℕ) (n : ℕ) → least ≤ length input → from.read count input ≡ refused n →
      convert from to least count input ≡ record { output = from.refusal_line n count; place = stopped_at count }
  unfolding convert convert_up_to
  convert_refused count [] n h e = absurd (omega arith)
  convert_refused count (b ∷ input) n h e = rw (le-ltb (length (b ∷ input)) least h, e)

-- A LIST OF ACCESSES

-- all of an input turned: so many accesses, nothing refused, nothing left
abbrev pub whole : (output : List ℕ) → (count : ℕ) → Converted
whole output count = record { output = output; place = record { count = count; stopped = false; left = [] } }

-- turned up to a refusal, after so many accesses
abbrev pub refused_after : (output : List ℕ) → (count : ℕ) → Converted
refused_after output count = record { output = output; place = record { count = count; stopped = true; left = [] } }

module _ (from to : Form) (ok : Readable from) where
  -- the accesses of a list are turned, and then what follows their bytes
  written_then : (count : ℕ) (qs : List Access) (rest : List ℕ) → All Fits qs →
      convert from to 1 count (written from count qs ++ rest)
      ≡ (let c = convert from to 1 (count + length qs) rest in record { output = written to count qs ++ c.output; place = c.place })
  unfolding written
  written_then count [] rest h = rw add-zero
  written_then count (q ∷ qs) rest h =
      let bytes : List ℕ = from.bytes count q in
      let later : List ℕ = written from (count + 1) qs ++ rest in
      let read = ok.back count q later h.0 in
      let s = ok.size count q (bytes ++ later) read in
      let shift : count + suc (length qs) ≡ count + 1 + length qs = omega arith in
      rw (
        append_assoc bytes (written from (count + 1) qs) rest,
        convert_more from ok 1 (omega arith) to count (bytes ++ later) q (omega (arith, s.0, s.2)) read,
        drop-append_seam bytes later,
        written_then (count + 1) qs rest h.1,
        shift,
        append_assoc,
      )

  -- the bytes of a list in one form become its bytes in the other
  pub turned : (qs : List Access) → All Fits qs → convert from to 1 0 (written from 0 qs) ≡ whole (written to 0 qs) (length qs)
  turned qs h =
      sym (ap (convert from to 1 0) (append-nil (written from 0 qs))) ∙ written_then 0 qs [] h
      ∙ rw (convert_none from ok 1 (omega arith) to (0 + length qs) [] (omega arith), append-nil, zero-add)

  -- and where something follows that is refused, the line of the refusal comes after them
  pub turned_then_refused : (qs : List Access) (rest : List ℕ) (n : ℕ) → All Fits qs → 1 ≤ length rest → from.read (length qs) rest ≡ refused n →
      convert from to 1 0 (written from 0 qs ++ rest) ≡ refused_after (written to 0 qs ++ from.refusal_line n (length qs)) (length qs)
  turned_then_refused qs rest n h l e = written_then 0 qs rest h ∙ rw (zero-add, convert_refused from ok 1 (omega arith) to (length qs) rest n l e)

-- WHAT AN INPUT IS

-- the bytes of a list, and then nothing, or something that is refused
pub data Is (f : Form) (count : ℕ) (input : List ℕ) : Type 0 where
  all_of_lem : (qs : List Access) → All Fits qs → input ≡ written f count qs → Is f count input
  up_to : (qs : List Access) (rest : List ℕ) (n : ℕ) → All Fits qs → input ≡ written f count qs ++ rest → 1 ≤ length rest → f.read (count + length qs) rest ≡ refused n →
      Is f count input

module _ (f : Form) (ok : Readable f) where
  -- one access more in front
  more : (count : ℕ) (q : Access) (input rest : List ℕ) → Fits q → input ≡ f.bytes count q ++ rest → Is f (count + 1) rest → Is f count input
  unfolding written
  more count q input rest t e (all_of_lem qs h g) = all_of_lem (q ∷ qs) (t, h) (e ∙ rw g)
  more count q input rest t e (up_to qs last n h g l r) =
      let shift : count + suc (length qs) ≡ count + 1 + length qs = omega arith in
      up_to (q ∷ qs) last n (t, h) (e ∙ rw (g, append_assoc)) l (rw shift r)

  -- every input is one of the two
  pub every_input : (input : List ℕ) (count : ℕ) → Bytes input → Is f count input
  unfolding written
  every_input = by_length (λ input. (count : ℕ) → Bytes input → Is f count input) step
    where
      step : FromShorter (λ input. (count : ℕ) → Bytes input → Is f count input)
      step [] i count all = all_of_lem [] tt refl
      step (b ∷ later) i count all = by (f.read count input) refl
        where
          input : List ℕ
          input = b ∷ later

          by : (r : Reading) → f.read count input ≡ r → Is f count input
          by (refused n) e = up_to [] input n tt refl (omega arith) (rw add-zero e)
          by (recorded q) e =
              let n = length (f.bytes count q) in
              let s = ok.size count q input e in
              let o = ok.only count q input all e in
              more count q input (drop n input) o.0 o.1 (i (drop n input) (omega (arith, s.0, s.2, length-drop n input)) (count + 1) (bytes_drop n input all))

  -- an access has some bytes
  nonempty : (count : ℕ) (q : Access) (qs : List Access) → Fits q → written f count (q ∷ qs) ≡ [] → ⊥
  unfolding written
  nonempty count q qs h e =
      let s = ok.size count q (f.bytes count q ++ written f (count + 1) qs) (ok.back count q (written f (count + 1) qs) h) in
      omega (arith, s.0, s.2, ap length e)

  -- no other list has the same bytes
  pub written_once : (count : ℕ) (qs rs : List Access) → All Fits qs → All Fits rs → written f count qs ≡ written f count rs → qs ≡ rs
  unfolding written
  written_once count [] [] h g e = refl
  written_once count [] (r ∷ rs) h g e = absurd (nonempty count r rs g.0 (sym e))
  written_once count (q ∷ qs) [] h g e = absurd (nonempty count q qs h.0 e)
  written_once count (q ∷ qs) (r ∷ rs) h g e =
      let later = written f (count + 1) qs in
      let later' = written f (count + 1) rs in
      let read : recorded q ≡ recorded r = sym (ok.back count q later h.0) ∙ ap (f.read count) e ∙ ok.back count r later' g.0 in
      let same : q ≡ r = cc in
      let rest : later ≡ later' = sym (drop-append_seam (f.bytes count q) later) ∙ ap (drop (length (f.bytes count q))) e ∙ rw same (drop-append_seam (f.bytes count r) later') in
      let others = written_once (count + 1) qs rs h.1 g.1 rest in
      cc

-- CHUNK AFTER CHUNK

module _ (from to : Form) (ok : Readable from) (least : ℕ) (some : 1 ≤ least) (l : least ≤ from.longest) where
  abbrev Ahead : (more : List ℕ) → (count : ℕ) → (input : List ℕ) → Type 0
  Ahead more count input = convert from to least count (input ++ more) ≡ (convert from to from.longest count input and_then λ p. convert_on from to least p more)

  ahead_all : (more input : List ℕ) (count : ℕ) → Ahead more count input
  ahead_all more = by_length (λ input. (count : ℕ) → Ahead more count input) step
    where
      step : FromShorter (λ input. (count : ℕ) → Ahead more count input)
      step input i count = by (ltb (length input) from.longest) refl (from.read count input) refl
        where
          by : (short : Bool) → ltb (length input) from.longest ≡ short → (r : Reading) → from.read count input ≡ r → Ahead more count input
          by true e r g = rw (convert_none from ok from.longest (omega arith) to count input (ltb-true (length input) from.longest e))
          by false e (recorded q) g =
              let n = length (from.bytes count q) in
              let m = ltb-false (length input) from.longest e in
              let s = ok.size count q input g in
              rw (
                convert_more from ok least some to count (input ++ more) q (omega (arith, length-append input more)) (ok.first count input more m ∙ g),
                convert_more from ok from.longest (omega arith) to count input q m g,
                drop-append-le n input more s.2,
                i (drop n input) (omega (arith, s.0, s.2, length-drop n input)) (count + 1),
                append_assoc,
              )
          by false e (refused n) g =
              let m = ltb-false (length input) from.longest e in
              rw (
                convert_refused from ok least some to count (input ++ more) n (omega (arith, length-append input more)) (ok.first count input more m ∙ g),
                convert_refused from ok from.longest (omega arith) to count input n m g,
                append-nil,
              )

  -- some bytes and then more give the same as both at once; the first are read while as many are left as the longest access has
  pub ahead : (p : Place) (bytes more : List ℕ) → convert_on from to least p (bytes ++ more) ≡ (convert_on from to from.longest p bytes and_then λ p. convert_on from to least p more)
  ahead p bytes more = by p.stopped
    where
      by : (stopped : Bool) →
          convert_on from to least (record { count = p.count; stopped = stopped; left = p.left }) (bytes ++ more)
          ≡ (convert_on from to from.longest (record { count = p.count; stopped = stopped; left = p.left }) bytes and_then λ p. convert_on from to least p more)
      by true = refl
      by false = rw (← append_assoc) (ahead_all more (p.left ++ bytes) p.count)

-- one chunk more
pub chunks_more : (from to : Form) (p : Place) (chunks : List (List ℕ)) (bytes : List ℕ) →
    convert_chunks from to p (chunks ++ (bytes ∷ [])) ≡ (convert_chunks from to p chunks and_then λ p. convert_on from to from.longest p bytes)
unfolding convert_chunks
chunks_more from to p [] bytes = rw append-nil
chunks_more from to p (first ∷ chunks) bytes = rw (chunks_more from to (convert_on from to from.longest p first).place chunks bytes, append_assoc)

-- three parts, joined either way
then_assoc : (c : Converted) (g h : Place → Converted) → ((c and_then g) and_then h) ≡ (c and_then λ p. g p and_then h)
then_assoc c g h = rw append_assoc

-- chunks with any borders, and then the rest of the input, give the same as all of it at once
pub chunked : (from to : Form) → Readable from → 1 ≤ from.longest → (p : Place) (chunks : List (List ℕ)) (last : List ℕ) →
    (convert_chunks from to p chunks and_then λ p. convert_on from to 1 p last) ≡ convert_on from to 1 p (flatten chunks ++ last)
unfolding convert_chunks flatten
chunked from to ok l p [] last = refl
chunked from to ok l p (bytes ∷ chunks) last =
    let first = convert_on from to from.longest p bytes in
    then_assoc first (λ p. convert_chunks from to p chunks) (λ p. convert_on from to 1 p last)
    ∙ ap (λ (rest : Converted). first and_then λ p. rest) (chunked from to ok l first.place chunks last)
    ∙ sym (ahead from to ok 1 (omega arith) l p bytes (flatten chunks ++ last))
    ∙ ap (convert_on from to 1 p) (sym (append_assoc bytes (flatten chunks) last))

-- THE TRACE AND THE TEXT

-- records and lines are such forms
pub trace_readable : Readable trace_form
trace_readable = record {
  back = λ count q rest h. read_recorded (number_after count) q rest (omega arith) h;
  only = λ count q input all h. (recorded_fits (number_after count) q input all h, recorded_bytes (number_after count) q input all h);
  size = λ count q input h. (omega arith, omega arith, (recorded_is (number_after count) q input h).long);
  first = λ count s t h. reads_first s t (number_after count) h;
}

pub text_readable : Readable text_form
text_readable = record {
  back = λ count q rest h. line_back q rest h;
  only = λ count q input all h. line_read q input h;
  size = λ count q input h. size q input h;
  first = λ count s t h. line_first s t h;
}
  where
    size : (q : Access) (input : List ℕ) → read_line input ≡ recorded q → (12 ≤ length (access_line q)) × (length (access_line q) ≤ 45) × (length (access_line q) ≤ length input)
    size q input h =
        let l = line_read q input h in
        let b = line_length q l.0 in
        (b.0, b.1, omega (arith, length-append (access_line q) (drop (length (access_line q)) input), ap length l.1))

-- UNLESS REFUSED

-- The input is the bytes of one list; its output is the bytes of that list in the other form, is not refused either, and comes back.
pub record ThereAndBack (from to : Form) (input : List ℕ) : Type 0 where
  pub accesses : List Access
  pub fit : All Fits accesses
  pub is : input ≡ written from 0 accesses
  pub only : (qs : List Access) → All Fits qs → input ≡ written from 0 qs → qs ≡ accesses
  pub there : convert from to 1 0 input ≡ whole (written to 0 accesses) (length accesses)
  pub back : convert to from 1 0 (convert from to 1 0 input).output ≡ whole input (length accesses)

there_and_back : (from to : Form) → Readable from → Readable to → (input : List ℕ) → Bytes input → (convert from to 1 0 input).place.stopped ≡ false →
    ThereAndBack from to input
there_and_back from to ok ok' input all h = by (every_input from ok input 0 all)
  where
    by : Is from 0 input → ThereAndBack from to input
    by (all_of_lem qs g e) =
        record {
          accesses = qs;
          fit = g;
          is = e;
          only = λ rs f i. written_once from ok 0 rs qs f g (sym i ∙ e);
          there = rw (e, turned from to ok qs g);
          back = rw (e, turned from to ok qs g, turned to from ok' qs g);
        }
    by (up_to qs rest n g e l r) = absurd (true≢false (rw (e, turned_then_refused from to ok qs rest n g l (rw zero-add at r)) at h))

-- "Unless refused, there and back gives the same bytes, either way": what is not refused is the bytes of a list ..
pub text_and_back : (text : List ℕ) → Bytes text → (to_trace text).place.stopped ≡ false → ThereAndBack text_form trace_form text
text_and_back = there_and_back text_form trace_form text_readable trace_readable

pub trace_and_back : (trace : List ℕ) → Bytes trace → (to_text trace).place.stopped ≡ false → ThereAndBack trace_form text_form trace
trace_and_back = there_and_back trace_form text_form trace_readable text_readable

-- .. and the bytes of a list are not refused
pub text_turned : (qs : List Access) → All Fits qs → to_trace (written text_form 0 qs) ≡ whole (written trace_form 0 qs) (length qs)
text_turned = turned text_form trace_form text_readable

pub trace_turned : (qs : List Access) → All Fits qs → to_text (written trace_form 0 qs) ≡ whole (written text_form 0 qs) (length qs)
trace_turned = turned trace_form text_form trace_readable

-- ON A REFUSAL

-- "On a refusal each writes the line `text 25 at N` or the replay's `log R at N` after what it has turned, and stops."

-- The text is the lines of a list, and then something where no line stands.
pub record TextRefused (text : List ℕ) : Type 0 where
  pub accesses : List Access
  pub fit : All Fits accesses
  pub rest : List ℕ
  pub some : 1 ≤ length rest
  pub is : text ≡ written text_form 0 accesses ++ rest
  pub no_line : NoLine rest
  pub output : (to_trace text).output ≡ written trace_form 0 accesses ++ refused_line_text 25 (length accesses + 1)

-- The trace is the records of a list, and then something that the reader refuses.
pub record TraceRefused (trace : List ℕ) : Type 0 where
  pub accesses : List Access
  pub fit : All Fits accesses
  pub rest : List ℕ
  pub some : 1 ≤ length rest
  pub is : trace ≡ written trace_form 0 accesses ++ rest
  pub refusal : ℕ
  pub read : read_record rest (number_after (length accesses)) ≡ refused refusal
  pub output : (to_text trace).output ≡ written text_form 0 accesses ++ log_text refusal (length accesses)

-- such a text and such a trace are refused, with that output ..
pub text_stops : (qs : List Access) (rest : List ℕ) → All Fits qs → 1 ≤ length rest → NoLine rest →
    to_trace (written text_form 0 qs ++ rest) ≡ refused_after (written trace_form 0 qs ++ refused_line_text 25 (length qs + 1)) (length qs)
text_stops qs rest h l g = turned_then_refused text_form trace_form text_readable qs rest 25 h l (no_line_refused rest g)

pub trace_stops : (qs : List Access) (rest : List ℕ) (n : ℕ) → All Fits qs → 1 ≤ length rest → read_record rest (number_after (length qs)) ≡ refused n →
    to_text (written trace_form 0 qs ++ rest) ≡ refused_after (written text_form 0 qs ++ log_text n (length qs)) (length qs)
trace_stops = turned_then_refused trace_form text_form trace_readable

-- .. and no others
pub text_refused : (text : List ℕ) → Bytes text → (to_trace text).place.stopped ≡ true → TextRefused text
text_refused text all h = by (every_input text_form text_readable text 0 all)
  where
    by : Is text_form 0 text → TextRefused text
    by (all_of_lem qs g e) = absurd (true≢false (rw (e, text_turned qs g) at (sym h)))
    by (up_to qs rest n g e l r) =
        let none = refused_no_line rest n r in
        record {
          accesses = qs;
          fit = g;
          rest = rest;
          some = l;
          is = e;
          no_line = none;
          output = rw (e, text_stops qs rest g l none);
        }

pub trace_refused : (trace : List ℕ) → Bytes trace → (to_text trace).place.stopped ≡ true → TraceRefused trace
trace_refused trace all h = by (every_input trace_form trace_readable trace 0 all)
  where
    by : Is trace_form 0 trace → TraceRefused trace
    by (all_of_lem qs g e) = absurd (true≢false (rw (e, trace_turned qs g) at (sym h)))
    by (up_to qs rest n g e l r) =
        let read = rw zero-add at r in
        record {
          accesses = qs;
          fit = g;
          rest = rest;
          some = l;
          is = e;
          refusal = n;
          read = read;
          output = rw (e, trace_stops qs rest n g l read);
        }

-- A REFUSED OUTPUT IS NEVER TAKEN FOR A WHOLE ONE

-- The line `text 25 at N` is no record: with fewer than 20 bytes it is too short, and it has no mark.
pub refused_line_unread : (refusal line number : ℕ) →
    read_record (refused_line_text refusal line) number ≡ refused (if ltb (length (refused_line_text refusal line)) 20 then 20 else 21)
unfolding read_record refusal_text
refused_line_unread refusal line number = by (ltb (length (refused_line_text refusal line)) 20) refl
  where
    by : (short : Bool) → ltb (length (refused_line_text refusal line)) 20 ≡ short → read_record (refused_line_text refusal line) number ≡ refused (if short then 20 else 21)
    by true e = rw e
    by false e = rw e

-- The line `log R at N` is no line of a list: it starts with no digit.
pub log_unread : (refusal n : ℕ) → read_line (log_text refusal n) ≡ refused 25
unfolding read_line refusal_text spelt starts_with
log_unread refusal n = rw (field_none (255 ended_by 32) (log_text refusal n) refl refl)

-- so the other program refuses the output of a refused input
pub text_refused_stays : (text : List ℕ) → Bytes text → (to_trace text).place.stopped ≡ true → (to_text (to_trace text).output).place.stopped ≡ true
unfolding refusal_text
text_refused_stays text all h =
    let r = text_refused text all h in
    let qs = r.accesses in
    let line : List ℕ = refused_line_text 25 (length qs + 1) in
    rw (r.output, trace_stops qs line _ r.fit (omega arith) (refused_line_unread 25 (length qs + 1) (number_after (length qs))))

pub trace_refused_stays : (trace : List ℕ) → Bytes trace → (to_text trace).place.stopped ≡ true → (to_trace (to_text trace).output).place.stopped ≡ true
unfolding refusal_text
trace_refused_stays trace all h =
    let r = trace_refused trace all h in
    let qs = r.accesses in
    let line : List ℕ = log_text r.refusal (length qs) in
    rw (r.output, text_stops qs line r.fit (omega arith) (refused_no_line line 25 (log_unread r.refusal (length qs))))

-- IN CHUNKS

-- reading in chunks, with any borders, gives the same as reading at once
pub text_in_chunks : (chunks : List (List ℕ)) (last : List ℕ) →
    (convert_chunks text_form trace_form beginning chunks and_then λ p. convert_on text_form trace_form 1 p last) ≡ to_trace (flatten chunks ++ last)
text_in_chunks chunks last = chunked text_form trace_form text_readable (lit≤ tt) beginning chunks last

pub trace_in_chunks : (chunks : List (List ℕ)) (last : List ℕ) →
    (convert_chunks trace_form text_form beginning chunks and_then λ p. convert_on trace_form text_form 1 p last) ≡ to_text (flatten chunks ++ last)
trace_in_chunks chunks last = chunked trace_form text_form trace_readable (lit≤ tt) beginning chunks last

-- AS THE REPLAY READS

-- as many records answered as turned, and both stopped or neither
pub record AsReplayed (s : Standing) (p : Place) : Type 0 where
  pub count : s.count ≡ p.count
  pub stopped : s.stopped ≡ p.stopped

-- from where both stand at the same record
abbrev Alike : (bytes : List ℕ) → Type 0
Alike bytes =
    (s : Standing) → s.stopped ≡ false → s.expected ≡ number_after s.count → AsReplayed (replay s bytes).standing (convert trace_form text_form 1 s.count bytes).place

all_alike : (bytes : List ℕ) → Alike bytes
all_alike = by_length Alike step
  where
    step : FromShorter Alike
    step [] i s g e =
        rw (replay_none s [] refl, convert_none trace_form trace_readable 1 (omega arith) text_form s.count [] (omega arith)) (record { count = refl; stopped = g })
    step (b ∷ later) i s g e = by (read_record (b ∷ later) s.expected) refl
      where
        bytes : List ℕ
        bytes = b ∷ later

        by : (r : Reading) → read_record bytes s.expected ≡ r → AsReplayed (replay s bytes).standing (convert trace_form text_form 1 s.count bytes).place
        by (recorded q) r =
            rw (replay_more s bytes (omega arith) g, r, convert_more trace_form trace_readable 1 (omega arith) text_form s.count bytes q (omega arith) (rw (← e) r))
            (i (drop 20 bytes) (omega (arith, length-drop 20 bytes)) (answered s (access s.world q)).standing g (rw e (next_after s.count)))
        by (refused n) r =
            rw (
              replay_more s bytes (omega arith) g,
              r,
              replay_stopped (logged s n).standing (drop 20 bytes) refl,
              convert_refused trace_form trace_readable 1 (omega arith) text_form s.count bytes n (omega arith) (rw (← e) r),
            )
            (record { count = refl; stopped = refl })

-- a trace is turned as far as it is replayed
pub as_replayed : (trace : List ℕ) → AsReplayed (replay replay_start trace).standing (to_text trace).place
as_replayed trace = all_alike trace replay_start refl refl

-- VECTORS

-- `1 2 3 4 5 6`, and the record of that access with number 0
a_line : List ℕ
a_line = 49 ∷ 32 ∷ 50 ∷ 32 ∷ 51 ∷ 32 ∷ 52 ∷ 32 ∷ 53 ∷ 32 ∷ 54 ∷ 10 ∷ []

a_record : List ℕ
a_record = 66 ∷ 80 ∷ 0 ∷ 0 ∷ 1 ∷ 2 ∷ 3 ∷ 0 ∷ 4 ∷ 0 ∷ 0 ∷ 0 ∷ 5 ∷ 0 ∷ 0 ∷ 0 ∷ 6 ∷ 0 ∷ 0 ∷ 0 ∷ []

-- nothing gives nothing, either way
text_empty : to_trace [] ≡ whole [] 0
unfolding convert convert_up_to
text_empty = refl

trace_empty : to_text [] ≡ whole [] 0
unfolding convert convert_up_to
trace_empty = refl

-- `x` gives `text 25 at 1`; behind a good line it gives `text 25 at 2` behind its record
text_x : (to_trace (120 ∷ 10 ∷ [])).output ≡ 116 ∷ 101 ∷ 120 ∷ 116 ∷ 32 ∷ 50 ∷ 53 ∷ 32 ∷ 97 ∷ 116 ∷ 32 ∷ 49 ∷ 10 ∷ []
unfolding convert convert_up_to read_line read_field spelt starts_with decimal_text digits_within refusal_text
text_x = refl

text_line_x : (to_trace (a_line ++ (120 ∷ 10 ∷ []))).output ≡ a_record ++ (116 ∷ 101 ∷ 120 ∷ 116 ∷ 32 ∷ 50 ∷ 53 ∷ 32 ∷ 97 ∷ 116 ∷ 32 ∷ 50 ∷ 10 ∷ [])
unfolding convert convert_up_to read_line access_line read_field spelt starts_with decimal_text digits_within refusal_text a_line a_record
text_line_x = refl

-- 19 bytes give `log 20 at 0`; 1 byte behind a good record gives `log 20 at 1` behind its line
trace_short : (to_text (replicate 19 0)).output ≡ 108 ∷ 111 ∷ 103 ∷ 32 ∷ 50 ∷ 48 ∷ 32 ∷ 97 ∷ 116 ∷ 32 ∷ 48 ∷ 10 ∷ []
unfolding convert convert_up_to read_record decimal_text digits_within refusal_text
trace_short = refl

trace_record_short : (to_text (a_record ++ (66 ∷ []))).output ≡ a_line ++ (108 ∷ 111 ∷ 103 ∷ 32 ∷ 50 ∷ 48 ∷ 32 ∷ 97 ∷ 116 ∷ 32 ∷ 49 ∷ 10 ∷ [])
unfolding convert convert_up_to read_record access_line decimal_text digits_within refusal_text a_line a_record
trace_record_short = refl

-- after 65,535 the record number starts again at 0, the line number does not
record_65536th : (q : Access) → trace_form.bytes 65535 q ≡ record_bytes 65535 q
record_65536th q = refl

record_65537th : (q : Access) → trace_form.bytes 65536 q ≡ record_bytes 0 q
record_65537th q = refl

line_70001st : text_form.refusal_line 25 70000 ≡ refused_line_text 25 70001
line_70001st = refl
