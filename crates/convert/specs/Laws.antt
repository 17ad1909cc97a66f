-- An access turned, by what was read; a record stored behind what stands before it; and a chunk half turned, from one access to the next.
use Rattle.std.specs.Prelude.{◌≡◌, refl, true, false, Option, Some, None, IfSome, Result, Ok, Err, List, ◌++◌, ℕ, ◌+◌, ◌-◌, ◌*◌, ◌<◌, ◌≤◌, length, take, drop}
use Rattle.std.proofs.Common.{sym, ap, ◌∙◌, append_assoc, append-nil, arith, length-drop, drop_of_length-le, drop-drop, lit≤}
use Rattle.std.proofs.lemmas.List.Edits.{sets, sets-eq}
use Rattle.std.proofs.lemmas.Option.{none-some}
use Rattle.std.proofs.Math.Seq.{drop-length}
use Rattle.model.specs.Accesses.{Access}
use Rattle.model.proofs.LaneLaws.{from_place}
use Rattle.model.specs.Trace.{record_bytes, number_after, Reading, recorded, refused, read_record, Wrote, write_record}
use Rattle.model.specs.AccessText.{read_line}
use Rattle.model.proofs.TraceLaws.{write_stores}
use Rattle.model.specs.Convert.{Form, convert, text_form, trace_form}
use Rattle.model.proofs.ConvertLaws.{Readable, convert_none, convert_more, convert_refused, text_readable, trace_readable}
use Rattle.access.specs.declared.Refusal.{Refusal}
use Rattle.trace.specs.Bridge.{wrote_as}
use Rattle.decimal.specs.Bridge.{Written}
use Rattle.decimal.specs.Laws.{begun, second_left, ended}
use Rattle.convert.specs.declared.Form as code
use Rattle.convert.specs.declared.Form.TheVariants.{Text, Trace}
use Rattle.convert.specs.declared.Step.{Step}
use Rattle.convert.specs.Bridge.{form_as, other_as, turned_size, AccessTurned, ChunkTurned}

-- AN ACCESS

module _ {from to : Form} {count : ℕ} {input before after : List ℕ} {at end : ℕ} where
  pub recorded_turned : {q : Access} {size : ℕ} → recorded q ≡ from.read count input → Written before at (to.bytes count q) end after →
      size ≡ length (from.bytes count q) → end ≤ at + 45 → AccessTurned from to count input before at (record { size = Some size; end = end }) after
  recorded_turned e w s l = record { text = rw (← e) w; size = rw (← e, s); room = l }

  pub refused_turned : {n : ℕ} → refused n ≡ from.read count input → Written before at (from.refusal_line n count) end after → end ≤ at + 45 →
      AccessTurned from to count input before at (record { size = None; end = end }) after
  refused_turned e w l = record { text = rw (← e) w; size = rw (← e); room = l }

-- A RECORD BEHIND WHAT STANDS BEFORE IT: a part of the buffer is lent to be written at its start

part_written : (bytes before part : List ℕ) (at : ℕ) → at + length bytes ≤ length before → part ≡ bytes ++ drop (length bytes) (drop at before) →
    Written before at bytes (at + length bytes) (take at before ++ (part ++ drop (length before - at) (drop at before)))
part_written bytes before part at h e =
    let none = drop_of_length-le (drop at before) {i = length before - at} (omega (arith, length-drop at before)) in
    record { place = refl; bytes = rw (e, none, append-nil (bytes ++ drop (length bytes) (drop at before)), drop-drop (length bytes) at before, sets-eq bytes before at h, append_assoc) }

buffer : (w : Result ℕ Refusal) (part : List ℕ) → (wrote_as w part).buffer ≡ part
buffer (Ok n) part = refl
buffer (Err r) part = refl

pub record_written : (number : ℕ) (q : Access) (before part : List ℕ) (at : ℕ) (w : Result ℕ Refusal) → at + 20 ≤ length before →
    wrote_as w part ≡ write_record number q (take (length before - at) (drop at before)) →
    Written before at (record_bytes number q) (at + 20) (take at before ++ (part ++ drop (length before - at) (drop at before)))
record_written number q before part at w h e =
    let mid = from_place before at in
    let stored = write_stores number q (drop at before) (omega (arith, length-drop at before)) in
    part_written (record_bytes number q) before part at h (sym (buffer w part) ∙ ap (λ (r : Wrote). r.buffer) (rw (mid, stored) at e))

-- HOW FAR ONE ACCESS GOES

pub readable : (from : code.Form) → Readable (form_as from)
readable Text = text_readable
readable Trace = trace_readable

pub some_longest : (from : code.Form) → 1 ≤ (form_as from).longest
some_longest Text = lit≤ tt
some_longest Trace = lit≤ tt

-- what was read where nothing was refused
was_read : (from : Form) (count : ℕ) (r : Reading) {size : ℕ} → turned_size from count r ≡ Some size → (q : Access) × (r ≡ recorded q) × (length (from.bytes count q) ≡ size)
was_read from count (recorded q) e = (q, refl, cc)
was_read from count (refused n) {size} e = absurd (none-some size e)

was_refused : (from : Form) (count : ℕ) (r : Reading) → turned_size from count r ≡ None → (n : ℕ) × (r ≡ refused n)
was_refused from count (refused n) e = (n, refl)
was_refused from count (recorded q) e = absurd (none-some (length (from.bytes count q)) (sym e))

-- an access has 12 bytes or more, and its output no more than three times as many
pub far : (from : code.Form) {count at : ℕ} {input before after : List ℕ} {step : Step} → AccessTurned (form_as from) (other_as from) count input before at step after →
    IfSome step.size (λ size. (12 ≤ size) × (size ≤ length input) × (step.end ≤ at + 3 * size))
far from {count} {at} {input} {step} t = by step.size refl
  where
    some : (from : code.Form) {size : ℕ} {before after : List ℕ} → AccessTurned (form_as from) (other_as from) count input before at step after → step.size ≡ Some size →
        (12 ≤ size) × (size ≤ length input) × (step.end ≤ at + 3 * size)
    some Text t e =
        let q = was_read text_form count (read_line input) (sym t.size ∙ e) in
        let s = text_readable.size count q.0 input q.1 in
        let place = rw q.1 at t.text.place in
        (omega (arith, s, q.2), omega (arith, s, q.2), omega (arith, s, q.2))
    some Trace t e =
        let q = was_read trace_form count (read_record input (number_after count)) (sym t.size ∙ e) in
        let s = trace_readable.size count q.0 input q.1 in
        (omega (arith, q.2), omega (arith, s, q.2), omega (arith, t.room, q.2))

    by : (o : Option ℕ) → step.size ≡ o → IfSome o (λ size. (12 ≤ size) × (size ≤ length input) × (step.end ≤ at + 3 * size))
    by None e = tt
    by (Some size) e = some from t e

-- A CHUNK HALF TURNED

-- The conversion of the bytes from `at` on, stored from `end` on, gives the buffer and the place of the whole chunk.
pub record Left (from to : Form) (least start : ℕ) (before input : List ℕ) (at count end : ℕ) (out : List ℕ) : Type 0 where
  pub text : let all = (convert from to least start input).output in Written out end (convert from to least count (drop at input)).output (0 + length all) (sets before 0 all)
  pub place : (convert from to least count (drop at input)).place ≡ (convert from to least start input).place

pub all_left : (from to : Form) (least start : ℕ) (input out : List ℕ) → Left from to least start out input 0 start 0 out
all_left from to least start input out = record { text = begun out 0 (convert from to least start input).output; place = refl }

module _ {from to : Form} (ok : Readable from) {least start : ℕ} (some : 1 ≤ least) {before input out : List ℕ} {at count end : ℕ}
    (l : Left from to least start before input at count end out) where
  -- too few bytes are left
  pub none_left : length input - at < least → at ≤ length input → end ≤ length before → ChunkTurned from to least start input before (record { at = at; end = end; count = count; stopped = false }) out
  none_left h b g =
      let none = convert_none from ok least some to count (drop at input) (omega (arith, length-drop at input)) in
      record { output = ended (rw none at l.text); place = rw none at l.place; within = (b, g) }

  module _ {step : Step} {out' : List ℕ} (enough : least ≤ length input - at) (t : AccessTurned from to count (drop at input) out end step out') where
    -- one access less
    pub one_less : {size : ℕ} → step.size ≡ Some size → Left from to least start before input (at + size) (count + 1) step.end out'
    one_less {size} e =
        let q = was_read from count (from.read count (drop at input)) (sym t.size ∙ e) in
        let more = convert_more from ok least some to count (drop at input) q.0 (omega (arith, length-drop at input)) q.1 in
        let rest = rw (q.2, drop-drop size at input) at more in
        record { text = second_left (rw rest at l.text) (rw q.1 at t.text); place = rw rest at l.place }

    -- none any more
    pub refused_left : step.size ≡ None → step.end ≤ length before →
        ChunkTurned from to least start input before (record { at = length input; end = step.end; count = count; stopped = true }) out'
    refused_left e g =
        let n = was_refused from count (from.read count (drop at input)) (sym t.size ∙ e) in
        let stop = convert_refused from ok least some to count (drop at input) n.0 (omega (arith, length-drop at input)) n.1 in
        record { output = ended (second_left (rw append-nil (rw stop at l.text)) (rw n.1 at t.text)); place = rw (drop-length input) (rw stop at l.place); within = (omega arith, g) }
