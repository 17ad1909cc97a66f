-- An entry more in a list, where it has a place and where not; what a trace half scanned has listed; and the answer.
use Rattle.std.specs.Prelude.{◌≡◌, refl, ℕ, ◌+◌, ◌-◌, ◌*◌, ◌/◌, ◌≤◌, ◌<◌, take, Result, Ok, Err}
use Rattle.std.proofs.Math.Path.{sym, ap}
use Rattle.std.proofs.Common.{◌∙◌, length-drop, take_at}
use mathlib.Core.List.{List, [], ◌∷◌, ◌++◌, append_assoc, append-nil}
use native.Mathlib.Omega.{arith}
use Rattle.std.proofs.Math.ListN.{length, drop, length-append}
use Rattle.std.proofs.lemmas.List.Edits.{sets, sets-eq}
use Rattle.std.proofs.Math.Seq.{take_all, drop-append-add, drop-drop, drop-length}
use Rattle.std.proofs.lemmas.List.{take-append-le}
use Rattle.model.specs.Trace.{next_number, number_at}
use Rattle.model.specs.Rescue.{Entry, Place, range, kept_at, moved, listed, after, scan, entry_numbers, numbers_of, entries, rescue, entries_from, kept_first}
use Rattle.model.proofs.LentListLaws.{rescue_fits, rescue_full, entry_three, numbers_length, numbers_append}
use Rattle.model.proofs.ScanLaws.{entries_then}
use Rattle.access.specs.declared.Refusal.{Refusal}
use Rattle.access.specs.declared.Refusal.TheVariants.{ListFull}
use Rattle.scan.specs.Bridge.{place_as, Ahead}
use Rattle.scan.specs.Laws.{skips, behind, skips_listed, skips_after, up_to, record_listed, record_after, record_ahead}
use Rattle.rescue.specs.declared.Standing.{Standing}
use Rattle.rescue.specs.Bridge.{rescued_as, Holds, Full, Stored, Half}

-- AN ENTRY MORE

-- numbers stored at a place, by the part of the list that they are written to
pub part_stored : (list s : List ℕ) (at n : ℕ) → at + length s ≤ length list → n ≡ length s → take at list ++ (s ++ drop n (drop at list)) ≡ sets list at s
part_stored list s at n h e = rw (e, drop-drop (length s) at list, ← append_assoc) (sym (sets-eq s list at h))

-- numbers stored behind others
behind_others : (a b s : List ℕ) (n : ℕ) → length a ≡ n → n + length s ≤ length (a ++ b) → sets (a ++ b) n s ≡ a ++ (s ++ drop (length s) b)
behind_others a b s n e h = sets-eq s (a ++ b) n h ∙ rw (take_at a b n e, ← e, drop-append-add a b (length s), append_assoc)

pub none_held : (list : List ℕ) → Holds list [] 0 list
unfolding numbers_of
none_held list = record { count = refl; places = omega arith; list = refl }

module _ {before now : List ℕ} {es : List Entry} {count : ℕ} (h : Holds before es count now) where
  abbrev places : ℕ
  places = length before / 3

  -- the list is as long as before, and holds no more entries than it has places
  pub held_length : (length now ≡ length before) × (count ≤ length before / 3)
  held_length =
      let long = ap length h.list ∙ length-append (numbers_of es) (drop (3 * length es) before) in
      (omega (arith, long, numbers_length es, length-drop (3 * length es) before, h.places), omega (arith, h.count, h.places))

  -- where no place is left, the list stays, and one entry does not fit
  pub no_place : (e : Entry) → count ≡ length now / 3 → Full before (es ++ (e ∷ [])) now
  no_place e g =
      let full : places ≡ length es = omega (arith, held_length, h.count, g) in
      let same : take places (es ++ (e ∷ [])) ≡ es = take-append-le places es (e ∷ []) (omega (arith, full)) ∙ take_all places es (omega (arith, full)) in
      record { over = omega (arith, full, length-append es (e ∷ [])); list = rw (same, full) h.list }

  -- else it stands behind the others
  pub one_held : (e : Entry) → (count ≡ length now / 3 → ⊥) → Holds before (es ++ (e ∷ [])) (count + 1) (sets now (3 * count) (entry_numbers e))
  unfolding numbers_of
  one_held e g =
      let long = held_length in
      let room : count < length now / 3 = omega (arith, g, long) in
      let more = length-append es (e ∷ []) in
      let stored = behind_others (numbers_of es) (drop (3 * length es) before) (entry_numbers e) (3 * length es) (numbers_length es) (omega (arith, entry_three e, ap length h.list, h.count)) in
      let next : 3 * length es + 3 ≡ 3 * length (es ++ (e ∷ [])) = omega arith in
      record {
        count = omega (arith, h.count);
        places = omega (arith, h.count);
        list =
            rw (h.count, h.list) (stored ∙ rw (entry_three e, drop-drop 3 (3 * length es) before, next, numbers_append es (e ∷ []), append-nil (entry_numbers e), append_assoc));
      }

-- entries behind one that did not fit change nothing
full_more : {before now : List ℕ} {es : List Entry} → Full before es now → (rest : List Entry) → Full before (es ++ rest) now
full_more {before} {now} {es} f rest =
    record { over = omega (arith, f.over, length-append es rest); list = rw (take-append-le (length before / 3) es rest (omega (arith, f.over))) f.list }

-- THE ANSWER

full_rescued : (trace : List ℕ) {before now : List ℕ} {r : Refusal} → r ≡ ListFull → Full before (entries trace) now → rescued_as (Err r) now ≡ rescue trace before
full_rescued trace {before} e f = rw (e, f.list) (sym (rescue_full trace before f.over))

-- all of the trace was scanned: its entries are listed, or the last had no room
pub all_listed : (trace before now : List ℕ) (es : List Entry) (answer : Result ℕ Refusal) → entries trace ≡ es → Stored before es answer now → rescued_as answer now ≡ rescue trace before
all_listed trace before now es (Ok n) e h = rw (h.count, h.list, ← e) (sym (rescue_fits trace before (rw (← e) at h.places)))
all_listed trace before now es (Err r) e h = full_rescued trace h.0 (rw (← e) at h.1)

-- A TRACE HALF SCANNED

module _ {trace : List ℕ} {at next : ℕ} (a : Ahead trace at (length trace) next) (p : Place) where
  -- bytes that are skipped list nothing yet
  skipped_on : entries_from p (drop at trace) ≡ entries_from (behind p (next - at)) (drop next trace)
  skipped_on =
      entries_then p (drop at trace) (drop next trace) (skips (next - at)) (a.passed 1 (omega arith))
      ∙ rw (skips_listed p (next - at), skips_after p (next - at))

  -- a record lists them, and itself
  record_on : next < length trace →
      let q = behind p (next - at) in
      entries_from p (drop at trace)
      ≡ (range q ++ (kept_at q (number_at 2 2 (drop next trace)) ∷ [])) ++ entries_from (moved q (kept_first (drop next trace))) (drop (next + 20) trace)
  record_on l =
      entries_then p (drop at trace) (drop (next + 20) trace) (up_to (next - at) (drop next trace)) (record_ahead a 1 (omega arith) l)
      ∙ rw (record_listed p (next - at) (drop next trace), record_after p (next - at) (drop next trace))

regroup : (es fs gs rest : List Entry) → es ++ ((fs ++ gs) ++ rest) ≡ ((es ++ fs) ++ gs) ++ rest
regroup es fs gs rest = simp append_assoc

module _ {trace before now : List ℕ} {s : Standing} {next : ℕ} (a : Ahead trace s.at (length trace) next) (h : Half trace before s now) where
  abbrev there : Place
  there = behind (place_as s.place) (next - s.at)

  -- bytes are skipped, ..
  pub half_skipped : {r : Standing} → place_as r.place ≡ there → r.at ≡ next → r.count ≡ s.count → Half trace before r now
  half_skipped p e f = record { es = h.es; split = h.split ∙ rw (skipped_on a (place_as s.place), e, p); holds = rw f h.holds }

  abbrev ranged : List Entry
  ranged = h.es ++ range there

  abbrev kept : List Entry
  kept = kept_at there (number_at 2 2 (drop next trace)) ∷ []

  -- .. or they and the record behind them are listed ..
  listed_on : next < length trace → entries trace ≡ (ranged ++ kept) ++ entries_from (moved there (kept_first (drop next trace))) (drop (next + 20) trace)
  listed_on l = h.split ∙ rw (record_on a (place_as s.place) l) (regroup h.es (range there) kept _)

  pub half_listed : {r : Standing} {after : List ℕ} {number : ℕ} → next < length trace → number ≡ number_at 2 2 (drop next trace) →
      place_as r.place ≡ record { from = there.from + there.run + 20; run = 0; expected = next_number number } → r.at ≡ next + 20 →
      Holds before (ranged ++ (kept_at there number ∷ [])) r.count after → Half trace before r after
  half_listed {number} l n p at holds = record { es = ranged ++ kept; split = listed_on l ∙ rw (at, p, n); holds = rw n at holds }

  -- .. or one of the two has no room
  pub range_full : {after : List ℕ} {r : Refusal} → next < length trace → Stored before ranged (Err r) after → rescued_as (Err r) after ≡ rescue trace before
  range_full l f = full_rescued trace f.0 (rw (listed_on l) (full_more (full_more f.1 kept) _))

  pub kept_full : {after : List ℕ} {r : Refusal} {number : ℕ} → next < length trace → number ≡ number_at 2 2 (drop next trace) →
      Stored before (ranged ++ (kept_at there number ∷ [])) (Err r) after → rescued_as (Err r) after ≡ rescue trace before
  kept_full l n f = full_rescued trace f.0 (rw (listed_on l) (full_more (rw n at f.1) _))

-- nothing is scanned yet
pub all_ahead : (trace list : List ℕ) {s : Standing} → s.at ≡ 0 → s.place.from ≡ 0 → s.place.run ≡ 0 → s.place.expected ≡ 0 → s.count ≡ 0 → Half trace list s list
unfolding entries entries_from
all_ahead trace list at from run expected count = record { es = []; split = rw (at, from, run, expected); holds = rw count (none_held list) }

-- at the end only the bytes that were skipped are left
pub none_ahead : {trace before now : List ℕ} {s : Standing} (h : Half trace before s now) → s.at ≡ length trace → entries trace ≡ h.es ++ range (place_as s.place)
unfolding scan listed after entries_from
none_ahead {trace} h e = h.split ∙ rw (e, drop-length trace)
