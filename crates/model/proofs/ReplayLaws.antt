-- Laws of the replay: record by record; chunk after chunk it is the same as all at once; vectors of document 01.
use Rattle.std.specs.Prelude.{◌≡◌, refl, Bool, true, false, ℕ, zero, suc, ◌+◌, ◌*◌, ◌/◌, ◌%◌, ◌≤◌, ◌<◌, length, drop, replicate}
use Rattle.std.proofs.Common.{ap, sym, ◌∙◌, true≢false, arith, length-append, length-drop}
use mathlib.Core.List.{List, [], ◌∷◌, ◌++◌, flatten, append_assoc, append-nil}
use Rattle.std.proofs.lemmas.List.{drop-append-le}
use Rattle.model.specs.State.{sound, fresh_card}
use Rattle.model.specs.Accesses.{access}
use Rattle.model.specs.Bench.{q, bench}
use Rattle.model.specs.Trace.{record_bytes, Reading, recorded, refused, read_record}
use Rattle.model.proofs.TraceLaws.{reads_first}
use Rattle.model.specs.Text.{digits_within, decimal_text, line_text, end_text, refusal_text}
use Rattle.model.specs.Replay.{Standing, Replayed, nothing_more, ◌and_then◌, answered, logged, replay_record, replay_records, records_in, replay, replay_start, whole_text, replay_text, replay_chunks}

-- RECORD BY RECORD

records_none : (s : Standing) (bytes : List ℕ) → replay_records 0 s bytes ≡ nothing_more s
unfolding replay_records
records_none s bytes = refl

records_stopped : (k : ℕ) (s : Standing) (bytes : List ℕ) → s.stopped ≡ true → replay_records k s bytes ≡ nothing_more s
unfolding replay_records
records_stopped zero s bytes h = refl
records_stopped (suc k) s bytes h = rw h

records_more : (k : ℕ) (s : Standing) (bytes : List ℕ) → s.stopped ≡ false →
    replay_records (suc k) s bytes ≡ (replay_record s (read_record bytes s.expected) and_then λ t. replay_records k t (drop 20 bytes))
unfolding replay_records
records_more k s bytes h = rw h

pub replay_stopped : (s : Standing) (bytes : List ℕ) → s.stopped ≡ true → replay s bytes ≡ nothing_more s
unfolding replay
replay_stopped s bytes h = records_stopped (records_in bytes) s bytes h

pub replay_none : (s : Standing) (bytes : List ℕ) → length bytes ≡ 0 → replay s bytes ≡ nothing_more s
unfolding replay
replay_none s [] h = records_none s []
replay_none s (b ∷ bytes) h = absurd (omega arith)

pub replay_more : (s : Standing) (bytes : List ℕ) → 0 < length bytes → s.stopped ≡ false →
    replay s bytes ≡ (replay_record s (read_record bytes s.expected) and_then λ t. replay t (drop 20 bytes))
unfolding replay
replay_more s bytes p h =
    let more : records_in bytes ≡ suc (records_in (drop 20 bytes)) = omega (arith, length-drop 20 bytes) in
    rw more (records_more (records_in (drop 20 bytes)) s bytes h)

-- THE COUNT AND THE RECORD NUMBER

-- What a replay says of them that nothing has stopped: the count is that of the records, the record number starts again at 0 after 65,535.
pub record Counted (s : Standing) (records : ℕ) (r : Replayed) : Type 0 where
  pub count : r.standing.count ≡ s.count + records
  pub expected : r.standing.expected ≡ (s.expected + records) % 65536

records_counted : (k : ℕ) (s : Standing) (bytes : List ℕ) → s.expected < 65536 → (replay_records k s bytes).standing.stopped ≡ false →
    Counted s k (replay_records k s bytes)
records_counted zero s bytes h g = rw (records_none s bytes) (record { count = omega arith; expected = omega arith })
records_counted (suc k) s bytes h g = by s.stopped refl (read_record bytes s.expected) refl (λ t. records_counted k t (drop 20 bytes))
  where
    by : (b : Bool) → s.stopped ≡ b → (r : Reading) → read_record bytes s.expected ≡ r →
        ((t : Standing) → t.expected < 65536 → (replay_records k t (drop 20 bytes)).standing.stopped ≡ false → Counted t k (replay_records k t (drop 20 bytes))) →
        Counted s (suc k) (replay_records (suc k) s bytes)
    by true e r d i = absurd (true≢false (sym e ∙ (rw (records_stopped (suc k) s bytes e) at g)))
    by false e (recorded a) d i =
        let more = rw d at (records_more k s bytes e) in
        let rest = i (answered s (access s.world a)).standing (omega arith) (rw more at g) in
        rw more (record { count = omega (arith, rest.count); expected = omega (arith, rest.expected) })
    by false e (refused n) d i =
        let more = rw d at (records_more k s bytes e) in
        let none = records_stopped k (logged s n).standing (drop 20 bytes) refl in
        absurd (true≢false (rw (more, none) at g))

pub counted : (s : Standing) (bytes : List ℕ) → s.expected < 65536 → (replay s bytes).standing.stopped ≡ false → Counted s (records_in bytes) (replay s bytes)
unfolding replay
counted s bytes h g = records_counted (records_in bytes) s bytes h g

-- CHUNK AFTER CHUNK

-- `a` whole records, and then any bytes
split : (a : ℕ) (s : Standing) (bytes more : List ℕ) → length bytes ≡ 20 * a → replay s (bytes ++ more) ≡ (replay s bytes and_then λ t. replay t more)
split zero s [] more h = rw (replay_none s [] refl)
split zero s (b ∷ bytes) more h = absurd (omega arith)
split (suc a) s bytes more h = by s.stopped refl (λ t. split a t (drop 20 bytes) more (omega (arith, length-drop 20 bytes)))
  where
    by : (b : Bool) → s.stopped ≡ b → ((t : Standing) → replay t (drop 20 bytes ++ more) ≡ (replay t (drop 20 bytes) and_then λ u. replay u more)) →
        replay s (bytes ++ more) ≡ (replay s bytes and_then λ t. replay t more)
    by true e r = rw (replay_stopped s (bytes ++ more) e, replay_stopped s bytes e, replay_stopped s more e)
    by false e r =
        let l : 20 ≤ length bytes = omega arith in
        rw (
          replay_more s (bytes ++ more) (omega (arith, length-append bytes more)) e,
          replay_more s bytes (omega arith) e,
          reads_first bytes more s.expected l,
          drop-append-le 20 bytes more l,
          r,
          append_assoc,
        )

-- one chunk more
pub chunks_more : (s : Standing) (chunks : List (List ℕ)) (bytes : List ℕ) →
    replay_chunks s (chunks ++ (bytes ∷ [])) ≡ (replay_chunks s chunks and_then λ t. replay t bytes)
unfolding replay_chunks
chunks_more s [] bytes = simp append-nil
chunks_more s (first ∷ chunks) bytes = rw (chunks_more (replay s first).standing chunks bytes, append_assoc)

-- every chunk but the last is a multiple of 20 bytes
unfoldable pub WholeRecords : (chunks : List (List ℕ)) → Type 0
WholeRecords [] = Unit {0}
WholeRecords (bytes ∷ []) = Unit {0}
WholeRecords (bytes ∷ next ∷ chunks) = (length bytes % 20 ≡ 0) × WholeRecords (next ∷ chunks)

pub chunked : (s : Standing) (chunks : List (List ℕ)) → WholeRecords chunks → replay_chunks s chunks ≡ replay s (flatten chunks)
unfolding replay_chunks WholeRecords flatten
chunked s [] h = sym (replay_none s [] refl)
chunked s (bytes ∷ []) h = simp append-nil
chunked s (bytes ∷ next ∷ chunks) h =
    ap (λ (rest : Replayed). replay s bytes and_then λ t. rest) (chunked (replay s bytes).standing (next ∷ chunks) h.1)
    ∙ sym (split (length bytes / 20) s bytes (flatten (next ∷ chunks)) (omega arith))

-- the program's text, chunk after chunk
pub chunked_text : (chunks : List (List ℕ)) → WholeRecords chunks → whole_text (replay_chunks replay_start chunks) ≡ replay_text (flatten chunks)
unfolding replay_text
chunked_text chunks h = ap whole_text (chunked replay_start chunks h)

-- VECTORS

-- "Whole case: local kind 9 with B 16,777,216; host kind 10; host kind 15."
whole_case : List ℕ
whole_case = record_bytes 0 (q 9 1 0 0 16777216 0) ++ record_bytes 1 (q 10 0 0 0 0 0) ++ record_bytes 2 (q 15 0 0 0 0 0)

-- 0 0 0 0
-- 1 0 0 1
-- 2 10 0 0
-- end 3
whole_case_lem : replay_text whole_case
    ≡ (48 ∷ 32 ∷ 48 ∷ 32 ∷ 48 ∷ 32 ∷ 48 ∷ 10 ∷ [])
    ++ (49 ∷ 32 ∷ 48 ∷ 32 ∷ 48 ∷ 32 ∷ 49 ∷ 10 ∷ [])
    ++ (50 ∷ 32 ∷ 49 ∷ 48 ∷ 32 ∷ 48 ∷ 32 ∷ 48 ∷ 10 ∷ [])
    ++ (101 ∷ 110 ∷ 100 ∷ 32 ∷ 51 ∷ 10 ∷ [])
unfolding replay_text replay replay_records read_record access sound fresh_card bench line_text end_text decimal_text digits_within whole_case
whole_case_lem = refl

-- "Empty input gives `end 0`."
empty_input : replay_text [] ≡ 101 ∷ 110 ∷ 100 ∷ 32 ∷ 48 ∷ 10 ∷ []
unfolding replay_text replay replay_records end_text decimal_text digits_within
empty_input = refl

-- "1 to 19 bytes left over are refusal 20": `log 20 at 0`
short_input : replay_text (replicate 19 0) ≡ 108 ∷ 111 ∷ 103 ∷ 32 ∷ 50 ∷ 48 ∷ 32 ∷ 97 ∷ 116 ∷ 32 ∷ 48 ∷ 10 ∷ []
unfolding replay_text replay replay_records read_record refusal_text decimal_text digits_within
short_input = refl

-- A record that is not the expected one stops the replay, though the expected one follows: `0 0 0 0`, then `log 22 at 1`.
stopped_input : replay_text (record_bytes 0 (q 10 0 0 0 0 0) ++ record_bytes 2 (q 10 0 0 0 0 0) ++ record_bytes 1 (q 10 0 0 0 0 0))
    ≡ (48 ∷ 32 ∷ 48 ∷ 32 ∷ 48 ∷ 32 ∷ 48 ∷ 10 ∷ [])
    ++ (108 ∷ 111 ∷ 103 ∷ 32 ∷ 50 ∷ 50 ∷ 32 ∷ 97 ∷ 116 ∷ 32 ∷ 49 ∷ 10 ∷ [])
unfolding replay_text replay replay_records read_record access sound fresh_card bench line_text refusal_text decimal_text digits_within
stopped_input = refl
