-- One chunk more behind full ones; and the text of a replay that did not break off is that of the whole trace.
use Rattle.std.specs.Prelude.{◌≡◌, refl, true, false, ◌⊎◌, ℕ, ◌+◌, ◌<◌, length, take}
use Rattle.std.proofs.Common.{ap, ◌∙◌, arith, length-append}
use mathlib.Core.List.{List, [], ◌∷◌, ◌++◌, flatten}
use Rattle.model.specs.Choice.{All}
use Rattle.model.specs.Replay.{Standing, replay_start, replay_text, last_text, replay_chunks}
use Rattle.model.proofs.ReplayLaws.{chunks_more, WholeRecords, chunked_text}
use Rattle.standing.specs.Bridge.{standing_as}
use Rattle.stream.specs.Bridge.{chunk_bytes, broke_off}
use Rattle.stream.specs.Laws.{end_is}
use Rattle.sealed_turn.specs.Bridge.{Turn, bytes_of, Turned, closing_text}
use Rattle.sealed_turn.specs.Laws.{more_full, more_going}
use Rattle.replay.specs.Bridge.{most_chunks, Reached, Last, Ended}

-- ONE CHUNK MORE

-- every chunk is a full one
abbrev Full : (chunks : List (List ℕ)) → Type 0
Full chunks = All (λ bytes. length bytes ≡ chunk_bytes) chunks

full_more : (chunks : List (List ℕ)) (bytes : List ℕ) → Full chunks → length bytes ≡ chunk_bytes → Full (chunks ++ (bytes ∷ []))
full_more [] bytes f h = (h, tt)
full_more (first ∷ chunks) bytes f h = (f.0, full_more chunks bytes f.1 h)

pub none_yet : {start : Standing} → start ≡ replay_start → Reached 0 start
unfolding replay_chunks
none_yet e = record { chunks = []; counted = refl; full = tt; standing = e; going = ap (λ (s : Standing). s.stopped) e }

pub chunk_more : {k : ℕ} {start : Standing} {turn : Turn} {input out shared window : List ℕ} → length input ≡ chunk_bytes → turn.more ≡ true →
    Reached k start → Turned start turn input out shared window → Reached (k + 1) (standing_as turn.work.standing shared window)
chunk_more {turn} {input} h m r t =
    let bytes = bytes_of turn input in
    record {
      chunks = r.chunks ++ (bytes ∷ []);
      counted = omega (arith, length-append r.chunks (bytes ∷ []), r.counted);
      full = full_more r.chunks bytes r.full (more_full t m h);
      standing = rw (chunks_more replay_start r.chunks bytes, ← r.standing) t.standing;
      going = more_going t m;
    }

-- the last chunk is where the loop ended
pub ended : {k : ℕ} {turn : Turn} {input out shared window : List ℕ} → Last k turn input out shared window → (turn.more ≡ true → k ≡ most_chunks) →
    Ended turn input out shared window
ended l b = record { before = l.before; start = l.start; reached = l.reached; last = l.last; bound = λ m. l.counted ∙ b m }

-- A REPLAY THAT DID NOT BREAK OFF

full_whole : (chunks : List (List ℕ)) (last : List ℕ) → Full chunks → WholeRecords (chunks ++ (last ∷ []))
unfolding WholeRecords
full_whole [] last f = tt
full_whole (bytes ∷ []) last f = (omega (arith, f.0), tt)
full_whole (bytes ∷ next ∷ chunks) last f = (omega (arith, f.0), full_whole (next ∷ chunks) last f.1)

module _ {turn : Turn} {input out shared window : List ℕ} (e : Ended turn input out shared window) where
  -- what was read and is answered, chunk by chunk
  abbrev pub chunks_of : List (List ℕ)
  chunks_of = e.reached.chunks ++ (bytes_of turn input ∷ [])

  -- The text of the chunks before the last, by definition, that of the last in the buffer and the last line are the text of the whole trace.
  pub text_whole : broke_off turn.chunk turn.lost turn.more ≡ false → ((replay_chunks replay_start e.reached.chunks).text ++ take turn.work.end out) ++ closing_text turn ≡ replay_text (flatten chunks_of)
  text_whole h =
      let whole = chunked_text chunks_of (full_whole e.reached.chunks (bytes_of turn input) e.reached.full) in
      rw (h, e.last.text, ap (λ (s : Standing). last_text s.stopped s.count) e.last.standing, e.reached.standing)
      (rw (chunks_more replay_start e.reached.chunks (bytes_of turn input)) at whole)

  -- It was the end of the input that ended it, or a refusal: the last chunk is short, or the reader refused a record of it.
  pub end_reached : broke_off turn.chunk turn.lost turn.more ≡ false → (turn.chunk.size < chunk_bytes) ⊎ (turn.work.standing.stopped ≡ true)
  end_reached h = end_is turn.chunk turn.work.standing.stopped turn.lost turn.more e.last.size e.last.more h
