-- A chunk is rescued by what its scan promises; one chunk more behind others; and the output of a rescue that did not break off is that of the whole
-- trace.
use Rattle.std.specs.Prelude.{◌≡◌, refl, ◌⊎◌, Bool, true, false, ◌||◌, ℕ, ◌+◌, ◌-◌, ◌≤◌, ◌<◌, length, take, drop, eqb, if◌then◌else◌}
use Rattle.std.proofs.Common.{sym, ap, ◌∙◌, inl, inr, zero-add, arith, length-append, length-take-le, lit≤, ne_eqb}
use mathlib.Core.List.{List, [], ◌∷◌, ◌++◌, flatten, append_assoc, append-nil}
use Rattle.std.proofs.Math.Nat.{sub-zero}
use Rattle.model.proofs.TestLaws.{or_right, no_both, if_case}
use Rattle.model.specs.Rescue.{Move, scan, moves, beginning, listed, after, sizes}
use Rattle.model.specs.RescueText.{none, tally}
use Rattle.model.proofs.ScanLaws.{listed_append, after_append, left_of, ahead}
use Rattle.decimal.specs.Laws.{text_there}
use Rattle.stream.specs.declared.Chunk.{Chunk}
use Rattle.stream.specs.Bridge.{Keeps, Reads, chunk_bytes, least_of, goes_on, broke_off}
use Rattle.stream.specs.Laws.{kept_front, more_is, end_is}
use Rattle.rescue_chunk.specs.declared.Output.{Output}
use Rattle.rescue_chunk.specs.Bridge.{output_of, whole_of, ChunkRescued}
use Rattle.rescue_chunk.specs.Laws.{outputs_append, tally_append, whole_is}
use Rattle.rescuer.specs.Bridge.{Turn, first_turn, Stood, stood_at, Going, bytes_of, moves_of, Turned, most_chunks, Reached, Last, Ended, closing_text}

-- A CHUNK

pub rescued : (output : Output) {last turn : Turn} {entry kept input before out : List ℕ} {n least size : ℕ} → Going last →
    length kept ≡ chunk_bytes → length input ≡ chunk_bytes →
    Keeps entry last.work.at last.chunk.size n kept → Reads kept n turn.chunk input →
    size ≡ turn.chunk.size → least ≡ least_of turn.chunk 20 →
    ChunkRescued output least last.work.place last.work.tally (take (size - 0) input) before turn.work out →
    turn.told ≡ (if turn.lost then last.work.tally.kept else turn.work.tally.kept) →
    turn.more ≡ goes_on turn.chunk false turn.lost →
    Turned output (stood_at last entry) turn input out
rescued output {last} {turn} {entry} {kept} {input} {n} g hk hi k r es el c t m =
    let s : Stood = stood_at last entry in
    let left : s.left ≡ take n kept = sym k.bytes in
    let all = kept_front s.left kept input n turn.chunk.size left (omega (arith, r.behind, r.fits)) r.behind r.stay in
    let chunk = rw (sub-zero, es, el, all) at c in
    let wrote = chunk.wrote in
    record {
      size = omega (arith, r.fits);
      at = omega (arith, rw (sub-zero, es) at c.within.0, length-take-le turn.chunk.size input r.fits);
      kept = all;
      text = text_there (omega (arith, wrote.text.place, chunk.within.1)) wrote.text;
      end = wrote.text.place ∙ zero-add _;
      place = wrote.place;
      tally = wrote.tally;
      passed = wrote.at ∙ zero-add _;
      small = chunk.small;
      told = t;
      more = m;
    }

pub some_least : (chunk : Chunk) → 1 ≤ least_of chunk 20
some_least chunk = if_case (λ (n : ℕ). 1 ≤ n) (eqb chunk.size chunk_bytes || chunk.cut) 20 1 (λ _. lit≤ tt) (λ _. lit≤ tt)

-- ONE CHUNK MORE

pub first_going : Going first_turn
first_going = record { more = refl; at = lit≤ tt; size = lit≤ tt; small = record { kept = lit≤ tt; doubtful = lit≤ tt; skipped = lit≤ tt } }

pub none_yet : (input : List ℕ) → Reached 0 (stood_at first_turn input)
unfolding after listed tally flatten
none_yet input = record { chunks = []; counted = refl; done = []; first = λ more. refl; place = refl; tally = refl }

flatten_more : (chunks : List (List ℕ)) (bytes more : List ℕ) → flatten (chunks ++ (bytes ∷ [])) ++ more ≡ flatten chunks ++ (bytes ++ more)
unfolding flatten
flatten_more [] bytes more = rw append-nil
flatten_more (first ∷ chunks) bytes more = rw (append_assoc, flatten_more chunks bytes more, append_assoc)

module _ {output : Output} {before : Stood} {turn : Turn} {input out : List ℕ} (m : turn.more ≡ true) (t : Turned output before turn input out) where
  is : (eqb turn.chunk.size chunk_bytes ≡ true) × (◌≡◌ {A = Bool} false false) × (turn.chunk.cut ≡ false)
  is = more_is turn.chunk false turn.lost (sym t.more ∙ m)

  pub more_going : Going turn
  more_going = record { more = m; at = t.at; size = t.size; small = t.small }

  pub chunk_more : {k : ℕ} → Reached k before → Reached (k + 1) (stood_at turn input)
  chunk_more r =
      let bytes : List ℕ = bytes_of before turn input in
      let all : List ℕ = before.left ++ bytes in
      let ms : List Move = scan 20 0 all in
      let full : moves_of before turn input ≡ ms = rw is.0 in
      let left : (stood_at turn input).left ≡ left_of 20 all = ap (drop turn.work.at) t.kept ∙ ap (λ (n : ℕ). drop n all) (t.passed ∙ ap sizes full) in
      record {
        chunks = r.chunks ++ (bytes ∷ []);
        counted = omega (arith, length-append r.chunks (bytes ∷ []), r.counted);
        done = r.done ++ ms;
        first = λ more. ap moves (flatten_more r.chunks bytes more) ∙ r.first (bytes ++ more) ∙ ap (λ (l : List ℕ). r.done ++ moves l) (sym (append_assoc before.left bytes more))
            ∙ ap (λ (l : List Move). r.done ++ l) (ahead more all) ∙ sym (append_assoc r.done ms (moves (left_of 20 all ++ more))) ∙ ap (λ (l : List ℕ). (r.done ++ ms) ++ moves (l ++ more)) (sym left);
        place = t.place ∙ rw (full, r.place, after_append beginning r.done ms);
        tally = t.tally ∙ rw (full, r.place, r.tally, listed_append beginning r.done ms, tally_append none (listed beginning r.done) (listed (after beginning r.done) ms));
      }

-- the last chunk is where the loop ended
pub ended : {output : Output} {k : ℕ} {turn : Turn} {input out : List ℕ} → Last output k turn input out → (turn.more ≡ true → k ≡ most_chunks) → Ended output turn input out
ended l b = record { before = l.before; stood = l.stood; reached = l.reached; last = l.last; bound = λ m. l.counted ∙ b m }

-- A RESCUE THAT DID NOT BREAK OFF

module _ {output : Output} {turn : Turn} {input out : List ℕ} (e : Ended output turn input out) (h : broke_off turn.chunk turn.lost turn.more ≡ false) where
  -- It was the end of the input that ended it: the last chunk is short.
  pub end_reached : turn.chunk.size < chunk_bytes
  end_reached = by (end_is turn.chunk false turn.lost turn.more e.last.size e.last.more h)
    where
      by : (turn.chunk.size < chunk_bytes) ⊎ (◌≡◌ {A = Bool} false true) → turn.chunk.size < chunk_bytes
      by (inl l) = l
      by (inr z) = no_both z

  -- The output of the chunks before the last, by definition, that of the last in the buffer and what closes it are the output of the whole trace.
  pub output_whole :
      (output_of output beginning 0 e.reached.done ++ take turn.work.end out) ++ closing_text output turn
      ≡ whole_of output (flatten e.reached.chunks ++ bytes_of e.stood turn input)
  output_whole =
      let s : Stood = e.stood in
      let bytes : List ℕ = bytes_of s turn input in
      let trace : List ℕ = flatten e.reached.chunks ++ bytes in
      let done : List Move = e.reached.done in
      let ms : List Move = moves (s.left ++ bytes) in
      let short = ne_eqb turn.chunk.size chunk_bytes (λ z. omega (arith, end_reached)) in
      let last : moves_of s turn input ≡ ms = rw (short, or_right (turn.lost || turn.more) turn.chunk.cut h) in
      let all : moves trace ≡ done ++ ms = e.reached.first bytes in
      rw (h, e.last.text, e.last.place, e.last.tally, last, e.reached.place, e.reached.tally)
      (sym (whole_is output trace ∙ rw (all, outputs_append output beginning none done ms, after_append beginning done ms, listed_append beginning done ms, tally_append none (listed beginning done) (listed (after beginning done) ms))))
