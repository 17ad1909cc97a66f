-- A chunk is turned by what its conversion promises; one chunk more behind others; and the output of a conversion that did not break off is that of the
-- whole input.
use Rattle.std.specs.Prelude.{◌≡◌, ◌⊎◌, Bool, false, ◌||◌, length, take, eqb, if◌then◌else◌}
use Rattle.std.proofs.Math.Path.{refl, ap}
use Rattle.std.proofs.Common.{sym, ◌∙◌, inl, inr, zero-add, arith, length-append, length-take-le, lit≤, ne_eqb}
use Rattle.std.proofs.Math.Bool.{true}
use mathlib.Core.List.{List, [], ◌∷◌, ◌++◌, flatten, append-nil}
use Prim.Native.Nat.{ℕ, ◌+◌, ◌-◌, ◌<◌, ◌≤◌}
use Rattle.std.proofs.Math.Nat.{sub-zero}
use Rattle.model.proofs.TestLaws.{or_right, no_both, if_case}
use Rattle.model.specs.Convert as model
use Rattle.model.specs.Convert.{Place, convert, convert_on, beginning, convert_chunks}
use Rattle.model.proofs.ConvertLaws.{Readable, chunks_more, chunked, ahead}
use Rattle.decimal.specs.Laws.{text_there}
use Rattle.stream.specs.declared.Chunk.{Chunk}
use Rattle.stream.specs.Bridge.{Keeps, Reads, chunk_bytes, least_of, goes_on, broke_off}
use Rattle.stream.specs.Laws.{kept_front, more_is, end_is}
use Rattle.convert.specs.declared.Form.{Form}
use Rattle.convert.specs.Bridge.{form_as, other_as, ChunkTurned}
use Rattle.convert.specs.Laws.{readable, some_longest}
use Rattle.converter.specs.Bridge.{Turn, first_turn, place_at, Going, bytes_of, Turned, most_chunks, Reached, Last, Ended}

-- A CHUNK TURNED

-- bytes read behind those that are left are turned together with them
together : (from to : model.Form) (least : ℕ) (p : Place) (bytes all : List ℕ) → p.stopped ≡ false → all ≡ p.left ++ bytes →
    convert_on from to least p bytes ≡ convert from to least p.count all
together from to least p bytes all h e = rw (h, e)

pub turned : (from : Form) {last turn : Turn} {entry kept input before out : List ℕ} {n least size : ℕ} → Going last →
    length kept ≡ chunk_bytes → length input ≡ chunk_bytes →
    Keeps entry last.work.at last.chunk.size n kept → Reads kept n turn.chunk input →
    size ≡ turn.chunk.size → least ≡ least_of turn.chunk (form_as from).longest →
    ChunkTurned (form_as from) (other_as from) least last.work.count (take (size - 0) input) before turn.work out →
    turn.told ≡ (if turn.lost then last.work.count else turn.work.count) →
    turn.more ≡ goes_on turn.chunk turn.work.stopped turn.lost →
    Turned from (place_at last entry) turn input out
turned from {last} {turn} {entry} {kept} {input} {n} g hk hi k r es el c t m =
    let p : Place = place_at last entry in
    let left : p.left ≡ take n kept = sym k.bytes in
    let all = kept_front p.left kept input n turn.chunk.size left (omega (arith, r.behind, r.fits)) r.behind r.stay in
    let chunk = rw (sub-zero, es, el) at c in
    let is = together (form_as from) (other_as from) (least_of turn.chunk (form_as from).longest) p (bytes_of p turn input) (take turn.chunk.size input) g.stopped all in
    record {
      size = omega (arith, r.fits);
      at = omega (arith, chunk.within.0, length-take-le turn.chunk.size input r.fits);
      kept = all;
      output = rw is (text_there (omega (arith, chunk.output.place, chunk.within.1)) chunk.output);
      end = rw is (chunk.output.place ∙ zero-add _);
      place = rw is chunk.place;
      told = t;
      more = m;
    }

pub some_least : (from : Form) (chunk : Chunk) → 1 ≤ least_of chunk (form_as from).longest
some_least from chunk =
    if_case (λ (n : ℕ). 1 ≤ n) (eqb chunk.size chunk_bytes || chunk.cut) (form_as from).longest 1 (λ _. some_longest from) (λ _. lit≤ tt)

-- ONE CHUNK MORE

pub first_going : Going first_turn
first_going = record { more = refl; stopped = refl; at = lit≤ tt; size = lit≤ tt }

pub none_yet : (from : Form) (input : List ℕ) → Reached from 0 (place_at first_turn input)
unfolding convert_chunks
none_yet from input = record { chunks = []; counted = refl; place = refl; going = refl }

module _ {from : Form} {before : Place} {turn : Turn} {input out : List ℕ} (m : turn.more ≡ true) (t : Turned from before turn input out) where
  is : (eqb turn.chunk.size chunk_bytes ≡ true) × (turn.work.stopped ≡ false) × (turn.chunk.cut ≡ false)
  is = more_is turn.chunk turn.work.stopped turn.lost (sym t.more ∙ m)

  pub more_going : Going turn
  more_going = record { more = m; stopped = is.1; at = t.at; size = t.size }

  pub chunk_more : {k : ℕ} → Reached from k before → Reached from (k + 1) (place_at turn input)
  chunk_more r =
      let bytes = bytes_of before turn input in
      record {
        chunks = r.chunks ++ (bytes ∷ []);
        counted = omega (arith, length-append r.chunks (bytes ∷ []), r.counted);
        place = rw (chunks_more (form_as from) (other_as from) beginning r.chunks bytes, ← r.place) (rw is.0 at t.place);
        going = is.1;
      }

-- the last chunk is where the loop ended
pub ended : {from : Form} {k : ℕ} {turn : Turn} {input out : List ℕ} → Last from k turn input out → (turn.more ≡ true → k ≡ most_chunks) → Ended from turn input out
ended l b = record { before = l.before; place = l.place; reached = l.reached; last = l.last; bound = λ m. l.counted ∙ b m }

-- A CONVERSION THAT DID NOT BREAK OFF

-- where it stopped at a refusal, that more might follow changes nothing
stopped_same : (from to : model.Form) → Readable from → 1 ≤ from.longest → (p : Place) (bytes : List ℕ) → (convert_on from to from.longest p bytes).place.stopped ≡ true →
    (convert_on from to 1 p bytes).output ≡ (convert_on from to from.longest p bytes).output
stopped_same from to ok l p bytes h =
    ap (λ (b : List ℕ). (convert_on from to 1 p b).output) (sym (append-nil bytes))
    ∙ ap (λ (c : model.Converted). c.output) (ahead from to ok 1 (lit≤ tt) l p bytes [])
    ∙ rw (h, append-nil (convert_on from to from.longest p bytes).output)

-- where an access is read only with the longest at hand, the chunk was full, or a read failed
held_not : {X : Type 0} (chunk : Chunk) (lost more : Bool) → broke_off chunk lost more ≡ false → chunk.size < chunk_bytes → (eqb chunk.size chunk_bytes || chunk.cut) ≡ true → X
held_not chunk lost more h l g =
    let short = ne_eqb chunk.size chunk_bytes (λ z. omega arith) in
    no_both ((rw (short, or_right (lost || more) chunk.cut h) at g))

module _ {from : Form} {turn : Turn} {input out : List ℕ} (e : Ended from turn input out) (h : broke_off turn.chunk turn.lost turn.more ≡ false) where
  p : Place
  p = e.place

  bytes : List ℕ
  bytes = bytes_of p turn input

  -- It was the end of the input that ended it, or a refusal: the last chunk is short, or something of it was refused.
  pub end_reached : (turn.chunk.size < chunk_bytes) ⊎ (turn.work.stopped ≡ true)
  end_reached = end_is turn.chunk turn.work.stopped turn.lost turn.more e.last.size e.last.more h

  -- the output of the last chunk is that of an input that has ended
  last_output : take turn.work.end out ≡ (convert_on (form_as from) (other_as from) 1 p bytes).output
  unfolding p bytes
  last_output = by (eqb turn.chunk.size chunk_bytes || turn.chunk.cut) refl
    where
      refused : (turn.chunk.size < chunk_bytes) ⊎ (turn.work.stopped ≡ true) → (eqb turn.chunk.size chunk_bytes || turn.chunk.cut) ≡ true → turn.work.stopped ≡ true
      refused (inl l) g = held_not turn.chunk turn.lost turn.more h l g
      refused (inr s) g = s

      by : (held : Bool) → (eqb turn.chunk.size chunk_bytes || turn.chunk.cut) ≡ held → take turn.work.end out ≡ (convert_on (form_as from) (other_as from) 1 p bytes).output
      by false g = rw g at e.last.output
      by true g =
          let stopped = refused end_reached g in
          let place = rw g at e.last.place in
          let there : (convert_on (form_as from) (other_as from) (form_as from).longest p bytes).place.stopped ≡ true = sym (ap (λ (q : Place). q.stopped) place) ∙ stopped in
          (rw g at e.last.output) ∙ sym (stopped_same (form_as from) (other_as from) (readable from) (some_longest from) p bytes there)

  -- The output of the chunks before the last, by definition, and that of the last in the buffer are the output of the whole input.
  pub output_whole :
      (convert_chunks (form_as from) (other_as from) beginning e.reached.chunks).output ++ take turn.work.end out
      ≡ (convert (form_as from) (other_as from) 1 0 (flatten e.reached.chunks ++ bytes_of e.place turn input)).output
  unfolding p bytes
  output_whole =
      let before : List ℕ = (convert_chunks (form_as from) (other_as from) beginning e.reached.chunks).output in
      ap (λ (last : List ℕ). before ++ last) (last_output ∙ ap (λ (q : Place). (convert_on (form_as from) (other_as from) 1 q bytes).output) e.reached.place)
      ∙ ap (λ (c : model.Converted). c.output) (chunked (form_as from) (other_as from) (readable from) (some_longest from) beginning e.reached.chunks bytes)
