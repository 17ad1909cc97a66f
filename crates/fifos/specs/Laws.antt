-- Laws of the entries held: their number, what a store at the end and a shift make of them; and one of the four FIFOs read and replaced.
use Rattle.std.specs.Prelude.{◌≡◌, refl, List, [], ◌∷◌, ◌++◌, map, ℕ, zero, suc, ◌+◌, ◌-◌, ◌<◌, ◌≤◌, length, get_or, set, take, drop, replicate, ltb, leb, ◌&&◌, Some, None}
use Rattle.std.proofs.Common.{sym, ap, ◌∙◌, append_assoc, append-nil, arith, add-one, length-set, get_or-set_same, length-drop, length-append, drop_of_length-le, length-take-le, take-suc-set, take_all, lt-ltb, le-ltb}
use Rattle.std.proofs.lemmas.List.{length-map, length-replicate, take-append-le, set_split}
use Rattle.std.proofs.lemmas.List.Edits.{length-paste, take-paste}
use Rattle.std.specs.List.{copy_within, list_all}
use lib.Seq.{paste}
use borrow.Rule.Slice.PartMut.{put_mid}
use Rattle.std.proofs.Math.ListN.{get_or-map}
use Rattle.model.specs.Fifos as model
use Rattle.model.specs.Choice.{every}
use Rattle.model.specs.Fifos.{entries_of, popped_from, fifo_sound, fifos_sound}
use Rattle.model.proofs.TestLaws.{if_case}
use Rattle.model.proofs.FourLaws.{map_set}
use Rattle.model.specs.Why.{places}
use Rattle.fifos.specs.declared.Fifo.{Fifo}
use Rattle.fifos.specs.declared.Fifos.{Fifos}
use Rattle.fifos.specs.Bridge.{entries_as, fifos_as, PutOn, put_on, put_as, taken_off, taken_as}

pub length_entries : (f : Fifo) → length (entries_as f) ≡ f.count
unfolding entries_as
length_entries f = length-take-le f.count (f.entries ++ replicate f.count 0) (rw (length-append, length-replicate) (omega arith))

-- ONE FIFO

pub one_more : (es : List ℕ) (n v : ℕ) → length es ≡ 32 → n < 32 → entries_as (record { entries = set es n v; count = n + 1 }) ≡ entries_as (record { entries = es; count = n }) ++ (v ∷ [])
unfolding entries_as
one_more es n v len h =
    rw (take-append-le (n + 1) (set es n v) (replicate (n + 1) 0) (simp length-set (omega arith)), take-append-le n es (replicate n 0) (omega arith), add-one n, take-suc-set es n v (omega arith))

pub one_less : (es : List ℕ) (n k : ℕ) → length es ≡ 32 → n ≡ k + 1 →
    entries_as (record { entries = drop 1 es ++ (0 ∷ []); count = k }) ≡ drop 1 (entries_as (record { entries = es; count = n }))
unfolding entries_as
one_less (x ∷ es) n k len h = rw (h, add-one k, append_assoc es (0 ∷ []) (replicate k 0))
one_less [] n k len h = absurd (omega arith)

-- the first of the array is the oldest of those held
pub oldest_first : (es : List ℕ) (n : ℕ) → length es ≡ 32 → 0 < n →
    entries_as (record { entries = es; count = n }) ≡ get_or es 0 0 ∷ drop 1 (entries_as (record { entries = es; count = n }))
unfolding entries_as
oldest_first [] n len h = absurd (omega arith)
oldest_first (x ∷ es) zero len h = absurd (omega arith)
oldest_first (x ∷ es) (suc n) len h = refl

-- the entries moved down by one place, and 0 in the last
pub moved_down : (es : List ℕ) → length es ≡ 32 → set (copy_within es 1 (length es) 0) 31 0 ≡ drop 1 es ++ (0 ∷ [])
moved_down es len =
    let m : List ℕ = paste es 0 (drop 1 es) 31 in
    let k : length m ≡ 32 = length-paste es 0 (drop 1 es) 31 (omega arith) (simp length-drop (omega arith)) ∙ len in
    let first : take 31 m ≡ drop 1 es = take-paste es 0 (drop 1 es) 31 (omega arith) (simp length-drop (omega arith)) ∙ take_all 31 (drop 1 es) (simp length-drop (omega arith)) in
    rw len (set_split m 31 0 (omega arith) ∙ rw (first, drop_of_length-le m {i = 32} (omega arith)))

-- those held are the first of the array
pub first_entries : (f : Fifo) → f.count ≤ length f.entries → entries_as f ≡ take f.count f.entries
unfolding entries_as
first_entries f h = take-append-le f.count f.entries (replicate f.count 0) h

-- with zeros in the places that are not used
pub zeros_behind : (es : List ℕ) (n : ℕ) → length es ≡ 32 → n ≤ 32 →
    put_mid n (32 - n) es (replicate (length (take (32 - n) (drop n es))) 0) ≡ places (take n es)
zeros_behind es n len h =
    let none : drop (32 - n) (drop n es) ≡ [] = drop_of_length-le (drop n es) (simp length-drop (omega arith)) in
    let others : length (take (32 - n) (drop n es)) ≡ 32 - n = length-take-le (32 - n) (drop n es) (simp length-drop (omega arith)) in
    let held = length-take-le n es (omega arith) in
    rw (none, others, append-nil, held)

-- ONE OF THE FOUR

-- what an array has behind its end
abbrev pub no_fifo : Fifo
no_fifo = record { entries = []; count = 0 }

module _ (each : List Fifo) (i : ℕ) where
  pub entries_at : entries_of (map entries_as each) i ≡ entries_as (get_or each i no_fifo)
  unfolding entries_as
  entries_at = get_or-map entries_as each i no_fifo

-- all counted are few, as a test of each and as one of the four lists
few : (l : List Fifo) → list_all (λ (f : Fifo). leb f.count 32) l ≡ every fifo_sound (map entries_as l)
few [] = refl
few (f ∷ l) = rw (length_entries f) (ap (leb f.count 32 &&◌) (few l))

pub all_few : (each : List Fifo) → length each ≡ 4 → list_all (λ (f : Fifo). leb f.count 32) each ≡ fifos_sound (map entries_as each)
all_few each len = few each ∙ rw (length-map, len)

module _ (before : Fifos) (i : ℕ) where
  pub put_kept : (v : ℕ) (r : Fifo) → i < length before.each → (get_or before.each i no_fifo).count < 32 → entries_as r ≡ entries_as (get_or before.each i no_fifo) ++ (v ∷ []) →
      put_as i before (Some (record { each = set before.each i r })) ≡ put_on i v (fifos_as before)
  put_kept v r k h e =
      let fs : model.Fifos = fifos_as before in
      let room : i < length fs = simp length-map k in
      let more : length (entries_as (get_or before.each i no_fifo) ++ (v ∷ [])) ≡ (get_or before.each i no_fifo).count + 1 = rw (length-append, length_entries) in
      rw (map_set entries_as before.each i r, e, get_or-set_same, more, entries_at before.each i, length_entries (get_or before.each i no_fifo), lt-ltb _ 32 h)

  pub put_lost : (v : ℕ) → 32 ≤ (get_or before.each i no_fifo).count → put_as i before None ≡ put_on i v (fifos_as before)
  put_lost v h = rw (entries_at before.each i, length_entries (get_or before.each i no_fifo), le-ltb _ 32 h)

  pub taken_none : (get_or before.each i no_fifo).count ≡ 0 → taken_as i before None ≡ taken_off i (fifos_as before) (entries_of (fifos_as before) i)
  taken_none h = rw (entries_at before.each i) (by (entries_as (get_or before.each i no_fifo)) (length_entries (get_or before.each i no_fifo) ∙ h))
    where
      by : (l : List ℕ) → length l ≡ 0 → taken_as i before None ≡ taken_off i (fifos_as before) l
      by [] k = refl
      by (x ∷ l) k = absurd (omega arith)

  pub taken_some : (oldest : ℕ) (r : Fifo) → i < length before.each → entries_as (get_or before.each i no_fifo) ≡ oldest ∷ drop 1 (entries_as (get_or before.each i no_fifo)) →
      entries_as r ≡ drop 1 (entries_as (get_or before.each i no_fifo)) →
      taken_as i before (Some (record { fifos = record { each = set before.each i r }; entry = oldest })) ≡ taken_off i (fifos_as before) (entries_of (fifos_as before) i)
  taken_some oldest r n e k =
      let fs : model.Fifos = fifos_as before in
      let here : List ℕ = entries_as (get_or before.each i no_fifo) in
      let left : get_or (set fs i (drop 1 here)) i [] ≡ drop 1 here = get_or-set_same fs i (drop 1 here) [] (simp length-map n) in
      rw (map_set entries_as before.each i r, k, left, ← entries_at before.each i) (by (entries_of fs i) (entries_at before.each i ∙ e ∙ rw (entries_at before.each i)))
    where
      by : (l : List ℕ) → l ≡ oldest ∷ drop 1 (entries_of (fifos_as before) i) →
          record { fifos = popped_from i (fifos_as before); entry = oldest; held = length (oldest ∷ drop 1 (entries_of (fifos_as before) i)) } ≡ taken_off i (fifos_as before) l
      by l h = rw h

-- WHAT A CALLER LEARNS

-- an entry is kept exactly where there is room
pub kept_is : (i v : ℕ) (fs : model.Fifos) → (put_on i v fs).kept ≡ ltb (length (entries_of fs i)) 32
kept_is i v fs = if_case (λ (p : PutOn). p.kept ≡ ltb (length (entries_of fs i)) 32) (ltb (length (entries_of fs i)) 32) _ _ (λ h. sym h) (λ h. sym h)
