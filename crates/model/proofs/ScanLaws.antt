-- Laws of the scan: by what stands at a place, one move after another, and in chunks with any borders.
use Rattle.std.specs.Prelude.{◌≡◌, refl, Bool, true, false, not, ◌&&◌, List, [], ◌∷◌, ◌++◌, ℕ, zero, suc, ◌+◌, ◌≤◌, ◌<◌, length, get_or, drop, eqb, ltb}
use Rattle.std.proofs.Common.{◌∙◌, append_assoc, arith, length-append, length-drop, drop-drop, lt-ltb, le-ltb, ltb-true, ltb-false}
use Rattle.std.proofs.Math.ListN.{get_or-append}
use Rattle.std.proofs.lemmas.List.{drop-append-le}
use Rattle.std.proofs.lemmas.Bool.{not-true}
use Rattle.model.proofs.TestLaws.{and_left}
use Rattle.model.proofs.TraceLaws.{number_first, access_first}
use Rattle.model.proofs.ConvertLaws.{FromShorter, by_length}
use Rattle.model.specs.Rescue.{stands, Move, keep, skip, scan, Place, moved, listed, after, kept_first, sizes, entries_from}

-- WHAT STANDS

pub stands_whole : (bytes : List ℕ) → stands bytes ≡ true → 20 ≤ length bytes
stands_whole bytes h =
    let whole = not (ltb (length bytes) 20) in
    let mark = whole && eqb (get_or bytes 0 0) 0x42 in
    let both = mark && eqb (get_or bytes 1 0) 0x50 in
    ltb-false (length bytes) 20 (not-true (ltb (length bytes) 20) (and_left whole (eqb (get_or bytes 0 0) 0x42) (and_left mark (eqb (get_or bytes 1 0) 0x50) (and_left both (eqb (get_or bytes 7 0) 0) h))))

-- only the first 20 bytes tell
pub stands_first : (s t : List ℕ) → 20 ≤ length s → stands (s ++ t) ≡ stands s
stands_first s t h =
    let whole : ltb (length (s ++ t)) 20 ≡ ltb (length s) 20 = rw (le-ltb (length s) 20 h) (le-ltb (length (s ++ t)) 20 (omega (arith, length-append s t))) in
    rw (whole, get_or-append s t 0 0 (omega arith), get_or-append s t 0 1 (omega arith), get_or-append s t 0 7 (omega arith))

-- ONE MOVE

-- the rest of a kept record is passed over
inside_is : (least k : ℕ) (bytes : List ℕ) → scan least k bytes ≡ scan least 0 (drop k bytes)
unfolding scan
inside_is least zero bytes = refl
inside_is least (suc k) [] = refl
inside_is least (suc k) (b ∷ bytes) = inside_is least k bytes

pub scan_short : (least : ℕ) (bytes : List ℕ) → length bytes < least → scan least 0 bytes ≡ []
unfolding scan
scan_short least [] h = refl
scan_short least (b ∷ bytes) h = rw (lt-ltb (length (b ∷ bytes)) least h)

pub scan_kept : (least : ℕ) (bytes : List ℕ) → least ≤ length bytes → stands bytes ≡ true → scan least 0 bytes ≡ kept_first bytes ∷ scan least 0 (drop 20 bytes)
unfolding scan
scan_kept least [] h s = absurd (omega (arith, stands_whole [] s))
scan_kept least (b ∷ bytes) h s = rw (le-ltb (length (b ∷ bytes)) least h, s, inside_is least 19 bytes)

pub scan_skipped : (least : ℕ) (bytes : List ℕ) → 1 ≤ length bytes → least ≤ length bytes → stands bytes ≡ false → scan least 0 bytes ≡ skip ∷ scan least 0 (drop 1 bytes)
unfolding scan
scan_skipped least [] l h s = absurd (omega arith)
scan_skipped least (b ∷ bytes) l h s = rw (le-ltb (length (b ∷ bytes)) least h, s)

-- MOVES IN TWO PARTS

pub listed_append : (p : Place) (ms ns : List Move) → listed p (ms ++ ns) ≡ listed p ms ++ listed (after p ms) ns
unfolding listed after
listed_append p [] ns = refl
listed_append p (m ∷ ms) ns = rw (listed_append (moved p m) ms ns, append_assoc)

pub after_append : (p : Place) (ms ns : List Move) → after p (ms ++ ns) ≡ after (after p ms) ns
unfolding after
after_append p [] ns = refl
after_append p (m ∷ ms) ns = after_append (moved p m) ms ns

-- the place moves on by the bytes that are passed
pub after_sizes : (p : Place) (ms : List Move) → (after p ms).from + (after p ms).run ≡ p.from + p.run + sizes ms
unfolding after sizes
after_sizes p [] = omega arith
after_sizes p (skip ∷ ms) = omega (arith, after_sizes (moved p skip) ms)
after_sizes p (keep n q ∷ ms) = omega (arith, after_sizes (moved p (keep n q)) ms)

-- ENTRIES FROM A PLACE ON

-- some moves, and then the rest
pub entries_then : (p : Place) (bytes rest : List ℕ) (ms : List Move) → scan 1 0 bytes ≡ ms ++ scan 1 0 rest → entries_from p bytes ≡ listed p ms ++ entries_from (after p ms) rest
unfolding entries_from
entries_then p bytes rest ms e = rw (e, listed_append, after_append, append_assoc)

-- IN CHUNKS

-- the bytes behind those that were passed
abbrev pub left_of : (least : ℕ) → (bytes : List ℕ) → List ℕ
left_of least bytes = drop (sizes (scan least 0 bytes)) bytes

-- The scan of some bytes, while as many are left as a record has, and then of what is left with more behind it, is the scan of all.
pub ahead : (more bytes : List ℕ) → scan 1 0 (bytes ++ more) ≡ scan 20 0 bytes ++ scan 1 0 (left_of 20 bytes ++ more)
unfolding sizes
ahead more = by_length (λ bytes. scan 1 0 (bytes ++ more) ≡ scan 20 0 bytes ++ scan 1 0 (left_of 20 bytes ++ more)) step
  where
    step : FromShorter (λ bytes. scan 1 0 (bytes ++ more) ≡ scan 20 0 bytes ++ scan 1 0 (left_of 20 bytes ++ more))
    step bytes i = by (ltb (length bytes) 20) refl (stands bytes) refl
      where
        by : (short : Bool) → ltb (length bytes) 20 ≡ short → (there : Bool) → stands bytes ≡ there → scan 1 0 (bytes ++ more) ≡ scan 20 0 bytes ++ scan 1 0 (left_of 20 bytes ++ more)
        by true e there g = rw (scan_short 20 bytes (ltb-true (length bytes) 20 e))
        by false e true g =
            let l = ltb-false (length bytes) 20 e in
            rw (
              scan_kept 20 bytes l g,
              scan_kept 1 (bytes ++ more) (omega (arith, length-append bytes more)) (stands_first bytes more l ∙ g),
              number_first 2 2 bytes more (omega arith),
              access_first bytes more l,
              drop-append-le 20 bytes more l,
              i (drop 20 bytes) (omega (arith, length-drop 20 bytes)),
              drop-drop (sizes (scan 20 0 (drop 20 bytes))) 20 bytes,
            )
        by false e false g =
            let l = ltb-false (length bytes) 20 e in
            rw (
              scan_skipped 20 bytes (omega arith) l g,
              scan_skipped 1 (bytes ++ more) (omega (arith, length-append bytes more)) (omega (arith, length-append bytes more)) (stands_first bytes more l ∙ g),
              drop-append-le 1 bytes more (omega arith),
              i (drop 1 bytes) (omega (arith, length-drop 1 bytes)),
              drop-drop (sizes (scan 20 0 (drop 1 bytes))) 1 bytes,
            )

-- fewer bytes wait than a record has
pub left_short : (bytes : List ℕ) → length (left_of 20 bytes) < 20
unfolding sizes
left_short = by_length (λ bytes. length (left_of 20 bytes) < 20) step
  where
    step : FromShorter (λ bytes. length (left_of 20 bytes) < 20)
    step bytes i = by (ltb (length bytes) 20) refl (stands bytes) refl
      where
        by : (short : Bool) → ltb (length bytes) 20 ≡ short → (there : Bool) → stands bytes ≡ there → length (left_of 20 bytes) < 20
        by true e there g = rw (scan_short 20 bytes (ltb-true (length bytes) 20 e)) (ltb-true (length bytes) 20 e)
        by false e true g =
            let l = ltb-false (length bytes) 20 e in
            rw (scan_kept 20 bytes l g, ← drop-drop (sizes (scan 20 0 (drop 20 bytes))) 20 bytes) (i (drop 20 bytes) (omega (arith, length-drop 20 bytes)))
        by false e false g =
            let l = ltb-false (length bytes) 20 e in
            rw (scan_skipped 20 bytes (omega arith) l g, ← drop-drop (sizes (scan 20 0 (drop 1 bytes))) 1 bytes) (i (drop 1 bytes) (omega (arith, length-drop 1 bytes)))
