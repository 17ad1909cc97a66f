-- One place more is passed; and what the moves up to the next record, and the record, list and leave.
use Rattle.std.specs.Prelude.{◌≡◌, refl, false, List, [], ◌∷◌, ◌++◌, ℕ, zero, suc, ◌+◌, ◌-◌, ◌≤◌, ◌<◌, length, drop, replicate}
use Rattle.std.proofs.Common.{ap, ◌∙◌, append_assoc, append-nil, add-zero, arith, length-drop, drop-drop, lt-ltb}
use Rattle.model.specs.Trace.{number_at}
use Rattle.model.specs.Rescue.{stands, Move, skip, scan, Place, range, kept_at, moved, listed, after, kept_first}
use Rattle.model.proofs.ScanLaws.{stands_whole, scan_skipped, scan_kept, listed_append, after_append}
use Rattle.scan.specs.Bridge.{Ahead}

abbrev pub skips : (n : ℕ) → List Move
skips n = replicate n skip

skips_more : (n : ℕ) (ms : List Move) → skips n ++ (skip ∷ ms) ≡ skips (suc n) ++ ms
skips_more zero ms = refl
skips_more (suc n) ms = ap (λ (l : List Move). skip ∷ l) (skips_more n ms)

-- PLACES WITHOUT A RECORD

abbrev Passed : (bytes : List ℕ) → (at to next : ℕ) → Type 0
Passed bytes at to next = (least : ℕ) → to + least ≤ length bytes + 1 → scan least 0 (drop at bytes) ≡ skips (next - at) ++ scan least 0 (drop next bytes)

-- where no record stands the scan skips byte after byte
pub passed : (bytes : List ℕ) (at to next : ℕ) → at ≤ next → next ≤ to → to ≤ length bytes → ((place : ℕ) → at ≤ place → place < next → stands (drop place bytes) ≡ false) →
    Passed bytes at to next
passed bytes at to next h l m none least g = by (next - at) next h l (omega arith) none
  where
    by : (k next : ℕ) → at ≤ next → next ≤ to → at + k ≡ next → ((place : ℕ) → at ≤ place → place < next → stands (drop place bytes) ≡ false) →
        scan least 0 (drop at bytes) ≡ skips (next - at) ++ scan least 0 (drop next bytes)
    by zero next h l e none =
        let z : next - at ≡ 0 = omega arith in
        let here : at ≡ next = omega arith in
        rw (z, here)
    by (suc k) next h l e none =
        let last = at + k in
        let one : next ≡ last + 1 = omega arith in
        let more : last + 1 - at ≡ suc (last - at) = omega arith in
        let long = length-drop last bytes in
        let step = scan_skipped least (drop last bytes) (omega arith) (omega arith) (none last (omega arith) (omega arith)) in
        by k last (omega arith) (omega arith) refl (λ place a b. none place a (omega arith))
        ∙ rw (one, more, step, drop-drop 1 last bytes) (skips_more (last - at) (scan least 0 (drop (last + 1) bytes)))

-- a record does not stand where it has no room
pub no_room : (bytes : List ℕ) → length bytes < 20 → stands bytes ≡ false
no_room bytes h = rw (lt-ltb (length bytes) 20 h)

-- WHAT THE MOVES LIST AND LEAVE

-- a place behind bytes that are skipped
abbrev pub behind : Place → (n : ℕ) → Place
behind p n = record { from = p.from; run = p.run + n; expected = p.expected }

pub skips_listed : (p : Place) (n : ℕ) → listed p (skips n) ≡ []
unfolding listed
skips_listed p zero = refl
skips_listed p (suc n) = skips_listed (moved p skip) n

pub skips_after : (p : Place) (n : ℕ) → after p (skips n) ≡ behind p n
unfolding after
skips_after p zero = rw add-zero
skips_after p (suc n) =
    let shift : p.run + 1 + n ≡ p.run + suc n = omega arith in
    skips_after (moved p skip) n ∙ rw shift

-- the bytes that are skipped up to a record, and the record
abbrev pub up_to : (n : ℕ) → (bytes : List ℕ) → List Move
up_to n bytes = skips n ++ (kept_first bytes ∷ [])

module _ (p : Place) (n : ℕ) (bytes : List ℕ) where
  pub record_listed : listed p (up_to n bytes) ≡ range (behind p n) ++ (kept_at (behind p n) (number_at 2 2 bytes) ∷ [])
  unfolding listed
  record_listed = rw (listed_append p (skips n) (kept_first bytes ∷ []), skips_listed p n, skips_after p n, append-nil)

  pub record_after : after p (up_to n bytes) ≡ moved (behind p n) (kept_first bytes)
  unfolding after
  record_after = rw (after_append p (skips n) (kept_first bytes ∷ []), skips_after p n)

-- UP TO THE NEXT RECORD

module _ {bytes : List ℕ} {at to next : ℕ} (a : Ahead bytes at to next) (least : ℕ) (h : to + least ≤ length bytes + 1) where
  -- where there is one
  pub record_ahead : next < to → scan least 0 (drop at bytes) ≡ up_to (next - at) (drop next bytes) ++ scan least 0 (drop (next + 20) bytes)
  record_ahead l =
      let long = length-drop next bytes in
      let step = scan_kept least (drop next bytes) (omega arith) (a.found l) in
      a.passed least h ∙ rw (step, drop-drop 20 next bytes, append_assoc)

  -- and then it lies in the bytes
  pub record_within : next < to → next + 20 ≤ length bytes
  record_within l = omega (arith, stands_whole (drop next bytes) (a.found l), length-drop next bytes)
