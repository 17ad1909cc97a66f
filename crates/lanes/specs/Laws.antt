-- Reads and writes of a memory by lanes are merges, shown one lane at a time.
use Rattle.std.specs.Prelude.{◌≡◌, refl, Bool, true, false, List, [], ◌∷◌, ℕ, zero, suc, ◌+◌, ◌/◌, ◌≤◌, get_or, set, length, replicate, take, drop, ◌++◌, if◌then◌else◌}
use Rattle.std.proofs.Common.{ap, sym, ◌∙◌, append_assoc, add-one, arith, get_or-set_other, drop-cons, take_all, drop-drop}
use Rattle.std.proofs.lemmas.List.{set-get_or}
use Rattle.std.proofs.lemmas.List.Edits.{sets, sets-eq}
use Rattle.model.specs.Lanes.{bytes_of, enabled, lane_values, byte_at, stores, write_dword}
use Rattle.model.proofs.LaneLaws.{covers_from, values_same}
use Rattle.lanes.specs.Bridge.{merge}

-- ALL LANES

-- with all lanes enabled, `n` lanes hold the `n` bytes from there on
pub all_lanes : (n : ℕ) (m : List ℕ) (at : ℕ) → at + n ≤ length m → lane_values n (byte_at m) at 0 ≡ take n (drop at m)
all_lanes zero m at h = refl
all_lanes (suc n) m at h =
    rw (drop-cons m at 0 (omega arith)) (ap (byte_at m at ∷◌) (rw (← add-one at) (all_lanes n m (at + 1) (omega arith))))

-- an array is the list of its elements
pub listed : (n : ℕ) (l : List ℕ) → length l ≡ n → lane_values n (byte_at l) 0 0 ≡ l
listed n l h = all_lanes n l 0 (omega arith) ∙ take_all n l (omega arith)

-- READS AND WRITES ARE MERGES

-- what the lanes carry, merged into zeros, is what they hold
pub merge_zeros : (n : ℕ) (carried : ℕ → ℕ) (k lanes : ℕ) → merge lanes (replicate n 0) (lane_values n carried k 0) ≡ lane_values n carried k lanes
merge_zeros zero carried k lanes = refl
merge_zeros (suc n) carried k lanes = ap ((if enabled lanes then carried k else 0) ∷◌) (merge_zeros n carried (k + 1) (lanes / 2))

-- a write stores the bytes merged into those that were there
sets_merge : (bs m : List ℕ) (at lanes : ℕ) → sets m at (merge lanes (lane_values (length bs) (byte_at m) at 0) bs) ≡ stores bs m at lanes
sets_merge [] m at lanes = refl
sets_merge (b ∷ bs) m at lanes =
    let y : ℕ = (if enabled lanes then b else get_or m at 0) in
    let far : lane_values (length bs) (byte_at m) (at + 1) 0 ≡ lane_values (length bs) (byte_at (set m at y)) (at + 1) 0 =
    values_same (length bs) (byte_at m) (byte_at (set m at y)) (at + 1) 0
    (λ i c. sym (get_or-set_other m at i y 0 (λ q. omega (arith, covers_from (length bs) (at + 1) 0 i c)))) in
    ap (λ (k : ℕ). sets (set m at y) k (merge (lanes / 2) (lane_values (length bs) (byte_at m) (at + 1) 0) bs)) (sym (add-one at))
    ∙ ap (λ (l : List ℕ). sets (set m at y) (at + 1) (merge (lanes / 2) l bs)) far
    ∙ sets_merge bs (set m at y) (at + 1) (lanes / 2)
    ∙ ap (λ (l : List ℕ). stores bs l (at + 1) (lanes / 2)) (one (enabled lanes))
  where
    one : (t : Bool) → set m at (if t then b else get_or m at 0) ≡ (if t then set m at b else m)
    one true = refl
    one false = set-get_or m at 0

-- a write of the four merged bytes where they were read
pub write_four : (m r : List ℕ) (at n lanes v : ℕ) → at + 4 ≤ length m → n ≡ 4 → r ≡ merge lanes (lane_values 4 (byte_at m) at 0) (bytes_of 4 v) →
    take at m ++ (r ++ drop n (drop at m)) ≡ write_dword m at lanes v
unfolding write_dword
write_four m r at n lanes v l k h =
    let four : length r ≡ 4 = ap length h in
    rw (k, drop-drop 4 at m, ← append_assoc) (sym (rw four at (sets-eq r m at (omega (arith, four)))) ∙ rw h (sets_merge (bytes_of 4 v) m at lanes))
