-- Laws of dwords and lanes, each shown once by induction on the number of lanes, byte by byte.
use Rattle.std.specs.Prelude.{◌≡◌, refl, ◌⊎◌, Bool, true, false, List, [], ◌∷◌, ℕ, zero, suc, ◌+◌, ◌-◌, ◌*◌, ◌/◌, ◌%◌, ◌^◌, ◌<◌, ◌≤◌, get_or, set, length, take, drop, if◌then◌else◌}
use Rattle.std.proofs.Common.{ap, sym, ◌∙◌, inl, inr, arith, add-one, pow-suc, div-one, length-set, length-drop, take_all, get_or-drop, get_or-set_other, get_or-set_same}
use Rattle.std.proofs.Math.Nat.{pow-succ', div-div-eq-div-mul}
use Rattle.std.proofs.lemmas.List.{set_comm}
use Rattle.model.specs.Choice.{every}
use Rattle.model.specs.Lanes.{dword_of, bytes_of, enabled, lane_values, byte_at, stores, read_dword, write_dword, lane_bytes}
use Rattle.model.proofs.TestLaws.{and_left, and_right, no_both}

-- BYTES OF ENABLED LANES

-- of `n` lanes from an address, byte `i` is that of an enabled lane
abbrev pub Covers : (n at lanes i : ℕ) → Type 0
Covers zero at lanes i = ⊥
Covers (suc n) at lanes i = ((enabled lanes ≡ true) × (i ≡ at)) ⊎ Covers n (at + 1) (lanes / 2) i

-- it is one of `lane_bytes`
pub lane_byte : (p : ℕ → Bool) (n at lanes i : ℕ) → every p (lane_bytes n at lanes) ≡ true → Covers n at lanes i → p i ≡ true
lane_byte p zero at lanes i h c = absurd c
lane_byte p (suc n) at lanes i h c = by (enabled lanes) h c (λ k d. lane_byte p n (at + 1) (lanes / 2) i k d)
  where
    rest : List ℕ
    rest = lane_bytes n (at + 1) (lanes / 2)

    by : (t : Bool) → every p (if t then at ∷ rest else rest) ≡ true → ((t ≡ true) × (i ≡ at)) ⊎ Covers n (at + 1) (lanes / 2) i →
        (every p rest ≡ true → Covers n (at + 1) (lanes / 2) i → p i ≡ true) → p i ≡ true
    by true h (inl q) f = ap p q.1 ∙ and_left (p at) (every p rest) h
    by false h (inl q) f = no_both q.0
    by true h (inr c) f = f (and_right (p at) (every p rest) h) c
    by false h (inr c) f = f h c

-- the bytes of an access lie at and above its address, and below its end
pub covers_from : (n at lanes i : ℕ) → Covers n at lanes i → at ≤ i
covers_from zero at lanes i c = absurd c
covers_from (suc n) at lanes i (inl p) = omega (arith, p.1)
covers_from (suc n) at lanes i (inr c) = omega (arith, covers_from n (at + 1) (lanes / 2) i c)

pub covers_below : (n at lanes i : ℕ) → Covers n at lanes i → i < at + n
covers_below zero at lanes i c = absurd c
covers_below (suc n) at lanes i (inl p) = omega (arith, p.1)
covers_below (suc n) at lanes i (inr c) = omega (arith, covers_below n (at + 1) (lanes / 2) i c)

-- it is the byte of lane k, for some enabled lane k
pub covers_lane : (n at lanes i : ℕ) → Covers n at lanes i → (k : ℕ) × (k < n) × (i ≡ at + k) × (enabled (lanes / 2 ^ k) ≡ true)
covers_lane zero at lanes i c = absurd c
covers_lane (suc n) at lanes i (inl p) = (0, omega arith, omega (arith, p.1), rw div-one p.0)
covers_lane (suc n) at lanes i (inr c) =
    let r = covers_lane n (at + 1) (lanes / 2) i c in
    (suc r.0, omega (arith, r.1), omega (arith, r.2), rw (pow-succ', ← div-div-eq-div-mul) r.3)

-- the same lanes further on
covers_shift : (n at lanes i m : ℕ) → Covers n at lanes i → Covers n (at + m) lanes (i + m)
covers_shift zero at lanes i m c = absurd c
covers_shift (suc n) at lanes i m (inl p) = inl (p.0, ap (λ x. x + m) p.1)
covers_shift (suc n) at lanes i m (inr c) =
    let e : at + m + 1 ≡ at + 1 + m = omega arith in
    inr (rw e (covers_shift n (at + 1) (lanes / 2) i m c))

-- an offset in the window, and the PCI address that it stands for
pub covers_pci : (at base lanes i : ℕ) → base ≤ at → Covers 4 (at - base) lanes i → Covers 4 at lanes (i + base)
covers_pci at base lanes i l c =
    let e : at - base + base ≡ at = omega arith in
    rw e at (covers_shift 4 (at - base) lanes i base c)

-- LISTS OF BYTES

-- every member is a byte
abbrev pub Bytes : List ℕ → Type 0
Bytes bs = (i : ℕ) → get_or bs i 0 < 256

pub bytes_take : (n : ℕ) (bs : List ℕ) → Bytes bs → Bytes (take n bs)
bytes_take zero bs h i = omega arith
bytes_take (suc n) [] h i = omega arith
bytes_take (suc n) (b ∷ bs) h zero = h 0
bytes_take (suc n) (b ∷ bs) h (suc i) = bytes_take n bs (λ j. h (suc j)) i

pub bytes_drop : (n : ℕ) (bs : List ℕ) → Bytes bs → Bytes (drop n bs)
bytes_drop n bs h i = rw (get_or-drop n bs i 0) (h (n + i))

-- the part of a slice from a place on
pub from_place : (l : List ℕ) (at : ℕ) → take (length l - at) (drop at l) ≡ drop at l
from_place l at = take_all (length l - at) (drop at l) (omega (arith, length-drop at l))

-- ROUND TRIPS

pub bytes_dword : (bs : List ℕ) → Bytes bs → bytes_of (length bs) (dword_of bs) ≡ bs
bytes_dword [] h = refl
bytes_dword (b ∷ bs) h =
    let hb : b < 256 = h 0 in
    let low : (b + 256 * dword_of bs) % 256 ≡ b = omega arith in
    let high : (b + 256 * dword_of bs) / 256 ≡ dword_of bs = omega arith in
    rw (low, high) (ap (b ∷◌) (bytes_dword bs (λ i. h (suc i))))

pub dword_below : (bs : List ℕ) → Bytes bs → dword_of bs < 256 ^ length bs
dword_below [] h = omega arith
dword_below (b ∷ bs) h =
    let p : 256 ^ suc (length bs) ≡ 256 ^ length bs * 256 = pow-suc 256 (length bs) in
    omega (arith, h 0, dword_below bs (λ i. h (suc i)))

pub dword_bytes : (n v : ℕ) → v < 256 ^ n → dword_of (bytes_of n v) ≡ v
dword_bytes zero v h = omega arith
dword_bytes (suc n) v h =
    let p : 256 ^ suc n ≡ 256 ^ n * 256 = pow-suc 256 n in
    let q : v / 256 < 256 ^ n = omega arith in
    rw (dword_bytes n (v / 256) q) (omega arith)

-- WHAT A WRITE CHANGES AND A READ SEES

pub length_stores : (bs m : List ℕ) (at lanes : ℕ) → length (stores bs m at lanes) ≡ length m
length_stores [] m at lanes = refl
length_stores (b ∷ bs) m at lanes = length_stores bs _ (at + 1) (lanes / 2) ∙ one (enabled lanes)
  where
    one : (t : Bool) → length (if t then set m at b else m) ≡ length m
    one true = length-set m at b
    one false = refl

-- a write changes only bytes of enabled lanes
pub stores_miss : (bs m : List ℕ) (at lanes i : ℕ) → (Covers (length bs) at lanes i → ⊥) → get_or (stores bs m at lanes) i 0 ≡ get_or m i 0
stores_miss [] m at lanes i h = refl
stores_miss (b ∷ bs) m at lanes i h =
    stores_miss bs _ (at + 1) (lanes / 2) i (λ c. h (inr c)) ∙ one (enabled lanes) (λ e q. h (inl (e, q)))
  where
    one : (t : Bool) → (t ≡ true → i ≡ at → ⊥) → get_or (if t then set m at b else m) i 0 ≡ get_or m i 0
    one true g = get_or-set_other m at i b 0 (g refl)
    one false g = refl

-- lanes that carry the same where they are enabled hold the same, so a read depends only on bytes of enabled lanes
pub values_same : (n : ℕ) (f g : ℕ → ℕ) (k lanes : ℕ) → ((i : ℕ) → Covers n k lanes i → f i ≡ g i) → lane_values n f k lanes ≡ lane_values n g k lanes
values_same zero f g k lanes h = refl
values_same (suc n) f g k lanes h =
    let head : (if enabled lanes then f k else 0) ≡ (if enabled lanes then g k else 0) = one (enabled lanes) (λ e. h k (inl (e, refl))) in
    let tail : lane_values n f (k + 1) (lanes / 2) ≡ lane_values n g (k + 1) (lanes / 2) = values_same n f g (k + 1) (lanes / 2) (λ i c. h i (inr c)) in
    cc
  where
    one : (t : Bool) → (t ≡ true → f k ≡ g k) → (if t then f k else 0) ≡ (if t then g k else 0)
    one true e = e refl
    one false e = refl

-- one byte stored before a write that does not cover it may as well be stored after it
set_stores : (bs m : List ℕ) (at lanes i x : ℕ) → (Covers (length bs) at lanes i → ⊥) → stores bs (set m i x) at lanes ≡ set (stores bs m at lanes) i x
set_stores [] m at lanes i x h = refl
set_stores (b ∷ bs) m at lanes i x h =
    ap (λ (l : List ℕ). stores bs l (at + 1) (lanes / 2)) (one (enabled lanes) (λ e q. h (inl (e, q))))
    ∙ set_stores bs _ (at + 1) (lanes / 2) i x (λ c. h (inr c))
  where
    one : (t : Bool) → (t ≡ true → i ≡ at → ⊥) → (if t then set (set m i x) at b else set m i x) ≡ set (if t then set m at b else m) i x
    one true g = set_comm m i at x b (g refl)
    one false g = refl

-- two writes that cover no byte in common commute
pub stores_comm : (bs cs m : List ℕ) (a l a' l' : ℕ) → ((i : ℕ) → Covers (length bs) a l i → Covers (length cs) a' l' i → ⊥)
    → stores bs (stores cs m a' l') a l ≡ stores cs (stores bs m a l) a' l'
stores_comm [] cs m a l a' l' h = refl
stores_comm (b ∷ bs) cs m a l a' l' h =
    ap (λ (k : List ℕ). stores bs k (a + 1) (l / 2)) (one (enabled l) (λ e. h a (inl (e, refl))))
    ∙ stores_comm bs cs _ (a + 1) (l / 2) a' l' (λ i c. h i (inr c))
  where
    one : (t : Bool) → (t ≡ true → Covers (length cs) a' l' a → ⊥) → (if t then set (stores cs m a' l') a b else stores cs m a' l') ≡ stores cs (if t then set m a b else m) a' l'
    one true g = sym (set_stores cs m a' l' a b (g refl))
    one false g = refl

-- places from the second byte on
later : (n b : ℕ) (bs : List ℕ) (k lanes : ℕ) → lane_values n (byte_at (b ∷ bs)) (k + 1) lanes ≡ lane_values n (byte_at bs) k lanes
later zero b bs k lanes = refl
later (suc n) b bs k lanes = rw (add-one k) (ap ((if enabled lanes then byte_at bs k else 0) ∷◌) (later n b bs (suc k) (lanes / 2)))

-- what a write stored, a read of the same lanes gives back
pub values_back : (bs m : List ℕ) (at lanes : ℕ) → at + length bs ≤ length m →
    lane_values (length bs) (byte_at (stores bs m at lanes)) at lanes ≡ lane_values (length bs) (byte_at bs) 0 lanes
values_back [] m at lanes h = refl
values_back (b ∷ bs) m at lanes h =
    let first : List ℕ = (if enabled lanes then set m at b else m) in
    let all = stores bs first (at + 1) (lanes / 2) in
    let head : byte_at all at ≡ byte_at first at =
    stores_miss bs first (at + 1) (lanes / 2) at (λ c. omega (arith, covers_from (length bs) (at + 1) (lanes / 2) at c)) in
    let tail : lane_values (length bs) (byte_at all) (at + 1) (lanes / 2) ≡ lane_values (length bs) (byte_at (b ∷ bs)) 1 (lanes / 2) =
    values_back bs first (at + 1) (lanes / 2) (room (enabled lanes)) ∙ sym (later (length bs) b bs 0 (lanes / 2)) in
    rw tail (ap (◌∷ lane_values (length bs) (byte_at (b ∷ bs)) 1 (lanes / 2)) (one (enabled lanes) _ head))
  where
    room : (t : Bool) → at + 1 + length bs ≤ length (if t then set m at b else m)
    room true = rw (length-set m at b) (omega arith)
    room false = omega arith

    one : (t : Bool) (x : ℕ) → x ≡ get_or (if t then set m at b else m) at 0 → (if t then x else 0) ≡ (if t then b else 0)
    one true x e = e ∙ get_or-set_same m at b 0 (omega arith)
    one false x e = refl

-- THE SAME OF A DWORD. Two accesses are apart where no byte is of an enabled lane of both.

abbrev pub Apart : (a lanes a' lanes' : ℕ) → Type 0
Apart a l a' l' = (i : ℕ) → Covers 4 a l i → Covers 4 a' l' i → ⊥

pub length_write : (m : List ℕ) (a l v : ℕ) → length (write_dword m a l v) ≡ length m
unfolding write_dword
length_write m a l v = length_stores (bytes_of 4 v) m a l

pub write_misses : (m : List ℕ) (a l v i : ℕ) → (Covers 4 a l i → ⊥) → get_or (write_dword m a l v) i 0 ≡ get_or m i 0
unfolding write_dword
write_misses m a l v i h = stores_miss (bytes_of 4 v) m a l i h

pub read_same : (m m' : List ℕ) (a l : ℕ) → ((i : ℕ) → Covers 4 a l i → get_or m i 0 ≡ get_or m' i 0) → read_dword m a l ≡ read_dword m' a l
unfolding read_dword
read_same m m' a l h = ap dword_of (values_same 4 (byte_at m) (byte_at m') a l h)

pub read_write : (m : List ℕ) (a l v a' l' : ℕ) → Apart a l a' l' → read_dword (write_dword m a l v) a' l' ≡ read_dword m a' l'
read_write m a l v a' l' h = read_same (write_dword m a l v) m a' l' (λ i c. write_misses m a l v i (λ d. h i d c))

pub write_write : (m : List ℕ) (a l v a' l' v' : ℕ) → Apart a l a' l' → write_dword (write_dword m a' l' v') a l v ≡ write_dword (write_dword m a l v) a' l' v'
unfolding write_dword
write_write m a l v a' l' v' h = stores_comm (bytes_of 4 v) (bytes_of 4 v') m a l a' l' h

-- the lanes read back are those of the dword written
pub read_back : (m : List ℕ) (a l v : ℕ) → a + 4 ≤ length m → read_dword (write_dword m a l v) a l ≡ read_dword (bytes_of 4 v) 0 l
unfolding read_dword write_dword
read_back m a l v h = ap dword_of (values_back (bytes_of 4 v) m a l h)

-- "Lanes 15 is done, stores nothing and reads 0."
pub lanes_15_read : (m : List ℕ) (a : ℕ) → read_dword m a 15 ≡ 0
unfolding read_dword
lanes_15_read m a = refl

pub lanes_15_write : (m : List ℕ) (a v : ℕ) → write_dword m a 15 v ≡ m
unfolding write_dword
lanes_15_write m a v = refl
