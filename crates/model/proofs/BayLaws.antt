-- Index and label are two names of one place, there and back: by quotients and remainders of four and six.
use Rattle.std.specs.Prelude.{◌≡◌, refl, Bool, true, false, ◌&&◌, [], ◌∷◌, map, ◌↔◌, ℕ, ◌+◌, ◌*◌, ◌/◌, ◌%◌, ◌≤◌, ◌<◌, leb, if◌then◌else◌}
use Rattle.std.proofs.Common.{ap, ◌∙◌, arith, leb-true, le-leb}
use Rattle.std.proofs.lemmas.Bool.{lt-leb}
use Rattle.model.specs.Sides.{host}
use Rattle.model.specs.Bays.{Bay, OnBackplane, index_of, label_of, bay_with_index, bay_with_label, bay_label, at, no_bay, bay_index}
use Rattle.model.specs.Mailboxes.{label_for}
use Rattle.model.proofs.TestLaws.{and_left, and_right}

-- WORKED CASES

-- "Index 0 is still label 1 and index 23 still label 24 .. index 1 is label 7."
pub labels_told : map bay_label (0 ∷ 23 ∷ 1 ∷ []) ≡ 1 ∷ 24 ∷ 7 ∷ []
labels_told = refl

-- label 0 is no bay, and index 0 is one
pub indexes_told : map bay_index (0 ∷ 1 ∷ 7 ∷ 24 ∷ 25 ∷ []) ≡ no_bay ∷ at 0 ∷ at 1 ∷ at 23 ∷ no_bay ∷ []
indexes_told = refl

-- down the first column, and to the last one
pub places_told : map bay_with_index (0 ∷ 1 ∷ 23 ∷ []) ≡ record { row = 0; column = 0 } ∷ record { row = 1; column = 0 } ∷ record { row = 3; column = 5 } ∷ []
places_told = refl

-- X of a host read: byte 0 alone is the index, whatever byte 1 is
pub reads_told : map (λ data16. label_for host (record { hldata = 0; lhdata = data16; lhwritten = true })) (0 ∷ 1 ∷ 23 ∷ 24 ∷ 128 ∷ 279 ∷ []) ≡ 1 ∷ 7 ∷ 24 ∷ 0 ∷ 0 ∷ 24 ∷ []
reads_told = refl

-- PLACES

pub index_on_backplane : (index : ℕ) → index ≤ 23 → OnBackplane (bay_with_index index)
index_on_backplane index h = (omega arith, omega arith)

pub place_of_index : (bay : Bay) → OnBackplane bay → bay_with_index (index_of bay) ≡ bay
place_of_index bay h =
    let row : (bay_with_index (index_of bay)).row ≡ bay.row = omega (arith, h.0) in
    let column : (bay_with_index (index_of bay)).column ≡ bay.column = omega (arith, h.0) in
    rw (row, column)

pub place_of_label : (bay : Bay) → OnBackplane bay → bay_with_label (label_of bay) ≡ bay
place_of_label bay h =
    let row : (bay_with_label (label_of bay)).row ≡ bay.row = omega (arith, h.1) in
    let column : (bay_with_label (label_of bay)).column ≡ bay.column = omega (arith, h.1) in
    rw (row, column)

-- FROM INDEX TO LABEL

pub closed_form : (index : ℕ) → bay_label index ≡ 6 * (index % 4) + index / 4 + 1
closed_form index = refl

pub label_wired : (bay : Bay) → OnBackplane bay → bay_label (index_of bay) ≡ label_of bay
label_wired bay h = ap label_of (place_of_index bay h)

-- row and column of the label are those of the index
pub same_bay : (index : ℕ) → index ≤ 23 → bay_with_label (bay_label index) ≡ bay_with_index index
same_bay index h = place_of_label (bay_with_index index) (index_on_backplane index h)

-- AND BACK

pub found_within : (label : ℕ) → 1 ≤ label → label ≤ 24 → bay_index label ≡ at (index_of (bay_with_label label))
found_within label l h = rw (le-leb 1 label l, le-leb label 24 h)

-- the way back finds an index exactly if it is that of a bay with this label
pub label_belongs : (label index : ℕ) → (bay_index label ≡ at index) ↔ ((index ≤ 23) × (bay_label index ≡ label))
label_belongs label index = (f (leb 1 label && leb label 24) refl, g)
  where
    f : (t : Bool) → (leb 1 label && leb label 24) ≡ t → (if t then at (index_of (bay_with_label label)) else no_bay) ≡ at index → (index ≤ 23) × (bay_label index ≡ label)
    f true e p =
        let l = leb-true 1 label (and_left _ _ e) in
        let h = leb-true label 24 (and_right (leb 1 label) _ e) in
        let q : index_of (bay_with_label label) ≡ index = cc in
        (omega arith, omega arith)
    f false e p = absurd (let z : ◌≡◌ {A = ℕ} 0 1 = cc in omega arith)

    g : (index ≤ 23) × (bay_label index ≡ label) → bay_index label ≡ at index
    g h =
        let i = h.0 in
        let e = h.1 in
        found_within label (omega arith) (omega arith) ∙ ap at (omega arith)

pub index_wired : (bay : Bay) → OnBackplane bay → bay_index (label_of bay) ≡ at (index_of bay)
index_wired bay h = (label_belongs (label_of bay) (index_of bay)).1 (omega (arith, h.0, h.1), label_wired bay h)

-- "each of the 24 labels belongs to exactly one index"
pub exactly_one : (label : ℕ) → 1 ≤ label → label ≤ 24 →
    (index : ℕ) × (index ≤ 23) × (bay_label index ≡ label) × ((other : ℕ) → other ≤ 23 → bay_label other ≡ label → other ≡ index)
exactly_one label l h = (index_of (bay_with_label label), omega arith, omega arith, λ other i e. omega arith)

-- "a label outside 1 to 24 gives none"
pub none_below : (label : ℕ) → label < 1 → bay_index label ≡ no_bay
none_below label h = rw (lt-leb 1 label h)

pub none_above : (label : ℕ) → 24 < label → bay_index label ≡ no_bay
none_above label h = rw (le-leb 1 label (omega arith), lt-leb label 24 h)
