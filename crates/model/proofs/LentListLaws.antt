-- Laws of the lent list: which entries it holds and what stays, and an entry read back from its place, by the three numbers that each has.
use Rattle.std.specs.Prelude.{◌≡◌, refl, Bool, true, false, List, [], ◌∷◌, ◌++◌, ℕ, zero, suc, ◌+◌, ◌-◌, ◌*◌, ◌/◌, ◌≤◌, ◌<◌, length, get_or, take, drop, eqb, ltb, if◌then◌else◌}
use Rattle.std.proofs.Common.{sym, ap, ◌∙◌, append_assoc, add-zero, arith, length-append, length-drop, get_or-drop, length-take-le, lt-ltb, le-ltb, ltb-true, ltb-false, eqb-true}
use Rattle.std.proofs.Math.Seq.{drop-append_seam}
use Rattle.model.proofs.TraceLaws.{members, take_members}
use Rattle.model.specs.Rescue.{Entry, kept, skipped, entries, entry_numbers, numbers_of, found, nothing, entry_of, entry_at, count, refused, rescue}

-- T14.3: WITH ROOM AND WITHOUT

-- "|e| <= m: answer |e|, list = e ++ drop |e| list."
pub rescue_fits : (t list : List ℕ) → length (entries t) ≤ length list / 3 →
    rescue t list ≡ record { answer = count (length (entries t)); list = numbers_of (entries t) ++ drop (3 * length (entries t)) list }
unfolding rescue
rescue_fits t list h = rw (le-ltb (length list / 3) (length (entries t)) h)

-- "Else 60, list = take m e."; the numbers behind the last whole place stay
pub rescue_full : (t list : List ℕ) → length list / 3 < length (entries t) →
    rescue t list ≡ record { answer = refused 60; list = numbers_of (take (length list / 3) (entries t)) ++ drop (3 * (length list / 3)) list }
unfolding rescue
rescue_full t list h = rw (lt-ltb (length list / 3) (length (entries t)) h)

-- THREE NUMBERS AN ENTRY

-- "three numbers an entry (case, place, number or length)"
pub entry_three : (e : Entry) → length (entry_numbers e) ≡ 3
entry_three (kept at number false) = refl
entry_three (kept at number true) = refl
entry_three (skipped at size) = refl

pub numbers_length : (es : List Entry) → length (numbers_of es) ≡ 3 * length es
unfolding numbers_of
numbers_length [] = refl
numbers_length (e ∷ es) = omega (arith, length-append (entry_numbers e) (numbers_of es), entry_three e, numbers_length es)

pub numbers_append : (es fs : List Entry) → numbers_of (es ++ fs) ≡ numbers_of es ++ numbers_of fs
unfolding numbers_of
numbers_append [] fs = refl
numbers_append (e ∷ es) fs = rw (numbers_append es fs, append_assoc)

listed_length : (es : List Entry) (list : List ℕ) → length es ≤ length list / 3 → length (numbers_of es ++ drop (3 * length es) list) ≡ length list
listed_length es list h = omega (arith, length-append (numbers_of es) (drop (3 * length es) list), numbers_length es, length-drop (3 * length es) list)

-- as many numbers as there were, whether all entries fit or not
pub rescue_length : (t list : List ℕ) → length (rescue t list).list ≡ length list
rescue_length t list = by (ltb (length list / 3) (length (entries t))) refl
  where
    by : (full : Bool) → ltb (length list / 3) (length (entries t)) ≡ full → length (rescue t list).list ≡ length list
    by true e =
        let l = ltb-true (length list / 3) (length (entries t)) e in
        let n = length-take-le (length list / 3) (entries t) (omega arith) in
        rw (rescue_full t list l) (rw n at (listed_length (take (length list / 3) (entries t)) list (omega arith)))
    by false e =
        let l = ltb-false (length list / 3) (length (entries t)) e in
        rw (rescue_fits t list l) (listed_length (entries t) list l)

-- AN ENTRY READ BACK

-- by the three numbers that stand at its place: "written and read back by one pair of functions whose round trip is a law"
at_place : (list : List ℕ) (place : ℕ) {case at value : ℕ} {rest : List ℕ} → drop (3 * place) list ≡ case ∷ at ∷ value ∷ rest → entry_at list place ≡ entry_of case at value
unfolding entry_at
at_place list place {case} {at} {value} e =
    let n = 3 * place in
    let long : place < length list / 3 = omega (arith, length-drop n list, ap length e) in
    let first : get_or list n 0 ≡ case = ap (λ (k : ℕ). get_or list k 0) (sym (add-zero n)) ∙ sym (get_or-drop n list 0 0) ∙ ap (λ (l : List ℕ). get_or l 0 0) e in
    let second : get_or list (n + 1) 0 ≡ at = sym (get_or-drop n list 1 0) ∙ ap (λ (l : List ℕ). get_or l 1 0) e in
    let third : get_or list (n + 2) 0 ≡ value = sym (get_or-drop n list 2 0) ∙ ap (λ (l : List ℕ). get_or l 2 0) e in
    rw (lt-ltb place (length list / 3) long, first, second, third)

-- what was written is read back, ..
pub entry_back : (before behind : List Entry) (e : Entry) (rest : List ℕ) → entry_at (numbers_of (before ++ (e ∷ behind)) ++ rest) (length before) ≡ found e
unfolding numbers_of
entry_back before behind e rest = by e (rw (numbers_append before (e ∷ behind), append_assoc, ← numbers_length before) (drop-append_seam (numbers_of before) (numbers_of (e ∷ behind) ++ rest)))
  where
    list : (e : Entry) → List ℕ
    list e = numbers_of (before ++ (e ∷ behind)) ++ rest

    by : (e : Entry) → drop (3 * length before) (list e) ≡ numbers_of (e ∷ behind) ++ rest → entry_at (list e) (length before) ≡ found e
    by (kept at number false) h = at_place _ (length before) h
    by (kept at number true) h = at_place _ (length before) h
    by (skipped at size) h = at_place _ (length before) h

-- .. and what is read was written so
pub entry_written : (list : List ℕ) (place : ℕ) (e : Entry) → entry_at list place ≡ found e → take 3 (drop (3 * place) list) ≡ entry_numbers e
unfolding entry_at members
entry_written list place e h = by (ltb place (length list / 3)) refl h
  where
    case : (c at value : ℕ) (one two three : Bool) → eqb c 1 ≡ one → eqb c 2 ≡ two → eqb c 3 ≡ three →
        (if one then found (kept at value false) else (if two then found (kept at value true) else (if three then found (skipped at value) else nothing))) ≡ found e →
        c ∷ at ∷ value ∷ [] ≡ entry_numbers e
    case c at value true two three i j k h = let same : kept at value false ≡ e = cc in rw (← same, eqb-true c 1 i)
    case c at value false true three i j k h = let same : kept at value true ≡ e = cc in rw (← same, eqb-true c 2 j)
    case c at value false false true i j k h = let same : skipped at value ≡ e = cc in rw (← same, eqb-true c 3 k)
    case c at value false false false i j k h = absurd (let z : ◌≡◌ {A = ℕ} 0 1 = cc in omega arith)

    by : (there : Bool) → ltb place (length list / 3) ≡ there →
        (if there then entry_of (get_or list (3 * place) 0) (get_or list (3 * place + 1) 0) (get_or list (3 * place + 2) 0) else nothing) ≡ found e → take 3 (drop (3 * place) list) ≡ entry_numbers e
    by false t h = absurd (let z : ◌≡◌ {A = ℕ} 0 1 = cc in omega arith)
    by true t h =
        let l = ltb-true place (length list / 3) t in
        let one : 3 * place + 1 ≡ suc (3 * place) = omega arith in
        let two : 3 * place + 2 ≡ suc (suc (3 * place)) = omega arith in
        take_members 3 (3 * place) list (omega arith) ∙ case (get_or list (3 * place) 0) (get_or list (suc (3 * place)) 0) (get_or list (suc (suc (3 * place))) 0) _ _ _ refl refl refl (rw (one, two) at h)

take_past : (n : ℕ) (before behind : List Entry) (e : Entry) → length before < n → take n (before ++ (e ∷ behind)) ≡ before ++ (e ∷ take (n - length before - 1) behind)
take_past zero before behind e h = absurd (omega arith)
take_past (suc n) [] behind e h = let z : suc n - 0 - 1 ≡ n = omega arith in rw z
take_past (suc n) (x ∷ before) behind e h =
    let z : suc n - suc (length before) - 1 ≡ n - length before - 1 = omega arith in
    rw (z, take_past n before behind e (omega arith))

-- "entries already listed stand": with room or without, every entry that has a place is read back there
pub rescue_entry : (t list : List ℕ) (before behind : List Entry) (e : Entry) → entries t ≡ before ++ (e ∷ behind) → length before < length list / 3 →
    entry_at (rescue t list).list (length before) ≡ found e
rescue_entry t list before behind e is h = by (ltb (length list / 3) (length (entries t))) refl
  where
    by : (full : Bool) → ltb (length list / 3) (length (entries t)) ≡ full → entry_at (rescue t list).list (length before) ≡ found e
    by true g =
        rw (rescue_full t list (ltb-true (length list / 3) (length (entries t)) g), is, take_past (length list / 3) before behind e h)
        (entry_back before (take (length list / 3 - length before - 1) behind) e (drop (3 * (length list / 3)) list))
    by false g =
        rw (rescue_fits t list (ltb-false (length list / 3) (length (entries t)) g), is)
        (entry_back before behind e (drop (3 * length (before ++ (e ∷ behind))) list))
