-- Laws of the line of an access: it is read back, and nothing else is read; field after field, over any list of fields.
use Rattle.std.specs.Prelude.{◌≡◌, refl, false, List, [], ◌∷◌, ◌++◌, ℕ, ◌≤◌, length, take, drop}
use Rattle.std.proofs.Common.{sym, ap, subst, ◌∙◌, append_assoc, append-nil, arith, length-append, take-append-drop}
use Rattle.std.proofs.Math.Seq.{drop-append_seam, take-append_seam}
use Rattle.std.proofs.lemmas.List.{take-append-le}
use Rattle.model.specs.Accesses.{Access, Fits}
use Rattle.model.specs.Trace.{Reading, recorded, refused}
use Rattle.model.specs.Text.{digits_within, decimal_text, field_text, is_digit, spelt, starts_with, Field, FieldReading, number, unreadable, read_field}
use Rattle.model.proofs.TextLaws.{field_stands, field_read, digits_8, digits_32, digits_least}
use Rattle.model.specs.AccessText.{line_fields, numbers_of, access_of_numbers, fields_text, access_line, ◌if_number◌, read_fields, read_line}

-- "Numbers that fit": one for each field, none larger than it holds
abbrev pub Fit : List Field → (numbers : List ℕ) → Type 0
Fit [] [] = Unit {0}
Fit [] (n ∷ ns) = ⊥
Fit (f ∷ fs) [] = ⊥
Fit (f ∷ fs) (n ∷ ns) = (n ≤ f.largest) × Fit fs ns

-- the byte after each number is no digit, and so ends it
abbrev pub Separated : List Field → Type 0
Separated [] = Unit {0}
Separated (f ∷ fs) = (is_digit f.after ≡ false) × Separated fs

-- an access fits exactly where its numbers fit the fields of a line
pub fits_fields : (q : Access) → Fits q → Fit line_fields (numbers_of q)
fits_fields q h = (
  omega (arith, h.kind),
  (omega (arith, h.side), (omega (arith, h.s), (omega (arith, h.a), (omega (arith, h.b), (omega (arith, h.c), tt))))),
)

pub fields_fit : (q : Access) → Fit line_fields (numbers_of q) → Fits q
fields_fit q h = record {
  kind = omega (arith, h.0);
  side = omega (arith, h.1.0);
  s = omega (arith, h.1.1.0);
  a = omega (arith, h.1.1.1.0);
  b = omega (arith, h.1.1.1.1.0);
  c = omega (arith, h.1.1.1.1.1.0);
}

-- READ BACK

fields_back : (fs : List Field) (before ns rest : List ℕ) → Separated fs → Fit fs ns → read_fields fs before (fields_text fs ns ++ rest) ≡ recorded (access_of_numbers (before ++ ns))
fields_back [] before [] rest d h = rw append-nil
fields_back [] before (n ∷ ns) rest d h = absurd h
fields_back (f ∷ fs) before [] rest d h = absurd h
fields_back (f ∷ fs) before (n ∷ ns) rest d h =
    let text : List ℕ = field_text n f.after in
    let later : List ℕ = fields_text fs ns ++ rest in
    let split : fields_text (f ∷ fs) (n ∷ ns) ++ rest ≡ text ++ later = append_assoc text (fields_text fs ns) rest in
    rw (split, field_stands f n later d.0 h.0, drop-append_seam text later)
    (fields_back fs (before ++ (n ∷ [])) ns rest d.1 h.1 ∙ rw append_assoc)

pub line_back : (q : Access) (rest : List ℕ) → Fits q → read_line (access_line q ++ rest) ≡ recorded q
unfolding read_line access_line
line_back q rest h = fields_back line_fields [] (numbers_of q) rest (refl, (refl, (refl, (refl, (refl, (refl, tt)))))) (fits_fields q h)

-- NOTHING ELSE IS READ

-- the numbers that were read fit the fields, and their text stands at the start
pub record Line (fs : List Field) (before text : List ℕ) (q : Access) : Type 0 where
  pub numbers : List ℕ
  pub fit : Fit fs numbers
  pub access : q ≡ access_of_numbers (before ++ numbers)
  pub rest : List ℕ
  pub is : text ≡ fields_text fs numbers ++ rest

fields_read : (fs : List Field) (before text : List ℕ) (q : Access) → read_fields fs before text ≡ recorded q → Line fs before text q
fields_read [] before text q h = record { numbers = []; fit = tt; access = rw append-nil cc; rest = text; is = refl }
fields_read (f ∷ fs) before text q h = by (read_field f text) refl h (λ n. fields_read fs (before ++ (n ∷ [])) (drop (length (field_text n f.after)) text) q)
  where
    after : ℕ → List ℕ
    after n = drop (length (field_text n f.after)) text

    by : (r : FieldReading) → read_field f text ≡ r → (r if_number λ n. read_fields fs (before ++ (n ∷ [])) (after n)) ≡ recorded q →
        ((n : ℕ) → read_fields fs (before ++ (n ∷ [])) (after n) ≡ recorded q → Line fs (before ++ (n ∷ [])) (after n) q) →
        Line (f ∷ fs) before text q
    by (number n) e h i =
        let l = i n h in
        let r = field_read f text e in
        record {
          numbers = n ∷ l.numbers;
          fit = (r.0, l.fit);
          access = l.access ∙ rw append_assoc;
          rest = l.rest;
          is = r.1 ∙ ap (λ (t : List ℕ). field_text n f.after ++ t) l.is ∙ sym (append_assoc (field_text n f.after) (fields_text fs l.numbers) l.rest);
        }
    by unreadable e h i = absurd (let z : ◌≡◌ {A = ℕ} 0 1 = cc in omega arith)

-- numbers that fit the fields are six, those of their access
six : (ns : List ℕ) → Fit line_fields ns → numbers_of (access_of_numbers ns) ≡ ns
six (k ∷ d ∷ s ∷ a ∷ b ∷ c ∷ []) h = refl
six [] h = absurd h
six (k ∷ []) h = absurd h.1
six (k ∷ d ∷ []) h = absurd h.1.1
six (k ∷ d ∷ s ∷ []) h = absurd h.1.1.1
six (k ∷ d ∷ s ∷ a ∷ []) h = absurd h.1.1.1.1
six (k ∷ d ∷ s ∷ a ∷ b ∷ []) h = absurd h.1.1.1.1.1
six (k ∷ d ∷ s ∷ a ∷ b ∷ c ∷ n ∷ ns) h = absurd h.1.1.1.1.1.1

-- what follows the first part of a text
follows : (text s rest : List ℕ) → text ≡ s ++ rest → text ≡ s ++ drop (length s) text
follows text s rest e = rw (e, drop-append_seam s rest)

pub line_read : (q : Access) (text : List ℕ) → read_line text ≡ recorded q → Fits q × (text ≡ access_line q ++ drop (length (access_line q)) text)
unfolding read_line access_line
line_read q text h =
    let l = fields_read line_fields [] text q h in
    let same : l.numbers ≡ numbers_of q = sym (ap numbers_of l.access ∙ six l.numbers l.fit) in
    let is = l.is ∙ ap (λ (ns : List ℕ). fields_text line_fields ns ++ l.rest) same in
    (fields_fit q (subst (Fit line_fields) same l.fit), follows text (access_line q) l.rest is)

-- LENGTHS

-- a line has 12 bytes or more, and 45 or fewer
pub line_length : (q : Access) → Fits q → (12 ≤ length (access_line q)) × (length (access_line q) ≤ 45)
unfolding access_line
line_length q h =
    let k = digits_8 q.kind h.kind in
    let d = digits_8 q.side h.side in
    let s = digits_8 q.s h.s in
    let a = digits_32 q.a h.a in
    let b = digits_32 q.b h.b in
    let c = digits_32 q.c h.c in
    simp length-append
    (omega (arith, digits_least q.kind, digits_least q.side, digits_least q.s, digits_least q.a, digits_least q.b, digits_least q.c), omega arith)

-- WHERE NO LINE STANDS

abbrev pub NoLine : (text : List ℕ) → Type 0
NoLine text = (q : Access) (more : List ℕ) → Fits q → text ≡ access_line q ++ more → ⊥

fields_refused : (fs : List Field) (before text : List ℕ) (n : ℕ) → read_fields fs before text ≡ refused n → n ≡ 25
fields_refused [] before text n h = absurd (let z : ◌≡◌ {A = ℕ} 0 1 = cc in omega arith)
fields_refused (f ∷ fs) before text n h = by (read_field f text) h (λ m. fields_refused fs (before ++ (m ∷ [])) (drop (length (field_text m f.after)) text) n)
  where
    by : (r : FieldReading) → (r if_number λ m. read_fields fs (before ++ (m ∷ [])) (drop (length (field_text m f.after)) text)) ≡ refused n →
        ((m : ℕ) → read_fields fs (before ++ (m ∷ [])) (drop (length (field_text m f.after)) text) ≡ refused n → n ≡ 25) → n ≡ 25
    by (number m) h i = i m h
    by unreadable h i = cc

-- a refusal of the reader is 25, ..
pub line_refused : (text : List ℕ) (n : ℕ) → read_line text ≡ refused n → n ≡ 25
unfolding read_line
line_refused text n h = fields_refused line_fields [] text n h

-- .. given where no line stands, ..
pub refused_no_line : (text : List ℕ) (n : ℕ) → read_line text ≡ refused n → NoLine text
refused_no_line text n e q more h g = let z : recorded q ≡ refused n = sym (line_back q more h) ∙ rw (← g) e in let y : ◌≡◌ {A = ℕ} 0 1 = cc in omega arith

-- .. and only there
pub no_line_refused : (text : List ℕ) → NoLine text → read_line text ≡ refused 25
no_line_refused text h = by (read_line text) refl
  where
    by : (r : Reading) → read_line text ≡ r → r ≡ refused 25
    by (recorded q) e = let l = line_read q text e in absurd (h q (drop (length (access_line q)) text) l.0 l.1)
    by (refused n) e = rw (line_refused text n e)

-- ONLY THE FIRST 45 BYTES ARE READ

-- a line that stands at the start of a text stands in its part that is as long
within : (s t line rest : List ℕ) → length line ≤ length s → s ++ t ≡ line ++ rest → s ≡ line ++ drop (length line) s
within s t line rest h e =
    let same : take (length line) s ≡ line = sym (take-append-le (length line) s t h) ∙ ap (take (length line)) e ∙ take-append_seam line rest in
    sym (take-append-drop (length line) s) ∙ ap (λ (l : List ℕ). l ++ drop (length line) s) same

pub line_first : (s t : List ℕ) → 45 ≤ length s → read_line (s ++ t) ≡ read_line s
line_first s t h = by (read_line s) refl
  where
    rest : Access → List ℕ
    rest q = drop (length (access_line q)) s

    by : (r : Reading) → read_line s ≡ r → read_line (s ++ t) ≡ r
    by (recorded q) e = let l = line_read q s e in rw (l.1, append_assoc (access_line q) (rest q) t) (line_back q (rest q ++ t) l.0)
    by (refused n) e =
        rw (line_refused s n e)
        (no_line_refused (s ++ t) (λ q more f g. refused_no_line s n e q (rest q) f (within s t (access_line q) more (omega (arith, (line_length q f).1)) g)))

-- VECTORS

-- `200 7 255 0 1 4294967295`
access_line_lem : access_line (record { kind = 200; side = 7; s = 255; a = 0; b = 1; c = 4294967295 })
    ≡ 50 ∷ 48 ∷ 48 ∷ 32 ∷ 55 ∷ 32 ∷ 50 ∷ 53 ∷ 53 ∷ 32 ∷ 48 ∷ 32 ∷ 49 ∷ 32 ∷ 52 ∷ 50 ∷ 57 ∷ 52 ∷ 57 ∷ 54 ∷ 55 ∷ 50 ∷ 57 ∷ 53 ∷ 10 ∷ []
unfolding access_line decimal_text digits_within
access_line_lem = refl

-- `0 0 0 0 0 0` with its line feed, without it, and with a leading zero
line_zero : read_line (48 ∷ 32 ∷ 48 ∷ 32 ∷ 48 ∷ 32 ∷ 48 ∷ 32 ∷ 48 ∷ 32 ∷ 48 ∷ 10 ∷ []) ≡ recorded (record { kind = 0; side = 0; s = 0; a = 0; b = 0; c = 0 })
unfolding read_line read_field spelt starts_with decimal_text digits_within
line_zero = refl

line_cut : read_line (48 ∷ 32 ∷ 48 ∷ 32 ∷ 48 ∷ 32 ∷ 48 ∷ 32 ∷ 48 ∷ 32 ∷ 48 ∷ []) ≡ refused 25
unfolding read_line read_field spelt starts_with decimal_text digits_within
line_cut = refl

line_00 : read_line (48 ∷ 48 ∷ 32 ∷ 48 ∷ 32 ∷ 48 ∷ 32 ∷ 48 ∷ 32 ∷ 48 ∷ 32 ∷ 48 ∷ 10 ∷ []) ≡ refused 25
unfolding read_line read_field spelt starts_with decimal_text digits_within
line_00 = refl

-- `256` is no kind
line_256 : read_line (50 ∷ 53 ∷ 54 ∷ 32 ∷ 48 ∷ 32 ∷ 48 ∷ 32 ∷ 48 ∷ 32 ∷ 48 ∷ 32 ∷ 48 ∷ 10 ∷ []) ≡ refused 25
unfolding read_line read_field spelt starts_with decimal_text digits_within
line_256 = refl
