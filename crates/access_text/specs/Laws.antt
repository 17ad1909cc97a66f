-- How long half a line is; and a line read field by field, from one place to the next.
use Rattle.std.specs.Prelude.{◌≡◌, Option, Some, None, Ok, Err, ok_or, ℕ, ◌+◌, ◌^◌, ◌<◌, ◌≤◌, length, drop}
use Rattle.std.proofs.Math.Path.{sym}
use Rattle.std.proofs.Common.{◌∙◌, arith, drop-drop}
use mathlib.Core.List.{List, [], ◌∷◌, ◌++◌, append_assoc, append-nil}
use Rattle.std.proofs.Math.ListN.{length-append}
use Rattle.model.specs.Accesses.{Access}
use Rattle.model.specs.Trace.{recorded, refused}
use Rattle.model.specs.Text.{decimal_text, field_text, Field}
use Rattle.model.proofs.TextLaws.{digits_8, digits_32}
use Rattle.model.specs.AccessText.{access_of_numbers, access_line, read_fields, read_line}
use Rattle.decimal.specs.declared.Field as decimal
use Rattle.decimal.specs.Bridge.{ReadAt}
use Rattle.access.specs.declared.Refusal.{Refusal}
use Rattle.access.specs.declared.Refusal.TheVariants.{NoLine}
use Rattle.access_text.specs.declared.Three.{Three}
use Rattle.access_text.specs.Bridge.{three_text, three_fields, Read, Unread, ThreeAt}

module _ {text : List ℕ} {at : ℕ} {f : Field} (fs : List Field) (ns : List ℕ) where
  -- a field more
  pub field_more : (r : decimal.Field) → ReadAt text at f (Some r) → read_fields (f ∷ fs) ns (drop at text) ≡ read_fields fs (ns ++ (r.number ∷ [])) (drop r.next text)
  field_more r a = rw (← a.read, drop-drop (length (field_text r.number f.after)) at text, ← a.behind.place)

  -- none
  pub field_none : ReadAt text at f None → read_fields (f ∷ fs) ns (drop at text) ≡ refused 25
  field_none a = rw (← a.read)

-- HALF A LINE

pub three_length : (x y z last : ℕ) → length (three_text x y z last) ≡ length (decimal_text x) + length (decimal_text y) + length (decimal_text z) + 3
three_length x y z last = simp length-append (omega arith)

-- three bytes, and three dwords, with the byte after each
pub bytes_room : (x y z last : ℕ) → x < 2 ^ 8 → y < 2 ^ 8 → z < 2 ^ 8 → length (three_text x y z last) ≤ 12
bytes_room x y z last f g h = omega (arith, three_length x y z last, digits_8 x f, digits_8 y g, digits_8 z h)

pub dwords_room : (x y z last : ℕ) → x < 2 ^ 32 → y < 2 ^ 32 → z < 2 ^ 32 → length (three_text x y z last) ≤ 33
dwords_room x y z last f g h = omega (arith, three_length x y z last, digits_32 x f, digits_32 y g, digits_32 z h)

-- two halves are a line
pub halves : (q : Access) → three_text q.kind q.side q.s 32 ++ three_text q.a q.b q.c 10 ≡ access_line q
unfolding access_line
halves q = simp (append_assoc, append-nil)

-- A LINE

module _ (text : List ℕ) where
  pub line_read : {kind side s a b c p end : ℕ} → Read text 0 255 32 kind side s p → Read text p 4294967295 10 a b c end →
      (recorded (access_of_numbers (kind ∷ side ∷ s ∷ a ∷ b ∷ c ∷ [])) ≡ read_line text) × (end ≡ length (access_line (access_of_numbers (kind ∷ side ∷ s ∷ a ∷ b ∷ c ∷ []))))
  unfolding read_line access_line
  line_read {kind} {side} {s} {a} {b} {c} f g = (
    sym (f.line (three_fields 4294967295 10 []) [] ∙ g.line [] (kind ∷ side ∷ s ∷ [])),
    simp length-append (omega (arith, simp length-append at f.place, simp length-append at g.place)),
  )

  pub line_none_first : Unread text 0 255 32 → refused 25 ≡ read_line text
  unfolding read_line
  line_none_first f = sym (f (three_fields 4294967295 10 []) [])

  pub line_none_second : {kind side s p : ℕ} → Read text 0 255 32 kind side s p → Unread text p 4294967295 10 → refused 25 ≡ read_line text
  unfolding read_line
  line_none_second {kind} {side} {s} f g = sym (f.line (three_fields 4294967295 10 []) [] ∙ g [] (kind ∷ side ∷ s ∷ []))

-- three numbers or the refusal: what is known where it is the numbers, and where it is the refusal
module _ (text : List ℕ) (at largest last : ℕ) (r : Option Three) (a : ThreeAt text at largest last r) where
  pub when_read : (x : Three) → Ok x ≡ ok_or r NoLine → Read text at largest last x.x x.y x.z x.next
  when_read x e = by r a e
    where
      by : (r : Option Three) → ThreeAt text at largest last r → Ok x ≡ ok_or r NoLine → Read text at largest last x.x x.y x.z x.next
      by (Some y) b e = let same : y ≡ x = cc in rw same at b
      by None b e = cc

  pub when_none : (n : Refusal) → Err n ≡ ok_or r NoLine → Unread text at largest last × (n ≡ NoLine)
  when_none n e = by r a e
    where
      by : (r : Option Three) → ThreeAt text at largest last r → Err n ≡ ok_or r NoLine → Unread text at largest last × (n ≡ NoLine)
      by (Some y) b e = cc
      by None b e = (b, cc)
