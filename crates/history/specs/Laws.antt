-- A history by a record more, case by case of what it knew; and the answer read back from its places.
use Rattle.std.specs.Prelude.{◌≡◌, refl, ◌⊎◌, Bool, true, false, Ok, List, [], ◌∷◌, ◌++◌, map, ℕ, length}
use Rattle.std.proofs.Common.{sym, ap, ◌∙◌, inl, inr, arith, length-append, lt-ltb, le-ltb}
use Rattle.std.proofs.lemmas.List.{length-map}
use Rattle.std.proofs.Math.Dec.{eqb-suc-zero}
use Rattle.model.specs.Why.{Holding, Reason, because, places, told, same, longer, shorter, emptied, settled_by, Moved, turned, held_by, is_up}
use Rattle.fifos.specs.Bridge.{entries_as}
use Rattle.fifos.specs.Laws.{length_entries}
use Rattle.history.specs.declared.Case.{Case}
use Rattle.history.specs.declared.Case.TheVariants as code
use Rattle.history.specs.declared.History.{History}
use Rattle.history.specs.Bridge.{holdings_from, told_as, turned_case, puts_after, Says, never, cleared, set, holds, Knows, Next}

-- THE CASE

turned_says : {c : Case} {r : Reason} (n : ℕ) (up : Bool) → Says c r → Says (turned_case c n up) (turned n up r)
turned_says n true never = set
turned_says n false never = never
turned_says n true cleared = set
turned_says n false cleared = cleared
turned_says n true set = set
turned_says n false set = cleared
turned_says n true holds = holds
turned_says n false holds = cleared

settled_says : {c : Case} {r : Reason} (n : ℕ) (hs : List Holding) → Says c r → Says (turned_case c n (is_up (settled_by n r hs))) (settled_by n r hs)
settled_says n [] never = never
settled_says n [] cleared = cleared
settled_says n [] set = cleared
settled_says n [] holds = cleared
settled_says n (h ∷ hs) never = holds
settled_says n (h ∷ hs) cleared = holds
settled_says n (h ∷ hs) set = holds
settled_says n (h ∷ hs) holds = holds

says_next : {c : Case} {r r' : Reason} (n : ℕ) (up : Bool) (hs : List Holding) → Says c r → is_up r' ≡ up → (r' ≡ turned n up r) ⊎ (r' ≡ settled_by n r hs) → Says (turned_case c n up) r'
says_next n up hs s b (inl e) = rw e (turned_says n up s)
says_next n up hs s b (inr e) = rw (← b, e) (settled_says n hs s)

-- THE PUTS

abbrev putters : List Holding → List ℕ
putters hs = map (λ h. h.put_by) hs

putters_append : (a b : List Holding) → putters (a ++ b) ≡ putters a ++ putters b
putters_append [] b = refl
putters_append (h ∷ a) b = ap (h.put_by ∷◌) (putters_append a b)

-- none is held
pub puts_none : (n : ℕ) (puts : List ℕ) → puts_after n 0 puts ≡ []
puts_none n puts = rw (le-ltb (length puts) 0 (omega arith))

-- as many as before
puts_same : (n : ℕ) (puts : List ℕ) → puts_after n (length puts) puts ≡ puts
puts_same n [] = refl
puts_same n (p ∷ puts) = let same = le-ltb (length (p ∷ puts)) (length (p ∷ puts)) (omega arith) in rw (same, eqb-suc-zero (length puts))

-- one less
puts_less : (n p : ℕ) (puts : List ℕ) → puts_after n (length puts) (p ∷ puts) ≡ puts
puts_less n p [] = refl
puts_less n p (k ∷ puts) =
    rw (le-ltb (length (p ∷ k ∷ puts)) (length (k ∷ puts)) (omega arith), eqb-suc-zero (length puts), lt-ltb (length (k ∷ puts)) (length (p ∷ k ∷ puts)) (omega arith))

puts_moved : (n held : ℕ) (before after : List Holding) → Moved n before after → length after ≡ held → puts_after n held (putters before) ≡ putters after
puts_moved n held before after same e = let is : held ≡ length (putters before) = sym (length-map before (λ h. h.put_by) ∙ e) in rw is (puts_same n (putters before))
puts_moved n held before after (longer entry) e =
    let more = length-append before (record { entry = entry; put_by = n } ∷ []) in
    rw (lt-ltb (length (putters before)) held (omega (arith, e, more, length-map before (λ h. h.put_by))), putters_append before (record { entry = entry; put_by = n } ∷ []))
puts_moved n held [] after shorter e = rw (← e)
puts_moved n held (h ∷ hs) after shorter e = let is : held ≡ length (putters hs) = sym (length-map hs (λ h. h.put_by) ∙ e) in rw is (puts_less n h.put_by (putters hs))
puts_moved n held before after emptied e = rw (← e) (puts_none n (putters before))

-- A RECORD MORE

pub knows_next : (h h' : History) (n : ℕ) (up : Bool) (held : ℕ) → h'.case ≡ turned_case h.case n up → entries_as h'.puts ≡ puts_after n held (entries_as h.puts) →
    (r r' : Reason) → Knows h r → Next n up held r r' → Knows h' r'
knows_next h h' n up held c p r r' k x = record {
  says = rw c (says_next n up (held_by r') k.says x.bit x.reason);
  puts = p ∙ rw k.puts (puts_moved n held (held_by r) (held_by r') x.moved x.size);
}

-- THE ANSWER

-- entries and records, and what stands behind them, read back
holdings_back : (hs : List Holding) (es rs : List ℕ) → holdings_from (length hs) (map (λ h. h.entry) hs ++ es) (putters hs ++ rs) ≡ hs
unfolding holdings_from
holdings_back [] es rs = refl
holdings_back (h ∷ hs) es rs = ap (h ∷◌) (holdings_back hs es rs)

-- where none is held, the case is the answer; else the entries are
pub told_case : (h : History) (r : Reason) (es rs : List ℕ) → Knows h r → h.puts.count ≡ 0 → es ≡ places (map (λ h. h.entry) (held_by r)) → rs ≡ places (entries_as h.puts) →
    told_as (Ok (record { case = h.case; entries = es; records = rs })) ≡ told (because r)
told_case h r es rs k z e f = by h.case r k.says (sym (ap length k.puts) ∙ length_entries h.puts ∙ z) e (f ∙ ap places k.puts)
  where
    by : (c : Case) (r : Reason) → Says c r → length (putters (held_by r)) ≡ 0 → es ≡ places (map (λ h. h.entry) (held_by r)) → rs ≡ places (putters (held_by r)) →
        told_as (Ok (record { case = c; entries = es; records = rs })) ≡ told (because r)
    by c r never z e f = rw (e, f)
    by c r cleared z e f = rw (e, f)
    by c r set z e f = rw (e, f)
    by c r holds z e f = absurd (omega arith)

pub told_held : (h : History) (r : Reason) (es rs : List ℕ) → Knows h r → (h.puts.count ≡ 0 → ⊥) → es ≡ places (map (λ h. h.entry) (held_by r)) → rs ≡ places (entries_as h.puts) →
    told_as (Ok (record { case = code.Held h.puts.count; entries = es; records = rs })) ≡ told (because r)
told_held h r es rs k z e f = by h.case r k.says h.puts.count z (sym (length_entries h.puts) ∙ ap length k.puts) e (f ∙ ap places k.puts)
  where
    by : (c : Case) (r : Reason) → Says c r → (n : ℕ) → (n ≡ 0 → ⊥) → n ≡ length (putters (held_by r)) → es ≡ places (map (λ h. h.entry) (held_by r)) → rs ≡ places (putters (held_by r)) →
        told_as (Ok (record { case = code.Held n; entries = es; records = rs })) ≡ told (because r)
    by c r never n z l e f = absurd (z l)
    by c r cleared n z l e f = absurd (z l)
    by c r set n z l e f = absurd (z l)
    by c r (holds {h = h} {hs = hs}) n z l e f = rw (e, f, l, length-map (h ∷ hs) (λ h. h.put_by), holdings_back (h ∷ hs) _ _)
