-- What a reason says is held (L7): the last of the accepted puts. One access: what was held and what it puts are something, and then what is held.
use Rattle.std.specs.Prelude.{◌≡◌, refl, ◌≢◌, Bool, true, false, not, ◌&&◌, ℕ, suc, ◌+◌, ◌≤◌, ◌<◌, length, get_or, take, drop, eqb, if◌then◌else◌}
use Rattle.std.proofs.Common.{ap, sym, ◌∙◌, arith, length-append, length-drop, take-append-drop, drop_at, eqb-true}
use mathlib.Core.List.{List, [], ◌∷◌, ◌++◌, map, map-append, map-eq-nil_iff, append_assoc, append-nil, append_cancel_left}
use Rattle.std.proofs.lemmas.List.{length-map}
use Rattle.std.proofs.lemmas.Bool.{eqb-false, not-true}
use Rattle.model.specs.Sides.{Side, host, local}
use Rattle.model.specs.Fifos.{entries_of}
use Rattle.model.specs.State.{World}
use Rattle.model.specs.Runs.{Entry, run, entry_at}
use Rattle.model.specs.Accesses.{Access, Answer, Kind, number_of, fit, access}
use Rattle.model.proofs.TestLaws.{all_imply, and_left, and_right, if_case}
use Rattle.model.specs.Choice.{All}
use Rattle.model.proofs.Soundness.{stays_fit}
use Rattle.model.proofs.FifoRuns.{is_done, succeeds, taken_out, done_of, four_fifos, one_accounted, reset_empties, first_of}
use Rattle.model.specs.Why.{Holding, Reason, follows, noted_all, changes_by, history, same, longer, shorter, emptied, settled_by, Moved, held_by}
use Rattle.model.proofs.ReasonLaws.{Live, live_step}

-- the accepted puts (kind 6) to a FIFO, each with its number; `n` others stand in front
abbrev pub puts_of : (fifo n : ℕ) → List (Entry Access Answer) → List Holding
puts_of i n [] = []
puts_of i n (e ∷ es) = if succeeds (number_of Kind.put) i e then record { entry = e.access.b; put_by = n } ∷ puts_of i (suc n) es else puts_of i (suc n) es

abbrev entries_in : List Holding → List ℕ
entries_in hs = map (λ h. h.entry) hs

-- ONE ACCESS

-- an entry more
grown : (n b : ℕ) (hs hs' : List Holding) → Moved n hs hs' → entries_in hs ++ (b ∷ []) ≡ entries_in hs' → hs' ≡ hs ++ (record { entry = b; put_by = n } ∷ [])
grown n b hs hs' m e = by m e
  where
    lengths : (hs' : List Holding) → entries_in hs ++ (b ∷ []) ≡ entries_in hs' → length hs + 1 ≡ length hs'
    lengths hs' e =
        let l = ap length e in
        let a = length-append (entries_in hs) (b ∷ []) in
        let c = length-map hs (λ h. h.entry) in
        let d = length-map hs' (λ h. h.entry) in
        omega arith

    by : {hs' : List Holding} → Moved n hs hs' → entries_in hs ++ (b ∷ []) ≡ entries_in hs' → hs' ≡ hs ++ (record { entry = b; put_by = n } ∷ [])
    by same e = absurd (let l = lengths hs e in omega arith)
    by (longer entry) e =
        let one : (b ∷ []) ≡ (entry ∷ []) = append_cancel_left (entries_in hs) (b ∷ []) (entry ∷ []) (e ∙ map-append (λ h. h.entry) hs (record { entry = entry; put_by = n } ∷ [])) in
        let z : entry ≡ b = cc in
        rw z
    by shorter e = absurd (let l = lengths (drop 1 hs) e in omega (arith, length-drop 1 hs))
    by emptied e = absurd (let l = lengths [] e in omega arith)

-- none more
kept : (n : ℕ) (hs hs' : List Holding) → Moved n hs hs' → length hs' ≤ length hs → (gone : List Holding) × (hs ++ [] ≡ gone ++ hs')
kept n hs hs' m l = by m l
  where
    by : {hs' : List Holding} → Moved n hs hs' → length hs' ≤ length hs → (gone : List Holding) × (hs ++ [] ≡ gone ++ hs')
    by same l = ([], append-nil hs)
    by (longer entry) l = absurd (omega (arith, length-append hs (record { entry = entry; put_by = n } ∷ [])))
    by shorter l = (take 1 hs, append-nil hs ∙ sym (take-append-drop 1 hs))
    by emptied l = (hs, refl)

no_longer : (hs hs' : List Holding) (before out after : List ℕ) → entries_in hs ≡ before → entries_in hs' ≡ after → before ++ [] ≡ out ++ after → length hs' ≤ length hs
no_longer hs hs' before out after a b e =
    let l = ap length e in
    let c = ap length a in
    let d = ap length b in
    omega (arith, length-append before [], length-append out after, length-map hs (λ h. h.entry), length-map hs' (λ h. h.entry))

module _ (side : Side) (p i n : ℕ) (w : World) (q : Access) (r : Reason) (f : follows p i ≡ true) (four : length w.card.fifos ≡ 4) (h : Live i w.card r) where
  abbrev after : Reason
  after = noted_all side p n (changes_by w q) r

  abbrev e : Entry Access Answer
  e = entry_at access w q

  abbrev Brings : Type 0
  Brings = (gone : List Holding) × (held_by r ++ puts_of i n (e ∷ []) ≡ gone ++ held_by after)

  put_done : succeeds (number_of Kind.put) i e ≡ true → is_done (number_of Kind.put) e ≡ true
  put_done d = and_left _ _ (and_left _ _ d)

  reset_brings : is_done (number_of Kind.reset) e ≡ true → succeeds (number_of Kind.put) i e ≡ false → Brings
  reset_brings c d =
      let told = (live_step side p i n w q r f four h).2.entries in
      let none : held_by after ≡ [] = (map-eq-nil_iff (λ (h : Holding). h.entry)).0 (told ∙ reset_empties w q i c) in
      (held_by r, rw (d, none))

  put_brings : is_done (number_of Kind.reset) e ≡ false → succeeds (number_of Kind.put) i e ≡ true → Brings
  put_brings c d =
      let step = live_step side p i n w q r f four h in
      let k = (done_of w q (number_of Kind.put) (put_done d)).1 in
      let other : succeeds (number_of Kind.take) i e ≡ false = rw (and_left (eqb (access w q).answer.number 0) _ (put_done d), k) in
      let account : entries_of w.card.fifos i ++ (q.b ∷ []) ≡ entries_of (access w q).world.card.fifos i = rw (d, other) at (one_accounted w q i c) in
      ([], rw d (sym (grown n q.b (held_by r) (held_by after) step.0 (ap (◌++ (q.b ∷ [])) h.entries ∙ account ∙ sym step.2.entries))))

  none_brings : is_done (number_of Kind.reset) e ≡ false → succeeds (number_of Kind.put) i e ≡ false → Brings
  none_brings c d =
      let step = live_step side p i n w q r f four h in
      let account : entries_of w.card.fifos i ++ [] ≡ taken_out i (e ∷ []) ++ entries_of (access w q).world.card.fifos i = rw d at (one_accounted w q i c) in
      rw d (kept n (held_by r) (held_by after) step.0 (no_longer (held_by r) (held_by after) _ (taken_out i (e ∷ [])) _ h.entries step.2.entries account))

  brings : Brings
  brings = by (is_done (number_of Kind.reset) e) (succeeds (number_of Kind.put) i e) refl refl
    where
      by : (a b : Bool) → is_done (number_of Kind.reset) e ≡ a → succeeds (number_of Kind.put) i e ≡ b → Brings
      by true true c d = absurd (let k = (done_of w q (number_of Kind.reset) c).1 in let l = (done_of w q (number_of Kind.put) (put_done d)).1 in omega arith)
      by true false c d = reset_brings c d
      by false true c d = put_brings c d
      by false false c d = none_brings c d

-- A LIST OF ACCESSES

-- What was held and every accepted put of the list are something, and then what is held at the end.
pub held_puts : (side : Side) (p i : ℕ) → follows p i ≡ true → (n : ℕ) (r : Reason) (w : World) (qs : List Access) → fit w ≡ true → Live i w.card r →
    (gone : List Holding) × (held_by r ++ puts_of i n (run access w qs).entries ≡ gone ++ held_by (history side p n r w qs))
unfolding history
held_puts side p i f n r w [] g h = ([], append-nil (held_by r))
held_puts side p i f n r w (q ∷ qs) g h =
    let four = four_fifos w g in
    let r' = noted_all side p n (changes_by w q) r in
    let w' = (access w q).world in
    let e = entry_at access w q in
    let rest = (run access w' qs).entries in
    let one = brings side p i n w q r f four h in
    let more = held_puts side p i f (suc n) r' w' qs (stays_fit w q g) (live_step side p i n w q r f four h).2 in
    let split : puts_of i n (e ∷ rest) ≡ puts_of i n (e ∷ []) ++ puts_of i (suc n) rest = first_of (succeeds (number_of Kind.put) i e) (record { entry = q.b; put_by = n }) (puts_of i (suc n) rest) in (
      one.0 ++ more.0,
      ap (held_by r ++◌) split
          ∙ sym (append_assoc (held_by r) (puts_of i n (e ∷ [])) (puts_of i (suc n) rest))
          ∙ ap (◌++ puts_of i (suc n) rest) one.1
          ∙ append_assoc one.0 (held_by r') (puts_of i (suc n) rest)
          ∙ ap (one.0 ++◌) more.1
          ∙ sym (append_assoc one.0 more.0 (held_by (history side p (suc n) r' w' qs))),
    )

-- WHAT ACCEPTED PUTS ARE

-- strictly rising numbers, from `k` on
abbrev pub Rising : (k : ℕ) → List Holding → Type 0
Rising k [] = Unit {0}
Rising k (h ∷ hs) = (k ≤ h.put_by) × Rising (suc h.put_by) hs

rising_from : (k l : ℕ) (hs : List Holding) → k ≤ l → Rising l hs → Rising k hs
rising_from k l [] b h = tt
rising_from k l (x ∷ hs) b h = (let c = h.0 in omega arith, h.1)

pub rising_behind : (k : ℕ) (hs gs : List Holding) → Rising k (hs ++ gs) → Rising k gs
rising_behind k [] gs h = h
rising_behind k (x ∷ hs) gs h = rising_from k (suc x.put_by) gs (let c = h.0 in omega arith) (rising_behind (suc x.put_by) hs gs h.1)

pub puts_rising : (i n : ℕ) (es : List (Entry Access Answer)) → Rising n (puts_of i n es)
puts_rising i n [] = tt
puts_rising i n (e ∷ es) =
    if_case (Rising n) (succeeds (number_of Kind.put) i e) _ _
    (λ _. (omega arith, puts_rising i (suc n) es))
    (λ _. rising_from n (suc n) (puts_of i (suc n) es) (omega arith) (puts_rising i (suc n) es))

-- "a done put with X not 0 to that FIFO with B = entry"
pub record AcceptedPut (i entry : ℕ) (w : World) (q : Access) : Type 0 where
  pub done : (access w q).answer.number ≡ 0
  pub kind : q.kind ≡ number_of Kind.put
  pub accepted : (access w q).answer.x ≢ 0
  pub fifo : q.s ≡ i
  pub b : q.b ≡ entry

put_accepted : (i : ℕ) (w : World) (q : Access) → succeeds (number_of Kind.put) i (entry_at access w q) ≡ true → AcceptedPut i q.b w q
put_accepted i w q h =
    let some = not (eqb (access w q).answer.x 0) in
    let kind = eqb q.kind (number_of Kind.put) in
    let d = and_left _ _ (and_left _ _ h) in
    record {
      done = eqb-true _ 0 (and_left _ kind d);
      kind = (done_of w q (number_of Kind.put) d).1;
      accepted = eqb-false _ 0 (not-true _ (and_right (eqb (access w q).answer.number 0 && kind) some (and_left _ _ h)));
      fifo = eqb-true q.s i (and_right (eqb (access w q).answer.number 0 && kind && some) _ h);
      b = refl;
    }

-- each is the put that its number names; `n` accesses stand in front of the list
abbrev pub PutAt : (i n : ℕ) → World → List Access → (none : Access) → Holding → Type 0
PutAt i n w qs none h = (j : ℕ) × (h.put_by ≡ n + j) × (j < length qs) × AcceptedPut i h.entry (run access w (take j qs)).world (get_or qs j none)

pub puts_made : (i n : ℕ) (w : World) (qs : List Access) (none : Access) → All (PutAt i n w qs none) (puts_of i n (run access w qs).entries)
puts_made i n w [] none = tt
puts_made i n w (q ∷ qs) none =
    let rest = puts_of i (suc n) (run access (access w q).world qs).entries in
    let more : All (PutAt i n w (q ∷ qs) none) rest =
    all_imply (PutAt i (suc n) (access w q).world qs none) (PutAt i n w (q ∷ qs) none)
    (λ h x. (suc x.0, (let e = x.1 in omega arith), (let l = x.2 in omega arith), x.3)) rest (puts_made i (suc n) (access w q).world qs none) in
    if_case (All (PutAt i n w (q ∷ qs) none)) (succeeds (number_of Kind.put) i (entry_at access w q)) _ _
    (λ s. ((0, omega arith, omega arith, put_accepted i w q s), more)) (λ _. more)

-- BOTH SIDES

same_end : (a b c d : List Holding) → a ++ b ≡ c ++ d → length b ≡ length d → b ≡ d
same_end a b c d e l =
    let k = ap length e in
    sym (drop_at a b (length a) refl) ∙ ap (drop (length a)) e ∙ drop_at c d (length a) (omega (arith, length-append a b, length-append c d))

-- "6, 7 on both sides": one access
one_side : (p i n : ℕ) (w : World) (q : Access) (r : Reason) → follows p i ≡ true → length w.card.fifos ≡ 4 → Live i w.card r →
    noted_all host p n (changes_by w q) r ≡ noted_all local p n (changes_by w q) r
one_side p i n w q r f four h =
    let a = live_step host p i n w q r f four h in
    let b = live_step local p i n w q r f four h in
    let x = brings host p i n w q r f four h in
    let y = brings local p i n w q r f four h in
    let c = ap length a.2.entries in
    let d = ap length b.2.entries in
    let same = same_end x.0 (held_by (noted_all host p n (changes_by w q) r)) y.0 (held_by (noted_all local p n (changes_by w q) r)) (sym x.1 ∙ y.1)
    (omega (arith, length-map (held_by (noted_all host p n (changes_by w q) r)) (λ h. h.entry), length-map (held_by (noted_all local p n (changes_by w q) r)) (λ h. h.entry))) in
    a.1 ∙ ap (settled_by n r) same ∙ sym b.1

pub one_for_both : (p i : ℕ) → follows p i ≡ true → (n : ℕ) (r : Reason) (w : World) (qs : List Access) → fit w ≡ true → Live i w.card r →
    history host p n r w qs ≡ history local p n r w qs
unfolding history
one_for_both p i f n r w [] g h = refl
one_for_both p i f n r w (q ∷ qs) g h =
    let four = four_fifos w g in
    one_for_both p i f (suc n) (noted_all host p n (changes_by w q) r) (access w q).world qs (stays_fit w q g) (live_step host p i n w q r f four h).2
    ∙ ap (λ r. history local p (suc n) r (access w q).world qs) (one_side p i n w q r f four h)
