-- Document 01, "FIFOs and flags": "Entries come out once each, in order. Accepted puts since the last reset equal successful takes plus entries held."
-- Document 02, L2: the answers tell the depth.
-- One access: what a FIFO held and what is put into it are what is taken out of it and what it holds then. Along a list this adds up.
use Rattle.std.specs.Prelude.{◌≡◌, refl, ◌≢◌, Bool, true, false, not, ◌&&◌, List, [], ◌∷◌, ◌++◌, ℕ, zero, suc, ◌+◌, ◌-◌, ◌/◌, ◌%◌, ◌<◌, ◌≤◌, length, get_or, set, drop, replicate, eqb, ltb, if◌then◌else◌}
use Rattle.std.proofs.Common.{ap, sym, subst, ◌∙◌, append_assoc, append-nil, arith, length-append, get_or-set_same, get_or-set_other, eqb-true, ltb-true, ltb-false}
use Rattle.std.proofs.Math.Dec.{eqb-suc-zero}
use Rattle.std.proofs.lemmas.Bool.{eqb-false}
use Rattle.model.specs.Choice.{every}
use Rattle.model.specs.Checks.{refusal, above}
use Rattle.model.specs.Sides.{side_of, other}
use Rattle.model.specs.Events.{bit}
use Rattle.model.specs.Settings.{Settings, settings_pass, in_abort_range, outside_window}
use Rattle.model.specs.Fifos.{entries_of}
use Rattle.model.specs.Arbitration.{pair_of, flag}
use Rattle.model.specs.Transfer.{Transfer, idle, running, pci_of}
use Rattle.model.specs.State.{State, World, NewCard, fresh_card, fresh_world}
use Rattle.model.specs.Changes.{Change, mail_is, apply_all, Effect, world_after}
use Rattle.model.specs.FifosAndFlags.{taken_from, put_into}
use Rattle.model.specs.Steps.{stepped}
use Rattle.model.specs.Runs.{Entry, run, entry_at}
use Rattle.model.specs.Accesses.{Access, Answer, Kind, kind_of, row_of, fit, checks, settled, access, number_of}
use Rattle.model.proofs.TestLaws.{and_left, and_right, or_left, if_case}
use Rattle.model.proofs.CheckLaws.{Pass}
use Rattle.model.proofs.KindLaws.{number_at}
use Rattle.model.proofs.Refusals.{number_is, checks_passed, done_is, refused_is}
use Rattle.model.proofs.Soundness.{sound_parts_lem, fit_parts, done_fit, fifo_sound_lem}

-- WHAT IS SAID

-- an access of this kind, done
abbrev pub is_done : (kind : ℕ) → Entry Access Answer → Bool
is_done k e = eqb e.answer.number 0 && eqb e.access.kind k

-- the same at this FIFO, with X not 0: an accepted put, a successful take
abbrev pub succeeds : (kind fifo : ℕ) → Entry Access Answer → Bool
succeeds k i e = is_done k e && not (eqb e.answer.x 0) && eqb e.access.s i

-- no done reset (kind 0) is among them
abbrev pub no_reset : List (Entry Access Answer) → Bool
no_reset es = every (λ e. not (is_done (number_of Kind.reset) e)) es

-- "since the last reset": the entries behind the last done reset, and all of them if there is none
abbrev pub since_reset : List (Entry Access Answer) → List (Entry Access Answer)
since_reset [] = []
since_reset (e ∷ es) = if no_reset (e ∷ es) then e ∷ es else since_reset es

-- what accepted puts (kind 6) brought into a FIFO, in order: their B
abbrev pub accepted : (fifo : ℕ) → List (Entry Access Answer) → List ℕ
accepted i [] = []
accepted i (e ∷ es) = if succeeds (number_of Kind.put) i e then e.access.b ∷ accepted i es else accepted i es

-- what successful takes (kind 5) got out of it, in order: their V
abbrev pub taken_out : (fifo : ℕ) → List (Entry Access Answer) → List ℕ
taken_out i [] = []
taken_out i (e ∷ es) = if succeeds (number_of Kind.take) i e then e.answer.v ∷ taken_out i es else taken_out i es

-- the depth of a FIFO behind a list: accepted puts less successful takes since the last reset
abbrev pub depth : (fifo : ℕ) → List (Entry Access Answer) → ℕ
depth i es = length (accepted i (since_reset es)) - length (taken_out i (since_reset es))

-- What an answer tells of the depth of its FIFO, `before` the access and `after` it.
-- "V of a put is the number of entries held after it, 1 to 32; a lost put answers V 32, X 0": it is lost where 32 are held, and else X is 1.
abbrev pub PutTells : (before after : ℕ) → Answer → Type 0
PutTells before after r = (r.v ≡ after) × (0 < r.v) × (r.v ≤ 32) × (r.x ≡ (if ltb before 32 then 1 else 0))

-- "A take answers in X the entries held before it, so X 0 still means empty and X 1 means that was the last." (Here 0 - 1 is 0.)
abbrev pub TakeTells : (before after : ℕ) → Answer → Type 0
TakeTells before after r = (r.x ≡ before) × (r.x - 1 ≡ after)

-- ONE ACCESS

-- a done access of a kind
pub done_of : (w : World) (q : Access) (k : ℕ) → is_done k (entry_at access w q) ≡ true → (refusal (checks w q) ≡ 0) × (q.kind ≡ k)
done_of w q k h = (sym (number_is w q) ∙ eqb-true _ 0 (and_left _ _ h), eqb-true q.kind k (and_right (eqb (access w q).answer.number 0) _ h))

pub four_fifos : (w : World) → fit w ≡ true → length w.card.fifos ≡ 4
four_fifos w h = eqb-true _ 4 (and_left _ _ (sound_parts_lem w.card (fit_parts w h).sound).fifos)

-- a done take or put names one of the four
one_of_four : (w : World) (q : Access) (n : ℕ) → refusal (checks w q) ≡ 0 → q.kind ≡ n → (Pass (row_of (kind_of n) w q).checks → above 3 q.s ≡ false) → q.s < length w.card.fifos
one_of_four w q n h k check =
    let four = four_fifos w (done_fit w q h) in
    omega (arith, four, ltb-false 3 q.s (check (subst (λ n. Pass (row_of (kind_of n) w q).checks) k (checks_passed w q h).1.1)))

-- In any world a done put and a done take tell the entries held.
pub put_tells : (w : World) (q : Access) → is_done (number_of Kind.put) (entry_at access w q) ≡ true →
    PutTells (length (entries_of w.card.fifos q.s)) (length (entries_of (access w q).world.card.fifos q.s)) (access w q).answer
put_tells w q h =
    let d = done_of w q (number_of Kind.put) h in
    let fs = w.card.fifos in
    let held = entries_of fs q.s in
    let room = one_of_four w q (number_of Kind.put) d.0 d.1 (λ c. c.1.0) in
    let most = fifo_sound_lem fs q.s (sound_parts_lem w.card (fit_parts w (done_fit w q d.0)).sound).fifos in
    rw (done_is w q d.0, d.1)
    (if_case (λ (f : Effect). PutTells (length held) (length (entries_of (world_after f w).card.fifos q.s)) (settled 0 f w).answer) (ltb (length held) 32) _ _
    (λ k. (rw (get_or-set_same fs q.s (held ++ (q.b ∷ [])) [] room, length-append), omega arith, omega (arith, ltb-true (length held) 32 k), rw k))
    (λ k. (omega (arith, most, ltb-false (length held) 32 k), omega arith, omega arith, rw k)))

pub take_tells : (w : World) (q : Access) → is_done (number_of Kind.take) (entry_at access w q) ≡ true →
    TakeTells (length (entries_of w.card.fifos q.s)) (length (entries_of (access w q).world.card.fifos q.s)) (access w q).answer
take_tells w q h =
    let d = done_of w q (number_of Kind.take) h in
    rw (done_is w q d.0, d.1) (by (entries_of w.card.fifos q.s) refl (one_of_four w q (number_of Kind.take) d.0 d.1 (λ c. c.1.0)))
  where
    by : (entries : List ℕ) → entries_of w.card.fifos q.s ≡ entries → q.s < length w.card.fifos →
        let f = taken_from q.s entries in
        TakeTells (length entries) (length (entries_of (world_after f w).card.fifos q.s)) (settled 0 f w).answer
    by [] e room = (refl, rw e)
    by (oldest ∷ rest) e room = (refl, rw (get_or-set_same w.card.fifos q.s (drop 1 (entries_of w.card.fifos q.s)) [] room, e) (omega arith))

abbrev Keeps : State → List Change → Type 0
Keeps s cs = (apply_all cs s).fifos ≡ s.fifos

step_keeps : (w : World) (d : Transfer) (s : State) → Keeps s (stepped w d).changes
step_keeps w idle s = refl
step_keeps w (running t i) s =
    let P : Effect → Type 0 = λ e. Keeps s e.changes in
    if_case P (in_abort_range w.card.settings (pci_of t i)) _ _ (λ _. refl)
    (λ _. if_case P (outside_window w.card.settings (pci_of t i) 4) _ _ (λ _. refl)
    (λ _. if_case P (eqb (suc i) (t.size / 4)) _ _ (λ _. refl) (λ _. refl)))

-- an access of a kind other than reset, take and put keeps every FIFO
other_keeps : (k : Kind) → number_of k ≢ number_of Kind.reset → number_of k ≢ number_of Kind.take → number_of k ≢ number_of Kind.put → (w : World) (q : Access) → Keeps w.card (row_of k w q).effect.changes
other_keeps Kind.reset r t p w q = absurd (r refl)
other_keeps Kind.shared_read r t p w q = refl
other_keeps Kind.shared_write r t p w q = refl
other_keeps Kind.window_read r t p w q = refl
other_keeps Kind.window_write r t p w q = refl
other_keeps Kind.take r t p w q = absurd (t refl)
other_keeps Kind.put r t p w q = absurd (p refl)
other_keeps Kind.claim r t p w q = if_case (λ (e : Effect). Keeps w.card e.changes) (flag (other (side_of q.side)) (pair_of w.card.arbitration q.s)) _ _ (λ _. refl) (λ _. refl)
other_keeps Kind.release r t p w q = refl
other_keeps Kind.mailbox_write r t p w q = if_case (λ cs. Keeps w.card (mail_is (side_of q.side) (q.b % 65536) ∷ cs)) (bit 24 q.b) _ _ (λ _. refl) (λ _. refl)
other_keeps Kind.mailbox_read r t p w q = refl
other_keeps Kind.interrupt_read r t p w q = refl
other_keeps Kind.interrupt_write r t p w q = refl
other_keeps Kind.line r t p w q = refl
other_keeps Kind.start r t p w q = refl
other_keeps Kind.step r t p w q = step_keeps w w.card.transfer w.card
other_keeps Kind.external_pin r t p w q = refl
other_keeps Kind.unknown r t p w q = refl

-- what the FIFOs hold, one of them replaced
replaced : (l : List (List ℕ)) (s i : ℕ) (entries : List ℕ) → s < length l → get_or (set l s entries) i [] ≡ (if eqb s i then entries else get_or l i [])
replaced l s i entries h = by (eqb s i) refl
  where
    by : (t : Bool) → eqb s i ≡ t → get_or (set l s entries) i [] ≡ (if t then entries else get_or l i [])
    by true e = ap (λ j. get_or (set l s entries) j []) (sym (eqb-true s i e)) ∙ get_or-set_same l s entries [] h
    by false e = get_or-set_other l s i entries [] (λ j. eqb-false s i e (sym j))

-- What a FIFO held before an access and what the access puts into it are what it takes out of it and what the FIFO holds then.
abbrev pub Accounted : (fifo : ℕ) → Entry Access Answer → (before after : List ℕ) → Type 0
Accounted i e l m = l ++ accepted i (e ∷ []) ≡ taken_out i (e ∷ []) ++ m

module _ (w : World) (q : Access) (i : ℕ) where
  -- the same of an access that is done with this effect
  abbrev DoneWith : Effect → Type 0
  DoneWith f = Accounted i (record { access = q; answer = (settled 0 f w).answer }) (entries_of w.card.fifos i) (entries_of (world_after f w).card.fifos i)

  put_accounted : q.kind ≡ number_of Kind.put → q.s < length w.card.fifos → DoneWith (put_into (side_of q.side) q.s (entries_of w.card.fifos q.s) q.b)
  put_accounted k h = if_case DoneWith (ltb (length (entries_of w.card.fifos q.s)) 32) _ _
      (λ _. rw (k, replaced w.card.fifos q.s i (entries_of w.card.fifos q.s ++ (q.b ∷ [])) h) (by (eqb q.s i) refl))
      (λ _. rw k (append-nil _))
    where
      by : (t : Bool) → eqb q.s i ≡ t → entries_of w.card.fifos i ++ (if t then q.b ∷ [] else []) ≡ (if t then entries_of w.card.fifos q.s ++ (q.b ∷ []) else entries_of w.card.fifos i)
      by true e = rw (eqb-true q.s i e)
      by false e = append-nil _

  take_accounted : q.kind ≡ number_of Kind.take → q.s < length w.card.fifos → DoneWith (taken_from q.s (entries_of w.card.fifos q.s))
  take_accounted k h = by (entries_of w.card.fifos q.s) refl
    where
      out : (oldest : ℕ) (rest : List ℕ) (t : Bool) → entries_of w.card.fifos q.s ≡ oldest ∷ rest → eqb q.s i ≡ t → entries_of w.card.fifos i ++ [] ≡ (if t then oldest ∷ [] else []) ++ (if t then drop 1 (entries_of w.card.fifos q.s) else entries_of w.card.fifos i)
      out oldest rest true e s = rw e (rw (eqb-true q.s i s) at (append-nil (entries_of w.card.fifos q.s) ∙ e))
      out oldest rest false e s = append-nil _

      by : (entries : List ℕ) → entries_of w.card.fifos q.s ≡ entries → DoneWith (taken_from q.s entries)
      by [] e = rw k (append-nil _)
      by (oldest ∷ rest) e = rw (k, replaced w.card.fifos q.s i (drop 1 (entries_of w.card.fifos q.s)) h, eqb-suc-zero (length rest)) (out oldest rest (eqb q.s i) e refl)

  other_accounted : eqb q.kind (number_of Kind.take) ≡ false → eqb q.kind (number_of Kind.put) ≡ false → (f : Effect) → Keeps w.card f.changes → DoneWith f
  other_accounted t p f h = rw (t, p, h) (append-nil _)

  -- a done access that is no reset
  done_accounted : refusal (checks w q) ≡ 0 → eqb q.kind (number_of Kind.reset) ≡ false → DoneWith (row_of (kind_of q.kind) w q).effect
  done_accounted h r = by (eqb q.kind (number_of Kind.take)) (eqb q.kind (number_of Kind.put)) refl refl
    where
      passes : Pass (checks w q)
      passes = checks_passed w q h

      number : number_of (kind_of q.kind) ≡ q.kind
      number = let l = ltb-false 16 q.kind (or_left (above 16 q.kind) (above 1 q.side) passes.1.0) in let n = number_at q.kind (kind_of q.kind) refl in omega arith

      by : (t p : Bool) → eqb q.kind (number_of Kind.take) ≡ t → eqb q.kind (number_of Kind.put) ≡ p → DoneWith (row_of (kind_of q.kind) w q).effect
      by true p e f =
          let k = eqb-true q.kind (number_of Kind.take) e in
          subst (λ n. DoneWith (row_of (kind_of n) w q).effect) (sym k) (take_accounted k (one_of_four w q (number_of Kind.take) h k (λ c. c.1.0)))
      by false true e f =
          let k = eqb-true q.kind (number_of Kind.put) f in
          subst (λ n. DoneWith (row_of (kind_of n) w q).effect) (sym k) (put_accounted k (one_of_four w q (number_of Kind.put) h k (λ c. c.1.0)))
      by false false e f =
          other_accounted e f (row_of (kind_of q.kind) w q).effect
          (other_keeps (kind_of q.kind) (rw number (eqb-false q.kind (number_of Kind.reset) r)) (rw number (eqb-false q.kind (number_of Kind.take) e)) (rw number (eqb-false q.kind (number_of Kind.put) f)) w q)

pub one_accounted : (w : World) (q : Access) (i : ℕ) → is_done (number_of Kind.reset) (entry_at access w q) ≡ false → Accounted i (entry_at access w q) (entries_of w.card.fifos i) (entries_of (access w q).world.card.fifos i)
one_accounted w q i r = by (refusal (checks w q)) refl
  where
    by : (n : ℕ) → refusal (checks w q) ≡ n → Accounted i (entry_at access w q) (entries_of w.card.fifos i) (entries_of (access w q).world.card.fifos i)
    by zero e = rw (done_is w q e) (done_accounted w q i e (rw (done_is w q e) at r))
    by (suc n) e = rw (refused_is w q n e, eqb-suc-zero n) (append-nil _)

all_empty : (n i : ℕ) → ◌≡◌ {A = List ℕ} (get_or (replicate n []) i []) []
all_empty zero i = refl
all_empty (suc n) zero = refl
all_empty (suc n) (suc i) = all_empty n i

pub reset_empties : (w : World) (q : Access) (i : ℕ) → is_done (number_of Kind.reset) (entry_at access w q) ≡ true → entries_of (access w q).world.card.fifos i ≡ []
reset_empties w q i h =
    let d = done_of w q (number_of Kind.reset) h in
    rw (done_is w q d.0, d.1) (all_empty 4 i)

-- A LIST OF ACCESSES

-- The same of a list, since its last reset: what the FIFO held before the list counts unless a reset is in it.
abbrev Accounts : (fifo : ℕ) → List (Entry Access Answer) → (before after : List ℕ) → Type 0
Accounts i es l r = (if no_reset es then l else []) ++ accepted i (since_reset es) ≡ taken_out i (since_reset es) ++ r

since_all : (es : List (Entry Access Answer)) → no_reset es ≡ true → since_reset es ≡ es
since_all [] h = refl
since_all (e ∷ es) h = rw h

pub first_of : {A : Type 0} (t : Bool) (x : A) (l : List A) → (if t then x ∷ l else l) ≡ (if t then x ∷ [] else []) ++ l
first_of true x l = refl
first_of false x l = refl

-- an entry in front
accounts_cons : (i : ℕ) (e : Entry Access Answer) (es : List (Entry Access Answer)) (l m r : List ℕ) →
    (is_done (number_of Kind.reset) e ≡ true → m ≡ []) → (is_done (number_of Kind.reset) e ≡ false → Accounted i e l m) → Accounts i es m r → Accounts i (e ∷ es) l r
accounts_cons i e es l m r a b h = by (is_done (number_of Kind.reset) e) (no_reset es) refl refl
  where
    by : (t u : Bool) → is_done (number_of Kind.reset) e ≡ t → no_reset es ≡ u → Accounts i (e ∷ es) l r
    by true true p s = rw p (rw (s, a p) at h)
    by true false p s = rw p (rw s at h)
    by false true p s =
        let now : Accounted i e l m = b p in
        let later : m ++ accepted i es ≡ taken_out i es ++ r = rw (s, since_all es s) at h in
        let puts : accepted i (e ∷ es) ≡ accepted i (e ∷ []) ++ accepted i es = first_of (succeeds (number_of Kind.put) i e) e.access.b (accepted i es) in
        let takes : taken_out i (e ∷ es) ≡ taken_out i (e ∷ []) ++ taken_out i es = first_of (succeeds (number_of Kind.take) i e) e.answer.v (taken_out i es) in
        rw (p, s) (cc (append_assoc l (accepted i (e ∷ [])) (accepted i es), append_assoc (taken_out i (e ∷ [])) m (accepted i es), append_assoc (taken_out i (e ∷ [])) (taken_out i es) r))
    by false false p s = rw (p, s) (rw s at h)

accounts : (i : ℕ) (w : World) (accesses : List Access) → Accounts i (run access w accesses).entries (entries_of w.card.fifos i) (entries_of (run access w accesses).world.card.fifos i)
accounts i w [] = append-nil _
accounts i w (q ∷ accesses) =
    accounts_cons i (entry_at access w q) (run access (access w q).world accesses).entries _ _ _
    (reset_empties w q i) (one_accounted w q i) (accounts i (access w q).world accesses)

fresh_empty : (s : Settings) (i : ℕ) → entries_of (fresh_card s).card.fifos i ≡ []
unfolding fresh_card
fresh_empty s i = if_case (λ (m : NewCard). entries_of m.card.fifos i ≡ []) (settings_pass s) _ _ (λ _. all_empty 4 i) (λ _. all_empty 4 i)

-- THE LAWS

-- "Entries come out once each, in order": what was accepted since the last reset is what was taken out, and then what is held.
pub fifo_accounts : (settings : Settings) (shared window : List ℕ) (accesses : List Access) (i : ℕ) →
    let ran = run access (fresh_world settings shared window) accesses in
    let list = since_reset ran.entries in
    accepted i list ≡ taken_out i list ++ entries_of ran.world.card.fifos i
fifo_accounts settings shared window accesses i =
    rw (fresh_empty settings i, nothing_before) at (accounts i (fresh_world settings shared window) accesses)
  where
    nothing_before : (t : Bool) → ◌≡◌ {A = List ℕ} (if t then [] else []) []
    nothing_before true = refl
    nothing_before false = refl

-- "Accepted puts since the last reset equal successful takes plus entries held."
pub fifo_counts : (settings : Settings) (shared window : List ℕ) (accesses : List Access) (i : ℕ) →
    let ran = run access (fresh_world settings shared window) accesses in
    let list = since_reset ran.entries in
    length (accepted i list) ≡ length (taken_out i list) + length (entries_of ran.world.card.fifos i)
fifo_counts settings shared window accesses i =
    let ran = run access (fresh_world settings shared window) accesses in
    ap length (fifo_accounts settings shared window accesses i) ∙ length-append (taken_out i (since_reset ran.entries)) (entries_of ran.world.card.fifos i)

-- an access behind a list
pub run_behind : (w : World) (accesses : List Access) (q : Access) →
    let ran = run access w accesses in
    run access w (accesses ++ (q ∷ [])) ≡ record { entries = ran.entries ++ (entry_at access ran.world q ∷ []); world = (access ran.world q).world }
run_behind w [] q = refl
run_behind w (a ∷ accesses) q = rw (run_behind (access w a).world accesses q)

-- The depth behind any list is the number of entries held.
pub depth_held : (settings : Settings) (shared window : List ℕ) (accesses : List Access) (i : ℕ) →
    let ran = run access (fresh_world settings shared window) accesses in
    depth i ran.entries ≡ length (entries_of ran.world.card.fifos i)
depth_held settings shared window accesses i = let c = fifo_counts settings shared window accesses i in omega arith

-- "so that operators see the depth": behind any list a put and a take tell it.
pub depth_told : (settings : Settings) (shared window : List ℕ) (accesses : List Access) (q : Access) →
    let ran = run access (fresh_world settings shared window) accesses in
    let e = entry_at access ran.world q in
    let before = depth q.s ran.entries in
    let after = depth q.s (ran.entries ++ (e ∷ [])) in
    (is_done (number_of Kind.put) e ≡ true → PutTells before after e.answer) × (is_done (number_of Kind.take) e ≡ true → TakeTells before after e.answer)
depth_told settings shared window accesses q =
    let w = fresh_world settings shared window in
    let ran = run access w accesses in
    let before = depth_held settings shared window accesses q.s in
    let after = rw (run_behind w accesses q) at (depth_held settings shared window (accesses ++ (q ∷ [])) q.s) in
    rw (before, after) (put_tells ran.world q, take_tells ran.world q)
