-- Rule 3 over any machine: to move each transfer's done steps to its start changes no answer and not the world at the end.
-- By induction over the list, the steps of the open transfers pulled to the front, from two laws of the machine: `follows` and `exchange`.
use Rattle.std.specs.Prelude.{◌≡◌, refl, ◌≢◌, Bool, true, false, ℕ, suc, ◌≤◌, ◌<◌, eqb, if◌then◌else◌}
use Rattle.std.proofs.Common.{ap, ◌∙◌, le_trans, arith, eq-eqb, ne_eqb}
use mathlib.Core.List.Permᴰ
use mathlib.Core.List.{List, [], ◌∷◌, ◌++◌, map, append_assoc, append-nil, Permᴰ}
use Rattle.model.specs.Runs.{Outcome, Entry, run, entry_at}
use Rattle.reordering.specs.Roles.{TransferAction, resets, starts, steps, none, open_after, count_after, Role, start_of, step_of, neither, entry_of, role_of, roles_from, roles, steps_of, moved, Undisturbed, Owned}

pub same : (k : ℕ) → eqb k k ≡ true
same k = eq-eqb k k refl

apart : (k j : ℕ) → k ≢ j → eqb k j ≡ false
apart k j h = ne_eqb k j h

cons_nil : {E : Type 0} (e : E) (l : List E) → e ∷ l ≡ [] → ⊥
cons_nil e l h = let z : ◌≡◌ {A = ℕ} 0 1 = cc in omega arith

keep_nil : {E : Type 0} (b : Bool) (e : E) (l : List E) → (if b then e ∷ l else l) ≡ [] → l ≡ []
keep_nil true e l h = absurd (cons_nil e l h)
keep_nil false e l h = h

-- The numbers of the open transfers rise from `lo` to below `n`.
pub data Rising {A : Type 0} (n : ℕ) : ℕ → List (ℕ × A) → Type 0 where
  end : {lo : ℕ} → lo ≤ n → Rising n lo []
  more : {lo : ℕ} {h : ℕ × A} {o : List (ℕ × A)} → lo ≤ h.0 → Rising n (suc h.0) o → Rising n lo (h ∷ o)

module _ {A : Type 0} where
  rising_from : {n lo lo' : ℕ} {o : List (ℕ × A)} → lo' ≤ lo → Rising n lo o → Rising n lo' o
  rising_from d (end l) = end (le_trans d l)
  rising_from d (more l r) = more (le_trans d l) r

  rising_le : {n lo : ℕ} {o : List (ℕ × A)} → Rising n lo o → lo ≤ n
  rising_le (end l) = l
  rising_le (more l r) = let k = rising_le r in omega arith

  rising_left : {n lo : ℕ} (o p : List (ℕ × A)) → Rising n lo (o ++ p) → Rising n lo o
  rising_left [] p r = end (rising_le r)
  rising_left {n = n} {lo = lo} (h ∷ o) p (more l r) = more l (rising_left {n = n} {lo = suc h.0} o p r)

  rising_snoc : {n lo : ℕ} {o : List (ℕ × A)} (t : A) → Rising n lo o → Rising (suc n) lo (o ++ ((n, t) ∷ []))
  rising_snoc {n} t (end l) = more l (end {lo = suc n} (omega arith))
  rising_snoc t (more l r) = more l (rising_snoc t r)

  rising_after : {n lo : ℕ} (κ : TransferAction A) {o : List (ℕ × A)} → Rising n lo o → Rising (count_after n κ) lo (open_after (λ t. (n, t)) κ o)
  rising_after resets r = end (rising_le r)
  rising_after (starts t) r = rising_snoc t r
  rising_after (steps true) (end l) = end l
  rising_after (steps true) (more l r) = rising_from (omega arith) r
  rising_after (steps false) r = r
  rising_after none r = r

module _ {A E : Type 0} where
  -- the steps in `l` of the transfers that are open before it, the oldest transfer's first
  abbrev ahead : List (ℕ × A) → List (Role A E) → List E
  ahead [] l = []
  ahead (h ∷ o) l = steps_of h.0 l ++ ahead o l

  ahead_nil : (o : List (ℕ × A)) → ahead o [] ≡ []
  ahead_nil [] = refl
  ahead_nil (h ∷ o) = ahead_nil o

  ahead_other : (o : List (ℕ × A)) (e : E) (l : List (Role A E)) → ahead o (neither e ∷ l) ≡ ahead o l
  ahead_other [] e l = refl
  ahead_other (h ∷ o) e l = ap (λ r. steps_of h.0 l ++ r) (ahead_other o e l)

  ahead_start : (o : List (ℕ × A)) (k : ℕ) (t : A) (e : E) (l : List (Role A E)) → ahead o (start_of k t e ∷ l) ≡ ahead o l
  ahead_start [] k t e l = refl
  ahead_start (h ∷ o) k t e l = ap (λ r. steps_of h.0 l ++ r) (ahead_start o k t e l)

  ahead_later : {n lo : ℕ} {o : List (ℕ × A)} (k : ℕ) (e : E) (l : List (Role A E)) → k < lo → Rising n lo o → ahead o (step_of k e ∷ l) ≡ ahead o l
  ahead_later k e l d (end _) = refl
  ahead_later k e l d (more {h = h} m r) = rw (apart h.0 k (omega arith), ahead_later k e l (omega arith) r)

  ahead_snoc : (o : List (ℕ × A)) (h : ℕ × A) (l : List (Role A E)) → ahead (o ++ (h ∷ [])) l ≡ ahead o l ++ steps_of h.0 l
  ahead_snoc [] h l = append-nil (steps_of h.0 l)
  ahead_snoc (g ∷ o) h l = rw (ahead_snoc o h l, append_assoc)

  other_no_step : (e : E) (k : ℕ) → ◌≢◌ {A = Role A E} (neither e) (step_of k e)
  other_no_step e k h = let z : ◌≡◌ {A = ℕ} 0 1 = cc in omega arith

  start_no_step : (n : ℕ) (t : A) (e : E) (k : ℕ) → ◌≢◌ {A = Role A E} (start_of n t e) (step_of k e)
  start_no_step n t e k h = let z : ◌≡◌ {A = ℕ} 0 1 = cc in omega arith

  -- an entry more in front takes no step away
  steps_tail : (k : ℕ) (x : Role A E) (l : List (Role A E)) → steps_of k (x ∷ l) ≡ [] → steps_of k l ≡ []
  steps_tail k (start_of j t e) l h = h
  steps_tail k (step_of j e) l h = keep_nil (eqb k j) e (steps_of k l) h
  steps_tail k (neither e) l h = h

  module _ (action_of : E → TransferAction A) where
    abbrev onward : ℕ → List (ℕ × A) → TransferAction A → List E → List (Role A E)
    onward n o κ es = roles_from action_of (count_after n κ) (open_after (λ t. (n, t)) κ o) es

    -- a transfer that is not open and not new has no steps any more
    pub absent : {n lo : ℕ} {o : List (ℕ × A)} (k : ℕ) (es : List E) → k < lo → Rising n lo o → steps_of k (roles_from action_of n o es) ≡ []
    absent k [] d r = refl
    absent {n} {lo} {o} k (e ∷ es) d r = go (action_of e) o r (absent {n = count_after n (action_of e)} {lo = lo} {o = open_after (λ t. (n, t)) (action_of e) o} k es d (rising_after (action_of e) r))
      where
        go : (κ : TransferAction A) (o : List (ℕ × A)) → Rising n lo o → steps_of k (roles_from action_of (count_after n κ) (open_after (λ t. (n, t)) κ o) es) ≡ [] → steps_of k (role_of n o κ e ∷ roles_from action_of (count_after n κ) (open_after (λ t. (n, t)) κ o) es) ≡ []
        go resets o r i = i
        go (starts t) o r i = i
        go (steps b) [] r i = i
        go (steps b) (h ∷ o) (more l r) i = rw (apart k h.0 (omega arith)) i
        go none o r i = i

    gone : {n lo : ℕ} {o : List (ℕ × A)} (es : List E) → Rising n lo o → ahead o (roles_from action_of n [] es) ≡ []
    gone es (end l) = refl
    gone {n} es (more {h = h} l r) = rw (absent {n = n} {lo = n} h.0 es (rising_le r) (end {lo = n} (omega arith))) (gone es r)

  module _ (action_of : E → TransferAction A) (quiet : A → E → Bool) where
    -- `Serves x q s`: the steps `s` are those of the transfers `q`, in their order, and x is quiet for each transfer that has one.
    data Serves (x : E) : List A → List E → Type 0 where
      ended : {q : List A} → Serves x q []
      serve : {t : A} {q : List A} {e : E} {s : List E} (b : Bool) → action_of e ≡ steps b → quiet t x ≡ true → Serves x (open_after (λ u. u) (steps b) (t ∷ q)) s → Serves x (t ∷ q) (e ∷ s)

    abbrev Ready : E → List (ℕ × A) → List (Role A E) → Type 0
    Ready x [] l = Unit {0}
    Ready x (h ∷ o) l = (steps_of h.0 l ≢ [] → quiet h.1 x ≡ true) × Ready x o l

    ready_tail : (x : E) (o : List (ℕ × A)) (y : Role A E) (l : List (Role A E)) → Ready x o (y ∷ l) → Ready x o l
    ready_tail x [] y l r = tt
    ready_tail x (h ∷ o) y l r = (λ s. r.0 (λ z. s (steps_tail h.0 y l z)), ready_tail x o y l r.1)

    abbrev Served : E → List E → Type 0
    Served x es = (n lo : ℕ) (o p : List (ℕ × A)) → Rising n lo (o ++ p) → Ready x o (roles_from action_of n (o ++ p) es) →
        Serves x (map (λ h. h.1) o) (ahead o (roles_from action_of n (o ++ p) es))

    serves_cons : (x e : E) (es : List E) → Served x es → (κ : TransferAction A) → action_of e ≡ κ → (n lo : ℕ) (o p : List (ℕ × A)) → Rising n lo (o ++ p) →
        Ready x o (role_of n (o ++ p) κ e ∷ onward action_of n (o ++ p) κ es) →
        Serves x (map (λ h. h.1) o) (ahead o (role_of n (o ++ p) κ e ∷ onward action_of n (o ++ p) κ es))
    serves_cons x e es ih resets c n lo o p r q = rw (ahead_other o e (roles_from action_of n [] es), gone action_of es (rising_left o p r)) ended
    serves_cons x e es ih (starts t) c n lo o p r q =
        rw (ahead_start o n t e (onward action_of n (o ++ p) (starts t) es), append_assoc)
        (ih (suc n) lo o (p ++ ((n, t) ∷ [])) (rw append_assoc at (rising_snoc t r)) (rw append_assoc at (ready_tail x o (start_of n t e) (onward action_of n (o ++ p) (starts t) es) q)))
    serves_cons x e es ih (steps b) c n lo [] p r q = ended
    serves_cons x e es ih (steps true) c n lo (h ∷ o) p (more l r) q =
        rw (same h.0, ahead_later h.0 e (roles_from action_of n (o ++ p) es) (omega arith) (rising_left o p r), absent action_of h.0 es (omega arith) r)
        (serve true c (q.0 (λ z. cons_nil e _ (rw (same h.0) at z))) (ih n (suc h.0) o p r (ready_tail x o (step_of h.0 e) (roles_from action_of n (o ++ p) es) q.1)))
    serves_cons x e es ih (steps false) c n lo (h ∷ o) p (more l r) q =
        rw (same h.0, ahead_later h.0 e (roles_from action_of n (h ∷ (o ++ p)) es) (omega arith) (rising_left o p r))
        (serve false c (q.0 (λ z. cons_nil e _ (rw (same h.0) at z))) (ih n lo (h ∷ o) p (more l r) (ready_tail x (h ∷ o) (step_of h.0 e) (roles_from action_of n (h ∷ (o ++ p)) es) q)))
    serves_cons x e es ih none c n lo o p r q = rw (ahead_other o e (roles_from action_of n (o ++ p) es)) (ih n lo o p r (ready_tail x o (neither e) (roles_from action_of n (o ++ p) es) q))

    serves : (x : E) (es : List E) → Served x es
    serves x [] n lo o p r q = rw (ahead_nil o) ended
    serves x (e ∷ es) n lo o p r q = serves_cons x e es (serves x es) (action_of e) refl n lo o p r q

  -- Nothing is lost or doubled: `moved` is the list in another order, whatever the list.
  module _ (action_of : E → TransferAction A) where
    perm_cons : (κ : TransferAction A) (e : E) (es : List E) (n lo : ℕ) (o : List (ℕ × A)) → Rising n lo o →
        Permᴰ (ahead (open_after (λ t. (n, t)) κ o) (onward action_of n o κ es) ++ moved (onward action_of n o κ es)) es →
        Permᴰ (ahead o (role_of n o κ e ∷ onward action_of n o κ es) ++ moved (role_of n o κ e ∷ onward action_of n o κ es)) (e ∷ es)
    perm_cons resets e es n lo o r h = rw (ahead_other o e (roles_from action_of n [] es), gone action_of es r) (Permᴰ.cons refl h)
    perm_cons (starts t) e es n lo o r h =
        let l = roles_from action_of (suc n) (o ++ ((n, t) ∷ [])) es in
        rw (ahead_start o n t e l)
        (Permᴰ.trans (Permᴰ.middle e (ahead o l) (steps_of n l ++ moved l)) (Permᴰ.cons refl (rw (ahead_snoc o (n, t) l, append_assoc) at h)))
    perm_cons (steps true) e es n lo [] r h = Permᴰ.cons refl h
    perm_cons (steps false) e es n lo [] r h = Permᴰ.cons refl h
    perm_cons (steps true) e es n lo (g ∷ o) (more l r) h =
        rw (same g.0, ahead_later g.0 e (roles_from action_of n o es) (omega arith) r, absent action_of g.0 es (omega arith) r) (Permᴰ.cons refl h)
    perm_cons (steps false) e es n lo (g ∷ o) (more l r) h =
        rw (same g.0, ahead_later g.0 e (roles_from action_of n (g ∷ o) es) (omega arith) r) (Permᴰ.cons refl h)
    perm_cons none e es n lo o r h =
        let l = roles_from action_of n o es in
        rw (ahead_other o e l) (Permᴰ.trans (Permᴰ.middle e (ahead o l) (moved l)) (Permᴰ.cons refl h))

    perm : (es : List E) (n lo : ℕ) (o : List (ℕ × A)) → Rising n lo o → Permᴰ (ahead o (roles_from action_of n o es) ++ moved (roles_from action_of n o es)) es
    perm [] n lo o r = rw (ahead_nil o) Permᴰ.nil
    perm (e ∷ es) n lo o r = perm_cons (action_of e) e es n lo o r (perm es (count_after n (action_of e)) lo (open_after (λ t. (n, t)) (action_of e) o) (rising_after (action_of e) r))

    pub moved_perm : (es : List E) → Permᴰ (moved (roles action_of es)) es
    moved_perm es = perm es 0 0 [] (end (omega arith))

  -- WHAT THE PREMISE SAYS OF THE TRANSFERS THAT ARE OPEN BEFORE `l`

  module _ (quiet : A → E → Bool) where
    abbrev Rest : ℕ → A → List (Role A E) → Type 0
    Rest k t l = (between behind : List (Role A E)) (x : Role A E) → l ≡ between ++ (x ∷ behind) → steps_of k behind ≢ [] → x ≢ step_of k (entry_of x) → quiet t (entry_of x) ≡ true

    abbrev Calm : List (ℕ × A) → List (Role A E) → Type 0
    Calm [] l = Unit {0}
    Calm (h ∷ o) l = Rest h.0 h.1 l × Calm o l

    calm_tail : (o : List (ℕ × A)) (x : Role A E) (l : List (Role A E)) → Calm o (x ∷ l) → Calm o l
    calm_tail [] x l c = tt
    calm_tail (h ∷ o) x l c = (λ between behind y e. c.0 (x ∷ between) behind y (ap (λ m. x ∷ m) e), calm_tail o x l c.1)

    calm_snoc : (o : List (ℕ × A)) (h : ℕ × A) (l : List (Role A E)) → Calm o l → Rest h.0 h.1 l → Calm (o ++ (h ∷ [])) l
    calm_snoc [] h l c d = (d, tt)
    calm_snoc (g ∷ o) h l c d = (c.0, calm_snoc o h l c.1 d)

    calm_after : (n : ℕ) (o : List (ℕ × A)) (κ : TransferAction A) (e : E) (l : List (Role A E)) → Undisturbed quiet (role_of n o κ e ∷ l) → Calm o (role_of n o κ e ∷ l) → Calm (open_after (λ t. (n, t)) κ o) l
    calm_after n o resets e l u c = tt
    calm_after n o (starts t) e l u c = calm_snoc o (n, t) l (calm_tail o (start_of n t e) l c) (λ between behind x p. u [] between behind n t e x (ap (λ m. start_of n t e ∷ m) p))
    calm_after n [] (steps true) e l u c = tt
    calm_after n (h ∷ o) (steps true) e l u c = calm_tail o (step_of h.0 e) l c.1
    calm_after n [] (steps false) e l u c = tt
    calm_after n (h ∷ o) (steps false) e l u c = calm_tail (h ∷ o) (step_of h.0 e) l c
    calm_after n o none e l u c = calm_tail o (neither e) l c

    calm_ready : (action_of : E → TransferAction A) (o : List (ℕ × A)) (x : Role A E) (l : List (Role A E)) → ((k : ℕ) → x ≢ step_of k (entry_of x)) → Calm o (x ∷ l) → Ready action_of quiet (entry_of x) o l
    calm_ready action_of [] x l z c = tt
    calm_ready action_of (h ∷ o) x l z c = (λ s. c.0 [] l x refl s (z h.0), calm_ready action_of o x l z c.1)

-- THE MACHINE. `opened` tells the transfers that are open in a world. `follows`: an access leaves open what its action says.
-- `exchange`: an access that is no done step and is quiet for the oldest open transfer, and a done step right after it, may change places.

module _ {World Access Answer A : Type 0} (machine : World → Access → Outcome Answer World)
    (action_of : Entry Access Answer → TransferAction A) (quiet : A → Entry Access Answer → Bool) (opened : World → List A) where
  abbrev pub Follows : Type 0
  Follows = (w : World) (q : Access) → opened (machine w q).world ≡ open_after (λ t. t) (action_of (entry_at machine w q)) (opened w)

  -- `o` and then the step `s` in the world `w`, and the other way round
  pub record Exchanged (w : World) (o s : Access) : Type 0 where
    pub step : (machine w s).answer ≡ (machine (machine w o).world s).answer
    pub other : (machine (machine w s).world o).answer ≡ (machine w o).answer
    pub world : (machine (machine w s).world o).world ≡ (machine (machine w o).world s).world

  abbrev pub Exchange : Type 0
  Exchange =
      (w : World) (o s : Access) (t : A) (q : List A) (b : Bool) → opened w ≡ t ∷ q →
      ((c : Bool) → action_of (entry_at machine w o) ≢ steps c) → quiet t (entry_at machine w o) ≡ true → action_of (entry_at machine (machine w o).world s) ≡ steps b →
      Exchanged w o s

module _ {World Access Answer A : Type 0} (machine : World → Access → Outcome Answer World)
    (action_of : Entry Access Answer → TransferAction A) (quiet : A → Entry Access Answer → Bool) (opened : World → List A)
    (follows : Follows machine action_of quiet opened) where
  -- the entries `es`, run from w, get the answers that they have, and leave z
  abbrev Runs : World → List (Entry Access Answer) → World → Type 0
  Runs w [] z = w ≡ z
  Runs w (e ∷ es) z = ((machine w e.access).answer ≡ e.answer) × Runs (machine w e.access).world es z

  runs_run : (w : World) (l : List Access) → Runs w (run machine w l).entries (run machine w l).world
  runs_run w [] = refl
  runs_run w (a ∷ l) = (refl, runs_run (machine w a).world l)

  run_runs : (w z : World) (es : List (Entry Access Answer)) → Runs w es z → run machine w (map (λ e. e.access) es) ≡ record { entries = es; world = z }
  run_runs w z [] h = rw h
  run_runs w z (e ∷ es) h = rw (run_runs (machine w e.access).world z es h.1, h.0)

  opened_map : (n : ℕ) (κ : TransferAction A) (o : List (ℕ × A)) → open_after (λ t. t) κ (map (λ h. h.1) o) ≡ map (λ h. h.1) (open_after (λ t. (n, t)) κ o)
  opened_map n resets o = refl
  opened_map n (starts t) [] = refl
  opened_map n (starts t) (h ∷ o) = ap (λ m. h.1 ∷ m) (opened_map n (starts t) o)
  opened_map n (steps true) [] = refl
  opened_map n (steps true) (h ∷ o) = refl
  opened_map n (steps false) o = refl
  opened_map n none o = refl

  pub opened_next : (w : World) (a : Access) (n : ℕ) (o : List (ℕ × A)) → opened w ≡ map (λ h. h.1) o →
      opened (machine w a).world ≡ map (λ h. h.1) (open_after (λ t. (n, t)) (action_of (entry_at machine w a)) o)
  opened_next w a n o u =
      follows w a ∙ ap (open_after (λ t. t) (action_of (entry_at machine w a))) u
      ∙ opened_map n (action_of (entry_at machine w a)) o

  no_steps_none : (b : Bool) → ◌≢◌ {A = TransferAction A} none (steps b)
  no_steps_none b h = let z : ◌≡◌ {A = ℕ} 0 1 = cc in omega arith

  no_steps_start : (t : A) (b : Bool) → starts t ≢ steps b
  no_steps_start t b h = let z : ◌≡◌ {A = ℕ} 0 1 = cc in omega arith

  module _ (exchange : Exchange machine action_of quiet opened) where
    -- a quiet entry goes behind the steps that come right after it
    bubble : (e : Entry Access Answer) (w z : World) {q : List A} {s : List (Entry Access Answer)} (es : List (Entry Access Answer)) → ((c : Bool) → action_of e ≢ steps c) → Serves action_of quiet e q s → opened w ≡ q →
        (machine w e.access).answer ≡ e.answer → Runs (machine w e.access).world (s ++ es) z → Runs w (s ++ (e ∷ es)) z
    bubble e w z es y ended u a h = (a, h)
    bubble e w z es y (serve {t} {q} {e = d} b c k v) u a h =
        let x = exchange w e.access d.access t q b u (rw a y) (rw a k) (rw h.0 c) in (
          x.step ∙ h.0,
          bubble e (machine w d.access).world z es y v (rw (x.step ∙ h.0, c, u) at (follows w d.access)) (x.other ∙ a) (rw x.world h.1),
        )

    place : (κ : TransferAction A) (e : Entry Access Answer) → action_of e ≡ κ → (es : List (Entry Access Answer)) (w z : World) (n lo : ℕ) (o : List (ℕ × A)) → Rising n lo o → opened w ≡ map (λ h. h.1) o →
        Calm quiet o (role_of n o κ e ∷ onward action_of n o κ es) → (machine w e.access).answer ≡ e.answer →
        Runs (machine w e.access).world (ahead (open_after (λ t. (n, t)) κ o) (onward action_of n o κ es) ++ moved (onward action_of n o κ es)) z →
        Runs w (ahead o (role_of n o κ e ∷ onward action_of n o κ es) ++ moved (role_of n o κ e ∷ onward action_of n o κ es)) z
    place resets e y es w z n lo o r u c a h = rw (ahead_other o e (roles_from action_of n [] es), gone action_of es r) (a, h)
    place (starts t) e y es w z n lo o r u c a h =
        let l = roles_from action_of (suc n) (o ++ ((n, t) ∷ [])) es in
        rw (ahead_start o n t e l)
        (bubble e w z (steps_of n l ++ moved l) (rw y (λ b q. no_steps_start t b q)) (serves action_of quiet e es (suc n) lo o ((n, t) ∷ []) (rising_snoc t r) (calm_ready quiet action_of o (start_of n t e) l (start_no_step n t e) c)) u a
        (rw (ahead_snoc o (n, t) l, append_assoc) at h))
    place (steps true) e y es w z n lo [] r u c a h = (a, h)
    place (steps false) e y es w z n lo [] r u c a h = (a, h)
    place (steps true) e y es w z n lo (g ∷ o) (more l r) u c a h =
        rw (same g.0, ahead_later g.0 e (roles_from action_of n o es) (omega arith) r, absent action_of g.0 es (omega arith) r) (a, h)
    place (steps false) e y es w z n lo (g ∷ o) (more l r) u c a h =
        rw (same g.0, ahead_later g.0 e (roles_from action_of n (g ∷ o) es) (omega arith) r) (a, h)
    place none e y es w z n lo o r u c a h =
        let l = roles_from action_of n o es in
        let v : Serves action_of quiet e (map (λ g. g.1) o) (ahead o l) =
        rw append-nil at (serves action_of quiet e es n lo o [] (rw append-nil r) (rw append-nil (calm_ready quiet action_of o (neither e) l (other_no_step e) c))) in
        rw (ahead_other o e l) (bubble e w z (moved l) (rw y (λ b q. no_steps_none b q)) v u a h)

    gathered : (es : List (Entry Access Answer)) (w z : World) (n lo : ℕ) (o : List (ℕ × A)) → Rising n lo o → opened w ≡ map (λ h. h.1) o →
        Calm quiet o (roles_from action_of n o es) → Undisturbed quiet (roles_from action_of n o es) → Runs w es z → Runs w (ahead o (roles_from action_of n o es) ++ moved (roles_from action_of n o es)) z
    gathered [] w z n lo o r u c d h = rw (ahead_nil o) h
    gathered (e ∷ es) w z n lo o r u c d h =
        let κ = action_of e in
        let x = role_of n o κ e in
        let l = onward action_of n o κ es in
        place κ e refl es w z n lo o r u c h.0
        (gathered es (machine w e.access).world z (count_after n κ) lo (open_after (λ t. (n, t)) κ o) (rising_after κ r)
        (rw h.0 at (opened_next w e.access n o u)) (calm_after quiet n o κ e l d c)
        (λ before between behind k t f y p. d (x ∷ before) between behind k t f y (ap (λ m. x ∷ m) p)) h.1)

    -- THE THEOREM
    pub moved_same : (w : World) (accesses : List Access) → opened w ≡ [] → Undisturbed quiet (roles action_of (run machine w accesses).entries) →
        run machine w (map (λ e. e.access) (moved (roles action_of (run machine w accesses).entries)))
        ≡ record { entries = moved (roles action_of (run machine w accesses).entries); world = (run machine w accesses).world }
    moved_same w accesses u d =
        run_runs w (run machine w accesses).world (moved (roles action_of (run machine w accesses).entries))
        (gathered (run machine w accesses).entries w (run machine w accesses).world 0 0 [] (end (omega arith)) u tt d (runs_run w accesses))

  -- EVERY DONE STEP HAS ITS START, if only a running transfer steps

  module _ (busy : (w : World) (a : Access) (b : Bool) → action_of (entry_at machine w a) ≡ steps b → opened w ≢ []) where
    owned_cons : (w : World) (a : Access) (κ : TransferAction A) → action_of (entry_at machine w a) ≡ κ → (n : ℕ) (o : List (ℕ × A)) → opened w ≡ map (λ h. h.1) o →
        (l : List (Role A (Entry Access Answer))) → Owned action_of l → Owned action_of (role_of n o κ (entry_at machine w a) ∷ l)
    owned_cons w a resets y n o u l i = (rw y (λ b h. let z : ◌≡◌ {A = ℕ} 0 1 = cc in omega arith), i)
    owned_cons w a (starts t) y n o u l i = i
    owned_cons w a (steps b) y n [] u l i = absurd (busy w a b y u)
    owned_cons w a (steps b) y n (h ∷ o) u l i = i
    owned_cons w a none y n o u l i = (rw y (λ b h. no_steps_none b h), i)

    pub owned : (w : World) (accesses : List Access) (n : ℕ) (o : List (ℕ × A)) → opened w ≡ map (λ h. h.1) o → Owned action_of (roles_from action_of n o (run machine w accesses).entries)
    owned w [] n o u = tt
    owned w (a ∷ accesses) n o u =
        let κ = action_of (entry_at machine w a) in
        owned_cons w a κ refl n o u (onward action_of n o κ (run machine (machine w a).world accesses).entries)
        (owned (machine w a).world accesses (count_after n κ) (open_after (λ t. (n, t)) κ o) (opened_next w a n o u))
