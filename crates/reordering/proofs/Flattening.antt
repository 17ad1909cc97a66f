-- Rule 3 where a burst counts as its single accesses: if the list with each burst replaced by them meets the premise, so does the list, and its steps move.
-- By induction over the calls: a burst and its single accesses are nothing to the transfers, leave the same world, and are quiet alike.
use Rattle.std.specs.Prelude.{◌≡◌, Bool, not, ◌&&◌, ◌||◌, List, [], ◌∷◌, ◌++◌, map, ℕ, eqb, if◌then◌else◌}
use Rattle.std.proofs.Math.Path.{refl, sym, ap}
use Rattle.std.proofs.Common.{◌∙◌, subst}
use Rattle.std.proofs.Math.Bool.{true, false, or-true}
use Rattle.model.specs.Choice.{every, All}
use Rattle.model.specs.Transfer.{Request}
use Rattle.model.specs.State.{World, fresh_world}
use Rattle.model.specs.Runs.{Entry, run, entry_at}
use Rattle.model.specs.Accesses.{Access, Answer, fit, access}
use Rattle.model.specs.Bursts.{Burst, singles, burst}
use Rattle.model.specs.Calls.{Call, direct, register, bursting, plain, call}
use Rattle.model.proofs.TestLaws.{and_left, and_right, and-true, every_append, every_map}
use Rattle.model.proofs.BurstLaws.{unfit_run}
use Rattle.reordering.specs.Roles.{none, Role, start_of, step_of, neither, entry_of, role_of, open_after, count_after, roles_from, steps_of}
use Rattle.reordering.specs.Reordering.{action_of}
use Rattle.reordering.specs.CallReordering.{Reply, noted, noted_action, counts_as, quiet_call, flat_call, flat, FlatCallsMove}
use Rattle.reordering.proofs.BurstExchange.{counts_fit, counts_unfit, singles_inert, quiet_counts}
use Rattle.reordering.proofs.CallExchange.{calls_move}
use Rattle.reordering.proofs.Premise.{is_own, is_empty, calm, undisturbed, premise, tested}

-- RUNS

-- an entry of a run of accesses, in the run that notes
abbrev as_call : Entry Access Answer → Entry Call Reply
as_call e = record { access = direct e.access; answer = record { told = plain e.answer; action = action_of e } }

run_direct : (w : World) (l : List Access) → run noted w (map direct l) ≡ record { entries = map as_call (run access w l).entries; world = (run access w l).world }
run_direct w [] = refl
run_direct w (q ∷ l) = rw (run_direct (access w q).world l)

run_append : (w : World) (l m : List Call) → (run noted w (l ++ m)).entries ≡ (run noted w l).entries ++ (run noted (run noted w l).world m).entries
run_append w [] m = refl
run_append w (c ∷ l) m = ap (entry_at noted w c ∷◌) (run_append (call w c).world l m)

-- LISTS OF ROLES, the second with entries in place of one that is no start and no step

data Flattened : (l m : List (Role Request (Entry Call Reply))) → Type 0 where
  over : Flattened [] []
  kept : {l m : List (Role Request (Entry Call Reply))} (x : Role Request (Entry Call Reply)) → Flattened l m → Flattened (x ∷ l) (x ∷ m)
  spread : {l m : List (Role Request (Entry Call Reply))} (e : Entry Call Reply) (es : List (Entry Call Reply)) → ((t : Request) → quiet_call t e ≡ every (quiet_call t) es) → Flattened l m →
      Flattened (neither e ∷ l) (map neither es ++ m)

steps_spread : (k : ℕ) (es : List (Entry Call Reply)) (m : List (Role Request (Entry Call Reply))) → steps_of k (map neither es ++ m) ≡ steps_of k m
steps_spread k [] m = refl
steps_spread k (e ∷ es) m = steps_spread k es m

same_steps : (k : ℕ) {l m : List (Role Request (Entry Call Reply))} → Flattened l m → steps_of k m ≡ steps_of k l
same_steps k over = refl
same_steps k (kept (start_of j t e) f) = same_steps k f
same_steps k (kept (step_of j e) f) = ap (λ es. if eqb k j then e ∷ es else es) (same_steps k f)
same_steps k (kept (neither e) f) = same_steps k f
same_steps k (spread {m = m} e es q f) = steps_spread k es m ∙ same_steps k f

abbrev calm_for : (k : ℕ) → Request → List (Role Request (Entry Call Reply)) → Bool
calm_for k t l = calm quiet_call k t l

abbrev unstepped : (k : ℕ) → List (Role Request (Entry Call Reply)) → Bool
unstepped k l = is_empty quiet_call (steps_of k l)

calm_spread : (k : ℕ) (t : Request) (es : List (Entry Call Reply)) (m : List (Role Request (Entry Call Reply))) → calm_for k t (map neither es ++ m) ≡ true →
    ((unstepped k m || every (quiet_call t) es) ≡ true) × (calm_for k t m ≡ true)
calm_spread k t [] m h = (or-true (unstepped k m), h)
calm_spread k t (e ∷ es) m h =
    let here : Bool = unstepped k (map neither es ++ m) || quiet_call t e in
    let r = calm_spread k t es m (and_right here (calm_for k t (map neither es ++ m)) h) in
    (by (unstepped k m) (rw (steps_spread k es m) at (and_left here (calm_for k t (map neither es ++ m)) h)) r.0, r.1)
  where
    by : (b : Bool) → (b || quiet_call t e) ≡ true → (b || every (quiet_call t) es) ≡ true → (b || (quiet_call t e && every (quiet_call t) es)) ≡ true
    by true h g = refl
    by false h g = and-true h g

flat_calm : (k : ℕ) (t : Request) {l m : List (Role Request (Entry Call Reply))} → Flattened l m → calm_for k t m ≡ true → calm_for k t l ≡ true
flat_calm k t over h = refl
flat_calm k t (kept {l} {m} x f) h =
    let here : Bool = is_own quiet_call k x || (unstepped k m || quiet_call t (entry_of x)) in
    and-true (rw (same_steps k f) at (and_left here (calm_for k t m) h)) (flat_calm k t f (and_right here (calm_for k t m) h))
flat_calm k t (spread {l} {m} e es q f) h =
    let r = calm_spread k t es m h in
    let here : (unstepped k l || quiet_call t e) ≡ true = rw (q t) (rw (same_steps k f) at r.0) in
    and-true here (flat_calm k t f r.1)

spread_undisturbed : (es : List (Entry Call Reply)) (m : List (Role Request (Entry Call Reply))) → undisturbed quiet_call (map neither es ++ m) ≡ undisturbed quiet_call m
spread_undisturbed [] m = refl
spread_undisturbed (e ∷ es) m = spread_undisturbed es m

flat_undisturbed : {l m : List (Role Request (Entry Call Reply))} → Flattened l m → undisturbed quiet_call m ≡ true → undisturbed quiet_call l ≡ true
flat_undisturbed over h = refl
flat_undisturbed (kept {l} {m} (start_of k t e) f) h =
    and-true (flat_calm k t f (and_left (calm_for k t m) (undisturbed quiet_call m) h)) (flat_undisturbed f (and_right (calm_for k t m) (undisturbed quiet_call m) h))
flat_undisturbed (kept (step_of k e) f) h = flat_undisturbed f h
flat_undisturbed (kept (neither e) f) h = flat_undisturbed f h
flat_undisturbed (spread {m = m} e es q f) h = flat_undisturbed f (sym (spread_undisturbed es m) ∙ h)

-- THE LIST AND THE FLAT ONE

-- entries that are nothing to the transfers
roles_inert : (n : ℕ) (o : List (ℕ × Request)) (es fs : List (Entry Call Reply)) → All (λ e. noted_action e ≡ none) es →
    roles_from noted_action n o (es ++ fs) ≡ map neither es ++ roles_from noted_action n o fs
roles_inert n o [] fs h = refl
roles_inert n o (e ∷ es) fs h =
    ap (λ κ. role_of n o κ e ∷ roles_from noted_action (count_after n κ) (open_after (λ t. (n, t)) κ o) (es ++ fs)) h.0
    ∙ ap (neither e ∷◌) (roles_inert n o es fs h.1)

-- the single accesses that a burst counts as, where it stands
module _ (w : World) (b : Burst) where
  abbrev counted : List (Entry Call Reply)
  counted = (run noted w (map direct (counts_as b (burst w b).answer.answer))).entries

  counted_inert : All (λ e. noted_action e ≡ none) counted
  counted_inert = by (fit w) refl
    where
      all_map : (es : List (Entry Access Answer)) → All (λ e. action_of e ≡ none) es → All (λ e. noted_action e ≡ none) (map as_call es)
      all_map [] h = tt
      all_map (e ∷ es) h = (h.0, all_map es h.1)

      by : (f : Bool) → fit w ≡ f → All (λ e. noted_action e ≡ none) (run noted w (map direct (counts_as b (burst w b).answer.answer))).entries
      by true e = rw (counts_fit w b e, run_direct w (singles b)) (all_map (run access w (singles b)).entries (singles_inert w b e))
      by false e = rw (counts_unfit w b e) tt

  counted_quiet : (t : Request) → quiet_call t (entry_at noted w (bursting b)) ≡ every (quiet_call t) counted
  counted_quiet t = by (fit w) refl
    where
      by : (f : Bool) → fit w ≡ f → quiet_call t (entry_at noted w (bursting b)) ≡ every (quiet_call t) (run noted w (map direct (counts_as b (burst w b).answer.answer))).entries
      by true e =
          quiet_counts w b t e
          ∙ sym (ap (λ l. every (quiet_call t) (run noted w (map direct l)).entries) (counts_fit w b e)
          ∙ ap (λ r. every (quiet_call t) r.entries) (run_direct w (singles b)) ∙ every_map (quiet_call t) as_call (run access w (singles b)).entries)
      by false e = rw (counts_unfit w b e)

  counted_world : (run noted w (map direct (counts_as b (burst w b).answer.answer))).world ≡ (burst w b).world
  unfolding burst
  counted_world = by (fit w) refl
    where
      by : (f : Bool) → fit w ≡ f → (run noted w (map direct (counts_as b (burst w b).answer.answer))).world ≡ (run access w (singles b)).world
      by true e = ap (λ l. (run noted w (map direct l)).world) (counts_fit w b e) ∙ ap (λ r. r.world) (run_direct w (singles b))
      by false e = ap (λ l. (run noted w (map direct l)).world) (counts_unfit w b e) ∙ sym (unfit_run w (singles b) e)

flattens : (w : World) (calls : List Call) (n : ℕ) (o : List (ℕ × Request)) →
    Flattened (roles_from noted_action n o (run noted w calls).entries) (roles_from noted_action n o (run noted w (flat (run noted w calls).entries)).entries)
flattens w [] n o = over
flattens w (direct q ∷ calls) n o = kept _ (flattens (access w q).world calls _ _)
flattens w (register q ∷ calls) n o = kept _ (flattens (call w (register q)).world calls _ _)
flattens w (bursting b ∷ calls) n o =
    let v = (burst w b).world in
    let es = (run noted v calls).entries in
    let l = map direct (counts_as b (burst w b).answer.answer) in
    let is : roles_from noted_action n o (run noted w (l ++ flat es)).entries ≡ map neither (run noted w l).entries ++ roles_from noted_action n o (run noted v (flat es)).entries =
    ap (roles_from noted_action n o) (run_append w l (flat es)) ∙ roles_inert n o (run noted w l).entries (run noted (run noted w l).world (flat es)).entries (counted_inert w b)
    ∙ ap (λ v. map neither (run noted w l).entries ++ roles_from noted_action n o (run noted v (flat es)).entries) (counted_world w b) in
    subst (Flattened (neither (entry_at noted w (bursting b)) ∷ roles_from noted_action n o es)) (sym is) (spread _ (counted w b) (counted_quiet w b) (flattens v calls n o))

-- no burst is left in it
abbrev is_burst : Call → Bool
is_burst (direct q) = false
is_burst (register q) = false
is_burst (bursting b) = true

pub no_burst_left : (es : List (Entry Call Reply)) → every (λ c. not (is_burst c)) (flat es) ≡ true
no_burst_left [] = refl
no_burst_left (e ∷ es) =
    every_append (λ c. not (is_burst c)) (flat_call e.access e.answer.told.answer) (flat es) ∙ and-true (one e.access e.answer.told.answer) (no_burst_left es)
  where
    all_direct : (l : List Access) → every (λ c. not (is_burst c)) (map direct l) ≡ true
    all_direct [] = refl
    all_direct (q ∷ l) = all_direct l

    one : (c : Call) (a : Answer) → every (λ c. not (is_burst c)) (flat_call c a) ≡ true
    one (direct q) a = refl
    one (register q) a = refl
    one (bursting b) a = all_direct (counts_as b a)

-- RULE 3

pub flat_calls_move : FlatCallsMove
flat_calls_move settings shared window calls u =
    let w = fresh_world settings shared window in
    calls_move settings shared window calls (premise quiet_call _ (flat_undisturbed (flattens w calls 0 []) (tested quiet_call _ u)))
