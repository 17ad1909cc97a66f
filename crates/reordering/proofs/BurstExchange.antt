-- A quiet burst and the done step right after it change places: the step goes in front of one single access after another.
use Rattle.std.specs.Prelude.{◌≡◌, ◌≢◌, Bool, not, ◌||◌, ℕ, zero, suc, length, ltb, if◌then◌else◌}
use Rattle.std.proofs.Math.Path.{refl}
use Rattle.std.proofs.Common.{sym, ap, ◌∙◌, subst, arith}
use Rattle.std.proofs.Math.Bool.{true, false}
use mathlib.Core.List.{List, [], ◌∷◌}
use Rattle.std.proofs.Math.Dec.{eqb, eqb-suc-zero}
use Rattle.model.specs.Choice.{every, All}
use Rattle.model.specs.Checks.{◌for◌, refusal, above}
use Rattle.model.specs.Transfer.{Request}
use Rattle.model.specs.State.{World}
use Rattle.model.specs.Runs.{run, entry_at}
use Rattle.model.specs.Accesses.{Access, kind_of, fit, access}
use Rattle.model.specs.Bursts.{Phase, Way, reads, writes, Burst, next, last_dword, single, singles_from, singles, burst_checks, total, burst, entries_from, done_entry, left_by}
use Rattle.model.specs.Calls.{bursting}
use Rattle.model.proofs.TestLaws.{and_left, and_right, every_append, if_case}
use Rattle.model.proofs.Soundness.{stays_fit}
use Rattle.model.proofs.BurstLaws.{run_is, burst_refusal, burst_keeps}
use Rattle.reordering.specs.Roles.{TransferAction, steps, none, open_after}
use Rattle.reordering.specs.Reordering.{Touch, done_touches, touches, disturbs, quiet, action_of}
use Rattle.reordering.specs.CallReordering.{counts_as, all_touches, noted, quiet_call}
use Rattle.reordering.proofs.Stepping.{opened, follows}
use Rattle.reordering.proofs.Exchange.{Swapped, step_told, step_passed, swapped}

-- ACCESSES ONE BY ONE

-- accesses and then the step `s`, and the other way round
record Passed (l : List Access) (w : World) (s : Access) : Type 0 where
  step : (access w s).answer ≡ (access (run access w l).world s).answer
  others : (run access (access w s).world l).entries ≡ (run access w l).entries
  world : (run access (access w s).world l).world ≡ (access (run access w l).world s).world

pub either : {A : Type 0} {a : A} (b : Bool) → (if b then a else a) ≡ a
either true = refl
either false = refl

pub no_steps : (c : Bool) → ◌≢◌ {A = TransferAction Request} none (steps c)
no_steps c h = let z : ◌≡◌ {A = ℕ} 0 1 = cc in omega arith

pass : (l : List Access) (w : World) (s : Access) (t : Request) (q : List Request) (b : Bool) → opened w ≡ t ∷ q → All (λ e. action_of e ≡ none) (run access w l).entries →
    every (quiet t) (run access w l).entries ≡ true → action_of (entry_at access (run access w l).world s) ≡ steps b → Passed l w s
pass [] w s t q b u i c k = record { step = refl; others = refl; world = refl }
pass (o ∷ l) w s t q b u i c k =
    let v = (access w o).world in
    let calm = quiet t (entry_at access w o) in
    let rest = every (quiet t) (run access v l).entries in
    let p = pass l v s t q b (follows w o ∙ ap (λ κ. open_after (λ t. t) κ (opened w)) i.0 ∙ u) i.1 (and_right calm rest c) k in
    let a : action_of (entry_at access v s) ≡ steps b = subst (λ r. action_of (record { access = s; answer = r }) ≡ steps b) (sym p.step) k in
    let x = swapped w o s t q b u (λ d z. no_steps d (sym i.0 ∙ z)) (and_left calm rest c) a in
    record {
      step = x.step ∙ p.step;
      others = ap (λ r. record { access = o; answer = r } ∷ (run access (access (access w s).world o).world l).entries) x.other
          ∙ ap (λ v. record { access = o; answer = (access w o).answer } ∷ (run access v l).entries) x.world
          ∙ ap (λ es. record { access = o; answer = (access w o).answer } ∷ es) p.others;
      world = ap (λ v. (run access v l).world) x.world ∙ p.world;
    }

-- THE SINGLE ACCESSES OF A BURST

-- are nothing to the transfers
single_inert : (way : Way) (mode d : ℕ) (p : Phase) (m : List ℕ) → action_of (done_entry way mode d p m) ≡ none
single_inert (reads list) mode d p m = refl
single_inert writes mode d p m = refl

inert : (way : Way) (mode d : ℕ) (ps : List Phase) (m : List ℕ) → All (λ e. action_of e ≡ none) (entries_from way mode d ps m)
inert way mode d [] m = tt
inert way mode d (p ∷ ps) m =
    if_case (All (λ e. action_of e ≡ none)) (above last_dword d) [] _ (λ _. tt) (λ _. (single_inert way mode d p m, inert way mode (next mode p.pins d) ps (left_by way mode d p m)))

-- and touch what the burst touches
single_touches : (way : Way) (mode d : ℕ) (p : Phase) (m : List ℕ) → touches (done_entry way mode d p m) ≡ done_touches (kind_of (single way mode d p).kind) (single way mode d p)
single_touches (reads list) mode d p m = refl
single_touches writes mode d p m = refl

touches_each : (p : Touch → Bool) (way : Way) (mode d : ℕ) (ps : List Phase) (m : List ℕ) →
    every p (all_touches (singles_from way mode d ps)) ≡ every (λ e. every p (touches e)) (entries_from way mode d ps m)
touches_each p way mode d [] m = refl
touches_each p way mode d (f ∷ ps) m = by (above last_dword d) (touches_each p way mode (next mode f.pins d) ps (left_by way mode d f m))
  where
    by : (b : Bool) → every p (all_touches (singles_from way mode (next mode f.pins d) ps)) ≡ every (λ e. every p (touches e)) (entries_from way mode (next mode f.pins d) ps (left_by way mode d f m)) →
        every p (all_touches (if b then [] else single way mode d f ∷ singles_from way mode (next mode f.pins d) ps))
        ≡ every (λ e. every p (touches e)) (if b then [] else done_entry way mode d f m ∷ entries_from way mode (next mode f.pins d) ps (left_by way mode d f m))
    by true h = refl
    by false h =
        every_append p (done_touches (kind_of (single way mode d f).kind) (single way mode d f)) (all_touches (singles_from way mode (next mode f.pins d) ps))
        ∙ rw (single_touches way mode d f m, h)

-- A BURST COUNTS AS THEY DO

module _ (w : World) (b : Burst) where
  -- in a world that is fit a burst counts as its single accesses, done or stopped by 13, and has none where it is refused; else it counts as none
  pub counts_fit : fit w ≡ true → counts_as b (burst w b).answer.answer ≡ singles b
  unfolding burst
  counts_fit f = rw f (by (refusal (burst_checks b)) refl)
    where
      stop : (c : Bool) (l : List Access) → (if eqb (if c then 13 else 0) 0 || eqb (if c then 13 else 0) 13 then l else []) ≡ l
      stop true l = refl
      stop false l = refl

      by : (n : ℕ) → refusal (burst_checks b) ≡ n → counts_as b (total n b (run access w (singles b)).entries).answer ≡ singles b
      by zero e = stop (ltb (length (run access w (singles b)).entries) (length b.phases)) (singles b)
      by (suc n) e = let none : singles b ≡ [] = rw (e, eqb-suc-zero n) in subst (λ l. (if eqb (suc n) 0 || eqb (suc n) 13 then l else []) ≡ l) (sym none) (either (eqb (suc n) 0 || eqb (suc n) 13))

  pub counts_unfit : fit w ≡ false → counts_as b (burst w b).answer.answer ≡ []
  unfolding burst
  counts_unfit f = rw f refl

  -- the single accesses in their run
  pub singles_ran : fit w ≡ true → (run access w (singles b)).entries ≡ (if eqb (refusal (burst_checks b)) 0 then entries_from b.way b.mode b.start b.phases w.shared else [])
  singles_ran f = by (eqb (refusal (burst_checks b)) 0)
    where
      by : (c : Bool) → (run access w (if c then singles_from b.way b.mode b.start b.phases else [])).entries ≡ (if c then entries_from b.way b.mode b.start b.phases w.shared else [])
      by true = ap (λ r. r.entries) (run_is b.way b.mode b.start b.phases w f)
      by false = refl

  pub singles_inert : fit w ≡ true → All (λ e. action_of e ≡ none) (run access w (singles b)).entries
  singles_inert f =
      rw (singles_ran f)
      (if_case (All (λ e. action_of e ≡ none)) (eqb (refusal (burst_checks b)) 0) _ [] (λ _. inert b.way b.mode b.start b.phases w.shared) (λ _. tt))

  -- the burst is quiet where each of them is
  pub quiet_counts : (t : Request) → fit w ≡ true → quiet_call t (entry_at noted w (bursting b)) ≡ every (quiet t) (run access w (singles b)).entries
  quiet_counts t f = rw (counts_fit f, singles_ran f) (by (eqb (refusal (burst_checks b)) 0))
    where
      by : (c : Bool) → every (λ touch. not (disturbs t touch)) (all_touches (if c then singles_from b.way b.mode b.start b.phases else []))
          ≡ every (quiet t) (if c then entries_from b.way b.mode b.start b.phases w.shared else [])
      by true = touches_each (λ touch. not (disturbs t touch)) b.way b.mode b.start b.phases w.shared
      by false = refl

-- CHANGING PLACES

pub burst_swapped : (w : World) (o : Burst) (s : Access) (t : Request) (q : List Request) (b : Bool) → opened w ≡ t ∷ q →
    quiet_call t (entry_at noted w (bursting o)) ≡ true → action_of (entry_at access (burst w o).world s) ≡ steps b → Swapped (λ w. burst w o) w s
unfolding burst
burst_swapped w o s t q b u calm k =
    let z = step_told (burst w o).world s b k in
    let f : fit w ≡ true = sym (burst_keeps w o).fits ∙ (step_passed (burst w o).world s z.0 z.1).fits in
    let x = pass (singles o) w s t q b u (singles_inert w o f) (sym (quiet_counts w o t f) ∙ calm) k in
    record {
      step = x.step;
      other = ap (λ b. total (refusal (1 for not b ∷ burst_checks o)) o (run access (access w s).world (singles o)).entries) (stays_fit w s f ∙ sym f) ∙ ap (total (burst_refusal w o) o) x.others;
      world = x.world;
    }
