-- Bursts, once over the modes: the single accesses of a burst that is not refused are all done, and how many there are is told by where its phases
-- stand; each number is given exactly where its cause is the first that holds; a refusal changes nothing, and no burst changes the record.
-- By induction over the phases, from the tables `advances` and `decode`.
use Rattle.std.specs.Prelude.{◌≡◌, refl, ◌≢◌, ◌↔◌, Bool, true, false, not, ◌||◌, List, [], ◌∷◌, map, ℕ, zero, suc, ◌+◌, ◌*◌, ◌%◌, ◌≤◌, ◌<◌, length, get_or, eqb, ltb, if◌then◌else◌}
use Rattle.std.proofs.Common.{ap, sym, ◌∙◌, arith, lit<, le-ltb, lt-ltb, ltb-true, ltb-false}
use Rattle.std.proofs.Math.Seq.{drop-nil}
use Rattle.std.proofs.Math.Dec.{leb-suc-suc, eqb-suc-zero}
use Rattle.std.proofs.lemmas.Bool.{not-true, not-false}
use Rattle.model.specs.Choice.{every, All}
use Rattle.model.specs.Checks.{Check, ◌for◌, refusal, First, above, misplaced, shared_length}
use Rattle.model.specs.Sides.{local, side_of, not_by}
use Rattle.model.specs.Events.{bit}
use Rattle.model.specs.State.{World}
use Rattle.model.specs.Runs.{Outcome, Entry, run}
use Rattle.model.specs.Accesses.{Access, Answer, fit, access}
use Rattle.model.specs.Pins.{lanes8, motorola_rows, lanes_of, Decoded, decode}
use Rattle.model.specs.Bursts.{Phase, Way, reads, writes, Burst, advances, next, last_dword, single, singles_from, short, burst_checks, singles, Told, list_after, total, burst, value_in, left_by, done_entry, entries_from, shared_from}
use Rattle.model.proofs.TestLaws.{no_both, every_get, if_case, or_right}
use Rattle.model.proofs.CheckLaws.{Positive, passed_all, pass_refusal, refusal_append, first_given}
use Rattle.model.proofs.LaneLaws.{length_write}
use Rattle.model.proofs.KindLaws.{unfit_is}

-- A SINGLE ACCESS

-- no lane mask that the pins give is above 15
lanes_fit : (mode pins : ℕ) → above 15 pins ≡ false → above 15 (lanes_of mode pins) ≡ false
lanes_fit zero pins h = le-ltb 15 (lanes8 pins) (omega arith)
lanes_fit (suc zero) pins h =
    if_case (λ n. above 15 n ≡ false) (bit 3 pins) (pins % 4 * 4 + 0b0011) (0b1100 + pins % 4) (λ _. le-ltb 15 (pins % 4 * 4 + 0b0011) (omega arith)) (λ _. le-ltb 15 (0b1100 + pins % 4) (omega arith))
lanes_fit (suc (suc zero)) pins h = not-true _ (every_get (λ n. not (above 15 n)) motorola_rows pins 15 refl refl)
lanes_fit (suc (suc (suc zero))) pins h = h
lanes_fit (suc (suc (suc (suc mode)))) pins h = refl

decode_fit : (mode pins dq : ℕ) → above 15 (decode mode pins dq).lanes ≡ false
unfolding decode
decode_fit mode pins dq =
    if_case (λ (d : Decoded). above 15 d.lanes ≡ false) (above 3 mode || above 15 pins) _ _ (λ _. refl) (λ e. lanes_fit mode pins (or_right (above 3 mode) (above 15 pins) e))

-- a dword of shared memory
dword_placed : (d : ℕ) → above last_dword d ≡ false → misplaced (4 * d) 4 0 shared_length ≡ false
dword_placed d h =
    let l = ltb-false last_dword d h in
    let m : (4 * d) % 4 ≡ 0 = omega arith in
    rw (m, le-ltb (4 * d) 0 (omega arith), le-ltb shared_length (4 * d + 4) (omega arith)) refl

abbrev with_shared : List ℕ → World → World
with_shared m w = record { card = w.card; shared = m; window = w.window }

-- each is done
single_is : (way : Way) (mode d : ℕ) (p : Phase) (w : World) → fit w ≡ true → above last_dword d ≡ false →
    access w (single way mode d p) ≡ record { answer = record { number = 0; v = value_in way mode d p w.shared; x = 0 }; world = with_shared (left_by way mode d p w.shared) w }
unfolding access
single_is (reads list) mode d p w f h = rw (f, decode_fit mode p.pins p.dq, dword_placed d h)
single_is writes mode d p w f h = rw (f, decode_fit mode p.pins p.dq, dword_placed d h)

-- ALL OF THEM

pub left_length : (way : Way) (mode d : ℕ) (p : Phase) (m : List ℕ) → length (left_by way mode d p m) ≡ length m
left_length (reads list) mode d p m = refl
left_length writes mode d p m = length_write m (4 * d) _ _

left_fit : (way : Way) (mode d : ℕ) (p : Phase) (w : World) → fit w ≡ true → fit (with_shared (left_by way mode d p w.shared) w) ≡ true
left_fit way mode d p w f = rw (left_length way mode d p w.shared) f

pub run_is : (way : Way) (mode d : ℕ) (ps : List Phase) (w : World) → fit w ≡ true →
    run access w (singles_from way mode d ps) ≡ record { entries = entries_from way mode d ps w.shared; world = with_shared (shared_from way mode d ps w.shared) w }
run_is way mode d [] w f = refl
run_is way mode d (p ∷ ps) w f =
    by (above last_dword d) refl (run_is way mode (next mode p.pins d) ps (with_shared (left_by way mode d p w.shared) w) (left_fit way mode d p w f))
  where
    by : (b : Bool) → above last_dword d ≡ b →
        run access (with_shared (left_by way mode d p w.shared) w) (singles_from way mode (next mode p.pins d) ps)
        ≡ record {
          entries = entries_from way mode (next mode p.pins d) ps (left_by way mode d p w.shared);
          world = with_shared (shared_from way mode (next mode p.pins d) ps (left_by way mode d p w.shared)) w;
        } →
        run access w (if b then [] else single way mode d p ∷ singles_from way mode (next mode p.pins d) ps)
        ≡ record {
          entries = if b then [] else done_entry way mode d p w.shared ∷ entries_from way mode (next mode p.pins d) ps (left_by way mode d p w.shared);
          world = with_shared (if b then w.shared else shared_from way mode (next mode p.pins d) ps (left_by way mode d p w.shared)) w;
        }
    by true e r = refl
    by false e r = rw (single_is way mode d p w f e, r)

-- a world that is not fit stays as it is
pub unfit_run : (w : World) (l : List Access) → fit w ≡ false → (run access w l).world ≡ w
unfit_run w [] f = refl
unfit_run w (q ∷ l) f = ap (λ (r : Outcome Answer World). (run access r.world l).world) (unfit_is w q f) ∙ unfit_run w l f

-- WHERE THE PHASES STAND

-- the dword at which phase `i` stands, and whether some phase stands past the last dword
abbrev pub dword_at : (mode d : ℕ) → List Phase → (i : ℕ) → ℕ
dword_at mode d [] i = d
dword_at mode d (p ∷ ps) zero = d
dword_at mode d (p ∷ ps) (suc i) = dword_at mode (next mode p.pins d) ps i

-- one dword further for each phase before it that advances
abbrev pub advancing : (mode : ℕ) → List Phase → (i : ℕ) → ℕ
advancing mode [] i = 0
advancing mode (p ∷ ps) zero = 0
advancing mode (p ∷ ps) (suc i) = (if advances mode p.pins then 1 else 0) + advancing mode ps i

pub dword_told : (mode d : ℕ) (ps : List Phase) (i : ℕ) → dword_at mode d ps i ≡ d + advancing mode ps i
dword_told mode d [] i = omega arith
dword_told mode d (p ∷ ps) zero = omega arith
dword_told mode d (p ∷ ps) (suc i) = by (advances mode p.pins) (dword_told mode (next mode p.pins d) ps i)
  where
    by : (b : Bool) → dword_at mode (if b then d + 1 else d) ps i ≡ (if b then d + 1 else d) + advancing mode ps i →
        dword_at mode (if b then d + 1 else d) ps i ≡ d + ((if b then 1 else 0) + advancing mode ps i)
    by true h = omega (arith, h)
    by false h = omega (arith, h)

abbrev pub overruns : (mode d : ℕ) → List Phase → Bool
overruns mode d [] = false
overruns mode d (p ∷ ps) = above last_dword d || overruns mode (next mode p.pins d) ps

-- The phases done stand at a dword; the one that stops the burst stands at none.
pub record Stops (mode d : ℕ) (ps : List Phase) (done : ℕ) (over : Bool) : Type 0 where
  pub told : ltb done (length ps) ≡ over
  pub most : done ≤ length ps
  pub stand : (i : ℕ) → i < done → dword_at mode d ps i ≤ last_dword
  pub stopped : over ≡ true → last_dword < dword_at mode d ps done

pub stops : (way : Way) (mode d : ℕ) (ps : List Phase) → Stops mode d ps (length (singles_from way mode d ps)) (overruns mode d ps)
stops way mode d [] = record { told = refl; most = omega arith; stand = λ i l. absurd (omega arith); stopped = λ h. no_both h }
stops way mode d (p ∷ ps) = by (above last_dword d) refl (stops way mode (next mode p.pins d) ps)
  where
    by : (b : Bool) → above last_dword d ≡ b → Stops mode (next mode p.pins d) ps (length (singles_from way mode (next mode p.pins d) ps)) (overruns mode (next mode p.pins d) ps) →
        Stops mode d (p ∷ ps) (length (if b then [] else single way mode d p ∷ singles_from way mode (next mode p.pins d) ps)) (b || overruns mode (next mode p.pins d) ps)
    by true e s = record { told = lt-ltb 0 (suc (length ps)) (omega arith); most = omega arith; stand = λ i l. absurd (omega arith); stopped = λ _. ltb-true last_dword d e }
    by false e s = record {
      told = leb-suc-suc (suc (length (singles_from way mode (next mode p.pins d) ps))) (length ps) ∙ s.told;
      most = let l = s.most in omega arith;
      stand = λ i. at i;
      stopped = s.stopped;
    }
      where
        at : (i : ℕ) → i < suc (length (singles_from way mode (next mode p.pins d) ps)) → dword_at mode d (p ∷ ps) i ≤ last_dword
        at zero l = ltb-false last_dword d e
        at (suc i) l = s.stand i (omega arith)

-- single access i is that of phase i, at the dword where it stands
pub single_at : (way : Way) (mode d : ℕ) (ps : List Phase) (i : ℕ) (q : Access) (p : Phase) → i < length (singles_from way mode d ps) →
    get_or (singles_from way mode d ps) i q ≡ single way mode (dword_at mode d ps i) (get_or ps i p)
single_at way mode d [] i q p h = absurd (omega arith)
single_at way mode d (f ∷ ps) i q p h = by (above last_dword d) i h (λ i l. single_at way mode (next mode f.pins d) ps i q p l)
  where
    by : (b : Bool) (i : ℕ) → i < length (if b then [] else single way mode d f ∷ singles_from way mode (next mode f.pins d) ps) →
        ((i : ℕ) → i < length (singles_from way mode (next mode f.pins d) ps) → get_or (singles_from way mode (next mode f.pins d) ps) i q ≡ single way mode (dword_at mode (next mode f.pins d) ps i) (get_or ps i p)) →
        get_or (if b then [] else single way mode d f ∷ singles_from way mode (next mode f.pins d) ps) i q ≡ single way mode (dword_at mode d (f ∷ ps) i) (get_or (f ∷ ps) i p)
    by true i l r = absurd (omega arith)
    by false zero l r = refl
    by false (suc i) l r = r i (omega arith)

-- "13 iff some phase stands at d > 4,095"
pub overruns_iff : (mode d : ℕ) (ps : List Phase) → (overruns mode d ps ≡ true) ↔ ((i : ℕ) × (i < length ps) × (last_dword < dword_at mode d ps i))
overruns_iff mode d ps = (forth (stops writes mode d ps), back (stops writes mode d ps))
  where
    forth : {n : ℕ} → Stops mode d ps n (overruns mode d ps) → overruns mode d ps ≡ true → (i : ℕ) × (i < length ps) × (last_dword < dword_at mode d ps i)
    forth {n} s h = (n, ltb-true n (length ps) (s.told ∙ h), s.stopped h)

    back : {n : ℕ} → Stops mode d ps n (overruns mode d ps) → ((i : ℕ) × (i < length ps) × (last_dword < dword_at mode d ps i)) → overruns mode d ps ≡ true
    back {n} s (i, l, h) = sym s.told ∙ lt-ltb n (length ps) (by (ltb i n) refl)
      where
        by : (b : Bool) → ltb i n ≡ b → n < length ps
        by true e = absurd (let k = s.stand i (ltb-true i n e) in omega arith)
        by false e = let k = ltb-false i n e in omega arith

-- THE NUMBERS

-- The causes in their order, 13 the last, written out here once more.
abbrev pub burst_causes : World → Burst → List Check
burst_causes w b =
    1 for not (fit w)
    ∷ 2 for above 1 b.side
    ∷ 5 for not_by local (side_of b.side)
    ∷ 12 for (eqb b.mode 2 || above 3 b.mode || above 65536 (length b.phases))
    ∷ 4 for not (every (λ p. not (above 15 p.pins)) b.phases)
    ∷ 14 for short b.way (length b.phases)
    ∷ 13 for overruns b.mode b.start b.phases ∷ []

-- those before 13
abbrev pub burst_refusal : World → Burst → ℕ
burst_refusal w b = refusal (1 for not (fit w) ∷ burst_checks b)

positive : (w : World) (b : Burst) → Positive (1 for not (fit w) ∷ burst_checks b)
positive w b = (lit< tt, (lit< tt, (lit< tt, (lit< tt, (lit< tt, (lit< tt, tt))))))

-- past them the record and the memories are fit, and the single accesses are those of the phases
pub accepted : (w : World) (b : Burst) → burst_refusal w b ≡ 0 → (fit w ≡ true) × (singles b ≡ singles_from b.way b.mode b.start b.phases)
accepted w b h =
    let p = passed_all (1 for not (fit w) ∷ burst_checks b) (positive w b) h in
    (not-false (fit w) p.0, ap (λ n. if eqb n 0 then singles_from b.way b.mode b.start b.phases else []) (pass_refusal (burst_checks b) p.1))

-- WHAT A BURST GIVES

-- done, or stopped by 13: the single accesses with their answers, and shared memory as they leave it
pub accepted_is : (w : World) (b : Burst) → burst_refusal w b ≡ 0 →
    burst w b ≡ record {
      answer = total 0 b (entries_from b.way b.mode b.start b.phases w.shared);
      world = with_shared (shared_from b.way b.mode b.start b.phases w.shared) w;
    }
unfolding burst
accepted_is w b h = let a = accepted w b h in rw (h, a.1, run_is b.way b.mode b.start b.phases w a.0)

-- refused: nothing changes
pub refused_is : (w : World) (b : Burst) (n : ℕ) → burst_refusal w b ≡ suc n →
    burst w b ≡ record { answer = record { answer = record { number = suc n; v = 0; x = 0 }; list = list_after b.way [] }; world = w }
unfolding burst
refused_is w b n h =
    rw h (ap (λ w'. record { answer = record { answer = record { number = suc n; v = 0; x = 0 }; list = list_after b.way [] }; world = w' }) (by (fit w) refl h))
  where
    by : (f : Bool) → fit w ≡ f → (if not f then 1 else refusal (burst_checks b)) ≡ suc n → (run access w (singles b)).world ≡ w
    by true e r = rw (r, eqb-suc-zero n)
    by false e r = unfit_run w (singles b) e

run_count : (w : World) (l : List Access) → length (run access w l).entries ≡ length l
run_count w [] = refl
run_count w (q ∷ l) = ap suc (run_count (access w q).world l)

-- 1, 2, 5, 12, 4, 14 and 13, "each iff its cause holds and none before it"
number_is : (w : World) (b : Burst) → (burst w b).answer.answer.number ≡ refusal (burst_causes w b)
unfolding burst
number_is w b = by (burst_refusal w b) refl ∙ sym (refusal_append (1 for not (fit w) ∷ burst_checks b) (13 for overruns b.mode b.start b.phases ∷ []) (positive w b))
  where
    by : (n : ℕ) → burst_refusal w b ≡ n →
        (total n b (run access w (singles b)).entries).answer.number ≡ (if eqb n 0 then (if overruns b.mode b.start b.phases then 13 else 0) else n)
    by zero e = rw (run_count w (singles b), (accepted w b e).1, (stops b.way b.mode b.start b.phases).told)
    by (suc n) e = rw (eqb-suc-zero n)

pub burst_given_iff : (w : World) (b : Burst) (n : ℕ) → 0 < n → ((burst w b).answer.answer.number ≡ n) ↔ First n (burst_causes w b)
burst_given_iff w b n z = rw (number_is w b) (first_given (burst_causes w b) n z)

-- the list that was lent, as it was
abbrev pub lent : Way → List ℕ
lent (reads list) = list
lent writes = []

-- "all changing nothing", but for 13
pub burst_refusal_changes_nothing : (w : World) (b : Burst) → (burst w b).answer.answer.number ≢ 0 → (burst w b).answer.answer.number ≢ 13 →
    burst w b ≡ record { answer = record { answer = record { number = burst_refusal w b; v = 0; x = 0 }; list = lent b.way }; world = w }
burst_refusal_changes_nothing w b y z = by (burst_refusal w b) refl
  where
    stop : (o : Bool) → (burst w b).answer.answer.number ≡ (if o then 13 else 0) → ⊥
    stop true h = z h
    stop false h = y h

    as_lent : (way : Way) → list_after way [] ≡ lent way
    as_lent (reads list) = refl
    as_lent writes = refl

    by : (n : ℕ) → burst_refusal w b ≡ n → burst w b ≡ record { answer = record { answer = record { number = n; v = 0; x = 0 }; list = lent b.way }; world = w }
    by zero e = absurd (stop (ltb (length (entries_from b.way b.mode b.start b.phases w.shared)) (length b.phases)) (ap (λ (r : Outcome Told World). r.answer.answer.number) (accepted_is w b e)))
    by (suc n) e = refused_is w b n e ∙ ap (λ l. record { answer = record { answer = record { number = suc n; v = 0; x = 0 }; list = l }; world = w }) (as_lent b.way)

-- "A read list gets each phase's V; its other places stay": as many places as were lent, and place by place, with `x` for one that is not there
pub list_length : (list : List ℕ) (es : List (Entry Access Answer)) → length es ≤ length list → length (list_after (reads list) es) ≡ length list
list_length list [] h = refl
list_length [] (e ∷ es) h = absurd (omega arith)
list_length (v ∷ list) (e ∷ es) h = ap suc (list_length list es (omega arith))

pub list_place : (x : ℕ) (list : List ℕ) (es : List (Entry Access Answer)) (i : ℕ) →
    get_or (list_after (reads list) es) i x ≡ (if ltb i (length es) then get_or (map (λ e. e.answer.v) es) i x else get_or list i x)
list_place x list [] i = rw (le-ltb i 0 (omega arith))
list_place x [] (e ∷ es) zero = rw (lt-ltb 0 (suc (length es)) (omega arith))
list_place x (v ∷ list) (e ∷ es) zero = rw (lt-ltb 0 (suc (length es)) (omega arith))
list_place x [] (e ∷ es) (suc i) = rw (leb-suc-suc (suc i) (length es)) (rw (drop-nil (length es)) at (list_place x [] es i))
list_place x (v ∷ list) (e ∷ es) (suc i) = rw (leb-suc-suc (suc i) (length es)) (list_place x list es i)

-- a write is told no list
pub no_list : (w : World) (b : Burst) → b.way ≡ writes → (burst w b).answer.list ≡ []
unfolding burst
no_list w b e = by (burst_refusal w b)
  where
    by : (n : ℕ) → (total n b (run access w (singles b)).entries).list ≡ []
    by zero = ap (λ way. list_after way (run access w (singles b)).entries) e
    by (suc n) = ap (λ way. list_after way []) e

run_each : (way : Way) (mode d : ℕ) (ps : List Phase) (m : List ℕ) → All (λ e. e.answer.number ≡ 0) (entries_from way mode d ps m)
run_each way mode d [] m = tt
run_each way mode d (p ∷ ps) m =
    if_case (All (λ (e : Entry Access Answer). e.answer.number ≡ 0)) (above last_dword d) [] _ (λ _. tt) (λ _. (refl, run_each way mode (next mode p.pins d) ps (left_by way mode d p m)))

-- T10.1: a burst that none of 1, 2, 5, 12, 4 and 14 refuses. The phases done are all of them, or those before the first past the last dword.
pub record BurstDone (w : World) (b : Burst) : Type 0 where
  pub world : (burst w b).world ≡ (run access w (singles b)).world
  pub each : All (λ e. e.answer.number ≡ 0) (run access w (singles b)).entries
  pub number : ((burst w b).answer.answer.number ≡ 13) ↔ ((i : ℕ) × (i < length b.phases) × (last_dword < dword_at b.mode b.start b.phases i))
  pub otherwise : (burst w b).answer.answer.number ≢ 13 → (burst w b).answer.answer.number ≡ 0
  pub v : (burst w b).answer.answer.v ≡ length (singles b)
  pub stopped : Stops b.mode b.start b.phases (length (singles b)) (eqb (burst w b).answer.answer.number 13)
  pub single : (i : ℕ) (q : Access) (p : Phase) → i < length (singles b) → get_or (singles b) i q ≡ single b.way b.mode (dword_at b.mode b.start b.phases i) (get_or b.phases i p)
  pub x : (burst w b).answer.answer.x ≡ 0
  pub list : (burst w b).answer.list ≡ list_after b.way (run access w (singles b)).entries

pub burst_done : (w : World) (b : Burst) → burst_refusal w b ≡ 0 → BurstDone w b
unfolding burst
burst_done w b h =
    let a = accepted w b h in
    let s = stops b.way b.mode b.start b.phases in
    let o = overruns_iff b.mode b.start b.phases in
    let told : (burst w b).answer.answer.number ≡ (if overruns b.mode b.start b.phases then 13 else 0) =
    rw (h, run_count w (singles b), a.1, s.told) in
    record {
      world = refl;
      each = rw (a.1, run_is b.way b.mode b.start b.phases w a.0) (run_each b.way b.mode b.start b.phases w.shared);
      number = (λ e. o.0 (of_13 (overruns b.mode b.start b.phases) (sym told ∙ e)), λ e. told ∙ rw (o.1 e));
      otherwise = λ e. or_0 (overruns b.mode b.start b.phases) told e;
      v = rw h (run_count w (singles b));
      stopped = rw (told, tells (overruns b.mode b.start b.phases), a.1) s;
      single = λ i q p l. rw a.1 (single_at b.way b.mode b.start b.phases i q p (rw a.1 at l));
      x = rw h;
      list = rw h;
    }
  where
    of_13 : (o : Bool) → ◌≡◌ {A = ℕ} (if o then 13 else 0) 13 → o ≡ true
    of_13 true e = refl
    of_13 false e = absurd (omega arith)

    tells : (o : Bool) → eqb (if o then 13 else 0) 13 ≡ o
    tells true = refl
    tells false = refl

    or_0 : (o : Bool) {n : ℕ} → n ≡ (if o then 13 else 0) → n ≢ 13 → n ≡ 0
    or_0 true e z = absurd (z e)
    or_0 false e z = e

-- THE RECORD AND THE WINDOW

-- "The record never changes"; nor does the window, nor whether the record and the memories are fit.
pub record Kept (w w' : World) : Type 0 where
  pub card : w'.card ≡ w.card
  pub window : w'.window ≡ w.window
  pub fits : fit w' ≡ fit w

shared_length_lem : (way : Way) (mode d : ℕ) (ps : List Phase) (m : List ℕ) → length (shared_from way mode d ps m) ≡ length m
shared_length_lem way mode d [] m = refl
shared_length_lem way mode d (p ∷ ps) m =
    if_case (λ (m' : List ℕ). length m' ≡ length m) (above last_dword d) m _ (λ _. refl) (λ _. shared_length_lem way mode (next mode p.pins d) ps (left_by way mode d p m) ∙ left_length way mode d p m)

pub burst_keeps : (w : World) (b : Burst) → Kept w (burst w b).world
burst_keeps w b = by (burst_refusal w b) refl
  where
    by : (n : ℕ) → burst_refusal w b ≡ n → Kept w (burst w b).world
    by zero e = rw (accepted_is w b e) (record { card = refl; window = refl; fits = rw (shared_length_lem b.way b.mode b.start b.phases w.shared) })
    by (suc n) e = rw (refused_is w b n e) (record { card = refl; window = refl; fits = refl })
