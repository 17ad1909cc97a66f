-- A walk along the phases, as the loops go it: what is still to be done from place `i` on, at dword `d` and with the memory as it is then. It begins at
-- place 0, goes on by one phase, and ends where no phase is left or the next stands past the last dword.
use Rattle.std.specs.Prelude.{◌≡◌, refl, min, Bool, true, false, not, ◌&&◌, ◌||◌, List, [], ◌∷◌, ◌++◌, map, ℕ, zero, suc, ◌+◌, ◌*◌, ◌≤◌, ◌<◌, eqb, leb, ltb, length, get_or, drop, set}
use Rattle.std.proofs.Common.{ap, sym, ◌∙◌, arith, add-one, length-set, drop_of_length-le, drop-cons, eqb-true, le-ltb, lt-ltb, ltb-true, ltb-false}
use Rattle.std.proofs.Math.Bool.{and_assoc, and-true, or-true}
use Rattle.std.proofs.lemmas.List.{length-map}
use Rattle.std.proofs.lemmas.List.Edits.{sets, sets-eq}
use Rattle.std.proofs.lemmas.Bool.{not-true}
use Rattle.std.proofs.lemmas.Bool.Decides.{nat_tests}
use Rattle.std.specs.List.{fold}
use Rattle.model.specs.Choice.{every}
use Rattle.model.specs.Checks.{refusal, ◌for◌, above}
use Rattle.model.specs.Sides.{local, side_of, not_by}
use Rattle.model.specs.Lanes.{dword_of, bytes_of, stores, read_dword, write_dword}
use Rattle.model.specs.Runs.{Entry}
use Rattle.model.specs.Accesses.{Access, Answer}
use Rattle.model.specs.Bursts as model
use Rattle.model.specs.Bursts.{Way, reads, writes, advances, next, last_dword, list_after, shared_from, entries_from, left_by, value_in}
use Rattle.model.specs.Pins.{decode}
use Rattle.model.proofs.LaneLaws.{Bytes, bytes_dword, dword_bytes}
use Rattle.model.proofs.TestLaws.{and_left, and_right, if_case}
use Rattle.model.proofs.BurstLaws.{left_length}
use Rattle.pins.specs.Laws.{carried_whole}
use Rattle.phases.specs.declared.Phase.{Phase}
use Rattle.phases.specs.Bridge.{phase_as, phases_as, pins_fit, all_low, checks_of}

-- PHASES

-- what stands behind the last phase of a list: nothing is done with it
abbrev pub no_phase : Phase
no_phase = record { pins = 0; dq = 0 }

pub phases_count : (ps : List Phase) → length (phases_as ps) ≡ length ps
phases_count ps = length-map ps phase_as

-- no other mode has bursts
pub no_mode : (mode pins : ℕ) → (mode ≡ 0 → ⊥) → (mode ≡ 1 → ⊥) → (mode ≡ 3 → ⊥) → advances mode pins ≡ false
no_mode zero pins a b c = absurd (a refl)
no_mode (suc zero) pins a b c = absurd (b refl)
no_mode (suc (suc zero)) pins a b c = refl
no_mode (suc (suc (suc zero))) pins a b c = absurd (c refl)
no_mode (suc (suc (suc (suc mode)))) pins a b c = refl

-- all pins low in mode 3: every lane, and the data as they are
whole_decoded : (mode pins dq : ℕ) → (eqb mode 3 && eqb pins 0) ≡ true → decode mode pins dq ≡ record { number = 0; lanes = 0; dword = dword_of (bytes_of 4 dq) }
unfolding decode
whole_decoded mode pins dq e =
    let m = eqb-true mode 3 (and_left (eqb mode 3) (eqb pins 0) e) in
    let p = eqb-true pins 0 (and_right (eqb mode 3) (eqb pins 0) e) in
    rw (m, p) (ap (λ bytes. record { number = 0; lanes = 0; dword = dword_of bytes }) (sym (carried_whole dq)))

pub whole_dword : (mode pins dq : ℕ) → dq < 4294967296 → (eqb mode 3 && eqb pins 0) ≡ true → decode mode pins dq ≡ record { number = 0; lanes = 0; dword = dq }
whole_dword mode pins dq h e = whole_decoded mode pins dq e ∙ ap (λ d. record { number = 0; lanes = 0; dword = d }) (dword_bytes 4 dq h)

pub whole_read : (mode pins dq : ℕ) (m : List ℕ) (at : ℕ) → (eqb mode 3 && eqb pins 0) ≡ true → read_dword m at 0 ≡ read_dword m at (decode mode pins dq).lanes
whole_read mode pins dq m at e = ap (λ d. read_dword m at d.lanes) (sym (whole_decoded mode pins dq e))

-- of what is stored only the lowest four bytes count
pub whole_written : (mode pins dq : ℕ) (m : List ℕ) (at : ℕ) → (eqb mode 3 && eqb pins 0) ≡ true →
    write_dword m at 0 dq ≡ write_dword m at (decode mode pins dq).lanes (decode mode pins dq).dword
unfolding write_dword
whole_written mode pins dq m at e =
    let same : bytes_of 4 dq ≡ bytes_of 4 (dword_of (bytes_of 4 dq)) = sym (bytes_dword (bytes_of 4 dq) (bytes_small dq)) in
    ap (λ bytes. stores bytes m at 0) same ∙ ap (λ d. write_dword m at d.lanes d.dword) (sym (whole_decoded mode pins dq e))
  where
    bytes_small : (dq : ℕ) → Bytes (bytes_of 4 dq)
    bytes_small dq zero = omega arith
    bytes_small dq (suc zero) = omega arith
    bytes_small dq (suc (suc zero)) = omega arith
    bytes_small dq (suc (suc (suc zero))) = omega arith
    bytes_small dq (suc (suc (suc (suc i)))) = omega arith

-- a phase of a whole dword: the dword written, and the dword read
pub low_written : (p : Phase) (m : List ℕ) (d : ℕ) → p.pins ≡ 0 → write_dword m (4 * d) 0 p.dq ≡ left_by writes 3 d (phase_as p) m
low_written p m d e = whole_written 3 p.pins p.dq m (4 * d) (rw e refl)

pub low_read : (p : Phase) (before m : List ℕ) (d : ℕ) → p.pins ≡ 0 → read_dword m (4 * d) 0 ≡ value_in (reads before) 3 d (phase_as p) m
low_read p before m d e = whole_read 3 p.pins p.dq m (4 * d) (rw e refl)

-- the dword address, by what the table says
module _ (mode d : ℕ) {a : Bool} {pins given : ℕ} (p : given ≡ pins) (h : a ≡ advances mode given) where
  pub advanced : a ≡ true → d + 1 ≡ next mode pins d
  advanced e = rw (← p, ← h, e)

  pub stayed : a ≡ false → d ≡ next mode pins d
  stayed e = rw (← p, ← h, e)

-- where the pins of all phases fit, those of each do
pub pins_at : (ps : List Phase) (i : ℕ) → pins_fit (phases_as ps) ≡ true → (get_or ps i no_phase).pins ≤ 15
pins_at [] i h = omega arith
pins_at (p ∷ ps) zero h = ltb-false 15 p.pins (not-true _ (and_left (not (above 15 p.pins)) (pins_fit (phases_as ps)) h))
pins_at (p ∷ ps) (suc i) h = pins_at ps i (and_right (not (above 15 p.pins)) (pins_fit (phases_as ps)) h)

-- where all are low, those of each are
pub low_at : (ps : List Phase) (i : ℕ) → all_low (phases_as ps) ≡ true → (get_or ps i no_phase).pins ≡ 0
low_at [] i h = refl
low_at (p ∷ ps) zero h = eqb-true p.pins 0 (and_left (eqb p.pins 0) (all_low (phases_as ps)) h)
low_at (p ∷ ps) (suc i) h = low_at ps i (and_right (eqb p.pins 0) (all_low (phases_as ps)) h)

-- the test of all phases, as the code gathers it
gathered : (test : Phase → Bool) (of : model.Phase → Bool) → ((p : Phase) → test p ≡ of (phase_as p)) → (b : Bool) (ps : List Phase) →
    fold (λ (a : Bool) (p : Phase). a && test p) b ps ≡ (b && every of (phases_as ps))
gathered test of same b [] = sym (and-true b)
gathered test of same b (p ∷ ps) =
    gathered test of same (b && test p) ps ∙ and_assoc b (test p) (every of (phases_as ps)) ∙ ap (λ c. b && (c && every of (phases_as ps))) (same p)

pub all_fit : (fit : Bool) (ps : List Phase) → fold (λ (a : Bool) (p : Phase). a && leb p.pins 15) fit ps ≡ (fit && pins_fit (phases_as ps))
all_fit = gathered (λ p. leb p.pins 15) (λ p. not (above 15 p.pins)) (λ p. fits p.pins)
  where
    fits : (pins : ℕ) → leb pins 15 ≡ not (above 15 pins)
    fits pins = grind (arith, nat_tests)

pub all_are_low : (low : Bool) (ps : List Phase) → fold (λ (a : Bool) (p : Phase). a && eqb p.pins 0) low ps ≡ (low && all_low (phases_as ps))
all_are_low = gathered (λ p. eqb p.pins 0) (λ p. eqb p.pins 0) (λ p. refl)

-- pins above 15 are refused alike
pub decode_cut : (mode pins dq : ℕ) → decode mode pins dq ≡ decode mode (min pins 255) dq
unfolding decode
decode_cut mode pins dq = by (ltb 255 pins) refl
  where
    by : (b : Bool) → ltb 255 pins ≡ b → decode mode pins dq ≡ decode mode (min pins 255) dq
    by true e =
        let l = ltb-true 255 pins e in
        let m : min pins 255 ≡ 255 = omega arith in
        rw (m, lt-ltb 15 pins (omega arith), or-true)
    by false e =
        let l = ltb-false 255 pins e in
        let m : min pins 255 ≡ pins = omega arith in
        rw m

-- no check of a burst has the number of the overrun
pub not_overrun : (unfit : Bool) (side mode : ℕ) (ps : List model.Phase) (short : Bool) → refusal (checks_of unfit side mode ps short) ≡ 13 → ⊥
not_overrun unfit side mode ps short =
    by unfit (above 1 side) (not_by local (side_of side)) (eqb mode 2 || above 3 mode || above 65536 (length ps)) (not (pins_fit ps)) short
  where
    by : (b c d e f g : Bool) → refusal (1 for b ∷ 2 for c ∷ 5 for d ∷ 12 for e ∷ 4 for f ∷ 14 for g ∷ []) ≡ 13 → ⊥
    by true c d e f g h = omega arith
    by false true d e f g h = omega arith
    by false false true e f g h = omega arith
    by false false false true f g h = omega arith
    by false false false false true g h = omega arith
    by false false false false false true h = omega arith
    by false false false false false false h = omega arith

-- THE WALK

pub record Walk (way : Way) (mode start : ℕ) (ps : List Phase) (before : List ℕ) (memory : List ℕ) (d i : ℕ) : Type 0 where
  pub most : i ≤ length ps
  pub size : length memory ≡ length before
  pub count : i + length (entries_from way mode d (phases_as (drop i ps)) memory) ≡ length (entries_from way mode start (phases_as ps) before)
  pub shared : shared_from way mode d (phases_as (drop i ps)) memory ≡ shared_from way mode start (phases_as ps) before

module _ (way : Way) (mode start : ℕ) (ps : List Phase) (before : List ℕ) where
  pub begins : Walk way mode start ps before before start 0
  begins = record { most = omega arith; size = refl; count = omega arith; shared = refl }

  module _ {memory : List ℕ} {d i : ℕ} (w : Walk way mode start ps before memory d i) where
    -- one phase done
    pub goes_on_lem : i < length ps → d ≤ last_dword → {m : List ℕ} {e : ℕ} → m ≡ left_by way mode d (phase_as (get_or ps i no_phase)) memory → e ≡ next mode (phase_as (get_or ps i no_phase)).pins d →
        Walk way mode start ps before m e (i + 1)
    goes_on_lem l h {m} {e} p q =
        let more : length (entries_from way mode d (phases_as (drop i ps)) memory) ≡ suc (length (entries_from way mode e (phases_as (drop (i + 1) ps)) m)) =
        rw (drop-cons ps i no_phase l, le-ltb last_dword d h, p, q, add-one i) in
        let same : shared_from way mode d (phases_as (drop i ps)) memory ≡ shared_from way mode e (phases_as (drop (i + 1) ps)) m = rw (drop-cons ps i no_phase l, le-ltb last_dword d h, p, q, add-one i) in
        record { most = omega arith; size = ap length p ∙ left_length way mode d (phase_as (get_or ps i no_phase)) memory ∙ w.size; count = omega (arith, w.count); shared = sym same ∙ w.shared }

    -- no phase is left, or it stands past the last dword
    over : (i < length ps → d ≤ last_dword → ⊥) → (entries_from way mode d (phases_as (drop i ps)) memory ≡ []) × (shared_from way mode d (phases_as (drop i ps)) memory ≡ memory)
    over h = by (ltb i (length ps)) refl
      where
        by : (b : Bool) → ltb i (length ps) ≡ b → (entries_from way mode d (phases_as (drop i ps)) memory ≡ []) × (shared_from way mode d (phases_as (drop i ps)) memory ≡ memory)
        by true e =
            let l = ltb-true i (length ps) e in
            rw (drop-cons ps i no_phase l, lt-ltb last_dword d (omega (arith, h l))) (refl, refl)
        by false e = rw (drop_of_length-le ps (ltb-false i (length ps) e)) (refl, refl)

    pub ends : (i < length ps → d ≤ last_dword → ⊥) → (i ≡ length (entries_from way mode start (phases_as ps) before)) × (memory ≡ shared_from way mode start (phases_as ps) before)
    ends h =
        let o = over h in
        let none : length (entries_from way mode d (phases_as (drop i ps)) memory) ≡ 0 = ap length o.0 in
        (omega (arith, w.count), sym o.1 ∙ w.shared)

-- THE LIST OF A READ

abbrev values : List (Entry Access Answer) → List ℕ
values es = map (λ e. e.answer.v) es

pub record Listing (mode start : ℕ) (ps : List Phase) (memory before list : List ℕ) (d i : ℕ) : Type 0 where
  pub walk : Walk (reads before) mode start ps memory memory d i
  pub size : length list ≡ length before
  pub listed : sets list i (values (entries_from (reads before) mode d (phases_as (drop i ps)) memory)) ≡ sets before 0 (values (entries_from (reads before) mode start (phases_as ps) memory))

module _ (mode start : ℕ) (ps : List Phase) (memory before : List ℕ) where
  pub list_begins : Listing mode start ps memory before before start 0
  list_begins = record { walk = begins (reads before) mode start ps memory; size = refl; listed = refl }

  module _ {list : List ℕ} {d i : ℕ} (w : Listing mode start ps memory before list d i) where
    pub list_goes_on : i < length ps → d ≤ last_dword → {v e : ℕ} → v ≡ value_in (reads before) mode d (phase_as (get_or ps i no_phase)) memory → e ≡ next mode (phase_as (get_or ps i no_phase)).pins d →
        Listing mode start ps memory before (set list i v) e (i + 1)
    list_goes_on l h {v} {e} p q =
        let more : values (entries_from (reads before) mode d (phases_as (drop i ps)) memory) ≡ v ∷ values (entries_from (reads before) mode e (phases_as (drop (suc i) ps)) memory) =
        rw (drop-cons ps i no_phase l, le-ltb last_dword d h, p, q) in
        record {
          walk = goes_on_lem (reads before) mode start ps memory w.walk l h refl q;
          size = length-set list i v ∙ w.size;
          listed = rw (add-one i) (sym (ap (sets list i) more) ∙ w.listed);
        }

    pub list_ends : (i < length ps → d ≤ last_dword → ⊥) → length ps ≤ length before →
        (i ≡ length (entries_from (reads before) mode start (phases_as ps) memory)) × (list ≡ list_after (reads before) (entries_from (reads before) mode start (phases_as ps) memory))
    list_ends h r =
        let all = entries_from (reads before) mode start (phases_as ps) memory in
        let count = (ends (reads before) mode start ps memory w.walk h).0 in
        let kept : list ≡ sets before 0 (values all) = sym (ap (λ es. sets list i (values es)) (over (reads before) mode start ps memory w.walk h).0) ∙ w.listed in
        let long : 0 + length (values all) ≡ length all = omega (arith, length-map all (λ e. e.answer.v)) in
        (count, kept ∙ sets-eq (values all) before 0 (omega (arith, w.walk.most)) ∙ ap (λ n. values all ++ drop n before) long)

-- reads leave the memory
pub read_leaves : (list : List ℕ) (mode d : ℕ) (ps : List model.Phase) (m : List ℕ) → shared_from (reads list) mode d ps m ≡ m
read_leaves list mode d [] m = refl
read_leaves list mode d (p ∷ ps) m = if_case (λ (m' : List ℕ). m' ≡ m) (above last_dword d) m _ (λ _. refl) (λ _. read_leaves list mode (next mode p.pins d) ps m)
