-- A burst from the number that its checks give: refused with it, or past it what the loops ask for, and then what they leave.
use Rattle.std.specs.Prelude.{◌≡◌, refl, Bool, true, false, not, ◌||◌, List, [], ℕ, zero, suc, ◌≤◌, eqb, ltb, length, Result, if◌then◌else◌}
use Rattle.std.proofs.Common.{sym, ◌∙◌, arith, lit<, ltb-false}
use Rattle.std.proofs.lemmas.Bool.{not-false}
use Rattle.model.specs.Checks.{refusal, above, shared_length}
use Rattle.model.specs.Accesses.{fit}
use Rattle.model.specs.Bursts.{Way, Burst, short, list_after, shared_from, entries_from}
use Rattle.model.proofs.TestLaws.{or_right}
use Rattle.model.proofs.CheckLaws.{passed_all}
use Rattle.model.proofs.Soundness.{fit_parts}
use Rattle.model.proofs.BurstLaws.{burst_refusal, accepted_is, refused_is}
use Rattle.card.specs.declared.Card.{Card}
use Rattle.card.specs.Bridge.{world_as}
use Rattle.phases.specs.declared.Phase.{Phase}
use Rattle.phases.specs.declared.Stop.{Stop}
use Rattle.phases.specs.Bridge.{phases_as, total_as, pins_fit, checks_of}
use Rattle.phases.specs.Laws.{phases_count}
use Rattle.bursts.specs.Bridge.{Bursted}

-- past the checks: what the loops ask for
pub record Allowed (m : List ℕ) (ps : List Phase) (few : Bool) : Type 0 where
  pub size : length m ≡ shared_length
  pub count : length ps ≤ 65536
  pub pinned : pins_fit (phases_as ps) ≡ true
  pub room : few ≡ false

pub allowed : (card : Card) (m w : List ℕ) (side mode : ℕ) (ps : List Phase) {fits : Bool} (few : Bool) →
    0 ≡ refusal (checks_of (not fits) side mode (phases_as ps) few) → fits ≡ fit (world_as card m w) → Allowed m ps few
allowed card m w side mode ps {fits} few h f =
    let p = passed_all (checks_of (not fits) side mode (phases_as ps) few) (lit< tt, (lit< tt, (lit< tt, (lit< tt, (lit< tt, (lit< tt, tt)))))) (sym h) in
    let q = p.1.1.1 in
    let many : above 65536 (length (phases_as ps)) ≡ false = or_right (eqb mode 2 || above 3 mode) (above 65536 (length (phases_as ps))) q.0 in
    record {
      size = (fit_parts (world_as card m w) (sym f ∙ not-false fits p.0)).shared;
      count = omega (arith, ltb-false 65536 (length (phases_as ps)) many, phases_count ps);
      pinned = not-false _ q.1.0;
      room = q.1.1.0;
    }

-- the number that the checks give
pub numbered : (card : Card) (m w : List ℕ) (way : Way) (side mode start : ℕ) (ps : List Phase) {fits few : Bool} {n : ℕ} →
    n ≡ refusal (checks_of (not fits) side mode (phases_as ps) few) → fits ≡ fit (world_as card m w) → few ≡ short way (length ps) →
    n ≡ burst_refusal (world_as card m w) (record { way = way; side = side; mode = mode; start = start; phases = phases_as ps })
numbered card m w way side mode start ps h f s = h ∙ rw (f, s, phases_count ps)

module _ (card : Card) (m w : List ℕ) (b : Burst) {n : ℕ} (h : n ≡ burst_refusal (world_as card m w) b) (t : Result ℕ Stop) where
  pub refused_burst : (n ≡ 0 → ⊥) → total_as t ≡ record { number = n; v = 0; x = 0 } → Bursted card b m w t (list_after b.way []) m
  refused_burst z e = by n h z e
    where
      by : (n : ℕ) → n ≡ burst_refusal (world_as card m w) b → (n ≡ 0 → ⊥) → total_as t ≡ record { number = n; v = 0; x = 0 } → Bursted card b m w t (list_after b.way []) m
      by zero h z e = absurd (z refl)
      by (suc n) h z e = rw (refused_is (world_as card m w) b n (sym h), e)

  pub done_burst : {m' list : List ℕ} {done phases : ℕ} → n ≡ 0 → total_as t ≡ record { number = if ltb done phases then 13 else 0; v = done; x = 0 } → phases ≡ length b.phases →
      done ≡ length (entries_from b.way b.mode b.start b.phases m) → list ≡ list_after b.way (entries_from b.way b.mode b.start b.phases m) →
      m' ≡ shared_from b.way b.mode b.start b.phases m → Bursted card b m w t list m'
  done_burst z e p d l s = rw (accepted_is (world_as card m w) b (sym h ∙ z), e, p, d, l, s)
