-- One who asks for a source: any cause that holds gives the empty part, and where none holds the part of the memory that holds the source.
use Rattle.std.specs.Prelude.{◌≡◌, List, ℕ, zero, suc, ◌<◌, eqb, if◌then◌else◌}
use Rattle.std.proofs.Common.{arith, lit≤, lit<}
use Rattle.std.proofs.Math.Dec.{eqb-suc-zero}
use Rattle.model.specs.Checks.{refusal, Holds, Smallest}
use Rattle.model.specs.Settings.{Settings}
use Rattle.model.specs.Transfer.{Request}
use Rattle.model.specs.Source.{Part, shared_memory, source_checks, source_part, source}
use Rattle.model.proofs.CheckLaws.{Ascending, smallest, Pass, passed, pass_refusal}

module _ (s : Settings) (shared window : List ℕ) (t : Request) where
  source_ascending : Ascending 1 (source_checks s shared window t)
  source_ascending = (lit≤ tt, (lit≤ tt, (lit≤ tt, (lit≤ tt, (lit≤ tt, (lit≤ tt, tt))))))

  -- the refusal of a request, which no caller sees
  pub source_smallest : Smallest (refusal (source_checks s shared window t)) (source_checks s shared window t)
  source_smallest = smallest 1 (lit< tt) (source_checks s shared window t) source_ascending

  pub source_passed : refusal (source_checks s shared window t) ≡ 0 → Pass (source_checks s shared window t)
  source_passed h = passed 1 (lit< tt) (source_checks s shared window t) source_ascending h

-- "Any of causes 1, 4, 7, 8, 9 refuses": the empty part at the start of shared memory
pub source_refused : (s : Settings) (shared window : List ℕ) (t : Request) (m : ℕ) → Holds m (source_checks s shared window t) →
    source s shared window t ≡ record { memory = shared_memory; offset = 0; count = 0 }
unfolding source
source_refused s shared window t m h = by (refusal (source_checks s shared window t)) ((source_smallest s shared window t).least m h).0
  where
    by : (n : ℕ) → 0 < n → ◌≡◌ {A = Part} (if eqb n 0 then source_part s t.direction t.shared t.pci t.size else record { memory = shared_memory; offset = 0; count = 0 }) (record { memory = shared_memory; offset = 0; count = 0 })
    by zero l = absurd (omega arith)
    by (suc n) l = rw (eqb-suc-zero n)

-- and where none holds, the part of the memory that holds the source
pub source_given : (s : Settings) (shared window : List ℕ) (t : Request) → Pass (source_checks s shared window t) →
    source s shared window t ≡ source_part s t.direction t.shared t.pci t.size
unfolding source
source_given s shared window t p = rw (pass_refusal (source_checks s shared window t) p)
