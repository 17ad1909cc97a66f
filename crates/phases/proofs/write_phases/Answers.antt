-- `phases::write_phases` meets its contract: the loop walks along the phases, and what it still has to write is what the single accesses still leave.
use Rattle.std.proofs.Common.{◌∙◌, arith}
use Rattle.model.specs.Bursts.{writes}
use Rattle.phases.specs.Laws.{ends}
use Rattle.phases.proofs.write_phases.Goals as goal

pub write_phase-requires : goal.write_phase-requires
write_phase-requires c = (c.loop-i.invariant.size ∙ c.requires.0, omega arith)

pub returns-then-d-gt-LAST_DWORD-clause-value : goal.returns-then-d-gt-LAST_DWORD-clause-value
returns-then-d-gt-LAST_DWORD-clause-value c = (ends writes _ _ _ _ c.loop-i.invariant (λ l m. omega arith)).0

pub returns-then-d-gt-LAST_DWORD-clause-shared_after : goal.returns-then-d-gt-LAST_DWORD-clause-shared_after
returns-then-d-gt-LAST_DWORD-clause-shared_after c = (ends writes _ _ _ _ c.loop-i.invariant (λ l m. omega arith)).1
