-- `phases::read_phases` meets its contract: the loop walks along the phases, and what it still has to list is what the single accesses still give.
use Rattle.std.proofs.Common.{arith}
use Rattle.phases.specs.Laws.{list_ends}
use Rattle.phases.proofs.read_phases.Goals as goal

pub returns-then-d-gt-LAST_DWORD-clause-value : goal.returns-then-d-gt-LAST_DWORD-clause-value
returns-then-d-gt-LAST_DWORD-clause-value c = (list_ends _ _ _ _ _ c.loop-i.invariant (λ l m. omega arith) c.requires.2).0

pub returns-then-d-gt-LAST_DWORD-clause-list_after : goal.returns-then-d-gt-LAST_DWORD-clause-list_after
returns-then-d-gt-LAST_DWORD-clause-list_after c = (list_ends _ _ _ _ _ c.loop-i.invariant (λ l m. omega arith) c.requires.2).1

pub returns-clause-list_after : goal.returns-clause-list_after
returns-clause-list_after c = (list_ends _ _ _ _ _ c.loop-i.invariant (λ l m. omega arith) c.requires.2).1
