-- `phases::read_dwords` meets its contract: each phase is a whole dword, and the next stands behind it.
use Rattle.std.proofs.Common.{◌∙◌, refl, arith}
use Rattle.phases.specs.Laws.{low_at, low_read, list_goes_on, list_ends}
use Rattle.phases.proofs.read_dwords.Goals as goal

pub loop-i-preserved : goal.loop-i-preserved
loop-i-preserved c =
    let ps = c.args.phases.now in
    let l = c.loop-i in
    list_goes_on 3 c.args.start ps c.args.shared.now c.args.list.now l.invariant c.loop-i-test.true (omega arith)
    (c.read_dword.ensures ∙ low_read _ c.args.list.now c.args.shared.now l.d (low_at ps l.i c.requires.3)) refl

pub returns-then-d-gt-LAST_DWORD-clause-value : goal.returns-then-d-gt-LAST_DWORD-clause-value
returns-then-d-gt-LAST_DWORD-clause-value c = (list_ends _ _ _ _ _ c.loop-i.invariant (λ l m. omega arith) c.requires.2).0

pub returns-then-d-gt-LAST_DWORD-clause-list_after : goal.returns-then-d-gt-LAST_DWORD-clause-list_after
returns-then-d-gt-LAST_DWORD-clause-list_after c = (list_ends _ _ _ _ _ c.loop-i.invariant (λ l m. omega arith) c.requires.2).1

pub returns-clause-list_after : goal.returns-clause-list_after
returns-clause-list_after c = (list_ends _ _ _ _ _ c.loop-i.invariant (λ l m. omega arith) c.requires.2).1
