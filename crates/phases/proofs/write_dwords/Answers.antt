-- `phases::write_dwords` meets its contract: each phase is a whole dword, and the next stands behind it.
use Rattle.std.proofs.Common.{◌∙◌, refl, arith}
use Rattle.model.specs.Bursts.{writes}
use Rattle.phases.specs.Laws.{low_at, low_written, goes_on_lem, ends}
use Rattle.phases.proofs.write_dwords.Goals as goal

pub loop-i-preserved : goal.loop-i-preserved
loop-i-preserved c =
    let ps = c.args.phases.now in
    let l = c.loop-i in
    goes_on_lem writes 3 c.args.start ps c.args.shared.now l.invariant c.loop-i-test.true (omega arith)
    (c.write_dword.ensures ∙ low_written _ l.shared l.d (low_at ps l.i c.requires.2)) refl

pub returns-then-d-gt-LAST_DWORD-clause-value : goal.returns-then-d-gt-LAST_DWORD-clause-value
returns-then-d-gt-LAST_DWORD-clause-value c = (ends writes _ _ _ _ c.loop-i.invariant (λ l m. omega arith)).0

pub returns-then-d-gt-LAST_DWORD-clause-shared_after : goal.returns-then-d-gt-LAST_DWORD-clause-shared_after
returns-then-d-gt-LAST_DWORD-clause-shared_after c = (ends writes _ _ _ _ c.loop-i.invariant (λ l m. omega arith)).1
