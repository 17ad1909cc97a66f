-- The line is stored, its words and the field in turn.
use Rattle.std.proofs.Common.{◌≡◌, ap, Bor, List, ℕ}
use Rattle.decimal.specs.Laws.{then}
use Rattle.report.specs.Bridge.{call_text, failed_text}
use Rattle.report.proofs.write_failed.Goals as goal
use Rattle.report.proofs.write_failed.Goals.{then-reading, else-reading}

pub returns-clause-written : goal.returns-clause-written
unfolding failed_text
returns-clause-written c =
    let call : c.if-reading.call.now ≡ call_text c.args.reading = elim c.if-reading.branch [ then-reading w ↦ rw w.if-reading.true (ap (λ (r : Bor (List ℕ)). r.now) w.call-is) | else-reading w ↦ rw w.if-reading.false (ap (λ (r : Bor (List ℕ)). r.now) w.call-is) ] in
    then (then (then (rw call at c.write_word-p1.ensures) c.write_word-p2.ensures) c.write_field-p3.ensures.written) c.write_word.ensures
