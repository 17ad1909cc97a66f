-- `entry `, a field, and `put` with its record are stored in turn: 42 bytes hold them.
use Rattle.std.proofs.Common.{append_assoc}
use Rattle.model.specs.WhyText.{holding_text}
use Rattle.decimal.specs.Laws.{then}
use Rattle.why_text.proofs.write_holding.Goals as goal

pub returns-clause-written : goal.returns-clause-written
unfolding holding_text
returns-clause-written c =
    rw append_assoc (then (then c.write_word-p1.ensures c.write_field-p2.ensures.written) c.write_by_record.ensures.written)
