-- Behind the line of entries held, a line for each.
use Rattle.model.specs.WhyText.{answer_text}
use Rattle.decimal.specs.Laws.{then}
use Rattle.why_text.specs.Laws.{holdings_count}
use Rattle.why_text.proofs.write_answer.Goals as goal

pub returns-in-Held-clause-written : goal.returns-in-Held-clause-written
unfolding answer_text
returns-in-Held-clause-written c =
    let e = c.in-Ok.e in
    rw (c.in-Ok.is, c.in-Held.is, holdings_count c.in-Held.count e.entries e.records) (then c.write_count-p.ensures.written c.write_holdings.ensures.written)
