-- `why_text::ask` meets its contract: two numbers are asked for, as far as they matter, and all else gets the usage line.
use Rattle.std.proofs.Common.{◌≡◌, length, rules, IfOk}
use Rattle.model.specs.WhyText.{usage_text}
use Rattle.why_text.specs.Laws.{few_held, asked, no_side, no_position}
use Rattle.why_text.proofs.ask.Goals as goal
use Rattle.why_text.proofs.ask.Goals.{in_default-via-in-Some+in_default, in_default-via-in_default}

pub write_answer-requires-clause-case_bound : goal.write_answer-requires-clause-case_bound
write_answer-requires-clause-case_bound c =
    let places : IfOk c.why-answer.result (λ e. length e.entries ≡ 32) = search rules in
    few_held c.why-answer.result _ places c.why-answer.ensures

pub returns-in_default-clause-by_index : goal.returns-in_default-clause-by_index
unfolding usage_text
returns-in_default-clause-by_index c s p k l =
    elim c.in_default.branch [
      | in_default-via-in-Some+in_default w ↦ rw (no_position _ s p (rw w.in_default.is-1 at l)) c.write_word.ensures
      | in_default-via-in_default w ↦ rw (no_side _ s p (rw w.in_default.is-0 at k)) c.write_word.ensures
    ]

pub returns-clause-by_index : goal.returns-clause-by_index
returns-clause-by_index c s p k l =
    let o = c.in-Some-Some in
    rw (asked _ s p o.side o.position (rw o.is-0 at k) (rw o.is-1 at l) c.why-answer.result c.why-answer.ensures) c.write_answer.ensures.written
