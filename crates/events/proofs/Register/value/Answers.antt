-- `events::Register::value` meets its contract: 16 bits of status below 16 bits of enables fit 32.
use Rattle.std.proofs.Common.{rules, arith, ◌<◌}
use Rattle.std.proofs.lemmas.Nat.{or_lt}
use Rattle.events.proofs.Register.value.Goals as goal

pub overflow_add-result : goal.overflow_add-result
overflow_add-result c =
    let set = c.insert-status in
    let fits : set.result.0 < 65536 = rw set.ensures (search (rules, or_lt 16)) in
    record { fits = omega arith }
