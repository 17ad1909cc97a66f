-- `fifos::Fifo::rest` meets its contract: the entries moved down, and one fewer counted, are those after the oldest.
use Rattle.std.proofs.Common.{rules, arith, ◌≡◌, ◌+◌, ◌-◌, length}
use Rattle.fifos.specs.Laws.{moved_down, one_less}
use Rattle.fifos.proofs.Fifo.rest.Goals as goal

pub returns : goal.returns
returns c =
    let f = c.args.self in
    let len : length f.entries ≡ 32 = search rules in
    let one : f.count ≡ f.count - 1 + 1 = omega (arith, c.requires) in
    rw (c.copy_within.ensures.after, moved_down f.entries len) (one_less f.entries f.count (f.count - 1) len one)
