-- `fifos::Fifo::places` meets its contract: those held are the first of the array.
use Rattle.std.proofs.Common.{rules, arith, ◌≡◌, length}
use Rattle.fifos.specs.Laws.{first_entries, zeros_behind}
use Rattle.fifos.proofs.Fifo.places.Goals as goal

pub returns : goal.returns
returns c =
    let f = c.args.self in
    let len : length f.entries ≡ 32 = search rules in
    rw (first_entries f (omega arith), c.fill.ensures.after (λ y e. e)) (zeros_behind f.entries f.count len c.requires)
