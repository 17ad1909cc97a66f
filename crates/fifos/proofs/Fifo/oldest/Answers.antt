-- `fifos::Fifo::oldest` meets its contract: the first of the array is the oldest of those held.
use Rattle.std.proofs.Common.{rules, ◌≡◌, length}
use Rattle.fifos.specs.Laws.{oldest_first}
use Rattle.fifos.proofs.Fifo.oldest.Goals as goal

pub returns : goal.returns
returns c =
    let f = c.args.self in
    let len : length f.entries ≡ 32 = search rules in
    oldest_first f.entries f.count len c.requires
