-- `fifos::Fifo::with` meets its contract: a store at the count is an entry more at the end.
use Rattle.std.proofs.Common.{rules, ◌≡◌, length}
use Rattle.fifos.specs.Laws.{one_more}
use Rattle.fifos.proofs.Fifo.with.Goals as goal

pub returns : goal.returns
returns c =
    let f = c.args.self in
    let len : length f.entries ≡ 32 = search rules in
    one_more f.entries f.count c.args.entry len c.requires
