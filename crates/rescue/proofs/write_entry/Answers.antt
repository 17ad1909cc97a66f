-- The three numbers of the entry are stored in their place.
use Rattle.std.proofs.Common.{◌+◌, ◌-◌, ◌*◌, arith}
use Rattle.model.specs.Rescue.{entry_numbers}
use Rattle.model.proofs.LentListLaws.{entry_three}
use Rattle.scan.specs.Bridge.{entry_as}
use Rattle.rescue.specs.Laws.{part_stored}
use Rattle.rescue.proofs.write_entry.Goals as goal

pub returns : goal.returns
returns c =
    let first = 3 * c.args.place in
    let three = entry_three (entry_as c.args.e) in
    rw (c.copy_from_slice.ensures.after, c.numbers_of.ensures)
    (part_stored c.args.list.now (entry_numbers (entry_as c.args.e)) first (first + 3 - first) (omega (arith, three, c.requires)) (omega (arith, three)))
