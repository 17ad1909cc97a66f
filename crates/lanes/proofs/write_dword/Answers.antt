-- `write_dword` meets its contract: the bytes that were there, merged with the dword's, are stored in their place.
use Rattle.std.proofs.Common.{arith, ◌+◌, ◌-◌, ◌∙◌}
use Rattle.lanes.specs.Laws.{write_four}
use Rattle.lanes.proofs.write_dword.Goals as goal

pub returns : goal.returns
returns c =
    write_four c.args.mem.now c.copy_from_slice.new.self c.args.at (c.args.at + 4 - c.args.at) c.args.lanes c.args.dword c.requires (omega arith)
    (rw (c.bytes_at.ensures, c.bytes_of.ensures) at (c.copy_from_slice.ensures.after ∙ c.merged-stored.ensures))
