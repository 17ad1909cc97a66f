-- `read_dword` meets its contract: the four bytes merged into zeros are what the lanes hold.
use Rattle.std.proofs.Common.{ap}
use Rattle.model.specs.Lanes.{dword_of, byte_at, read_dword}
use Rattle.lanes.specs.Laws.{merge_zeros}
use Rattle.lanes.proofs.read_dword.Goals as goal

pub returns : goal.returns
unfolding read_dword
returns c =
    rw (c.dword_of.ensures, c.merged.ensures, c.bytes_at.ensures) (ap dword_of (merge_zeros 4 (byte_at c.args.mem.now) c.args.at c.args.lanes))
