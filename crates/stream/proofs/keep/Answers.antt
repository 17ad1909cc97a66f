-- `stream::keep` meets its contract: the library's move of bytes within a slice.
use Rattle.stream.specs.Laws.{kept_is}
use Rattle.stream.proofs.keep.Goals as goal

pub returns : goal.returns
returns c = kept_is c.args.buffer.now c.copy_within.new.self c.args.at c.args.size c.requires.0 c.requires.1 c.copy_within.ensures.after
