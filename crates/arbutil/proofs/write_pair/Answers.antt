-- `arbutil::write_pair` meets its contract: by the access of its flag, whose bit is no larger than that of the last pair.
use Rattle.std.proofs.Common.{arith}
use Rattle.model.specs.Sides.{side_of}
use Rattle.arbutil.specs.Laws.{bit_bound, pair_written}
use Rattle.arbutil.proofs.write_pair.Goals as goal

pub returns-clause-by_index : goal.returns-clause-by_index
returns-clause-by_index c =
    let a = c.args in
    λ m w. pair_written a.card c.write_flag-written.result (side_of a.side) a.dword a.pair _ _ c.write_flag-written.ensures c.bit_of-bit.ensures c.at_bit.ensures.value m w

pub returns-clause-flag_bound : goal.returns-clause-flag_bound
returns-clause-flag_bound c =
    let b = bit_bound (side_of c.args.side) c.args.pair c.requires in
    omega (arith, b, c.bit_of-bit.ensures, c.at_bit.ensures.upper_bound)
