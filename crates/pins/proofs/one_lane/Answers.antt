-- `one_lane` meets its contract: one computed test over the four lanes.
use Rattle.pins.specs.Laws.{one_lane_is}
use Rattle.pins.proofs.one_lane.Goals as goal

pub returns : goal.returns
returns c = one_lane_is c.args.lane c.requires
