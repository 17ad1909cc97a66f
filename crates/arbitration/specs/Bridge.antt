-- The code's pairs of flags in the model's words.
use Rattle.std.specs.Prelude.{map}
use Rattle.model.specs.Arbitration as model
use Rattle.arbitration.specs.declared.Pair.{Pair}
use Rattle.arbitration.specs.declared.Arbitration.{Arbitration}

abbrev pub pair_as : Pair → model.Pair
pair_as p = record { of_host = p.host; of_local = p.local }

abbrev pub arbitration_as : Arbitration → model.Arbitration
arbitration_as a = map pair_as a.pairs
