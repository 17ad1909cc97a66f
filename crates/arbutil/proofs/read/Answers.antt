-- `arbutil::read` meets its contract: the value is that of the flags in the card.
use Rattle.arbutil.specs.Laws.{flags_plainly}
use Rattle.arbutil.proofs.read.Goals as goal

pub returns : goal.returns
returns c =
    let a = c.args in
    λ m w. flags_plainly a.card m w a.dword _ c.value.ensures (c.told.ensures m w)
