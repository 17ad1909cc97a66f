-- `arbutil::write` meets its contract: four pairs one after another are all of them at once.
use Rattle.model.specs.Sides.{side_of}
use Rattle.arbutil.specs.Laws.{four_written}
use Rattle.arbutil.proofs.write.Goals as goal

pub returns : goal.returns
returns c =
    let a = c.args in
    λ m w. rw c.done.ensures
    (four_written a.card (side_of a.side) a.dword m w _ _ _ _ _ _ _ _ (c.write_pair-first.ensures.by_index m w) (c.write_pair-second.ensures.by_index m w) (c.write_pair-third.ensures.by_index m w) (c.write_pair-fourth.ensures.by_index m w))
