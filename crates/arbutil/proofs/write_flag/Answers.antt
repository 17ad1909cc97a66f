-- `arbutil::write_flag` meets its contract: by the bit that is written.
use Rattle.model.specs.Sides.{side_of}
use Rattle.model.specs.Accesses as words
use Rattle.card.specs.Laws.{did_asked}
use Rattle.arbutil.specs.Laws.{flag_claimed, flag_released}
use Rattle.arbutil.proofs.write_flag.Goals as goal

pub returns-then-dword-bit-eq1 : goal.returns-then-dword-bit-eq1
returns-then-dword-bit-eq1 c =
    let a = c.args in
    λ m w. flag_claimed a.card m w (side_of a.side) a.dword a.pair a.bit _ c.requires.pair_bound c.requires.bit_value c.if-dword-bit-eq1.true
    (did_asked words.claim a.card _ m w _ c.asked.ensures (c.claim.ensures m w))

pub returns : goal.returns
returns c =
    let a = c.args in
    λ m w. flag_released a.card m w (side_of a.side) a.dword a.pair a.bit _ c.requires.pair_bound c.requires.bit_value c.if-dword-bit-eq1.false
    (did_asked words.release a.card _ m w _ c.asked-2.ensures (c.release.ensures m w))
