-- `card::sound` meets its contract: the tests are those of the definition, in its order.
use Rattle.card.specs.Bridge.{state_as}
use Rattle.card.specs.Laws.{sound_is}
use Rattle.card.proofs.sound.Goals as goal

pub returns : goal.returns
unfolding state_as
returns c = sound_is (state_as c.args.card) _ _ _ _ _ _ c.pass.ensures c.sound.ensures c.sound-2.ensures c.sound-3.ensures c.sound-4.ensures c.sound-5.ensures
