-- `device::fits` meets its contract: its two tests are those of `fit`.
use Rattle.device.specs.Laws.{fit_is}
use Rattle.device.proofs.fits.Goals as goal

pub returns : goal.returns
returns c = λ m w p q. fit_is _ m w _ _ c.sound.ensures (c.lengths_fit.ensures m w p q)
