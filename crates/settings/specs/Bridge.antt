-- The code's settings in the model's words.
use Rattle.model.specs.Settings as model
use Rattle.settings.specs.declared.Settings.{Settings}

abbrev pub settings_as : Settings → model.Settings
settings_as s = record { base = s.base; length = s.length; lo = s.lo; hi = s.hi }
