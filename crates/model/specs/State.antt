-- Document 01, "The part we model": the card's record, both memories, sound records, the fresh card.
use Rattle.std.specs.Prelude.{Bool, List, [], ◌∷◌, ℕ, if◌then◌else◌}
use Rattle.model.specs.Choice.{all_of}
use Rattle.model.specs.Settings.{Settings, zero_settings, settings_pass}
use Rattle.model.specs.Fifos.{Fifos, fresh_fifos, fifos_sound}
use Rattle.model.specs.Arbitration.{Arbitration, fresh_arbitration, arbitration_sound}
use Rattle.model.specs.Mailboxes.{Mailboxes, fresh_mailboxes, mailboxes_sound}
use Rattle.model.specs.Interrupts.{Interrupts, fresh_interrupts, interrupts_sound}
use Rattle.model.specs.Transfer.{Transfer, idle, transfer_sound}
use Rattle.model.specs.Dma.{Dma, fresh_dma}

-- the card's record
pub record State : Type 0 where
  pub settings : Settings
  pub fifos : Fifos
  pub arbitration : Arbitration
  pub mailboxes : Mailboxes
  pub interrupts : Interrupts
  pub transfer : Transfer
  pub dma : Dma

-- the card with both memories, a byte to a number
pub record World : Type 0 where
  pub card : State
  pub shared : List ℕ
  pub window : List ℕ

-- "A card record is sound if its settings pass, each FIFO .., no pair .., mailbox data is below 65,536, .."
abbrev pub sound_parts : State → List Bool
sound_parts s =
    settings_pass s.settings
    ∷ fifos_sound s.fifos
    ∷ arbitration_sound s.arbitration
    ∷ mailboxes_sound s.mailboxes
    ∷ interrupts_sound s.interrupts
    ∷ transfer_sound s.transfer ∷ []

unfoldable pub sound : State → Bool
sound s = all_of (sound_parts s)

-- ONE PART REPLACED

abbrev pub with_fifos : Fifos → State → State
with_fifos f s = record { settings = s.settings; fifos = f; arbitration = s.arbitration; mailboxes = s.mailboxes; interrupts = s.interrupts; transfer = s.transfer; dma = s.dma }

abbrev pub with_arbitration : Arbitration → State → State
with_arbitration a s = record { settings = s.settings; fifos = s.fifos; arbitration = a; mailboxes = s.mailboxes; interrupts = s.interrupts; transfer = s.transfer; dma = s.dma }

abbrev pub with_mailboxes : Mailboxes → State → State
with_mailboxes m s = record { settings = s.settings; fifos = s.fifos; arbitration = s.arbitration; mailboxes = m; interrupts = s.interrupts; transfer = s.transfer; dma = s.dma }

abbrev pub with_interrupts : Interrupts → State → State
with_interrupts i s = record { settings = s.settings; fifos = s.fifos; arbitration = s.arbitration; mailboxes = s.mailboxes; interrupts = i; transfer = s.transfer; dma = s.dma }

abbrev pub with_transfer : Transfer → State → State
with_transfer t s = record { settings = s.settings; fifos = s.fifos; arbitration = s.arbitration; mailboxes = s.mailboxes; interrupts = s.interrupts; transfer = t; dma = s.dma }

abbrev pub with_dma : Dma → State → State
with_dma d s = record { settings = s.settings; fifos = s.fifos; arbitration = s.arbitration; mailboxes = s.mailboxes; interrupts = s.interrupts; transfer = s.transfer; dma = d }

-- THE FRESH CARD

-- "A fresh card has empty FIFOs and all else 0, clear or idle."
abbrev pub fresh : Settings → State
fresh settings =
    record { settings = settings; fifos = fresh_fifos; arbitration = fresh_arbitration; mailboxes = fresh_mailboxes; interrupts = fresh_interrupts; transfer = idle; dma = fresh_dma }

-- what a caller who asks for a card gets
pub record NewCard : Type 0 where
  pub number : ℕ
  pub card : State

-- "Failing settings give refusal 1 and the fresh card of all-zero settings."
unfoldable pub fresh_card : Settings → NewCard
fresh_card s =
    if settings_pass s
    then record { number = 0; card = fresh s }
    else record { number = 1; card = fresh zero_settings }

-- "from a fresh card and any two memories"
abbrev pub fresh_world : Settings → (shared window : List ℕ) → World
fresh_world s shared window = record { card = (fresh_card s).card; shared = shared; window = window }
