-- The words that the stored equations are written in, and what each kind of equation says.
use Rattle.std.specs.Prelude.{◌≡◌, Bool, true, false, List, [], ◌∷◌, ◌++◌, map, ℕ, replicate}
use Rattle.model.specs.Settings.{Settings}
use Rattle.model.specs.Arbitration.{Pair}
use Rattle.model.specs.Sides.{host}
use Rattle.model.specs.Bays.{Found, bay_index}
use Rattle.model.specs.Mailboxes.{Mailboxes, label_for}
use Rattle.model.specs.Interrupts.{Interrupts}
use Rattle.model.specs.Transfer.{Request, idle}
use Rattle.model.specs.Dma.{Dma}
use Rattle.model.specs.State.{State, World, NewCard, sound, fresh_card}
use Rattle.model.specs.Runs.{Entry, run}
use Rattle.model.specs.Accesses.{Access, Answer, access}
use Rattle.model.specs.Calls.{call}
use Rattle.model.specs.Bench.{CallCase}
use Rattle.model.specs.Source.{Memory, Part, source}
use Rattle.model.specs.Pins.{Decoded, decode}
use Rattle.model.specs.Convert.{trace_form, written}
use Rattle.model.specs.Why as why
use Rattle.model.specs.Rescue as rescue
use Rattle.model.specs.Rescue.{entries}

abbrev pub settings : (base length lo hi : ℕ) → Settings
settings base length lo hi = record { base = base; length = length; lo = lo; hi = hi }

abbrev pub pair : (of_host of_local : Bool) → Pair
pair h l = record { of_host = h; of_local = l }

abbrev pub mail : (hldata lhdata : ℕ) → (lhwritten : Bool) → Mailboxes
mail hl lh written = record { hldata = hl; lhdata = lh; lhwritten = written }

abbrev pub interrupts : (hint_enables hint_status lint_enables lint_status : ℕ) → Interrupts
interrupts he hs le ls = record { hint = record { enables = he; status = hs }; lint = record { enables = le; status = ls } }

abbrev pub request : (direction shared pci size : ℕ) → Request
request d a b c = record { direction = d; shared = a; pci = b; size = c }

abbrev pub dma : (shared pci size : ℕ) → (owner : Pair) → (inhibit outward : Bool) → Dma
dma a b c owner inhibit outward = record { shared = a; pci = b; size = c; owner = owner; inhibit = inhibit; outward = outward }

-- A card that nobody has used, written out here once more: stored cards are changes of it, each naming the parts that differ.
abbrev pub untouched : Settings → State
untouched s =
    record { settings = s; fifos = [] ∷ [] ∷ [] ∷ [] ∷ []; arbitration = pair false false ∷ pair false false ∷ pair false false ∷ pair false false ∷ []; mailboxes = mail 0 0 false; interrupts = interrupts 0 0 0 0; transfer = idle; dma = dma 0 0 0 (pair false false) false false }

abbrev pub world : State → (shared window : List ℕ) → World
world c shared window = record { card = c; shared = shared; window = window }

-- a memory in pieces: so many zeros, then these bytes
abbrev pub bytes : List (ℕ × List ℕ) → List ℕ
bytes [] = []
bytes (p ∷ ps) = replicate p.0 0 ++ (p.1 ++ bytes ps)

abbrev pub part : Memory → (offset count : ℕ) → Part
part m offset count = record { memory = m; offset = offset; count = count }

-- Run from a world, the accesses of the entries get the answers of the entries and leave another world.
abbrev pub RunAgrees : World → List (Entry Access Answer) → World → Type 0
RunAgrees w entries last = run access w (map (λ e. e.access) entries) ≡ record { entries = entries; world = last }

-- the same of calls, register accesses among them
abbrev pub CallsAgree : World → List CallCase → World → Type 0
CallsAgree w calls last = run call w (map (λ e. e.access) calls) ≡ record { entries = calls; world = last }

-- a source asked for, of zeroed memories of these lengths, and the part expected
pub record SourceCase : Type 0 where
  pub settings : Settings
  pub shared_length : ℕ
  pub window_length : ℕ
  pub request : Request
  pub expected : Part

abbrev pub source_case : Settings → (shared_length window_length : ℕ) → Request → Part → SourceCase
source_case s m n r p = record { settings = s; shared_length = m; window_length = n; request = r; expected = p }

abbrev pub SourcesAgree : List SourceCase → Type 0
SourcesAgree cases =
    map (λ c. source c.settings (replicate c.shared_length 0) (replicate c.window_length 0) c.request) cases ≡ map (λ c. c.expected) cases

-- width mode, pins and data, and what they decode to
pub record PinCase : Type 0 where
  pub mode : ℕ
  pub pins : ℕ
  pub dq : ℕ
  pub expected : Decoded

abbrev pub pin_case : (mode pins dq number lanes dword : ℕ) → PinCase
pin_case mode pins dq number lanes dword = record { mode = mode; pins = pins; dq = dq; expected = record { number = number; lanes = lanes; dword = dword } }

abbrev pub PinsAgree : List PinCase → Type 0
PinsAgree cases = map (λ c. decode c.mode c.pins c.dq) cases ≡ map (λ c. c.expected) cases

-- a number; as an index, the label that a host read of it has; as a label, the index that it belongs to
pub record BayCase : Type 0 where
  pub number : ℕ
  pub label : ℕ
  pub index : Found

abbrev pub bay_case : (number label : ℕ) → (index : Found) → BayCase
bay_case number label index = record { number = number; label = label; index = index }

abbrev pub BaysAgree : List BayCase → Type 0
BaysAgree cases = map (λ c. bay_case c.number (label_for host (mail 0 c.number true)) (bay_index c.number)) cases ≡ cases

-- a record, and whether it is sound
pub record SoundCase : Type 0 where
  pub card : State
  pub expected : Bool

abbrev pub sound_case : State → Bool → SoundCase
sound_case c b = record { card = c; expected = b }

abbrev pub SoundnessAgrees : List SoundCase → Type 0
SoundnessAgrees cases = map (λ c. sound c.card) cases ≡ map (λ c. c.expected) cases

-- settings, and the number and the card that they give
pub record FreshCase : Type 0 where
  pub settings : Settings
  pub expected : NewCard

abbrev pub fresh_case : Settings → (number : ℕ) → State → FreshCase
fresh_case s n c = record { settings = s; expected = record { number = n; card = c } }

abbrev pub FreshAgrees : List FreshCase → Type 0
FreshAgrees cases = map (λ c. fresh_card c.settings) cases ≡ map (λ c. c.expected) cases

-- a damaged trace, and its entries
pub record EntriesCase : Type 0 where
  pub trace : List ℕ
  pub expected : List rescue.Entry

abbrev pub entries_case : (trace : List ℕ) → List rescue.Entry → EntriesCase
entries_case trace es = record { trace = trace; expected = es }

abbrev pub EntriesAgree : List EntriesCase → Type 0
EntriesAgree cases = map (λ c. entries c.trace) cases ≡ map (λ c. c.expected) cases

-- the same into a lent list: the answer, and the list afterwards
pub record ListCase : Type 0 where
  pub trace : List ℕ
  pub list : List ℕ
  pub expected : rescue.Rescued

abbrev pub list_case : (trace list : List ℕ) → rescue.Listing → (after : List ℕ) → ListCase
list_case trace list answer after = record { trace = trace; list = list; expected = record { answer = answer; list = after } }

abbrev pub ListsAgree : List ListCase → Type 0
ListsAgree cases = map (λ c. rescue.rescue c.trace c.list) cases ≡ map (λ c. c.expected) cases

-- a question of L7: the accesses of a trace's records, the bytes behind them, a side and a position; and the answer
pub record WhyCase : Type 0 where
  pub accesses : List Access
  pub behind : List ℕ
  pub side : ℕ
  pub position : ℕ
  pub expected : why.Answer

abbrev pub why_case : List Access → (behind : List ℕ) → (side position : ℕ) → why.Answer → WhyCase
why_case qs behind side p a = record { accesses = qs; behind = behind; side = side; position = p; expected = a }

abbrev pub holding : (entry put_by : ℕ) → why.Holding
holding entry n = record { entry = entry; put_by = n }

abbrev pub WhysAgree : List WhyCase → Type 0
WhysAgree cases = map (λ c. why.why (written trace_form 0 c.accesses ++ c.behind) c.side c.position) cases ≡ map (λ c. c.expected) cases
