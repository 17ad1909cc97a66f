-- What contracts of rescue_chunk cite: what moves write in each of the two outputs, and what they list and leave; and a chunk, half scanned and whole.
use Rattle.std.specs.Prelude.{◌≡◌, List, [], ◌++◌, ℕ, ◌+◌, ◌*◌, ◌<◌, ◌≤◌, length, drop}
use Rattle.model.specs.Trace.{record_bytes, number_after, number_at, access_at}
use Rattle.model.specs.Convert.{trace_form, written}
use Rattle.model.specs.Rescue as model
use Rattle.model.specs.Rescue.{Move, scan, range, kept_at, listed, after, sizes}
use Rattle.model.specs.RescueText as told
use Rattle.model.specs.RescueText.{entry_text, entry_lines, total_text, rescue_text, accesses_of, rescued_trace}
use Rattle.decimal.specs.Bridge.{Written}
use Rattle.scan.specs.declared.Place.{Place}
use Rattle.scan.specs.Bridge.{place_as}
use Rattle.entry_text.specs.declared.Tally.{Tally}
use Rattle.entry_text.specs.Bridge.{tally_as}
use Rattle.rescue_chunk.specs.declared.Output.{Output}
use Rattle.rescue_chunk.specs.declared.Output.TheVariants.{Entries, Records}
use Rattle.rescue_chunk.specs.declared.Rescued.{Rescued}

-- what moves write from a place on, behind `count` kept records
abbrev pub output_of : Output → model.Place → (count : ℕ) → List Move → List ℕ
output_of Entries p count ms = entry_lines (listed p ms)
output_of Records p count ms = written trace_form count (accesses_of ms)

-- the parts of it for a record: what was skipped before it, and itself
abbrev pub range_text : Output → model.Place → List ℕ
range_text Entries p = entry_lines (range p)
range_text Records p = []

abbrev pub kept_text : Output → model.Place → (count : ℕ) → (bytes : List ℕ) → List ℕ
kept_text Entries p count bytes = entry_text (kept_at p (number_at 2 2 bytes))
kept_text Records p count bytes = record_bytes (number_after count) (access_at bytes)

-- what closes the output: the range that is still open, and the totals
abbrev pub last_text : Output → model.Place → told.Tally → List ℕ
last_text Entries p t = entry_lines (range p) ++ total_text (told.tally t (range p))
last_text Records p t = []

-- all that is written of a trace
abbrev pub whole_of : Output → (trace : List ℕ) → List ℕ
whole_of Entries trace = rescue_text trace
whole_of Records trace = rescued_trace trace

-- No more is counted than bytes were passed, so that the counts fit wherever the place does.
pub record Small (p : Place) (t : Tally) : Type 0 where
  pub kept : t.kept ≤ p.from
  pub doubtful : t.doubtful ≤ p.from
  pub skipped : t.skipped ≤ p.from

-- What moves write, list and leave, from one standing to another.
pub record Wrote (output : Output) (ms : List Move) (s : Rescued) (before : List ℕ) (r : Rescued) (after' : List ℕ) : Type 0 where
  pub text : Written before s.end (output_of output (place_as s.place) s.tally.kept ms) r.end after'
  pub place : place_as r.place ≡ after (place_as s.place) ms
  pub tally : tally_as r.tally ≡ told.tally (tally_as s.tally) (listed (place_as s.place) ms)
  pub at : r.at ≡ s.at + sizes ms

-- How far a step goes: the place moves on with the bytes that are passed, and each of them adds at most six to the output.
pub record Further (s r : Rescued) : Type 0 where
  pub at : s.at < r.at
  pub end : r.end + 6 * s.at ≤ s.end + 6 * r.at
  pub place : r.place.from + r.place.run + s.at ≡ s.place.from + s.place.run + r.at
  pub small : Small r.place r.tally

-- A CHUNK, from its first standing

-- Some of its moves are done, and those of the bytes from `at` on are still to come.
pub record Half (output : Output) (least : ℕ) (first : Rescued) (input before : List ℕ) (s : Rescued) (now : List ℕ) : Type 0 where
  pub done : List Move
  pub split : scan least 0 input ≡ done ++ scan least 0 (drop s.at input)
  pub wrote : Wrote output done first before s now

-- where nothing of a chunk is scanned yet
abbrev pub at_first : Place → Tally → Rescued
at_first p t = record { at = 0; end = 0; place = p; tally = t }

-- All moves of the chunk are done: their output stands at the start of the buffer.
pub record ChunkRescued (output : Output) (least : ℕ) (p : Place) (t : Tally) (input before : List ℕ) (r : Rescued) (after' : List ℕ) : Type 0 where
  pub wrote : Wrote output (scan least 0 input) (at_first p t) before r after'
  pub within : (r.at ≤ length input) × (r.end ≤ length before)
  pub place : r.place.from + r.place.run ≡ p.from + p.run + r.at
  pub small : Small r.place r.tally
