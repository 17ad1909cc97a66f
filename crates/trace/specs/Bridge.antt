-- What contracts of trace cite: what the reader of the code answers, as the model's reading, and whether a record stands in some bytes; and what the
-- writer answers and leaves, as the model's.
use Rattle.std.specs.Prelude.{ℕ, List, Ok, Err, Result}
use Rattle.model.specs.Checks.{refusal}
use Rattle.model.specs.Trace as model
use Rattle.model.specs.Trace.{number_at, trace_checks}
use Rattle.access.specs.declared.Access.{Access}
use Rattle.access.specs.declared.Refusal.{Refusal}
use Rattle.access.specs.Bridge.{access_as, number_of}

abbrev pub read_as : Result Access Refusal → model.Reading
read_as (Ok q) = model.recorded (access_as q)
read_as (Err r) = model.refused (number_of r)

-- the record number that the bytes say
abbrev pub record_number : (bytes : List ℕ) → ℕ
record_number bytes = number_at 2 2 bytes

-- what keeps a record from standing there, where the number that it says is expected: 20, 21 or 23; 0 where a whole record stands
abbrev pub damage : (bytes : List ℕ) → ℕ
damage bytes = refusal (trace_checks bytes (record_number bytes))

-- THE WRITER

abbrev pub wrote_as : Result ℕ Refusal → (buffer : List ℕ) → model.Wrote
wrote_as (Ok n) buffer = record { answer = model.next n; buffer = buffer }
wrote_as (Err r) buffer = record { answer = model.unwritten (number_of r); buffer = buffer }
