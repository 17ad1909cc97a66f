-- The code's words for an access, a refusal and an answer, in the model's.
use Rattle.std.specs.Prelude.{⊤, ℕ, Bool, Ok, Err, Result, if◌then◌else◌}
use Rattle.model.specs.Accesses as model
use Rattle.access.specs.declared.Access.{Access}
use Rattle.access.specs.declared.Done.{Done}
use Rattle.access.specs.declared.Refusal.{Refusal}
use Rattle.access.specs.declared.Refusal.TheVariants as refusals

abbrev pub access_as : Access → model.Access
access_as q = record { kind = q.kind; side = q.side; s = q.s; a = q.a; b = q.b; c = q.c }

-- "Numbers a caller sees."
abbrev pub number_of : Refusal → ℕ
number_of refusals.Unfit = 1
number_of refusals.Unknown = 2
number_of refusals.UnusedField = 3
number_of refusals.Selector = 4
number_of refusals.WrongSide = 5
number_of refusals.Busy = 6
number_of refusals.EmptyTransfer = 7
number_of refusals.Size = 8
number_of refusals.Address = 9
number_of refusals.NotRunning = 10
number_of refusals.Unmodelled = 11
number_of refusals.NoBurst = 12
number_of refusals.Overrun = 13
number_of refusals.ShortList = 14
number_of refusals.ShortRecord = 20
number_of refusals.WrongMark = 21
number_of refusals.RecordNumber = 22
number_of refusals.ZeroByte = 23
number_of refusals.NoRoom = 24
number_of refusals.NoLine = 25
number_of refusals.RefusedTrace = 40
number_of refusals.LongTrace = 41
number_of refusals.Reserved = 42
number_of refusals.NoSide = 43
number_of refusals.ListFull = 60

-- What a row of checks gives: "0 is done", or the number of a refusal.
abbrev pub refusal_as : {T : Type 0} → Result T Refusal → ℕ
refusal_as (Ok x) = 0
refusal_as (Err r) = number_of r

abbrev pub refused_when : Refusal → Bool → Result ⊤ Refusal
refused_when r cause = if cause then Err r else Ok tt

-- Document 01: "a definition gives this paper's number and values for each of the enum's cases". "V and X are 0" where refused.
abbrev pub answer_as : Result Done Refusal → model.Answer
answer_as (Ok d) = record { number = 0; v = d.v; x = d.x }
answer_as (Err r) = record { number = number_of r; v = 0; x = 0 }
