-- Document 02, L4 and L10: what stands in a list, an access of document 01, a register access or a burst.
use Rattle.std.specs.Prelude.{[]}
use Rattle.model.specs.State.{World}
use Rattle.model.specs.Runs.{Outcome}
use Rattle.model.specs.Accesses.{Access, Answer, access}
use Rattle.model.specs.Registers.{RegisterAccess, register_access}
use Rattle.model.specs.Bursts.{Burst, Told, burst}

pub data Call : Type 0 where
  direct : Access → Call
  register : RegisterAccess → Call
  bursting : Burst → Call

-- an access is lent no list
abbrev pub plain : Answer → Told
plain a = record { answer = a; list = [] }

abbrev pub call : World → Call → Outcome Told World
call w (direct q) = record { answer = plain (access w q).answer; world = (access w q).world }
call w (register q) = record { answer = plain (register_access w q).answer; world = (register_access w q).world }
call w (bursting b) = burst w b
