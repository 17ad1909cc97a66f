-- A chunk half answered: what is left of its text and of its standing, from one record to the next.
use Rattle.std.specs.Prelude.{◌≡◌, refl, false, Result, Err, List, ℕ, ◌+◌, ◌<◌, length, drop}
use Rattle.std.proofs.Common.{arith}
use Rattle.std.proofs.lemmas.List.Edits.{sets}
use Rattle.model.specs.Accesses.{Access, access}
use Rattle.model.specs.Trace.{recorded, refused, read_record, reading_number}
use Rattle.model.specs.Text.{log_text, line_text}
use Rattle.model.specs.Replay.{Standing, Replayed, nothing_more, ◌and_then◌, answered, logged, replay_record, replay}
use Rattle.model.proofs.ReplayLaws.{replay_stopped, replay_none, replay_more}
use Rattle.access.specs.declared.Access as code
use Rattle.access.specs.declared.Refusal.{Refusal}
use Rattle.trace.specs.Bridge.{read_as}
use Rattle.standing.specs.Bridge.{PerformedOn, performed}
use Rattle.standing.specs.Records.{Cut, cut_reads, cut_rest}
use Rattle.player.specs.Bridge.{Played}
use Rattle.decimal.specs.Bridge.{Written}
use Rattle.decimal.specs.Laws.{begun, second_left, ended}

-- The replay of what is left of the bytes, stored from `end` on, gives the buffer and the standing of the whole chunk.
pub record Left (whole : Replayed) (before rest : List ℕ) (now : Standing) (end : ℕ) (out : List ℕ) : Type 0 where
  pub text : Written out end (replay now rest).text (0 + length whole.text) (sets before 0 whole.text)
  pub standing : (replay now rest).standing ≡ whole.standing

pub all_left : (s : Standing) (input out : List ℕ) → Left (replay s input) out input s 0 out
all_left s input out = record { text = begun out 0 (replay s input).text; standing = refl }

-- no record is left, or none is read any more
nothing_left : {whole : Replayed} {before rest out : List ℕ} {end : ℕ} {now : Standing} → replay now rest ≡ nothing_more now →
    Left whole before rest now end out → Played whole before end out now
nothing_left e l = record { text = ended (rw e at l.text); standing = rw e at l.standing }

pub none_left : {whole : Replayed} {before rest out : List ℕ} {end : ℕ} {now : Standing} → length rest ≡ 0 →
    Left whole before rest now end out → Played whole before end out now
none_left {rest} {now} h l = nothing_left (replay_none now rest (omega arith)) l

-- one record less
one_less : {whole : Replayed} {before rest out out' : List ℕ} {end end' : ℕ} {now : Standing} (part : Replayed) → 0 < length rest → now.stopped ≡ false →
    part ≡ replay_record now (read_record rest now.expected) → Left whole before rest now end out → Written out end part.text end' out' →
    Left whole before (drop 20 rest) part.standing end' out'
one_less {rest} {now} part h going e l p =
    let more : replay now rest ≡ (part and_then λ s. replay s (drop 20 rest)) = rw e (replay_more now rest h going) in
    record { text = second_left (rw more at l.text) p; standing = rw more at l.standing }

module _ {whole : Replayed} {before rest bytes more out out' : List ℕ} {end end' : ℕ} (now : Standing) (going : now.stopped ≡ false) (c : Cut rest bytes more) where
  pub answered_left : {q : Access} (p : PerformedOn) → recorded q ≡ read_record bytes now.expected → p ≡ performed now q →
      Written out end (line_text now.expected p.answer.number p.answer.v p.answer.x) end' out' →
      Left whole before rest now end out → Left whole before more p.standing end' out'
  answered_left {q} p e a t l =
      rw (a, ← cut_rest rest bytes more c) (one_less (answered now (access now.world q)) c.some going (rw (cut_reads rest bytes more now.expected c, ← e)) l (rw a at t))

  pub refused_left : (n : ℕ) → refused n ≡ read_record bytes now.expected →
      Written out end (log_text n now.count) end' out' → Left whole before rest now end out → Played whole before end' out' (logged now n).standing
  refused_left n e p l =
      nothing_left (replay_stopped (logged now n).standing (drop 20 rest) refl) (one_less (logged now n) c.some going (rw (cut_reads rest bytes more now.expected c, ← e)) l p)

-- the refusal's number is the reader's
pub read_refused : {read : Result code.Access Refusal} {n : ℕ} {m : Refusal} → read ≡ Err m → n ≡ reading_number (read_as read) → refused n ≡ read_as read
read_refused t e = rw (e, t)
