-- A chunk is replayed by what its answering promises; one behind which more is read was full.
use Rattle.std.specs.Prelude.{◌≡◌, true, false, List, ℕ, ◌-◌, ◌≤◌, length, take, eqb, if◌then◌else◌}
use Rattle.std.proofs.Common.{sym, ◌∙◌, arith, length-take-le, eqb→eq}
use Rattle.std.proofs.Math.Nat.{sub-zero}
use Rattle.model.specs.Replay.{Standing, replay}
use Rattle.decimal.specs.Laws.{text_there}
use Rattle.standing.specs.Bridge.{standing_as}
use Rattle.player.specs.Bridge.{Played}
use Rattle.stream.specs.Bridge.{at_hand, chunk_bytes, goes_on}
use Rattle.stream.specs.Laws.{more_is}
use Rattle.turn.specs.Bridge.{Turn, bytes_of, Turned}

pub turned : {start : Standing} (turn : Turn) {size : ℕ} {input before out shared window : List ℕ} → turn.chunk.size ≤ chunk_bytes → size ≡ at_hand turn.chunk →
    Played (replay start (take (size - 0) input)) before turn.work.end out (standing_as turn.work.standing shared window) → turn.work.end ≤ length before →
    turn.told ≡ (if turn.lost then start.count else turn.work.standing.count) →
    turn.more ≡ goes_on turn.chunk turn.work.standing.stopped turn.lost →
    Turned start turn input out shared window
turned turn b e p h t m =
    let q = rw (sub-zero, e) at p in
    record { size = b; text = text_there (omega (arith, q.text.place)) q.text; end = omega (arith, q.text.place); standing = q.standing; told = t; more = m }

module _ {start : Standing} {turn : Turn} {input out shared window : List ℕ} (t : Turned start turn input out shared window) (m : turn.more ≡ true) where
  is : (eqb turn.chunk.size chunk_bytes ≡ true) × (turn.work.standing.stopped ≡ false) × (turn.chunk.cut ≡ false)
  is = more_is turn.chunk turn.work.standing.stopped turn.lost (sym t.more ∙ m)

  -- a chunk behind which more is read was full, and nothing of it was refused
  pub more_full : length input ≡ chunk_bytes → length (bytes_of turn input) ≡ chunk_bytes
  more_full h =
      let size = eqb→eq turn.chunk.size chunk_bytes (rw is.0 tt) in
      rw (is.2, size) (length-take-le chunk_bytes input (omega arith))

  pub more_going : turn.work.standing.stopped ≡ false
  more_going = is.1
