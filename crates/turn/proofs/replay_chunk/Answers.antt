-- What is at hand fits the input buffer, so it has at most 3,276 records; what is written is their text.
use Rattle.std.proofs.Common.{◌≤◌, refl, arith}
use Rattle.stream.specs.Bridge.{chunk_bytes}
use Rattle.turn.specs.Laws.{turned}
use Rattle.turn.proofs.replay_chunk.Goals as goal

pub returns-clause-turned : goal.returns-clause-turned
returns-clause-turned c =
    let read = c.read_chunk-chunk in
    let size : read.result.size ≤ chunk_bytes = omega (arith, read.ensures.fits) in
    let answer = c.answer_chunk-replayed.ensures in
    rw (c.next.ensures, ← c.work.ensures)
    (turned _ size c.at_hand-size.ensures.value answer.played answer.end_in_bounds c.records_told-told.ensures refl)
