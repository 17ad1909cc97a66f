-- What is left of the last chunk and what is read behind it are scanned together, by what their scan promises.
use Rattle.std.proofs.Common.{◌≡◌, refl, arith, length}
use Rattle.stream.specs.Bridge.{Keeps}
use Rattle.rescuer.specs.Laws.{rescued}
use Rattle.rescuer.proofs.rescue_next.Goals as goal

pub returns-clause-turned : goal.returns-clause-turned
returns-clause-turned c =
    let k = c.keep-kept in
    let r = c.read_chunk-chunk in
    let kept : length k.new.buffer ≡ 65520 = omega arith in
    let read : length r.new.buffer ≡ 65520 = omega arith in
    let before = c.work-before.ensures in
    let last = c.args.last in
    let keeps : Keeps c.args.input.now last.work.at last.chunk.size k.result k.new.buffer = rw (← before, ← c.size-full.ensures) k.ensures in
    let chunk = rw before at c.rescue_chunk-rescued.ensures in
    let told = rw before at c.records_told-told.ensures in
    rw c.next.ensures (rescued c.args.output c.requires.going kept read keeps r.ensures refl c.least-least.ensures chunk told refl)
