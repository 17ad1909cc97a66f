-- What is left of the last chunk and what is read behind it are turned together, by what their conversion promises.
use Rattle.std.proofs.Common.{◌≡◌, refl, ap, ◌∙◌, arith, length}
use Rattle.stream.specs.Bridge.{Keeps, least_of}
use Rattle.converter.specs.Laws.{turned}
use Rattle.converter.proofs.convert_next.Goals as goal

pub returns-clause-turned : goal.returns-clause-turned
returns-clause-turned c =
    let k = c.keep-kept in
    let r = c.read_chunk-chunk in
    let kept : length k.new.buffer ≡ 65520 = omega arith in
    let read : length r.new.buffer ≡ 65520 = omega arith in
    let before = c.work-before.ensures in
    let last = c.args.last in
    let keeps : Keeps c.args.input.now last.work.at last.chunk.size k.result k.new.buffer = rw (← before, ← c.size-full.ensures) k.ensures in
    let chunk = rw before at c.convert_chunk-converted.ensures.chunk_turned in
    let told = rw before at c.records_told-told.ensures in
    rw c.next.ensures
    (turned c.args.from c.requires.going kept read keeps r.ensures refl (c.least-least.ensures ∙ ap (least_of r.result) c.longest.ensures) chunk told refl)
