-- A line is stored in two halves: 45 bytes hold them, since each number has no more digits than its type allows.
use Rattle.std.proofs.Common.{arith, rules}
use Rattle.decimal.specs.Laws.{then}
use Rattle.access.specs.Bridge.{access_as}
use Rattle.access_text.specs.Laws.{bytes_room, dwords_room, halves}
use Rattle.access_text.proofs.write_line.Goals as goal

pub write_three-p-requires : goal.write_three-p-requires
write_three-p-requires c =
    let q = c.args.q in
    omega (arith, bytes_room q.kind q.side q.s 32 (search rules) (search rules) (search rules))

pub write_three-requires : goal.write_three-requires
write_three-requires c =
    let q = c.args.q in
    omega (
      arith,
      c.write_three-p.ensures.place,
      bytes_room q.kind q.side q.s 32 (search rules) (search rules) (search rules),
      dwords_room q.a q.b q.c 10 (search rules) (search rules) (search rules),
    )

pub returns-clause-written : goal.returns-clause-written
returns-clause-written c = rw (halves (access_as c.args.q)) at (then c.write_three-p.ensures c.write_three.ensures)

pub returns-clause-upper_bound : goal.returns-clause-upper_bound
returns-clause-upper_bound c =
    let q = c.args.q in
    omega (
      arith,
      c.write_three-p.ensures.place,
      c.write_three.ensures.place,
      bytes_room q.kind q.side q.s 32 (search rules) (search rules) (search rules),
      dwords_room q.a q.b q.c 10 (search rules) (search rules) (search rules),
    )
