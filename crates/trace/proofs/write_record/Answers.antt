-- A record is stored at the start of the buffer, where there is room for it.
use Rattle.std.proofs.Common.{rules, ◌≡◌, ◌≤◌, ◌<◌, length, Err, length-take-le}
use Rattle.model.proofs.TraceLaws.{write_refuses, write_stores}
use Rattle.access.specs.Bridge.{access_as}
use Rattle.access.specs.declared.Refusal.TheVariants.{NoRoom}
use Rattle.trace.proofs.write_record.Goals as goal

pub returns-in_err-when : goal.returns-in_err-when
returns-in_err-when c =
    let short : length c.args.out.now < 20 = search rules in
    let told : c.from_residual.result ≡ Err NoRoom = search rules in
    rw (write_refuses c.args.number (access_as c.args.q) c.args.out.now short, told)

pub copy_from_slice-requires : goal.copy_from_slice-requires
copy_from_slice-requires c =
    let room : 20 ≤ length c.args.out.now = search rules in
    rw c.record_bytes.ensures (length-take-le 20 c.args.out.now room)

pub returns : goal.returns
returns c =
    let room : 20 ≤ length c.args.out.now = search rules in
    rw (write_stores c.args.number (access_as c.args.q) c.args.out.now room, c.copy_from_slice.ensures.after, c.record_bytes.ensures, c.next_number.ensures)
