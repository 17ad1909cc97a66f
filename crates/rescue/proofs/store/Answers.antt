-- By whether a place is left.
use Rattle.std.proofs.Common.{rules, ◌≡◌, refl, ◌/◌, length, Err}
use Rattle.access.specs.declared.Refusal.TheVariants.{ListFull}
use Rattle.scan.specs.Bridge.{entry_as}
use Rattle.rescue.specs.Laws.{no_place, one_held}
use Rattle.rescue.proofs.store.Goals as goal

pub returns-in_err-when-clause-by_index : goal.returns-in_err-when-clause-by_index
returns-in_err-when-clause-by_index c =
    let full : c.args.count ≡ length c.args.list.now / 3 = search rules in
    let told : c.from_residual.result ≡ Err ListFull = search rules in
    λ before es h. rw told (refl, no_place h (entry_as c.args.e) full)

pub returns-clause-by_index : goal.returns-clause-by_index
returns-clause-by_index c =
    let room : c.args.count ≡ length c.args.list.now / 3 → ⊥ = search rules in
    λ before es h. rw c.write_entry.ensures (one_held h (entry_as c.args.e) room)
