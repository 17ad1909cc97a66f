-- `phases::all_low` meets its contract: the tests of the phases, gathered, are the definition's.
use Rattle.std.proofs.Common.{◌∙◌, ◌&&◌, Bool, true, eqb, rules}
use Rattle.std.proofs.lemmas.Iterator.{YieldsList-from_slice}
use Rattle.std.proofs.lemmas.Iterator.Consumers.{fold_from_yields_List}
use borrow.Author.Tests.{tests}
use Rattle.phases.specs.declared.Phase.{Phase}
use Rattle.phases.specs.Laws.{all_are_low}
use Rattle.phases.proofs.all_low.Goals as goal

pub returns : goal.returns
returns c =
    let phases = c.args.phases.now in
    fold_from_yields_List _ (λ (low : Bool) (p : Phase). low && eqb p.pins 0) _ _ c.fold.ensures.ran (YieldsList-from_slice phases cc) (λ a x b q k. search (rules, tests)) ∙ all_are_low true phases
