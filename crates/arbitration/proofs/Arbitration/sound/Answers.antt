-- `arbitration::Arbitration::sound` meets its contract: the test of all is a test of every one.
use Rattle.std.proofs.Common.{rules, ◌≡◌, ◌∙◌, length}
use Rattle.std.proofs.lemmas.Iterator.{YieldsList-from_slice}
use Rattle.std.proofs.lemmas.Iterator.Search.{all_from_yields_List}
use Rattle.model.specs.Arbitration.{pair_sound}
use Rattle.arbitration.specs.declared.Pair.{Pair}
use Rattle.arbitration.specs.Bridge.{pair_as}
use Rattle.arbitration.specs.Laws.{all_sound}
use Rattle.arbitration.proofs.Arbitration.sound.Goals as goal

pub returns : goal.returns
returns c =
    let len : length c.args.self.pairs ≡ 4 = search rules in
    all_from_yields_List (λ (p : Pair). pair_sound (pair_as p)) _ _ _ c.all.ensures.ran (YieldsList-from_slice c.args.self.pairs cc) (λ x b q k. search rules) ∙ all_sound c.args.self.pairs len
