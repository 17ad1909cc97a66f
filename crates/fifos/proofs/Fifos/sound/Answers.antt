-- `fifos::Fifos::sound` meets its contract: the test of all is a test of every one.
use Rattle.std.proofs.Common.{rules, ◌≡◌, ◌∙◌, length}
use Rattle.std.proofs.lemmas.Iterator.{YieldsList-from_slice}
use Rattle.std.proofs.lemmas.Iterator.Search.{all_from_yields_List}
use Rattle.std.specs.Prelude.{leb}
use Rattle.fifos.specs.declared.Fifo.{Fifo}
use Rattle.fifos.specs.Laws.{all_few}
use Rattle.fifos.proofs.Fifos.sound.Goals as goal

pub returns : goal.returns
returns c =
    let len : length c.args.self.each ≡ 4 = search rules in
    all_from_yields_List (λ (f : Fifo). leb f.count 32) _ _ _ c.all.ensures.ran (YieldsList-from_slice c.args.self.each cc) (λ x b q k. search rules) ∙ all_few c.args.self.each len
