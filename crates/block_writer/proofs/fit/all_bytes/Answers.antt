use borrow.Author.Rules.{rules}
use borrow.Author.Tests.{tests}
use mathlib.Core.Path.{◌∙◌}
use lib.Dec.{ltb}
use Rattle.std.proofs.lemmas.Iterator.{YieldsList-from_slice}
use Rattle.std.proofs.lemmas.Iterator.Search.{all_from_yields_List}
use Rattle.block_writer.proofs.Fits.{below-all}
use Rattle.block_writer.proofs.fit.all_bytes.Goals as goal

pub returns : goal.returns
returns c =
    let entries = c.args.entries.now in
    all_from_yields_List (λ x. ltb x 256) _ _ c.all.result c.all.ensures.ran (YieldsList-from_slice entries cc) (λ x b q k. search (rules, tests)) ∙ below-all 256 entries
