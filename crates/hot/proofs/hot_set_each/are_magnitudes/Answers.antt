use Rattle.std.proofs.Common.{◌∙◌, rules, tests}
use Rattle.std.proofs.lemmas.Iterator.{YieldsList-from_slice}
use Rattle.std.proofs.lemmas.Iterator.Search.{all_from_yields_List}
use Rattle.float.specs.Magnitude.{magnitude}
use Rattle.hot.proofs.HotSet.EachLaws.{all-is}
use Rattle.hot.proofs.hot_set_each.are_magnitudes.Goals as goal

pub returns : goal.returns
returns c =
    all_from_yields_List magnitude _ _ _ c.all.ensures.ran (YieldsList-from_slice c.args.demands.now c.iter.ensures.rest) (λ x b q k. search (rules, tests))
    ∙ all-is magnitude c.args.demands.now
