use Rattle.std.proofs.Common.{◌∙◌, rules, tests, arith}
use Rattle.std.proofs.lemmas.Iterator.{YieldsList-from_slice}
use Rattle.std.proofs.lemmas.Iterator.Search.{all_from_yields_List}
use Rattle.float.specs.Magnitude.{magnitude}
use Rattle.limiter.specs.State.{float_of}
use Rattle.limiter.specs.Steps.Scan.{are_rates}
use Rattle.limiter.proofs.scan.are_rates.Goals as goal

pub returns : goal.returns
unfolding are_rates
returns c =
    all_from_yields_List (λ x. magnitude (float_of x)) _ _ _ c.all.ensures.ran (YieldsList-from_slice _ c.iter.ensures.rest) (λ x b q k. search (rules, tests))
    ∙ grind (arith, tests)
