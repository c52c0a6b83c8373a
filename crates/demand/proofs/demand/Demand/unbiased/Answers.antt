-- `Demand::unbiased` meets its contract.
use Rattle.demand.proofs.Estimating.Literals.{zero_is}
use Rattle.demand.proofs.Estimating.Averages.{unmeasured, measured}
use Rattle.demand.proofs.demand.Demand.unbiased.Goals as goal

pub returns-in-None : goal.returns-in-None
returns-in-None c = unmeasured _ _ _ zero_is c.in-None.is

pub returns-in-Some : goal.returns-in-Some
returns-in-Some c =
    measured _ _ _ _ _ _ c.in-Some.is c.saturating_sub-measured.ensures c.alpha.ensures c.unbiased_by.ensures
