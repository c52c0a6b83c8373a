-- `demand::unbiased_by` meets its contract.
use Rattle.demand.proofs.Estimating.Literals.{zero_is}
use Rattle.demand.proofs.Estimating.Averages.{no-time, no-weight, weighted}
use Rattle.demand.proofs.demand.unbiased_by.Goals as goal

pub returns-then-measured-eq0 : goal.returns-then-measured-eq0
returns-then-measured-eq0 c = no-time _ _ _ _ zero_is c.if-measured-eq0.true

pub returns-then-alpha : goal.returns-then-alpha
returns-then-alpha c = no-weight _ _ _ _ _ zero_is zero_is c.if-measured-eq0.false c.if-alpha.true

pub returns : goal.returns
returns c = weighted _ _ _ _ zero_is c.if-measured-eq0.false c.if-alpha.false
