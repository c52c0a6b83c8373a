-- `Demand::new` meets its contract.
use Rattle.demand.proofs.Estimating.Literals.{zero_is}
use Rattle.demand.proofs.demand.Demand.new.Goals as goal

pub returns : goal.returns
returns c = rw zero_is
