-- `Estimator::starting_at` meets its contract.
use Rattle.demand.proofs.Estimating.Literals.{zero_is}
use Rattle.limiter.proofs.key_record.Estimator.starting_at.Goals as goal

pub returns : goal.returns
returns c = rw zero_is
