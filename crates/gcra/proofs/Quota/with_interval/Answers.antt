-- `gcra::Quota::with_interval` meets its contract.
use Rattle.gcra.specs.Packed.{with_interval}
use Rattle.gcra.proofs.Quota.with_interval.Goals as goal

pub returns : goal.returns
unfolding with_interval
returns c = cc
