-- `gcra::Quota::t_and_tau` meets its contract.
use Rattle.gcra.proofs.Quota.t_and_tau.Goals as goal

pub returns : goal.returns
returns c = cc
