-- `gcra::Quota::decode` meets its contract.
use Rattle.gcra.specs.Packed.{decode}
use Rattle.gcra.proofs.Quota.decode.Goals as goal

pub returns : goal.returns
unfolding decode
returns c = cc
