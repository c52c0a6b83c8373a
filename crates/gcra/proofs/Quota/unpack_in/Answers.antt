-- `gcra::Quota::unpack_in` meets its contract.
use Rattle.gcra.specs.Packed.{unpack}
use Rattle.gcra.proofs.Quota.unpack_in.Goals as goal

pub returns : goal.returns
unfolding unpack
returns c = cc
