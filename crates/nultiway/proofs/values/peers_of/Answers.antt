-- `peers_of` meets its contract.
use mathlib.Core.Path.{refl}
use Rattle.nultiway.specs.Values.{peers_of}
use Rattle.nultiway.proofs.values.peers_of.Goals as goal

pub returns : goal.returns
unfolding peers_of
returns c = refl
