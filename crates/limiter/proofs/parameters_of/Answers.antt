-- `parameters_of` meets its contract: it is the one function that says 01's numbers.
use mathlib.Core.Path.{refl}
use Rattle.limiter.specs.State.{parameters_for}
use Rattle.limiter.proofs.parameters_of.Goals as goal

pub returns : goal.returns
unfolding parameters_for
returns c = refl
