-- `gcra::step` meets its contract.
use Rattle.gcra.proofs.step.Goals as goal

pub returns : goal.returns
returns c = cc
