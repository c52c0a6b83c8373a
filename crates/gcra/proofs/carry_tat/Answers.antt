-- `gcra::carry_tat` meets its contract.
use Rattle.gcra.specs.Rate.{slot_nanos, carry_tat}
use Rattle.gcra.proofs.carry_tat.Goals as goal

pub returns : goal.returns
unfolding carry_tat slot_nanos
returns c = cc
