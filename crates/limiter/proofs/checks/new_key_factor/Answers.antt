-- `new_key_factor` meets its contract.
use Rattle.limiter.specs.Checks.{new_key_factor}
use Rattle.limiter.proofs.checks.new_key_factor.Goals as goal

pub returns : goal.returns
unfolding new_key_factor
returns c = rw (c.min.ensures, c.cap_or_none.ensures, c.u64_to_f64-nodes.ensures)
