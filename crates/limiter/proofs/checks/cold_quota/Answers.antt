-- `cold_quota` meets its contract.
use Rattle.limiter.specs.Checks.{cold_quota}
use Rattle.limiter.specs.State.{units_for}
use Rattle.limiter.proofs.checks.cold_quota.Goals as goal

pub returns : goal.returns
unfolding cold_quota units_for
returns c = rw (c.quota_for.ensures, c.new_key_factor-factor.ensures)
