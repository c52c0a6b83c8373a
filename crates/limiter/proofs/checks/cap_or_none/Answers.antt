-- No cap is +∞.
use Rattle.std.proofs.Common.{◌∙◌, refl}
use Rattle.limiter.proofs.Checking.CheckLaws.{cap-or-none}
use Rattle.limiter.proofs.checks.cap_or_none.Goals as goal

pub returns : goal.returns
returns c = c.unwrap_or.ensures ∙ cap-or-none c.args.cap _ refl
