-- `hot_rate` meets its contract.
use Rattle.limiter.proofs.PassTwo.RateLaws.{hot-is}
use Rattle.limiter.proofs.pass_two.hot_rate.Goals as goal

pub returns : goal.returns
returns c =
    hot-is _ _ _ _ c.share_of.result c.min.result c.share_of.ensures c.min.ensures
