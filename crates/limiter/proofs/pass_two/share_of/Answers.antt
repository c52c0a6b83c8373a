use Rattle.std.proofs.Common.{◌∙◌}
use Rattle.limiter.proofs.PassTwo.RateLaws.{share-is, share-even, share-by}
use Rattle.limiter.proofs.pass_two.share_of.Goals as goal

pub returns-then-terms : goal.returns-then-terms
returns-then-terms c = share-even _ _ _ _ c.u64_to_f64.result c.if-terms.true c.u64_to_f64.ensures

pub returns : goal.returns
returns c =
    share-by _ _ _ _ _ c.if-terms.false
    (c.unwrap_or.ensures ∙ share-is _ c.share.result _ c.share.ensures c.requires.0 c.requires.1.floor c.requires.1.size)
