use Rattle.std.proofs.Common.{◌∙◌}
use Rattle.limiter.proofs.PassOne.KeyWordLaws.{debt-is}
use Rattle.limiter.proofs.pass_one.has_debt.Goals as goal

pub returns : goal.returns
returns c = c.unwrap_or.ensures ∙ debt-is c.args.meter c.args.reading c.has_debt.result _ c.has_debt.ensures c.requires
