use Rattle.limiter.proofs.PassTwo.QuotaLaws.{set-made}
use Rattle.limiter.proofs.pass_two.changed.Goals as goal

pub returns : goal.returns
returns c =
    set-made c.args.meter c.args.quota c.args.reading c.set_quota.result c.set_quota.ensures c.requires.0 c.requires.1
