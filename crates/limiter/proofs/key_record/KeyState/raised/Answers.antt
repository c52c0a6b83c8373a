-- Each counter has room, by question 9.
use Rattle.limiter.specs.Steps.KeySteps.{key_record}
use Rattle.limiter.proofs.Checking.CheckLaws.{fitting}
use Rattle.limiter.proofs.key_record.KeyState.raised.Goals as goal

pub counted-requires : goal.counted-requires
counted-requires c = (fitting c.args.attempts c.args.denials c.args.shadow_denials c.args.self.gcra (key_record c.args.self) c.requires).fit_demand

pub counted-requires-2 : goal.counted-requires-2
counted-requires-2 c = (fitting c.args.attempts c.args.denials c.args.shadow_denials c.args.self.gcra (key_record c.args.self) c.requires).fit_requests

pub counted-requires-3 : goal.counted-requires-3
counted-requires-3 c = (fitting c.args.attempts c.args.denials c.args.shadow_denials c.args.self.gcra (key_record c.args.self) c.requires).fit_denials

pub counted-requires-4 : goal.counted-requires-4
counted-requires-4 c = (fitting c.args.attempts c.args.denials c.args.shadow_denials c.args.self.gcra (key_record c.args.self) c.requires).fit_shadow
