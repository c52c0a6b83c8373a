use Rattle.std.proofs.Common.{◌∙◌, sym, ap}
use Rattle.limiter.proofs.Walking.CapLaws.{is_at, not-at}
use Rattle.limiter.proofs.Walking.ShadowLaws.{tracked-found}
use Rattle.limiter.proofs.ticks.is_tracked.Goals as goal

pub returns-in-At : goal.returns-in-At
returns-in-At c = sym (ap is_at c.in-At.is) ∙ tracked-found _ _ _ c.requires _ c.find.result c.find.ensures

pub returns-in_default : goal.returns-in_default
returns-in_default c = not-at c.find.result c.in_default.not-At ∙ tracked-found _ _ _ c.requires _ c.find.result c.find.ensures
