use Rattle.std.proofs.Common.{◌∙◌, sym}
use Rattle.limiter.specs.Steps.KeySteps.{units}
use Rattle.limiter.proofs.Walking.CapLaws.{rank-hot, rank-cold, rate-finite}
use Rattle.limiter.proofs.ticks.key_rank.Goals as goal

pub returns-then-is_hot : goal.returns-then-is_hot
returns-then-is_hot c =
    let a = c.args in
    rank-hot units a.n a.keys.now a.i c.requires.2 a.time_constant _ (sym c.is_hot.ensures ∙ c.if-is_hot.true)

pub rate_place-requires : goal.rate_place-requires
rate_place-requires c = let a = c.args in rate-finite units a.n a.keys.now a.i c.requires.2 c.requires.0.valids

pub returns : goal.returns
returns c =
    let a = c.args in
    c.rate_place.ensures ∙ rank-cold units a.n a.keys.now a.i c.requires.2 a.time_constant _ (sym c.is_hot.ensures ∙ c.if-is_hot.false)
