-- By the flag.
use Rattle.nultiway.proofs.Words.DemandWordLaws.{times-set}
use Rattle.nultiway.proofs.demand_calls.times_of.Goals as goal

pub returns : goal.returns
returns c = times-set _ _ _ c.if-flag-eq0.false
