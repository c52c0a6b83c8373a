-- By the times.
use Rattle.nultiway.proofs.Words.DemandWordLaws.{words-with}
use Rattle.nultiway.proofs.demand_calls.demand_words.Goals as goal

pub returns-in-None : goal.returns-in-None
returns-in-None c = words-with _ c.to_bits-rate.ensures c.in-None.is

pub returns-in-Some : goal.returns-in-Some
returns-in-Some c = words-with _ c.to_bits-rate.ensures c.in-Some.is
