-- Word for word.
use Rattle.nultiway.proofs.Words.DemandWordLaws.{demand-read}
use Rattle.nultiway.proofs.demand_calls.demand_of.Goals as goal

pub returns : goal.returns
returns c =
    demand-read c.args.words.now c.from_bits-current_rate.ensures c.times_of-times.ensures
