-- `Demand::ticked` meets its contract.
use Rattle.demand.proofs.Estimating.Averages.{first-tick, idle-tick, later-tick}
use Rattle.demand.proofs.demand.Demand.ticked.Goals as goal

pub returns-then-elapsed-eq0 : goal.returns-then-elapsed-eq0
returns-then-elapsed-eq0 c = idle-tick _ _ _ _ _ c.in-Some.is c.saturating_sub-elapsed.ensures c.if-elapsed-eq0.true

pub returns-in-None : goal.returns-in-None
returns-in-None c = first-tick _ _ _ c.in-None.is

pub returns-else-elapsed-eq0 : goal.returns-else-elapsed-eq0
returns-else-elapsed-eq0 c =
    later-tick _ _ _ _ _ _ c.in-Some.is c.saturating_sub-elapsed.ensures c.if-elapsed-eq0.false c.folded.ensures
