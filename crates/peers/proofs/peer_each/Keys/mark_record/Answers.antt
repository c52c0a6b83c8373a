-- `mark_record` meets its contract.
use Rattle.peers.proofs.Peers.Readers.MarkLaws.{mark-other}
use Rattle.peers.proofs.peer_each.Keys.mark_record.Goals as goal

pub returns-else-r-ne0 : goal.returns-else-r-ne0
returns-else-r-ne0 c = mark-other _ _ _ _ c.if-r-ne0.false
