-- Three tables, one after the other.
use Rattle.peers.specs.Peers.State as peer-state
use Rattle.image.proofs.Saving.SaveLaws.{peers-pasted}
use Rattle.image.proofs.writer.put_peers.Goals as goal

pub returns-clause-out_after : goal.returns-clause-out_after
returns-clause-out_after c =
    let third = c.put_table in
    let second = c.put_table-contested_at in
    let a = c.args in
    let t = peer-state.tables a.peer_table.now a.snapshot_keys.now a.contested.now in
    peers-pasted a.peers t c.requires.0 a.at c.put_table-keys_at.result second.result a.out.now c.put_table-keys_at.new.out second.new.out third.new.out
    c.requires.1 c.put_table-keys_at.ensures.value second.ensures.value c.put_table-keys_at.ensures.out_after second.ensures.out_after third.ensures.out_after
