-- `count_keys` meets its contract.
use Rattle.std.proofs.Common.{◌+◌, ◌*◌, Bool, map, get_or, arith}
use Rattle.records.specs.Records.{records}
use Rattle.peers.specs.Peers.State.{tables}
use Rattle.peers.specs.Peers.Records.{snapshot_key_of}
use Rattle.peers.specs.Peers.Steps.Heard.{is_listed}
use Rattle.peers.proofs.Peers.Readers.ReaderLaws.{at_most_one, len-starts, len-goes, len-ends}
use Rattle.peers.proofs.peer_demand.PeerDemand.count_keys.Goals as goal

pub loop-i-preserved : goal.loop-i-preserved
loop-i-preserved c =
    let s = c.args in
    let i = c.loop-i.i in
    let listed : Bool = is_listed (get_or s.contested.now (i * 6) 0) (get_or s.contested.now (i * 6 + 1) 0) (map snapshot_key_of (records 4 s.self.snapshot_keys s.snapshot_keys.now)) in
    let one = at_most_one listed in
    let e = len-goes s.self.snapshot_keys s.snapshot_keys.now s.self.contested s.contested.now i c.loop-i-test.true in
    (omega (arith, c.count_unlisted-count.ensures, one), omega (arith, e, c.count_unlisted-count.ensures))

pub returns : goal.returns
returns c =
    let s = c.args in
    let l = c.loop-i in
    omega (arith, len-ends s.self.snapshot_keys s.snapshot_keys.now s.self.contested s.contested.now l.i c.loop-i-test.false, len-starts s.self (tables s.peers.now s.snapshot_keys.now s.contested.now), l.invariant.1)
