-- What is left to mark gives what all marks give.
use Rattle.std.proofs.Common.{◌≡◌}
use Rattle.records.specs.Records.{records}
use Rattle.peers.proofs.Peers.Readers.MarkLaws.{left}
use Rattle.peers.proofs.peer_each.Keys.mark_table.Given as goal

abbrev pub invariant-loop-i : goal.invariant-loop-i
invariant-loop-i l = left (records l.self.width l.self.count l.self.words.now) l.v l.m l.t l.i l.out ≡ left (records l.self.width l.self.count l.self.words.now) l.v l.m l.t 0 l.initial.out
