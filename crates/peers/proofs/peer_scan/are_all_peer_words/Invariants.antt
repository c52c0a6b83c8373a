-- The records before i passed.
use Rattle.std.proofs.Common.{◌≡◌, drop}
use Rattle.questions.specs.Lists.{all}
use Rattle.records.specs.Records.{records}
use Rattle.peers.specs.Peers.Steps.Scan.{are_peer_words}
use Rattle.peers.proofs.peer_scan.are_all_peer_words.Given as goal

abbrev pub invariant-loop-i : goal.invariant-loop-i
invariant-loop-i l = all are_peer_words (records 12 l.n l.t) ≡ all are_peer_words (drop l.i (records 12 l.n l.t))
