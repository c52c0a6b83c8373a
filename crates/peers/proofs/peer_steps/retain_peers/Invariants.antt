-- Of the first i peers, as they are once they have aged, those that stay are kept.
use Rattle.std.proofs.Common.{map}
use Rattle.records.specs.Records.{records}
use Rattle.records.proofs.Changes.KeepLaws.{Kept}
use Rattle.peers.specs.Peers.Records.{peer_of, peer_words, contested_of}
use Rattle.peers.specs.Peers.State.{is_taken, is_held}
use Rattle.peers.specs.Peers.Changes.{age_peer}
use Rattle.peers.specs.Peers.Steps.Stays.{stays_peer}
use Rattle.peers.proofs.peer_steps.retain_peers.Given as goal

abbrev pub invariant-loop-i : goal.invariant-loop-i
invariant-loop-i l = Kept (λ x. stays_peer l.reading (map contested_of (records 6 l.c l.contested)) (peer_of x).id (peer_of x).held_until (is_taken (peer_of x))) 12 l.n (map (λ x. peer_words (age_peer is_held l.reading l.max_age (peer_of x))) (records 12 l.n l.initial.peers)) l.initial.peers l.peers l.i l.kept
