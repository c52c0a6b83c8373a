-- Of the first i records those that stay are kept.
use Rattle.std.proofs.Common.{map}
use Rattle.records.specs.Records.{records}
use Rattle.records.proofs.Changes.KeepLaws.{Kept}
use Rattle.peers.specs.Peers.Records.{peer_of, contested_of}
use Rattle.peers.specs.Peers.Steps.Stays.{stays_contested}
use Rattle.peers.proofs.peer_steps.retain_contested.Given as goal

abbrev pub invariant-loop-i : goal.invariant-loop-i
invariant-loop-i l = Kept (λ x. stays_contested l.reading l.max_age (map peer_of (records 12 l.fn.n l.fn.peers)) (contested_of x).peer (contested_of x).heard_at) 6 l.c (records 6 l.c l.initial.contested) l.initial.contested l.contested l.i l.kept
