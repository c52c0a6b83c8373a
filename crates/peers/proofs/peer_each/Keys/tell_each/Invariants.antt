-- The first i keys are told.
use Rattle.std.proofs.Common.{◌≡◌, ℕ}
use Rattle.peers.specs.Peers.State.{PeersState}
use Rattle.peers.proofs.Peers.Readers.EachLaws.{Telling}
use Rattle.peers.proofs.peer_each.Keys.tell_each.Given as goal

abbrev pub invariant-loop-i : goal.invariant-loop-i
invariant-loop-i g l = (f : ℕ → PeersState → _) (s : PeersState) → ((key : ℕ) (r : _) → goal.F-post g l.tell key r → r ≡ f key s) → Telling f s l.self.width l.self.count l.self.words.now l.initial.out l.out l.i
