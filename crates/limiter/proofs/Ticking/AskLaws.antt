-- Laws: questions 1 and 2 of the limiter and of the peers, asked of both: 1 of either comes before 2 of either.
use mathlib.Core.Path.{◌≡◌, ◌∙◌}
use Prim.Native.Nat.{ℕ}
use Rattle.questions.specs.Questions.{first_no}
use Rattle.questions.specs.Refusals.{first_of}
use Rattle.questions.proofs.RefusalLaws.{first-two}
use Rattle.peers.specs.declared.peer_demand.PeerDemand.{PeerDemand}
use Rattle.peers.specs.Peers.State.{PeerTables}
use Rattle.peers.specs.Peers.Calls.{peers_questions}
use Rattle.limiter.specs.declared.Limiter.{Limiter}
use Rattle.limiter.specs.State.{LimiterTables}
use Rattle.limiter.specs.Calls.{state_questions, both_questions}

pub first-of-both :
    (l : Limiter) (t : LimiterTables) (p : PeerDemand) (pt : PeerTables) (a b : ℕ)
    → a ≡ first_no (state_questions l t)
    → b ≡ first_no (peers_questions p pt)
    → first_of a b ≡ first_no (both_questions l t p pt)
first-of-both l t p pt a b e f = (λ i. first_of (e i) (f i)) ∙ first-two _ _ _ _
