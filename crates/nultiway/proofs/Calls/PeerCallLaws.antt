-- Laws: the calls on the peers.
use Prim.Native.Nat.{ℕ}
use mathlib.Core.Path.{◌≡◌, ap, ◌∙◌, subst}
use Rattle.questions.specs.Questions.{Answer, first_no}
use Rattle.peers.specs.declared.peer_demand.PeerDemand.{PeerDemand}
use Rattle.peers.specs.Peers.State.{PeerTables}
use Rattle.peers.specs.Peers.Calls.{Asks, peers_questions}
use Rattle.nultiway.specs.Calls.{number_of}
use Rattle.nultiway.specs.PeerCalls.{Named, Says}

-- what was read, and the id that was made
pub named : {p p₀ : PeerDemand} {n n₀ : ℕ} → p ≡ p₀ → n ≡ n₀ → ◌≡◌ {A = Named} (record { peers = p; peer = n }) (record { peers = p₀; peer = n₀ })
named e k = λ i. record { peers = e i; peer = k i }

pub asks_of : {p p₀ : PeerDemand} (t : PeerTables) {r : ℕ} → p ≡ p₀ → Asks p t r → Asks p₀ t r
asks_of t e h = h ∙ ap (λ (p : PeerDemand). first_no (peers_questions p t)) e

-- an answered call of the peers that were read
pub says :
    {R A : Type 0} {promise : PeerDemand → R → Type 0} {said : R → Answer A} {v v₀ : PeerDemand} {r : ℕ}
    → v ≡ v₀
    → (x : R)
    → promise v x
    → r ≡ number_of (said x)
    → Says promise v₀ said r
says {promise = promise} e x h n = record { result = x; kept = subst (λ (w : PeerDemand). promise w x) e h; number = n }
