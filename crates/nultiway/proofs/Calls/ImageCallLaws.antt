-- Laws: the calls on the saved image.
use Prim.Native.Nat.{ℕ}
use mathlib.Core.Path.{◌≡◌, sym, ap}
use mathlib.Core.List.{List}
use Rattle.records.specs.Words.{paste}
use Rattle.questions.specs.Questions.{Answer, refused, given}
use Rattle.peers.specs.declared.peer_demand.PeerDemand.{PeerDemand}
use Rattle.limiter.specs.declared.Limiter.{Limiter}
use Rattle.image.specs.declared.Loaded.{Loaded}
use Rattle.nultiway.specs.Calls.{number_of, answer_put}
use Rattle.nultiway.specs.ImageCalls.{loaded_limiter, loaded_peers, PutLoaded}
use Rattle.nultiway.proofs.Calls.CallLaws.{said_put}

-- ---- what is read, and what is loaded

pub both_read :
    {l l₀ : Limiter} {p p₀ : PeerDemand}
    → l ≡ l₀
    → p ≡ p₀
    → ◌≡◌ {A = Loaded} (record { limiter = l; peers = p }) (record { limiter = l₀; peers = p₀ })
both_read e k = λ i. record { limiter = e i; peers = k i }

pub loaded-put :
    (ws ps : List ℕ) {a : Answer Loaded} {x : Loaded} {ws' ps' : List ℕ}
    → a ≡ given x
    → ws' ≡ paste 0 (loaded_limiter x) ws
    → ps' ≡ paste 0 (loaded_peers x) ps
    → PutLoaded a ws ps 0 ws' ps'
loaded-put ws ps {a} {x} {ws'} {ps'} e h k =
    let l = said_put a loaded_limiter ws ws' x e h in
    record { number = l.0; limiter = l.1; peers = (said_put a loaded_peers ps ps' x e k).1 }

pub loaded-no : (ws ps : List ℕ) {a : Answer Loaded} {n : ℕ} → a ≡ refused n → PutLoaded a ws ps n ws ps
loaded-no ws ps e =
    record {
      number = sym (ap number_of e);
      limiter = sym (ap (λ (a : Answer Loaded). answer_put loaded_limiter a ws) e);
      peers = sym (ap (λ (a : Answer Loaded). answer_put loaded_peers a ps) e);
    }
