-- Laws of the peers' tables: a state in its three tables, and the place of a peer.
use Rattle.std.proofs.Common.{◌≡◌, ℕ, ◌+◌, ◌*◌, ◌<◌, ◌≤◌, Bool, true, false, List, map, length, sym, refl, ◌∙◌, arith}
use lib.ListN.{length-map}
use Rattle.records.specs.declared.Found.{Found}
use Rattle.records.specs.declared.Found.TheVariants.{At, Gap, Unfit}
use Rattle.records.specs.Records.{find_in}
use Rattle.peers.specs.declared.peer_demand.PeerDemand.{PeerDemand}
use Rattle.peers.specs.Peers.Records.{peer_words, snapshot_key_words, contested_words}
use Rattle.peers.specs.Peers.State.{PeersState, PeerTables}
use Rattle.records.specs.Typed.{in_order, Tabled}
use Rattle.peers.specs.Peers.Steps.Stays.{place_in, place_of}
use Rattle.std.specs.declared.option.Option.TheVariants.{None, Some}
use Rattle.peers.specs.Peers.Steps.Runs.{Stores}
use Rattle.records.proofs.Tables.TabledLaws.{InOrder, in-order-says, found-fit}
use Rattle.records.proofs.Words.RecordLaws.{row}

-- a state in its three tables
pub stores-of :
    (p : PeerDemand) (s : PeersState) (n k c : ℕ) (t : PeerTables) (ps ks cs : List ℕ)
    → Tabled n (map peer_words s.peers) t.peers ps
    → Tabled k (map snapshot_key_words s.snapshot_keys) t.snapshot_keys ks
    → Tabled c (map contested_words s.contested) t.contested cs
    → Stores s p t (record { peers = n; snapshot_keys = k; contested = c }) (record { peers = ps; snapshot_keys = ks; contested = cs })
stores-of p s n k c t ps ks cs a b d = record {
  value = (λ i. record {
    peers = (a.count ∙ length-map s.peers peer_words) i;
    snapshot_keys = (b.count ∙ length-map s.snapshot_keys snapshot_key_words) i;
    contested = (d.count ∙ length-map s.contested contested_words) i;
  });
  words = (λ i. record { peers = a.words i; snapshot_keys = b.words i; contested = d.words i });
}

-- ---- the place of a peer

-- a place that is one is where the peer is
pub place_some : (n id i : ℕ) (xs : List ℕ) → Some i ≡ place_of n id xs → At i ≡ find_in 12 1 n id 0 xs
unfolding place_of
place_some n id i xs e = by (find_in 12 1 n id 0 xs) e
  where
    by : (f : Found) → Some i ≡ place_in f → At i ≡ f
    by (At j) g = cc
    by (Gap j) g = cc
    by Unfit g = cc

-- where there is none, no test holds that fails where no peer has the number
pub place_none : (n id : ℕ) (xs : List ℕ) → InOrder 12 1 n xs → (p : ℕ → Bool) → ((i : ℕ) → Gap i ≡ find_in 12 1 n id 0 xs → p id ≡ false) → None ≡ place_of n id xs → false ≡ p id
unfolding place_of
place_none n id xs o p none e = by (find_in 12 1 n id 0 xs) refl e
  where
    by : (f : Found) → f ≡ find_in 12 1 n id 0 xs → None ≡ place_in f → false ≡ p id
    by (At j) g h = let z : ◌≡◌ {A = ℕ} 0 1 = cc in absurd (omega arith)
    by (Gap j) g h = sym (none j g)
    by Unfit g h = found-fit 12 n id xs o g

-- a record of a table in order is within its words
pub record_inside : (w d n : ℕ) (xs : List ℕ) → in_order w d n xs ≡ true → (i : ℕ) → i < n → i * w + w ≤ length xs
record_inside w d n xs e i h = omega (arith, row w n i h, (in-order-says w d n xs e).words)

-- a search that did not find tells no place
pub place_missing : (r : Found) → ((x : ℕ) → r ≡ At x → ⊥) → None ≡ place_in r
place_missing (At i) h = absurd (h i refl)
place_missing (Gap i) h = refl
place_missing Unfit h = refl
