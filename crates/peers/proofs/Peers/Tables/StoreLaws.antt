-- Laws: a valid state in its tables, and what the tables hold after a departure and as time goes.
use Rattle.std.proofs.Common.{◌≡◌, ℕ, ◌*◌, Bool, cond, eqb, leb, List, [], map, length, sym, refl, ap, ◌∙◌, subst, arith, eq-eqb, ne_eqb, leb-true}
use Rattle.records.specs.Records.{records, ascending}
use Rattle.questions.proofs.Tests.{both}
use Rattle.peers.specs.declared.peer_demand.PeerDemand.{PeerDemand}
use Rattle.questions.specs.Lists.{only, all, those, replaced}
use Rattle.peers.specs.Peers.Records.{PeerRecord, SnapshotKey, ContestedKey, peer_words, snapshot_key_words, contested_words, peer_of, snapshot_key_of, contested_of}
use Rattle.peers.specs.Peers.State.{PeersState, PeerTables, max_peers, max_demand_keys, max_contested, peers_size, snapshot_keys_size, contested_size, lengths, have_room, are_exact, valid, valid_peers, valid_peer, valid_snapshot_keys, valid_snapshot_key, valid_contesteds, valid_contested, state_of, is_valid, tables}
use Rattle.records.specs.Typed.{exact, first_word, Tabled}
use Rattle.peers.specs.Peers.Changes.{forget, hold, hold_peer, leave, later}
use Rattle.peers.specs.Peers.Steps.Runs.{Stores, Becomes}
use Rattle.peers.specs.Peers.Steps.Stays.{Valid}
use Rattle.questions.proofs.OnlyLaws.{map-only}
use Rattle.records.proofs.Tables.TabledLaws.{Sound, sound, tabled-replaced, tabled-still}
use Rattle.peers.proofs.Peers.Tables.TableLaws.{stores-of}
use Rattle.questions.proofs.ListLaws.{map-map}

-- ---- a table of a valid state

pub record Tables (p : PeerDemand) (t : PeerTables) : Type 0 where
  pub peers : Sound peer_words peer_of 12 1 peers_size p.peers t.peers
  pub snapshot_keys : Sound snapshot_key_words snapshot_key_of 4 2 snapshot_keys_size p.snapshot_keys t.snapshot_keys
  pub contested : Sound contested_words contested_of 6 2 contested_size p.contested t.contested

pub tables-of : (p : PeerDemand) (t : PeerTables) → Valid p t → Tables p t
unfolding lengths have_room is_valid are_exact state_of valid valid_peers valid_snapshot_keys valid_contesteds
tables-of p t v =
    let r = both (leb peers_size (length t.peers)) _ v.room in
    let r₂ = both (leb snapshot_keys_size (length t.snapshot_keys)) _ r.1 in
    let q = both (are_exact p t) (valid (state_of p t)) v.state in
    let e = both (exact peer_words peer_of (records 12 p.peers t.peers)) _ q.0 in
    let e₂ = both (exact snapshot_key_words snapshot_key_of (records 4 p.snapshot_keys t.snapshot_keys)) _ e.1 in
    let s = state_of p t in
    let a = both (valid_peers s.peers) _ q.1 in
    let a₂ = both (valid_snapshot_keys s.peers s.snapshot_keys) _ a.1 in
    let b = both (leb (length s.peers) max_peers) _ a.0 in
    let c = both (leb (length s.snapshot_keys) (max_peers * max_demand_keys)) _ a₂.0 in
    let d = both (leb (length s.contested) (max_peers * max_contested)) _ a₂.1 in
    record {
      peers =
          sound peer_words peer_of 12 1 max_peers peers_size p.peers t.peers (omega arith) (omega arith) (omega arith) (omega arith)
          (leb-true peers_size (length t.peers) r.0) e.0 b.0 (both (all valid_peer s.peers) _ b.1).1;
      snapshot_keys =
          sound snapshot_key_words snapshot_key_of 4 2 (max_peers * max_demand_keys) snapshot_keys_size p.snapshot_keys t.snapshot_keys (omega arith) (omega arith) (omega arith) (omega arith)
          (leb-true snapshot_keys_size (length t.snapshot_keys) r₂.0) e₂.0 c.0 (both (ascending 2 (map snapshot_key_words s.snapshot_keys)) _ (both (all valid_snapshot_key s.snapshot_keys) _ c.1).1).0;
      contested =
          sound contested_words contested_of 6 2 (max_peers * max_contested) contested_size p.contested t.contested (omega arith) (omega arith) (omega arith) (omega arith)
          (leb-true contested_size (length t.contested) r₂.1) e₂.1 d.0 (both (ascending 2 (map contested_words s.contested)) _ (both (all valid_contested s.contested) _ d.1).1).0;
    }

-- ---- a state that stays

pub stores-still : (p : PeerDemand) (t : PeerTables) → Valid p t → Stores (state_of p t) p t p t
unfolding state_of
stores-still p t v =
    let o = tables-of p t v in
    stores-of p (state_of p t) p.peers p.snapshot_keys p.contested t t.peers t.snapshot_keys t.contested
    (tabled-still peer_words peer_of 12 1 peers_size p.peers t.peers o.peers)
    (tabled-still snapshot_key_words snapshot_key_of 4 2 snapshot_keys_size p.snapshot_keys t.snapshot_keys o.snapshot_keys)
    (tabled-still contested_words contested_of 6 2 contested_size p.contested t.contested o.contested)

-- ---- a departure

pub forgotten :
    (p : PeerDemand) (t : PeerTables) (id n k c : ℕ) (ps ks cs : List ℕ)
    → Tables p t
    → Tabled n (replaced first_word id [] (records 12 p.peers t.peers)) t.peers ps
    → Tabled k (replaced first_word id [] (records 4 p.snapshot_keys t.snapshot_keys)) t.snapshot_keys ks
    → Tabled c (replaced first_word id [] (records 6 p.contested t.contested)) t.contested cs
    → Stores (forget id (state_of p t)) p t (record { peers = n; snapshot_keys = k; contested = c }) (record { peers = ps; snapshot_keys = ks; contested = cs })
unfolding forget state_of peer_words snapshot_key_words contested_words
forgotten p t id n k c ps ks cs o h₁ h₂ h₃ =
    stores-of p (forget id (state_of p t)) n k c t ps ks cs
    (tabled-replaced peer_words peer_of 12 1 peers_size p.peers t.peers o.peers (λ (x : PeerRecord). x.id) (λ x. refl) id n [] ps h₁)
    (tabled-replaced snapshot_key_words snapshot_key_of 4 2 snapshot_keys_size p.snapshot_keys t.snapshot_keys o.snapshot_keys (λ (x : SnapshotKey). x.peer) (λ x. refl) id k [] ks h₂)
    (tabled-replaced contested_words contested_of 6 2 contested_size p.contested t.contested o.contested (λ (x : ContestedKey). x.peer) (λ x. refl) id c [] cs h₃)

held-words : (id until : ℕ) (rs : List (List ℕ)) → map (λ x. peer_words (hold until (peer_of x))) (those first_word id rs) ≡ map peer_words (map (hold until) (those (λ (p : PeerRecord). p.id) id (map peer_of rs)))
unfolding those peer_of
held-words id until rs =
    sym (map-map (λ (p : PeerRecord). peer_words (hold until p)) peer_of (only (λ r. eqb (first_word r) id) rs))
    ∙ sym (map-map peer_words (hold until) (map peer_of (only (λ r. eqb (first_word r) id) rs)))
    ∙ ap (λ l. map peer_words (map (hold until) l)) (map-only peer_of (λ (p : PeerRecord). eqb p.id id) rs)

held-peer-stores :
    (p : PeerDemand) (t : PeerTables) (id until : ℕ) (ps : List ℕ)
    → Tables p t
    → Tabled p.peers (replaced first_word id (map (λ x. peer_words (hold until (peer_of x))) (those first_word id (records 12 p.peers t.peers))) (records 12 p.peers t.peers)) t.peers ps
    → Stores (hold_peer id until (state_of p t)) p t p (record { peers = ps; snapshot_keys = t.snapshot_keys; contested = t.contested })
unfolding hold_peer state_of peer_words
held-peer-stores p t id until ps o h =
    let rs : List (List ℕ) = records 12 p.peers t.peers in
    stores-of p (hold_peer id until (state_of p t)) p.peers p.snapshot_keys p.contested t ps t.snapshot_keys t.contested
    (tabled-replaced peer_words peer_of 12 1 peers_size p.peers t.peers o.peers (λ (x : PeerRecord). x.id) (λ x. refl) id p.peers
    (map (hold until) (those (λ (x : PeerRecord). x.id) id (map peer_of rs))) ps
    (subst (λ (new : List (List ℕ)). Tabled p.peers (replaced first_word id new rs) t.peers ps) (held-words id until rs) h))
    (tabled-still snapshot_key_words snapshot_key_of 4 2 snapshot_keys_size p.snapshot_keys t.snapshot_keys o.snapshot_keys)
    (tabled-still contested_words contested_of 6 2 contested_size p.contested t.contested o.contested)

-- with a time to hold it, and with none
pub leaves-held : (id at time : ℕ) (s : PeersState) → (time ≡ 0 → ⊥) → leave id at time s ≡ hold_peer id (later at time) s
unfolding leave
leaves-held id at time s h = ap (λ (b : Bool). cond b (forget id s) (hold_peer id (later at time) s)) (ne_eqb time 0 h)

pub leaves-now : (id at time : ℕ) (s : PeersState) → time ≡ 0 → leave id at time s ≡ forget id s
unfolding leave
leaves-now id at time s h = ap (λ (b : Bool). cond b (forget id s) (hold_peer id (later at time) s)) (eq-eqb time 0 h)

pub leave-stores :
    (p : PeerDemand) (t : PeerTables) (id at time until : ℕ) (ps : List ℕ)
    → Tables p t
    → (time ≡ 0 → ⊥)
    → until ≡ later at time
    → Tabled p.peers (replaced first_word id (map (λ x. peer_words (hold until (peer_of x))) (those first_word id (records 12 p.peers t.peers))) (records 12 p.peers t.peers)) t.peers ps
    → Becomes (leave id at time) p t p (tables ps t.snapshot_keys t.contested)
leave-stores p t id at time until ps o h e k =
    subst (λ (s : PeersState). Stores s p t p (tables ps t.snapshot_keys t.contested))
    (ap (λ (u : ℕ). hold_peer id u (state_of p t)) e ∙ sym (leaves-held id at time (state_of p t) h))
    (held-peer-stores p t id until ps o k)
