-- Question 2 of the whole tables is their scan, where they have room.
use Rattle.std.proofs.Common.{◌≡◌, ℕ, zero, suc, ◌*◌, ◌≤◌, Bool, true, ◌&&◌, eqb, leb, List, map, length, get_or, sym, refl, ap, ◌∙◌, mul-le-mul_right, arith, lt-ltb, leb-true}
use mathlib.Core.Bool.{and-true, and_assoc}
use lib.Dec.{leb-zero}
use Rattle.records.specs.Records.{records, ascending}
use Rattle.questions.proofs.Tests.{both, and_left}
use Rattle.records.proofs.Words.RecordLaws.{length-records}
use Rattle.peers.specs.declared.peer_demand.PeerDemand.{PeerDemand}
use Rattle.questions.specs.Lists.{all, any, present, those}
use Rattle.peers.specs.Peers.Records.{PeerRecord, SnapshotKey, ContestedKey, snapshot_of, peer_words, snapshot_key_words, contested_words, peer_of, snapshot_key_of, contested_of}
use Rattle.peers.specs.Peers.State.{PeerTables, max_peers, max_demand_keys, max_contested, snapshot_keys_of, contested_keys_of, is_taken, is_known, has_snapshot, valid_peer, valid_snapshot_key, valid_contested, valid_peers, valid_snapshot_keys, valid_contesteds, valid, lengths, have_room, peers_size, snapshot_keys_size, contested_size, state_of, are_exact, is_valid}
use Rattle.records.specs.Typed.{is_word, exact, first_word, are_records}
use Rattle.peers.specs.Peers.Steps.Scan.{are_peer_words, are_key_words, is_named, are_named, are_within, are_peers, are_keys, is_scanned, PeersReady, KeysReady}
use Rattle.questions.proofs.ListLaws.{all_map, any-map, length-those}
use Rattle.records.proofs.Tables.TypedLaws.{words-of-exact}
use Rattle.peers.proofs.Peers.Validity.ScanLaws.{peer-words-pass, key-words-pass, contested-words-pass}
use Rattle.records.proofs.Tables.ScanLaws.{counted-table, counted-order}

-- ---- the three tables
module _ (n : ℕ) (xs : List ℕ) where
  pub peers-scanned : peers_size ≤ length xs → all is_word xs ≡ true → (exact peer_words peer_of (records 12 n xs) && valid_peers (map peer_of (records 12 n xs))) ≡ are_peers (records 12 n xs)
  unfolding valid_peers are_peers
  peers-scanned room word = counted-order peer_words peer_of valid_peer are_peer_words 12 n xs word peer-words-pass max_peers (omega arith)

-- whose peers are known by their words
taken-flag : (flag epoch round at : ℕ) → present (snapshot_of flag epoch round at) ≡ leb 1 flag
taken-flag zero epoch round at = refl
taken-flag (suc flag) epoch round at = sym (lt-ltb 0 (suc flag) (omega arith))

pub taken-named : (ps : List (List ℕ)) (id : ℕ) → has_snapshot (map peer_of ps) id ≡ is_named 1 ps id
unfolding has_snapshot is_named peer_of
taken-named ps id =
    any-map peer_of (λ (p : PeerRecord). eqb p.id id && is_taken p) ps
    ∙ (λ k. any (λ (r : List ℕ). eqb (get_or r 0 0) id && taken-flag (get_or r 3 0) (get_or r 4 0) (get_or r 5 0) (get_or r 6 0) k) ps)

pub known-named : (ps : List (List ℕ)) (id : ℕ) → is_known (map peer_of ps) id ≡ is_named 0 ps id
unfolding is_known is_named peer_of
known-named ps id =
    any-map peer_of (λ (p : PeerRecord). eqb p.id id) ps
    ∙ (λ k. any (λ (r : List ℕ). (sym (and-true (eqb (get_or r 0 0) id)) ∙ ap (λ (b : Bool). eqb (get_or r 0 0) id && b) (sym (leb-zero (get_or r 3 0)))) k) ps)

-- a key's peer is its first word
pub within-bound : {A : Type 0} (of : List ℕ → A) (peer : A → ℕ) (bound : ℕ) (ps rs : List (List ℕ)) → ((r : List ℕ) → peer (of r) ≡ first_word r) → all (λ (p : PeerRecord). leb (length (those peer p.id (map of rs))) bound) (map peer_of ps) ≡ are_within bound ps rs
unfolding are_within peer_of
within-bound of peer bound ps rs h =
    all_map peer_of (λ (p : PeerRecord). leb (length (those peer p.id (map of rs))) bound) ps
    ∙ (λ k. all (λ (p : List ℕ). leb (length-those of peer (get_or p 0 0) rs k) bound) ps)
    ∙ (λ k. all (λ (p : List ℕ). leb (length (those (λ (r : List ℕ). h r k) (get_or p 0 0) rs)) bound) ps)

module _ (n : ℕ) (xs : List ℕ) (ps : List (List ℕ)) where
  pub keys-scanned : snapshot_keys_size ≤ length xs → all is_word xs ≡ true → (exact snapshot_key_words snapshot_key_of (records 4 n xs) && valid_snapshot_keys (map peer_of ps) (map snapshot_key_of (records 4 n xs))) ≡ are_keys 4 1 max_demand_keys ps (records 4 n xs)
  unfolding valid_snapshot_keys are_keys are_named snapshot_key_of
  keys-scanned room word =
      let rs : List (List ℕ) = records 4 n xs in
      let ks : List SnapshotKey = map snapshot_key_of rs in
      let named : Bool = all (λ (k : SnapshotKey). has_snapshot (map peer_of ps) k.peer) ks in
      let within : Bool = all (λ (p : PeerRecord). leb (length (snapshot_keys_of p.id ks)) max_demand_keys) (map peer_of ps) in
      counted-table snapshot_key_words snapshot_key_of valid_snapshot_key (are_key_words 4) 4 n xs word key-words-pass (max_peers * max_demand_keys)
      (ascending 2 (map snapshot_key_words ks) && (named && within)) (ascending 2 rs && (are_named 1 ps rs && are_within max_demand_keys ps rs)) (omega arith)
      (λ e k. ascending 2 (words-of-exact snapshot_key_words snapshot_key_of rs e k) && ((all_map snapshot_key_of (λ (k : SnapshotKey). has_snapshot (map peer_of ps) k.peer) rs ∙ (λ j. all (λ (r : List ℕ). taken-named ps (get_or r 0 0) j) rs)) k && within-bound snapshot_key_of (λ (k : SnapshotKey). k.peer) max_demand_keys ps rs (λ r. refl) k))

  pub contested-scanned : contested_size ≤ length xs → all is_word xs ≡ true → (exact contested_words contested_of (records 6 n xs) && valid_contesteds (map peer_of ps) (map contested_of (records 6 n xs))) ≡ are_keys 6 0 max_contested ps (records 6 n xs)
  unfolding valid_contesteds are_keys are_named contested_of
  contested-scanned room word =
      let rs : List (List ℕ) = records 6 n xs in
      let cs : List ContestedKey = map contested_of rs in
      let named : Bool = all (λ (c : ContestedKey). is_known (map peer_of ps) c.peer) cs in
      let within : Bool = all (λ (p : PeerRecord). leb (length (contested_keys_of p.id cs)) max_contested) (map peer_of ps) in
      counted-table contested_words contested_of valid_contested (are_key_words 6) 6 n xs word contested-words-pass (max_peers * max_contested)
      (ascending 2 (map contested_words cs) && (named && within)) (ascending 2 rs && (are_named 0 ps rs && are_within max_contested ps rs)) (omega arith)
      (λ e k. ascending 2 (words-of-exact contested_words contested_of rs e k) && ((all_map contested_of (λ (c : ContestedKey). is_known (map peer_of ps) c.peer) rs ∙ (λ j. all (λ (r : List ℕ). known-named ps (get_or r 0 0) j) rs)) k && within-bound contested_of (λ (c : ContestedKey). c.peer) max_contested ps rs (λ r. refl) k))

-- ---- question 2
by-table : (ep ek ec vp vk vc : Bool) → ((ep && (ek && ec)) && (vp && (vk && vc))) ≡ ((ep && vp) && ((ek && vk) && (ec && vc)))
by-table ep ek ec vp vk vc = simp (and_assoc, and_left)

-- the sizes that room gives
pub record Roomy (t : PeerTables) : Type 0 where
  pub peers : peers_size ≤ length t.peers
  pub snapshot_keys : snapshot_keys_size ≤ length t.snapshot_keys
  pub contested : contested_size ≤ length t.contested

pub room_says : (t : PeerTables) → have_room (lengths t) ≡ true → Roomy t
unfolding lengths have_room
room_says t e =
    let a = both (leb peers_size (length t.peers)) _ e in
    let b = both (leb snapshot_keys_size (length t.snapshot_keys)) _ a.1 in
    record {
      peers = leb-true peers_size (length t.peers) a.0;
      snapshot_keys = leb-true snapshot_keys_size (length t.snapshot_keys) b.0;
      contested = leb-true contested_size (length t.contested) b.1;
    }

pub scanned-is-valid : (p : PeerDemand) (t : PeerTables) → have_room (lengths t) ≡ true → all is_word t.peers ≡ true → all is_word t.snapshot_keys ≡ true → all is_word t.contested ≡ true → is_scanned p t ≡ is_valid p t
unfolding is_scanned is_valid are_exact valid state_of
scanned-is-valid p t room wp wk wc =
    let r = room_says t room in
    let ps : List (List ℕ) = records 12 p.peers t.peers in
    let ks : List (List ℕ) = records 4 p.snapshot_keys t.snapshot_keys in
    let cs : List (List ℕ) = records 6 p.contested t.contested in
    sym
    (by-table (exact peer_words peer_of ps) (exact snapshot_key_words snapshot_key_of ks) (exact contested_words contested_of cs) (valid_peers (map peer_of ps)) (valid_snapshot_keys (map peer_of ps) (map snapshot_key_of ks)) (valid_contesteds (map peer_of ps) (map contested_of cs))
    ∙ (λ k. peers-scanned p.peers t.peers r.peers wp k && (keys-scanned p.snapshot_keys t.snapshot_keys ps r.snapshot_keys wk k && contested-scanned p.contested t.contested ps r.contested wc k)))

-- ---- what the scan of the peers gives to that of their keys
pub peers-ready : (p : ℕ) (xs : List ℕ) → peers_size ≤ length xs → are_peers (records 12 p xs) ≡ true → PeersReady p xs
unfolding are_peers are_records
peers-ready p xs room e =
    let a = both (leb (length (records 12 p xs)) max_peers) _ e in
    let b = both (all are_peer_words (records 12 p xs)) (ascending 1 (records 12 p xs)) a.1 in
    let few : p ≤ max_peers = omega (arith, leb-true (length (records 12 p xs)) max_peers a.0, length-records 12 p xs) in
    record { few = few; fit = omega arith; ascend = b.1 }

pub keys-ready : (w n bound : ℕ) (xs : List ℕ) → 4 ≤ w → bound * w ≤ length xs → n ≤ bound → KeysReady w n xs
keys-ready w n bound xs wide room few = record { wide = wide; fit = omega (arith, mul-le-mul_right w few) }
