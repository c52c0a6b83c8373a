-- Question 2 of the peers' tables, asked word by word: what the private functions of the scan cite. Definitions only.
use Rattle.std.specs.Prelude.{◌≡◌, ℕ, zero, suc, ◌+◌, ◌*◌, ◌^◌, ◌<◌, ◌≤◌, Bool, true, cond, ◌&&◌, ◌||◌, leb, List, [], ◌∷◌, length, get_or, drop, ◌==◌, nat_le, nat_lt, slice_index, slice_index_or}
use Rattle.records.specs.Records.{records, ascending}
use Rattle.peers.specs.declared.peer_demand.PeerDemand.{PeerDemand}
use Rattle.records.specs.Fields.{is_time}
use Rattle.questions.specs.Lists.{all, any, those}
use Rattle.peers.specs.Peers.State.{PeerTables, max_peers, max_demand_keys, max_contested, is_demand}
use Rattle.records.specs.Typed.{first_word, are_records}

-- a snapshot that is missing has four words 0; one that is there has the flag 1, and its epoch and round fit their widths
unfoldable pub is_snapshot : ℕ → ℕ → ℕ → ℕ → Bool
is_snapshot zero epoch round heard_at = epoch == 0 && (round == 0 && heard_at == 0)
is_snapshot (suc flag) epoch round heard_at = suc flag == 1 && (nat_lt epoch (2 ^ 32) && nat_lt round (2 ^ 16))

-- past epoch i fits its width where it is counted, and is 0 where it is not
unfoldable pub is_past_epoch : (count i epoch : ℕ) → Bool
is_past_epoch count i epoch = cond (nat_lt i count) (nat_lt epoch (2 ^ 32)) (epoch == 0)

unfoldable pub is_past : (count a b c d : ℕ) → Bool
is_past count a b c d =
    nat_le count 4
    && (is_past_epoch count 0 a && (is_past_epoch count 1 b && (is_past_epoch count 2 c && is_past_epoch count 3 d)))

-- the words of a valid peer, and the w words of a valid snapshot key or contested key, which alone has a round
unfoldable pub is_peer : (held until taken epoch round heard_at count a b c d : ℕ) → Bool
is_peer held until taken epoch round heard_at count a b c d =
    is_time held until
    && (is_snapshot taken epoch round heard_at && (is_past count a b c d && (nat_lt 0 taken || count == 0)))

abbrev pub are_peer_words : List ℕ → Bool
are_peer_words r =
    is_peer (slice_index r 1) (slice_index r 2) (slice_index r 3) (slice_index r 4) (slice_index r 5) (slice_index r 6) (slice_index r 7) (slice_index r 8) (slice_index r 9) (slice_index r 10) (slice_index r 11)

unfoldable pub are_key_words : ℕ → List ℕ → Bool
are_key_words w r = is_demand (slice_index r 2) && (nat_le (slice_index r 3) 1 && (nat_le w 4 || nat_lt (slice_index r 4) (2 ^ 16)))

-- a peer of the given id has a snapshot flag of `least` or more
unfoldable pub is_named : ℕ → List (List ℕ) → ℕ → Bool
is_named least ps id = any (λ (p : List ℕ). (first_word p == id) && nat_le least (slice_index p 3)) ps

-- every key has such a peer, and no peer has more keys than the bound
unfoldable pub are_named : ℕ → List (List ℕ) → List (List ℕ) → Bool
are_named least ps rs = all (λ (r : List ℕ). is_named least ps (first_word r)) rs

unfoldable pub are_within : ℕ → List (List ℕ) → List (List ℕ) → Bool
are_within bound ps rs = all (λ (p : List ℕ). leb (length (those first_word (first_word p) rs)) bound) ps

-- what is asked of each table
unfoldable pub are_peers : List (List ℕ) → Bool
are_peers ps = nat_le (length ps) max_peers && are_records are_peer_words ps

unfoldable pub are_keys : (w least bound : ℕ) → List (List ℕ) → List (List ℕ) → Bool
are_keys w least bound ps rs =
    nat_le (length rs) (max_peers * bound)
    && (all (are_key_words w) rs && (ascending 2 rs && (are_named least ps rs && are_within bound ps rs)))

-- where the peers ascend, the same in one pass: each peer has a run of keys, and the runs follow one another as the peers do

-- a valid key of the peer with the id, whose second word is `low` or more
unfoldable pub is_key_of : (w id low : ℕ) → List ℕ → Bool
is_key_of w id low r = first_word r == id && (nat_le low (slice_index r 1) && are_key_words w r)

-- how many records, from the first on, are such keys, each above the one before it
unfoldable pub run_length : (w id low : ℕ) → List (List ℕ) → ℕ
run_length w id low [] = 0
run_length w id low (r ∷ rs) = cond (is_key_of w id low r) (suc (run_length w id (suc (slice_index r 1)) rs)) 0

-- a peer with this snapshot flag may have so many keys
unfoldable pub is_run : (least bound flag count : ℕ) → Bool
is_run least bound flag count = count == 0 || (nat_le count bound && nat_le least flag)

-- the records are such a run for each peer, and no more
unfoldable pub are_runs : (w least bound : ℕ) → List (List ℕ) → List (List ℕ) → Bool
are_runs w least bound [] rs = length rs == 0
are_runs w least bound (p ∷ ps) rs =
    is_run least bound (slice_index p 3) (run_length w (first_word p) 0 rs)
    && are_runs w least bound ps (drop (run_length w (first_word p) 0 rs) rs)

-- a snapshot key's peer has a snapshot, a contested key's peer a record
unfoldable pub is_scanned : PeerDemand → PeerTables → Bool
is_scanned p t =
    are_peers (records 12 p.peers t.peers)
    && (are_keys 4 1 max_demand_keys (records 12 p.peers t.peers) (records 4 p.snapshot_keys t.snapshot_keys)
    && are_keys 6 0 max_contested (records 12 p.peers t.peers) (records 6 p.contested t.contested))

-- what the scan of the keys needs of the peers' table, and of the keys'
pub record PeersReady (p : ℕ) (xs : List ℕ) : Type 0 where
  pub few : p ≤ max_peers
  pub fit : p * 12 ≤ length xs
  pub ascend : ascending 1 (records 12 p xs) ≡ true

pub record KeysReady (w n : ℕ) (xs : List ℕ) : Type 0 where
  pub wide : 4 ≤ w
  pub fit : n * w ≤ length xs

-- where the keys of each of p peers start in their table: those of peer i are the records from its start up to the next
-- start, and after the starts of all peers comes the place where the last one's keys end
pub record Starts (w n p last : ℕ) (xs peers starts : List ℕ) : Type 0 where
  pub room : p < length starts
  pub begin : get_or starts 0 0 ≡ 0
  pub end : get_or starts p 0 ≡ last
  pub rise : (i : ℕ) → i < p → slice_index starts i ≤ slice_index starts (i + 1)
  pub own : (i j : ℕ) → i < p → slice_index starts i ≤ j → j < slice_index starts (i + 1) → first_word (slice_index_or (records w n xs) j []) ≡ slice_index peers (i * 12)
