-- The peers' state, when it is valid (01, 'The saved image'), and the tables that hold it. Definitions only.
use Rattle.std.specs.Prelude.{ℕ, ◌*◌, ◌^◌, Bool, true, ◌&&◌, ◌||◌, ltb, leb, List, map, length, ◌==◌, nat_eq, nat_le, nat_lt}
use Rattle.records.specs.Records.{records, table, ascending}
use Rattle.peers.specs.declared.peer_demand.PeerDemand.{PeerDemand}
use Rattle.questions.specs.Lists.{all, any, first, present, those}
use Rattle.peers.specs.Peers.Records.{max_past_epochs, Snapshot, PeerRecord, SnapshotKey, ContestedKey, peer_words, snapshot_key_words, contested_words, peer_of, snapshot_key_of, contested_of}
use Rattle.records.specs.Typed.{exact, is_word}
use Rattle.std.specs.declared.option.Option.{Option}
use Rattle.std.specs.declared.option.Option.TheVariants.{None, Some}

-- the peers by id; the keys of their snapshots, and their contested keys, by peer and then key
pub record PeersState : Type 0 where
  pub peers : List PeerRecord
  pub snapshot_keys : List SnapshotKey
  pub contested : List ContestedKey

-- question 12: 32 peers at most, each with at most 64 snapshot keys (`MAX_DEMAND_KEYS`) and 256 contested ones (`MAX_CONTESTED`)
abbrev pub max_peers : ℕ
max_peers = 32

abbrev pub max_demand_keys : ℕ
max_demand_keys = 64

abbrev pub max_contested : ℕ
max_contested = 256

-- ---- a peer and its keys

abbrev pub peer_with : ℕ → List PeerRecord → Option PeerRecord
peer_with id ps = first (those (λ (p : PeerRecord). p.id) id ps)

abbrev pub snapshot_keys_of : ℕ → List SnapshotKey → List SnapshotKey
snapshot_keys_of id ks = those (λ (k : SnapshotKey). k.peer) id ks

abbrev pub contested_keys_of : ℕ → List ContestedKey → List ContestedKey
contested_keys_of id cs = those (λ (c : ContestedKey). c.peer) id cs

abbrev pub is_taken : PeerRecord → Bool
is_taken p = present p.snapshot

abbrev pub is_held : PeerRecord → Bool
is_held p = present p.held_until

-- is the peer known, and has it a snapshot?
unfoldable pub is_known : List PeerRecord → ℕ → Bool
is_known ps id = any (λ (p : PeerRecord). nat_eq p.id id) ps

unfoldable pub has_snapshot : List PeerRecord → ℕ → Bool
has_snapshot ps id = any (λ (p : PeerRecord). (p.id == id) && is_taken p) ps

-- ---- validity

-- an f32 that is finite with a clear sign bit: IEEE 754's exponent field is not all ones
abbrev pub is_demand : ℕ → Bool
is_demand w = nat_lt w 0x7f800000

-- values fit their Rust widths
abbrev pub valid_snapshot : Option Snapshot → Bool
valid_snapshot None = true
valid_snapshot (Some s) = nat_lt s.epoch (2 ^ 32) && nat_lt s.round (2 ^ 16)

abbrev pub valid_past : List ℕ → Bool
valid_past es = nat_le (length es) max_past_epochs && all (λ (e : ℕ). ltb e (2 ^ 32)) es

-- a peer without a snapshot has no past epochs
abbrev pub past_has_snapshot : PeerRecord → Bool
past_has_snapshot p = is_taken p || length p.past_epochs == 0

unfoldable pub valid_peer : PeerRecord → Bool
valid_peer p =
    all is_word (peer_words p) && (valid_snapshot p.snapshot && (valid_past p.past_epochs && past_has_snapshot p))

unfoldable pub valid_snapshot_key : SnapshotKey → Bool
valid_snapshot_key k = all is_word (snapshot_key_words k) && is_demand k.demand

unfoldable pub valid_contested : ContestedKey → Bool
valid_contested c = all is_word (contested_words c) && (is_demand c.demand && nat_lt c.round (2 ^ 16))

-- each kind ascends, each value fits, each snapshot key's peer has a snapshot, each contested key's peer a record, and counts keep their bounds
unfoldable pub valid_peers : List PeerRecord → Bool
valid_peers ps = nat_le (length ps) max_peers && (all valid_peer ps && ascending 1 (map peer_words ps))

unfoldable pub valid_snapshot_keys : List PeerRecord → List SnapshotKey → Bool
valid_snapshot_keys ps ks =
    nat_le (length ks) (max_peers * max_demand_keys)
    && (all valid_snapshot_key ks
    && (ascending 2 (map snapshot_key_words ks)
    && (all (λ (k : SnapshotKey). has_snapshot ps k.peer) ks
    && all (λ (p : PeerRecord). leb (length (snapshot_keys_of p.id ks)) max_demand_keys) ps)))

unfoldable pub valid_contesteds : List PeerRecord → List ContestedKey → Bool
valid_contesteds ps cs =
    nat_le (length cs) (max_peers * max_contested)
    && (all valid_contested cs
    && (ascending 2 (map contested_words cs)
    && (all (λ (c : ContestedKey). is_known ps c.peer) cs
    && all (λ (p : PeerRecord). leb (length (contested_keys_of p.id cs)) max_contested) ps)))

unfoldable pub valid : PeersState → Bool
valid s = valid_peers s.peers && (valid_snapshot_keys s.peers s.snapshot_keys && valid_contesteds s.peers s.contested)

-- ---- tables

-- the words of the three lent tables
pub record PeerTables : Type 0 where
  pub peers : List ℕ
  pub snapshot_keys : List ℕ
  pub contested : List ℕ

abbrev pub tables : List ℕ → List ℕ → List ℕ → PeerTables
tables peers snapshot_keys contested = record { peers = peers; snapshot_keys = snapshot_keys; contested = contested }

-- how many words each has
pub record PeerLengths : Type 0 where
  pub peers : ℕ
  pub snapshot_keys : ℕ
  pub contested : ℕ

unfoldable pub lengths : PeerTables → PeerLengths
lengths t = record { peers = length t.peers; snapshot_keys = length t.snapshot_keys; contested = length t.contested }

-- question 1's formula: words of a record times the most records
abbrev pub peers_size : ℕ
peers_size = 12 * max_peers

abbrev pub snapshot_keys_size : ℕ
snapshot_keys_size = 4 * (max_peers * max_demand_keys)

abbrev pub contested_size : ℕ
contested_size = 6 * (max_peers * max_contested)

unfoldable pub have_room : PeerLengths → Bool
have_room n =
    nat_le peers_size n.peers && (nat_le snapshot_keys_size n.snapshot_keys && nat_le contested_size n.contested)

-- the state that the records in use stand for
unfoldable pub state_of : PeerDemand → PeerTables → PeersState
state_of p t =
    record {
      peers = map peer_of (records 12 p.peers t.peers);
      snapshot_keys = map snapshot_key_of (records 4 p.snapshot_keys t.snapshot_keys);
      contested = map contested_of (records 6 p.contested t.contested);
    }

unfoldable pub are_exact : PeerDemand → PeerTables → Bool
are_exact p t =
    exact peer_words peer_of (records 12 p.peers t.peers)
    && (exact snapshot_key_words snapshot_key_of (records 4 p.snapshot_keys t.snapshot_keys)
    && exact contested_words contested_of (records 6 p.contested t.contested))

-- question 2: could the lent state stand in a valid image?
unfoldable pub is_valid : PeerDemand → PeerTables → Bool
is_valid p t = are_exact p t && valid (state_of p t)

-- the value that `PeerDemand::new` answers: no records of any kind
abbrev pub new_peers : PeerDemand
new_peers = record { peers = 0; snapshot_keys = 0; contested = 0 }

-- the value p with the counts of a state: how many records it has of each kind (a value is its counts alone, so p is not looked at)
abbrev pub with_counts : PeerDemand → PeersState → PeerDemand
with_counts p s = record { peers = length s.peers; snapshot_keys = length s.snapshot_keys; contested = length s.contested }

-- the tables with the records of a state, each as it was past them
abbrev pub written : PeersState → PeerTables → PeerTables
written s t =
    tables (table (map peer_words s.peers) t.peers) (table (map snapshot_key_words s.snapshot_keys) t.snapshot_keys) (table (map contested_words s.contested) t.contested)
