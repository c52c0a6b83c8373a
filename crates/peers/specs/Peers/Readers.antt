-- What the peers' state says of a key (peer_demand.rs: `heard`, `get`, `total`, `hot_elsewhere`, `len`). Definitions only.
use Rattle.std.specs.Prelude.{ℕ, ◌+◌, Bool, false, cond, not, ◌||◌, List, [], ◌∷◌, ◌++◌, map, length, drop, from_bits, nat_eq, slice_index, Float}
use Rattle.std.specs.Float.{binary32, binary64}
use Rattle.std.specs.Float.Ieee.{add, lt}
use Rattle.records.specs.Records.{records}
use Rattle.peers.specs.declared.peer_demand.Heard.{Heard}
use Rattle.questions.specs.Lists.{only, any, first, those}
use Rattle.peers.specs.Peers.Records.{Snapshot, PeerRecord, SnapshotKey, ContestedKey}
use Rattle.peers.specs.Peers.State.{PeersState, peer_with, snapshot_keys_of, contested_keys_of}
use Rattle.std.specs.declared.option.Option.{Option}
use Rattle.std.specs.declared.option.Option.TheVariants.{None, Some}

-- the snapshot's word on a key, and the contested one
abbrev pub heard_taken : Option Snapshot → Option SnapshotKey → Option Heard
heard_taken None k = None
heard_taken (Some s) None = None
heard_taken (Some s) (Some k) =
    Some (record { demand = from_bits binary32 k.demand; primary = k.primary; round = s.round; heard_at = s.heard_at })

abbrev pub heard_contested : Option ContestedKey → Option Heard
heard_contested None = None
heard_contested (Some c) =
    Some (record { demand = from_bits binary32 c.demand; primary = c.primary; round = c.round; heard_at = c.heard_at })

-- the higher of the two, the snapshot's where they are equal; primary if either is
abbrev pub higher : Heard → Heard → Heard
higher taken contested = cond (lt taken.demand contested.demand) contested taken

abbrev pub joined : Heard → Heard → Heard
joined taken contested =
    record {
      demand = (higher taken contested).demand;
      primary = taken.primary || contested.primary;
      round = (higher taken contested).round;
      heard_at = (higher taken contested).heard_at;
    }

abbrev pub join : Option Heard → Option Heard → Option Heard
join None contested = contested
join (Some taken) None = Some taken
join (Some taken) (Some contested) = Some (joined taken contested)

abbrev pub snapshot_key_at : (id key : ℕ) → List SnapshotKey → Option SnapshotKey
snapshot_key_at id key ks = first (those (λ (k : SnapshotKey). k.key) key (snapshot_keys_of id ks))

abbrev pub contested_at : (id key : ℕ) → List ContestedKey → Option ContestedKey
contested_at id key cs = first (those (λ (c : ContestedKey). c.key) key (contested_keys_of id cs))

-- `Peer::heard`: the most a peer said about a key
abbrev pub peer_heard : ℕ → PeersState → PeerRecord → Option Heard
peer_heard key s p =
    join (heard_taken p.snapshot (snapshot_key_at p.id key s.snapshot_keys))
    (heard_contested (contested_at p.id key s.contested))

abbrev pub heard_in : ℕ → PeersState → Option PeerRecord → Option Heard
heard_in key s None = None
heard_in key s (Some p) = peer_heard key s p

-- `PeerDemand::get`: a peer that is not known has said nothing
unfoldable pub heard : (id key : ℕ) → PeersState → Option Heard
heard id key s = heard_in key s (peer_with id s.peers)

-- adds what was heard; an f64 holds every f32 exactly
abbrev pub add_heard : Float → Option Heard → Float
add_heard sum None = sum
add_heard sum (Some h) = add binary64 sum h.demand

unfoldable pub total_from : Float → ℕ → PeersState → List PeerRecord → Float
total_from sum key s [] = sum
total_from sum key s (p ∷ ps) = total_from (add_heard sum (peer_heard key s p)) key s ps

-- adds peers in ascending id from +0
abbrev pub total : ℕ → PeersState → Float
total key s = total_from (from_bits binary64 0) key s s.peers

abbrev pub is_primary : Option Heard → Bool
is_primary None = false
is_primary (Some h) = h.primary

-- `PeerDemand::hot_elsewhere`: a peer has the key as primary
unfoldable pub hot_elsewhere : ℕ → PeersState → Bool
hot_elsewhere key s = any (λ (p : PeerRecord). is_primary (peer_heard key s p)) s.peers

-- a number of each peer, added up
unfoldable pub sum_over : (ℕ → ℕ) → List PeerRecord → ℕ
sum_over f [] = 0
sum_over f (p ∷ ps) = f p.id + sum_over f ps

-- `Peer::len`: the keys of the peer's snapshot, and its contested keys that the snapshot has not
unfoldable pub peer_len : PeersState → ℕ → ℕ
peer_len s id =
    length (snapshot_keys_of id s.snapshot_keys)
    + length (only (λ (c : ContestedKey). not (any (λ (k : SnapshotKey). nat_eq k.key c.key) (snapshot_keys_of id s.snapshot_keys))) (contested_keys_of id s.contested))

-- `PeerDemand::len`: the sum over the peers
unfoldable pub len : PeersState → ℕ
len s = sum_over (peer_len s) s.peers

-- ---- of many keys

-- what is told of the key, the first word, of each of n records of w words, in their order, and then an output as it was
unfoldable pub told : {A : Type 0} → (ℕ → PeersState → A) → PeersState → ℕ → ℕ → List ℕ → List A → List A
told tell s w n keys out = map (λ (r : List ℕ). tell (slice_index r 0) s) (records w n keys) ++ drop n out
