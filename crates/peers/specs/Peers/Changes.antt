-- What reports, departures and time do to the peers' state (peer_demand.rs). Definitions only.
use Rattle.std.specs.Prelude.{ℕ, zero, suc, ◌+◌, ◌-◌, ◌*◌, ◌%◌, ◌^◌, min, max, Bool, true, false, cond, not, ◌&&◌, ◌||◌, List, [], ◌∷◌, map, length, take, ◌==◌, from_bits, nat_eq, nat_le, nat_lt, to_bits}
use Rattle.std.specs.Float.{binary32}
use Rattle.std.specs.Float.Ieee.{lt}
use Rattle.records.specs.Records.{same}
use Rattle.peers.specs.declared.peer_demand.KeyDemand.{KeyDemand}
use Rattle.peers.specs.declared.peer_demand.DemandReport.{DemandReport}
use Rattle.questions.specs.Lists.{only, any, first, those, replaced}
use Rattle.peers.specs.Peers.Records.{max_past_epochs, Snapshot, PeerRecord, SnapshotKey, ContestedKey, snapshot_key_words}
use Rattle.peers.specs.Peers.State.{PeersState, max_contested, peer_with, snapshot_keys_of, contested_keys_of, is_taken, is_held, is_known, has_snapshot}
use Rattle.std.specs.declared.option.Option.{Option}
use Rattle.std.specs.declared.option.Option.TheVariants.{None, Some}

-- ---- rounds (01, 'Reports (002)')

-- the round difference, modulo 65,536
abbrev pub ahead : (a b : ℕ) → ℕ
ahead a b = (a + (2 ^ 16 - b)) % 2 ^ 16

-- newer means 1 to 32,767
unfoldable pub newer : (a b : ℕ) → Bool
newer a b = nat_le 1 (ahead a b) && nat_le (ahead a b) 32767

-- a jump of rounds that no live peer makes
unfoldable pub implausible : (jump a b : ℕ) → Bool
implausible jump a b = nat_le jump (ahead a b)

-- `IMPLAUSIBLE_JUMP`
abbrev pub implausible_jump : ℕ
implausible_jump = 0x4000

-- max(10, 3·N)
abbrev pub stale_after_rounds : ℕ → ℕ
stale_after_rounds n = max 10 (3 * n)

-- ---- times and demands

-- a time sum, at most 2^64 - 1
abbrev pub later : (t d : ℕ) → ℕ
later t d = min (t + d) (2 ^ 64 - 1)

-- a > b, as floats; the patterns being those of demands, it is their order as numbers
unfoldable pub exceeds : (a b : ℕ) → Bool
exceeds a b = lt (from_bits binary32 b) (from_bits binary32 a)

-- ---- the keys of a report

-- what a report lists
abbrev pub listed : DemandReport → List KeyDemand
listed r = take r.count r.keys

abbrev pub key_of : ℕ → KeyDemand → SnapshotKey
key_of id k = record { peer = id; key = k.key_hash; demand = to_bits binary32 k.demand; primary = k.primary }

-- the keys of a peer with k put in; one of the same key goes
abbrev pub put_key : SnapshotKey → List SnapshotKey → List SnapshotKey
put_key k ks = replaced (λ (x : SnapshotKey). x.key) k.key (k ∷ []) ks

-- listed keys put in one after the other: a key listed twice counts as listed last
unfoldable pub collected : ℕ → List KeyDemand → List SnapshotKey → List SnapshotKey
collected id [] ks = ks
collected id (d ∷ ds) ks = collected id ds (put_key (key_of id d) ks)

abbrev pub report_keys : ℕ → DemandReport → List SnapshotKey
report_keys id r = collected id (listed r) []

-- ---- contested keys (`Peer::contest`)

-- a key heard in the given round at the given time, where none is contested
abbrev pub fresh : (round at : ℕ) → SnapshotKey → ContestedKey
fresh round at k = record { peer = k.peer; key = k.key; demand = k.demand; primary = k.primary; round = round; heard_at = at }

-- and where one is: the higher demand with its round, primary if either is, the later time
abbrev pub merged : (round at : ℕ) → SnapshotKey → ContestedKey → ContestedKey
merged round at k c =
    record {
      peer = c.peer;
      key = c.key;
      demand = cond (exceeds k.demand c.demand) k.demand c.demand;
      primary = c.primary || k.primary;
      round = cond (exceeds k.demand c.demand) round c.round;
      heard_at = max c.heard_at at;
    }

abbrev pub contested_with : (round at : ℕ) → SnapshotKey → Option ContestedKey → ContestedKey
contested_with round at k None = fresh round at k
contested_with round at k (Some c) = merged round at k c

abbrev pub merge_key : (round at : ℕ) → SnapshotKey → List ContestedKey → List ContestedKey
merge_key round at k cs =
    replaced (λ (c : ContestedKey). c.key) k.key
    (contested_with round at k (first (those (λ (c : ContestedKey). c.key) k.key cs)) ∷ [])
    cs

-- all keys of a report, among the contested keys of its peer
unfoldable pub merge_keys : (round at : ℕ) → List SnapshotKey → List ContestedKey → List ContestedKey
merge_keys round at [] cs = cs
merge_keys round at (k ∷ ks) cs = merge_keys round at ks (merge_key round at k cs)

-- heard longer ago; of two heard at once, the smaller key
abbrev pub older : ContestedKey → ContestedKey → Bool
older c d = nat_lt c.heard_at d.heard_at || (c.heard_at == d.heard_at && nat_lt c.key d.key)

-- the key of the oldest of c and cs
unfoldable pub oldest : ContestedKey → List ContestedKey → ℕ
oldest c [] = c.key
oldest c (d ∷ ds) = oldest (cond (older d c) d c) ds

abbrev pub without_oldest : List ContestedKey → List ContestedKey
without_oldest [] = []
without_oldest (c ∷ cs) = replaced (λ (x : ContestedKey). x.key) (oldest c cs) [] (c ∷ cs)

-- without the n oldest, taken one at a time
unfoldable pub without_oldests : ℕ → List ContestedKey → List ContestedKey
without_oldests zero cs = cs
without_oldests (suc n) cs = without_oldests n (without_oldest cs)

abbrev pub trimmed : ℕ → List ContestedKey → List ContestedKey
trimmed bound cs = without_oldests (length cs - bound) cs

-- merges the whole report, then trims
unfoldable pub contest : (round at : ℕ) → List SnapshotKey → List ContestedKey → List ContestedKey
contest round at ks cs = trimmed max_contested (merge_keys round at ks cs)

-- ---- a report (`PeerDemand::apply`)

-- a report is taken with these past epochs, the keys that it replaces being contested or not; or it is contested; or it is a duplicate
pub data Verdict : Type 0 where
  takes : List ℕ → Bool → Verdict
  contests : Verdict
  duplicates : Verdict

-- the same keys, demands and flags
unfoldable pub same_keys : List SnapshotKey → List SnapshotKey → Bool
same_keys [] [] = true
same_keys [] (y ∷ ys) = false
same_keys (x ∷ xs) [] = false
same_keys (x ∷ xs) (y ∷ ys) = same (snapshot_key_words x) (snapshot_key_words y) && same_keys xs ys

-- not of a past epoch, and of another epoch or a newer round
abbrev pub is_news : (epoch round : ℕ) → Snapshot → List ℕ → Bool
is_news epoch round old past =
    not (any (λ (e : ℕ). nat_eq e epoch) past) && (not (old.epoch == epoch) || newer round old.round)

-- the same epoch keeps its past and contests what it replaces after an implausible jump; a new one remembers the old and contests what it replaces
abbrev pub taken : (jump epoch round : ℕ) → Snapshot → List ℕ → Verdict
taken jump epoch round old past =
    cond (old.epoch == epoch)
    (takes past (implausible jump round old.round))
    (takes (old.epoch ∷ take (max_past_epochs - 1) past) true)

-- the same report again is no conflict
abbrev pub not_taken : (epoch round : ℕ) → Snapshot → Bool → Verdict
not_taken epoch round old alike = cond (old.epoch == epoch && (old.round == round && alike)) duplicates contests

-- the verdict on a report of the given epoch and round; `alike`: it has the keys of the snapshot
abbrev pub verdict_on : (jump epoch round : ℕ) → Option Snapshot → List ℕ → Bool → Verdict
verdict_on jump epoch round None past alike = takes [] false
verdict_on jump epoch round (Some old) past alike =
    cond (is_news epoch round old past) (taken jump epoch round old past) (not_taken epoch round old alike)

abbrev pub snapshot_in : Option PeerRecord → Option Snapshot
snapshot_in None = None
snapshot_in (Some p) = p.snapshot

abbrev pub past_in : Option PeerRecord → List ℕ
past_in None = []
past_in (Some p) = p.past_epochs

-- the verdict on a report of the peer id that lists the keys ks
unfoldable pub verdict : (jump id epoch round : ℕ) → List SnapshotKey → PeersState → Verdict
verdict jump id epoch round ks s =
    verdict_on jump epoch round
    (snapshot_in (peer_with id s.peers))
    (past_in (peer_with id s.peers))
    (same_keys (snapshot_keys_of id s.snapshot_keys) ks)

-- a peer's record and its keys, changed
abbrev pub with_peer : ℕ → List PeerRecord → List PeerRecord → List PeerRecord
with_peer id new ps = replaced (λ (p : PeerRecord). p.id) id new ps

abbrev pub with_snapshot_keys : ℕ → List SnapshotKey → List SnapshotKey → List SnapshotKey
with_snapshot_keys id new ks = replaced (λ (k : SnapshotKey). k.peer) id new ks

abbrev pub with_contested : ℕ → List ContestedKey → List ContestedKey → List ContestedKey
with_contested id new cs = replaced (λ (c : ContestedKey). c.peer) id new cs

-- the contested keys cs of a peer after a report replaced its snapshot, whose keys are ks and are contested or not
abbrev pub keep_replaced : Bool → Option Snapshot → List SnapshotKey → List ContestedKey → List ContestedKey
keep_replaced keep None ks cs = cs
keep_replaced keep (Some old) ks cs = cond keep (contest old.round old.heard_at ks cs) cs

-- the peer with the report as its snapshot, and no hold
abbrev pub taken_peer : (id epoch round at : ℕ) → List ℕ → PeerRecord
taken_peer id epoch round at past =
    record {
      id = id;
      held_until = None;
      snapshot = Some (record { epoch = epoch; round = round; heard_at = at });
      past_epochs = past;
    }

-- a report of the given epoch and round, with the keys ks, replaces the snapshot
unfoldable pub take_report : (id epoch round at : ℕ) → List SnapshotKey → List ℕ → Bool → PeersState → PeersState
take_report id epoch round at ks past keep s =
    record {
      peers = with_peer id (taken_peer id epoch round at past ∷ []) s.peers;
      snapshot_keys = with_snapshot_keys id ks s.snapshot_keys;
      contested =
          with_contested id
          (keep_replaced keep
          (snapshot_in (peer_with id s.peers))
          (snapshot_keys_of id s.snapshot_keys)
          (contested_keys_of id s.contested))
          s.contested;
    }

unfoldable pub contest_report : (id round at : ℕ) → List SnapshotKey → PeersState → PeersState
contest_report id round at ks s =
    record {
      peers = s.peers;
      snapshot_keys = s.snapshot_keys;
      contested = with_contested id (contest round at ks (contested_keys_of id s.contested)) s.contested;
    }

abbrev pub apply_verdict : (id epoch round at : ℕ) → List SnapshotKey → Verdict → PeersState → PeersState
apply_verdict id epoch round at ks (takes past keep) s = take_report id epoch round at ks past keep s
apply_verdict id epoch round at ks contests s = contest_report id round at ks s
apply_verdict id epoch round at ks duplicates s = s

-- what a report does whose origin is its sender
abbrev pub settle : (jump id epoch round at : ℕ) → List SnapshotKey → PeersState → PeersState
settle jump id epoch round at ks s = apply_verdict id epoch round at ks (verdict jump id epoch round ks s) s

-- a report whose origin is not the sender changes nothing
unfoldable pub apply : (jump id : ℕ) → DemandReport → ℕ → PeersState → PeersState
apply jump id r at s = cond (r.origin == id) (settle jump id r.epoch r.round at (report_keys id r) s) s

-- ---- departures

-- drops everything heard from a peer
unfoldable pub forget : ℕ → PeersState → PeersState
forget id s =
    record {
      peers = with_peer id [] s.peers;
      snapshot_keys = with_snapshot_keys id [] s.snapshot_keys;
      contested = with_contested id [] s.contested;
    }

abbrev pub hold : ℕ → PeerRecord → PeerRecord
hold until p = record { id = p.id; held_until = Some until; snapshot = p.snapshot; past_epochs = p.past_epochs }

unfoldable pub hold_peer : (id until : ℕ) → PeersState → PeersState
hold_peer id until s =
    record {
      peers = with_peer id (map (hold until) (those (λ (p : PeerRecord). p.id) id s.peers)) s.peers;
      snapshot_keys = s.snapshot_keys;
      contested = s.contested;
    }

-- with no time to hold it a peer is forgotten at once
unfoldable pub leave : (id at time : ℕ) → PeersState → PeersState
leave id at time s = cond (time == 0) (forget id s) (hold_peer id (later at time) s)

-- ---- expiry (`PeerDemand::expire`)

-- a hold ends, whatever the age

abbrev pub hold_ended : ℕ → Option ℕ → Bool
hold_ended at None = false
hold_ended at (Some until) = nat_le until at

abbrev pub not_ended : ℕ → List PeerRecord → List PeerRecord
not_ended at ps = only (λ (p : PeerRecord). not (hold_ended at p.held_until)) ps

-- peers whose hold has ended go with all their keys
unfoldable pub expire_holds : ℕ → PeersState → PeersState
expire_holds at s =
    record {
      peers = not_ended at s.peers;
      snapshot_keys = only (λ (k : SnapshotKey). is_known (not_ended at s.peers) k.peer) s.snapshot_keys;
      contested = only (λ (c : ContestedKey). is_known (not_ended at s.peers) c.peer) s.contested;
    }

-- ---- age; `exempt` says which peers it leaves alone

-- last heard less than max_age ago, the sum of times held at 2^64 - 1
abbrev pub is_fresh : (at max_age heard_at : ℕ) → Bool
is_fresh at max_age heard_at = nat_lt at (later heard_at max_age)

abbrev pub is_fresh_snapshot : (at max_age : ℕ) → Option Snapshot → Bool
is_fresh_snapshot at max_age None = false
is_fresh_snapshot at max_age (Some s) = is_fresh at max_age s.heard_at

-- a stale snapshot goes with its past epochs
abbrev pub age_peer : (PeerRecord → Bool) → ℕ → ℕ → PeerRecord → PeerRecord
age_peer exempt at max_age p =
    cond (exempt p || is_fresh_snapshot at max_age p.snapshot) p
    (record { id = p.id; held_until = p.held_until; snapshot = None; past_epochs = [] })

abbrev pub aged_peers : (PeerRecord → Bool) → ℕ → ℕ → PeersState → List PeerRecord
aged_peers exempt at max_age s = map (age_peer exempt at max_age) s.peers

-- is the peer of this id exempt?
unfoldable pub is_exempt : (PeerRecord → Bool) → List PeerRecord → ℕ → Bool
is_exempt exempt ps id = any (λ (p : PeerRecord). (p.id == id) && exempt p) ps

abbrev pub fresh_contested : (PeerRecord → Bool) → ℕ → ℕ → PeersState → List ContestedKey
fresh_contested exempt at max_age s =
    only (λ (c : ContestedKey). is_exempt exempt s.peers c.peer || is_fresh at max_age c.heard_at) s.contested

-- stale snapshots go with their keys, and stale contested keys
unfoldable pub expire_age : (PeerRecord → Bool) → ℕ → ℕ → PeersState → PeersState
expire_age exempt at max_age s =
    record {
      peers = aged_peers exempt at max_age s;
      snapshot_keys = only (λ (k : SnapshotKey). has_snapshot (aged_peers exempt at max_age s) k.peer) s.snapshot_keys;
      contested = fresh_contested exempt at max_age s;
    }

-- ---- empty peers, and all together

-- a peer stays: it is exempt, has a snapshot, or has one of the contested keys cs
abbrev pub stays : (PeerRecord → Bool) → List ContestedKey → PeerRecord → Bool
stays exempt cs p = exempt p || (is_taken p || any (λ (c : ContestedKey). nat_eq c.peer p.id) cs)

-- empty peers go
unfoldable pub expire_empty : (PeerRecord → Bool) → PeersState → PeersState
expire_empty exempt s =
    record { peers = only (stays exempt s.contested) s.peers; snapshot_keys = s.snapshot_keys; contested = s.contested }

-- a held peer is kept as it is until its hold ends, then goes with all its keys; of the others what is too old goes, and an empty peer goes
unfoldable pub expire : (at max_age : ℕ) → PeersState → PeersState
expire at max_age s = expire_empty is_held (expire_age is_held at max_age (expire_holds at s))
