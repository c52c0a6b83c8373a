-- Closed points of the peers' definitions: 01's, and a run of one peer as peer_demand.rs has it.
use Rattle.std.proofs.Common.{◌≡◌, ℕ, Bool, true, false, List, [], ◌∷◌, refl}
use lib.Ieee.{binary32, binary64, of_bits, to_bits, lt, add, of_fields, odd, size, span, climb, round, units, sum}
use Rattle.records.specs.Records.{same, ascending, leads, before}
use Rattle.peers.specs.declared.peer_demand.KeyDemand.{KeyDemand}
use Rattle.peers.specs.declared.peer_demand.DemandReport.{DemandReport}
use Rattle.questions.specs.Lists.{only, all, any, those, replaced}
use Rattle.peers.specs.Peers.Records.{PeerRecord, SnapshotKey, ContestedKey, peer_words, snapshot_key_words, contested_words, peer_of}
use Rattle.peers.specs.Peers.State.{PeersState, is_known, has_snapshot, valid_peer, valid_snapshot_key, valid_contested, valid_peers, valid_snapshot_keys, valid_contesteds, valid}
use Rattle.peers.specs.Peers.Changes.{newer, implausible, implausible_jump, stale_after_rounds, exceeds, collected, merge_keys, oldest, without_oldests, trimmed, contest, same_keys, takes, contests, verdict, take_report, contest_report, apply, hold_peer, leave, expire_holds, is_exempt, expire_age, expire_empty, expire}
use Rattle.peers.specs.Peers.Readers.{heard, total_from, total, hot_elsewhere, sum_over, peer_len, len}
use Rattle.std.specs.declared.option.Option.{Option}
use Rattle.std.specs.declared.option.Option.TheVariants.{None, Some}

-- 01: newer(1, 65535) yes; (32768, 0) and (0, 32768) no
newer-wraps : newer 1 65535 ≡ true
unfolding newer
newer-wraps = refl

not-newer-half : newer 32768 0 ≡ false
unfolding newer
not-newer-half = refl

not-newer-half-back : newer 0 32768 ≡ false
unfolding newer
not-newer-half-back = refl

-- 01: stale_after_rounds: 3 gives 10, 4 gives 12
stale-three : stale_after_rounds 3 ≡ 10
stale-three = refl

stale-four : stale_after_rounds 4 ≡ 12
stale-four = refl

-- ---- reports of peer 5: demands 1, 2 and 3 are the patterns 3F80_0000, 4000_0000 and 4040_0000

abbrev key : ℕ → ℕ → Bool → KeyDemand
key k bits primary = record { key_hash = k; demand = of_bits binary32 bits; primary = primary }

abbrev report : ℕ → ℕ → ℕ → List KeyDemand → DemandReport
report epoch round count keys = record { origin = 5; epoch = epoch; round = round; count = count; keys = keys }

abbrev none_yet : PeersState
none_yet = record { peers = []; snapshot_keys = []; contested = [] }

abbrev peer : Option ℕ → ℕ → ℕ → ℕ → List ℕ → PeerRecord
peer held epoch round at past =
    record { id = 5; held_until = held; snapshot = Some (record { epoch = epoch; round = round; heard_at = at }); past_epochs = past }

abbrev taken : ℕ → ℕ → Bool → SnapshotKey
taken k bits primary = record { peer = 5; key = k; demand = bits; primary = primary }

abbrev contested : ℕ → ℕ → Bool → ℕ → ℕ → ContestedKey
contested k bits primary round at =
    record { peer = 5; key = k; demand = bits; primary = primary; round = round; heard_at = at }

abbrev first : DemandReport
first = report 1 10 1 (key 7 0x40000000 true ∷ [])

abbrev after_first : PeersState
after_first =
    record { peers = peer None 1 10 100 [] ∷ []; snapshot_keys = taken 7 0x40000000 true ∷ []; contested = [] }

first-is-taken : apply implausible_jump 5 first 100 none_yet ≡ after_first
unfolding apply verdict take_report collected only those replaced of_bits of_fields odd to_bits size span climb
first-is-taken = refl

-- the same report again changes nothing
duplicate-changes-nothing : apply implausible_jump 5 first 150 after_first ≡ after_first
unfolding apply verdict newer take_report contest_report collected only any those replaced same_keys same snapshot_key_words of_bits of_fields odd to_bits size span climb
duplicate-changes-nothing = refl

-- an older round is contested, key by key
abbrev old : DemandReport
old = report 1 9 2 (key 8 0x3f800000 false ∷ key 7 0x40400000 false ∷ [])

abbrev after-old : PeersState
after-old =
    record {
      peers = peer None 1 10 100 [] ∷ [];
      snapshot_keys = taken 7 0x40000000 true ∷ [];
      contested = contested 7 0x40400000 false 9 200 ∷ contested 8 0x3f800000 false 9 200 ∷ [];
    }

old-is-contested : apply implausible_jump 5 old 200 after_first ≡ after-old
unfolding apply verdict newer take_report contest_report contest merge_keys without_oldests collected only any those replaced same_keys same snapshot_key_words of_bits of_fields odd to_bits size span climb
old-is-contested = refl

-- the higher demand with its round, and primary since the snapshot's is
heard-joined : heard 5 7 after-old ≡ Some (record { demand = of_bits binary32 0x40400000; primary = true; round = 9; heard_at = 200 })
unfolding heard only those lt of_bits of_fields odd
heard-joined = refl

len-two : len after-old ≡ 2
unfolding len sum_over peer_len those only any
len-two = refl

-- a hold, then a report of a new epoch that lists a key twice: it is taken as listed last, the hold is gone, and what it replaces is contested
abbrev held : PeersState
held =
    record {
      peers = peer (Some 350) 1 10 100 [] ∷ [];
      snapshot_keys = taken 7 0x40000000 true ∷ [];
      contested = contested 7 0x40400000 false 9 200 ∷ contested 8 0x3f800000 false 9 200 ∷ [];
    }

leave-holds : leave 5 300 50 after-old ≡ held
unfolding leave hold_peer only those replaced
leave-holds = refl

abbrev restart : DemandReport
restart = report 2 0 3 (key 9 0x40400000 true ∷ key 4 0x3f800000 true ∷ key 9 0x3f800000 false ∷ [])

abbrev after-restart : PeersState
after-restart =
    record {
      peers = peer None 2 0 400 (1 ∷ []) ∷ [];
      snapshot_keys = taken 4 0x3f800000 true ∷ taken 9 0x3f800000 false ∷ [];
      contested = contested 7 0x40400000 true 9 200 ∷ contested 8 0x3f800000 false 9 200 ∷ [];
    }

restart-is-taken : apply implausible_jump 5 restart 400 held ≡ after-restart
unfolding apply verdict newer take_report contest_report contest merge_keys without_oldests collected only any those replaced same_keys same snapshot_key_words exceeds lt of_bits of_fields odd to_bits size span climb
restart-is-taken = refl

-- a late report of the past epoch does not replace the new one
past-is-contested : verdict implausible_jump 5 1 11 [] after-restart ≡ contests
unfolding verdict newer only any those same_keys
past-is-contested = refl

-- a jump of 16,384 rounds contests what it replaces, one of 16,383 does not
jump-keeps : verdict implausible_jump 5 2 16384 [] after-restart ≡ takes (1 ∷ []) true
unfolding verdict newer implausible only any those same_keys
jump-keeps = refl

step-keeps-not : verdict implausible_jump 5 2 16383 [] after-restart ≡ takes (1 ∷ []) false
unfolding verdict newer implausible only any those same_keys
step-keeps-not = refl

-- over the bound the one heard longest ago goes, of two the smaller key
oldest-goes : trimmed 1 (contested 7 0 true 9 300 ∷ contested 8 0 true 9 200 ∷ contested 9 0 true 9 200 ∷ []) ≡ contested 7 0 true 9 300 ∷ []
unfolding without_oldests oldest only replaced
oldest-goes = refl

smaller-key-goes : trimmed 2 (contested 7 0 true 9 300 ∷ contested 8 0 true 9 200 ∷ contested 9 0 true 9 200 ∷ []) ≡ contested 7 0 true 9 300 ∷ contested 9 0 true 9 200 ∷ []
unfolding without_oldests oldest only replaced
smaller-key-goes = refl

-- the sum is that of f64: 3 from +0
total-three : total 7 after-restart ≡ of_bits binary64 0x4008000000000000
unfolding total_from heard only those add sum round units odd size span climb lt of_bits of_fields
total-three = refl

primary-elsewhere : hot_elsewhere 7 after-restart ≡ true
unfolding hot_elsewhere heard only any those lt of_bits of_fields odd
primary-elsewhere = refl

-- what was heard at 200 is too old at 1,000, what was heard at 400 is not
expired : PeersState
expired =
    record {
      peers = peer None 2 0 400 (1 ∷ []) ∷ [];
      snapshot_keys = taken 4 0x3f800000 true ∷ taken 9 0x3f800000 false ∷ [];
      contested = [];
    }

contested-expire : expire 1000 700 after-restart ≡ expired
unfolding expired expire expire_holds expire_age expire_empty is_known has_snapshot is_exempt only any
contested-expire = refl

-- at 1,100 the snapshot is too old as well, and the peer goes
all-expire : expire 1100 700 after-restart ≡ none_yet
unfolding expire expire_holds expire_age expire_empty is_known has_snapshot is_exempt only any
all-expire = refl

-- a held peer stays whole while the hold lasts, and goes at its end
held_stays : expire 349 10 held ≡ held
unfolding expire expire_holds expire_age expire_empty is_known has_snapshot is_exempt only any
held_stays = refl

held-goes : expire 350 10000 held ≡ none_yet
unfolding expire expire_holds expire_age expire_empty is_known has_snapshot is_exempt only any
held-goes = refl

-- these states are valid
valid-held : valid held ≡ true
unfolding valid valid_peers valid_snapshot_keys valid_contesteds valid_peer valid_snapshot_key valid_contested peer_words snapshot_key_words contested_words is_known has_snapshot only all any those ascending leads before
valid-held = refl

valid-restart : valid after-restart ≡ true
unfolding valid valid_peers valid_snapshot_keys valid_contesteds valid_peer valid_snapshot_key valid_contested peer_words snapshot_key_words contested_words is_known has_snapshot only all any those ascending leads before
valid-restart = refl

-- the words of a peer's record, and the record of the words
peer-words : peer_words (peer (Some 350) 2 0 400 (1 ∷ [])) ≡ 5 ∷ 1 ∷ 350 ∷ 1 ∷ 2 ∷ 0 ∷ 400 ∷ 1 ∷ 1 ∷ 0 ∷ 0 ∷ 0 ∷ []
unfolding peer_words
peer-words = refl

peer-of-words : peer_of (5 ∷ 1 ∷ 350 ∷ 1 ∷ 2 ∷ 0 ∷ 400 ∷ 1 ∷ 1 ∷ 0 ∷ 0 ∷ 0 ∷ []) ≡ peer (Some 350) 2 0 400 (1 ∷ [])
unfolding peer_of
peer-of-words = refl
