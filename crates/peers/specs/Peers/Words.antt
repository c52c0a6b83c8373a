-- One record's words, for a loader that judges a record before it stores it (01, 'The saved image'). Definitions only.
use Rattle.std.specs.Prelude.{ℕ, Bool, List}
use Rattle.peers.specs.Peers.Records.{peer_words, snapshot_key_words, contested_words, peer_of, snapshot_key_of, contested_of}
use Rattle.peers.specs.Peers.State.{valid_peer, valid_snapshot_key, valid_contested}
use Rattle.records.specs.Typed.{stands_for}

-- kinds 5, 6 and 7
abbrev pub is_peer_record : List ℕ → Bool
is_peer_record = stands_for 12 peer_words peer_of valid_peer

abbrev pub is_snapshot_key_record : List ℕ → Bool
is_snapshot_key_record = stands_for 4 snapshot_key_words snapshot_key_of valid_snapshot_key

abbrev pub is_contested_record : List ℕ → Bool
is_contested_record = stands_for 6 contested_words contested_of valid_contested
