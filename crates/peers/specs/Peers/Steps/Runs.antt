-- The records that share a first word, in a table or by themselves, as the functions on a peer's keys take and leave them. Definitions only.
use Rattle.std.specs.Prelude.{◌≡◌, ℕ, ◌*◌, ◌/◌, ◌%◌, ◌^◌, ◌<◌, ◌≤◌, Bool, true, cond, List, [], ◌∷◌, map, length, take, ◌==◌}
use Rattle.records.specs.Records.{records, ascending}
use Rattle.peers.specs.declared.peer_demand.DemandReport.{DemandReport}
use Rattle.peers.specs.declared.peer_report.Verdict.{Verdict}
use Rattle.questions.specs.Lists.{all}
use Rattle.peers.specs.Peers.Records.{Snapshot, PeerRecord, SnapshotKey, ContestedKey, peer_words, snapshot_key_words, contested_words, peer_of, snapshot_key_of, contested_of}
use Rattle.questions.specs.Questions.{first_no}
use Rattle.peers.specs.Peers.State.{PeersState, PeerTables, state_of, with_counts, written, contested_keys_of, peer_with, snapshot_keys_of, valid_peer, valid_snapshot_key, valid_contested}
use Rattle.peers.specs.Peers.Calls.{has_place, report_questions}
use Rattle.peers.specs.declared.peer_demand.PeerDemand.{PeerDemand}
use Rattle.peers.specs.Peers.Steps.Stays.{Valid}
use Rattle.records.specs.Typed.{Run}
use Rattle.peers.specs.declared.peer_report.Verdict.TheVariants as verdict
use Rattle.peers.specs.Peers.Changes as changes
use Rattle.std.specs.declared.option.Option.{Option}
use Rattle.std.specs.declared.option.Option.TheVariants.{None, Some}

-- what the records in use stand for
abbrev pub keys_in : ℕ → List ℕ → List SnapshotKey
keys_in n xs = map snapshot_key_of (records 4 n xs)

-- all of them, where there are no other words
abbrev pub all_keys_in : List ℕ → List SnapshotKey
all_keys_in xs = keys_in (length xs / 4) xs

abbrev pub contested_in : ℕ → List ℕ → List ContestedKey
contested_in n xs = map contested_of (records 6 n xs)

abbrev pub peers_in : ℕ → List ℕ → List PeerRecord
peers_in n xs = map peer_of (records 12 n xs)

-- ---- what a change leaves

-- the value p' and the tables t' hold the state s, where they were p and t
pub record Stores (s : PeersState) (p : PeerDemand) (t : PeerTables) (p' : PeerDemand) (t' : PeerTables) : Type 0 where
  pub value : p' ≡ with_counts p s
  pub words : t' ≡ written s t

-- the state of p and t, changed, is that of p' and t'
abbrev pub Becomes : (PeersState → PeersState) → PeerDemand → PeerTables → PeerDemand → PeerTables → Type 0
Becomes change p t p' t' = Stores (change (state_of p t)) p t p' t'

-- ---- keys of one peer

-- a kind of keys: how many words they are, the words, what words stand for, and which keys are valid
pub record Form (A : Type 0) : Type 0 where
  pub width : ℕ
  pub words : A → List ℕ
  pub of : List ℕ → A
  pub is_valid : A → Bool

abbrev pub snapshot_form : Form SnapshotKey
snapshot_form = record { width = 4; words = snapshot_key_words; of = snapshot_key_of; is_valid = valid_snapshot_key }

abbrev pub contested_form : Form ContestedKey
contested_form = record { width = 6; words = contested_words; of = contested_of; is_valid = valid_contested }

-- n valid keys of one peer, in words that are exactly theirs
pub record RunOf {A : Type 0} (f : Form A) (id n : ℕ) (xs : List ℕ) : Type 0 where
  pub run : Run f.width id n xs
  pub exact : records f.width n xs ≡ map f.words (map f.of (records f.width n xs))
  pub keys : all f.is_valid (map f.of (records f.width n xs)) ≡ true

abbrev pub KeyRun : (id n : ℕ) (xs : List ℕ) → Type 0
KeyRun = RunOf snapshot_form

abbrev pub ContestedRun : (id n : ℕ) (xs : List ℕ) → Type 0
ContestedRun = RunOf contested_form

-- the words of one valid key
pub record OneKey (ws : List ℕ) : Type 0 where
  pub four : length ws ≡ 4
  pub exact : ws ≡ snapshot_key_words (snapshot_key_of ws)
  pub valid : valid_snapshot_key (snapshot_key_of ws) ≡ true

-- the contested keys of all peers once the keys of a report of the peer id were contested, or were not
abbrev pub kept_after : Bool → ℕ → ℕ → List ℕ → ℕ → ℕ → List ℕ → List ContestedKey
kept_after keep n id keys round at xs =
    changes.with_contested id
    (cond keep
    (changes.contest round at (keys_in (length keys / 4) keys) (contested_keys_of id (contested_in n xs)))
    (contested_keys_of id (contested_in n xs)))
    (contested_in n xs)

abbrev pub contested_after : (n id : ℕ) → List ℕ → ℕ → ℕ → List ℕ → List ContestedKey
contested_after n id keys round at xs = kept_after true n id keys round at xs

-- valid contested keys, and room for them after that
pub record Contestable (n id : ℕ) (keys : List ℕ) (round at : ℕ) (xs : List ℕ) : Type 0 where
  pub fit : n * 6 ≤ length xs
  pub exact : records 6 n xs ≡ map contested_words (contested_in n xs)
  pub valids : all valid_contested (contested_in n xs) ≡ true
  pub ascends : ascending 2 (records 6 n xs) ≡ true
  pub few : length (contested_keys_of id (contested_in n xs)) ≤ 256
  pub key_run : KeyRun id (length keys / 4) keys
  pub few_keys : length keys ≤ 256
  pub rounds : round < 2 ^ 16
  pub room : length (contested_after n id keys round at xs) * 6 ≤ length xs

-- ---- a peer

-- a peer that is not known is one that said nothing (`or_default`)
abbrev pub or_new : ℕ → Option PeerRecord → PeerRecord
or_new id None = record { id = id; held_until = None; snapshot = None; past_epochs = [] }
or_new id (Some p) = p

-- the past epochs once a report of the given epoch is taken
abbrev pub next_past : ℕ → Option Snapshot → List ℕ → List ℕ
next_past epoch None past = []
next_past epoch (Some old) past = cond (old.epoch == epoch) past (old.epoch ∷ take 3 past)

-- the verdict with its past epochs
abbrev pub verdict_with : List ℕ → Verdict → changes.Verdict
verdict_with past (verdict.Takes keep) = changes.takes past keep
verdict_with past verdict.Contests = changes.contests
verdict_with past verdict.Duplicates = changes.duplicates

-- ---- a report that passed its questions

pub record Passed (p : PeerDemand) (t : PeerTables) (id : ℕ) (r : DemandReport) : Type 0 where
  pub questions : first_no (report_questions p t id r) ≡ 0

-- the words of a report's keys
pub record Reported (id : ℕ) (keys : List ℕ) : Type 0 where
  pub run : KeyRun id (length keys / 4) keys
  pub few : length keys ≤ 256
  pub whole : length keys % 4 ≡ 0

-- a valid state that has a place for the peer
pub record Placed (p : PeerDemand) (t : PeerTables) (id : ℕ) : Type 0 where
  pub valid : Valid p t
  pub place : has_place id (state_of p t).peers ≡ true

-- the words of a report's keys, of those of the peer's snapshot, and of the peer
pub record Read (p : PeerDemand) (t : PeerTables) (id : ℕ) (keys current old : List ℕ) : Type 0 where
  pub reported : Reported id keys
  pub snapshot : KeyRun id (length current / 4) current
  pub few : length current ≤ 256
  pub are : keys_in (length current / 4) current ≡ snapshot_keys_of id (state_of p t).snapshot_keys
  pub peer : old ≡ peer_words (or_new id (peer_with id (state_of p t).peers))

-- the past epochs of a peer, by its words, once a report of the given epoch is taken
abbrev pub past_after : ℕ → List ℕ → List ℕ
past_after epoch old = next_past epoch (peer_of old).snapshot (peer_of old).past_epochs

-- valid peers at the front of their table
pub record Known (n : ℕ) (xs : List ℕ) : Type 0 where
  pub fit : n * 12 ≤ length xs
  pub exact : records 12 n xs ≡ map peer_words (peers_in n xs)
  pub valids : all valid_peer (peers_in n xs) ≡ true
  pub ascends : ascending 1 (records 12 n xs) ≡ true
