-- What the private functions of the peers' readers cite. Definitions only.
use Rattle.std.specs.Prelude.{◌≡◌, ℕ, ◌+◌, ◌*◌, ◌≤◌, Bool, true, not, ◌&&◌, List, length, ◌==◌, from_bits, slice_index}
use Rattle.std.specs.Float.{binary32}
use Rattle.std.proofs.Math.Seq.{slice}
use Rattle.records.specs.Records.{records, ascending}
use Rattle.peers.specs.declared.peer_demand.Heard.{Heard}
use Rattle.peers.specs.declared.peer_demand.PeerDemand.{PeerDemand}
use Rattle.peers.specs.declared.peer_state.KeyStarts.{KeyStarts}
use Rattle.peers.specs.declared.peer_readers.OwnKeys.{OwnKeys}
use Rattle.questions.specs.Lists.{only, all, any, first, those}
use Rattle.records.specs.Fields.{flag_of}
use Rattle.peers.specs.Peers.Records.{SnapshotKey, ContestedKey}
use Rattle.peers.specs.Peers.State.{PeersState, PeerTables}
use Rattle.questions.specs.Questions.{first_no}
use Rattle.peers.specs.Peers.Calls.{peers_questions, each_questions}
use Rattle.records.specs.Typed.{first_word, second_word}
use Rattle.std.specs.declared.option.Option.TheVariants.{Some}
use Rattle.peers.specs.Peers.Steps.Scan.{are_peer_words, are_key_words, PeersReady, KeysReady, Starts}
use Rattle.std.specs.declared.result.Result.{Result}
use Rattle.std.specs.declared.result.Result.TheVariants.{Ok}
use Rattle.questions.specs.declared.Refusal.{Refusal}
use Rattle.questions.specs.Refusals.{asked}

-- of the words of a demand and a flag
abbrev pub heard_of : (demand flag round at : ℕ) → Heard
heard_of demand flag round at = record { demand = from_bits binary32 demand; primary = flag_of flag; round = round; heard_at = at }

-- the snapshot keys have this one
unfoldable pub is_listed : (id key : ℕ) → List SnapshotKey → Bool
is_listed id key ks = any (λ (k : SnapshotKey). (k.peer == id) && k.key == key) ks

-- `len`, counted without going by peers: the snapshot keys, and the contested keys that are not among them
unfoldable pub counted : PeersState → ℕ
counted s =
    length s.snapshot_keys
    + length (only (λ (c : ContestedKey). not (is_listed c.peer c.key s.snapshot_keys)) s.contested)

-- what a lookup needs of a table of keys, and a reader of the three tables
pub record KeyTable (w n : ℕ) (xs : List ℕ) : Type 0 where
  pub ready : KeysReady w n xs
  pub ascend : ascending 2 (records w n xs) ≡ true
  pub pass : all (are_key_words w) (records w n xs) ≡ true

-- the words of the one key of the records with these first two words
pub record KeyIn (w id key : ℕ) (rs : List (List ℕ)) (r : List ℕ) : Type 0 where
  pub is_first : first (those second_word key (those first_word id rs)) ≡ Some r
  pub length_is : length r ≡ w
  pub passes : are_key_words w r ≡ true

pub record StateReady (p : PeerDemand) (t : PeerTables) : Type 0 where
  pub peers : PeersReady p.peers t.peers
  pub pass : all are_peer_words (records 12 p.peers t.peers) ≡ true
  pub snapshot_keys : KeyTable 4 p.snapshot_keys t.snapshot_keys
  pub contested : KeyTable 6 p.contested t.contested

-- where the keys of each peer start in both tables of keys: as they are filled in, and of the value that holds them
pub record Filled (p : PeerDemand) (t : PeerTables) (snapshot_starts contested_starts : List ℕ) : Type 0 where
  pub snapshot_keys : Starts 4 p.snapshot_keys p.peers p.snapshot_keys t.snapshot_keys t.peers snapshot_starts
  pub contested : Starts 6 p.contested p.peers p.contested t.contested t.peers contested_starts

abbrev pub Started : PeerDemand → PeerTables → KeyStarts → Type 0
Started p t s = Filled p t s.snapshot_keys s.contested

-- a reader's state, with the starts of the peers' keys
pub record Readable (p : PeerDemand) (t : PeerTables) (s : KeyStarts) : Type 0 where
  pub ready : StateReady p t
  pub started : Started p t s

-- the keys of a peer, by its id, are the records from one place up to another
pub record OwnRun (w n : ℕ) (xs : List ℕ) (id from to : ℕ) : Type 0 where
  pub ordered : from ≤ to
  pub within : to ≤ n
  pub are : those first_word id (records w n xs) ≡ slice from to (records w n xs)

-- both kinds of keys of peer i
pub record Own (p : PeerDemand) (t : PeerTables) (i : ℕ) (o : OwnKeys) : Type 0 where
  pub snapshot_keys : OwnRun 4 p.snapshot_keys t.snapshot_keys (slice_index t.peers (i * 12)) o.snapshot_from o.snapshot_to
  pub contested : OwnRun 6 p.contested t.contested (slice_index t.peers (i * 12)) o.contested_from o.contested_to

abbrev pub own_keys : List ℕ → List ℕ → ℕ → OwnKeys
own_keys ks cs i = record { snapshot_from = slice_index ks i; snapshot_to = slice_index ks (i + 1); contested_from = slice_index cs i; contested_to = slice_index cs (i + 1) }

-- questions 1 and 2: the first 'no', and where there is none the starts with which the state can be read
pub record Asked (p : PeerDemand) (t : PeerTables) (r : Result KeyStarts Refusal) : Type 0 where
  pub first : asked r ≡ first_no (peers_questions p t)
  pub ready : (s : KeyStarts) → r ≡ Ok s → Readable p t s

-- a call on the keys of many records: its first 'no', by the answer to questions 1 and 2; where there is none, it hands on that answer
pub record EachAsked (starts : Result KeyStarts Refusal) (len w n room : ℕ) (r : Result KeyStarts Refusal) : Type 0 where
  pub first : (p : PeerDemand) (t : PeerTables) → asked starts ≡ first_no (peers_questions p t) → asked r ≡ first_no (each_questions p t len w n room)
  pub state : (s : KeyStarts) → r ≡ Ok s → starts ≡ Ok s
