-- What is kept of the peers (peer_demand.rs: `Peer`, `Snapshot`, `Contested`), and its words in a table and in an image (01, 'The saved image', kinds 5 to 7).
-- Definitions only. A demand is kept as the bit pattern of its f32.
use Rattle.std.specs.Prelude.{ℕ, zero, suc, Bool, List, [], ◌∷◌, ◌++◌, length, take, drop, slice_index}
use Rattle.records.specs.Fields.{flag_word, flag_of, time_words, time_of}
use Rattle.std.specs.declared.option.Option.{Option}
use Rattle.std.specs.declared.option.Option.TheVariants.{None, Some}

-- the most past epochs that are kept of a peer: `PAST_EPOCHS`
abbrev pub max_past_epochs : ℕ
max_past_epochs = 4

-- a report taken: its epoch, its round, and when it was taken
pub record Snapshot : Type 0 where
  pub epoch : ℕ
  pub round : ℕ
  pub heard_at : ℕ

-- kind 5; the past epochs, newest first, stand beside the snapshot
pub record PeerRecord : Type 0 where
  pub id : ℕ
  pub held_until : Option ℕ
  pub snapshot : Option Snapshot
  pub past_epochs : List ℕ

-- kind 6
pub record SnapshotKey : Type 0 where
  pub peer : ℕ
  pub key : ℕ
  pub demand : ℕ
  pub primary : Bool

-- kind 7
pub record ContestedKey : Type 0 where
  pub peer : ℕ
  pub key : ℕ
  pub demand : ℕ
  pub primary : Bool
  pub round : ℕ
  pub heard_at : ℕ

-- ---- the words of a record

-- snapshot flag, epoch, round, heard at; absent parts are 0
abbrev pub snapshot_words : Option Snapshot → List ℕ
snapshot_words None = 0 ∷ 0 ∷ 0 ∷ 0 ∷ []
snapshot_words (Some s) = 1 ∷ s.epoch ∷ s.round ∷ s.heard_at ∷ []

-- count of past epochs, four past epochs
abbrev pub past_words : List ℕ → List ℕ
past_words es = length es ∷ take max_past_epochs (es ++ (0 ∷ 0 ∷ 0 ∷ 0 ∷ []))

unfoldable pub peer_words : PeerRecord → List ℕ
peer_words p = p.id ∷ (time_words p.held_until ++ (snapshot_words p.snapshot ++ past_words p.past_epochs))

unfoldable pub snapshot_key_words : SnapshotKey → List ℕ
snapshot_key_words k = k.peer ∷ k.key ∷ k.demand ∷ flag_word k.primary ∷ []

unfoldable pub contested_words : ContestedKey → List ℕ
contested_words c = c.peer ∷ c.key ∷ c.demand ∷ flag_word c.primary ∷ c.round ∷ c.heard_at ∷ []

-- ---- the record of words

abbrev pub snapshot_of : ℕ → ℕ → ℕ → ℕ → Option Snapshot
snapshot_of zero epoch round heard_at = None
snapshot_of (suc flag) epoch round heard_at = Some (record { epoch = epoch; round = round; heard_at = heard_at })

unfoldable pub peer_of : List ℕ → PeerRecord
peer_of ws =
    record {
      id = slice_index ws 0;
      held_until = time_of (slice_index ws 1) (slice_index ws 2);
      snapshot = snapshot_of (slice_index ws 3) (slice_index ws 4) (slice_index ws 5) (slice_index ws 6);
      past_epochs = take (slice_index ws 7) (drop 8 ws);
    }

unfoldable pub snapshot_key_of : List ℕ → SnapshotKey
snapshot_key_of ws =
    record { peer = slice_index ws 0; key = slice_index ws 1; demand = slice_index ws 2; primary = flag_of (slice_index ws 3) }

unfoldable pub contested_of : List ℕ → ContestedKey
contested_of ws =
    record {
      peer = slice_index ws 0;
      key = slice_index ws 1;
      demand = slice_index ws 2;
      primary = flag_of (slice_index ws 3);
      round = slice_index ws 4;
      heard_at = slice_index ws 5;
    }
