-- The promise of each call on the peers: 01's questions in their order, its answer, and what the value and the tables hold afterwards. Definitions only.
use Rattle.std.specs.Prelude.{◌≡◌, ℕ, ◌^◌, ◌<◌, Bool, ◌&&◌, ◌||◌, List, [], ◌∷◌, ◌++◌, length, ◌==◌, nat_le, nat_lt, Float}
use Rattle.std.specs.Float.{binary32}
use Rattle.std.specs.Float.Ieee.{fits}
use Rattle.records.specs.Records as records
use Rattle.float.specs.Magnitude.{magnitude}
use Rattle.peers.specs.declared.peer_demand.KeyDemand.{KeyDemand}
use Rattle.peers.specs.declared.peer_demand.DemandReport.{DemandReport}
use Rattle.peers.specs.declared.peer_demand.Heard.{Heard}
use Rattle.peers.specs.declared.peer_demand.PeerDemand.{PeerDemand}
use Rattle.peers.specs.declared.peer_demand.PeersChanged.{PeersChanged}
use Rattle.questions.specs.Questions.{Question, ◌asks◌, answer, changed, first_no}
use Rattle.demand.specs.Allocation.{is_cluster_size}
use Rattle.questions.specs.Lists.{all}
use Rattle.peers.specs.Peers.Records.{PeerRecord}
use Rattle.peers.specs.Peers.State.{PeersState, PeerTables, max_peers, max_demand_keys, is_known, lengths, have_room, state_of, is_valid, new_peers, with_counts, written}
use Rattle.records.specs.Typed.{is_word}
use Rattle.peers.specs.Peers.Changes as changes
use Rattle.peers.specs.Peers.Readers as readers
use Rattle.std.specs.declared.option.Option.{Option}
use Rattle.std.specs.declared.result.Result.{Result}
use Rattle.questions.specs.declared.Refusal.{Refusal}
use Rattle.questions.specs.Refusals.{answer_of}

-- ---- questions

-- is the cluster size 1 to 65,535?
abbrev pub cluster_questions : ℕ → List Question
cluster_questions n = (7 asks is_cluster_size n) ∷ []

-- are the lent tables long enough?
abbrev pub new_questions : PeerTables → List Question
new_questions t = (1 asks have_room (lengths t)) ∷ []

-- and could the lent state stand in a valid image?
abbrev pub peers_questions : PeerDemand → PeerTables → List Question
peers_questions p t = (1 asks have_room (lengths t)) ∷ (2 asks is_valid p t) ∷ []

-- of calls on the keys of n records of w words, which are lent too: does the output fit?
abbrev pub each_questions : PeerDemand → PeerTables → ℕ → ℕ → ℕ → ℕ → List Question
each_questions p t len w n room = (1 asks records.fits len w n) ∷ (peers_questions p t ++ (16 asks nat_le n room) ∷ [])

-- is each demand that a report lists finite with a clear sign bit? is the peer known, or are fewer than 32 known?
abbrev pub has_demands : DemandReport → Bool
has_demands r = all (λ (k : KeyDemand). magnitude k.demand) (changes.listed r)

abbrev pub has_place : ℕ → List PeerRecord → Bool
has_place id ps = is_known ps id || nat_lt (length ps) max_peers

-- of a report on a valid state: has it at most 64 keys? and these two
abbrev pub report_questions_of : PeersState → ℕ → DemandReport → List Question
report_questions_of s id r =
    (10 asks nat_le r.count max_demand_keys) ∷ (11 asks has_demands r) ∷ (12 asks has_place id s.peers) ∷ []

abbrev pub report_questions : PeerDemand → PeerTables → ℕ → DemandReport → List Question
report_questions p t id r = peers_questions p t ++ report_questions_of (state_of p t) id r

-- ---- what the types of a report's arguments say

-- a peer's id and a reading have 64 bits, an epoch 32, a round 16
pub record Widths (id at : ℕ) (r : DemandReport) : Type 0 where
  pub peer : id < 2 ^ 64
  pub time : at < 2 ^ 64
  pub epoch : r.epoch < 2 ^ 32
  pub round : r.round < 2 ^ 16

-- a key has 64 bits, and a demand is an f32
abbrev pub fits_widths : KeyDemand → Bool
fits_widths k = is_word k.key_hash && fits binary32 k.demand

-- ---- calls that change the state

-- the answer; and where every question is answered 'yes', the value with the counts of the state changed and the tables that hold it
pub record Changes (qs : List Question) (change : PeersState → PeersState) (p : PeerDemand) (t : PeerTables) (r : PeersChanged) (t' : PeerTables) : Type 0 where
  pub answered : answer_of r.answer ≡ answer qs tt
  pub value : r.peers ≡ changed qs p (with_counts p (change (state_of p t)))
  pub words : t' ≡ changed qs t (written (change (state_of p t)) t)

abbrev pub Applies : PeerDemand → PeerTables → ℕ → DemandReport → ℕ → PeersChanged → PeerTables → Type 0
Applies p t id report at r t' = Changes (report_questions p t id report) (changes.apply changes.implausible_jump id report at) p t r t'

abbrev pub Forgets : PeerDemand → PeerTables → ℕ → PeersChanged → PeerTables → Type 0
Forgets p t id r t' = Changes (peers_questions p t) (changes.forget id) p t r t'

abbrev pub Leaves : PeerDemand → PeerTables → ℕ → ℕ → ℕ → PeersChanged → PeerTables → Type 0
Leaves p t id at hold r t' = Changes (peers_questions p t) (changes.leave id at hold) p t r t'

abbrev pub Expires : PeerDemand → PeerTables → ℕ → ℕ → PeersChanged → PeerTables → Type 0
Expires p t at max_age r t' = Changes (peers_questions p t) (changes.expire at max_age) p t r t'

-- ---- calls that read, which are lent what they cannot write

-- the number of the first of questions 1 and 2 that is answered 'no', 0 where none is
abbrev pub Asks : PeerDemand → PeerTables → ℕ → Type 0
Asks p t r = r ≡ first_no (peers_questions p t)

abbrev pub IsNew : PeerTables → Result PeerDemand Refusal → Type 0
IsNew t r = answer_of r ≡ answer (new_questions t) new_peers

abbrev pub Gets : PeerDemand → PeerTables → ℕ → ℕ → Result (Option Heard) Refusal → Type 0
Gets p t id key r = answer_of r ≡ answer (peers_questions p t) (readers.heard id key (state_of p t))

abbrev pub Totals : PeerDemand → PeerTables → ℕ → Result Float Refusal → Type 0
Totals p t key r = answer_of r ≡ answer (peers_questions p t) (readers.total key (state_of p t))

abbrev pub TellsHotElsewhere : PeerDemand → PeerTables → ℕ → Result Bool Refusal → Type 0
TellsHotElsewhere p t key r = answer_of r ≡ answer (peers_questions p t) (readers.hot_elsewhere key (state_of p t))

abbrev pub Counts : PeerDemand → PeerTables → Result ℕ Refusal → Type 0
Counts p t r = answer_of r ≡ answer (peers_questions p t) (readers.len (state_of p t))

abbrev pub TellsEmpty : PeerDemand → PeerTables → Result Bool Refusal → Type 0
TellsEmpty p t r = answer_of r ≡ answer (peers_questions p t) (readers.len (state_of p t) == 0)

abbrev pub StaleRounds : ℕ → Result ℕ Refusal → Type 0
StaleRounds n r = answer_of r ≡ answer (cluster_questions n) (changes.stale_after_rounds n)

-- ---- calls that read of many keys, and write what they tell to a lent output

pub record TellsEach {A : Type 0} (tell : ℕ → PeersState → A) (p : PeerDemand) (t : PeerTables) (w n : ℕ) (keys : List ℕ) (out : List A) (r : Result Unit Refusal) (out' : List A) : Type 0 where
  pub answered : answer_of r ≡ answer (each_questions p t (length keys) w n (length out)) tt
  pub output : out' ≡ changed (each_questions p t (length keys) w n (length out)) out (readers.told tell (state_of p t) w n keys out)

abbrev pub TotalsEach : PeerDemand → PeerTables → ℕ → ℕ → List ℕ → List Float → Result Unit Refusal → List Float → Type 0
TotalsEach = TellsEach readers.total

abbrev pub TellsHotElsewhereEach : PeerDemand → PeerTables → ℕ → ℕ → List ℕ → List Bool → Result Unit Refusal → List Bool → Type 0
TellsHotElsewhereEach = TellsEach readers.hot_elsewhere
