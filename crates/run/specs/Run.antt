-- A whole run (01, 'A whole run'): the calls, what the program holds, and what each call does by its promise. Definitions only.
use Rattle.std.specs.Prelude.{ℕ, ◌≡◌, Bool, List, [], ◌∷◌, ◌++◌, Float, length, take, drop}
use Rattle.peers.specs.declared.peer_demand.DemandReport.{DemandReport}
use Rattle.peers.specs.declared.peer_demand.PeerDemand.{PeerDemand}
use Rattle.peers.specs.declared.peer_demand.PeersChanged.{PeersChanged}
use Rattle.peers.specs.Peers.State as peer-state
use Rattle.peers.specs.Peers.State.{PeerTables, PeerLengths}
use Rattle.peers.specs.Peers.Calls as peers
use Rattle.limiter.specs.declared.Limit.{Limit}
use Rattle.limiter.specs.declared.Config.{Config}
use Rattle.limiter.specs.declared.Limiter.{Limiter}
use Rattle.limiter.specs.declared.Tally.{Tally}
use Rattle.limiter.specs.Answered.{Checked, TracedCheck, Changed}
use Rattle.limiter.specs.State.{LimiterTables, Lengths, lengths}
use Rattle.limiter.specs.Calls as limiter
use Rattle.image.specs.declared.Loaded.{Loaded}
use Rattle.image.specs.Image.{image}
use Rattle.image.specs.Calls.{here, Saves, Loads}
use Rattle.std.specs.declared.option.Option.{Option}
use Rattle.std.specs.declared.result.Result.{Result}
use Rattle.std.specs.declared.result.Result.TheVariants.{Ok}
use Rattle.questions.specs.Questions.{Answer}
use Rattle.questions.specs.declared.Refusal.{Refusal}
use Rattle.questions.specs.Refusals.{answer_of}
use Rattle.gcra.specs.declared.Quota.{Quota}
use Rattle.gcra.specs.declared.Decision.{Decision}
use Rattle.limiter.specs.declared.KeyRates.{KeyRates}
use Rattle.limiter.specs.declared.Traced.{Traced}
use Rattle.peers.specs.declared.peer_demand.Heard.{Heard}

-- ---- calls: 'all that take the limiter's or the peers' state'

-- those that may change it, with their arguments; `out` is what a lent output holds
pub data Change : Type 0 where
  check : (key now n : ℕ) → Change
  check-in : (key : ℕ) → Limit → (now n : ℕ) → Change
  check-traced : (key : ℕ) → Limit → Option Limit → (now n : ℕ) → Change
  check-each : (list : List ℕ) (count n : ℕ) (out : List ℕ) → Change
  tally : (key : ℕ) → Tally → Limit → (now n : ℕ) → Change
  set-cap : Option Float → Change
  tick : (now n : ℕ) → Change
  tick-with-shares : (now n : ℕ) → Change
  report : (sender : ℕ) → DemandReport → (now : ℕ) → Change
  forget : (peer : ℕ) → Change
  leave : (peer now hold : ℕ) → Change
  expire : (now max_age : ℕ) → Change

-- those that only read it
pub data Query : Type 0 where
  key_rates quota limit hot_since is-hot is-tracked : (key : ℕ) → Query
  new_key_quota : Limit → (n : ℕ) → Query
  new-key-factor : (n : ℕ) → Query
  config tracked_keys hot_keys : Query
  hot-demand : (out : List ℕ) → Query
  most-denied most_shadow_denied : (k : ℕ) (out : List ℕ) → Query
  get : (peer key : ℕ) → Query
  total hot-elsewhere : (key : ℕ) → Query
  totals : (w n : ℕ) (keys : List ℕ) (out : List Float) → Query
  hot_elsewheres : (w n : ℕ) (keys : List ℕ) (out : List Bool) → Query
  peer-keys no-peer-keys : Query
  ask-limiter ask-peers : Query
  save : (out : List ℕ) → Query

pub data What : Type 0 where
  changes : Change → What
  reads : Query → What

-- how many words of each table are lent
pub record Lent : Type 0 where
  pub limiter : Lengths
  pub peers : PeerLengths

pub record Call : Type 0 where
  pub lent : Lent
  pub what : What

-- ---- answers, each with what was written to a lent output

pub data Told : Type 0 where
  rates : Result (Option KeyRates) Refusal → Told
  quota : Result (Option Quota) Refusal → Told
  limit : Result (Option Limit) Refusal → Told
  new_quota : Result Quota Refusal → Told
  factor : Result Float Refusal → Told
  config : Result Config Refusal → Told
  since : Result (Option ℕ) Refusal → Told
  flag : Result Bool Refusal → Told
  size : Result ℕ Refusal → Told
  listed : Result ℕ Refusal → List ℕ → Told
  heard : Result (Option Heard) Refusal → Told
  total : Result Float Refusal → Told
  totals : Result Unit Refusal → List Float → Told
  flags : Result Unit Refusal → List Bool → Told
  number : ℕ → Told

pub data Reply : Type 0 where
  decided : Answer Decision → Reply
  traced : Answer Traced → Reply
  decided-each : Answer Unit → List ℕ → Reply
  done : Answer Unit → Reply
  tells : Told → Reply

-- ---- what the program holds: 'the limiter's state, the peers' state and the tables'

pub record Memory : Type 0 where
  pub limiter : Limiter
  pub tables : LimiterTables
  pub peers : PeerDemand
  pub peer_tables : PeerTables

abbrev pub with_limiter : Memory → Limiter → LimiterTables → Memory
with_limiter h l t = record { limiter = l; tables = t; peers = h.peers; peer_tables = h.peer_tables }

abbrev pub with_peers : Memory → PeerDemand → PeerTables → Memory
with_peers h p t = record { limiter = h.limiter; tables = h.tables; peers = p; peer_tables = t }

-- what each call does to what it is lent: its function's promise
pub data Does (h : Memory) : Change → Reply → Memory → Type 0 where
  checks :
      {key now n : ℕ} {t : LimiterTables} (r : Checked) → limiter.Checks h.limiter h.tables key now n r t
      → Does h (check key now n) (decided (answer_of r.answer)) (with_limiter h r.limiter t)
  checks_in :
      {key now n : ℕ} {x : Limit} {t : LimiterTables} (r : Checked) → limiter.ChecksIn h.limiter h.tables key x now n r t
      → Does h (check-in key x now n) (decided (answer_of r.answer)) (with_limiter h r.limiter t)
  checks_traced :
      {key now n : ℕ} {x : Limit} {y : Option Limit} {t : LimiterTables} (r : TracedCheck)
      → limiter.ChecksTraced h.limiter h.tables key x y now n r t
      → Does h (check-traced key x y now n) (traced (answer_of r.answer)) (with_limiter h r.limiter t)
  checks_each :
      {count n : ℕ} {list out out' : List ℕ} {t : LimiterTables} (r : Changed) → limiter.ChecksEach h.limiter h.tables list count n out r t out'
      → Does h (check-each list count n out) (decided-each (answer_of r.answer) out') (with_limiter h r.limiter t)
  tallies :
      {key now n : ℕ} {y : Tally} {x : Limit} {t : LimiterTables} (r : Changed) → limiter.Records h.limiter h.tables key y x now n r t
      → Does h (tally key y x now n) (done (answer_of r.answer)) (with_limiter h r.limiter t)
  sets_cap :
      {x : Option Float} (r : Changed) → limiter.SetsCap h.limiter h.tables x r
      → Does h (set-cap x) (done (answer_of r.answer)) (with_limiter h r.limiter h.tables)
  ticks :
      {now n : ℕ} {t : LimiterTables} (r : Changed) → limiter.Ticks h.limiter h.tables now n r t
      → Does h (tick now n) (done (answer_of r.answer)) (with_limiter h r.limiter t)
  ticks_with_shares :
      {now n : ℕ} {t : LimiterTables} (r : Changed) → limiter.TicksWithShares h.limiter h.tables h.peers h.peer_tables now n r t
      → Does h (tick-with-shares now n) (done (answer_of r.answer)) (with_limiter h r.limiter t)
  reports :
      {sender now : ℕ} {x : DemandReport} {t : PeerTables} (r : PeersChanged) → peers.Applies h.peers h.peer_tables sender x now r t
      → Does h (report sender x now) (done (answer_of r.answer)) (with_peers h r.peers t)
  forgets :
      {peer : ℕ} {t : PeerTables} (r : PeersChanged) → peers.Forgets h.peers h.peer_tables peer r t
      → Does h (forget peer) (done (answer_of r.answer)) (with_peers h r.peers t)
  leaves :
      {peer now hold : ℕ} {t : PeerTables} (r : PeersChanged) → peers.Leaves h.peers h.peer_tables peer now hold r t
      → Does h (leave peer now hold) (done (answer_of r.answer)) (with_peers h r.peers t)
  expires :
      {now max_age : ℕ} {t : PeerTables} (r : PeersChanged) → peers.Expires h.peers h.peer_tables now max_age r t
      → Does h (expire now max_age) (done (answer_of r.answer)) (with_peers h r.peers t)

pub data Tells (h : Memory) : Query → Told → Type 0 where
  tells_rates : {key : ℕ} {r : Result (Option KeyRates) Refusal} → limiter.TellsRates h.limiter h.tables key r → Tells h (key_rates key) (rates r)
  tells_quota : {key : ℕ} {r : Result (Option Quota) Refusal} → limiter.TellsQuota h.limiter h.tables key r → Tells h (quota key) (quota r)
  tells_limit : {key : ℕ} {r : Result (Option Limit) Refusal} → limiter.TellsLimit h.limiter h.tables key r → Tells h (limit key) (limit r)
  tells_since : {key : ℕ} {r : Result (Option ℕ) Refusal} → limiter.TellsHotSince h.limiter h.tables key r → Tells h (hot_since key) (since r)
  tells_hot : {key : ℕ} {r : Result Bool Refusal} → limiter.TellsHot h.limiter h.tables key r → Tells h (is-hot key) (flag r)
  tells_tracked : {key : ℕ} {r : Result Bool Refusal} → limiter.TellsTracked h.limiter h.tables key r → Tells h (is-tracked key) (flag r)
  tells_new_quota : {x : Limit} {n : ℕ} {r : Result Quota Refusal} → limiter.TellsNewKeyQuota h.limiter h.tables x n r
      → Tells h (new_key_quota x n) (new_quota r)
  tells_factor : {n : ℕ} {r : Result Float Refusal} → limiter.TellsNewKeyFactor h.limiter h.tables n r → Tells h (new-key-factor n) (factor r)
  tells_config : {r : Result Config Refusal} → limiter.TellsConfig h.limiter h.tables r → Tells h config (config r)
  counts_keys : {r : Result ℕ Refusal} → limiter.CountsKeys h.limiter h.tables r → Tells h tracked_keys (size r)
  counts_hot : {r : Result ℕ Refusal} → limiter.CountsHot h.limiter h.tables r → Tells h hot_keys (size r)
  lists_hot : {out out' : List ℕ} {r : Result ℕ Refusal} → limiter.ListsHotDemand h.limiter h.tables out r out'
      → Tells h (hot-demand out) (listed r out')
  lists_denied :
      {k : ℕ} {out out' : List ℕ} {r : Result ℕ Refusal} → limiter.ListsMostDenied h.limiter h.tables k out r out'
      → Tells h (most-denied k out) (listed r out')
  lists_shadow_denied :
      {k : ℕ} {out out' : List ℕ} {r : Result ℕ Refusal} → limiter.ListsMostShadowDenied h.limiter h.tables k out r out'
      → Tells h (most_shadow_denied k out) (listed r out')
  gets : {peer key : ℕ} {r : Result (Option Heard) Refusal} → peers.Gets h.peers h.peer_tables peer key r → Tells h (get peer key) (heard r)
  tells_total : {key : ℕ} {r : Result Float Refusal} → peers.Totals h.peers h.peer_tables key r → Tells h (total key) (total r)
  tells_elsewhere : {key : ℕ} {r : Result Bool Refusal} → peers.TellsHotElsewhere h.peers h.peer_tables key r → Tells h (hot-elsewhere key) (flag r)
  tells_totals :
      {w n : ℕ} {keys : List ℕ} {out out' : List Float} {r : Result Unit Refusal} → peers.TotalsEach h.peers h.peer_tables w n keys out r out'
      → Tells h (totals w n keys out) (totals r out')
  tells_elsewheres :
      {w n : ℕ} {keys : List ℕ} {out out' : List Bool} {r : Result Unit Refusal} → peers.TellsHotElsewhereEach h.peers h.peer_tables w n keys out r out'
      → Tells h (hot_elsewheres w n keys out) (flags r out')
  counts_peer_keys : {r : Result ℕ Refusal} → peers.Counts h.peers h.peer_tables r → Tells h peer-keys (size r)
  tells_no_peer_keys : {r : Result Bool Refusal} → peers.TellsEmpty h.peers h.peer_tables r → Tells h no-peer-keys (flag r)
  asks_limiter : {r : ℕ} → limiter.Asks h.limiter h.tables r → Tells h ask-limiter (number r)
  asks_peers : {r : ℕ} → peers.Asks h.peers h.peer_tables r → Tells h ask-peers (number r)
  saves :
      {out out' : List ℕ} {r : Result ℕ Refusal} → Saves h.limiter h.tables h.peers h.peer_tables out r out'
      → Tells h (save out) (listed r out')

pub data Acts (h : Memory) : What → Reply → Memory → Type 0 where
  does : {x : Change} {r : Reply} {h' : Memory} → Does h x r h' → Acts h (changes x) r h'
  does_tell : {x : Query} {r : Told} → Tells h x r → Acts h (reads x) (tells r) h

-- ---- a call: the first words of each table are lent, and come back

abbrev pub lend : Lent → Memory → Memory
lend n h =
    record {
      limiter = h.limiter;
      tables =
          record {
            keys = take n.limiter.keys h.tables.keys;
            hot = take n.limiter.hot h.tables.hot;
            shadows = take n.limiter.shadows h.tables.shadows;
          };
      peers = h.peers;
      peer_tables =
          record {
            peers = take n.peers.peers h.peer_tables.peers;
            snapshot_keys = take n.peers.snapshot_keys h.peer_tables.snapshot_keys;
            contested = take n.peers.contested h.peer_tables.contested;
          };
    }

abbrev pub lent_by : Memory → Lent
lent_by h = record { limiter = lengths h.tables; peers = peer-state.lengths h.peer_tables }

abbrev pub put_back : List ℕ → List ℕ → List ℕ
put_back part whole = part ++ drop (length part) whole

abbrev pub returned : Memory → Memory → Memory
returned part h =
    record {
      limiter = part.limiter;
      tables =
          record {
            keys = put_back part.tables.keys h.tables.keys;
            hot = put_back part.tables.hot h.tables.hot;
            shadows = put_back part.tables.shadows h.tables.shadows;
          };
      peers = part.peers;
      peer_tables =
          record {
            peers = put_back part.peer_tables.peers h.peer_tables.peers;
            snapshot_keys = put_back part.peer_tables.snapshot_keys h.peer_tables.snapshot_keys;
            contested = put_back part.peer_tables.contested h.peer_tables.contested;
          };
    }

pub record Step (h : Memory) (c : Call) (r : Reply) (h' : Memory) : Type 0 where
  -- there are as many words as the call is lent
  pub enough : lent_by (lend c.lent h) ≡ c.lent
  pub after : Memory
  pub acts : Acts (lend c.lent h) c.what r after
  pub back : h' ≡ returned after h

-- ---- runs: 'saved and loaded at any place in the list, ends included'

-- what a save and the load after it are given: lent lengths and an output; tables 'whatever they hold'
pub record Resume : Type 0 where
  pub lent : Lent
  pub out : List ℕ
  pub tables : LimiterTables
  pub peer_tables : PeerTables

-- a list of calls, with places where one of the two runs is saved and loaded
pub data Move : Type 0 where
  call : Call → Move
  resume : Resume → Move

-- 'the image that a save with room would write'
abbrev pub image_of : Memory → List ℕ
image_of h = image (here h.limiter h.tables h.peers h.peer_tables)

-- 'Compared are each later call's answer or number, what it writes to a lent output, and the image .. after the load and after each later call'
pub data Shown : Type 0 where
  answered : Reply → (image : List ℕ) → Shown
  resumed : (image : List ℕ) → Shown

-- from what the program holds, a list of moves shows what is compared and leaves what the program then holds; `At` says what happens at a place of
-- resumption
pub data Runs (At : Memory → Resume → Memory → Type 0) : Memory → List Move → List Shown → Memory → Type 0 where
  end : {h : Memory} → Runs At h [] [] h
  calls :
      {h h' last : Memory} {c : Call} {r : Reply} {ms : List Move} {xs : List Shown} → Step h c r h' → Runs At h' ms xs last
      → Runs At h (call c ∷ ms) (answered r (image_of h') ∷ xs) last
  resumes :
      {h h' last : Memory} {w : Resume} {ms : List Move} {xs : List Shown} → At h w h' → Runs At h' ms xs last
      → Runs At h (resume w ∷ ms) (resumed (image_of h') ∷ xs) last

-- nothing happens there in the unbroken run
abbrev pub GoesOn : Memory → Resume → Memory → Type 0
GoesOn h w h' = h' ≡ h

-- a save of what is lent there
abbrev pub SavesAt : Memory → Resume → Result ℕ Refusal → List ℕ → Type 0
SavesAt h w r out = Saves h.limiter (lend w.lent h).tables h.peers (lend w.lent h).peer_tables w.out r out

-- 'The resumed run's load gets the image its save wrote, and tables whatever they hold'
pub data Resumes (h : Memory) (w : Resume) : Memory → Type 0 where
  saved_and_loaded :
      {size : ℕ} {out : List ℕ} {x : Loaded} {t : LimiterTables} {pt : PeerTables} → SavesAt h w (Ok size) out
      → Loads (take size out) w.tables w.peer_tables (Ok x) t pt
      → Resumes h w (record { limiter = x.limiter; tables = t; peers = x.peers; peer_tables = pt })

abbrev pub Unbroken : Memory → List Move → List Shown → Memory → Type 0
Unbroken = Runs GoesOn

abbrev pub Resumed : Memory → List Move → List Shown → Memory → Type 0
Resumed = Runs Resumes

-- 'The list starts from what new returns', whatever the tables that are held then
pub record Started (c : Config) (h : Memory) : Type 0 where
  pub tables : LimiterTables
  pub peer_tables : PeerTables
  pub limiter : limiter.IsNew c tables (Ok h.limiter)
  pub peers : peers.IsNew peer_tables (Ok h.peers)
