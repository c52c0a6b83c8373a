-- The calls of the library on the words of a limiter and of its peers, each by the promise of its function. Definitions only.
use Rattle.std.specs.Prelude.{ℕ, Bool, List, Float}
use Rattle.peers.specs.declared.peer_demand.DemandReport.{DemandReport}
use Rattle.peers.specs.Peers.State.{PeerTables}
use Rattle.limiter.specs.declared.Limit.{Limit}
use Rattle.limiter.specs.declared.Tally.{Tally}
use Rattle.limiter.specs.State.{LimiterTables}
use Rattle.run.specs.Run as run
use Rattle.run.specs.Run.{Change, Query, What, Memory}
use Rattle.nultiway.specs.Values.{limiter_of, peers_of}
use Rattle.nultiway.specs.LimiterCalls as limiter
use Rattle.nultiway.specs.PeerCalls as peers
use Rattle.nultiway.specs.ImageCalls as image
use Rattle.std.specs.declared.option.Option.{Option}

-- ---- what a server keeps between calls: the words of a limiter and of its peers, and their tables

pub record Buffers : Type 0 where
  pub limiter : List ℕ
  pub tables : LimiterTables
  pub peers : List ℕ
  pub peer_tables : PeerTables

-- the values that the words stand for
abbrev pub values_of : Buffers → Memory
values_of b = record { limiter = limiter_of b.limiter; tables = b.tables; peers = peers_of b.peers; peer_tables = b.peer_tables }

abbrev pub with_limiter : Buffers → List ℕ → LimiterTables → Buffers
with_limiter b ws t = record { limiter = ws; tables = t; peers = b.peers; peer_tables = b.peer_tables }

abbrev pub with_peers : Buffers → List ℕ → PeerTables → Buffers
with_peers b ps t = record { limiter = b.limiter; tables = b.tables; peers = ps; peer_tables = t }

-- ---- calls

-- how many words of each buffer are lent
pub record Lent : Type 0 where
  pub limiter : ℕ
  pub peers : ℕ
  pub tables : run.Lent

-- A call of `run`'s list, what the buffer `answer` holds before it, and the words that list a report's keys, in place of the report's own. A function
-- that takes no such buffer does not change it.
pub record Call : Type 0 where
  pub lent : Lent
  pub what : What
  pub answer : List ℕ
  pub report : List ℕ

-- ---- what a call says: its number, the buffer `answer` after it, and the output that it was lent

-- words, or the bytes of an image; doubles; bools
pub data Output : Type 0 where
  nothing : Output
  words : List ℕ → Output
  floats : List Float → Output
  flags : List Bool → Output

pub record Said : Type 0 where
  pub number : ℕ
  pub answer : List ℕ
  pub output : Output

abbrev pub said : ℕ → List ℕ → Output → Said
said r answer out = record { number = r; answer = answer; output = out }

-- ---- each function by the predicate that its `ensures` cites; `b` has what it is lent

-- those that may change the limiter or the peers
pub data Does (b : Buffers) (answer report : List ℕ) : Change → Said → Buffers → Type 0 where
  check :
      {key now n r : ℕ} {ws a : List ℕ} {t : LimiterTables} → limiter.Check b.limiter b.tables key now n answer r ws t a
      → Does b answer report (Change.check key now n) (said r a Output.nothing) (with_limiter b ws t)
  check-in :
      {key now n r : ℕ} {x : Limit} {ws a : List ℕ} {t : LimiterTables} → limiter.CheckIn b.limiter b.tables key x now n answer r ws t a
      → Does b answer report (Change.check-in key x now n) (said r a Output.nothing) (with_limiter b ws t)
  check_in_traced :
      {key now n r : ℕ} {x : Limit} {y : Option Limit} {ws a : List ℕ} {t : LimiterTables}
      → limiter.CheckInTraced b.limiter b.tables key x y now n answer r ws t a
      → Does b answer report (Change.check-traced key x y now n) (said r a Output.nothing) (with_limiter b ws t)
  check-each :
      {count n r : ℕ} {list out out' ws : List ℕ} {t : LimiterTables} → limiter.CheckEach b.limiter b.tables list count n out r ws t out'
      → Does b answer report (Change.check-each list count n out) (said r answer (Output.words out')) (with_limiter b ws t)
  record-tally :
      {key now n r : ℕ} {y : Tally} {x : Limit} {ws : List ℕ} {t : LimiterTables} → limiter.Record b.limiter b.tables key y x now n r ws t
      → Does b answer report (Change.tally key y x now n) (said r answer Output.nothing) (with_limiter b ws t)
  set-cap :
      {x : Option Float} {r : ℕ} {ws : List ℕ} → limiter.SetCap b.limiter b.tables x r ws
      → Does b answer report (Change.set-cap x) (said r answer Output.nothing) (with_limiter b ws b.tables)
  tick :
      {now n r : ℕ} {ws : List ℕ} {t : LimiterTables} → limiter.Tick b.limiter b.tables now n r ws t
      → Does b answer report (Change.tick now n) (said r answer Output.nothing) (with_limiter b ws t)
  tick-with-shares :
      {now n r : ℕ} {ws : List ℕ} {t : LimiterTables}
      → limiter.TickWithShares b.limiter b.tables b.peers b.peer_tables now n r ws t
      → Does b answer report (Change.tick-with-shares now n) (said r answer Output.nothing) (with_limiter b ws t)
  peers-apply :
      {sender now r : ℕ} {x : DemandReport} {ps : List ℕ} {t : PeerTables}
      → peers.Apply b.peers b.peer_tables sender x.origin x.epoch x.round report x.count now r ps t
      → Does b answer report (Change.report sender x now) (said r answer Output.nothing) (with_peers b ps t)
  peers-forget :
      {peer r : ℕ} {ps : List ℕ} {t : PeerTables} → peers.Forget b.peers b.peer_tables peer r ps t
      → Does b answer report (Change.forget peer) (said r answer Output.nothing) (with_peers b ps t)
  peers-leave :
      {peer now hold r : ℕ} {ps : List ℕ} {t : PeerTables} → peers.Leave b.peers b.peer_tables peer now hold r ps t
      → Does b answer report (Change.leave peer now hold) (said r answer Output.nothing) (with_peers b ps t)
  peers-expire :
      {now max_age r : ℕ} {ps : List ℕ} {t : PeerTables} → peers.Expire b.peers b.peer_tables now max_age r ps t
      → Does b answer report (Change.expire now max_age) (said r answer Output.nothing) (with_peers b ps t)

-- those that only read
pub data Tells (b : Buffers) (answer : List ℕ) : Query → Said → Type 0 where
  key_rates :
      {key r : ℕ} {a : List ℕ} → limiter.LimiterKeyRates b.limiter b.tables key answer r a
      → Tells b answer (Query.key_rates key) (said r a Output.nothing)
  quota :
      {key r : ℕ} {a : List ℕ} → limiter.LimiterQuota b.limiter b.tables key answer r a
      → Tells b answer (Query.quota key) (said r a Output.nothing)
  limit :
      {key r : ℕ} {a : List ℕ} → limiter.LimiterLimit b.limiter b.tables key answer r a
      → Tells b answer (Query.limit key) (said r a Output.nothing)
  hot_since :
      {key r : ℕ} {a : List ℕ} → limiter.HotSince b.limiter b.tables key answer r a
      → Tells b answer (Query.hot_since key) (said r a Output.nothing)
  is-hot :
      {key r : ℕ} {a : List ℕ} → limiter.IsHot b.limiter b.tables key answer r a → Tells b answer (Query.is-hot key) (said r a Output.nothing)
  tracked :
      {key r : ℕ} {a : List ℕ} → limiter.Tracked b.limiter b.tables key answer r a
      → Tells b answer (Query.is-tracked key) (said r a Output.nothing)
  new_key_quota :
      {x : Limit} {n r : ℕ} {a : List ℕ} → limiter.NewKeyQuota b.limiter b.tables x n answer r a
      → Tells b answer (Query.new_key_quota x n) (said r a Output.nothing)
  new-key-factor :
      {n r : ℕ} {a : List ℕ} → limiter.NewKeyFactor b.limiter b.tables n answer r a
      → Tells b answer (Query.new-key-factor n) (said r a Output.nothing)
  config : {r : ℕ} {a : List ℕ} → limiter.LimiterConfig b.limiter b.tables answer r a → Tells b answer Query.config (said r a Output.nothing)
  tracked_keys :
      {r : ℕ} {a : List ℕ} → limiter.TrackedKeys b.limiter b.tables answer r a → Tells b answer Query.tracked_keys (said r a Output.nothing)
  hot_keys : {r : ℕ} {a : List ℕ} → limiter.HotKeys b.limiter b.tables answer r a → Tells b answer Query.hot_keys (said r a Output.nothing)
  hot-demand :
      {r : ℕ} {out out' a : List ℕ} → limiter.HotDemand b.limiter b.tables out answer r out' a
      → Tells b answer (Query.hot-demand out) (said r a (Output.words out'))
  most-denied :
      {k r : ℕ} {out out' a : List ℕ} → limiter.MostDenied b.limiter b.tables k out answer r out' a
      → Tells b answer (Query.most-denied k out) (said r a (Output.words out'))
  most_shadow_denied :
      {k r : ℕ} {out out' a : List ℕ} → limiter.MostShadowDenied b.limiter b.tables k out answer r out' a
      → Tells b answer (Query.most_shadow_denied k out) (said r a (Output.words out'))
  peers_get :
      {peer key r : ℕ} {a : List ℕ} → peers.Get b.peers b.peer_tables peer key answer r a
      → Tells b answer (Query.get peer key) (said r a Output.nothing)
  peers_total :
      {key r : ℕ} {a : List ℕ} → peers.Total b.peers b.peer_tables key answer r a → Tells b answer (Query.total key) (said r a Output.nothing)
  peers_hot_elsewhere :
      {key r : ℕ} {a : List ℕ} → peers.HotElsewhere b.peers b.peer_tables key answer r a
      → Tells b answer (Query.hot-elsewhere key) (said r a Output.nothing)
  peers_total_of_each :
      {w n r : ℕ} {keys : List ℕ} {out out' : List Float} → peers.TotalOfEach b.peers b.peer_tables keys w n out r out'
      → Tells b answer (Query.totals w n keys out) (said r answer (Output.floats out'))
  peers_hot_elsewhere_of_each :
      {w n r : ℕ} {keys : List ℕ} {out out' : List Bool} → peers.HotElsewhereOfEach b.peers b.peer_tables keys w n out r out'
      → Tells b answer (Query.hot_elsewheres w n keys out) (said r answer (Output.flags out'))
  peers_len : {r : ℕ} {a : List ℕ} → peers.Len b.peers b.peer_tables answer r a → Tells b answer Query.peer-keys (said r a Output.nothing)
  peers_is_empty :
      {r : ℕ} {a : List ℕ} → peers.IsEmpty b.peers b.peer_tables answer r a → Tells b answer Query.no-peer-keys (said r a Output.nothing)
  limiter_ask : {r : ℕ} → limiter.Ask b.limiter b.tables r → Tells b answer Query.ask-limiter (said r answer Output.nothing)
  peers_ask : {r : ℕ} → peers.Ask b.peers b.peer_tables r → Tells b answer Query.ask-peers (said r answer Output.nothing)
  save :
      {r : ℕ} {out out' a : List ℕ} → image.Save b.limiter b.tables b.peers b.peer_tables out answer r out' a
      → Tells b answer (Query.save out) (said r a (Output.words out'))

pub data Acts (b : Buffers) (answer report : List ℕ) : What → Said → Buffers → Type 0 where
  does : {x : Change} {s : Said} {b' : Buffers} → Does b answer report x s b' → Acts b answer report (What.changes x) s b'
  does_tell : {x : Query} {s : Said} → Tells b answer x s → Acts b answer report (What.reads x) s b
