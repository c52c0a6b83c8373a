-- A new limiter and its peers stand for the new state, whatever the tables that are held then.
use mathlib.Core.Path.{◌≡◌, refl, sym, subst}
use mathlib.Core.Bool.{true, ◌&&◌}
use Rattle.records.specs.Records.{records, ascending}
use Rattle.questions.proofs.Tests.{both}
use Rattle.questions.specs.Questions.{passes}
use Rattle.questions.proofs.Answers.{answer-passed, given-passed}
use Rattle.peers.specs.declared.peer_demand.PeerDemand.{PeerDemand}
use Rattle.hot.specs.HotSet.Set as hot-set
use Rattle.questions.specs.Lists.{all}
use Rattle.peers.specs.Peers.State as peer-state
use Rattle.peers.specs.Peers.State.{PeerTables, new_peers}
use Rattle.records.specs.Typed.{is_word}
use Rattle.peers.specs.Peers.Calls as peers
use Rattle.limiter.specs.declared.Config.{Config}
use Rattle.limiter.specs.declared.Limiter.{Limiter}
use Rattle.limiter.specs.State as limiter-state
use Rattle.limiter.specs.State.{LimiterTables, is_f64, value_of, units_of}
use Rattle.limiter.specs.Calls.{new_state, new_questions}
use Rattle.limiter.proofs.Calls.NewValidLaws.{GivenConfig, new-valid}
use Rattle.run.specs.Run.{Memory, Started}
use Rattle.run.specs.Typed.{typed_config}
use Rattle.run.specs.Trace.{new_states}
use Rattle.run.proofs.Standing.Stands.{LimiterStands, PeersStand, Stands}

-- typed settings
given-config : (c : Config) → typed_config c ≡ true → GivenConfig c
given-config c w =
    let a = both (is_f64 c.limit.rate) _ w in
    let b = both (is_f64 c.alpha && is_f64 c.floor_factor) _ a.1 in
    let f = both (is_f64 c.alpha) (is_f64 c.floor_factor) b.0 in
    let t = both (is_word c.cooldown) (is_word c.demand_time_constant) b.1 in
    record {
      rate_f64 = a.0;
      alpha_f64 = f.0;
      floor_f64 = f.1;
      cooldown_word = t.0;
      time_constant_word = t.1;
    }

-- a limiter with no key reads none
new-limiter-stands : (c : Config) (t : LimiterTables) → limiter-state.valid (units_of (new_state c).settings) (new_state c) ≡ true
    → LimiterStands (value_of (new_state c)) t (new_state c)
unfolding limiter-state.state_of limiter-state.are_exact hot-set.entries records all
new-limiter-stands c t v = record { valid = v; reads = refl; exact = refl }

-- and peers with none read none
new-peers-stand : (c : Config) (t : PeerTables) → PeersStand new_peers t (new_states c).peers
unfolding peer-state.state_of peer-state.are_exact peer-state.valid peer-state.valid_peers peer-state.valid_snapshot_keys peer-state.valid_contesteds
    records all ascending
new-peers-stand c t = record { valid = refl; reads = refl; exact = refl }

-- what new returns
pub started-stands : {c : Config} {h : Memory} → typed_config c ≡ true → Started c h → Stands h (new_states c)
started-stands {c} {h} w b =
    let l = given-passed (new_questions c b.tables) h.limiter (value_of (new_state c)) b.limiter in
    let p = given-passed (peers.new_questions b.peer_tables) h.peers new_peers b.peers in
    record {
      limiter =
          subst (λ (x : Limiter). LimiterStands x h.tables (new_state c)) (sym l.1)
          (new-limiter-stands c h.tables (new-valid (units_of (new_state c).settings) c b.tables (given-config c w) l.0));
      peers = subst (λ (x : PeerDemand). PeersStand x h.peer_tables (new_states c).peers) (sym p.1) (new-peers-stand c h.peer_tables);
    }

-- what the program then holds, given these tables
abbrev pub begun : Config → LimiterTables → PeerTables → Memory
begun c t pt = record { limiter = value_of (new_state c); tables = t; peers = new_peers; peer_tables = pt }

-- There is one to start with, of any settings and tables that pass the questions of `new`.
pub can-start :
    (c : Config) (t : LimiterTables) (pt : PeerTables) → passes (new_questions c t) ≡ true → passes (peers.new_questions pt) ≡ true
    → Started c (begun c t pt)
can-start c t pt l p =
    record {
      tables = t;
      peer_tables = pt;
      limiter = answer-passed (value_of (new_state c)) (new_questions c t) l;
      peers = answer-passed new_peers (peers.new_questions pt) p;
    }
