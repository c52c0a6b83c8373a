-- A 'no' of the questions, or the tick.
use mathlib.Core.List.{◌++◌}
use Rattle.limiter.proofs.Ticking.HoldsLaws.{ticking-done, ticking-no}
use Rattle.limiter.specs.Calls.{both_questions, here}
use Rattle.limiter.specs.Checks.{cluster_questions}
use Rattle.limiter.specs.State.{parameters_of, settings_of, tables, units_in}
use Rattle.limiter.specs.Ticks.{tick_with_shares}
use Rattle.questions.proofs.Answers.{passed_none}
use lib.Dec.{lit<}
use mathlib.Core.Path.{refl}
use Rattle.peers.specs.Peers.State as peer-state
use Rattle.limiter.proofs.Limiter.tick_with_shares.Goals as goal

pub returns-in-Err : goal.returns-in-Err
returns-in-Err c =
    let s = c.args in
    ticking-no (both_questions s.self (tables s.keys.now s.hot.now s.shadows.now) s.peers (peer-state.tables s.peer_table.now s.snapshot_keys.now s.contested.now) ++ cluster_questions s.cluster_size)
    (tick_with_shares (parameters_of (settings_of s.self)) (units_in s.self) (peer-state.state_of s.peers (peer-state.tables s.peer_table.now s.snapshot_keys.now s.contested.now)) s.reading s.cluster_size (here s.self (tables s.keys.now s.hot.now s.shadows.now)))
    s.self (tables s.keys.now s.hot.now s.shadows.now) _ c.in-Err.ensures

pub tick_asked-limiter-requires : goal.tick_asked-limiter-requires
tick_asked-limiter-requires c = passed_none _ _ (lit< tt, (lit< tt, (lit< tt, tt))) c.in_default.ensures refl

pub returns : goal.returns
returns c =
    let s = c.args in
    ticking-done (both_questions s.self (tables s.keys.now s.hot.now s.shadows.now) s.peers (peer-state.tables s.peer_table.now s.snapshot_keys.now s.contested.now) ++ cluster_questions s.cluster_size)
    (tick_with_shares (parameters_of (settings_of s.self)) (units_in s.self) (peer-state.state_of s.peers (peer-state.tables s.peer_table.now s.snapshot_keys.now s.contested.now)) s.reading s.cluster_size (here s.self (tables s.keys.now s.hot.now s.shadows.now)))
    s.self (tables s.keys.now s.hot.now s.shadows.now) c.tick_asked-limiter.result _ (passed_none _ _ (lit< tt, (lit< tt, (lit< tt, tt))) c.in_default.ensures refl)
    c.tick_asked-limiter.ensures
