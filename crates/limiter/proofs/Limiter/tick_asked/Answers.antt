use Rattle.std.proofs.Common.{arith, false}
use Rattle.peers.specs.Peers.State as peer-state
use Rattle.limiter.specs.State.{tables, parameters_of, settings_of, state_of, units_in}
use Rattle.limiter.specs.Ticks.{peers_others}
use Rattle.limiter.proofs.Checking.ReadyLaws.{few_keys, lent-keys}
use Rattle.limiter.proofs.PassOne.StartLaws.{pass-ready}
use Rattle.limiter.proofs.PassTwo.RateLaws.{peers-share}
use Rattle.limiter.proofs.Ticking.HoldsLaws.{few, finishing, ticked}
use Rattle.limiter.proofs.Ticking.PeerLaws.{both-passed, told-elsewhere, told-totals, totals-of}
use Rattle.limiter.proofs.Limiter.tick_asked.Goals as goal

pub pass_one-passed-requires : goal.pass_one-passed-requires
pass_one-passed-requires c =
    let a = c.args in
    let lent = tables a.keys.now a.hot.now a.shadows.now in
    let theirs = peer-state.tables a.peer_table.now a.snapshot_keys.now a.contested.now in
    let p = both-passed a.self lent a.peers theirs a.cluster_size c.requires in
    pass-ready a.self lent p.room p.ok _ (omega (arith, few_keys a.self lent p.room p.ok))

pub finish_tick-requires : goal.finish_tick-requires
finish_tick-requires c =
    let a = c.args in
    let l = a.self in
    let lent = tables a.keys.now a.hot.now a.shadows.now in
    let theirs = peer-state.tables a.peer_table.now a.snapshot_keys.now a.contested.now in
    let p = both-passed l lent a.peers theirs a.cluster_size c.requires in
    let others = peers_others (settings_of l) (peer-state.state_of a.peers theirs) a.cluster_size in
    finishing l lent p.room p.ok (parameters_of (settings_of l)) others a.reading a.cluster_size c.pass_one-passed.result _ _ _
    (c.pass_one-passed.ensures others
    (told-elsewhere a.peers theirs p.peers (units_in l) l.keys a.keys.now _ _ _ c.hot_elsewhere_of_each.ensures
    (lent-keys l lent p.room p.ok).fit (few_keys l lent p.room p.ok).0))
    _ (omega (arith, c.total_of_each.auto.out)) p.size

pub returns : goal.returns
unfolding state_of
returns c =
    let a = c.args in
    let l = a.self in
    let lent = tables a.keys.now a.hot.now a.shadows.now in
    let theirs = peer-state.tables a.peer_table.now a.snapshot_keys.now a.contested.now in
    let p = both-passed l lent a.peers theirs a.cluster_size c.requires in
    let others = peers_others (settings_of l) (peer-state.state_of a.peers theirs) a.cluster_size in
    let passed = c.pass_one-passed.result in
    let h =
    c.pass_one-passed.ensures others
    (told-elsewhere a.peers theirs p.peers (units_in l) l.keys a.keys.now _ _ _ c.hot_elsewhere_of_each.ensures
    (lent-keys l lent p.room p.ok).fit (few_keys l lent p.room p.ok).0) in
    let z = few l lent p.room p.ok (parameters_of (settings_of l)) others a.reading a.cluster_size passed _ _ _ h in
    let t = told-totals a.peers theirs p.peers passed.hot _ _ _ _ c.total_of_each.ensures h.hot_lent.fit z.1 in
    let q = peers-share l (peer-state.state_of a.peers theirs) a.cluster_size _ _ (totals-of _ _ _ _ _ h.hot_count h.hot_are t) in
    ticked l lent p.room p.ok (parameters_of (settings_of l)) others a.reading a.cluster_size passed _ _ _ h false _ q c.finish_tick.result _ _
    c.finish_tick.ensures
