-- A 'no' of the questions, or both passes.
use mathlib.Core.List.{◌++◌}
use Rattle.limiter.proofs.Checking.LiftLaws.{passed}
use Rattle.limiter.proofs.Checking.ReadyLaws.{few_keys}
use Rattle.limiter.proofs.PassOne.StartLaws.{pass-ready}
use Rattle.limiter.proofs.PassTwo.RateLaws.{even-share}
use Rattle.limiter.proofs.Ticking.HoldsLaws.{finishing, ticked, ticking-done, ticking-no}
use Rattle.limiter.proofs.Ticking.PeerLaws.{none_elsewhere, size-passed}
use Rattle.limiter.specs.Calls.{here, state_questions}
use Rattle.limiter.specs.Checks.{cluster_questions}
use Rattle.limiter.specs.State.{parameters_of, settings_of, tables, units_in}
use Rattle.limiter.specs.Ticks.{no_others, tick}
use lib.Dec.{lit<}
use mathlib.Core.Bool.{true}
use mathlib.Core.Path.{refl}
use native.Mathlib.Omega.{arith}
use Rattle.limiter.proofs.Limiter.tick.Goals as goal

pub returns-in-Err : goal.returns-in-Err
returns-in-Err c =
    let s = c.args in
    ticking-no (state_questions s.self (tables s.keys.now s.hot.now s.shadows.now) ++ cluster_questions s.cluster_size)
    (tick (parameters_of (settings_of s.self)) (units_in s.self) s.reading s.cluster_size (here s.self (tables s.keys.now s.hot.now s.shadows.now))) s.self (tables s.keys.now s.hot.now s.shadows.now) _ c.in-Err.ensures

pub pass_one-passed-requires : goal.pass_one-passed-requires
pass_one-passed-requires c =
    let s = c.args in
    let p = passed s.self (tables s.keys.now s.hot.now s.shadows.now) (cluster_questions s.cluster_size) _ (lit< tt, tt) c.in_default.ensures refl in
    pass-ready s.self (tables s.keys.now s.hot.now s.shadows.now) p.room p.ok _ (omega (arith, few_keys s.self (tables s.keys.now s.hot.now s.shadows.now) p.room p.ok))

pub finish_tick-limiter-requires : goal.finish_tick-limiter-requires
finish_tick-limiter-requires c =
    let s = c.args in
    let l = s.self in
    let n = s.cluster_size in
    let p = passed l (tables s.keys.now s.hot.now s.shadows.now) (cluster_questions n) _ (lit< tt, tt) c.in_default.ensures refl in
    finishing l (tables s.keys.now s.hot.now s.shadows.now) p.room p.ok (parameters_of (settings_of l)) (no_others n) s.reading n c.pass_one-passed.result _ _ _
    (c.pass_one-passed.ensures (no_others n) (none_elsewhere (units_in l) l.keys s.keys.now (few_keys l (tables s.keys.now s.hot.now s.shadows.now) p.room p.ok).0)) _ (omega arith)
    (size-passed n p.rest)

pub returns : goal.returns
returns c =
    let s = c.args in
    let l = s.self in
    let n = s.cluster_size in
    let p = passed l (tables s.keys.now s.hot.now s.shadows.now) (cluster_questions n) _ (lit< tt, tt) c.in_default.ensures refl in
    let h = c.pass_one-passed.ensures (no_others n) (none_elsewhere (units_in l) l.keys s.keys.now (few_keys l (tables s.keys.now s.hot.now s.shadows.now) p.room p.ok).0) in
    ticking-done (state_questions l (tables s.keys.now s.hot.now s.shadows.now) ++ cluster_questions n)
    (tick (parameters_of (settings_of l)) (units_in l) s.reading n (here l (tables s.keys.now s.hot.now s.shadows.now))) l (tables s.keys.now s.hot.now s.shadows.now) c.finish_tick-limiter.result _ p.all
    (ticked l (tables s.keys.now s.hot.now s.shadows.now) p.room p.ok (parameters_of (settings_of l)) (no_others n) s.reading n c.pass_one-passed.result _ _ _ h true _ (even-share l n _ _)
    c.finish_tick-limiter.result _ _ c.finish_tick-limiter.ensures)
