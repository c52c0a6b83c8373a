-- The hot set's questions pass, and its answers are those of the keys.
use Rattle.std.proofs.Common.{refl}
use Rattle.limiter.specs.State.{units_for, parameters_for}
use Rattle.limiter.proofs.PassOne.EachLaws.{each-never, each-done}
use Rattle.limiter.proofs.pass_one.update_hot.Goals as goal

pub returns-in-Ok : goal.returns-in-Ok
unfolding parameters_for units_for
returns-in-Ok c =
    let a = c.args in
    let p = c.requires in
    each-done a.silent a.limiter a.reading a.cluster_size a.keys.now a.hot.now a.elsewhere.now
    p.lent_keys.0 p.lent_keys.1 p.keys_in_bounds.0 _ c.u64_to_f64-size.ensures _ _ _ c.measure_keys.ensures _ p.keys_in_bounds.2 _ _ _ (rw c.set_of.ensures at c.update_each.ensures) _ refl
    c.in-Ok.left c.in-Ok.is

pub returns-in-Err : goal.returns-in-Err
unfolding units_for
returns-in-Err c =
    let a = c.args in
    let p = c.requires in
    each-never a.silent a.limiter a.reading a.cluster_size a.keys.now a.hot.now a.elsewhere.now
    p.lent_keys.0 p.lent_keys.1 p.keys_in_bounds.0 _ c.u64_to_f64-size.ensures _ _ _ c.measure_keys.ensures _ p.keys_in_bounds.2 _ _ _ (rw c.set_of.ensures at c.update_each.ensures) _ refl _
    c.in-Err.is
