-- A 'no' of the questions, or all checks.
use Rattle.limiter.proofs.Checking.EachLaws.{asked-passed, each-refused, each_lifted}
use Rattle.limiter.specs.State.{tables}
use mathlib.Core.Path.{refl}
use Rattle.limiter.proofs.Limiter.check_each.Goals as goal

pub returns-in-Err : goal.returns-in-Err
returns-in-Err c =
    let s = c.args in
    rw c.refused.ensures
    (each-refused s.self (tables s.keys.now s.hot.now s.shadows.now) s.list.now s.count s.cluster_size s.out.now _ c.in-Err.ensures)

pub check_pairs-requires : goal.check_pairs-requires
check_pairs-requires c =
    let s = c.args in
    (asked-passed s.self (tables s.keys.now s.hot.now s.shadows.now) s.list.now s.count s.cluster_size s.out.now _ c.in_default.ensures refl).ready

pub returns : goal.returns
returns c =
    let s = c.args in
    let a = asked-passed s.self (tables s.keys.now s.hot.now s.shadows.now) s.list.now s.count s.cluster_size s.out.now _ c.in_default.ensures refl in
    each_lifted s.self (tables s.keys.now s.hot.now s.shadows.now) s.list.now s.count s.cluster_size s.out.now a c.check_pairs.result _ _ c.check_pairs.ensures
