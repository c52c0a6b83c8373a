use Rattle.std.proofs.Common.{refl, sym, ap, arith, ◌∙◌}
use Rattle.hot.specs.declared.hot_set.HotEntry.{HotEntry}
use Rattle.hot.proofs.HotSet.Tests.{cooled-key}
use Rattle.hot.proofs.HotSet.Acts.{promoted-of, ready-now, kept-room, gone-count, cooled-stays, cooled-leaves, absent-elsewhere, absent-stays, either, neither}
use mathlib.Core.Logic.{inl, inr}
use Rattle.hot.proofs.hot_set.HotSet.below_threshold.Goals as goal
use Rattle.hot.proofs.hot_set.HotSet.below_threshold.Goals.{then-cooled-via-then-cooled, then-cooled-via-else-cooled+then-hot_elsewhere}

pub get-requires : goal.get-requires
get-requires c = ready-now _ _ c.requires

pub put-requires-clause-entries_ready : goal.put-requires-clause-entries_ready
put-requires-clause-entries_ready c = ready-now _ _ c.requires

pub put-requires-clause-hot_in_bounds : goal.put-requires-clause-hot_in_bounds
put-requires-clause-hot_in_bounds c =
    kept-room c.args.self c.args.hot.now c.requires c.args.key _ _ (sym c.in-Some.ensures) (ap (λ (e : HotEntry). e.key) c.cool-cooled.ensures ∙ cooled-key _ _ _ _)

pub returns-then-cooled : goal.returns-then-cooled
returns-then-cooled c =
    cooled-stays c.args.self c.args.hot.now c.requires _ c.args.key c.args.demand_rate c.args.now c.args.hot_elsewhere _ _ _ _ (sym c.in-Some.ensures) c.cool-cooled.ensures
    (either c.cool-cooled.result.primary c.args.hot_elsewhere (elim c.then-cooled.branch [ then-cooled-via-then-cooled w ↦ inl w.if-cooled.true | then-cooled-via-else-cooled+then-hot_elsewhere w ↦ inr w.if-hot_elsewhere.true ])) c.counted.ensures c.put.ensures

pub remove-requires : goal.remove-requires
remove-requires c = ready-now _ _ c.requires

pub overflow_sub-n : goal.overflow_sub-n
overflow_sub-n c =
    omega (arith, gone-count c.args.self c.args.hot.now c.requires c.args.key _ c.cool-cooled.result (sym c.in-Some.ensures) (ap (λ (e : HotEntry). e.key) c.cool-cooled.ensures ∙ cooled-key _ _ _ _))

pub returns-else-hot_elsewhere : goal.returns-else-hot_elsewhere
returns-else-hot_elsewhere c =
    cooled-leaves c.args.self c.args.hot.now c.requires _ c.args.key c.args.demand_rate c.args.now c.args.hot_elsewhere _ _ _ _ (sym c.in-Some.ensures) c.cool-cooled.ensures
    (neither _ _ c.if-cooled.false c.if-hot_elsewhere.false) c.counted-in-Some.ensures c.remove.ensures

pub returns-in-None : goal.returns-in-None
returns-in-None c =
    absent-elsewhere c.args.self c.args.hot.now c.requires _ c.args.key c.args.demand_rate c.args.now c.args.hot_elsewhere _ _ (sym c.in-None.ensures) c.if-hot_elsewhere-2.true
    (promoted-of c.args.self c.args.hot.now c.requires _ c.args.key c.args.demand_rate _ c.args.now _ _ c.new.result c.new.ensures c.promote.ensures)

pub returns-in-None-2 : goal.returns-in-None-2
returns-in-None-2 c =
    absent-stays c.args.self c.args.hot.now c.requires _ c.args.key c.args.demand_rate c.args.now c.args.hot_elsewhere _ _ (sym c.in-None.ensures) c.if-hot_elsewhere-2.false c.counted-in-None-2.ensures refl
