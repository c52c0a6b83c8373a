use Rattle.std.proofs.Common.{refl, sym, ap, arith}
use Rattle.hot.specs.declared.hot_set.HotEntry.{HotEntry}
use Rattle.hot.proofs.HotSet.Answers.{passed-set}
use Rattle.hot.proofs.HotSet.Acts.{ready-now, kept-room, more_room, promoted-there, promoted-new, promoted-full, new-is}
use Rattle.hot.proofs.hot_set.HotSet.promote.Goals as goal

pub get-requires : goal.get-requires
get-requires c = ready-now _ _ c.requires.passed

pub put-requires-clause-entries_ready : goal.put-requires-clause-entries_ready
put-requires-clause-entries_ready c = ready-now _ _ c.requires.passed

pub put-requires-clause-hot_in_bounds : goal.put-requires-clause-hot_in_bounds
put-requires-clause-hot_in_bounds c =
    kept-room c.args.self c.args.hot.now c.requires.passed c.args.entry.key _ _ (sym c.in-Some.ensures) (ap (λ (e : HotEntry). e.key) c.renewed.ensures)

pub returns-in-Some : goal.returns-in-Some
returns-in-Some c =
    promoted-there c.args.self c.args.hot.now c.requires.passed _ c.args.entry.key c.args.entry.demand c.args.entry.primary c.args.entry.since _ _ _ _ (sym c.in-Some.ensures) c.renewed.ensures c.counted.ensures c.put.ensures

pub put-requires-then-n-self-clause-entries_ready : goal.put-requires-then-n-self-clause-entries_ready
put-requires-then-n-self-clause-entries_ready c = ready-now _ _ c.requires.passed

pub put-requires-then-n-self-clause-hot_in_bounds : goal.put-requires-then-n-self-clause-hot_in_bounds
put-requires-then-n-self-clause-hot_in_bounds c =
    more_room c.args.self c.args.hot.now c.requires.passed c.args.entry.key _ (sym c.in_default.ensures) refl c.if-n-self.true

pub returns-then-n-self : goal.returns-then-n-self
returns-then-n-self c =
    promoted-new c.args.self c.args.hot.now c.requires.passed _ c.args.entry.key c.args.entry.demand c.args.entry.primary c.args.entry.since _ _ _ (sym c.in_default.ensures) (new-is c.args.entry c.requires.warm) c.if-n-self.true c.counted-then-n-self.ensures c.put-then-n-self.ensures

pub evict-requires-clause-full : goal.evict-requires-clause-full
evict-requires-clause-full c = let p = passed-set c.args.self c.args.hot.now c.requires.passed in omega arith

pub returns : goal.returns
returns c =
    promoted-full c.args.self c.args.hot.now c.requires.passed _ c.args.entry.key c.args.entry.demand c.args.entry.primary c.args.entry.since _ _ _ (sym c.in_default.ensures) (new-is c.args.entry c.requires.warm) c.if-n-self.false c.evict.ensures
