use Rattle.std.proofs.Common.{arith, refl}
use Rattle.hot.proofs.HotSet.Answers.{passed-set}
use Rattle.hot.proofs.HotSet.Acts.{ready-now, evict-ready, evict-room, evicted, not-evicted}
use Rattle.hot.proofs.hot_set.HotSet.evict.Goals as goal

pub weakest-least-requires-clause-entries_ready : goal.weakest-least-requires-clause-entries_ready
weakest-least-requires-clause-entries_ready c = ready-now _ _ c.requires.passed

pub weakest-least-requires-clause-n_nonzero : goal.weakest-least-requires-clause-n_nonzero
weakest-least-requires-clause-n_nonzero c = let p = passed-set c.args.self c.args.hot.now c.requires.passed in omega arith

pub remove-requires : goal.remove-requires
remove-requires c = ready-now _ _ c.requires.passed

pub overflow_sub-n : goal.overflow_sub-n
overflow_sub-n c = let p = passed-set c.args.self c.args.hot.now c.requires.passed in omega arith

pub put-requires-clause-entries_ready : goal.put-requires-clause-entries_ready
put-requires-clause-entries_ready c =
    evict-ready c.args.self c.args.hot.now c.requires.passed c.args.entry c.weakest-least.result c.requires.full c.requires.absent c.weakest-least.ensures _ c.remove.ensures

pub put-requires-clause-hot_in_bounds : goal.put-requires-clause-hot_in_bounds
put-requires-clause-hot_in_bounds c =
    evict-room c.args.self c.args.hot.now c.requires.passed c.args.entry c.weakest-least.result c.requires.full c.requires.absent c.weakest-least.ensures _ c.remove.ensures

pub returns-then-entry-least : goal.returns-then-entry-least
returns-then-entry-least c =
    evicted c.args.self c.args.hot.now c.requires.passed c.args.entry c.weakest-least.result c.requires.full c.requires.absent c.weakest-least.ensures _ c.remove.ensures _ _ _ c.if-entry-least.true c.counted.ensures c.put.ensures

pub returns : goal.returns
returns c =
    not-evicted c.args.self c.args.hot.now c.requires.passed c.args.entry c.weakest-least.result c.requires.full c.requires.absent c.weakest-least.ensures _ _ _ c.if-entry-least.false c.counted-2.ensures refl
