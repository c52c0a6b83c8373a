-- `enforce_cap` meets its contract.
use Rattle.limiter.proofs.Walking.CapLaws.{cap-none, cap-done}
use Rattle.limiter.proofs.ticks.enforce_cap.Goals as goal
use Rattle.limiter.specs.Steps.KeySteps.{units}

pub returns-then-n-most : goal.returns-then-n-most
returns-then-n-most c = let s = c in cap-none units s.args.n s.args.keys.now s.requires.0 s.args.time_constant s.args.most _ c.if-n-most.true

pub returns : goal.returns
returns c =
    cap-done units c.args.n c.args.keys.now c.requires.0 c.args.time_constant c.args.most _ _ c.cut-limit.result c.count_below.result _ c.keep_flagged.result _
    c.rank_keys.ensures c.cut-limit.ensures c.count_below.ensures c.mark_staying.ensures c.keep_flagged.ensures
