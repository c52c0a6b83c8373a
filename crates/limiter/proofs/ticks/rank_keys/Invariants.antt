-- The ranks before `i` are worked out.
use Rattle.std.proofs.Common.{ℕ, List, drop, map}
use Rattle.records.specs.Records.{records}
use Rattle.hot.specs.HotSet.Set.{entries}
use Rattle.limiter.specs.State.{key_of}
use Rattle.limiter.specs.Steps.KeySteps.{units}
use Rattle.limiter.specs.Steps.TickSteps.{key_rank}
use Rattle.limiter.proofs.Walking.CutLaws.{Filling}
use Rattle.limiter.proofs.ticks.rank_keys.Given as goal

abbrev pub invariant-loop-i : goal.invariant-loop-i
invariant-loop-i l =
    let rank : List ℕ → ℕ = λ x. key_rank l.time_constant (entries l.h l.hot) (key_of units x) in
    Filling l.n l.initial.ranks l.ranks l.i (map rank (drop l.i (records 22 l.n l.keys))) (map rank (records 22 l.n l.keys))
