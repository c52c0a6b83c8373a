-- The flags before `i` are set.
use Rattle.std.proofs.Common.{ℕ, Bool, List, drop, map}
use Rattle.records.specs.Records.{records}
use Rattle.limiter.specs.State.{is_tracked}
use Rattle.limiter.specs.Steps.KeySteps.{units}
use Rattle.limiter.specs.Steps.TickSteps.{key_records, shadow_key}
use Rattle.limiter.proofs.Walking.CutLaws.{Filling}
use Rattle.limiter.proofs.ticks.mark_tracked.Given as goal

abbrev pub invariant-loop-i : goal.invariant-loop-i
invariant-loop-i l =
    let test : List ℕ → Bool = λ x. is_tracked (key_records units l.n l.keys) (shadow_key units x) in
    Filling l.m l.initial.stays l.stays l.i (map test (drop l.i (records 4 l.m l.shadows))) (map test (records 4 l.m l.shadows))
