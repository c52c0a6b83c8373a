-- The power of the turns so far.
use Rattle.std.proofs.Common.{◌≡◌, ◌≤◌}
use Rattle.demand.specs.Decay.Weight.{S, power}
use Rattle.demand.proofs.decay.power.Given as goal

abbrev pub invariant-loop : goal.invariant-loop
invariant-loop l = (l.p ≤ S) × (l.p ≡ power l.counter)
