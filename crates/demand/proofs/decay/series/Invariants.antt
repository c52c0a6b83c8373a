-- The sum of the terms 0 to 2 * j, and the last of them.
use Rattle.std.proofs.Common.{◌≤◌}
use Rattle.demand.specs.Decay.Weight.{S}
use Rattle.demand.proofs.Weight.Terms.{Upto}
use Rattle.demand.proofs.decay.series.Given as goal

abbrev pub invariant-loop-j : goal.invariant-loop-j
invariant-loop-j l = (l.term ≤ l.sum) × (l.sum ≤ S) × Upto l.y l.j l.sum l.term
