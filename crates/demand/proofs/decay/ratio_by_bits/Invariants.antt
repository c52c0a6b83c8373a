-- y and rest are the quotient and the rest of r * 2 ^ i by c after i turns.
use Rattle.std.proofs.Common.{◌≡◌, ◌^◌, ◌<◌}
use Rattle.demand.proofs.Weight.Division.{Divided}
use Rattle.demand.proofs.decay.ratio_by_bits.Given as goal

abbrev pub invariant-loop : goal.invariant-loop
invariant-loop l = (l.rest < l.c) × (l.y < 2 ^ l.counter) × Divided l.r (2 ^ l.counter) l.c l.y l.rest
