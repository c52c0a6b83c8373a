-- The keys before `i` are folded, and the alphas are those of the two time constants.
use Rattle.std.proofs.Common.{◌≡◌, map}
use Rattle.records.specs.Records.{records}
use Rattle.limiter.specs.Steps.KeySteps.{units}
use Rattle.limiter.specs.Steps.TickSteps.{folded_row}
use Rattle.limiter.proofs.Walking.RowLaws.{Mapping}
use Rattle.limiter.proofs.ticks.fold_keys.Given as goal

abbrev pub invariant-loop-i : goal.invariant-loop-i
invariant-loop-i l = record {
  folded : Mapping 22 l.n (map (folded_row units l.time_constant l.denial_time_constant l.reading) (records 22 l.n l.initial.keys)) l.initial.keys l.keys l.i;
  demand : l.known.demand.time_constant ≡ l.time_constant;
  denials : l.known.denials.time_constant ≡ l.denial_time_constant;
}
