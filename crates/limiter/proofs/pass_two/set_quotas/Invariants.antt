-- The keys before `i` have the quotas of their rates.
use Rattle.std.proofs.Common.{map}
use Rattle.hot.specs.HotSet.Set.{entries}
use Rattle.limiter.specs.State.{key_words}
use Rattle.limiter.specs.Steps.KeySteps.{units}
use Rattle.limiter.specs.Steps.PassTwoSteps.{requoted}
use Rattle.limiter.specs.Steps.TickSteps.{key_records}
use Rattle.limiter.proofs.Walking.RowLaws.{Mapping}
use Rattle.limiter.proofs.pass_two.set_quotas.Given as goal

abbrev pub invariant-loop-i : goal.invariant-loop-i
invariant-loop-i l =
    Mapping 22 l.n (map (key_words units) (requoted units l.terms (entries l.h l.hot) l.totals l.reading l.elsewhere (key_records units l.n l.initial.keys))) l.initial.keys l.keys l.i
