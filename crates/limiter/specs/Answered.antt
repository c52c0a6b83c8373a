-- What a call that changes a limiter gives back, by the type of its answer. Definitions only.
use Rattle.gcra.specs.declared.Decision.{Decision}
use Rattle.limiter.specs.declared.Answered.{Answered}
use Rattle.limiter.specs.declared.Limiter.{Limiter}
use Rattle.limiter.specs.declared.Traced.{Traced}
use Rattle.questions.specs.declared.Refusal.{Refusal}
use Rattle.std.specs.declared.result.Result.TheVariants.{Err}

abbrev pub Checked : Type 0
Checked = Answered Decision

abbrev pub TracedCheck : Type 0
TracedCheck = Answered Traced

abbrev pub Changed : Type 0
Changed = Answered (Unit {0})

-- a 'no', with the limiter as it was
abbrev pub refused_with : {A : Type 0} → Refusal → Limiter → Answered A
refused_with e l = record { answer = Err e; limiter = l }
