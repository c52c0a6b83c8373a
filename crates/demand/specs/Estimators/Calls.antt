-- The promise of each call on an estimator: 01's questions in their order, and then its value.
use Rattle.std.specs.Prelude.{ℕ, ◌+◌, ◌^◌, Bool, List, [], ◌∷◌, ltb, Float}
use Rattle.demand.specs.declared.demand.Demand.{Demand}
use Rattle.questions.specs.Questions.{Question, ◌asks◌, Answer, answer}
use Rattle.demand.specs.Estimators.Estimator as estimator

-- could this estimator stand in a valid image? It may lack its times.
abbrev pub ask : Demand → List Question
ask d = (2 asks estimator.valid d) ∷ []

-- does the counter that the call raises stay within u64?
abbrev pub record_attempts : Demand → ℕ → Answer Demand
record_attempts d n =
    answer ((2 asks estimator.valid d) ∷ (9 asks ltb (d.attempts_since_tick + n) (2 ^ 64)) ∷ []) (estimator.recorded d n)

abbrev pub tick : Demand → ℕ → Answer Demand
tick d now = answer (ask d) (estimator.ticked d now)

abbrev pub has_pending : Demand → Answer Bool
has_pending d = answer (ask d) (ltb 0 d.attempts_since_tick)

abbrev pub rate : Demand → Answer Float
rate d = answer (ask d) d.current_rate

abbrev pub unbiased_rate : Demand → Answer Float
unbiased_rate d = answer (ask d) (estimator.unbiased d)
