-- The promise of each function of the library on an estimator, a share or the rounds of reports alone. Definitions only.
use Rattle.std.specs.Prelude.{Float, ℕ, zero, suc, ◌≡◌, Bool, true, ◌&&◌, List, [], ◌∷◌, ◌++◌, leb, length, get_or}
use Rattle.questions.specs.Questions.{Question, ◌asks◌, given, answer}
use Rattle.demand.specs.declared.demand.Demand.{Demand}
use Rattle.demand.specs.declared.allocation.View.{View}
use Rattle.demand.specs.Allocation.{share}
use Rattle.demand.specs.Estimators.Estimator as estimator
use Rattle.demand.specs.Estimators.Calls as demand
use Rattle.peers.specs.Peers.Calls.{cluster_questions}
use Rattle.peers.specs.Peers.Changes.{stale_after_rounds}
use Rattle.records.specs.Fields.{is_time}
use Rattle.limiter.specs.State.{float_word, float_of}
use Rattle.nultiway.specs.Calls.{Called, Tells, one_word, float_words, flag_words}
use Rattle.nultiway.specs.LoneCalls.{TellsAlone}
use Rattle.std.specs.declared.option.Option.{Option}
use Rattle.std.specs.declared.option.Option.TheVariants.{None, Some}
use Rattle.std.specs.declared.result.Result.{Result}
use Rattle.questions.specs.declared.Refusal.{Refusal}
use Rattle.questions.specs.Refusals.{answer_of}
use Rattle.demand.specs.declared.demand.Times.{Times}

-- ---- an estimator in lent words

-- whether it has its times, the last tick and the start; all 0 where it has none
abbrev pub times_words : Option Times → List ℕ
times_words None = 0 ∷ 0 ∷ 0 ∷ []
times_words (Some t) = 1 ∷ t.last_tick ∷ t.since ∷ []

abbrev pub times_of : (flag last since : ℕ) → Option Times
times_of zero last since = None
times_of (suc flag) last since = Some (record { last_tick = last; since = since })

-- rate, attempts since the last tick, the times, time constant
abbrev pub demand_words : Demand → List ℕ
demand_words d =
    float_word d.current_rate ∷ d.attempts_since_tick ∷ (times_words d.times ++ (d.time_constant ∷ []))

-- the estimator that words stand for
abbrev pub demand_of : List ℕ → Demand
demand_of ws =
    record {
      current_rate = float_of (get_or ws 0 0);
      attempts_since_tick = get_or ws 1 0;
      times = times_of (get_or ws 2 0) (get_or ws 3 0) (get_or ws 4 0);
      time_constant = get_or ws 5 0;
    }

-- the flag and each time are the words of a time that may be missing; the rate is for the crate's own question 2
abbrev pub is_demand : List ℕ → Bool
is_demand ws = is_time (get_or ws 2 0) (get_or ws 3 0) && is_time (get_or ws 2 0) (get_or ws 4 0)

-- question 1 of the estimator's words, and of whether the buffer for the answer has its words; question 2 of the words
abbrev pub demand_asked : List ℕ → Bool → List Question
demand_asked ws room = (1 asks (leb 6 (length ws) && room)) ∷ (2 asks is_demand ws) ∷ []

-- ---- an estimator made

-- `nultiway_demand_new`: the words of the new estimator
abbrev pub DemandNew : (ws : List ℕ) (c : ℕ) (r : ℕ) (ws' : List ℕ) → Type 0
DemandNew ws c = TellsAlone {R = Demand} given (given (estimator.new c)) demand_words 6 ws

-- `nultiway_demand_starting_at`
abbrev pub DemandStartingAt : (ws : List ℕ) (c now : ℕ) (r : ℕ) (ws' : List ℕ) → Type 0
DemandStartingAt ws c now = TellsAlone {R = Demand} given (given (estimator.starting_at c now)) demand_words 6 ws

-- ---- an estimator changed: its words are those of what the crate's function answers, and as they were where that is 'no'

-- `nultiway_demand_record_attempts`
abbrev pub DemandRecordAttempts : (ws : List ℕ) (n : ℕ) (r : ℕ) (ws' : List ℕ) → Type 0
DemandRecordAttempts ws n r ws' =
    Called (demand_asked ws true) r (ws' ≡ ws)
    (Tells (λ (d : Demand) (x : Result Demand Refusal). answer_of x ≡ demand.record_attempts d n) (demand_of ws) answer_of demand_words
    ws r ws')

-- `nultiway_demand_record_attempt`: one attempt
abbrev pub DemandRecordAttempt : (ws : List ℕ) (r : ℕ) (ws' : List ℕ) → Type 0
DemandRecordAttempt ws r ws' = DemandRecordAttempts ws 1 r ws'

-- `nultiway_demand_tick`
abbrev pub DemandTick : (ws : List ℕ) (now : ℕ) (r : ℕ) (ws' : List ℕ) → Type 0
DemandTick ws now r ws' =
    Called (demand_asked ws true) r (ws' ≡ ws)
    (Tells (λ (d : Demand) (x : Result Demand Refusal). answer_of x ≡ demand.tick d now) (demand_of ws) answer_of demand_words ws r ws')

-- ---- an estimator read

-- `nultiway_demand_has_pending`
abbrev pub DemandHasPending : (ws answer : List ℕ) (r : ℕ) (answer' : List ℕ) → Type 0
DemandHasPending ws answer r answer' =
    Called (demand_asked ws (leb 1 (length answer))) r (answer' ≡ answer)
    (Tells (λ (d : Demand) (x : Result Bool Refusal). answer_of x ≡ demand.has_pending d) (demand_of ws) answer_of flag_words answer r answer')

-- `nultiway_demand_rate`
abbrev pub DemandRate : (ws answer : List ℕ) (r : ℕ) (answer' : List ℕ) → Type 0
DemandRate ws answer r answer' =
    Called (demand_asked ws (leb 1 (length answer))) r (answer' ≡ answer)
    (Tells (λ (d : Demand) (x : Result Float Refusal). answer_of x ≡ demand.rate d) (demand_of ws) answer_of float_words answer r answer')

-- `nultiway_demand_unbiased_rate`
abbrev pub DemandUnbiasedRate : (ws answer : List ℕ) (r : ℕ) (answer' : List ℕ) → Type 0
DemandUnbiasedRate ws answer r answer' =
    Called (demand_asked ws (leb 1 (length answer))) r (answer' ≡ answer)
    (Tells (λ (d : Demand) (x : Result Float Refusal). answer_of x ≡ demand.unbiased_rate d) (demand_of ws) answer_of float_words answer r answer')

-- ---- a share, and the rounds of reports

-- `nultiway_share`
abbrev pub Share : (v : View) (answer : List ℕ) (r : ℕ) (answer' : List ℕ) → Type 0
Share v = TellsAlone answer_of (share v) float_words 1

-- `nultiway_stale_after_rounds`
abbrev pub StaleAfterRounds : (n : ℕ) (answer : List ℕ) (r : ℕ) (answer' : List ℕ) → Type 0
StaleAfterRounds n = TellsAlone answer_of (answer (cluster_questions n) (stale_after_rounds n)) one_word 1
