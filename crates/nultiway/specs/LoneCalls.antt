-- The promise of each function of the library on a quota, a Gcra or `step` alone. Definitions only.
use Rattle.std.specs.Prelude.{ℕ, ◌^◌, ◌≡◌, Bool, true, ◌&&◌, List, [], ◌∷◌, ◌++◌, leb, ltb, Float, length, get_or}
use Rattle.gcra.specs.declared.Quota.{Quota}
use Rattle.gcra.specs.declared.Gcra.{Gcra}
use Rattle.gcra.specs.declared.Stepped.{Stepped}
use Rattle.gcra.specs.declared.Checked.{Checked}
use Rattle.gcra.specs.declared.QuotaSet.{QuotaSet}
use Rattle.questions.specs.Questions.{Question, ◌asks◌, Answer, given}
use Rattle.gcra.specs.Packed.{unit_nanos}
use Rattle.gcra.specs.Meter.{step}
use Rattle.gcra.specs.Calls as gcra
use Rattle.records.specs.Fields.{time_words, time_of, is_time}
use Rattle.nultiway.specs.Values.{room_asked}
use Rattle.nultiway.specs.Calls.{Called, Changes, Answers, Tells, decision_words, one_word, float_words, flag_words, quota_words}
use Rattle.std.specs.declared.option.Option.{Option}
use Rattle.std.specs.declared.result.Result.{Result}
use Rattle.questions.specs.declared.Refusal.{Refusal}
use Rattle.questions.specs.Refusals.{answer_of}

-- ---- the words of answers

-- the decision, and the TAT that is left
abbrev pub stepped_words : Stepped → List ℕ
stepped_words s = decision_words s.decision ++ (s.tat ∷ [])

-- ---- a Gcra in lent words

-- interval, burst, and the TAT: 'A time that may be missing has a flag word first and is 0 if missing'
abbrev pub gcra_words : Gcra → List ℕ
gcra_words g = g.quota.interval ∷ g.quota.burst ∷ time_words g.tat

-- the Gcra that words stand for
abbrev pub gcra_of : List ℕ → Gcra
gcra_of ws =
    record {
      quota = record { interval = get_or ws 0 0; burst = get_or ws 1 0 };
      tat = (time_of (get_or ws 2 0) (get_or ws 3 0));
    }

-- 'values fit their Rust widths', and the last two words are such a time
abbrev pub is_gcra : List ℕ → Bool
is_gcra ws = ltb (get_or ws 1 0) (2 ^ 32) && is_time (get_or ws 2 0) (get_or ws 3 0)

-- question 1 of the Gcra's words, and of whether the buffer for the answer has its words; question 2 of the words
abbrev pub gcra_asked : List ℕ → Bool → List Question
gcra_asked ws room = (1 asks (leb 4 (length ws) && room)) ∷ (2 asks is_gcra ws) ∷ []

-- ---- a quota

-- a function that takes no lent value: what the crate's function answers, in a buffer of `size` words
abbrev pub TellsAlone : {R A : Type 0} → (R → Answer A) → Answer A → (A → List ℕ) → ℕ → List ℕ → ℕ → List ℕ → Type 0
TellsAlone {R} {A} said right words size answer r answer' =
    Called (room_asked (leb size (length answer))) r (answer' ≡ answer)
    (Tells (λ (a : Answer A) (x : R). said x ≡ a) right said words answer r answer')

-- `nultiway_quota_new`
abbrev pub QuotaNew : (rate burst : ℕ) (answer : List ℕ) (r : ℕ) (answer' : List ℕ) → Type 0
QuotaNew rate burst = TellsAlone answer_of (gcra.quota_new rate burst) quota_words 2

-- `nultiway_quota_per_second`
abbrev pub QuotaPerSecond : (rate : Float) (burst : ℕ) (answer : List ℕ) (r : ℕ) (answer' : List ℕ) → Type 0
QuotaPerSecond rate burst = TellsAlone answer_of (gcra.quota_per_second rate burst) quota_words 2

-- `nultiway_quota_unpack`
abbrev pub QuotaUnpack : (word : ℕ) (answer : List ℕ) (r : ℕ) (answer' : List ℕ) → Type 0
QuotaUnpack word = TellsAlone answer_of (gcra.quota_unpack word) quota_words 2

-- `nultiway_quota_pack`
abbrev pub QuotaPack : (q : Quota) (answer : List ℕ) (r : ℕ) (answer' : List ℕ) → Type 0
QuotaPack q = TellsAlone answer_of (gcra.quota_pack q) one_word 1

-- `nultiway_quota_rate_per_sec`
abbrev pub QuotaRatePerSec : (q : Quota) (answer : List ℕ) (r : ℕ) (answer' : List ℕ) → Type 0
QuotaRatePerSec q = TellsAlone answer_of (gcra.quota_rate q) float_words 1

-- `nultiway_quota_ceiling`
abbrev pub QuotaCeiling : (q : Quota) (window : ℕ) (answer : List ℕ) (r : ℕ) (answer' : List ℕ) → Type 0
QuotaCeiling q window = TellsAlone answer_of (gcra.quota_ceiling q window) one_word 1

-- ---- a Gcra

-- `nultiway_gcra_new`: the words of the new Gcra
abbrev pub GcraNew : (ws : List ℕ) (q : Quota) (r : ℕ) (ws' : List ℕ) → Type 0
GcraNew ws q = TellsAlone answer_of (gcra.gcra_new q) gcra_words 4 ws

-- `nultiway_gcra_check`
abbrev pub GcraCheck : (ws : List ℕ) (now : ℕ) (answer : List ℕ) (r : ℕ) (ws' answer' : List ℕ) → Type 0
GcraCheck ws now answer r ws' answer' =
    Called (gcra_asked ws (leb 2 (length answer))) r ((ws' ≡ ws) × (answer' ≡ answer))
    (Answers (λ (g : Gcra) (x : Checked). gcra.GcraChecks g now x) (gcra_of ws) (λ (x : Checked). answer_of x.answer) decision_words
    (λ (x : Checked). gcra_words x.gcra) ws answer r ws' answer')

-- `nultiway_gcra_set_quota`
abbrev pub GcraSetQuota : (ws : List ℕ) (q : Quota) (now : ℕ) (r : ℕ) (ws' : List ℕ) → Type 0
GcraSetQuota ws q now r ws' =
    Called (gcra_asked ws true) r (ws' ≡ ws)
    (Changes (λ (g : Gcra) (x : QuotaSet). gcra.GcraSets g q now x) (gcra_of ws) (λ (x : QuotaSet). answer_of x.answer)
    (λ (x : QuotaSet). gcra_words x.gcra) ws r ws')

-- `nultiway_gcra_has_debt`
abbrev pub GcraHasDebt : (ws : List ℕ) (now : ℕ) (answer : List ℕ) (r : ℕ) (answer' : List ℕ) → Type 0
GcraHasDebt ws now answer r answer' =
    Called (gcra_asked ws (leb 1 (length answer))) r (answer' ≡ answer)
    (Tells (λ (g : Gcra) (x : Result Bool Refusal). answer_of x ≡ gcra.gcra_has_debt g now) (gcra_of ws) answer_of flag_words answer r answer')

-- `nultiway_gcra_retry_after`
abbrev pub GcraRetryAfter : (ws : List ℕ) (now : ℕ) (answer : List ℕ) (r : ℕ) (answer' : List ℕ) → Type 0
GcraRetryAfter ws now answer r answer' =
    Called (gcra_asked ws (leb 2 (length answer))) r (answer' ≡ answer)
    (Tells (λ (g : Gcra) (x : Result (Option ℕ) Refusal). answer_of x ≡ gcra.gcra_retry_after g now) (gcra_of ws) answer_of time_words answer r answer')

-- ---- a step

-- `nultiway_step`: the crate's `step` has no question
abbrev pub Step : (tat packed now : ℕ) (answer : List ℕ) (r : ℕ) (answer' : List ℕ) → Type 0
Step tat packed now = TellsAlone {R = Stepped} given (given (step unit_nanos tat packed now)) stepped_words 3
