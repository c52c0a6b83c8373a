-- What each public function answers: 01's questions of it in their order, and then its value. Definitions only.
use Rattle.std.specs.Prelude.{ℕ, ◌^◌, ◌≡◌, Bool, ◌&&◌, List, [], ◌∷◌, leb, ltb, Float}
use Rattle.gcra.specs.declared.Quota.{Quota}
use Rattle.gcra.specs.declared.Gcra.{Gcra}
use Rattle.gcra.specs.declared.Checked.{Checked}
use Rattle.gcra.specs.declared.QuotaSet.{QuotaSet}
use Rattle.questions.specs.Questions.{Question, ◌asks◌, Answer, answer, changed}
use Rattle.gcra.specs.Packed.{unit_nanos, round_up, with_interval, valid_burst, valid_quota, pack, unpacks, unpack, ceiling}
use Rattle.gcra.specs.Rate.{per_second, rate_per_sec, set_quota}
use Rattle.gcra.specs.Meter.{decision, check, has_debt, retry_after}
use Rattle.std.specs.declared.option.Option.{Option}
use Rattle.std.specs.declared.option.Option.TheVariants.{None}
use Rattle.questions.specs.Refusals.{answer_of}

-- question 2: could this quota stand in a valid image?
abbrev pub ask_quota : Quota → List Question
ask_quota q = (2 asks valid_quota unit_nanos q) ∷ []

-- questions 3 and 4: is the rate above 0, and the burst 1 to 4,194,303?
unfoldable pub quota_new : (rate burst : ℕ) → Answer Quota
quota_new rate burst =
    answer ((3 asks ltb 0 rate) ∷ (4 asks valid_burst burst) ∷ []) (with_interval unit_nanos (round_up 1000000000 rate) burst)

-- `per_second` skips 3
unfoldable pub quota_per_second : Float → ℕ → Answer Quota
quota_per_second rate burst = answer ((4 asks valid_burst burst) ∷ []) (per_second unit_nanos rate burst)

unfoldable pub quota_rate : Quota → Answer Float
quota_rate q = answer (ask_quota q) (rate_per_sec q)

unfoldable pub quota_burst : Quota → Answer ℕ
quota_burst q = answer (ask_quota q) q.burst

unfoldable pub quota_pack : Quota → Answer ℕ
quota_pack q = answer (ask_quota q) (pack unit_nanos q)

-- question 14: has the word a unit code of 0 to 2 and a burst above 0?
unfoldable pub quota_unpack : ℕ → Answer Quota
quota_unpack w = answer ((14 asks unpacks w) ∷ []) (unpack unit_nanos w)

-- questions 2 and 15: is the quoted window at most 2^62 ns?
unfoldable pub quota_ceiling : Quota → ℕ → Answer ℕ
quota_ceiling q window =
    answer ((2 asks valid_quota unit_nanos q) ∷ (15 asks leb window (2 ^ 62)) ∷ []) (ceiling q window)

unfoldable pub gcra_new : Quota → Answer Gcra
gcra_new q = answer (ask_quota q) (record { quota = q; tat = None })

unfoldable pub gcra_quota : Gcra → Answer Quota
gcra_quota g = answer (ask_quota g.quota) g.quota

unfoldable pub gcra_has_debt : Gcra → ℕ → Answer Bool
gcra_has_debt g now = answer (ask_quota g.quota) (has_debt g now)

unfoldable pub gcra_retry_after : Gcra → ℕ → Answer (Option ℕ)
gcra_retry_after g now = answer (ask_quota g.quota) (retry_after g now)

-- a check's answer, and the Gcra afterwards: as it was after a 'no'
pub record GcraChecks (g : Gcra) (now : ℕ) (r : Checked) : Type 0 where
  pub decided : answer_of r.answer ≡ answer (ask_quota g.quota) (decision g now)
  pub left : r.gcra ≡ changed (ask_quota g.quota) g (check g now)

-- question 2 of the Gcra and of the new quota
abbrev pub ask_quotas : Gcra → Quota → List Question
ask_quotas g q = (2 asks (valid_quota unit_nanos g.quota && valid_quota unit_nanos q)) ∷ []

-- a change of quota: whether it was made, and the Gcra afterwards: as it was after a 'no'
pub record GcraSets (g : Gcra) (q : Quota) (now : ℕ) (r : QuotaSet) : Type 0 where
  pub set : answer_of r.answer ≡ answer (ask_quotas g q) tt
  pub left : r.gcra ≡ changed (ask_quotas g q) g (set_quota g q now)
