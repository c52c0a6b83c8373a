-- What a check, a traced check, a record, a list of checks and `set_cap` do to a limiter's state (000: `entry`, `check_in`, `check_in_traced`, `record`,
-- `set_cap`), and their questions. Definitions only.
use Rattle.std.specs.Prelude.{ℕ, ◌+◌, Bool, false, cond, ◌&&◌, ◌||◌, List, [], ◌∷◌, ◌++◌, ltb, Float, length, get_or}
use Rattle.std.specs.Float.{inf, binary64}
use Rattle.std.specs.Float.Ieee.{mul, div, is_nan}
use Rattle.float.specs.Order.{minimum_number}
use Rattle.gcra.specs.declared.Units.{Units}
use Rattle.gcra.specs.declared.Quota.{Quota}
use Rattle.gcra.specs.declared.Gcra.{Gcra}
use Rattle.gcra.specs.declared.Decision.{Decision}
use Rattle.questions.specs.Questions.{Question, ◌asks◌, Answer, answer, changed}
use Rattle.gcra.specs.Packed.{valid_burst}
use Rattle.gcra.specs.Rate.{per_second, rate_per_sec, set_quota}
use Rattle.gcra.specs.Meter.{is_allow, decision, check}
use Rattle.demand.specs.Estimators.Estimator.{whole}
use Rattle.demand.specs.Allocation.{is_rate, is_cluster_size}
use Rattle.questions.specs.Lists.{replaced}
use Rattle.records.specs.Typed.{is_word}
use Rattle.limiter.specs.declared.Limit.{Limit}
use Rattle.limiter.specs.declared.Tally.{Tally}
use Rattle.limiter.specs.State.{Settings, Estimate, KeyRecord, ShadowRecord, LimiterState, key_with, shadow_with, put_key, is_tracked}
use Rattle.std.specs.declared.option.Option.{Option}
use Rattle.std.specs.declared.option.Option.TheVariants.{None, Some}

-- a state with other keys and shadows
abbrev pub holding : LimiterState → List KeyRecord → List ShadowRecord → LimiterState
holding s ks ss = record { settings = s.settings; keys = ks; hot = s.hot; shadows = ss }

-- ---- the quota of a new key

-- where there is no cap, infinity
abbrev pub cap_or_none : Option Float → Float
cap_or_none None = inf false
cap_or_none (Some x) = x

-- 000, `new_key_factor`: 'alpha ÷ n, or the cap if less'
unfoldable pub new_key_factor : Settings → (n : ℕ) → Float
new_key_factor s n = minimum_number (div binary64 s.config.alpha (whole n)) (cap_or_none s.cap)

-- 000, `cold_quota`: 'its quota is the cold one, rate × (alpha ÷ n, or the cap if less)'
unfoldable pub cold_quota : Units → Settings → Limit → (n : ℕ) → Quota
cold_quota u s limit n = per_second u (mul binary64 limit.rate (new_key_factor s n)) limit.burst

-- ---- 000, `entry`: 'finds or makes the key'

-- 'A new key's estimators start at the last tick, or at the reading if there was none'
abbrev pub start_of : Option ℕ → (now : ℕ) → ℕ
start_of None now = now
start_of (Some t) now = t

abbrev pub starting_at : ℕ → Estimate
starting_at t = record { rate = whole 0; attempts = 0; last = t; since = t }

abbrev pub new_key : Units → Settings → (key : ℕ) → Limit → (now n : ℕ) → KeyRecord
new_key u s key limit now n =
    record {
      key = key;
      limit = limit;
      demand = starting_at (start_of s.last_tick now);
      requests = starting_at (start_of s.last_tick now);
      denials = starting_at (start_of s.last_tick now);
      shadow_denials = starting_at (start_of s.last_tick now);
      gcra = record { quota = cold_quota u s limit n; tat = None };
    }

-- a tracked key takes the limit of the call and keeps all else
abbrev pub limited : Limit → KeyRecord → KeyRecord
limited limit k =
    record {
      key = k.key;
      limit = limit;
      demand = k.demand;
      requests = k.requests;
      denials = k.denials;
      shadow_denials = k.shadow_denials;
      gcra = k.gcra;
    }

abbrev pub found_or : KeyRecord → Limit → Option KeyRecord → KeyRecord
found_or new limit None = new
found_or new limit (Some k) = limited limit k

unfoldable pub entry : Units → LimiterState → (key : ℕ) → Limit → (now n : ℕ) → KeyRecord
entry u s key limit now n = found_or (new_key u s.settings key limit now n) limit (key_with key s.keys)

-- ---- counts

-- 004, `record_attempts`
abbrev pub counted : ℕ → Estimate → Estimate
counted n e = record { rate = e.rate; attempts = e.attempts + n; last = e.last; since = e.since }

-- a key with its counters raised, and its meter
abbrev pub raised : (attempts denials shadow_denials : ℕ) → Gcra → KeyRecord → KeyRecord
raised attempts denials shadow_denials g k =
    record {
      key = k.key;
      limit = k.limit;
      demand = counted attempts k.demand;
      requests = counted attempts k.requests;
      denials = counted denials k.denials;
      shadow_denials = counted shadow_denials k.shadow_denials;
      gcra = g;
    }

-- 1 for a decision that does not allow
abbrev pub denied : Decision → ℕ
denied d = cond (is_allow d) 0 1

abbrev pub denied_by : Option Decision → ℕ
denied_by None = 0
denied_by (Some d) = denied d

-- ---- 000, `check_in`: 'finds or makes the key, counts the attempt and asks the meter'

-- a key after a check; `shadow` is what the shadow decided, if there is one
abbrev pub checked_key : (now : ℕ) → Option Decision → KeyRecord → KeyRecord
checked_key now shadow k = raised 1 (denied (decision k.gcra now)) (denied_by shadow) (check k.gcra now) k

-- the meter's answer
abbrev pub key_decision : Units → LimiterState → (key : ℕ) → Limit → (now n : ℕ) → Decision
key_decision u s key limit now n = decision (entry u s key limit now n).gcra now

unfoldable pub check_in : Units → LimiterState → (key : ℕ) → Limit → (now n : ℕ) → LimiterState
check_in u s key limit now n = holding s (put_key (checked_key now None (entry u s key limit now n)) s.keys) s.shadows

-- ---- 000, `check_in_traced`

-- the rate of the key's quota × the shadow's rate ÷ the limit's, in this order, and the shadow's burst
unfoldable pub shadow_quota : Units → Quota → (limit shadow : Limit) → Quota
shadow_quota u q limit shadow =
    per_second u (div binary64 (mul binary64 (rate_per_sec q) shadow.rate) limit.rate) shadow.burst

-- the shadow's meter under the quota wanted, one without a TAT where the key had no shadow
abbrev pub shadow_meter : Quota → (now : ℕ) → Option ShadowRecord → Gcra
shadow_meter wanted now None = record { quota = wanted; tat = None }
shadow_meter wanted now (Some s) = set_quota s.gcra wanted now

-- the shadow's meter before it is asked, if the call has a shadow limit
unfoldable pub traced_meter : Units → LimiterState → (key : ℕ) → Limit → Option Limit → (now n : ℕ) → Option Gcra
traced_meter u s key limit None now n = None
traced_meter u s key limit (Some shadow) now n =
    Some (shadow_meter (shadow_quota u (entry u s key limit now n).gcra.quota limit shadow) now (shadow_with key s.shadows))

abbrev pub decision_by : (now : ℕ) → Option Gcra → Option Decision
decision_by now None = None
decision_by now (Some g) = Some (decision g now)

-- what the shadow would have decided
abbrev pub shadow_decision : Units → LimiterState → (key : ℕ) → Limit → Option Limit → (now n : ℕ) → Option Decision
shadow_decision u s key limit shadow now n = decision_by now (traced_meter u s key limit shadow now n)

-- the shadow's meter after it was asked; a call without a shadow limit drops it
abbrev pub shadows_with : (key now : ℕ) → Option Gcra → List ShadowRecord → List ShadowRecord
shadows_with key now None ss = replaced (λ (s : ShadowRecord). s.key) key [] ss
shadows_with key now (Some g) ss = replaced (λ (s : ShadowRecord). s.key) key (record { key = key; gcra = check g now } ∷ []) ss

unfoldable pub check_traced : Units → LimiterState → (key : ℕ) → Limit → Option Limit → (now n : ℕ) → LimiterState
check_traced u s key limit shadow now n =
    holding s
    (put_key (checked_key now (shadow_decision u s key limit shadow now n) (entry u s key limit now n)) s.keys)
    (shadows_with key now (traced_meter u s key limit shadow now n) s.shadows)

-- ---- 000, `record`
abbrev pub tallied_key : Tally → KeyRecord → KeyRecord
tallied_key y k = raised y.attempts y.denials y.shadow_denials k.gcra k

unfoldable pub record_tally : Units → LimiterState → (key : ℕ) → Tally → Limit → (now n : ℕ) → LimiterState
record_tally u s key y limit now n = holding s (put_key (tallied_key y (entry u s key limit now n)) s.keys) s.shadows

-- ---- 000, `set_cap`: 'The cap may be any f64; NaN is stored as none'
abbrev pub stored_cap : Option Float → Option Float
stored_cap None = None
stored_cap (Some x) = cond (is_nan x) None (Some x)

abbrev pub set_cap : Option Float → LimiterState → LimiterState
set_cap x s =
    record {
      settings = record { config = s.settings.config; cap = stored_cap x; last_tick = s.settings.last_tick };
      keys = s.keys;
      hot = s.hot;
      shadows = s.shadows;
    }

-- ---- questions past 2

-- is the rate finite and above 0? is the burst 1 to 4,194,303?
abbrev pub limit_questions : Limit → List Question
limit_questions x = (3 asks is_rate x.rate) ∷ (4 asks valid_burst x.burst) ∷ []

-- 'A shadow limit passes 3 and 4 before the main check acts': 3 of both, then 4 of both
abbrev pub both_limit_questions : Limit → Option Limit → List Question
both_limit_questions x None = limit_questions x
both_limit_questions x (Some y) = (3 asks (is_rate x.rate && is_rate y.rate)) ∷ (4 asks (valid_burst x.burst && valid_burst y.burst)) ∷ []

-- is the cluster size 1 to 65,535?
abbrev pub cluster_questions : ℕ → List Question
cluster_questions n = (7 asks is_cluster_size n) ∷ []

-- 'Is the key tracked, or does the table hold fewer keys than its size?'
unfoldable pub has_place : LimiterState → ℕ → Bool
has_place s key = is_tracked s.keys key || ltb (length s.keys) s.settings.config.table_size

-- 'Do all counters that the call raises stay within u64?', of the key's record after the call (those that it does not raise do, since the state passed 2)
unfoldable pub counters_fit : KeyRecord → Bool
counters_fit k =
    (is_word k.demand.attempts && is_word k.requests.attempts)
    && (is_word k.denials.attempts && is_word k.shadow_denials.attempts)

abbrev pub key_questions : LimiterState → KeyRecord → List Question
key_questions s after = (8 asks has_place s after.key) ∷ (9 asks counters_fit after) ∷ []

-- of each call
abbrev pub check_in_questions : Units → LimiterState → (key : ℕ) → Limit → (now n : ℕ) → List Question
check_in_questions u s key limit now n =
    limit_questions limit ++ (cluster_questions n ++ key_questions s (checked_key now None (entry u s key limit now n)))

abbrev pub traced_questions : Units → LimiterState → (key : ℕ) → Limit → Option Limit → (now n : ℕ) → List Question
traced_questions u s key limit shadow now n =
    both_limit_questions limit shadow
    ++ (cluster_questions n ++ key_questions s (checked_key now (shadow_decision u s key limit shadow now n) (entry u s key limit now n)))

abbrev pub record_questions : Units → LimiterState → (key : ℕ) → Tally → Limit → (now n : ℕ) → List Question
record_questions u s key y limit now n =
    limit_questions limit ++ (cluster_questions n ++ key_questions s (tallied_key y (entry u s key limit now n)))

-- ---- 000, `check`: at the settings' limit, which passes 3 and 4

abbrev pub own_limit : LimiterState → Limit
own_limit s = s.settings.config.limit

abbrev pub check_key_questions : Units → LimiterState → (key now n : ℕ) → List Question
check_key_questions u s key now n = key_questions s (checked_key now None (entry u s key (own_limit s) now n))

abbrev pub check_questions : Units → LimiterState → (key now n : ℕ) → List Question
check_questions u s key now n = cluster_questions n ++ check_key_questions u s key now n

-- ---- many checks: each as the single `check` after those before it, questions 8 and 9 included

pub record Answers : Type 0 where
  pub answers : List (Answer Decision)
  pub left : LimiterState

abbrev pub check_one : Units → (n : ℕ) → LimiterState → (key now : ℕ) → Answer Decision
check_one u n s key now = answer (check_key_questions u s key now n) (key_decision u s key (own_limit s) now n)

abbrev pub after_one : Units → (n : ℕ) → LimiterState → (key now : ℕ) → LimiterState
after_one u n s key now = changed (check_key_questions u s key now n) s (check_in u s key (own_limit s) now n)

-- of each pair of a key and a reading
unfoldable pub check_each : Units → (n : ℕ) → List (List ℕ) → LimiterState → Answers
check_each u n [] s = record { answers = []; left = s }
check_each u n (r ∷ rs) s =
    let rest = check_each u n rs (after_one u n s (get_or r 0 0) (get_or r 1 0)) in
    record { answers = check_one u n s (get_or r 0 0) (get_or r 1 0) ∷ rest.answers; left = rest.left }
