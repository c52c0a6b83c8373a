-- What the private functions of the shadow table cite. Definitions only.
use Rattle.std.specs.Prelude.{ℕ, ◌*◌, ◌≤◌, ◌≡◌, true, List, [], ◌∷◌, map, length}
use Rattle.records.specs.Records.{records, table, ascending, find_in}
use Rattle.gcra.specs.declared.Quota.{Quota}
use Rattle.gcra.specs.declared.Gcra.{Gcra}
use Rattle.gcra.specs.Packed.{valid_quota}
use Rattle.gcra.specs.Meter.{decision, check}
use Rattle.gcra.specs.declared.Units.{Units}
use Rattle.questions.specs.Questions.{Question, answer, changed, passes}
use Rattle.questions.specs.Lists.{all, replaced}
use Rattle.records.specs.Typed.{exact}
use Rattle.limiter.specs.declared.traces.ShadowEntry.{ShadowEntry}
use Rattle.limiter.specs.declared.traces.Tried.{Tried}
use Rattle.limiter.specs.declared.Limit.{Limit}
use Rattle.limiter.specs.declared.Limiter.{Limiter}
use Rattle.limiter.specs.Answered.{TracedCheck}
use Rattle.limiter.specs.State.{KeyRecord, ShadowRecord, key_words, put_key, shadow_with, shadow_words, shadow_of, valid_shadow, units_in}
use Rattle.limiter.specs.Checks.{entry, checked_key, key_questions, shadow_quota, shadow_meter, decision_by, shadows_with}
use Rattle.limiter.specs.Steps.CheckSteps.{keys_in, keys_only, counting, found_as}
use Rattle.std.specs.declared.option.Option.{Option}
use Rattle.std.specs.declared.option.Option.TheVariants.{None, Some}
use Rattle.questions.specs.Refusals.{answer_of}
use Rattle.std.specs.declared.result.Result.{Result}

-- the shadows in use
abbrev pub shadows_in : Units → ℕ → List ℕ → List ShadowRecord
shadows_in u n xs = map (shadow_of u) (records 4 n xs)

-- what questions 1 and 2 say of the shadow table
pub record ShadowsReady (u : Units) (n : ℕ) (xs : List ℕ) : Type 0 where
  pub fit : n * 4 ≤ length xs
  pub exactly : exact (shadow_words u) (shadow_of u) (records 4 n xs) ≡ true
  pub good : all (valid_shadow u) (shadows_in u n xs) ≡ true
  pub order : ascending 1 (records 4 n xs) ≡ true

abbrev pub ShadowPlaced : ℕ → List ℕ → (key : ℕ) → Result ℕ ℕ → Type 0
ShadowPlaced n xs key place = found_as place ≡ find_in 4 1 n key 0 xs

-- the shadow of a call and its place
pub record EntersShadow (u : Units) (n : ℕ) (xs : List ℕ) (key : ℕ) (wanted : Quota) (now : ℕ) (e : ShadowEntry) : Type 0 where
  pub meter : e.gcra ≡ shadow_meter wanted now (shadow_with key (shadows_in u n xs))
  pub place : ShadowPlaced n xs key e.place

-- the shadows with one of the key, and without
abbrev pub with_shadow : Units → ℕ → List ℕ → (key : ℕ) → Gcra → List ShadowRecord
with_shadow u n xs key g = replaced (λ (s : ShadowRecord). s.key) key (record { key = key; gcra = g } ∷ []) (shadows_in u n xs)

abbrev pub without_shadow : Units → ℕ → List ℕ → (key : ℕ) → List ShadowRecord
without_shadow u n xs key = replaced (λ (s : ShadowRecord). s.key) key [] (shadows_in u n xs)

-- the words hold these shadows, and their number
pub record HoldsShadows (u : Units) (ss : List ShadowRecord) (xs : List ℕ) (m : ℕ) (ys : List ℕ) : Type 0 where
  pub count : m ≡ length ss
  pub words : ys ≡ table (map (shadow_words u) ss) xs

-- the shadow's meter under the quota wanted, what it would decide, and the shadow after it
abbrev pub tried_meter : Units → ℕ → List ℕ → (key : ℕ) → Quota → (now : ℕ) → Gcra
tried_meter u n xs key wanted now = shadow_meter wanted now (shadow_with key (shadows_in u n xs))

pub record Tries (u : Units) (n : ℕ) (xs : List ℕ) (key : ℕ) (wanted : Quota) (now : ℕ) (r : Tried) : Type 0 where
  pub would : r.decision ≡ decision (tried_meter u n xs key wanted now) now
  pub left : r.after.gcra ≡ check (tried_meter u n xs key wanted now) now
  pub place : ShadowPlaced n xs key r.after.place
  pub quota : valid_quota u r.after.gcra.quota ≡ true

-- the limiter with so many shadows
abbrev pub counting_shadows : Limiter → ℕ → Limiter
counting_shadows l n = record { config = l.config; cap = l.cap; last_tick = l.last_tick; keys = l.keys; hot = l.hot; shadows = n }

-- a key k and the meter m of its shadow, if it has one: the key's record after the call, the questions 8 and 9 of it, and the shadows after the call
module _ (l : Limiter) (xs zs : List ℕ) (key now : ℕ) (k : KeyRecord) (m : Option Gcra) where
  abbrev pub traced_asks : List Question
  traced_asks = key_questions (keys_only l xs) (checked_key now (decision_by now m) k)

  abbrev pub traced_keys : List KeyRecord
  traced_keys = put_key (checked_key now (decision_by now m) k) (keys_in l xs)

  abbrev pub traced_shadows : List ShadowRecord
  traced_shadows = shadows_with key now m (shadows_in (units_in l) l.shadows zs)

  -- `check_in_traced` past question 7
  pub record TracesAs (r : TracedCheck) (xs' zs' : List ℕ) : Type 0 where
    pub says : answer_of r.answer ≡ answer traced_asks (record { decision = decision k.gcra now; shadow = decision_by now m })
    pub limiter : r.limiter ≡ changed traced_asks l (counting_shadows (counting l (length traced_keys)) (length traced_shadows))
    pub keys : xs' ≡ changed traced_asks xs (table (map (key_words (units_in l)) traced_keys) xs)
    pub shadows : zs' ≡ changed traced_asks zs (table (map (shadow_words (units_in l)) traced_shadows) zs)

-- the meter of the shadow of a key k
abbrev pub meter_for : Limiter → (shadows : List ℕ) → (key : ℕ) → (limit : Limit) → Option Limit → (now : ℕ) → KeyRecord → Option Gcra
meter_for l zs key limit None now k = None
meter_for l zs key limit (Some shadow) now k = Some (tried_meter (units_in l) l.shadows zs key (shadow_quota (units_in l) k.gcra.quota limit shadow) now)

abbrev pub Traces : Limiter → (keys shadows : List ℕ) → (key : ℕ) → (limit : Limit) → Option Limit → (now n : ℕ) → TracedCheck
    → (keys shadows : List ℕ) → Type 0
Traces l xs zs key limit shadow now n =
    let k = entry (units_in l) (keys_only l xs) key limit now n in
    TracesAs l xs zs key now k (meter_for l zs key limit shadow now k)

-- where the questions pass, there is room for the shadows
abbrev pub Roomy : Limiter → (keys shadows : List ℕ) → (key : ℕ) → (limit shadow : Limit) → (now n : ℕ) → Type 0
Roomy l xs zs key limit shadow now n =
    let k = entry (units_in l) (keys_only l xs) key limit now n in
    let m = meter_for l zs key limit (Some shadow) now k in
    passes (traced_asks l xs zs key now k m) ≡ true → length (traced_shadows l xs zs key now k m) * 4 ≤ length zs
