-- What a limiter's state tells (000: `key_rates`, `quota`, `limit`, `hot_demand`, `most_denied`, ..). Definitions only.
use Rattle.std.specs.Prelude.{ℕ, Bool, List, [], ◌∷◌, map, Float, take}
use Rattle.std.specs.Float.Ieee.{le}
use Rattle.hot.specs.declared.hot_set.HotEntry.{HotEntry}
use Rattle.records.specs.Fields.{flag_word}
use Rattle.hot.specs.HotSet.Set.{get, is_hot, primary_of}
use Rattle.questions.specs.Lists.{only}
use Rattle.limiter.specs.declared.Parameters.{Parameters}
use Rattle.limiter.specs.declared.KeyRates.{KeyRates}
use Rattle.limiter.specs.State.{KeyRecord, LimiterState, float_word, key_with}
use Rattle.limiter.specs.Ticks.{unbiased_rate, sorted, ranked_before}
use Rattle.std.specs.declared.option.Option.{Option}
use Rattle.std.specs.declared.option.Option.TheVariants.{None, Some}

-- something of a key, if it is tracked
abbrev pub of_key : {A : Type 0} → (KeyRecord → A) → Option KeyRecord → Option A
of_key f None = None
of_key f (Some k) = Some (f k)

abbrev pub told : {A : Type 0} → (KeyRecord → A) → ℕ → LimiterState → Option A
told f key s = of_key f (key_with key s.keys)

-- 000, `KeyState::rates`: unbiased, over one window
unfoldable pub rates_of : Parameters → KeyRecord → KeyRates
rates_of par k =
    record {
      requests_per_sec = unbiased_rate par.denial_time_constant k.requests;
      denied_per_sec = unbiased_rate par.denial_time_constant k.denials;
      shadow_denied_per_sec = unbiased_rate par.denial_time_constant k.shadow_denials;
    }

-- ---- keys ranked by a rate (000: the order that `hot_demand` and `most_by` sort by)

-- the higher rate comes first by totalOrder, ties to the smaller key
abbrev pub higher_first : (KeyRecord → Float) → KeyRecord → KeyRecord → Bool
higher_first by a b = ranked_before (by b) (by a) a.key b.key

-- the keys that pass a test, in that order
unfoldable pub ranked_by : (KeyRecord → Float) → (KeyRecord → Bool) → List KeyRecord → List KeyRecord
ranked_by by test ks = sorted (higher_first by) (only test ks)

-- ---- 000, `hot_demand`: the hot keys, the highest demand first

abbrev pub demand_rate : KeyRecord → Float
demand_rate k = k.demand.rate

unfoldable pub hot_ranking : LimiterState → List KeyRecord
hot_ranking s = ranked_by demand_rate (λ (k : KeyRecord). is_hot k.key s.hot) s.keys

-- an entry of the output: key, demand, primary
abbrev pub hot_words : List HotEntry → KeyRecord → List ℕ
hot_words es k = k.key ∷ float_word k.demand.rate ∷ flag_word (primary_of (get k.key es)) ∷ []

unfoldable pub hot_demand : LimiterState → List (List ℕ)
hot_demand s = map (hot_words s.hot) (hot_ranking s)

-- ---- 000, `most_by`, for `most_denied` and `most_shadow_denied`

-- the keys whose rate is at least the silent level, the highest first: 'those silent in it left out'
unfoldable pub ranking : Parameters → (KeyRecord → Float) → LimiterState → List KeyRecord
ranking par by s = ranked_by by (λ (k : KeyRecord). le par.silent_level (by k)) s.keys

-- 'the first `k` keys'
unfoldable pub most_by : Parameters → (KeyRecord → Float) → ℕ → LimiterState → List KeyRecord
most_by par by k s = take k (ranking par by s)

abbrev pub denied_rate : KeyRecord → Float
denied_rate k = k.denials.rate

abbrev pub shadow_denied_rate : KeyRecord → Float
shadow_denied_rate k = k.shadow_denials.rate

-- an entry of the output: key, and its three rates
abbrev pub rates_words : Parameters → KeyRecord → List ℕ
rates_words par k =
    k.key
    ∷ float_word (rates_of par k).requests_per_sec
    ∷ float_word (rates_of par k).denied_per_sec
    ∷ float_word (rates_of par k).shadow_denied_per_sec
    ∷ []

unfoldable pub most_denied : Parameters → (KeyRecord → Float) → ℕ → LimiterState → List (List ℕ)
most_denied par by k s = map (rates_words par) (most_by par by k s)
