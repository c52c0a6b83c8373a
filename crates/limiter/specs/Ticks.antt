-- What a tick does to a limiter's state (000: `tick_with_shares`, `tick`, `enforce_cap`). Definitions only. 'keys ascending in both passes'
use Rattle.std.specs.Prelude.{ℕ, ◌-◌, Bool, false, cond, not, ◌&&◌, ◌||◌, List, [], ◌∷◌, map, ltb, eqb, Float, length, take}
use Rattle.std.specs.Float.{binary64}
use Rattle.std.specs.Float.Ieee.{mul, div, le}
use Rattle.float.specs.Order.{minimum_number, total_less}
use Rattle.gcra.specs.declared.Units.{Units}
use Rattle.gcra.specs.declared.Quota.{Quota}
use Rattle.gcra.specs.Rate.{per_second, set_quota}
use Rattle.gcra.specs.Meter.{has_debt}
use Rattle.demand.specs.declared.demand.Demand.{Demand}
use Rattle.demand.specs.declared.allocation.View.{View}
use Rattle.hot.specs.declared.hot_set.HotEntry.{HotEntry}
use Rattle.hot.specs.declared.hot_set.HotSet.{HotSet}
use Rattle.demand.specs.Estimators.Estimator.{whole, ticked, unbiased}
use Rattle.demand.specs.Allocation.{shared}
use Rattle.hot.specs.HotSet.Set.{Outcome, update_with, is_hot}
use Rattle.questions.specs.Lists.{only}
use Rattle.peers.specs.Peers.State.{PeersState}
use Rattle.peers.specs.Peers.Readers.{total, hot_elsewhere}
use Rattle.limiter.specs.declared.Limit.{Limit}
use Rattle.limiter.specs.declared.Parameters.{Parameters}
use Rattle.limiter.specs.State.{Settings, Estimate, KeyRecord, ShadowRecord, LimiterState, float_word, is_tracked}
use Rattle.limiter.specs.Checks.{cap_or_none}
use Rattle.std.specs.declared.option.Option.{Option}
use Rattle.std.specs.declared.option.Option.TheVariants.{None, Some}
use Rattle.demand.specs.declared.demand.Times.{Times}

-- ---- estimators as 004 has them

-- an estimate under its time constant, and back
abbrev pub demand_of : (c : ℕ) → Estimate → Demand
demand_of c e = record { current_rate = e.rate; attempts_since_tick = e.attempts; times = Some (record { last_tick = e.last; since = e.since }); time_constant = c }

abbrev pub estimate_from : Option Times → Demand → Estimate
estimate_from None d = record { rate = d.current_rate; attempts = d.attempts_since_tick; last = 0; since = 0 }
estimate_from (Some t) d = record { rate = d.current_rate; attempts = d.attempts_since_tick; last = t.last_tick; since = t.since }

unfoldable pub folded : (c now : ℕ) → Estimate → Estimate
folded c now e = let d = ticked (demand_of c e) now in estimate_from d.times d

-- 'An unbiased rate'
unfoldable pub unbiased_rate : (c : ℕ) → Estimate → Float
unbiased_rate c e = unbiased (demand_of c e)

-- ---- what a tick is given

-- whether a peer holds a key as primary, and the share of a hot key: 000's closures
pub record Others : Type 0 where
  pub elsewhere : ℕ → Bool
  pub share : KeyRecord → Float

-- 'Plain `tick` has no peers and shares limit ÷ n'
abbrev pub no_others : (n : ℕ) → Others
no_others n = record { elsewhere = λ (key : ℕ). false; share = λ (k : KeyRecord). div binary64 k.limit.rate (whole n) }

-- 'Its closures become the peer state: `hot_elsewhere` and `total` of 002, with `share` of 005'
abbrev pub view_of : Settings → PeersState → (n : ℕ) → KeyRecord → View
view_of s p n k =
    record {
      limit = k.limit.rate;
      cluster_size = n;
      floor_factor = s.config.floor_factor;
      own = k.demand.rate;
      others = total k.key p;
    }

abbrev pub peers_others : Settings → PeersState → (n : ℕ) → Others
peers_others s p n = record { elsewhere = λ (key : ℕ). hot_elsewhere key p; share = λ (k : KeyRecord). shared (view_of s p n k) }

-- an order's first elements come first: the list sorted by it, a stable insertion
unfoldable pub insert : {A : Type 0} → (A → A → Bool) → A → List A → List A
insert before x [] = x ∷ []
insert before x (y ∷ ys) = cond (before y x) (y ∷ insert before x ys) (x ∷ y ∷ ys)

unfoldable pub sorted : {A : Type 0} → (A → A → Bool) → List A → List A
sorted before [] = []
sorted before (x ∷ xs) = insert before x (sorted before xs)

-- by a float in totalOrder, ties to the smaller key
unfoldable pub ranked_before : (x y : Float) (j k : ℕ) → Bool
ranked_before x y j k = total_less (float_word x) (float_word y) || (eqb (float_word x) (float_word y) && ltb j k)

-- the keys and the hot entries after pass one
pub record Settled : Type 0 where
  pub keys : List KeyRecord
  pub hot : List HotEntry

module _ (par : Parameters) (s : Settings) (o : Others) (now n : ℕ) where
  -- `elsewhere` of 000: a key with a demand of at least the silent level that a peer holds hot
  abbrev pub is_elsewhere : KeyRecord → Bool
  is_elsewhere k = le par.silent_level k.demand.rate && o.elsewhere k.key

  -- ---- 'Pass one folds estimators, updates the hot set and drops idle keys'

  abbrev pub folded_key : KeyRecord → KeyRecord
  folded_key k =
      record {
        key = k.key;
        limit = k.limit;
        demand = folded s.config.demand_time_constant now k.demand;
        requests = folded par.denial_time_constant now k.requests;
        denials = folded par.denial_time_constant now k.denials;
        shadow_denials = folded par.denial_time_constant now k.shadow_denials;
        gcra = k.gcra;
      }

  -- limit ÷ n × alpha, the rate of a cold key and the threshold above which it is hot: not a new key's limit × (alpha ÷ n)
  abbrev pub cold_rate : Limit → Float
  cold_rate limit = mul binary64 (div binary64 limit.rate (whole n)) s.config.alpha

  abbrev pub hot_set : List HotEntry → HotSet
  hot_set es = record { cooldown = s.config.cooldown; max_size = s.config.hot_set_size; len = length es }

  abbrev pub updated : KeyRecord → List HotEntry → Outcome
  updated k es = update_with par.eviction_margin (hot_set es) k.key k.demand.rate (cold_rate k.limit) now (is_elsewhere k) es

  -- a key stays that is hot, has debt, a demand of at least the silent level, or attempts that no tick has folded
  abbrev pub stays : KeyRecord → Bool → Bool
  stays k hot = hot || (has_debt k.gcra now || (le par.silent_level k.demand.rate || ltb 0 k.demand.attempts))

  unfoldable pub pass_one : List KeyRecord → List HotEntry → Settled
  pass_one [] es = record { keys = []; hot = es }
  pass_one (k ∷ ks) es =
      let k' = folded_key k in
      let u = updated k' es in
      let rest = pass_one ks u.left in
      record { keys = cond (stays k' u.hot) (k' ∷ rest.keys) rest.keys; hot = rest.hot }

  -- ---- 'pass two sets quotas'

  -- no more than the cap allows
  abbrev pub under_cap : Limit → Float → Float
  under_cap limit x = minimum_number x (mul binary64 limit.rate (cap_or_none s.cap))

  -- limit × floor factor ÷ n, of a key that a peer holds hot and that is not hot here
  abbrev pub floor_rate : Limit → Float
  floor_rate limit = div binary64 (mul binary64 limit.rate s.config.floor_factor) (whole n)

  unfoldable pub rate_of : List HotEntry → KeyRecord → Float
  rate_of es k =
      cond (is_hot k.key es) (under_cap k.limit (o.share k))
      (cond (is_elsewhere k) (under_cap k.limit (minimum_number (floor_rate k.limit) (cold_rate k.limit)))
      (under_cap k.limit (cold_rate k.limit)))

  abbrev pub quota_of : Units → List HotEntry → KeyRecord → Quota
  quota_of u es k = per_second u (rate_of es k) k.limit.burst

  -- `set_quota` with the quota it has changes nothing
  abbrev pub with_quota : Units → List HotEntry → KeyRecord → KeyRecord
  with_quota u es k =
      record {
        key = k.key;
        limit = k.limit;
        demand = k.demand;
        requests = k.requests;
        denials = k.denials;
        shadow_denials = k.shadow_denials;
        gcra = set_quota k.gcra (quota_of u es k) now;
      }

  abbrev pub pass_two : Units → List HotEntry → List KeyRecord → List KeyRecord
  pass_two u es ks = map (with_quota u es) ks

  -- ---- 'then the tracked-key cap removes non-hot keys, lowest unbiased rate first by totalOrder, ties to the smaller key'

  abbrev pub weaker_key : KeyRecord → KeyRecord → Bool
  weaker_key a b =
      ranked_before (unbiased_rate s.config.demand_time_constant a.demand) (unbiased_rate s.config.demand_time_constant b.demand) a.key b.key

  unfoldable pub victims : List HotEntry → List KeyRecord → List KeyRecord
  victims es ks =
      take (length ks - s.config.max_tracked_keys) (sorted weaker_key (only (λ (k : KeyRecord). not (is_hot k.key es)) ks))

  unfoldable pub capped : List HotEntry → List KeyRecord → List KeyRecord
  capped es ks = only (λ (k : KeyRecord). not (is_tracked (victims es ks) k.key)) ks

  -- ---- the whole tick

  abbrev pub keys_after : Units → Settled → List KeyRecord
  keys_after u p = capped p.hot (pass_two u p.hot p.keys)

  abbrev pub after_passes : Units → List ShadowRecord → Settled → LimiterState
  after_passes u ss p =
      record {
        settings = record { config = s.config; cap = s.cap; last_tick = Some now };
        keys = keys_after u p;
        hot = p.hot;
        shadows = only (λ (x : ShadowRecord). is_tracked (keys_after u p) x.key) ss;
      }

unfoldable pub tick_with : Parameters → Units → Others → (now n : ℕ) → LimiterState → LimiterState
tick_with par u o now n s = after_passes par s.settings o now n u s.shadows (pass_one par s.settings o now n s.keys s.hot)

-- 000, `tick`
abbrev pub tick : Parameters → Units → (now n : ℕ) → LimiterState → LimiterState
tick par u now n s = tick_with par u (no_others n) now n s

-- 000, `tick_with_shares`
abbrev pub tick_with_shares : Parameters → Units → PeersState → (now n : ℕ) → LimiterState → LimiterState
tick_with_shares par u p now n s = tick_with par u (peers_others s.settings p n) now n s
