-- What the private functions of a tick's pass two, cap and shadows cite. Definitions only.
use Rattle.std.specs.Prelude.{ℕ, ◌*◌, ◌≤◌, ◌≡◌, Bool, true, cond, List, [], ◌∷◌, map, eqb, Float, length}
use Rattle.std.specs.Float.{binary64}
use Rattle.std.specs.Float.Ieee.{mul, div}
use Rattle.float.specs.Order.{minimum_number}
use Rattle.records.specs.Records.{records, table}
use Rattle.gcra.specs.Rate.{per_second, set_quota}
use Rattle.gcra.specs.declared.Units.{Units}
use Rattle.hot.specs.declared.hot_set.HotEntry.{HotEntry}
use Rattle.demand.specs.Estimators.Estimator.{whole}
use Rattle.demand.specs.Allocation.{is_floor_factor, is_cluster_size, shared}
use Rattle.hot.specs.HotSet.Set.{is_hot}
use Rattle.questions.specs.Lists.{only}
use Rattle.hot.specs.HotSet.Steps.{EntriesReady}
use Rattle.limiter.specs.declared.Limiter.{Limiter}
use Rattle.limiter.specs.declared.pass_two.RateTerms.{RateTerms}
use Rattle.limiter.specs.State.{KeyRecord, LimiterState, LimiterTables, is_tracked, key_words, value_of, units_in, key_of}
use Rattle.limiter.specs.Checks.{cap_or_none}
use Rattle.limiter.specs.Calls.{Holds}
use Rattle.limiter.specs.Steps.TickSteps.{stays_under, LentKeys, shadow_key}
use Rattle.std.specs.declared.option.Option.TheVariants.{Some}

-- ---- the rate of a key

-- what the rates turn on, of a limiter's settings
abbrev pub terms_of : Limiter → (even : Bool) → (n : ℕ) → RateTerms
terms_of l even n =
    record {
      even = even;
      alpha = l.config.alpha;
      floor_factor = l.config.floor_factor;
      cap = cap_or_none l.cap;
      cluster_size = n;
    }

-- they pass the questions that `share` asks of them
pub record GoodTerms (p : RateTerms) : Type 0 where
  pub floor : is_floor_factor p.floor_factor ≡ true
  pub size : is_cluster_size p.cluster_size ≡ true

-- the share of a hot key: limit ÷ n where there are no peers, else that of 005 with the total of the peers
unfoldable pub share_by : RateTerms → (limit own total : Float) → Float
share_by p limit own total =
    cond p.even (div binary64 limit (whole p.cluster_size))
    (shared (record { limit = limit; cluster_size = p.cluster_size; floor_factor = p.floor_factor; own = own; others = total }))

-- the total at the place of a key's hot entry
unfoldable pub total_at : (key : ℕ) → List HotEntry → List Float → Float
total_at key [] ts = whole 0
total_at key (e ∷ es) [] = whole 0
total_at key (e ∷ es) (t ∷ ts) = cond (eqb e.key key) t (total_at key es ts)

-- the rate of a hot key, and of one that is not; of the latter no more where it is hot elsewhere
unfoldable pub hot_rate : RateTerms → (limit own total : Float) → Float
hot_rate p limit own total = minimum_number (share_by p limit own total) (mul binary64 limit p.cap)

unfoldable pub cold_rate : RateTerms → (elsewhere : Bool) (limit : Float) → Float
cold_rate p elsewhere limit =
    let n = whole p.cluster_size in
    let cold = mul binary64 (div binary64 limit n) p.alpha in
    let least = div binary64 (mul binary64 limit p.floor_factor) n in
    minimum_number (cond elsewhere (minimum_number least cold) cold) (mul binary64 limit p.cap)

-- `rate_of` by what it turns on
unfoldable pub rate_by : RateTerms → List HotEntry → List Float → (elsewhere : Bool) → KeyRecord → Float
rate_by p es ts elsewhere k =
    cond (is_hot k.key es) (hot_rate p k.limit.rate k.demand.rate (total_at k.key es ts)) (cold_rate p elsewhere k.limit.rate)

-- ---- the quotas

-- a key with the quota of a rate
abbrev pub with_rate : Units → (rate : Float) (now : ℕ) → KeyRecord → KeyRecord
with_rate u rate now k =
    record {
      key = k.key;
      limit = k.limit;
      demand = k.demand;
      requests = k.requests;
      denials = k.denials;
      shadow_denials = k.shadow_denials;
      gcra = set_quota k.gcra (per_second u rate k.limit.burst) now;
    }

-- a record's words with the quota of a rate
abbrev pub quota_row : Units → (now : ℕ) (rate : Float) → List ℕ → List ℕ
quota_row u now rate r = key_words u (with_rate u rate now (key_of u r))

-- the keys with the quotas of their rates, each by its flag
unfoldable pub requoted : Units → RateTerms → List HotEntry → List Float → (now : ℕ) → List Bool → List KeyRecord → List KeyRecord
requoted u p es ts now [] ks = []
requoted u p es ts now (b ∷ bs) [] = []
requoted u p es ts now (b ∷ bs) (k ∷ ks) = with_rate u (rate_by p es ts b k) now k ∷ requoted u p es ts now bs ks

-- ---- after pass one

-- what pass one leaves: n keys with their flags, h hot entries with their totals, and the shadows as they were
pub record Finishing (l : Limiter) (keys : List ℕ) (n : ℕ) (hot : List ℕ) (h : ℕ) (shadows : List ℕ) (flags : List Bool) (totals : List Float)
    (size : ℕ) : Type 0 where
  pub keys_lent : LentKeys (units_in l) n keys
  pub keys_few : n ≤ 4096
  pub hot_lent : EntriesReady h hot
  pub shadows_fit : l.shadows * 4 ≤ length shadows
  pub shadows_few : l.shadows ≤ 4096
  pub flags_fit : n ≤ length flags
  pub totals_fit : h ≤ length totals
  pub floor : is_floor_factor l.config.floor_factor ≡ true
  pub nodes : is_cluster_size size ≡ true

-- the keys that the cap leaves, and the records of the shadows of those
abbrev pub keys_left : Limiter → List HotEntry → List KeyRecord → List KeyRecord
keys_left l es ks = only (stays_under l.config.demand_time_constant l.config.max_tracked_keys es ks) ks

abbrev pub shadows_left : Limiter → List KeyRecord → List ℕ → List (List ℕ)
shadows_left l ks shadows = only (λ (r : List ℕ). is_tracked ks (shadow_key (units_in l) r)) (records 4 l.shadows shadows)

-- quotas are set, then the cap is kept, then shadows go with their keys
pub record Finished (l : Limiter) (keys : List ℕ) (es : List HotEntry) (h : ℕ) (shadows : List ℕ) (set : List KeyRecord) (now : ℕ) (r : Limiter)
    (keys' shadows' : List ℕ) : Type 0 where
  pub value :
      r ≡ record {
        config = l.config;
        cap = l.cap;
        last_tick = Some now;
        keys = length (keys_left l es set);
        hot = h;
        shadows = length (shadows_left l (keys_left l es set) shadows);
      }
  pub keys-left : keys' ≡ table (map (key_words (units_in l)) (keys_left l es set)) (table (map (key_words (units_in l)) set) keys)
  pub shadows-left : shadows' ≡ table (shadows_left l (keys_left l es set) shadows) shadows

-- the value and the tables after a tick
pub record Ticked (after : LimiterState) (t : LimiterTables) (r : Limiter) (t' : LimiterTables) : Type 0 where
  pub value : r ≡ value_of after
  pub held : Holds after t t'
