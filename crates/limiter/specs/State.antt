-- A limiter's state (000: `Limiter`, `KeyState`), its words in the tables and in an image (01, 'The saved image', kinds 1, 2 and 4), and when it is valid.
-- Definitions only.
use Rattle.std.specs.Prelude.{ℕ, ◌*◌, min, Bool, true, not, ◌&&◌, List, [], ◌∷◌, ◌++◌, map, leb, eqb, Float, length, get_or, drop}
use Rattle.std.specs.Float.{binary64}
use Rattle.std.specs.Float.Ieee.{of_bits, to_bits, lt, le, fits, is_nan}
use Rattle.float.specs.Magnitude.{magnitude}
use Rattle.records.specs.Records.{records, table, ascending}
use Rattle.gcra.specs.declared.Units.{Units}
use Rattle.gcra.specs.declared.Gcra.{Gcra}
use Rattle.gcra.specs.Packed.{unit_nanos, valid_burst, valid_quota, pack, unpack}
use Rattle.hot.specs.declared.hot_set.HotEntry.{HotEntry}
use Rattle.demand.specs.Estimators.Estimator.{whole}
use Rattle.demand.specs.Allocation.{is_rate, is_floor_factor}
use Rattle.records.specs.Fields.{time_words, time_of}
use Rattle.hot.specs.HotSet.Set as hot-set
use Rattle.hot.specs.HotSet.Calls.{eviction_margin}
use Rattle.peers.specs.Peers.Changes.{implausible_jump}
use Rattle.questions.specs.Lists.{all, any, first, those, replaced}
use Rattle.records.specs.Typed.{is_word, exact}
use Rattle.limiter.specs.declared.Limit.{Limit}
use Rattle.limiter.specs.declared.Config.{Config}
use Rattle.limiter.specs.declared.Parameters.{Parameters}
use Rattle.limiter.specs.declared.Limiter.{Limiter}
use Rattle.std.specs.declared.option.Option.{Option}
use Rattle.std.specs.declared.option.Option.TheVariants.{None, Some}

-- ---- the state

-- kind 1: the settings, the cap and the last tick
pub record Settings : Type 0 where
  pub config : Config
  pub cap : Option Float
  pub last_tick : Option ℕ

-- ---- numbers that the definitions take as parameters; whatever the settings, they are 01's

-- 000's `SILENT_DEMAND` (1e-3) and `DENIAL_TIME_CONSTANT`, 003's `EVICTION_MARGIN`, 002's `IMPLAUSIBLE_JUMP`
unfoldable pub parameters_for : Config → Parameters
parameters_for c =
    record {
      silent_level = of_bits binary64 0x3f50624dd2f1a9fc;
      denial_time_constant = 10_000_000_000;
      eviction_margin = eviction_margin;
      implausible_jump = implausible_jump;
    }

abbrev pub parameters_of : Settings → Parameters
parameters_of s = parameters_for s.config

-- 'unit code (1, 1,000, 1,000,000 ns)'
unfoldable pub units_for : Config → Units
units_for c = unit_nanos

abbrev pub units_of : Settings → Units
units_of s = units_for s.config

-- ---- records

-- an estimator of a key, which has both times: its rate, the attempts since its last tick, that tick, its start
pub record Estimate : Type 0 where
  pub rate : Float
  pub attempts : ℕ
  pub last : ℕ
  pub since : ℕ

-- kind 2 (`KeyState`; its `applied` is the meter's quota)
pub record KeyRecord : Type 0 where
  pub key : ℕ
  pub limit : Limit
  pub demand : Estimate
  pub requests : Estimate
  pub denials : Estimate
  pub shadow_denials : Estimate
  pub gcra : Gcra

-- kind 4
pub record ShadowRecord : Type 0 where
  pub key : ℕ
  pub gcra : Gcra

-- the settings; keys, hot entries (kind 3) and shadows, each ascending by key
pub record LimiterState : Type 0 where
  pub settings : Settings
  pub keys : List KeyRecord
  pub hot : List HotEntry
  pub shadows : List ShadowRecord

-- ---- the record of a key

abbrev pub key_with : ℕ → List KeyRecord → Option KeyRecord
key_with key ks = first (those (λ (k : KeyRecord). k.key) key ks)

abbrev pub shadow_with : ℕ → List ShadowRecord → Option ShadowRecord
shadow_with key ss = first (those (λ (s : ShadowRecord). s.key) key ss)

abbrev pub put_key : KeyRecord → List KeyRecord → List KeyRecord
put_key k ks = replaced (λ (x : KeyRecord). x.key) k.key (k ∷ []) ks

-- 000, `tracked`
unfoldable pub is_tracked : List KeyRecord → ℕ → Bool
is_tracked ks key = any (λ (k : KeyRecord). eqb k.key key) ks

-- ---- words

-- 'Floats are their bits'
abbrev pub float_word : Float → ℕ
float_word x = to_bits binary64 x

abbrev pub float_of : ℕ → Float
float_of w = of_bits binary64 w

-- '"?" marks flag and value'
abbrev pub cap_words : Option Float → List ℕ
cap_words None = 0 ∷ 0 ∷ []
cap_words (Some x) = 1 ∷ float_word x ∷ []

-- kind 1: 'rate, burst, alpha, floor factor, cooldown, hot set size, max_tracked_keys, demand time constant, table size, cap?, last tick?'
unfoldable pub settings_words : Settings → List ℕ
settings_words s =
    float_word s.config.limit.rate
    ∷ s.config.limit.burst
    ∷ float_word s.config.alpha
    ∷ float_word s.config.floor_factor
    ∷ s.config.cooldown
    ∷ s.config.hot_set_size
    ∷ s.config.max_tracked_keys
    ∷ s.config.demand_time_constant
    ∷ s.config.table_size
    ∷ (cap_words s.cap ++ time_words s.last_tick)

-- 'as rate, attempts, last, since'
abbrev pub estimate_words : Estimate → List ℕ
estimate_words e = float_word e.rate ∷ e.attempts ∷ e.last ∷ e.since ∷ []

-- 'packed quota, TAT?'
abbrev pub gcra_words : Units → Gcra → List ℕ
gcra_words u g = pack u g.quota ∷ time_words g.tat

-- kind 2: 'key, limit rate, burst; demand, requests, denials, shadow denials ..; packed quota, TAT?'
unfoldable pub key_words : Units → KeyRecord → List ℕ
key_words u k =
    k.key
    ∷ float_word k.limit.rate
    ∷ k.limit.burst
    ∷ (estimate_words k.demand
    ++ (estimate_words k.requests
    ++ (estimate_words k.denials ++ (estimate_words k.shadow_denials ++ gcra_words u k.gcra))))

-- kind 4: 'key, packed quota, TAT?'
unfoldable pub shadow_words : Units → ShadowRecord → List ℕ
shadow_words u s = s.key ∷ gcra_words u s.gcra

-- ---- the record of words

abbrev pub estimate_of : List ℕ → Estimate
estimate_of ws = record { rate = float_of (get_or ws 0 0); attempts = get_or ws 1 0; last = get_or ws 2 0; since = get_or ws 3 0 }

abbrev pub gcra_of : Units → List ℕ → Gcra
gcra_of u ws = record { quota = unpack u (get_or ws 0 0); tat = (time_of (get_or ws 1 0) (get_or ws 2 0)) }

unfoldable pub key_of : Units → List ℕ → KeyRecord
key_of u ws =
    record {
      key = get_or ws 0 0;
      limit = record { rate = float_of (get_or ws 1 0); burst = get_or ws 2 0 };
      demand = estimate_of (drop 3 ws);
      requests = estimate_of (drop 7 ws);
      denials = estimate_of (drop 11 ws);
      shadow_denials = estimate_of (drop 15 ws);
      gcra = gcra_of u (drop 19 ws);
    }

unfoldable pub shadow_of : Units → List ℕ → ShadowRecord
shadow_of u ws = record { key = get_or ws 0 0; gcra = gcra_of u (drop 1 ws) }

-- ---- validity (01, 'The saved image')

-- a float of 64 bits
abbrev pub is_f64 : Float → Bool
is_f64 x = fits binary64 x

-- what the type of a cap says
abbrev pub cap_fits : Option Float → Bool
cap_fits None = true
cap_fits (Some x) = is_f64 x

-- question 5: 'alpha in (0, 1]'
unfoldable pub is_alpha : Float → Bool
is_alpha x = lt (whole 0) x && le x (whole 1)

-- question 6
unfoldable pub are_sizes : Config → Bool
are_sizes c =
    (leb 1 c.hot_set_size && leb c.hot_set_size 64)
    && (leb c.hot_set_size c.max_tracked_keys
    && (leb c.max_tracked_keys c.table_size && leb c.table_size 4096))

-- 'limits pass 3 [and] 4'
unfoldable pub valid_limit : Limit → Bool
valid_limit l = is_f64 l.rate && (is_rate l.rate && valid_burst l.burst)

-- 'a cap is not NaN'
abbrev pub valid_cap : Option Float → Bool
valid_cap None = true
valid_cap (Some x) = is_f64 x && not (is_nan x)

-- 'Settings .. pass 3 to 6, a cap is not NaN, .. values fit their Rust widths'
unfoldable pub valid_settings : Settings → Bool
valid_settings s =
    all is_word (settings_words s)
    && (valid_limit s.config.limit
    && ((is_f64 s.config.alpha && is_alpha s.config.alpha)
    && ((is_f64 s.config.floor_factor && is_floor_factor s.config.floor_factor)
    && (are_sizes s.config && valid_cap s.cap))))

-- 'Estimator rates .. are finite with a clear sign bit'
abbrev pub valid_estimate : Estimate → Bool
valid_estimate e = is_f64 e.rate && magnitude e.rate

-- 'packed words are those `pack` gives for an interval of at least 1 ns'
unfoldable pub valid_key : Units → KeyRecord → Bool
valid_key u k =
    all is_word (key_words u k)
    && (valid_limit k.limit
    && ((valid_estimate k.demand && valid_estimate k.requests)
    && ((valid_estimate k.denials && valid_estimate k.shadow_denials) && valid_quota u k.gcra.quota)))

unfoldable pub valid_shadow : Units → ShadowRecord → Bool
valid_shadow u s = all is_word (shadow_words u s) && valid_quota u s.gcra.quota

-- 'ids strictly ascending', 'counts keep their bounds', 'hot and shadow keys are tracked'
unfoldable pub valid_keys : Units → Config → List KeyRecord → Bool
valid_keys u c ks = leb (length ks) c.table_size && (all (valid_key u) ks && ascending 1 (map (key_words u) ks))

unfoldable pub valid_hot : Config → List KeyRecord → List HotEntry → Bool
valid_hot c ks es =
    leb (length es) c.hot_set_size
    && (hot-set.valid_entries es && all (λ (e : HotEntry). is_tracked ks e.key) es)

unfoldable pub valid_shadows : Units → Config → List KeyRecord → List ShadowRecord → Bool
valid_shadows u c ks ss =
    leb (length ss) c.table_size
    && (all (valid_shadow u) ss
    && (ascending 1 (map (shadow_words u) ss) && all (λ (s : ShadowRecord). is_tracked ks s.key) ss))

unfoldable pub valid : Units → LimiterState → Bool
valid u s =
    valid_settings s.settings
    && (valid_keys u s.settings.config s.keys
    && (valid_hot s.settings.config s.keys s.hot && valid_shadows u s.settings.config s.keys s.shadows))

-- ---- tables

-- the words of the three lent tables
pub record LimiterTables : Type 0 where
  pub keys : List ℕ
  pub hot : List ℕ
  pub shadows : List ℕ

abbrev pub tables : List ℕ → List ℕ → List ℕ → LimiterTables
tables keys hot shadows = record { keys = keys; hot = hot; shadows = shadows }

-- how many words each has
pub record Lengths : Type 0 where
  pub keys : ℕ
  pub hot : ℕ
  pub shadows : ℕ

abbrev pub lengths : LimiterTables → Lengths
lengths t = record { keys = length t.keys; hot = length t.hot; shadows = length t.shadows }

-- question 1's formula: words of a record times the most records; 'A size above its bound in 6 counts as that bound'
abbrev pub sizes_for : (table_size hot_set_size : ℕ) → Lengths
sizes_for table_size hot_set_size = record { keys = 22 * min table_size 4096; hot = 6 * min hot_set_size 64; shadows = 4 * min table_size 4096 }

-- each is at least as long
unfoldable pub within : Lengths → Lengths → Bool
within m n = leb m.keys n.keys && (leb m.hot n.hot && leb m.shadows n.shadows)

-- of tables with so many words
abbrev pub room_for : (table_size hot_set_size keys hot shadows : ℕ) → Bool
room_for table_size hot_set_size keys hot shadows = within (sizes_for table_size hot_set_size) (record { keys = keys; hot = hot; shadows = shadows })

abbrev pub sizes : Config → Lengths
sizes c = sizes_for c.table_size c.hot_set_size

abbrev pub have_room : Config → Lengths → Bool
have_room c n = within (sizes c) n

abbrev pub settings_of : Limiter → Settings
settings_of l = record { config = l.config; cap = l.cap; last_tick = l.last_tick }

-- the units of a limiter's value
abbrev pub units_in : Limiter → Units
units_in l = units_of (settings_of l)

-- the state that a value and the records in use stand for
unfoldable pub state_of : Units → Limiter → LimiterTables → LimiterState
state_of u l t =
    record {
      settings = settings_of l;
      keys = map (key_of u) (records 22 l.keys t.keys);
      hot = hot-set.entries l.hot t.hot;
      shadows = map (shadow_of u) (records 4 l.shadows t.shadows);
    }

-- every record's words are those of the record that it stands for
unfoldable pub are_exact : Units → Limiter → LimiterTables → Bool
are_exact u l t =
    exact (key_words u) (key_of u) (records 22 l.keys t.keys)
    && (exact hot-set.words hot-set.entry (records 6 l.hot t.hot)
    && exact (shadow_words u) (shadow_of u) (records 4 l.shadows t.shadows))

-- question 2: could the lent state stand in a valid image?
unfoldable pub is_valid : Units → Limiter → LimiterTables → Bool
is_valid u l t = are_exact u l t && valid u (state_of u l t)

-- the value of a state: its settings, and how many records it has of each kind
abbrev pub value_of : LimiterState → Limiter
value_of s =
    record {
      config = s.settings.config;
      cap = s.settings.cap;
      last_tick = s.settings.last_tick;
      keys = length s.keys;
      hot = length s.hot;
      shadows = length s.shadows;
    }

-- the tables with the records of a state, each as it was past them
abbrev pub written : Units → LimiterState → LimiterTables → LimiterTables
written u s t =
    tables (table (map (key_words u) s.keys) t.keys) (table (map hot-set.words s.hot) t.hot) (table (map (shadow_words u) s.shadows) t.shadows)
