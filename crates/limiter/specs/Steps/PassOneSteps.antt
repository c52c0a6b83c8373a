-- What the private functions of a tick's pass one cite. Definitions only.
use Rattle.std.specs.Prelude.{ℕ, ◌*◌, ◌≤◌, ◌≡◌, Bool, true, ◌&&◌, ◌||◌, ltb, Float, length, take, drop}
use mathlib.Core.List.{List, map, zip_with}
use Rattle.std.specs.Float.{binary64}
use Rattle.std.specs.Float.Ieee.{mul, div, le}
use Rattle.records.specs.Records.{records}
use Rattle.gcra.specs.Meter.{has_debt}
use Rattle.gcra.specs.declared.Units.{Units}
use Rattle.hot.specs.declared.hot_set.HotSet.{HotSet}
use Rattle.demand.specs.Estimators.Estimator.{whole}
use Rattle.hot.specs.HotSet.Set.{Update, Outcomes, update_each, valid_size, entries}
use Rattle.hot.specs.HotSet.Calls.{room, rewritten_each}
use Rattle.hot.specs.HotSet.Steps.{EntriesReady}
use Rattle.records.specs.Typed.{Tabled}
use Rattle.limiter.specs.declared.Limiter.{Limiter}
use Rattle.limiter.specs.declared.Parameters.{Parameters}
use Rattle.limiter.specs.declared.pass_one.Passed.{Passed}
use Rattle.limiter.specs.State.{KeyRecord, settings_of, units_in}
use Rattle.limiter.specs.Ticks.{Others, Settled, is_elsewhere, pass_one}
use Rattle.limiter.specs.Steps.TickSteps.{flagged, key_records, LentKeys}

-- ---- each key by itself

-- whether a rate is at or above the silent level
abbrev pub is_demand : (silent rate : Float) → Bool
is_demand silent rate = le silent rate

-- `is_elsewhere` by what it turns on
abbrev pub elsewhere_if : (silent : Float) → KeyRecord → (held : Bool) → Bool
elsewhere_if silent k held = is_demand silent k.demand.rate && held

-- `cold_rate` by what it turns on
abbrev pub threshold_of : (alpha size : Float) → KeyRecord → Float
threshold_of alpha size k = mul binary64 (div binary64 k.limit.rate size) alpha

-- `stays` by what it turns on
abbrev pub stays_if : (silent : Float) (now : ℕ) → KeyRecord → (hot : Bool) → Bool
stays_if silent now k hot = hot || (has_debt k.gcra now || (is_demand silent k.demand.rate || ltb 0 k.demand.attempts))

-- ---- the hot set's updates of all keys

-- what they are given of n keys
pub record Measured (u : Units) (silent : Float) (n : ℕ) (keys : List ℕ) (alpha size : Float) (elsewhere : List Bool) (demands thresholds : List Float) (flags : List Bool)
    : Type 0 where
  pub demand_rates : take n demands ≡ map (λ (k : KeyRecord). k.demand.rate) (key_records u n keys)
  pub cold_rates : take n thresholds ≡ map (threshold_of alpha size) (key_records u n keys)
  pub elsewhere_flags : take n flags ≡ zip_with (elsewhere_if silent) (key_records u n keys) (take n elsewhere)

-- the update of a key with its flag
abbrev pub update_of : (alpha : Float) (n : ℕ) → KeyRecord → (flag : Bool) → Update
update_of alpha n k flag =
    record { key = k.key; demand = k.demand.rate; threshold = threshold_of alpha (whole n) k; elsewhere = flag }

-- the limiter's hot set
abbrev pub set_of : Limiter → HotSet
set_of l = record { cooldown = l.config.cooldown; max_size = l.config.hot_set_size; len = l.hot }

-- it passes its questions
pub record LentHot (l : Limiter) (hot : List ℕ) : Type 0 where
  pub size : valid_size l.config.hot_set_size ≡ true
  pub fit : room l.config.hot_set_size ≤ length hot
  pub few : l.hot ≤ l.config.hot_set_size
  pub held : EntriesReady l.hot hot

-- the updates of all keys, and what they give
abbrev pub updates_for : (silent : Float) → Limiter → (n : ℕ) (keys : List ℕ) (elsewhere : List Bool) → List Update
updates_for silent l n keys elsewhere =
    let ks = key_records (units_in l) l.keys keys in
    zip_with (update_of l.config.alpha n) ks (zip_with (elsewhere_if silent) ks (take l.keys elsewhere))

abbrev pub updated_for : (margin silent : Float) → Limiter → (now n : ℕ) (keys hot : List ℕ) (elsewhere : List Bool) → Outcomes
updated_for margin silent l now n keys hot elsewhere =
    update_each margin (set_of l) now (updates_for silent l n keys elsewhere) (entries l.hot hot)

-- what they answer and leave
pub record HotUpdated (margin silent : Float) (l : Limiter) (now n : ℕ) (keys hot : List ℕ) (elsewhere : List Bool) (r : ℕ) (hot' : List ℕ) (flags hots : List Bool)
    : Type 0 where
  pub elsewhere_flags : take l.keys flags ≡ zip_with (elsewhere_if silent) (key_records (units_in l) l.keys keys) (take l.keys elsewhere)
  pub hot_flags : take l.keys hots ≡ (updated_for margin silent l now n keys hot elsewhere).hot
  pub count : r ≡ length (updated_for margin silent l now n keys hot elsewhere).left
  pub words : hot' ≡ rewritten_each margin (set_of l) now (updates_for silent l n keys elsewhere) (entries l.hot hot) hot

-- ---- idle keys go

-- which of n keys stay
abbrev pub staying_keys : Units → (silent : Float) (now n : ℕ) (keys : List ℕ) (hots : List Bool) → List Bool
staying_keys u silent now n keys hots = zip_with (stays_if silent now) (key_records u n keys) (take n hots)

-- those that stay are left, and the flag of each with it
pub record IdleDropped (u : Units) (silent : Float) (now n : ℕ) (keys : List ℕ) (hots flags : List Bool) (r : ℕ) (keys' : List ℕ) (elsewhere' : List Bool) : Type 0 where
  pub kept : Tabled r (flagged (staying_keys u silent now n keys hots) (records 22 n keys)) keys keys'
  pub moved : take r elsewhere' ≡ flagged (staying_keys u silent now n keys hots) (take n flags)

-- ---- pass one

-- keys, hot entries and flags that pass one takes
pub record Passable (l : Limiter) (keys hot : List ℕ) (elsewhere : List Bool) : Type 0 where
  pub few : l.keys ≤ 4096
  pub keys_lent : LentKeys (units_in l) l.keys keys
  pub hot_lent : LentHot l hot
  pub flags_fit : l.keys ≤ length elsewhere

-- the tables hold what `pass_one` leaves, and the flags are those of the keys that stayed; past the records that were in use, and past the
-- hot set's room, the words are as they were
pub record Holding (l : Limiter) (p : Settled) (is_elsewhere : KeyRecord → Bool) (keys hot : List ℕ) (r : Passed) (keys' hot' : List ℕ)
    (elsewhere' : List Bool) : Type 0 where
  pub key_count : r.keys ≡ length p.keys
  pub keys_few : r.keys ≤ l.keys
  pub keys_lent : LentKeys (units_in l) r.keys keys'
  pub keys_are : key_records (units_in l) r.keys keys' ≡ p.keys
  pub keys_past : drop (l.keys * 22) keys' ≡ drop (l.keys * 22) keys
  pub keys_long : length keys' ≡ length keys
  pub hot_count : r.hot ≡ length p.hot
  pub hot_few : r.hot ≤ l.config.hot_set_size
  pub hot_lent : EntriesReady r.hot hot'
  pub hot_are : entries r.hot hot' ≡ p.hot
  pub hot_past : drop (room l.config.hot_set_size) hot' ≡ drop (room l.config.hot_set_size) hot
  pub hot_long : length hot' ≡ length hot
  pub flags : take r.keys elsewhere' ≡ map is_elsewhere p.keys

-- whatever the others hold hot, if the flags say it
abbrev pub PassesOne : Parameters → Limiter → (now n : ℕ) (keys hot : List ℕ) (elsewhere : List Bool)
    → Passed → (keys' hot' : List ℕ) (elsewhere' : List Bool) → Type 0
PassesOne par l now n keys hot elsewhere r keys' hot' elsewhere' =
    (o : Others) → take l.keys elsewhere ≡ map (λ (k : KeyRecord). o.elsewhere k.key) (key_records (units_in l) l.keys keys)
    → Holding l (pass_one par (settings_of l) o now n (key_records (units_in l) l.keys keys) (entries l.hot hot))
    (is_elsewhere par (settings_of l) o now n) keys hot r keys' hot' elsewhere'
