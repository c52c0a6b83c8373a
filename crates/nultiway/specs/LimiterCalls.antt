-- The promise of each function of the library on a limiter: that of the crate's function on the limiter that the lent words stand for.
-- Definitions only.
use Rattle.std.specs.Prelude.{ℕ, zero, suc, ◌≡◌, Bool, true, List, [], ◌∷◌, ◌++◌, leb, Float, length}
use Rattle.gcra.specs.declared.Decision.{Decision}
use Rattle.gcra.specs.declared.Quota.{Quota}
use Rattle.questions.specs.Questions.{Answer, first_no}
use Rattle.peers.specs.declared.peer_demand.PeerDemand.{PeerDemand}
use Rattle.records.specs.Fields.{time_words}
use Rattle.records.specs.Records.{fits}
use Rattle.peers.specs.Peers.State as peer-state
use Rattle.peers.specs.Peers.State.{PeerTables}
use Rattle.limiter.specs.declared.Limit.{Limit}
use Rattle.limiter.specs.declared.Config.{Config}
use Rattle.limiter.specs.declared.Limiter.{Limiter}
use Rattle.limiter.specs.declared.Tally.{Tally}
use Rattle.limiter.specs.declared.KeyRates.{KeyRates}
use Rattle.limiter.specs.Answered.{Checked, TracedCheck, Changed}
use Rattle.limiter.specs.State.{LimiterTables, lengths, float_word}
use Rattle.limiter.specs.Calls as limiter
use Rattle.nultiway.specs.Values.{limiter_width, limiter_words, limiter_of, limiter_asked, peers_of, peers_room, room_asked}
use Rattle.nultiway.specs.Calls.{Called, Changes, Answers, Tells, one_word, decision_words, quota_words, float_words, flag_words}
use Rattle.std.specs.declared.option.Option.{Option}
use Rattle.std.specs.declared.option.Option.TheVariants.{None, Some}
use Rattle.std.specs.declared.result.Result.{Result}
use Rattle.questions.specs.declared.Refusal.{Refusal}
use Rattle.questions.specs.Refusals.{answer_of}
use Rattle.limiter.specs.declared.Traced.{Traced}

-- ---- arguments

abbrev pub limit : Float → ℕ → Limit
limit rate burst = record { rate = rate; burst = burst }

abbrev pub config :
    (rate : Float) (burst : ℕ) (alpha floor_factor : Float) (cooldown hot_set_size max_tracked_keys demand_time_constant table_size : ℕ) → Config
config rate burst alpha floor_factor cooldown hot_set_size max_tracked_keys demand_time_constant table_size =
    record {
      limit = limit rate burst;
      alpha = alpha;
      floor_factor = floor_factor;
      cooldown = cooldown;
      hot_set_size = hot_set_size;
      max_tracked_keys = max_tracked_keys;
      demand_time_constant = demand_time_constant;
      table_size = table_size;
    }

abbrev pub tally : (attempts denials shadow_denials : ℕ) → Tally
tally attempts denials shadow_denials = record { attempts = attempts; denials = denials; shadow_denials = shadow_denials }

-- a flag of 0 is none, any other number the value
abbrev pub cap_given : ℕ → Float → Option Float
cap_given zero x = None
cap_given (suc flag) x = Some x

abbrev pub shadow_given : ℕ → Limit → Option Limit
shadow_given zero l = None
shadow_given (suc flag) l = Some l

-- ---- the words of answers; a missing value is a flag of 0 and then zeros

abbrev pub shadow_words : Option Decision → List ℕ
shadow_words None = 0 ∷ 0 ∷ 0 ∷ []
shadow_words (Some d) = 1 ∷ decision_words d

abbrev pub traced_words : Traced → List ℕ
traced_words x = decision_words x.decision ++ shadow_words x.shadow

abbrev pub rates_words : Option KeyRates → List ℕ
rates_words None = 0 ∷ 0 ∷ 0 ∷ 0 ∷ []
rates_words (Some x) = 1 ∷ float_word x.requests_per_sec ∷ float_word x.denied_per_sec ∷ float_word x.shadow_denied_per_sec ∷ []

abbrev pub key_quota_words : Option Quota → List ℕ
key_quota_words None = 0 ∷ 0 ∷ 0 ∷ []
key_quota_words (Some q) = 1 ∷ quota_words q

abbrev pub limit_words : Option Limit → List ℕ
limit_words None = 0 ∷ 0 ∷ 0 ∷ []
limit_words (Some l) = 1 ∷ float_word l.rate ∷ l.burst ∷ []

-- the first nine words of a limiter
abbrev pub config_words : Config → List ℕ
config_words c =
    float_word c.limit.rate
    ∷ c.limit.burst
    ∷ float_word c.alpha
    ∷ float_word c.floor_factor
    ∷ c.cooldown
    ∷ c.hot_set_size
    ∷ c.max_tracked_keys
    ∷ c.demand_time_constant
    ∷ c.table_size
    ∷ []

-- ---- a limiter made and asked

-- `nultiway_limiter_new`: the words of the new limiter
abbrev pub New : (ws : List ℕ) → LimiterTables → Config → (r : ℕ) → (ws' : List ℕ) → Type 0
New ws t c r ws' =
    Called (room_asked (leb limiter_width (length ws))) r (ws' ≡ ws)
    (Tells (λ (k : Config) (x : Result Limiter Refusal). limiter.IsNew k t x) c answer_of limiter_words ws r ws')

-- `nultiway_limiter_ask`
abbrev pub Ask : (ws : List ℕ) → LimiterTables → (r : ℕ) → Type 0
Ask ws t r = r ≡ first_no (limiter_asked ws (lengths t) true ++ limiter.state_questions (limiter_of ws) t)

-- ---- calls that change the limiter and answer no words

-- Over the promise of the crate's function of what the lent words stand for and of its result.
abbrev pub Changing :
    {B : Type 0}
    → (ws : List ℕ)
    → LimiterTables
    → (room : Bool) (r : ℕ) (ws' : List ℕ) (Unmoved : Type 0)
    → (B → Changed → Type 0)
    → B
    → Type 0
Changing ws t room r ws' Unmoved promise v =
    Called (limiter_asked ws (lengths t) room) r Unmoved
    (Changes promise v (λ (x : Changed). answer_of x.answer) (λ (x : Changed). limiter_words x.limiter) ws r ws')

-- `nultiway_set_cap`, which is lent tables that it cannot write
abbrev pub SetCap : (ws : List ℕ) → LimiterTables → Option Float → (r : ℕ) → (ws' : List ℕ) → Type 0
SetCap ws t cap r ws' =
    Changing ws t true r ws' (ws' ≡ ws) (λ (v : Limiter × Option Float) (x : Changed). limiter.SetsCap v.0 t v.1 x) (limiter_of ws, cap)

-- `nultiway_record`
abbrev pub Record : (ws : List ℕ) → LimiterTables → (key : ℕ) → Tally → Limit → (now n r : ℕ) → (ws' : List ℕ) → LimiterTables → Type 0
Record ws t key y k now n r ws' t' =
    Changing ws t true r ws' ((ws' ≡ ws) × (t' ≡ t)) (λ (l : Limiter) (x : Changed). limiter.Records l t key y k now n x t') (limiter_of ws)

-- `nultiway_tick`
abbrev pub Tick : (ws : List ℕ) → LimiterTables → (now n r : ℕ) → (ws' : List ℕ) → LimiterTables → Type 0
Tick ws t now n r ws' t' =
    Changing ws t true r ws' ((ws' ≡ ws) × (t' ≡ t)) (λ (l : Limiter) (x : Changed). limiter.Ticks l t now n x t') (limiter_of ws)

-- `nultiway_tick_with_shares`, which is lent words and tables of the peers that it cannot write
abbrev pub TickWithShares :
    (ws : List ℕ) → LimiterTables → (ps : List ℕ) → PeerTables → (now n r : ℕ) → (ws' : List ℕ) → LimiterTables → Type 0
TickWithShares ws t ps pt now n r ws' t' =
    Changing ws t (peers_room (length ps) (peer-state.lengths pt)) r ws' ((ws' ≡ ws) × (t' ≡ t))
    (λ (v : Limiter × PeerDemand) (x : Changed). limiter.TicksWithShares v.0 t v.1 pt now n x t') (limiter_of ws, peers_of ps)

-- `nultiway_check_each`: the output is the crate's
abbrev pub CheckEach :
    (ws : List ℕ) → LimiterTables → (list : List ℕ) → (count n : ℕ) → (out : List ℕ)
    → (r : ℕ) → (ws' : List ℕ) → LimiterTables → (out' : List ℕ) → Type 0
CheckEach ws t list count n out r ws' t' out' =
    Changing ws t (fits (length list) 2 count) r ws' ((ws' ≡ ws) × (t' ≡ t) × (out' ≡ out))
    (λ (l : Limiter) (x : Changed). limiter.ChecksEach l t list count n out x t' out') (limiter_of ws)

-- ---- checks, which answer a decision

-- Over the promise of the crate's function of the limiter that the lent words stand for and of its result.
abbrev pub Checking :
    (ws : List ℕ) → LimiterTables → (answer : List ℕ)
    → (r : ℕ) → (ws' : List ℕ) → LimiterTables → (answer' : List ℕ) → (Limiter → Checked → Type 0) → Type 0
Checking ws t answer r ws' t' answer' promise =
    Called (limiter_asked ws (lengths t) (leb 2 (length answer))) r ((ws' ≡ ws) × (t' ≡ t) × (answer' ≡ answer))
    (Answers promise (limiter_of ws) (λ (x : Checked). answer_of x.answer) decision_words (λ (x : Checked). limiter_words x.limiter)
    ws answer r ws' answer')

-- `nultiway_check`
abbrev pub Check :
    (ws : List ℕ) → LimiterTables → (key now n : ℕ) → (answer : List ℕ)
    → (r : ℕ) → (ws' : List ℕ) → LimiterTables → (answer' : List ℕ) → Type 0
Check ws t key now n answer r ws' t' answer' =
    Checking ws t answer r ws' t' answer' (λ (l : Limiter) (x : Checked). limiter.Checks l t key now n x t')

-- `nultiway_check_in`
abbrev pub CheckIn :
    (ws : List ℕ) → LimiterTables → (key : ℕ) → Limit → (now n : ℕ) → (answer : List ℕ)
    → (r : ℕ) → (ws' : List ℕ) → LimiterTables → (answer' : List ℕ) → Type 0
CheckIn ws t key k now n answer r ws' t' answer' =
    Checking ws t answer r ws' t' answer' (λ (l : Limiter) (x : Checked). limiter.ChecksIn l t key k now n x t')

-- `nultiway_check_in_traced`: the decision, then the shadow's
abbrev pub CheckInTraced :
    (ws : List ℕ) → LimiterTables → (key : ℕ) → Limit → Option Limit → (now n : ℕ) → (answer : List ℕ)
    → (r : ℕ) → (ws' : List ℕ) → LimiterTables → (answer' : List ℕ) → Type 0
CheckInTraced ws t key k shadow now n answer r ws' t' answer' =
    Called (limiter_asked ws (lengths t) (leb 5 (length answer))) r ((ws' ≡ ws) × (t' ≡ t) × (answer' ≡ answer))
    (Answers (λ (v : Limiter × Option Limit) (x : TracedCheck). limiter.ChecksTraced v.0 t key k v.1 now n x t') (limiter_of ws, shadow)
    (λ (x : TracedCheck). answer_of x.answer) traced_words (λ (x : TracedCheck). limiter_words x.limiter) ws answer r ws' answer')

-- ---- calls that read, which are lent a limiter and tables that they cannot write

-- Over the promise of the crate's function, its answer's words and how many they are.
abbrev pub Telling :
    {R A : Type 0} → (ws : List ℕ) → LimiterTables → (size : ℕ) → (answer : List ℕ) → (r : ℕ) → (answer' : List ℕ)
    → (R → Answer A) → (A → List ℕ) → (Limiter → R → Type 0) → Type 0
Telling ws t size answer r answer' said words promise =
    Called (limiter_asked ws (lengths t) (leb size (length answer))) r (answer' ≡ answer) (Tells promise (limiter_of ws) said words answer r answer')

-- `nultiway_new_key_quota`: a new key's quota under a limit
abbrev pub NewKeyQuota : (ws : List ℕ) → LimiterTables → Limit → (n : ℕ) → (answer : List ℕ) → (r : ℕ) → (answer' : List ℕ) → Type 0
NewKeyQuota ws t k n answer r answer' =
    Telling ws t 2 answer r answer' answer_of quota_words (λ (l : Limiter) (x : Result Quota Refusal). limiter.TellsNewKeyQuota l t k n x)

-- `nultiway_new_key_factor`: a new key's part of its limit
abbrev pub NewKeyFactor : (ws : List ℕ) → LimiterTables → (n : ℕ) → (answer : List ℕ) → (r : ℕ) → (answer' : List ℕ) → Type 0
NewKeyFactor ws t n answer r answer' =
    Telling ws t 1 answer r answer' answer_of float_words (λ (l : Limiter) (x : Result Float Refusal). limiter.TellsNewKeyFactor l t n x)

-- `nultiway_key_rates`: a tracked key's rates
abbrev pub LimiterKeyRates : (ws : List ℕ) → LimiterTables → (key : ℕ) → (answer : List ℕ) → (r : ℕ) → (answer' : List ℕ) → Type 0
LimiterKeyRates ws t key answer r answer' =
    Telling ws t 4 answer r answer' answer_of rates_words (λ (l : Limiter) (x : Result (Option KeyRates) Refusal). limiter.TellsRates l t key x)

-- `nultiway_quota`: a tracked key's quota
abbrev pub LimiterQuota : (ws : List ℕ) → LimiterTables → (key : ℕ) → (answer : List ℕ) → (r : ℕ) → (answer' : List ℕ) → Type 0
LimiterQuota ws t key answer r answer' =
    Telling ws t 3 answer r answer' answer_of key_quota_words (λ (l : Limiter) (x : Result (Option Quota) Refusal). limiter.TellsQuota l t key x)

-- `nultiway_limit`: a tracked key's limit
abbrev pub LimiterLimit : (ws : List ℕ) → LimiterTables → (key : ℕ) → (answer : List ℕ) → (r : ℕ) → (answer' : List ℕ) → Type 0
LimiterLimit ws t key answer r answer' =
    Telling ws t 3 answer r answer' answer_of limit_words (λ (l : Limiter) (x : Result (Option Limit) Refusal). limiter.TellsLimit l t key x)

-- `nultiway_config`: the settings
abbrev pub LimiterConfig : (ws : List ℕ) → LimiterTables → (answer : List ℕ) → (r : ℕ) → (answer' : List ℕ) → Type 0
LimiterConfig ws t answer r answer' =
    Telling ws t 9 answer r answer' answer_of config_words (λ (l : Limiter) (x : Result Config Refusal). limiter.TellsConfig l t x)

-- `nultiway_hot_since`: when a hot key came into the hot set
abbrev pub HotSince : (ws : List ℕ) → LimiterTables → (key : ℕ) → (answer : List ℕ) → (r : ℕ) → (answer' : List ℕ) → Type 0
HotSince ws t key answer r answer' =
    Telling ws t 2 answer r answer' answer_of time_words (λ (l : Limiter) (x : Result (Option ℕ) Refusal). limiter.TellsHotSince l t key x)

-- `nultiway_is_hot`: whether a key is hot
abbrev pub IsHot : (ws : List ℕ) → LimiterTables → (key : ℕ) → (answer : List ℕ) → (r : ℕ) → (answer' : List ℕ) → Type 0
IsHot ws t key answer r answer' =
    Telling ws t 1 answer r answer' answer_of flag_words (λ (l : Limiter) (x : Result Bool Refusal). limiter.TellsHot l t key x)

-- `nultiway_tracked`: whether a key is tracked
abbrev pub Tracked : (ws : List ℕ) → LimiterTables → (key : ℕ) → (answer : List ℕ) → (r : ℕ) → (answer' : List ℕ) → Type 0
Tracked ws t key answer r answer' =
    Telling ws t 1 answer r answer' answer_of flag_words (λ (l : Limiter) (x : Result Bool Refusal). limiter.TellsTracked l t key x)

-- `nultiway_hot_keys`: how many keys are hot
abbrev pub HotKeys : (ws : List ℕ) → LimiterTables → (answer : List ℕ) → (r : ℕ) → (answer' : List ℕ) → Type 0
HotKeys ws t answer r answer' =
    Telling ws t 1 answer r answer' answer_of one_word (λ (l : Limiter) (x : Result ℕ Refusal). limiter.CountsHot l t x)

-- `nultiway_tracked_keys`: how many keys are tracked
abbrev pub TrackedKeys : (ws : List ℕ) → LimiterTables → (answer : List ℕ) → (r : ℕ) → (answer' : List ℕ) → Type 0
TrackedKeys ws t answer r answer' =
    Telling ws t 1 answer r answer' answer_of one_word (λ (l : Limiter) (x : Result ℕ Refusal). limiter.CountsKeys l t x)

-- ---- lists: the output is the crate's, the answer how many entries

-- Over the promise of the crate's function of the limiter that the lent words stand for and of its result.
abbrev pub Listing :
    (ws : List ℕ) → LimiterTables → (out answer : List ℕ) → (r : ℕ) → (out' answer' : List ℕ) → (Limiter → Result ℕ Refusal → Type 0) → Type 0
Listing ws t out answer r out' answer' promise =
    Called (limiter_asked ws (lengths t) (leb 1 (length answer))) r ((out' ≡ out) × (answer' ≡ answer))
    (Tells promise (limiter_of ws) answer_of one_word answer r answer')

-- `nultiway_hot_demand`: the hot keys, greatest demand first
abbrev pub HotDemand : (ws : List ℕ) → LimiterTables → (out answer : List ℕ) → (r : ℕ) → (out' answer' : List ℕ) → Type 0
HotDemand ws t out answer r out' answer' =
    Listing ws t out answer r out' answer' (λ (l : Limiter) (x : Result ℕ Refusal). limiter.ListsHotDemand l t out x out')

-- `nultiway_most_denied`: the first k keys by denials a second
abbrev pub MostDenied : (ws : List ℕ) → LimiterTables → (k : ℕ) → (out answer : List ℕ) → (r : ℕ) → (out' answer' : List ℕ) → Type 0
MostDenied ws t k out answer r out' answer' =
    Listing ws t out answer r out' answer' (λ (l : Limiter) (x : Result ℕ Refusal). limiter.ListsMostDenied l t k out x out')

-- `nultiway_most_shadow_denied`: the first k keys by shadow denials a second
abbrev pub MostShadowDenied : (ws : List ℕ) → LimiterTables → (k : ℕ) → (out answer : List ℕ) → (r : ℕ) → (out' answer' : List ℕ) → Type 0
MostShadowDenied ws t k out answer r out' answer' =
    Listing ws t out answer r out' answer' (λ (l : Limiter) (x : Result ℕ Refusal). limiter.ListsMostShadowDenied l t k out x out')
