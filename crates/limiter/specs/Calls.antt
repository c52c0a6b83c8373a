-- The promise of each public function of the limiter: 01's questions in their order, its answer, and what the value and every lent buffer hold afterwards.
-- Definitions only.
use Rattle.std.specs.Prelude.{ℕ, ◌*◌, ◌≡◌, Bool, true, false, ◌&&◌, List, [], ◌∷◌, ◌++◌, map, leb, Float, length, drop}
use Rattle.records.specs.Records.{records, flat, table, fits}
use Rattle.gcra.specs.declared.Quota.{Quota}
use Rattle.gcra.specs.declared.Decision.{Decision}
use Rattle.gcra.specs.declared.Decision.TheVariants.{Allow, Deny}
use Rattle.questions.specs.Questions.{Question, ◌asks◌, Answer, refused, given, answer, passes, first_no, changed}
use Rattle.gcra.specs.Packed.{valid_burst}
use Rattle.peers.specs.declared.peer_demand.PeerDemand.{PeerDemand}
use Rattle.demand.specs.Allocation.{is_rate, is_floor_factor}
use Rattle.hot.specs.HotSet.Set.{get, is_hot, since_of}
use Rattle.peers.specs.Peers.State as peer-state
use Rattle.peers.specs.Peers.State.{PeerTables}
use Rattle.limiter.specs.declared.Limit.{Limit}
use Rattle.limiter.specs.declared.Config.{Config}
use Rattle.limiter.specs.declared.Limiter.{Limiter}
use Rattle.limiter.specs.declared.Tally.{Tally}
use Rattle.limiter.specs.declared.KeyRates.{KeyRates}
use Rattle.limiter.specs.Answered.{Checked, TracedCheck, Changed}
use Rattle.limiter.specs.State.{KeyRecord, LimiterState, parameters_of, units_of, settings_of, LimiterTables, lengths, sizes, have_room, state_of, is_valid, value_of, written, is_alpha, are_sizes, is_tracked}
use Rattle.limiter.specs.Checks.{new_key_factor, cold_quota, own_limit, key_decision, shadow_decision, check_in, check_traced, record_tally, set_cap, limit_questions, cluster_questions, check_questions, check_in_questions, traced_questions, record_questions, check_each}
use Rattle.limiter.specs.Ticks.{tick, tick_with_shares}
use Rattle.limiter.specs.Readers.{told, rates_of, hot_demand, most_denied, denied_rate, shadow_denied_rate}
use Rattle.std.specs.declared.option.Option.{Option}
use Rattle.std.specs.declared.option.Option.TheVariants.{None}
use Rattle.std.specs.declared.result.Result.{Result}
use Rattle.questions.specs.declared.Refusal.{Refusal}
use Rattle.questions.specs.Refusals.{answer_of}

-- an answer of many as three words: the number of a 'no', whether it is denied, the retry time; 0 where there is none
abbrev pub answer_words : Answer Decision → List ℕ
answer_words (refused n) = n ∷ 0 ∷ 0 ∷ []
answer_words (given Allow) = 0 ∷ 0 ∷ 0 ∷ []
answer_words (given (Deny t)) = 0 ∷ 1 ∷ t ∷ []

-- ---- questions

-- the state that is lent
abbrev pub here : Limiter → LimiterTables → LimiterState
here l t = state_of (units_of (settings_of l)) l t

-- are the lent tables long enough? could the lent state stand in a valid image?
abbrev pub state_questions : Limiter → LimiterTables → List Question
state_questions l t = (1 asks have_room l.config (lengths t)) ∷ (2 asks is_valid (units_of (settings_of l)) l t) ∷ []

-- `ask`: the number of the first of these two that is answered 'no', 0 where none is
abbrev pub Asks : Limiter → LimiterTables → ℕ → Type 0
Asks l t r = r ≡ first_no (state_questions l t)

-- of the limiter and the peers
abbrev pub both_questions : Limiter → LimiterTables → PeerDemand → PeerTables → List Question
both_questions l t p pt =
    (1 asks (have_room l.config (lengths t) && peer-state.have_room (peer-state.lengths pt)))
    ∷ (2 asks (is_valid (units_of (settings_of l)) l t && peer-state.is_valid p pt))
    ∷ []

-- does the output fit?
abbrev pub output_questions : List (List ℕ) → List ℕ → List Question
output_questions entries out = (16 asks leb (length (flat entries)) (length out)) ∷ []

-- ---- `Limiter::new`: a limiter with no key yet

abbrev pub new_state : Config → LimiterState
new_state c = record { settings = record { config = c; cap = None; last_tick = None }; keys = []; hot = []; shadows = [] }

abbrev pub new_questions : Config → LimiterTables → List Question
new_questions c t =
    (1 asks have_room c (lengths t))
    ∷ (3 asks is_rate c.limit.rate)
    ∷ (4 asks valid_burst c.limit.burst)
    ∷ (5 asks (is_alpha c.alpha && is_floor_factor c.floor_factor))
    ∷ (6 asks are_sizes c)
    ∷ []

abbrev pub IsNew : Config → LimiterTables → Result Limiter Refusal → Type 0
IsNew c t r = answer_of r ≡ answer (new_questions c t) (value_of (new_state c))

-- ---- calls that change the state

-- the answer; and the value and the tables of the state afterwards where every question is answered 'yes', as they were where one is 'no'
pub record Acts {A : Type 0} (said : Answer A) (qs : List Question) (value : A) (after : LimiterState) (l : Limiter) (t : LimiterTables) (l' : Limiter) (t' : LimiterTables) : Type 0 where
  pub answered : said ≡ answer qs value
  pub limiter : l' ≡ changed qs l (value_of after)
  pub words : t' ≡ changed qs t (written (units_of after.settings) after t)

-- `check`
abbrev pub Checks : Limiter → LimiterTables → (key now n : ℕ) → Checked → LimiterTables → Type 0
Checks l t key now n r t' =
    let u = units_of (settings_of l) in
    let s = here l t in
    Acts (answer_of r.answer) (state_questions l t ++ check_questions u s key now n) (key_decision u s key (own_limit s) now n)
    (check_in u s key (own_limit s) now n) l t r.limiter t'

-- `check_in`
abbrev pub ChecksIn : Limiter → LimiterTables → (key : ℕ) → Limit → (now n : ℕ) → Checked → LimiterTables → Type 0
ChecksIn l t key limit now n r t' =
    let u = units_of (settings_of l) in
    let s = here l t in
    Acts (answer_of r.answer) (state_questions l t ++ check_in_questions u s key limit now n) (key_decision u s key limit now n)
    (check_in u s key limit now n) l t r.limiter t'

-- `check_in_traced`
abbrev pub ChecksTraced : Limiter → LimiterTables → (key : ℕ) → Limit → Option Limit → (now n : ℕ) → TracedCheck → LimiterTables → Type 0
ChecksTraced l t key limit shadow now n r t' =
    let u = units_of (settings_of l) in
    let s = here l t in
    Acts (answer_of r.answer) (state_questions l t ++ traced_questions u s key limit shadow now n)
    (record { decision = key_decision u s key limit now n; shadow = shadow_decision u s key limit shadow now n })
    (check_traced u s key limit shadow now n) l t r.limiter t'

-- `record`
abbrev pub Records : Limiter → LimiterTables → (key : ℕ) → Tally → Limit → (now n : ℕ) → Changed → LimiterTables → Type 0
Records l t key y limit now n r t' =
    let u = units_of (settings_of l) in
    let s = here l t in
    Acts (answer_of r.answer) (state_questions l t ++ record_questions u s key y limit now n) tt
    (record_tally u s key y limit now n) l t r.limiter t'

-- `check_each`: of `count` pairs of a key and a reading in lent words; an answer of three words for each, and then the output as it was
abbrev pub each_questions : (count n : ℕ) (out : List ℕ) → List Question
each_questions count n out = cluster_questions n ++ ((16 asks leb (3 * count) (length out)) ∷ [])

abbrev pub each_asked : Limiter → LimiterTables → List ℕ → ℕ → ℕ → List ℕ → List Question
each_asked l t list count n out =
    (1 asks fits (length list) 2 count) ∷ (state_questions l t ++ each_questions count n out)

pub record ChecksEach (l : Limiter) (t : LimiterTables) (list : List ℕ) (count n : ℕ) (out : List ℕ) (r : Changed) (t' : LimiterTables) (out' : List ℕ) : Type 0 where
  pub acts :
      Acts (answer_of r.answer) (each_asked l t list count n out) tt (check_each (units_of (settings_of l)) n (records 2 count list) (here l t)).left l t r.limiter t'
  pub output :
      out' ≡ changed (each_asked l t list count n out) out (table (map answer_words (check_each (units_of (settings_of l)) n (records 2 count list) (here l t)).answers) out)

-- `set_cap`, which is lent tables that it cannot write
pub record SetsCap (l : Limiter) (t : LimiterTables) (x : Option Float) (r : Changed) : Type 0 where
  pub answered : answer_of r.answer ≡ answer (state_questions l t) tt
  pub limiter : r.limiter ≡ changed (state_questions l t) l (value_of (set_cap x (here l t)))

-- ---- ticks

-- The tables hold a state: to write its records would change nothing. Past question 1's sizes they are as they were; the words between are free, and no call
-- reads them.
pub record Holds (s : LimiterState) (t t' : LimiterTables) : Type 0 where
  pub front : t' ≡ written (units_of s.settings) s t'
  pub long : lengths t' ≡ lengths t
  pub keys : drop (sizes s.settings.config).keys t'.keys ≡ drop (sizes s.settings.config).keys t.keys
  pub hot : drop (sizes s.settings.config).hot t'.hot ≡ drop (sizes s.settings.config).hot t.hot
  pub shadows : drop (sizes s.settings.config).shadows t'.shadows ≡ drop (sizes s.settings.config).shadows t.shadows

pub record Ticking (qs : List Question) (after : LimiterState) (l : Limiter) (t : LimiterTables) (r : Changed) (t' : LimiterTables) : Type 0 where
  pub answered : answer_of r.answer ≡ answer qs tt
  pub limiter : r.limiter ≡ changed qs l (value_of after)
  pub held : passes qs ≡ true → Holds after t t'
  pub unmoved : passes qs ≡ false → t' ≡ t

-- `tick`
abbrev pub Ticks : Limiter → LimiterTables → (now n : ℕ) → Changed → LimiterTables → Type 0
Ticks l t now n r t' = Ticking (state_questions l t ++ cluster_questions n) (tick (parameters_of (settings_of l)) (units_of (settings_of l)) now n (here l t)) l t r t'

-- `tick_with_shares`, which is lent tables of the peers that it cannot write
abbrev pub TicksWithShares : Limiter → LimiterTables → PeerDemand → PeerTables → (now n : ℕ) → Changed → LimiterTables → Type 0
TicksWithShares l t p pt now n r t' =
    Ticking (both_questions l t p pt ++ cluster_questions n) (tick_with_shares (parameters_of (settings_of l)) (units_of (settings_of l)) (peer-state.state_of p pt) now n (here l t)) l t r t'

-- ---- calls that read, which are lent what they cannot write: `key_rates`, `quota`, `limit`

abbrev pub TellsRates : Limiter → LimiterTables → (key : ℕ) → Result (Option KeyRates) Refusal → Type 0
TellsRates l t key r = answer_of r ≡ answer (state_questions l t) (told (rates_of (parameters_of (settings_of l))) key (here l t))

abbrev pub TellsQuota : Limiter → LimiterTables → (key : ℕ) → Result (Option Quota) Refusal → Type 0
TellsQuota l t key r = answer_of r ≡ answer (state_questions l t) (told (λ (k : KeyRecord). k.gcra.quota) key (here l t))

abbrev pub TellsLimit : Limiter → LimiterTables → (key : ℕ) → Result (Option Limit) Refusal → Type 0
TellsLimit l t key r = answer_of r ≡ answer (state_questions l t) (told (λ (k : KeyRecord). k.limit) key (here l t))

-- `new_key_quota`, `new_key_factor`
abbrev pub TellsNewKeyQuota : Limiter → LimiterTables → Limit → (n : ℕ) → Result Quota Refusal → Type 0
TellsNewKeyQuota l t limit n r =
    answer_of r ≡ answer (state_questions l t ++ (limit_questions limit ++ cluster_questions n)) (cold_quota (units_of (settings_of l)) (here l t).settings limit n)

abbrev pub TellsNewKeyFactor : Limiter → LimiterTables → (n : ℕ) → Result Float Refusal → Type 0
TellsNewKeyFactor l t n r = answer_of r ≡ answer (state_questions l t ++ cluster_questions n) (new_key_factor (here l t).settings n)

-- `config`, `hot_since`, `is_hot`, `tracked`, `tracked_keys`, `hot_keys`
abbrev pub TellsConfig : Limiter → LimiterTables → Result Config Refusal → Type 0
TellsConfig l t r = answer_of r ≡ answer (state_questions l t) l.config

abbrev pub TellsHotSince : Limiter → LimiterTables → (key : ℕ) → Result (Option ℕ) Refusal → Type 0
TellsHotSince l t key r = answer_of r ≡ answer (state_questions l t) (since_of (get key (here l t).hot))

abbrev pub TellsHot : Limiter → LimiterTables → (key : ℕ) → Result Bool Refusal → Type 0
TellsHot l t key r = answer_of r ≡ answer (state_questions l t) (is_hot key (here l t).hot)

abbrev pub TellsTracked : Limiter → LimiterTables → (key : ℕ) → Result Bool Refusal → Type 0
TellsTracked l t key r = answer_of r ≡ answer (state_questions l t) (is_tracked (here l t).keys key)

abbrev pub CountsKeys : Limiter → LimiterTables → Result ℕ Refusal → Type 0
CountsKeys l t r = answer_of r ≡ answer (state_questions l t) (length (here l t).keys)

abbrev pub CountsHot : Limiter → LimiterTables → Result ℕ Refusal → Type 0
CountsHot l t r = answer_of r ≡ answer (state_questions l t) (length (here l t).hot)

-- ---- calls that write a list to a lent output: how many entries, and the output, which is as it was past them

pub record Lists (l : Limiter) (t : LimiterTables) (entries : List (List ℕ)) (out : List ℕ) (r : Result ℕ Refusal) (out' : List ℕ) : Type 0 where
  pub answered : answer_of r ≡ answer (state_questions l t ++ output_questions entries out) (length entries)
  pub output : out' ≡ changed (state_questions l t ++ output_questions entries out) out (table entries out)

-- `hot_demand`, `most_denied`, `most_shadow_denied`
abbrev pub ListsHotDemand : Limiter → LimiterTables → List ℕ → Result ℕ Refusal → List ℕ → Type 0
ListsHotDemand l t out r out' = Lists l t (hot_demand (here l t)) out r out'

abbrev pub ListsMostDenied : Limiter → LimiterTables → (k : ℕ) → List ℕ → Result ℕ Refusal → List ℕ → Type 0
ListsMostDenied l t k out r out' = Lists l t (most_denied (parameters_of (settings_of l)) denied_rate k (here l t)) out r out'

abbrev pub ListsMostShadowDenied : Limiter → LimiterTables → (k : ℕ) → List ℕ → Result ℕ Refusal → List ℕ → Type 0
ListsMostShadowDenied l t k out r out' = Lists l t (most_denied (parameters_of (settings_of l)) shadow_denied_rate k (here l t)) out r out'
