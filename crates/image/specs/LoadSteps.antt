-- What the steps of `load` work out before it stores. Definitions only.
use Rattle.std.specs.Prelude.{ℕ, ◌+◌, ◌^◌, ◌≤◌, ◌≡◌, Bool, true, cond, ◌&&◌, List, [], ◌∷◌, map, ltb, leb, eqb, get_or}
use Rattle.questions.specs.Questions.{Question, ◌asks◌, answer}
use Rattle.peers.specs.declared.peer_demand.PeerDemand.{PeerDemand}
use Rattle.hot.specs.HotSet.Set as hot-set
use Rattle.records.specs.Fields.{time_of}
use Rattle.peers.specs.Peers.Records.{peer_words, snapshot_key_words, contested_words, peer_of, snapshot_key_of, contested_of}
use Rattle.peers.specs.Peers.State as peer-state
use Rattle.records.specs.Typed.{exact}
use Rattle.limiter.specs.declared.Config.{Config}
use Rattle.limiter.specs.declared.Limiter.{Limiter}
use Rattle.limiter.specs.State as limiter-state
use Rattle.limiter.specs.State.{Settings, LimiterState, units_of, float_of, settings_of, key_words, key_of, shadow_words, shadow_of}
use Rattle.image.specs.declared.scan.Sections.{Sections}
use Rattle.image.specs.Image.{Section}
use Rattle.image.specs.Reader.{word_at, begins, cap_from, settings_from, rows_of, state_from, state_read, is_image}
use Rattle.image.specs.Calls.{values_of}
use Rattle.std.specs.declared.result.Result.{Result}
use Rattle.questions.specs.declared.Refusal.{Refusal}
use Rattle.image.specs.declared.Loaded.{Loaded}
use Rattle.questions.specs.Refusals.{answer_of}

-- ---- question 1

-- the peers' tables by their lengths
abbrev pub peers_fit : (peers snapshot_keys contested : ℕ) → Bool
peers_fit peers snapshot_keys contested = peer-state.have_room (record { peers = peers; snapshot_keys = snapshot_keys; contested = contested })

-- `have_room` by the tables' lengths
abbrev pub room_for : List ℕ → (keys hot shadows peers snapshot_keys contested : ℕ) → Bool
room_for bs keys hot shadows peers snapshot_keys contested =
    cond (begins 1 bs) (limiter-state.room_for (word_at bs 8) (word_at bs 5) keys hot shadows && peers_fit peers snapshot_keys contested) true

-- ---- counts

-- kind 1 once, the others as often as a valid state has them at most
unfoldable pub are_few : Sections → Bool
are_few s =
    eqb s.settings.n 1
    && (leb s.keys.n 4096
    && (leb s.hot.n 64
    && (leb s.shadows.n 4096
    && (leb s.peers.n 32 && (leb s.snapshot_keys.n 2048 && leb s.contested.n 8192)))))

pub record FewFound (s : Sections) : Type 0 where
  pub settings : s.settings.n ≡ 1
  pub keys : s.keys.n ≤ 4096
  pub hot : s.hot.n ≤ 64
  pub shadows : s.shadows.n ≤ 4096
  pub peers : s.peers.n ≤ 32
  pub snapshot-keys : s.snapshot_keys.n ≤ 2048
  pub contested : s.contested.n ≤ 8192

-- the records before the end
abbrev pub count_in : Sections → ℕ
count_in s = s.settings.n + s.keys.n + s.hot.n + s.shadows.n + s.peers.n + s.snapshot_keys.n + s.contested.n

-- ---- settings

-- `settings_from`'s, with a burst of 32 bits: 0 for a greater number
unfoldable pub config_from : List ℕ → Config
unfolding settings_from
config_from ws =
    record {
      limit = record { rate = float_of (get_or ws 0 0); burst = cond (ltb (get_or ws 1 0) (2 ^ 32)) (get_or ws 1 0) 0 };
      alpha = float_of (get_or ws 2 0);
      floor_factor = float_of (get_or ws 3 0);
      cooldown = get_or ws 4 0;
      hot_set_size = get_or ws 5 0;
      max_tracked_keys = get_or ws 6 0;
      demand_time_constant = get_or ws 7 0;
      table_size = get_or ws 8 0;
    }

-- a limiter with as many records as were found
pub record Counted (s : Sections) (l : Limiter) : Type 0 where
  pub keys : l.keys ≡ s.keys.n
  pub hot : l.hot ≡ s.hot.n
  pub shadows : l.shadows ≡ s.shadows.n

-- and with the settings of the words
pub record Reads (ws : List ℕ) (s : Sections) (l : Limiter) : Type 0 where
  pub config : l.config ≡ config_from ws
  pub cap : l.cap ≡ cap_from (get_or ws 9 0) (get_or ws 10 0)
  pub last-tick : l.last_tick ≡ time_of (get_or ws 11 0) (get_or ws 12 0)
  pub counts : Counted s l

abbrev pub peers_found : Sections → PeerDemand
peers_found s = record { peers = s.peers.n; snapshot_keys = s.snapshot_keys.n; contested = s.contested.n }

-- ---- records

-- the limiter's state with the records of the sections
abbrev pub limiter_from : Settings → List Section → LimiterState
limiter_from s xs =
    record {
      settings = s;
      keys = map (key_of (units_of s)) (rows_of 2 xs);
      hot = map hot-set.entry (rows_of 3 xs);
      shadows = map (shadow_of (units_of s)) (rows_of 4 xs);
    }

-- kinds 2 to 4 are exact, and valid under the limiter's settings
unfoldable pub limiter_judged : Limiter → List Section → Bool
limiter_judged l xs =
    let u = units_of (settings_of l) in
    (exact (key_words u) (key_of u) (rows_of 2 xs)
    && (exact hot-set.words hot-set.entry (rows_of 3 xs) && exact (shadow_words u) (shadow_of u) (rows_of 4 xs)))
    && limiter-state.valid u (limiter_from (settings_of l) xs)

-- kinds 5 to 7
unfoldable pub peers_judged : List Section → Bool
peers_judged xs =
    (exact peer_words peer_of (rows_of 5 xs)
    && (exact snapshot_key_words snapshot_key_of (rows_of 6 xs) && exact contested_words contested_of (rows_of 7 xs)))
    && peer-state.valid (state_from xs).peers

-- ---- question 13

abbrev pub image_questions : List ℕ → List Question
image_questions bs = (13 asks is_image bs) ∷ []

abbrev pub Judges : List ℕ → Result Loaded Refusal → Type 0
Judges bs r = answer_of r ≡ answer (image_questions bs) (values_of (state_read bs))
