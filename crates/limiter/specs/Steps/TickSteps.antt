-- What the walks of a tick over the tables work out. Definitions only.
use Rattle.std.specs.Prelude.{ℕ, ◌+◌, ◌-◌, ◌*◌, ◌^◌, ◌≤◌, ◌<◌, ◌≡◌, Bool, true, cond, not, ◌&&◌, ◌||◌, List, [], ◌∷◌, map, ltb, eqb, length, take}
use Rattle.float.specs.Order.{place}
use Rattle.records.specs.Records.{records, ascending}
use Rattle.hot.specs.declared.hot_set.HotEntry.{HotEntry}
use Rattle.hot.specs.HotSet.Set.{is_hot}
use Rattle.questions.specs.Lists.{all, only}
use Rattle.limiter.specs.declared.Parameters.{Parameters}
use Rattle.limiter.specs.State.{Settings, KeyRecord, float_word, float_of, is_tracked, key_words, key_of, shadow_of, valid_key}
use Rattle.limiter.specs.Ticks.{Others, updated, stays, folded, unbiased_rate, sorted, ranked_before}
use Rattle.gcra.specs.declared.Units.{Units}

-- the elements whose flag is set
unfoldable pub flagged : {A : Type 0} → List Bool → List A → List A
flagged [] xs = []
flagged (b ∷ bs) [] = []
flagged (b ∷ bs) (x ∷ xs) = cond b (x ∷ flagged bs xs) (flagged bs xs)

-- ---- a cut through ranks, words below `top`

-- how many words are below the limit, and how many are at it
abbrev pub below : ℕ → List ℕ → ℕ
below limit ws = length (only (λ (w : ℕ). ltb w limit) ws)

abbrev pub ties : ℕ → List ℕ → ℕ
ties limit ws = length (only (λ (w : ℕ). eqb w limit) ws)

-- the greatest limit that at most `most` words are below
pub record Cut (top most : ℕ) (ws : List ℕ) (limit : ℕ) : Type 0 where
  pub small : limit < top
  pub room : below limit ws ≤ most
  pub full : limit + 1 < top → most < below (limit + 1) ws

-- of the words in order, those below the limit go, and of those at it as many as there is room for: which stay?
unfoldable pub staying : (limit room : ℕ) → List ℕ → List Bool
staying limit room [] = []
staying limit room (w ∷ ws) =
    not (ltb w limit || (eqb w limit && ltb 0 room)) ∷ staying limit (cond (eqb w limit) (room - 1) room) ws

-- ---- the cap on keys

-- the keys that n records' words stand for
abbrev pub key_records : Units → (n : ℕ) → List ℕ → List KeyRecord
key_records u n xs = map (key_of u) (records 22 n xs)

-- no rank: the greatest word
abbrev pub top : ℕ
top = 2 ^ 64 - 1

-- the place of a key's unbiased rate in totalOrder
abbrev pub rate_place : (c : ℕ) → KeyRecord → ℕ
rate_place c k = place (float_word (unbiased_rate c k.demand))

-- the same by words
abbrev pub rate_place_of : (c rate last since : ℕ) → ℕ
rate_place_of c rate last since =
    place (float_word (unbiased_rate c (record { rate = float_of rate; attempts = 0; last = last; since = since })))

-- a key's rank in the order in which keys go, if it is not hot
unfoldable pub key_rank : (c : ℕ) → List HotEntry → KeyRecord → ℕ
key_rank c es k = cond (not (is_hot k.key es)) (rate_place c k) top

-- `victims` and `capped` by what they turn on: the time constant and the most keys
abbrev pub weaker : (c : ℕ) → KeyRecord → KeyRecord → Bool
weaker c a b = ranked_before (unbiased_rate c a.demand) (unbiased_rate c b.demand) a.key b.key

abbrev pub victims_of : (c most : ℕ) → List HotEntry → List KeyRecord → List KeyRecord
victims_of c most es ks = take (length ks - most) (sorted (weaker c) (only (λ (k : KeyRecord). not (is_hot k.key es)) ks))

unfoldable pub stays_under : (c most : ℕ) → List HotEntry → List KeyRecord → KeyRecord → Bool
stays_under c most es ks k = not (is_tracked (victims_of c most es ks) k.key)

-- valid keys at the front of their table, in words that are exactly theirs
pub record LentKeys (u : Units) (n : ℕ) (xs : List ℕ) : Type 0 where
  pub fit : n * 22 ≤ length xs
  pub exact : records 22 n xs ≡ map (key_words u) (key_records u n xs)
  pub valids : all (valid_key u) (key_records u n xs) ≡ true
  pub ascends : ascending 1 (records 22 n xs) ≡ true

-- ---- the fold of a key's estimators

-- `folded_key` by what it turns on
abbrev pub folded_for : (c d now : ℕ) → KeyRecord → KeyRecord
folded_for c d now k =
    record {
      key = k.key;
      limit = k.limit;
      demand = folded c now k.demand;
      requests = folded d now k.requests;
      denials = folded d now k.denials;
      shadow_denials = folded d now k.shadow_denials;
      gcra = k.gcra;
    }

-- a record's words after the fold
abbrev pub folded_row : Units → (c d now : ℕ) → List ℕ → List ℕ
folded_row u c d now r = key_words u (folded_for c d now (key_of u r))

-- the words of one valid key
pub record LentKey (u : Units) (r : List ℕ) : Type 0 where
  pub exact : r ≡ key_words u (key_of u r)
  pub valid : valid_key u (key_of u r) ≡ true

-- ---- shadows

-- the key of a shadow's record
abbrev pub shadow_key : Units → List ℕ → ℕ
shadow_key u r = (shadow_of u r).key

-- ---- pass one over keys that are folded: which stay, and the hot entries then
module _ (par : Parameters) (s : Settings) (o : Others) (now n : ℕ) where
  unfoldable pub stay_flags : List KeyRecord → List HotEntry → List Bool
  stay_flags [] es = []
  stay_flags (k ∷ ks) es = stays par s o now n k (updated par s o now n k es).hot ∷ stay_flags ks (updated par s o now n k es).left

  unfoldable pub hot_after : List KeyRecord → List HotEntry → List HotEntry
  hot_after [] es = es
  hot_after (k ∷ ks) es = hot_after ks (updated par s o now n k es).left
