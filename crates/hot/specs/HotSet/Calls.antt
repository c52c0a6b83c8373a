-- The promise of each public function of the hot set: 01's questions in their order, and then its value. Definitions only.
use Rattle.std.specs.Prelude.{ℕ, ◌*◌, min, ◌≡◌, Bool, false, ◌&&◌, List, [], ◌∷◌, ◌++◌, map, leb, eqb, Float, length, get_or, take, drop}
use Rattle.std.specs.Float.{binary64}
use Rattle.std.specs.Float.Ieee.{of_bits}
use Rattle.float.specs.Magnitude.{magnitude}
use Rattle.records.specs.Records.{records, table, fits}
use Rattle.questions.specs.Questions.{Question, ◌asks◌, answer, changed}
use Rattle.questions.specs.Lists.{all}
use Rattle.records.specs.Typed.{exact}
use Rattle.hot.specs.HotSet.Set.{words, entry, entries, valid_entries, valid_size, is_valid, get, is_hot, since_of, primary_of, Outcome, update_with, Update, updates_of, update_by, update_each}
use Rattle.hot.specs.declared.hot_set.HotSet.{HotSet}
use Rattle.hot.specs.declared.hot_set.HotEntry.{HotEntry}
use Rattle.hot.specs.declared.hot_set.Updated.{Updated}
use Rattle.std.specs.declared.option.Option.{Option}
use Rattle.std.specs.declared.result.Result.{Result}
use Rattle.questions.specs.declared.Refusal.{Refusal}
use Rattle.questions.specs.Refusals.{answer_of}

-- 01, question 1: the words that a hot set takes; a size above its bound counts as that bound
abbrev pub room : ℕ → ℕ
room size = 6 * min size 64

abbrev pub ask_new : (size : ℕ) (xs : List ℕ) → List Question
ask_new size xs = (1 asks leb (room size) (length xs)) ∷ (6 asks valid_size size) ∷ []

abbrev pub ask_set : HotSet → List ℕ → List Question
ask_set s xs = (1 asks leb (room s.max_size) (length xs)) ∷ (2 asks is_valid s xs) ∷ []

-- the threshold may be any f64
abbrev pub ask_update : HotSet → List ℕ → Float → List Question
ask_update s xs demand =
    (1 asks leb (room s.max_size) (length xs)) ∷ (2 asks is_valid s xs) ∷ (11 asks magnitude demand) ∷ []

-- 01: 'only above least × 1.1'
abbrev pub eviction_margin : Float
eviction_margin = of_bits binary64 0x3ff199999999999a

-- the entries that a set holds in lent words
abbrev pub entries_of : HotSet → List ℕ → List HotEntry
entries_of s xs = entries s.len xs

-- `are_valid`: the first n records are within the words, and those of valid entries
abbrev pub SaidValid : (xs : List ℕ) (n : ℕ) → Bool → Type 0
SaidValid xs n r = r ≡ (fits (length xs) 6 n && (exact words entry (records 6 n xs) && valid_entries (entries n xs)))

-- `HotSet::new`
abbrev pub MadeNew : (xs : List ℕ) (cooldown size : ℕ) → Result HotSet Refusal → Type 0
MadeNew xs cooldown size r =
    answer_of r ≡ answer (ask_new size xs) (record { cooldown = cooldown; max_size = size; len = 0 })

-- an answer with the number of entries afterwards
abbrev pub counted : HotSet → Bool → ℕ → Updated
counted s b n = record { is_hot = b; set = record { cooldown = s.cooldown; max_size = s.max_size; len = n } }

-- what is answered where the entries become those of the outcome
abbrev pub updated : HotSet → Outcome → Updated
updated s o = counted s o.hot (length o.left)

-- the words after it: those of the new entries, then those from there on as they were
abbrev pub rewritten : Outcome → List ℕ → List ℕ
rewritten o xs = table (map words o.left) xs

-- `HotSet::update_with`
pub record UpdatedWith (s : HotSet) (xs : List ℕ) (key : ℕ) (demand threshold : Float) (now : ℕ) (elsewhere : Bool) (r : Result Updated Refusal) (ys : List ℕ) : Type 0 where
  pub answered : answer_of r ≡ answer (ask_update s xs demand) (updated s (update_with eviction_margin s key demand threshold now elsewhere (entries_of s xs)))
  pub left : ys ≡ changed (ask_update s xs demand) xs (rewritten (update_with eviction_margin s key demand threshold now elsewhere (entries_of s xs)) xs)

-- `HotSet::update`: no peer holds the key primary
abbrev pub UpdatedAlone : (s : HotSet) (xs : List ℕ) (key : ℕ) (demand threshold : Float) (now : ℕ) → Result Updated Refusal → List ℕ → Type 0
UpdatedAlone s xs key demand threshold now r ys = UpdatedWith s xs key demand threshold now false r ys

-- ---- `HotSet::update_each`, of the first word of each of n records of w words

-- the keys, and a demand, a threshold and a flag for each, are within what is lent
unfoldable pub updates_fit : (keys w n demands thresholds elsewhere : ℕ) → Bool
updates_fit keys w n demands thresholds elsewhere =
    fits keys w n && (leb n demands && (leb n thresholds && leb n elsewhere))

-- 'Is each demand .. given to the hot set, finite with a clear sign bit?' is asked of the n demands alone
abbrev pub ask_set_each : HotSet → (xs : List ℕ) (n : ℕ) (demands : List Float) (room : ℕ) → List Question
ask_set_each s xs n demands room = ask_set s xs ++ ((11 asks all magnitude (take n demands)) ∷ (16 asks leb n room) ∷ [])

abbrev pub ask_each : HotSet → (xs keys : List ℕ) (w n : ℕ) (demands thresholds : List Float) (elsewhere : List Bool) (room : ℕ) → List Question
ask_each s xs keys w n demands thresholds elsewhere room =
    (1 asks updates_fit (length keys) w n (length demands) (length thresholds) (length elsewhere))
    ∷ ask_set_each s xs n demands room

-- the updates that are lent
abbrev pub lent_updates : (keys : List ℕ) (w n : ℕ) (demands thresholds : List Float) (elsewhere : List Bool) → List Update
lent_updates keys w n demands thresholds elsewhere =
    updates_of (map (λ (r : List ℕ). get_or r 0 0) (records w n keys)) demands thresholds elsewhere

-- the words after them: each update writes its entries in its turn
unfoldable pub rewritten_each : (margin : Float) → HotSet → (now : ℕ) → List Update → List HotEntry → List ℕ → List ℕ
rewritten_each margin s now [] es xs = xs
rewritten_each margin s now (u ∷ us) es xs =
    let o = update_by margin s now u es in
    rewritten_each margin s now us o.left (rewritten o xs)

-- the set with that many entries
abbrev pub sized : HotSet → ℕ → HotSet
sized s n = record { cooldown = s.cooldown; max_size = s.max_size; len = n }

pub record UpdatedEach
    (s : HotSet) (xs keys : List ℕ) (w n : ℕ) (demands thresholds : List Float) (elsewhere : List Bool) (now : ℕ) (out : List Bool)
    (r : Result HotSet Refusal) (ys : List ℕ) (out' : List Bool)
    : Type 0
  where
    pub answered :
        answer_of r ≡ answer (ask_each s xs keys w n demands thresholds elsewhere (length out))
        (sized s (length (update_each eviction_margin s now (lent_updates keys w n demands thresholds elsewhere) (entries_of s xs)).left))
    pub left :
        ys ≡ changed (ask_each s xs keys w n demands thresholds elsewhere (length out)) xs
        (rewritten_each eviction_margin s now (lent_updates keys w n demands thresholds elsewhere) (entries_of s xs) xs)
    pub output :
        out' ≡ changed (ask_each s xs keys w n demands thresholds elsewhere (length out)) out
        ((update_each eviction_margin s now (lent_updates keys w n demands thresholds elsewhere) (entries_of s xs)).hot ++ drop n out)

-- the readers: `is_hot`, `hot_since`, `is_primary`, `len`, `is_empty`
abbrev pub SaidHot : HotSet → List ℕ → (key : ℕ) → Result Bool Refusal → Type 0
SaidHot s xs key r = answer_of r ≡ answer (ask_set s xs) (is_hot key (entries_of s xs))

abbrev pub SaidSince : HotSet → List ℕ → (key : ℕ) → Result (Option ℕ) Refusal → Type 0
SaidSince s xs key r = answer_of r ≡ answer (ask_set s xs) (since_of (get key (entries_of s xs)))

abbrev pub SaidPrimary : HotSet → List ℕ → (key : ℕ) → Result Bool Refusal → Type 0
SaidPrimary s xs key r = answer_of r ≡ answer (ask_set s xs) (primary_of (get key (entries_of s xs)))

abbrev pub SaidLen : HotSet → List ℕ → Result ℕ Refusal → Type 0
SaidLen s xs r = answer_of r ≡ answer (ask_set s xs) s.len

abbrev pub SaidEmpty : HotSet → List ℕ → Result Bool Refusal → Type 0
SaidEmpty s xs r = answer_of r ≡ answer (ask_set s xs) (eqb s.len 0)
