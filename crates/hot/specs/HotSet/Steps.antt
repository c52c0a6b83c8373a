-- What the private functions of the hot set cite. Definitions only.
use Rattle.std.specs.Prelude.{ℕ, ◌*◌, ◌≤◌, ◌≡◌, Bool, true, ◌&&◌, List, ◌++◌, map, leb, Float, length, get_or, drop}
use Rattle.std.specs.Float.{binary64}
use Rattle.std.specs.Float.Ieee.{of_bits}
use Rattle.float.specs.Magnitude.{magnitude}
use Rattle.records.specs.Records.{records}
use Rattle.records.specs.Fields.{is_time}
use Rattle.hot.specs.HotSet.Set.{words, entries, valid_entries, weakest, Outcome, evict, promote, below_threshold, update_with, Update, update_each}
use Rattle.hot.specs.HotSet.Calls.{entries_of, updated, rewritten, rewritten_each, sized}
use Rattle.hot.specs.declared.hot_set.HotSet.{HotSet}
use Rattle.hot.specs.declared.hot_set.HotEntry.{HotEntry}
use Rattle.hot.specs.declared.hot_set.Updated.{Updated}

-- ---- question 2, asked word by word

-- words of a record that could be those of a valid entry: the demand is finite with a clear sign bit, a flag is 0 or 1, a time is 0 if missing
abbrev pub are_words : (demand primary cooling time : ℕ) → Bool
are_words demand primary cooling time = magnitude (of_bits binary64 demand) && (leb primary 1 && is_time cooling time)

-- a record's, whatever the key and since when it is hot
unfoldable pub are_entry_words : List ℕ → Bool
are_entry_words r = are_words (get_or r 1 0) (get_or r 2 0) (get_or r 3 0) (get_or r 4 0)

-- the first n records are within the words, and those of valid entries
pub record EntriesReady (n : ℕ) (xs : List ℕ) : Type 0 where
  pub fit : n * 6 ≤ length xs
  pub exact : map words (entries n xs) ≡ records 6 n xs
  pub good : valid_entries (entries n xs) ≡ true

-- what an outcome makes of the value and of the words
pub record Acted (s : HotSet) (o : Outcome) (xs : List ℕ) (r : Updated) (ys : List ℕ) : Type 0 where
  pub says : r ≡ updated s o
  pub left : ys ≡ rewritten o xs

abbrev pub Evicts : (margin : Float) → HotSet → HotEntry → (xs : List ℕ) → Updated → List ℕ → Type 0
Evicts margin s e xs r ys = Acted s (evict margin e (entries_of s xs) (weakest (entries_of s xs))) xs r ys

abbrev pub Promotes : (margin : Float) → HotSet → (key : ℕ) (demand : Float) (primary : Bool) (now : ℕ) (xs : List ℕ) → Updated → List ℕ → Type 0
Promotes margin s key demand primary now xs r ys =
    Acted s (promote margin s.max_size key demand primary now (entries_of s xs)) xs r ys

abbrev pub Cools : (margin : Float) → HotSet → (key : ℕ) (demand : Float) (now : ℕ) (elsewhere : Bool) (xs : List ℕ) → Updated → List ℕ → Type 0
Cools margin s key demand now elsewhere xs r ys =
    Acted s (below_threshold margin s.cooldown s.max_size key demand now elsewhere (entries_of s xs)) xs r ys

abbrev pub Updates : (margin : Float) → HotSet → (key : ℕ) (demand threshold : Float) (now : ℕ) (elsewhere : Bool) (xs : List ℕ) → Updated → List ℕ → Type 0
Updates margin s key demand threshold now elsewhere xs r ys =
    Acted s (update_with margin s key demand threshold now elsewhere (entries_of s xs)) xs r ys

-- what updates of many keys, one after the other, make of the set, of the words and of the output
pub record UpdatesEach
    (margin : Float) (s : HotSet) (xs : List ℕ) (us : List Update) (now n : ℕ) (out : List Bool)
    (r : HotSet) (ys : List ℕ) (out' : List Bool)
    : Type 0
  where
    pub says : r ≡ sized s (length (update_each margin s now us (entries_of s xs)).left)
    pub left : ys ≡ rewritten_each margin s now us (entries_of s xs) xs
    pub output : out' ≡ (update_each margin s now us (entries_of s xs)).hot ++ drop n out
