-- The hot set (003), on the list of its entries in ascending order of their keys. Definitions only.
use Rattle.std.specs.Prelude.{ℕ, ◌-◌, Bool, true, false, cond, ◌&&◌, ◌||◌, List, [], ◌∷◌, ◌++◌, map, ltb, leb, eqb, Float, length, get_or}
use Rattle.std.specs.Float.{binary64}
use Rattle.std.specs.Float.Ieee.{to_bits, of_bits, lt, mul, fits}
use Rattle.float.specs.Magnitude.{magnitude}
use Rattle.float.specs.Order.{total_less}
use Rattle.records.specs.Records.{records, ascending}
use Rattle.records.specs.Fields.{flag_word, flag_of, time_words, time_of}
use Rattle.questions.specs.Lists.{all, first, present, those, replaced}
use Rattle.records.specs.Typed.{is_word, exact}
use Rattle.hot.specs.declared.hot_set.HotEntry.{HotEntry}
use Rattle.hot.specs.declared.hot_set.HotSet.{HotSet}
use Rattle.std.specs.declared.option.Option.{Option}
use Rattle.std.specs.declared.option.Option.TheVariants.{None, Some}

-- ---- an entry as words (01, 'The saved image', kind 3: key, demand, primary, cooling since?, since)

-- the words of an entry's record
unfoldable pub words : HotEntry → List ℕ
words e =
    e.key ∷ to_bits binary64 e.demand ∷ flag_word e.primary ∷ (time_words e.cooling_since ++ (e.since ∷ []))

-- the entry of a record's words
unfoldable pub entry : List ℕ → HotEntry
entry r = record {
  key = get_or r 0 0;
  demand = of_bits binary64 (get_or r 1 0);
  primary = flag_of (get_or r 2 0);
  cooling_since = time_of (get_or r 3 0) (get_or r 4 0);
  since = get_or r 5 0;
}

-- the first n entries in lent words
unfoldable pub entries : ℕ → List ℕ → List HotEntry
entries n xs = map entry (records 6 n xs)

-- ---- validity (01, 'The saved image')

-- 'demands are finite with a clear sign bit', 'values fit their Rust widths'
unfoldable pub valid_entry : HotEntry → Bool
valid_entry e = all is_word (words e) && (fits binary64 e.demand && magnitude e.demand)

-- records of kind 3, 'ids strictly ascending'
unfoldable pub valid_entries : List HotEntry → Bool
valid_entries es = all valid_entry es && ascending 1 (map words es)

-- 01, question 6: the hot set size is 1 to 64
unfoldable pub valid_size : ℕ → Bool
valid_size n = leb 1 n && leb n 64

-- a lone hot set with its entries: the size passes 6, and counts keep their bounds
unfoldable pub valid : HotSet → List HotEntry → Bool
valid s es = valid_size s.max_size && (leb s.len s.max_size && valid_entries es)

-- question 2: could the set, with its entries in lent words, stand in a valid image?
unfoldable pub is_valid : HotSet → List ℕ → Bool
is_valid s xs = exact words entry (records 6 s.len xs) && valid s (entries s.len xs)

-- ---- 003's map of keys to entries, ascending

-- the key by which entries ascend
abbrev pub entry_key : HotEntry → ℕ
entry_key e = e.key

-- the entry of a key
unfoldable pub get : ℕ → List HotEntry → Option HotEntry
get k es = first (those entry_key k es)

-- the entry under its key, in place of one that has it
unfoldable pub put : HotEntry → List HotEntry → List HotEntry
put e es = replaced entry_key e.key (e ∷ []) es

-- without the entry of a key
unfoldable pub remove : ℕ → List HotEntry → List HotEntry
remove k es = replaced entry_key k [] es

-- ---- 003, `weakest`: the totalOrder-least demand, ties to the smaller key

-- a is weaker than b
unfoldable pub weaker : HotEntry → HotEntry → Bool
weaker a b =
    let x = to_bits binary64 a.demand in
    let y = to_bits binary64 b.demand in
    total_less x y || (eqb x y && ltb a.key b.key)

-- the weakest of e and es
unfoldable pub weakest_of : HotEntry → List HotEntry → HotEntry
weakest_of e [] = e
weakest_of e (x ∷ xs) = weakest_of (cond (weaker x e) x e) xs

unfoldable pub weakest : List HotEntry → Option HotEntry
weakest [] = None
weakest (e ∷ es) = Some (weakest_of e es)

-- ---- 003, `promote`

-- whether the key is hot afterwards, and the entries then
pub record Outcome : Type 0 where
  pub hot : Bool
  pub left : List HotEntry

abbrev pub hot_with : List HotEntry → Outcome
hot_with es = record { hot = true; left = es }

abbrev pub cold_with : List HotEntry → Outcome
cold_with es = record { hot = false; left = es }

-- 003, `insert`: an entry made at `now`
abbrev pub new_entry : (key : ℕ) (demand : Float) (primary : Bool) (now : ℕ) → HotEntry
new_entry key demand primary now =
    record { key = key; demand = demand; primary = primary; cooling_since = None; since = now }

-- an entry that is there already
abbrev pub renewed : (demand : Float) (primary : Bool) → HotEntry → HotEntry
renewed demand primary e =
    record { key = e.key; demand = demand; primary = primary; cooling_since = None; since = e.since }

-- 'a full set admits an absent key only above least × 1.1, replacing the totalOrder-least'; a full set has a weakest entry
unfoldable pub evict : (margin : Float) → HotEntry → List HotEntry → Option HotEntry → Outcome
evict margin e es None = cold_with es
evict margin e es (Some w) =
    cond (lt (mul binary64 w.demand margin) e.demand) (hot_with (put e (remove w.key es))) (cold_with es)

-- an absent key
unfoldable pub admit : (margin : Float) (size : ℕ) → HotEntry → List HotEntry → Outcome
admit margin size e es = cond (ltb (length es) size) (hot_with (put e es)) (evict margin e es (weakest es))

unfoldable pub promote_from : (margin : Float) (size key : ℕ) (demand : Float) (primary : Bool) (now : ℕ) → List HotEntry → Option HotEntry → Outcome
promote_from margin size key demand primary now es (Some e) = hot_with (put (renewed demand primary e) es)
promote_from margin size key demand primary now es None = admit margin size (new_entry key demand primary now) es

unfoldable pub promote : (margin : Float) (size key : ℕ) (demand : Float) (primary : Bool) (now : ℕ) → List HotEntry → Outcome
promote margin size key demand primary now es = promote_from margin size key demand primary now es (get key es)

-- ---- 003, `cool`, of one entry

-- a primary entry begins to cool, and is primary no more once it has cooled for the cooldown
abbrev pub count_down : (cooldown : ℕ) (demand : Float) (now : ℕ) → HotEntry → Option ℕ → HotEntry
count_down cooldown demand now e None =
    record { key = e.key; demand = demand; primary = true; cooling_since = Some now; since = e.since }
count_down cooldown demand now e (Some t) =
    cond (leb cooldown (now - t))
    (record { key = e.key; demand = demand; primary = false; cooling_since = None; since = e.since })
    (record { key = e.key; demand = demand; primary = true; cooling_since = Some t; since = e.since })

unfoldable pub cooled : (cooldown : ℕ) (demand : Float) (now : ℕ) → HotEntry → HotEntry
cooled cooldown demand now e =
    cond e.primary
    (count_down cooldown demand now e e.cooling_since)
    (record { key = e.key; demand = demand; primary = false; cooling_since = e.cooling_since; since = e.since })

abbrev pub cool_from : (cooldown : ℕ) (demand : Float) (now : ℕ) → List HotEntry → Option HotEntry → List HotEntry
cool_from cooldown demand now es None = es
cool_from cooldown demand now es (Some e) = put (cooled cooldown demand now e) es

unfoldable pub cool : (cooldown key : ℕ) (demand : Float) (now : ℕ) → List HotEntry → List HotEntry
cool cooldown key demand now es = cool_from cooldown demand now es (get key es)

-- ---- 003, `update_with`

-- not above the threshold, after `cool`
unfoldable pub settle : (margin : Float) (size key : ℕ) (demand : Float) (now : ℕ) (elsewhere : Bool) → List HotEntry → Option HotEntry → Outcome
settle margin size key demand now elsewhere es (Some e) = cond (e.primary || elsewhere) (hot_with es) (cold_with (remove key es))
settle margin size key demand now elsewhere es None = cond elsewhere (promote margin size key demand false now es) (cold_with es)

unfoldable pub below_threshold : (margin : Float) (cooldown size key : ℕ) (demand : Float) (now : ℕ) (elsewhere : Bool) → List HotEntry → Outcome
below_threshold margin cooldown size key demand now elsewhere es =
    let cooler = cool cooldown key demand now es in
    settle margin size key demand now elsewhere cooler (get key cooler)

unfoldable pub update_with : (margin : Float) → HotSet → (key : ℕ) (demand threshold : Float) (now : ℕ) (elsewhere : Bool) → List HotEntry → Outcome
update_with margin s key demand threshold now elsewhere es =
    cond (lt threshold demand)
    (promote margin s.max_size key demand true now es)
    (below_threshold margin s.cooldown s.max_size key demand now elsewhere es)

-- ---- updates of many keys, one after the other

-- what one update is given
pub record Update : Type 0 where
  pub key : ℕ
  pub demand : Float
  pub threshold : Float
  pub elsewhere : Bool

-- keys with their demands, thresholds and flags, each at the key's place
unfoldable pub updates_of : (keys : List ℕ) (demands thresholds : List Float) (elsewhere : List Bool) → List Update
updates_of [] ds ts bs = []
updates_of (k ∷ ks) [] ts bs = []
updates_of (k ∷ ks) (d ∷ ds) [] bs = []
updates_of (k ∷ ks) (d ∷ ds) (t ∷ ts) [] = []
updates_of (k ∷ ks) (d ∷ ds) (t ∷ ts) (b ∷ bs) = record { key = k; demand = d; threshold = t; elsewhere = b } ∷ updates_of ks ds ts bs

abbrev pub update_by : (margin : Float) → HotSet → (now : ℕ) → Update → List HotEntry → Outcome
update_by margin s now u es = update_with margin s u.key u.demand u.threshold now u.elsewhere es

-- whether each key is hot after its own update, and the entries after all
pub record Outcomes : Type 0 where
  pub hot : List Bool
  pub left : List HotEntry

unfoldable pub update_each : (margin : Float) → HotSet → (now : ℕ) → List Update → List HotEntry → Outcomes
update_each margin s now [] es = record { hot = []; left = es }
update_each margin s now (u ∷ us) es =
    let o = update_by margin s now u es in
    let rest = update_each margin s now us o.left in
    record { hot = o.hot ∷ rest.hot; left = rest.left }

-- ---- 003, the readers
abbrev pub since_of : Option HotEntry → Option ℕ
since_of None = None
since_of (Some e) = Some e.since

abbrev pub primary_of : Option HotEntry → Bool
primary_of None = false
primary_of (Some e) = e.primary

abbrev pub is_hot : ℕ → List HotEntry → Bool
is_hot key es = present (get key es)
