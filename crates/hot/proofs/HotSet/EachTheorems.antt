-- What updates of many keys keep: a hot set that passes its questions passes them again, and its entries are read back from the words.
use Prim.Native.Nat.{ℕ, suc, ◌*◌, ◌≤◌, ◌<◌, zero-le, suc-le-suc}
use mathlib.Core.Path.{◌≡◌, refl, sym, ap, ◌∙◌, subst}
use mathlib.Core.Bool.{Bool, true, cond}
use mathlib.Core.List.{List, [], ◌∷◌, ◌++◌, map}
use native.Mathlib.Omega.{arith}
use lib.Ieee.{Float, binary64, fits}
use lib.ListN.{length, get_or, drop, length-map}
use Rattle.records.specs.Records.{records, table}
use Rattle.questions.proofs.Tests.{both}
use Rattle.records.proofs.Words.RecordLaws.{length-records}
use Rattle.records.proofs.Tables.TypedLaws.{past-written}
use Rattle.questions.specs.Questions.{given, passes}
use Rattle.questions.proofs.Answers.{given-passed}
use Rattle.questions.specs.Lists.{all}
use Rattle.records.specs.Typed.{is_word}
use Rattle.hot.specs.HotSet.Set.{words, entries, Outcome, update_with, Update, updates_of, update_by, update_each}
use Rattle.hot.specs.HotSet.Calls.{room, ask_set, eviction_margin, entries_of, ask_each, lent_updates, rewritten, rewritten_each, sized, updated, UpdatedEach}
use Rattle.hot.specs.HotSet.Steps.{Acted}
use Rattle.hot.specs.declared.hot_set.HotEntry.{HotEntry}
use Rattle.hot.specs.declared.hot_set.HotSet.{HotSet}
use Rattle.hot.proofs.HotSet.Words.{length-entries, length-words}
use Rattle.hot.proofs.HotSet.Table.{table_same}
use Rattle.hot.proofs.HotSet.Answers.{passed-set}
use Rattle.hot.proofs.HotSet.ValidLaws.{GoodUpdate}
use Rattle.hot.proofs.HotSet.Theorems.{kept, acted-long, acted-read, acted-again}
use Rattle.hot.proofs.HotSet.EachLaws.{EachPassed, each-passed, lent_length}
use Rattle.questions.proofs.ListLaws.{map_at}
use Rattle.records.proofs.Tables.TypedLaws.{record-words}
use Rattle.std.specs.declared.result.Result.{Result}
use Rattle.questions.specs.declared.Refusal.{Refusal}
use Rattle.questions.specs.Refusals.{answer_of}

-- updates with keys of 64 bits and demands that are finite with a clear sign bit, at a reading of 64 bits
abbrev pub GoodUpdates : (now : ℕ) → List Update → Type 0
GoodUpdates now [] = Unit
GoodUpdates now (u ∷ us) = GoodUpdate u.key u.demand now × GoodUpdates now us

good_of : (now : ℕ) (z : Float) (ks : List ℕ) (ds ts : List Float) (bs : List Bool) → ((i : ℕ) → i < length ks → GoodUpdate (get_or ks i 0) (get_or ds i z) now) → GoodUpdates now (updates_of ks ds ts bs)
unfolding updates_of
good_of now z [] ds ts bs h = tt
good_of now z (k ∷ ks) [] ts bs h = tt
good_of now z (k ∷ ks) (d ∷ ds) [] bs h = tt
good_of now z (k ∷ ks) (d ∷ ds) (t ∷ ts) [] h = tt
good_of now z (k ∷ ks) (d ∷ ds) (t ∷ ts) (b ∷ bs) h = (h 0 (suc-le-suc zero-le), good_of now z ks ds ts bs (λ i l. h (suc i) (suc-le-suc l)))

-- the first of words is a word
first-word : (r : List ℕ) → all is_word r ≡ true → is_word (get_or r 0 0) ≡ true
unfolding all
first-word [] h = refl
first-word (x ∷ r) h = (both (is_word x) (all is_word r) h).0

-- an answer for each
pub each-answers : (margin : Float) (s : HotSet) (now : ℕ) (us : List Update) (es : List HotEntry) → length (update_each margin s now us es).hot ≡ length us
unfolding update_each
each-answers margin s now [] es = refl
each-answers margin s now (u ∷ us) es = ap suc (each-answers margin s now us (update_by margin s now u es).left)

-- what holds of the words ys that hold the entries es where xs held others
pub record KeptEach (s : HotSet) (es : List HotEntry) (xs ys : List ℕ) : Type 0 where
  pub asked : passes (ask_set (sized s (length es)) ys) ≡ true
  pub read : entries (length es) ys ≡ es
  pub long : length ys ≡ length xs
  pub past : drop (room s.max_size) ys ≡ drop (room s.max_size) xs

module _ (margin : Float) (s : HotSet) (now : ℕ) where
  -- one update
  module _ (u : Update) (n : GoodUpdate u.key u.demand now) (es : List HotEntry) (xs : List ℕ) (p : passes (ask_set (sized s (length es)) xs) ≡ true) (r : entries (length es) xs ≡ es) where
    abbrev set : HotSet
    set = sized s (length es)

    abbrev made : Outcome
    made = update_by margin set now u (entries_of set xs)

    same : made ≡ update_by margin s now u es
    unfolding update_with
    same = ap (update_by margin s now u) r

    acted : Acted set made xs (updated set made) (rewritten made xs)
    acted = record { says = refl; left = refl }

    small : length made.left * 6 ≤ room s.max_size
    small =
        let b = (kept margin set xs p u.key u.demand u.threshold now u.elsewhere).bound in
        let m = (passed-set set xs p).most_size in
        omega arith

    kept-made : KeptEach s made.left xs (rewritten made xs)
    kept-made = record {
      asked = acted-again margin set xs p u.key u.demand u.threshold now u.elsewhere (updated set made) (rewritten made xs) acted n;
      read = acted-read margin set xs p u.key u.demand u.threshold now u.elsewhere (updated set made) (rewritten made xs) acted n.demand_f64;
      long = acted-long margin set xs p u.key u.demand u.threshold now u.elsewhere (updated set made) (rewritten made xs) acted;
      past = past-written words 6 length-words made.left xs (room s.max_size) small;
    }

    pub kept-one : KeptEach s (update_by margin s now u es).left xs (rewritten (update_by margin s now u es) xs)
    kept-one = subst (λ (o : Outcome). KeptEach s o.left xs (rewritten o xs)) same kept-made

  -- one after the other
  pub kept-each : (us : List Update) → GoodUpdates now us → (es : List HotEntry) (xs : List ℕ) → passes (ask_set (sized s (length es)) xs) ≡ true → entries (length es) xs ≡ es → KeptEach s (update_each margin s now us es).left xs (rewritten_each margin s now us es xs)
  unfolding update_each rewritten_each
  kept-each [] n es xs p r = record { asked = p; read = r; long = refl; past = refl }
  kept-each (u ∷ us) n es xs p r =
      let one = kept-one u n.0 es xs p r in
      let rest = kept-each us n.1 (update_by margin s now u es).left (rewritten (update_by margin s now u es) xs) one.asked one.read in
      record { asked = rest.asked; read = rest.read; long = rest.long ∙ one.long; past = rest.past ∙ one.past }

-- ---- the same of the call
module _ (s : HotSet) (xs keys : List ℕ) (w n : ℕ) (demands thresholds : List Float) (elsewhere : List Bool) (now : ℕ) (out : List Bool) (r : Result HotSet Refusal) (ys : List ℕ) (out' : List Bool) (c : UpdatedEach s xs keys w n demands thresholds elsewhere now out r ys out') (z : Float) (hk : all is_word keys ≡ true) (f : (i : ℕ) → i < n → fits binary64 (get_or demands i z) ≡ true) (hn : is_word now ≡ true) (t : HotSet) (e : answer_of r ≡ given t) where
  abbrev pub all-updates : List Update
  all-updates = lent_updates keys w n demands thresholds elsewhere

  abbrev pub all_left : List HotEntry
  all_left = (update_each eviction_margin s now all-updates (entries_of s xs)).left

  asked-each : (passes (ask_each s xs keys w n demands thresholds elsewhere (length out)) ≡ true) × (t ≡ sized s (length all_left))
  asked-each = given-passed (ask_each s xs keys w n demands thresholds elsewhere (length out)) t (sized s (length all_left)) (sym e ∙ c.answered)

  passed : EachPassed s xs keys w n demands thresholds elsewhere (length out)
  passed = each-passed s xs keys w n demands thresholds elsewhere (length out) asked-each.0

  -- the set has its size and its cooldown, and as many entries as are left
  pub each_set : t ≡ sized s (length all_left)
  each_set = asked-each.1

  written : ys ≡ rewritten_each eviction_margin s now all-updates (entries_of s xs) xs
  written = c.left ∙ ap (λ (b : Bool). cond b (rewritten_each eviction_margin s now all-updates (entries_of s xs) xs) xs) asked-each.0

  -- an answer for each key, and then the output as it was
  pub each-output : out' ≡ (update_each eviction_margin s now all-updates (entries_of s xs)).hot ++ drop n out
  each-output = c.output ∙ ap (λ (b : Bool). cond b ((update_each eviction_margin s now all-updates (entries_of s xs)).hot ++ drop n out) out) asked-each.0

  pub each-count : length (update_each eviction_margin s now all-updates (entries_of s xs)).hot ≡ n
  each-count =
      each-answers eviction_margin s now all-updates (entries_of s xs)
      ∙ lent_length keys w n demands thresholds elsewhere passed.fit

  abbrev firsts : List ℕ
  firsts = map (λ (k : List ℕ). get_or k 0 0) (records w n keys)

  key_word : (i : ℕ) → i < n → is_word (get_or firsts i 0) ≡ true
  key_word i l =
      ap is_word (map_at (λ (k : List ℕ). get_or k 0 0) [] 0 (records w n keys) i (omega (arith, length-records w n keys)))
      ∙ first-word (get_or (records w n keys) i []) (record-words w n keys i l hk)

  good : GoodUpdates now all-updates
  good =
      let many : length firsts ≡ n = length-map (records w n keys) _ ∙ length-records w n keys in
      good_of now z firsts demands thresholds elsewhere
      (λ i h. let l : i < n = subst (λ (m : ℕ). i < m) many h in record { key_word = key_word i l; demand_f64 = f i l; finite = passed.numbers z i l; now_word = hn })

  -- the set passes its questions again, and the words past its room are as they were
  pub each-kept : KeptEach s all_left xs ys
  each-kept =
      subst (λ (l : List ℕ). KeptEach s all_left xs l) (sym written)
      (kept-each eviction_margin s now all-updates good (entries_of s xs) xs
      (subst (λ (m : ℕ). passes (ask_set (sized s m) xs) ≡ true) (sym (length-entries s.len xs)) passed.asked)
      (ap (λ (m : ℕ). entries m xs) (length-entries s.len xs)))

  -- the words hold its entries: to write them would change nothing
  pub each-front : table (map words all_left) ys ≡ ys
  each-front =
      ap (λ (es : List HotEntry). table (map words es) ys) (sym each-kept.read)
      ∙ table_same (length all_left) ys (passed-set (sized s (length all_left)) ys each-kept.asked).ready
