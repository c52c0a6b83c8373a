-- Laws: the hot set's words after many updates, each of which writes its entries in its turn.
use mathlib.Core.Path.{◌≡◌, refl, sym, ap, ◌∙◌}
use mathlib.Core.Bool.{true}
use mathlib.Core.List.{List, [], ◌∷◌, map}
use Prim.Native.Nat.{ℕ, ◌*◌, ◌≤◌}
use native.Mathlib.Omega.{arith}
use lib.Ieee.{Float}
use lib.ListN.{length, drop}
use Rattle.records.specs.Records.{records, table}
use Rattle.hot.specs.declared.hot_set.HotEntry.{HotEntry}
use Rattle.hot.specs.declared.hot_set.HotSet.{HotSet}
use Rattle.hot.specs.HotSet.Set.{Outcome, Update, update_by, update_each, words, entry, entries, valid_entry}
use Rattle.hot.specs.HotSet.Calls.{rewritten_each}
use Rattle.questions.specs.Lists.{all}
use Rattle.hot.specs.HotSet.Steps.{EntriesReady}
use Rattle.hot.proofs.HotSet.Map.{Asc}
use Rattle.hot.proofs.HotSet.Table.{ready-table, asc-entries, table_same}
use Rattle.hot.proofs.HotSet.Theorems.{Kept, kept-update}
use Rattle.hot.proofs.HotSet.ValidLaws.{entry-back}
use Rattle.hot.proofs.HotSet.Words.{length-words}
use Rattle.records.proofs.Tables.TypedLaws.{all_back, records-written, written-again, past-written, length-written}

-- entries as a hot set of a size holds them stand at the front of words that were xs; past the size they are as they were
pub record Wrote (size : ℕ) (xs : List ℕ) (es : List HotEntry) (ys : List ℕ) : Type 0 where
  pub ascends : Asc es
  pub few : length es ≤ size
  pub front : ys ≡ table (map words es) ys
  pub past : drop (6 * size) ys ≡ drop (6 * size) xs
  pub long : length ys ≡ length xs

-- before the first update
pub wrote_none : (size n : ℕ) (xs : List ℕ) → EntriesReady n xs → length (entries n xs) ≤ size → Wrote size xs (entries n xs) xs
wrote_none size n xs h l = record {
  ascends = asc-entries n xs h;
  few = l;
  front = sym (table_same n xs h);
  past = refl;
  long = refl;
}

module _ (margin : Float) (s : HotSet) (now : ℕ) (xs : List ℕ) (room : 6 * s.max_size ≤ length xs) where
  abbrev size : ℕ
  size = s.max_size

  -- other entries in the place of those
  wrote-again : (es fs : List HotEntry) (ys : List ℕ) → Wrote size xs es ys → Asc fs → length fs ≤ size
      → Wrote size xs fs (table (map words fs) ys)
  wrote-again es fs ys w a l = record {
    ascends = a;
    few = l;
    front = written-again words 6 length-words fs ys;
    past = past-written words 6 length-words fs ys (6 * size) (omega arith) ∙ w.past;
    long = length-written words 6 length-words fs ys (omega (arith, w.long)) ∙ w.long;
  }

  -- one update after the other
  pub wrote-each : (us : List Update) (es : List HotEntry) (ys : List ℕ) → Wrote size xs es ys
      → Wrote size xs (update_each margin s now us es).left (rewritten_each margin s now us es ys)
  unfolding update_each rewritten_each
  wrote-each [] es ys w = w
  wrote-each (u ∷ us) es ys w =
      let o : Outcome = update_by margin s now u es in
      let k : Kept size u.key o =
      kept-update margin s u.key u.demand u.threshold now u.elsewhere es w.ascends w.few in
      wrote-each us o.left (table (map words o.left) ys) (wrote-again es o.left ys w k.ascends k.bound)

-- what stands there then
pub wrote-lent : (size n : ℕ) (xs : List ℕ) (es : List HotEntry) (ys : List ℕ) → 6 * size ≤ length xs → n ≡ length es → Wrote size xs es ys
    → all valid_entry es ≡ true
    → EntriesReady n ys
wrote-lent size n xs es ys room e w v =
    (rw (e, w.front) (ready-table es ys w.ascends v (omega (arith, w.few, w.long))))

pub wrote-read : (size n : ℕ) (xs : List ℕ) (es : List HotEntry) (ys : List ℕ) → n ≡ length es → Wrote size xs es ys → all valid_entry es ≡ true
    → entries n ys ≡ es
unfolding entries
wrote-read size n xs es ys e w v =
    (λ i. map entry (records 6 (e i) (w.front i)))
    ∙ ap (map entry) (records-written words 6 length-words es ys)
    ∙ all_back words entry valid_entry entry-back es v
