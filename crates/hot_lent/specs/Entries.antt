-- The hot set over a lent slice of entries (01: 'the hot set also works on a lent slice of entries .. at most 64 records'). Definitions only.
use Rattle.std.specs.Prelude.{ℕ, ◌≡◌, Bool, List, ◌++◌, map, Float, length, take, drop}
use Rattle.records.specs.Records.{flat}
use Rattle.questions.specs.Questions.{answer, changed}
use Rattle.hot.specs.HotSet.Set.{words, Outcome, update_with}
use Rattle.hot.specs.HotSet.Calls.{ask_update, eviction_margin, entries_of, updated}
use Rattle.hot.specs.declared.hot_set.HotEntry.{HotEntry}
use Rattle.hot.specs.declared.hot_set.HotSet.{HotSet}
use Rattle.std.specs.declared.result.Result.{Result}
use Rattle.questions.specs.declared.Refusal.{Refusal}
use Rattle.questions.specs.Refusals.{answer_of}
use Rattle.hot.specs.declared.hot_set.Updated.{Updated}

-- the words of lent entries, of which at most 64 count: what the promises over words are asked of
unfoldable pub lent_words : List HotEntry → List ℕ
lent_words es = flat (map words (take 64 es))

-- what an update makes of the entries that the set holds
abbrev pub outcome : HotSet → List HotEntry → (key : ℕ) (demand threshold : Float) (now : ℕ) (elsewhere : Bool) → Outcome
outcome s es key demand threshold now elsewhere = update_with eviction_margin s key demand threshold now elsewhere (entries_of s (lent_words es))

-- `update_with`: the answer of the one over words; the entries of the outcome, then those from there on as they were
pub record UpdatedEntries (s : HotSet) (es : List HotEntry) (key : ℕ) (demand threshold : Float) (now : ℕ) (elsewhere : Bool) (r : Result Updated Refusal)
    (fs : List HotEntry) : Type 0 where
  pub answered : answer_of r ≡ answer (ask_update s (lent_words es) demand) (updated s (outcome s es key demand threshold now elsewhere))
  pub left :
      let o = outcome s es key demand threshold now elsewhere in
      fs ≡ changed (ask_update s (lent_words es) demand) es (o.left ++ drop (length o.left) es)
