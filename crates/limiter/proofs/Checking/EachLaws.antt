-- Laws: many checks, one after the other, from the key table to the limiter's whole state.
use borrow.Rule.Slice.PartMut.{put_mid}
use Prim.Native.Nat.{◌-◌, ℕ, suc, ◌+◌, ◌*◌, ◌≤◌, ◌<◌}
use mathlib.Core.Path.{◌≡◌, refl, sym, ap, ◌∙◌, subst}
use mathlib.Core.Bool.{Bool, true, false, cond, ◌&&◌}
use mathlib.Core.List.{List, [], ◌∷◌, ◌++◌, map}
use native.Mathlib.Nat.{add-zero, mul-le-mul_right}
use native.Mathlib.Omega.{arith}
use borrow.Author.Tests.{leb-true}
use lib.Dec.{leb, lit<}
use lib.ListN.{length, get_or, take, drop, length-map}
use lib.Seq.{drop-drop, get_or-take, get_or-drop}
use Rattle.records.specs.Records.{records, flat, table, ascending, fits}
use Rattle.records.specs.Words.{paste}
use Rattle.questions.proofs.Tests.{both, and_intro}
use Rattle.records.proofs.Words.RecordLaws.{length-records, records-split}
use Rattle.records.proofs.Tables.TableLaws.{length-flat}
use Rattle.gcra.specs.declared.Decision.{Decision}
use Rattle.gcra.specs.declared.Decision.TheVariants.{Allow, Deny}
use Rattle.gcra.specs.Packed.{valid_burst, Accepted}
use Rattle.questions.specs.Questions.{Question, Answer, refused, given, passes, first_no}
use Rattle.questions.proofs.Answers.{answer-no, answer-passed, changed-passed, kept-no, passed_none}
use Rattle.gcra.specs.declared.Units.{Units}
use Rattle.demand.specs.Allocation.{is_cluster_size}
use Rattle.questions.specs.Lists.{all}
use Rattle.records.specs.Typed.{is_word, exact}
use Rattle.records.proofs.Tables.TabledLaws.{table_same}
use Rattle.questions.proofs.OnlyLaws.{map-append}
use Rattle.records.proofs.Tables.TypedLaws.{words-of-exact, wide-map, records-written, all_back, all-exact, length-written}
use Rattle.limiter.specs.declared.Limiter.{Limiter}
use Rattle.limiter.specs.Answered.{Checked}
use Rattle.limiter.specs.State.{KeyRecord, LimiterState, LimiterTables, tables, lengths, have_room, key_words, key_of, put_key, settings_of, valid_settings, valid_key, valid, state_of, is_valid, value_of, written, units_in, units_of}
use Rattle.limiter.specs.Checks.{holding, entry, checked_key, check_in, own_limit, has_place, check_key_questions, Answers, check_one, after_one, check_each}
use Rattle.limiter.specs.Calls.{answer_words, here, each_asked, ChecksEach}
use Rattle.limiter.specs.Steps.CheckSteps.{keys_in, keys_only, counting, Ready, ChecksKey}
use Rattle.limiter.specs.Steps.ManySteps.{PairsReady, pairs_checked, ChecksPairs}
use Rattle.limiter.proofs.Calls.CheckValidLaws.{check-each-valid}
use Rattle.limiter.proofs.States.KeyListLaws.{rising, rising-says, rising-ascends}
use Rattle.limiter.proofs.States.RecordValidLaws.{limit-burst}
use Rattle.limiter.proofs.States.StateValidLaws.{key_of_key, settings-say, ValidState, valid-says, valid-intro, units-of-accepted}
use Rattle.limiter.proofs.States.WrittenLaws.{key_back, key-long}
use Rattle.records.proofs.Changes.KeepLaws.{table-over, paste_more}
use Rattle.limiter.proofs.Checking.KeyTableLaws.{counted-keys, no-fewer}
use Rattle.limiter.proofs.Checking.LiftLaws.{state-valid, ready, shadows-counted, shadows-still, value_after, written_after}
use Rattle.std.specs.declared.option.Option.TheVariants.{None}
use Rattle.std.specs.declared.result.Result.TheVariants.{Ok, Err}
use Rattle.questions.specs.Refusals.{answer_of, number}
use Rattle.questions.proofs.RefusalLaws.{number-nonzero}
use Rattle.questions.specs.declared.Refusal.{Refusal}

-- ---- lists of checks
module _ (u : Units) (n : ℕ) where
  -- a check of a pair, and what it leaves
  abbrev one : LimiterState → List ℕ → Answer Decision
  one s r = check_one u n s (get_or r 0 0) (get_or r 1 0)

  abbrev next : LimiterState → List ℕ → LimiterState
  next s r = after_one u n s (get_or r 0 0) (get_or r 1 0)

  -- an answer for each
  pub each-length : (rs : List (List ℕ)) (s : LimiterState) → length (check_each u n rs s).answers ≡ length rs
  unfolding check_each
  each-length [] s = refl
  each-length (r ∷ rs) s = ap (λ (m : ℕ). suc m) (each-length rs (next s r))

  -- one more
  pub each_snoc :
      (rs : List (List ℕ)) (r : List ℕ) (s : LimiterState)
      → let a = check_each u n rs s in
      check_each u n (rs ++ (r ∷ [])) s ≡ record { answers = a.answers ++ (one a.left r ∷ []); left = next a.left r }
  unfolding check_each
  each_snoc [] r s = refl
  each_snoc (q ∷ rs) r s = ap (λ (a : Answers). record { answers = one s q ∷ a.answers; left = a.left }) (each_snoc rs r (next s q))

  -- all but the keys is left
  next-holds : (s : LimiterState) (r : List ℕ) (ks : List KeyRecord) → holding (next s r) ks (next s r).shadows ≡ holding s ks s.shadows
  unfolding check_in
  next-holds s r ks = by (passes (check_key_questions u s (get_or r 0 0) (get_or r 1 0) n))
    where
      by : (b : Bool)
          → let x = cond b (check_in u s (get_or r 0 0) (own_limit s) (get_or r 1 0) n) s in holding x ks x.shadows ≡ holding s ks s.shadows
      by true = refl
      by false = refl

  pub each_holds : (rs : List (List ℕ)) (s : LimiterState) → (check_each u n rs s).left ≡ holding s (check_each u n rs s).left.keys s.shadows
  unfolding check_each
  each_holds [] s = refl
  each_holds (r ∷ rs) s = each_holds rs (next s r) ∙ next-holds s r (check_each u n rs (next s r)).left.keys

  -- hot entries and shadows are not read
  abbrev bare : LimiterState → LimiterState
  bare s = record { settings = s.settings; keys = s.keys; hot = []; shadows = [] }

  next-bare : (s : LimiterState) (r : List ℕ) → next (bare s) r ≡ bare (next s r)
  unfolding check_in entry has_place
  next-bare s r = by (passes (check_key_questions u s (get_or r 0 0) (get_or r 1 0) n))
    where
      by : (b : Bool)
          → cond b (check_in u (bare s) (get_or r 0 0) (own_limit s) (get_or r 1 0) n) (bare s) ≡ bare
          (cond b (check_in u s (get_or r 0 0) (own_limit s) (get_or r 1 0) n) s)
      by true = refl
      by false = refl

  one-bare : (s : LimiterState) (r : List ℕ) → one (bare s) r ≡ one s r
  unfolding entry has_place
  one-bare s r = refl

  pub each_bare : (rs : List (List ℕ)) (s : LimiterState)
      → check_each u n rs (bare s) ≡ record { answers = (check_each u n rs s).answers; left = bare (check_each u n rs s).left }
  unfolding check_each
  each_bare [] s = refl
  each_bare (r ∷ rs) s =
      let more : Answers → Answers = (λ (a : Answers). record { answers = one s r ∷ a.answers; left = a.left }) in
      ap (λ (x : Answer Decision). record {
        answers = x ∷ (check_each u n rs (next (bare s) r)).answers;
        left =
            (check_each u n rs (next (bare s) r)).left;
      }) (one-bare s r)
      ∙ ap (λ (x : LimiterState). more (check_each u n rs x)) (next-bare s r)
      ∙ ap more (each_bare rs (next s r))

-- ---- tables

-- an answer has three words
answer-long : (a : Answer Decision) → length (answer_words a) ≡ 3
answer-long (refused m) = refl
answer-long (given Allow) = refl
answer-long (given (Deny t)) = refl

-- written over the words at a place
pub answer-pasted : (a : Answer Decision) (ws xs : List ℕ) (at : ℕ) → ws ≡ answer_words a → put_mid at (at + 3 - at) xs ws ≡ paste at (answer_words a) xs
unfolding paste
answer-pasted a ws xs at e =
    let vs = answer_words a in
    let z : at + 3 - at ≡ length vs = omega (arith, answer-long a) in
    (λ i. take at xs ++ (e i ++ drop (z i) (drop at xs)))
    ∙ ap (λ (zs : List ℕ). take at xs ++ (vs ++ zs)) (drop-drop (length vs) at xs)

-- question 16 as a test of records
pub each-room : (len count : ℕ) → fits len 3 count ≡ leb (3 * count) len
unfolding fits
each-room len count = let e : count * 3 ≡ 3 * count = omega arith in ap (λ (m : ℕ). leb m len) e

-- ---- validity

-- a check leaves a valid state
after-valid : (u : Units) → Accepted u → (s : LimiterState) → valid u s ≡ true → (key now n : ℕ) → is_word key ≡ true → is_word now ≡ true
    → valid u (after_one u n s key now) ≡ true
unfolding check_each all
after-valid u a s v key now n wk wn =
    check-each-valid u a n ((key ∷ now ∷ []) ∷ []) s
    (and_intro (is_word key && is_word now) true (and_intro (is_word key) (is_word now) wk wn) refl) v

-- ---- the key table of a state whose keys are ks
abbrev keys_as : Limiter → List KeyRecord → LimiterState
keys_as l ks = record { settings = settings_of l; keys = ks; hot = []; shadows = [] }

-- a key's first word is its key
first-word : (u : Units) (k : KeyRecord) → take 1 (key_words u k) ≡ k.key ∷ []
unfolding key_words
first-word u k = refl

module _ (l : Limiter) (xs : List ℕ) (room : l.config.table_size * 22 ≤ length xs) (ks : List KeyRecord)
    (ok : valid (units_in l) (keys_as l ks) ≡ true) where
  abbrev counts : Limiter
  counts = counting l (length ks)

  abbrev words : List ℕ
  words = table (map (key_words (units_in l)) ks) xs

  facts : ValidState (units_in l) (keys_as l ks)
  facts = valid-says (units_in l) (keys_as l ks) ok

  -- they are read back
  keys-back : keys_in counts words ≡ ks
  keys-back =
      ap (map (key_of (units_in l))) (records-written (key_words (units_in l)) 22 (key-long (units_in l)) ks xs)
      ∙ all_back (key_words (units_in l)) (key_of (units_in l)) (valid_key (units_in l)) (key_back (units_in l) (units-of-accepted (settings_of l))) ks facts.keys

  -- the table is ready for a call
  pub ready-again : Ready counts words
  ready-again = record {
    few = facts.few;
    room = omega (arith, room, length-written (key_words (units_in l)) 22 (key-long (units_in l)) ks xs (omega (arith, mul-le-mul_right 22 facts.few, room)));
    exactly =
        ap (exact (key_words (units_in l)) (key_of (units_in l))) (records-written (key_words (units_in l)) 22 (key-long (units_in l)) ks xs)
        ∙ all-exact (key_words (units_in l)) (key_of (units_in l)) (valid_key (units_in l)) (key_back (units_in l) (units-of-accepted (settings_of l))) ks facts.keys;
    good = ap (all (valid_key (units_in l))) keys-back ∙ facts.keys;
    order =
        ap (ascending 1) (records-written (key_words (units_in l)) 22 (key-long (units_in l)) ks xs)
        ∙ rising-ascends key_of_key (key_words (units_in l)) (first-word (units_in l)) ks facts.keys_rise;
  }

  -- a key more, or another in its place, written over them
  put-over : (k : KeyRecord) → table (map (key_words (units_in l)) (put_key k ks)) words ≡ table (map (key_words (units_in l)) (put_key k ks)) xs
  put-over k =
      table-over (map (key_words (units_in l)) ks) (map (key_words (units_in l)) (put_key k ks)) xs
      (omega (
        arith,
        words_long ks,
        words_long (put_key k ks),
        mul-le-mul_right 22 (subst (λ (js : List KeyRecord). length js ≤ length (put_key k js)) keys-back (no-fewer counts words ready-again k)),
      ))
    where
      words_long : (js : List KeyRecord) → length (flat (map (key_words (units_in l)) js)) ≡ length js * 22
      words_long js = length-flat 22 (map (key_words (units_in l)) js) (wide-map (key_words (units_in l)) 22 (key-long (units_in l)) js)
          ∙ ap (λ (m : ℕ). m * 22) (length-map js (key_words (units_in l)))

  -- a check of one key is that of the definitions
  module _ (key now n : ℕ) (r : Checked) (ys : List ℕ) (h : ChecksKey counts words key l.config.limit now n r ys) where
    abbrev after : LimiterState
    after = after_one (units_in l) n (keys_as l ks) key now

    abbrev asked : List KeyRecord → List Question
    asked js = check_key_questions (units_in l) (keys_as l js) key now n

    abbrev put : List KeyRecord → List KeyRecord
    put js = put_key (checked_key now None (entry (units_in l) (keys_as l js) key l.config.limit now n)) js

    pub one_answer : answer_of r.answer ≡ check_one (units_in l) n (keys_as l ks) key now
    one_answer = h.says ∙ ap (λ (js : List KeyRecord). check_one (units_in l) n (keys_as l js) key now) keys-back

    pub one-limiter : r.limiter ≡ counting l (length after.keys)
    unfolding check_in
    one-limiter =
        h.limiter ∙ ap (λ (js : List KeyRecord). cond (passes (asked js)) (counting l (length (put js))) counts) keys-back ∙ by (passes (asked ks))
      where
        by : (b : Bool)
            → cond b (counting l (length (put ks))) counts ≡ counting l
            (length (cond b (check_in (units_in l) (keys_as l ks) key l.config.limit now n) (keys_as l ks)).keys)
        by true = refl
        by false = refl

    pub one-words : ys ≡ table (map (key_words (units_in l)) after.keys) xs
    unfolding check_in
    one-words =
        h.words
        ∙ ap (λ (js : List KeyRecord). cond (passes (asked js)) (table (map (key_words (units_in l)) (put js)) words) words) keys-back
        ∙ by (passes (asked ks))
      where
        by : (b : Bool)
            → cond b (table (map (key_words (units_in l)) (put ks)) words) words ≡ table
            (map (key_words (units_in l)) (cond b (check_in (units_in l) (keys_as l ks) key l.config.limit now n) (keys_as l ks)).keys) xs
        by true = put-over (checked_key now None (entry (units_in l) (keys_as l ks) key l.config.limit now n))
        by false = refl

-- ---- the loop over the pairs

-- the first i pairs are checked, and the state is valid
pub record Reached (l : Limiter) (xs list : List ℕ) (n : ℕ) (out : List ℕ) (i : ℕ) (l' : Limiter) (xs' out' : List ℕ) : Type 0 where
  pub acted : ChecksPairs l xs list i n out l' xs' out'
  pub ok : valid (units_in l) (pairs_checked l xs list i n).left ≡ true

module _ (l : Limiter) (xs list : List ℕ) (count n : ℕ) (out : List ℕ) (p : PairsReady l xs list count out) where
  -- the first i pairs
  abbrev up_to : ℕ → Answers
  up_to i = pairs_checked l xs list i n

  abbrev keys_at : ℕ → LimiterState
  keys_at i = keys_as l (up_to i).left.keys

  -- no pair yet
  words_same : map (key_words (units_in l)) (keys_in l xs) ≡ records 22 l.keys xs
  words_same = words-of-exact (key_words (units_in l)) (key_of (units_in l)) (records 22 l.keys xs) p.keys.exactly

  start-valid : valid (units_in l) (keys_only l xs) ≡ true
  unfolding all rising ascending
  start-valid = valid-intro (units_in l) (keys_only l xs) (record {
    settings = settings-say (settings_of l) p.settings;
    few = omega (arith, counted-keys l xs p.keys, p.keys.few);
    keys = p.keys.good;
    keys_rise = rising-says key_of_key (key_words (units_in l)) (first-word (units_in l)) (keys_in l xs) (ap (ascending 1) words_same ∙ p.keys.order);
    hot_few = omega arith;
    hot = refl;
    hot_rise = refl;
    hot-tracked = refl;
    shadows = refl;
    shadows_rise = refl;
    shadows-tracked = refl;
  })

  pub reached-none : Reached l xs list n out 0 l xs out
  unfolding check_each records table flat
  reached-none = record {
    acted = record {
      limiter = ap (counting l) (sym (counted-keys l xs p.keys));
      words =
          sym (ap (λ (rs : List (List ℕ)). table rs xs) words_same
          ∙ table_same 22 l.keys xs (omega (arith, mul-le-mul_right 22 p.keys.few, p.keys.room)));
      output = refl;
    };
    ok = start-valid;
  }

  -- the settings' limit has a valid burst
  pub pairs-burst : valid_burst l.config.limit.burst ≡ true
  pairs-burst = limit-burst l.config.limit (settings-say (settings_of l) p.settings).config.limit

  module _ (i : ℕ) (l' : Limiter) (xs' out' : List ℕ) (h : Reached l xs list n out i l' xs' out') where
    -- all but the keys is as it was
    left_is : (up_to i).left ≡ keys_at i
    left_is = each_holds (units_in l) n (records 2 i list) (keys_only l xs)

    at-valid : valid (units_in l) (keys_at i) ≡ true
    at-valid = sym (ap (valid (units_in l)) left_is) ∙ h.ok

    pub reached-ready : Ready l' xs'
    reached-ready =
        subst (λ (x : Limiter). Ready x xs') (sym h.acted.limiter)
        (subst (Ready (counting l (length (up_to i).left.keys))) (sym h.acted.words)
        (ready-again l xs p.keys.room (up_to i).left.keys at-valid))

    -- the tables are as long as they were
    answered : length (up_to i).answers ≡ i
    answered = each-length (units_in l) n (records 2 i list) (keys_only l xs) ∙ length-records 2 i list

    -- the next pair
    abbrev key : ℕ
    key = get_or list (i * 2) 0

    abbrev now : ℕ
    now = get_or list (i * 2 + 1) 0

    next-pair : up_to
        (i + 1) ≡ record { answers = (up_to i).answers ++ (check_one (units_in l) n (keys_at i) key now ∷ []); left = after_one (units_in l) n (keys_at i) key now }
    unfolding records
    next-pair =
        let row = take 2 (drop (i * 2) list) in
        let word : (j : ℕ) → j < 2
        → get_or row j 0 ≡ get_or list (i * 2 + j) 0 = (λ j b. get_or-take 2 (drop (i * 2) list) j 0 b ∙ get_or-drop (i * 2) list j 0) in
        let first : get_or row 0 0 ≡ key = word 0 (lit< tt) ∙ ap (λ (m : ℕ). get_or list m 0) (add-zero (i * 2)) in
        ap (λ (rs : List (List ℕ)). check_each (units_in l) n rs (keys_only l xs)) (records-split 2 i 1 list)
        ∙ each_snoc (units_in l) n (records 2 i list) row (keys_only l xs)
        ∙ (λ j.
        record {
          answers = (up_to i).answers ++ (check_one (units_in l) n (left_is j) (first j) (word 1 (lit< tt) j) ∷ []);
          left = after_one (units_in l) n (left_is j) (first j) (word 1 (lit< tt) j);
        })

    module _ (r : Checked) (ys out'' : List ℕ) (c : ChecksKey l' xs' key l.config.limit now n r ys)
        (e : out'' ≡ paste (i * 3) (answer_words (answer_of r.answer)) out') where
      checks : ChecksKey (counting l (length (up_to i).left.keys)) (table (map (key_words (units_in l)) (up_to i).left.keys) xs) key
          l.config.limit now n r ys
      checks =
          subst (λ (x : Limiter). ChecksKey x (table (map (key_words (units_in l)) (up_to i).left.keys) xs) key l.config.limit now n r ys)
          h.acted.limiter
          (subst (λ (x : List ℕ). ChecksKey l' x key l.config.limit now n r ys) h.acted.words c)

      -- its answer's words stand past those of the others
      next-output : out'' ≡ table (map answer_words (up_to (i + 1)).answers) out
      next-output =
          let said = (up_to i).answers in
          let a = check_one (units_in l) n (keys_at i) key now in
          let long : length (map answer_words said) ≡ i = length-map said answer_words ∙ answered in
          e
          ∙ (λ j. paste (sym long j * 3) (answer_words (one_answer l xs p.keys.room (up_to i).left.keys at-valid key now n r ys checks j))
          (h.acted.output j))
          ∙ paste_more 3 (map answer_words said) (answer_words a) out (wide-map answer_words 3 answer-long said)
          ∙ ap (λ (ws : List (List ℕ)). table ws out) (sym (map-append answer_words said (a ∷ [])))
          ∙ ap (λ (x : Answers). table (map answer_words x.answers) out) (sym next-pair)

      pub reached-next : is_word key ≡ true → is_word now ≡ true → Reached l xs list n out (i + 1) r.limiter ys out''
      reached-next wk wn = record {
        acted = record {
          limiter =
              one-limiter l xs p.keys.room (up_to i).left.keys at-valid key now n r ys checks
              ∙ ap (λ (x : Answers). counting l (length x.left.keys)) (sym next-pair);
          words =
              one-words l xs p.keys.room (up_to i).left.keys at-valid key now n r ys checks
              ∙ ap (λ (x : Answers). table (map (key_words (units_in l)) x.left.keys) xs) (sym next-pair);
          output = next-output;
        };
        ok = ap (λ (x : Answers). valid (units_in l) x.left) next-pair ∙ after-valid (units_in l) (units-of-accepted (settings_of l)) (keys_at i) at-valid key now n wk wn;
      }

-- ---- the call on the limiter's whole state
module _ (l : Limiter) (t : LimiterTables) (list : List ℕ) (count n : ℕ) (out : List ℕ) where
  abbrev asks : List Question
  asks = each_asked l t list count n out

  -- what its questions say
  pub record Asked : Type 0 where
    pub room : have_room l.config (lengths t) ≡ true
    pub ok : is_valid (units_in l) l t ≡ true
    pub ready : PairsReady l t.keys list count out
    pub all : passes asks ≡ true

  pub asked-passed : (m : ℕ) → m ≡ first_no asks → m ≡ 0 → Asked
  unfolding passes state_of valid
  asked-passed m e z =
      let q = passed_none asks m (lit< tt, (lit< tt, (lit< tt, (lit< tt, (lit< tt, tt))))) e z in
      let a = both (fits (length list) 2 count) _ q in
      let b = both (have_room l.config (lengths t)) _ a.1 in
      let c = both (is_valid (units_in l) l t) _ b.1 in
      let d = both (is_cluster_size n) _ c.1 in
      record {
        room = b.0;
        ok = c.0;
        ready = record {
          settings = (both (valid_settings (settings_of l)) _ (state-valid l t b.0 c.0)).0;
          keys = ready l t b.0 c.0;
          pairs = a.0;
          output = omega (arith, leb-true (3 * count) (length out) (both (leb (3 * count) (length out)) true d.1).0);
        };
        all = q;
      }

  -- a 'no'
  pub each-refused : (x : Refusal) → number x ≡ first_no asks → ChecksEach l t list count n out (record { answer = Err x; limiter = l }) t out
  each-refused x e = let m = number x in let h = number-nonzero x in record {
    acts = record { answered = answer-no tt asks m e h; limiter = kept-no _ l asks m e h; words = kept-no _ t asks m e h };
    output = kept-no _ out asks m e h;
  }

  -- the checks of the key table are those of the state
  pub each_lifted :
      Asked → (l' : Limiter) (xs' out' : List ℕ) → ChecksPairs l t.keys list count n out l' xs' out'
      → ChecksEach l t list count n out (record { answer = (Ok tt); limiter = l' }) (tables xs' t.hot t.shadows) out'
  unfolding state_of
  each_lifted a l' xs' out' h =
      let s = here l t in
      let x = check_each (units_in l) n (records 2 count list) s in
      let bared = each_bare (units_in l) n (records 2 count list) s in
      let held = each_holds (units_in l) n (records 2 count list) s in
      record {
        acts = record {
          answered = answer-passed tt asks a.all;
          limiter =
              h.limiter
              ∙ ap (λ (y : Answers). counting l (length y.left.keys)) bared
              ∙ sym (ap
              (λ (m : ℕ). record {
                config = l.config;
                cap = l.cap;
                last_tick = l.last_tick;
                keys = length
                    x.left.keys;
                hot = l.hot;
                shadows = m;
              }) (shadows-counted l t a.room a.ok))
              ∙ sym (ap value_of held ∙ value_after l t a.room a.ok x.left.keys s.shadows)
              ∙ changed-passed (value_of x.left) l asks a.all;
          words =
              (λ i. tables ((h.words ∙ ap (λ (y : Answers). table (map (key_words (units_in l)) y.left.keys) t.keys) bared) i) t.hot
              (sym (shadows-still l t a.room a.ok) i))
              ∙ sym (ap (λ (y : LimiterState). written (units_of y.settings) y t) held ∙ written_after l t a.room a.ok x.left.keys s.shadows)
              ∙ changed-passed (written (units_of x.left.settings) x.left t) t asks a.all;
        };
        output =
            h.output
            ∙ ap (λ (y : Answers). table (map answer_words y.answers) out) bared
            ∙ changed-passed (table (map answer_words x.answers) out) out asks a.all;
      }
