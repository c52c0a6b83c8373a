-- Updates of many keys, one after the other: what is lent, their questions, and the loop over them.
use Prim.Native.Nat.{ℕ, zero, suc, ◌+◌, ◌*◌, ◌≤◌, ◌<◌}
use mathlib.Core.Path.{◌≡◌, refl, sym, ap, ◌∙◌}
use mathlib.Core.Bool.{Bool, true, false, ◌&&◌}
use mathlib.Core.List.{List, [], ◌∷◌, ◌++◌, map, append_assoc}
use native.Mathlib.Nat.{le_of_suc-le-suc, not-suc-le-zero}
use native.Mathlib.Numerals.{add-one}
use native.Mathlib.Omega.{arith}
use borrow.Author.Tests.{leb-true, le-leb, lt-leb}
use lib.Dec.{leb}
use lib.Ieee.{Float}
use lib.ListN.{length, get_or, take, drop, set, length-map, length-set, take-append-drop}
use lib.Seq.{drop-length, take-suc-set, drop-set-lt, get_or-take, length-take-le}
use Rattle.std.specs.List.{list_all}
use Rattle.float.specs.Magnitude.{magnitude}
use Rattle.records.specs.Records.{records, fits}
use Rattle.questions.proofs.Tests.{both}
use Rattle.records.proofs.Words.RecordLaws.{length-records, row, fits-pos, fits_le}
use Rattle.questions.specs.Questions.{Question, ◌asks◌, given, passes, first_no}
use Rattle.questions.proofs.Answers.{Numbered, answer-no, answer-passed, kept-no, changed-passed, passed_none, first-no, first-yes, first-none, first_rest}
use Rattle.questions.specs.Lists.{all}
use Rattle.questions.specs.declared.Refusal.{Refusal}
use Rattle.questions.specs.Refusals.{number}
use Rattle.questions.proofs.RefusalLaws.{number-nonzero}
use Rattle.hot.specs.HotSet.Set.{is_valid, update_with, Outcome, Update, updates_of, update_by, Outcomes, update_each}
use Rattle.hot.specs.HotSet.Calls.{room, ask_set, eviction_margin, entries_of, updates_fit, ask_set_each, ask_each, lent_updates, rewritten, rewritten_each, sized, UpdatedEach}
use Rattle.hot.specs.HotSet.Steps.{Acted, UpdatesEach}
use Rattle.hot.specs.declared.hot_set.HotSet.{HotSet}
use Rattle.hot.specs.declared.hot_set.Updated.{Updated}
use Rattle.hot.proofs.HotSet.Answers.{set-passed}
use Rattle.hot.proofs.HotSet.Words.{length-entries}
use Rattle.hot.proofs.HotSet.ValidLaws.{GoodUpdate}
use Rattle.hot.proofs.HotSet.Theorems.{acted-long, acted-read, acted-again}
use Rattle.questions.proofs.ListLaws.{map_at, all-index}
use Rattle.records.proofs.Words.RowLaws.{first-at}
use Rattle.std.specs.declared.result.Result.TheVariants.{Ok, Err}

-- std's word for a test of each element
pub all-is : {A : Type 0} (p : A → Bool) (xs : List A) → list_all p xs ≡ all p xs
unfolding all
all-is p [] = refl
all-is p (x ∷ xs) = ap (λ (b : Bool). p x && b) (all-is p xs)

-- ---- updates made of lists
updates-next : (ks : List ℕ) (ds ts : List Float) (bs : List Bool) (x y : Float) (z : Bool) (i : ℕ) → i < length ks → i < length ds → i < length ts → i < length bs → drop i (updates_of ks ds ts bs) ≡ record { key = get_or ks i 0; demand = get_or ds i x; threshold = get_or ts i y; elsewhere = get_or bs i z } ∷ drop (suc i) (updates_of ks ds ts bs)
unfolding updates_of
updates-next [] ds ts bs x y z i p q r s = absurd (not-suc-le-zero p)
updates-next (k ∷ ks) [] ts bs x y z i p q r s = absurd (not-suc-le-zero q)
updates-next (k ∷ ks) (d ∷ ds) [] bs x y z i p q r s = absurd (not-suc-le-zero r)
updates-next (k ∷ ks) (d ∷ ds) (t ∷ ts) [] x y z i p q r s = absurd (not-suc-le-zero s)
updates-next (k ∷ ks) (d ∷ ds) (t ∷ ts) (b ∷ bs) x y z zero p q r s = refl
updates-next (k ∷ ks) (d ∷ ds) (t ∷ ts) (b ∷ bs) x y z (suc i) p q r s =
    updates-next ks ds ts bs x y z i (le_of_suc-le-suc p) (le_of_suc-le-suc q) (le_of_suc-le-suc r) (le_of_suc-le-suc s)

pub updates-length : (ks : List ℕ) (ds ts : List Float) (bs : List Bool) → length ks ≤ length ds → length ks ≤ length ts → length ks ≤ length bs → length (updates_of ks ds ts bs) ≡ length ks
unfolding updates_of
updates-length [] ds ts bs p q r = refl
updates-length (k ∷ ks) [] ts bs p q r = absurd (not-suc-le-zero p)
updates-length (k ∷ ks) (d ∷ ds) [] bs p q r = absurd (not-suc-le-zero q)
updates-length (k ∷ ks) (d ∷ ds) (t ∷ ts) [] p q r = absurd (not-suc-le-zero r)
updates-length (k ∷ ks) (d ∷ ds) (t ∷ ts) (b ∷ bs) p q r =
    ap suc (updates-length ks ds ts bs (le_of_suc-le-suc p) (le_of_suc-le-suc q) (le_of_suc-le-suc r))

-- ---- updates that are lent
-- the key of an update is within its table
pub key-within : (keys : List ℕ) (w n : ℕ) → fits (length keys) w n ≡ true → (i : ℕ) → i < n → i * w < length keys
key-within keys w n f i h = omega (arith, row w n i h, fits-pos (length keys) w n f, fits_le (length keys) w n f)

pub record FitUpdates (keys w n demands thresholds elsewhere : ℕ) : Type 0 where
  pub keys_fit : fits keys w n ≡ true
  pub demands_fit : n ≤ demands
  pub thresholds_fit : n ≤ thresholds
  pub flags_fit : n ≤ elsewhere

module _ (keys w n demands thresholds elsewhere : ℕ) where
  pub fit-updates : updates_fit keys w n demands thresholds elsewhere ≡ true → FitUpdates keys w n demands thresholds elsewhere
  unfolding updates_fit
  fit-updates e =
      let a = both (fits keys w n) _ e in
      let b = both (leb n demands) _ a.1 in
      let c = both (leb n thresholds) _ b.1 in
      record {
        keys_fit = a.0;
        demands_fit = leb-true n demands b.0;
        thresholds_fit = leb-true n thresholds c.0;
        flags_fit = leb-true n elsewhere c.1;
      }

module _ (keys : List ℕ) (w n : ℕ) (demands thresholds : List Float) (elsewhere : List Bool) (fit : FitUpdates (length keys) w n (length demands) (length thresholds) (length elsewhere)) where
  abbrev firsts : List ℕ
  firsts = map (λ (r : List ℕ). get_or r 0 0) (records w n keys)

  length-firsts : length firsts ≡ n
  length-firsts = length-map (records w n keys) _ ∙ length-records w n keys

  -- one update after the other
  pub lent-next : (x y : Float) (z : Bool) (i : ℕ) → i < n → drop i (lent_updates keys w n demands thresholds elsewhere) ≡ record { key = get_or keys (i * w) 0; demand = get_or demands i x; threshold = get_or thresholds i y; elsewhere = get_or elsewhere i z } ∷ drop (suc i) (lent_updates keys w n demands thresholds elsewhere)
  lent-next x y z i h =
      let a = fit.demands_fit in
      let b = fit.thresholds_fit in
      let c = fit.flags_fit in
      updates-next firsts demands thresholds elsewhere x y z i (omega (arith, length-firsts)) (omega arith) (omega arith) (omega arith)
      ∙ ap (λ (k : ℕ). record { key = k; demand = get_or demands i x; threshold = get_or thresholds i y; elsewhere = get_or elsewhere i z } ∷ drop (suc i) (lent_updates keys w n demands thresholds elsewhere)) here
    where
      here : get_or firsts i 0 ≡ get_or keys (i * w) 0
      here =
          map_at (λ (r : List ℕ). get_or r 0 0) [] 0 (records w n keys) i (omega (arith, length-records w n keys))
          ∙ first-at w n keys i h (fits-pos (length keys) w n fit.keys_fit)

  pub lent_length : length (lent_updates keys w n demands thresholds elsewhere) ≡ n
  lent_length =
      updates-length firsts demands thresholds elsewhere (omega (arith, length-firsts, fit.demands_fit)) (omega (arith, length-firsts, fit.thresholds_fit)) (omega (arith, length-firsts, fit.flags_fit))
      ∙ length-firsts

-- ---- the loop: what is left to do at update i makes of what is there what all updates make of what was there
pub record Updating (margin : Float) (s : HotSet) (now : ℕ) (us : List Update) (xs : List ℕ) (out : List Bool) (i : ℕ) (t : HotSet) (ys : List ℕ) (out' : List Bool) : Type 0 where
  pub within : i ≤ length us
  pub sizes : t ≡ sized s t.len
  pub asked : passes (ask_set t ys) ≡ true
  pub long : length ys ≡ length xs
  pub wide : length out' ≡ length out
  pub left : (update_each margin s now (drop i us) (entries_of t ys)).left ≡ (update_each margin s now us (entries_of s xs)).left
  pub words : rewritten_each margin s now (drop i us) (entries_of t ys) ys ≡ rewritten_each margin s now us (entries_of s xs) xs
  pub hot : take i out' ++ ((update_each margin s now (drop i us) (entries_of t ys)).hot ++ drop (length us) out') ≡ (update_each margin s now us (entries_of s xs)).hot ++ drop (length us) out

module _ (margin : Float) (s : HotSet) (now : ℕ) (us : List Update) (xs : List ℕ) (out : List Bool) where
  pub updating-start : passes (ask_set s xs) ≡ true → Updating margin s now us xs out 0 s xs out
  updating-start p = record {
    within = omega arith;
    sizes = refl;
    asked = p;
    long = refl;
    wide = refl;
    left = refl;
    words = refl;
    hot = refl;
  }

  module _ (i : ℕ) (t : HotSet) (ys : List ℕ) (out' : List Bool) (h : Updating margin s now us xs out i t ys out') where
    -- one update more
    module _ (k : i < length us) (l : length us ≤ length out) (u : Update) (e : drop i us ≡ u ∷ drop (suc i) us) (g : GoodUpdate u.key u.demand now) (r : Updated) (zs : List ℕ) (a : Acted t (update_by margin t now u (entries_of t ys)) ys r zs) where
      abbrev next : Outcome
      next = update_by margin s now u (entries_of t ys)

      abbrev rest : Outcomes
      rest = update_each margin s now (drop (suc i) us) next.left

      -- the size and the cooldown are those of the set at the start
      same : update_by margin t now u (entries_of t ys) ≡ next
      unfolding update_with
      same = ap (λ (x : HotSet). update_by margin x now u (entries_of t ys)) h.sizes

      read : entries_of r.set zs ≡ next.left
      read = acted-read margin t ys h.asked u.key u.demand u.threshold now u.elsewhere r zs a g.demand_f64 ∙ ap (λ (o : Outcome). o.left) same

      now-is : update_each margin s now (drop i us) (entries_of t ys) ≡ record { hot = next.hot ∷ rest.hot; left = rest.left }
      unfolding update_each
      now-is = ap (λ (l : List Update). update_each margin s now l (entries_of t ys)) e

      then_is : update_each margin s now (drop (i + 1) us) (entries_of r.set zs) ≡ rest
      then_is = (λ j. update_each margin s now (drop (add-one i j) us) (read j))

      words-now : rewritten_each margin s now (drop i us) (entries_of t ys) ys ≡ rewritten_each margin s now (drop (suc i) us) next.left (rewritten next ys)
      unfolding rewritten_each
      words-now = ap (λ (l : List Update). rewritten_each margin s now l (entries_of t ys) ys) e

      words-then : rewritten_each margin s now (drop (i + 1) us) (entries_of r.set zs) zs ≡ rewritten_each margin s now (drop (suc i) us) next.left (rewritten next ys)
      words-then =
          let w : zs ≡ rewritten next ys = a.left ∙ ap (λ (o : Outcome). rewritten o ys) same in
          (λ j. rewritten_each margin s now (drop (add-one i j) us) (read j) (w j))

      said : r.is_hot ≡ next.hot
      said = ap (λ (x : Updated). x.is_hot) a.says ∙ ap (λ (o : Outcome). o.hot) same

      sizes-then : r.set ≡ sized s r.set.len
      sizes-then =
          let q : r.set ≡ sized t (length (update_by margin t now u (entries_of t ys)).left) = ap (λ (x : Updated). x.set) a.says in
          q
          ∙ ap (λ (x : HotSet). sized x (length (update_by margin t now u (entries_of t ys)).left)) h.sizes
          ∙ ap (sized s) (sym (ap (λ (x : HotSet). x.len) q))

      output : take (i + 1) (set out' i r.is_hot) ++ (rest.hot ++ drop (length us) (set out' i r.is_hot)) ≡ take i out' ++ ((next.hot ∷ rest.hot) ++ drop (length us) out')
      output =
          (λ j. take (add-one i j) (set out' i r.is_hot) ++ (rest.hot ++ drop-set-lt (length us) out' i r.is_hot k j))
          ∙ (λ j. take-suc-set out' i r.is_hot (omega (arith, h.wide)) j ++ (rest.hot ++ drop (length us) out'))
          ∙ append_assoc (take i out') (r.is_hot ∷ []) (rest.hot ++ drop (length us) out')
          ∙ ap (λ (b : Bool). take i out' ++ (b ∷ (rest.hot ++ drop (length us) out'))) said

      pub updating-next : Updating margin s now us xs out (i + 1) r.set zs (set out' i r.is_hot)
      updating-next = record {
        within = omega arith;
        sizes = sizes-then;
        asked = acted-again margin t ys h.asked u.key u.demand u.threshold now u.elsewhere r zs a g;
        long = acted-long margin t ys h.asked u.key u.demand u.threshold now u.elsewhere r zs a ∙ h.long;
        wide = length-set out' i r.is_hot ∙ h.wide;
        left = ap (λ (o : Outcomes). o.left) then_is ∙ sym (ap (λ (o : Outcomes). o.left) now-is) ∙ h.left;
        words = words-then ∙ sym words-now ∙ h.words;
        hot =
            ap (λ (o : Outcomes). take (i + 1) (set out' i r.is_hot) ++ (o.hot ++ drop (length us) (set out' i r.is_hot))) then_is
            ∙ output
            ∙ ap (λ (o : Outcomes). take i out' ++ (o.hot ++ drop (length us) out')) (sym now-is)
            ∙ h.hot;
      }

    -- none is left
    module _ (k : length us ≤ i) where
      last : length us ≡ i
      last = let l = h.within in omega arith

      none_left : drop i us ≡ []
      none_left = ap (λ (j : ℕ). drop j us) (sym last) ∙ drop-length us

      pub updating-done : UpdatesEach margin s xs us now (length us) out t ys out'
      unfolding update_each rewritten_each
      updating-done = record {
        says =
            h.sizes
            ∙ ap (sized s)
            (sym (length-entries t.len ys)
            ∙ ap (λ (l : List Update). length (update_each margin s now l (entries_of t ys)).left) (sym none_left)
            ∙ ap length h.left);
        left = ap (λ (l : List Update). rewritten_each margin s now l (entries_of t ys) ys) (sym none_left) ∙ h.words;
        output =
            sym (take-append-drop (length us) out')
            ∙ ap (λ (j : ℕ). take j out' ++ drop (length us) out') last
            ∙ ap (λ (l : List Update). take i out' ++ ((update_each margin s now l (entries_of t ys)).hot ++ drop (length us) out')) (sym none_left)
            ∙ h.hot;
      }

-- ---- the questions
module _ (s : HotSet) (xs : List ℕ) (n : ℕ) (demands : List Float) (places : ℕ) where
  pub set-each-numbered : Numbered (ask_set_each s xs n demands places)
  set-each-numbered = (omega arith, (omega arith, (omega arith, (omega arith, tt))))

  -- those of the set itself are passed
  module _ (asked : 0 ≡ first_no (ask_set s xs)) where
    set-yes : {k : ℕ} → k ≡ first_no ((11 asks all magnitude (take n demands)) ∷ (16 asks leb n places) ∷ []) → k ≡ first_no (ask_set_each s xs n demands places)
    set-yes e = e ∙ first_rest (ask_set s xs) _ (set-passed s xs asked)

    pub demands-no : all magnitude (take n demands) ≡ false → 11 ≡ first_no (ask_set_each s xs n demands places)
    demands-no e = set-yes (first-no 11 _ e)

    pub places-no : all magnitude (take n demands) ≡ true → places < n → 16 ≡ first_no (ask_set_each s xs n demands places)
    places-no e k = set-yes (first-yes 11 _ e (first-no 16 _ (lt-leb n places k)))

    pub places-yes : all magnitude (take n demands) ≡ true → n ≤ places → 0 ≡ first_no (ask_set_each s xs n demands places)
    places-yes e k = set-yes (first-yes 11 _ e (first-yes 16 _ (le-leb n places k) first-none))

-- what updates that pass them are
pub record EachPassed (s : HotSet) (xs keys : List ℕ) (w n : ℕ) (demands thresholds : List Float) (elsewhere : List Bool) (places : ℕ) : Type 0 where
  pub fit : FitUpdates (length keys) w n (length demands) (length thresholds) (length elsewhere)
  pub asked : passes (ask_set s xs) ≡ true
  pub numbers : (z : Float) (i : ℕ) → i < n → magnitude (get_or demands i z) ≡ true
  pub room : n ≤ places

pub each-passed : (s : HotSet) (xs keys : List ℕ) (w n : ℕ) (demands thresholds : List Float) (elsewhere : List Bool) (places : ℕ) → passes (ask_each s xs keys w n demands thresholds elsewhere places) ≡ true → EachPassed s xs keys w n demands thresholds elsewhere places
unfolding passes
each-passed s xs keys w n demands thresholds elsewhere places e =
    let a = both (updates_fit (length keys) w n (length demands) (length thresholds) (length elsewhere)) _ e in
    let b = both (leb (room s.max_size) (length xs)) _ a.1 in
    let c = both (is_valid s xs) _ b.1 in
    let d = both (all magnitude (take n demands)) _ c.1 in
    let fit = fit-updates (length keys) w n (length demands) (length thresholds) (length elsewhere) a.0 in
    record {
      fit = fit;
      asked = rw (b.0, c.0);
      numbers = λ z i h.
          ap magnitude (sym (get_or-take n demands i z h))
          ∙ all-index magnitude z (take n demands) d.0 i (omega (arith, length-take-le n demands fit.demands_fit));
      room = leb-true n places (both (leb n places) true d.1).0;
    }

-- ---- the call, by the number of the first 'no'
module _ (s : HotSet) (xs keys : List ℕ) (w n : ℕ) (demands thresholds : List Float) (elsewhere : List Bool) (now : ℕ) (out : List Bool) where
  abbrev questions : List Question
  questions = ask_each s xs keys w n demands thresholds elsewhere (length out)

  pub each-unfit : updates_fit (length keys) w n (length demands) (length thresholds) (length elsewhere) ≡ false → 1 ≡ first_no questions
  each-unfit e = first-no 1 _ e

  pub each-fit : updates_fit (length keys) w n (length demands) (length thresholds) (length elsewhere) ≡ true → (m : ℕ) → m ≡ first_no (ask_set_each s xs n demands (length out)) → m ≡ first_no questions
  each-fit e m asked = first-yes 1 _ e asked

  pub each-refused : (e : Refusal) → number e ≡ first_no questions → UpdatedEach s xs keys w n demands thresholds elsewhere now out (Err e) xs out
  each-refused e asked =
      let h = number-nonzero e in
      record {
        answered = answer-no _ _ (number e) asked h;
        left = kept-no _ xs _ (number e) asked h;
        output = kept-no _ out _ (number e) asked h;
      }

  module _ (asked : 0 ≡ first_no questions) where
    pub each-asked : passes questions ≡ true
    each-asked = passed_none questions 0 (omega arith, set-each-numbered s xs n demands (length out)) asked refl

    pub each-done : (r : HotSet) (ys : List ℕ) (out' : List Bool) → UpdatesEach eviction_margin s xs (lent_updates keys w n demands thresholds elsewhere) now n out r ys out' → UpdatedEach s xs keys w n demands thresholds elsewhere now out (Ok r) ys out'
    each-done r ys out' a =
        let passed = each-asked in
        record {
          answered = ap given a.says ∙ answer-passed _ _ passed;
          left = a.left ∙ changed-passed _ xs _ passed;
          output = a.output ∙ changed-passed _ out _ passed;
        }
