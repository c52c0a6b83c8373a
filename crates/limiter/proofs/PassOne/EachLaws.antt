-- Laws: the hot set's updates as they are lent are those of the keys, and pass their questions.
use mathlib.Core.Path.{◌≡◌, refl, sym, ap, ◌∙◌}
use mathlib.Core.Bool.{Bool, true}
use mathlib.Core.List.{List, [], ◌∷◌, ◌++◌, map, zip_with}
use Prim.Native.Nat.{ℕ, suc, ◌≤◌}
use native.Mathlib.Nat.{le_of_suc-le-suc, not-suc-le-zero}
use native.Mathlib.Omega.{arith}
use borrow.Author.Tests.{le-leb}
use lib.Ieee.{Float}
use lib.ListN.{length, take, drop, length-map, length-take}
use lib.Seq.{take_at, length-take-le}
use Rattle.float.specs.Magnitude.{magnitude}
use Rattle.records.specs.Records.{records}
use Rattle.records.proofs.Words.RecordLaws.{fits_intro}
use Rattle.questions.proofs.Tests.{and_intro}
use Rattle.questions.specs.Questions.{Question, passes}
use Rattle.questions.proofs.Answers.{given-passed, changed-passed}
use Rattle.hot.specs.declared.hot_set.HotEntry.{HotEntry}
use Rattle.hot.specs.declared.hot_set.HotSet.{HotSet}
use Rattle.hot.specs.HotSet.Set.{Update, updates_of, update_each, entries}
use Rattle.hot.proofs.HotSet.Theorems.{ready-valid}
use Rattle.hot.specs.HotSet.Calls.{eviction_margin, room, rewritten_each, updates_fit, ask_each, lent_updates, sized, UpdatedEach}
use Rattle.demand.specs.Estimators.Estimator.{whole}
use Rattle.questions.specs.Lists.{all}
use Rattle.questions.proofs.ListLaws.{map-map}
use Rattle.limiter.specs.declared.Limiter.{Limiter}
use Rattle.limiter.specs.State.{KeyRecord, key_of, valid_key, units_in}
use Rattle.limiter.specs.Steps.TickSteps.{key_records, LentKeys}
use Rattle.limiter.specs.Steps.PassOneSteps.{elsewhere_if, threshold_of, Measured, update_of, set_of, LentHot, updates_for, updated_for, HotUpdated}
use Rattle.limiter.proofs.States.KeyListLaws.{all-mapped}
use Rattle.limiter.proofs.States.RecordValidLaws.{key-says}
use Rattle.limiter.proofs.Checking.KeyRecordLaws.{never-refused}
use Rattle.limiter.proofs.PassOne.KeyWordLaws.{keys-many}
use Rattle.std.specs.declared.result.Result.{Result}
use Rattle.std.specs.declared.result.Result.TheVariants.{Ok, Err}
use Rattle.questions.specs.declared.Refusal.{Refusal}
use Rattle.questions.specs.Refusals.{answer_of, number}

-- ---- updates made of lists

-- what stands past the keys does not count
updates-taken : (ks : List ℕ) (ds ts : List Float) (bs : List Bool)
    → updates_of ks ds ts bs ≡ updates_of ks (take (length ks) ds) (take (length ks) ts) (take (length ks) bs)
unfolding updates_of
updates-taken [] ds ts bs = refl
updates-taken (k ∷ ks) [] ts bs = refl
updates-taken (k ∷ ks) (d ∷ ds) [] bs = refl
updates-taken (k ∷ ks) (d ∷ ds) (t ∷ ts) [] = refl
updates-taken (k ∷ ks) (d ∷ ds) (t ∷ ts) (b ∷ bs) =
    let u : Update = record { key = k; demand = d; threshold = t; elsewhere = b } in ap (λ (us : List Update). u ∷ us) (updates-taken ks ds ts bs)

-- all but the flags worked out from the keys
module _ {A : Type 0} (key : A → ℕ) (demand threshold : A → Float) where
  abbrev made : A → Bool → Update
  made x b = record { key = key x; demand = demand x; threshold = threshold x; elsewhere = b }

  updates-zip : (xs : List A) (bs : List Bool) → updates_of (map key xs) (map demand xs) (map threshold xs) bs ≡ zip_with made xs bs
  unfolding updates_of zip_with
  updates-zip [] bs = refl
  updates-zip (x ∷ xs) [] = refl
  updates-zip (x ∷ xs) (b ∷ bs) = ap (λ (us : List Update). made x b ∷ us) (updates-zip xs bs)

-- as many as the first list has
zip-many : {A B C : Type 0} (f : A → B → C) (xs : List A) (ys : List B) → length xs ≤ length ys → length (zip_with f xs ys) ≡ length xs
unfolding zip_with
zip-many f [] ys h = refl
zip-many f (x ∷ xs) [] h = absurd (not-suc-le-zero h)
zip-many f (x ∷ xs) (y ∷ ys) h = ap suc (zip-many f xs ys (le_of_suc-le-suc h))

-- a list with so many first elements is as long
long-enough : {A : Type 0} (m : ℕ) (xs : List A) → length (take m xs) ≡ m → m ≤ length xs
long-enough m xs e = omega (arith, length-take m xs)

-- an answer for each update
answers-many : (margin : Float) (s : HotSet) (now : ℕ) (us : List Update) (es : List HotEntry)
    → length (update_each margin s now us es).hot ≡ length us
unfolding update_each
answers-many margin s now [] es = refl
answers-many margin s now (u ∷ us) es = ap suc (answers-many margin s now us _)

module _ (silent : Float) (l : Limiter) (now n : ℕ) (keys hot : List ℕ) (elsewhere : List Bool)
    (k : LentKeys (units_in l) l.keys keys) (h : LentHot l hot) (told : l.keys ≤ length elsewhere)
    (size : Float) (z : size ≡ whole n) (demands thresholds : List Float) (flags : List Bool)
    (w : Measured (units_in l) silent l.keys keys l.config.alpha size elsewhere demands thresholds flags)
  where
    abbrev m : ℕ
    m = l.keys

    abbrev ks : List KeyRecord
    ks = key_records (units_in l) m keys

    abbrev outs : List Bool
    outs = zip_with (elsewhere_if silent) ks (take m elsewhere)

    -- the updates that are lent
    lent-are : lent_updates keys 22 m demands thresholds flags ≡ updates_for silent l n keys elsewhere
    unfolding key_of
    lent-are =
        let numbers : List ℕ = map (λ (x : KeyRecord). x.key) ks in
        let many : length numbers ≡ m = length-map ks (λ (x : KeyRecord). x.key) ∙ keys-many (units_in l) m keys in
        ap (λ (js : List ℕ). updates_of js demands thresholds flags) (sym (map-map (λ (x : KeyRecord). x.key) (key_of (units_in l)) (records 22 m keys)))
        ∙ updates-taken numbers demands thresholds flags
        ∙ (λ i. updates_of numbers (take (many i) demands) (take (many i) thresholds) (take (many i) flags))
        ∙ (λ i. updates_of numbers (w.demand_rates i) (w.cold_rates i) (w.elsewhere_flags i))
        ∙ (λ i. updates_of numbers (map (λ (x : KeyRecord). x.demand.rate) ks) (map (threshold_of l.config.alpha (z i)) ks) outs)
        ∙ updates-zip (λ (x : KeyRecord). x.key) (λ (x : KeyRecord). x.demand.rate) (threshold_of l.config.alpha (whole n)) ks outs

    many-updates : length (updates_for silent l n keys elsewhere) ≡ m
    many-updates =
        let a = keys-many (units_in l) m keys in
        let b = zip-many (elsewhere_if silent) ks (take m elsewhere) (omega (arith, length-take-le m elsewhere told)) in
        zip-many (update_of l.config.alpha n) ks outs (omega arith) ∙ a

    -- their demands are finite with a clear sign bit
    demands-good : all magnitude (take m demands) ≡ true
    demands-good =
        ap (all magnitude) w.demand_rates
        ∙ all-mapped (λ (x : KeyRecord). x.demand.rate) (valid_key (units_in l)) magnitude ks (λ x v. (key-says (units_in l) x v).demand.finite)
        k.valids

    -- so many demands, thresholds and flags are lent
    long-demands : m ≤ length demands
    long-demands = long-enough m demands (ap length w.demand_rates ∙ length-map ks (λ (x : KeyRecord). x.demand.rate) ∙ keys-many (units_in l) m keys)

    long-thresholds : m ≤ length thresholds
    long-thresholds = long-enough m thresholds (ap length w.cold_rates ∙ length-map ks (threshold_of l.config.alpha size) ∙ keys-many (units_in l) m keys)

    long-flags : m ≤ length flags
    long-flags =
        let a = keys-many (units_in l) m keys in
        long-enough m flags
        (ap length w.elsewhere_flags ∙ zip-many (elsewhere_if silent) ks (take m elsewhere) (omega (arith, length-take-le m elsewhere told)) ∙ a)

    module _ (out : List Bool) (roomy : m ≤ length out) where
      abbrev questions : List Question
      questions = ask_each (set_of l) hot keys 22 m demands thresholds flags (length out)

      asked : passes questions ≡ true
      unfolding passes updates_fit
      asked =
          and_intro _ _
          (and_intro _ _ (fits_intro (length keys) 22 m (omega arith) k.fit)
          (and_intro _ _ (le-leb m (length demands) long-demands)
          (and_intro _ _ (le-leb m (length thresholds) long-thresholds) (le-leb m (length flags) long-flags))))
          (and_intro _ _ (le-leb (room l.config.hot_set_size) (length hot) h.fit)
          (and_intro _ _ (ready-valid (set_of l) hot h.size h.few h.held)
          (and_intro _ _ demands-good (and_intro _ _ (le-leb m (length out) roomy) refl))))

      -- the promise of `update_each`, which has its own margin, for a margin that is the same
      module _ (r : Result HotSet Refusal) (hot' : List ℕ) (out' : List Bool)
          (u : UpdatedEach (set_of l) hot keys 22 m demands thresholds flags now out r hot' out')
          (margin : Float) (same : eviction_margin ≡ margin)
        where
          -- the value of the answer, if it is given
          abbrev after : List Update → HotSet
          after us = sized (set_of l) (length (update_each eviction_margin (set_of l) now us (entries l.hot hot)).left)

          pub each-never : {P : Type 0} (i : Refusal) → r ≡ Err i → P
          each-never i e =
              never-refused questions (number i) (after (lent_updates keys 22 m demands thresholds flags)) asked u.answered (sym (ap answer_of e))

          pub each-done : (set : HotSet) → r ≡ Ok set → HotUpdated margin silent l now n keys hot elsewhere set.len hot' flags out'
          each-done set e =
              let us = lent-are in
              let hots : List Bool = (updated_for margin silent l now n keys hot elsewhere).hot in
              let given-set : set ≡ after (lent_updates keys 22 m demands thresholds flags) =
              (given-passed questions set (after (lent_updates keys 22 m demands thresholds flags)) (sym (ap answer_of e) ∙ u.answered)).1 in
              let written : out' ≡ hots ++ drop m out =
              u.output
              ∙ sym (changed-passed _ out questions asked)
              ∙ (λ i. (update_each (same i) (set_of l) now (us i) (entries l.hot hot)).hot ++ drop m out) in
              record {
                elsewhere_flags = w.elsewhere_flags;
                hot_flags =
                    ap (take m) written
                    ∙ take_at hots (drop m out) m
                    (answers-many margin (set_of l) now (updates_for silent l n keys elsewhere) (entries l.hot hot) ∙ many-updates);
                count = ap (λ (x : HotSet). x.len) given-set ∙ (λ i. length (update_each (same i) (set_of l) now (us i) (entries l.hot hot)).left);
                words =
                    u.left
                    ∙ sym (changed-passed _ hot questions asked)
                    ∙ (λ i. rewritten_each (same i) (set_of l) now (us i) (entries l.hot hot) hot);
              }
