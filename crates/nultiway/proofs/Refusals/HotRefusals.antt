-- A call on a hot set that answers a number other than 0 has changed no lent word. For `nultiway_hot_set_new` and the calls that read it is `tells-unmoved`.
use Prim.Native.Nat.{ℕ, ◌≤◌}
use mathlib.Core.Path.{◌≡◌, refl, ap, ◌∙◌}
use mathlib.Core.Bool.{Bool, true, false}
use mathlib.Core.List.{List}
use lib.Ieee.{Float}
use lib.ListN.{length}
use Rattle.records.specs.Words.{paste}
use Rattle.questions.specs.Questions.{Question, passes}
use Rattle.questions.proofs.Tests.{both}
use Rattle.hot.specs.declared.hot_set.HotSet.{HotSet}
use Rattle.hot.specs.HotSet.Set.{update_with}
use Rattle.hot.specs.HotSet.Calls as hot
use Rattle.nultiway.specs.Calls.{number_of}
use Rattle.nultiway.specs.HotCalls.{hot_set_words, hot_set_of, hot_set_left, hot_set_asked, hot_set_answer_asked, updated_words, Update, UpdateWith, UpdateEach}
use Rattle.nultiway.proofs.Calls.RoomLaws.{both_long}
use Rattle.nultiway.proofs.Words.HotWordLaws.{hot-set-back}
use Rattle.nultiway.proofs.Refusals.RefusalLaws.{not-all, no_words, kept, answered-or-not}
use Rattle.std.specs.declared.result.Result.{Result}
use Rattle.std.specs.declared.result.Result.TheVariants.{Ok, Err}
use Rattle.questions.specs.declared.Refusal.{Refusal}
use Rattle.hot.specs.declared.hot_set.Updated.{Updated}
use Rattle.questions.specs.Refusals.{answer_of}

-- the set's words are there
three : (ws answer : List ℕ) → passes (hot_set_answer_asked ws answer 1) ≡ true → 3 ≤ length ws
unfolding passes
three ws answer p = (both_long 3 (length ws) 1 (length answer) (both _ true p).0).0

-- a set that an update does not change
left-kept : (s : HotSet) (x : Result Updated Refusal) → (number_of (answer_of x) ≡ 0 → ⊥) → hot_set_left s x ≡ s
left-kept s (Err n) h = refl
left-kept s (Ok u) h = absurd (h refl)

module _ (ws xs : List ℕ) (r : ℕ) (ws' xs' : List ℕ) (h : r ≡ 0 → ⊥) where
  pub update-with-unmoved :
      (key : ℕ) (demand threshold : Float) (now : ℕ) (elsewhere : Bool) (answer answer' : List ℕ)
      → UpdateWith ws xs key demand threshold now elsewhere answer r ws' xs' answer'
      → (ws' ≡ ws) × (xs' ≡ xs) × (answer' ≡ answer)
  update-with-unmoved key demand threshold now elsewhere answer answer' c =
      answered-or-not (hot_set_answer_asked ws answer 1) r c
      (λ p a.
      let x = a.result in
      let s : HotSet = hot_set_of ws in
      let z : number_of (answer_of x) ≡ 0 → ⊥ = λ e. h (a.number ∙ e) in
      let qs : List Question = hot.ask_update s xs demand in
      let o = update_with hot.eviction_margin s key demand threshold now elsewhere (hot.entries_of s xs) in
      let n : passes qs ≡ false = not-all (hot.updated s o) qs (answer_of x) a.kept.answered z in (
        a.value ∙ ap (λ (t : HotSet). paste 0 (hot_set_words t) ws) (left-kept s x z) ∙ hot-set-back ws (three ws answer p),
        kept qs _ _ xs' a.kept.left n,
        no_words (answer_of x) updated_words answer answer' z a.answer,
      ))

  pub update-unmoved :
      (key : ℕ) (demand threshold : Float) (now : ℕ) (answer answer' : List ℕ)
      → Update ws xs key demand threshold now answer r ws' xs' answer'
      → (ws' ≡ ws) × (xs' ≡ xs) × (answer' ≡ answer)
  update-unmoved key demand threshold now = update-with-unmoved key demand threshold now false

  pub update-each-unmoved :
      (keys : List ℕ) (width count : ℕ) (demands thresholds : List Float) (elsewhere : List Bool) (now : ℕ) (out out' : List Bool)
      → UpdateEach ws xs keys width count demands thresholds elsewhere now out r ws' xs' out'
      → (ws' ≡ ws) × (xs' ≡ xs) × (out' ≡ out)
  update-each-unmoved keys width count demands thresholds elsewhere now out out' c =
      answered-or-not (hot_set_asked ws) r c
      (λ p a.
      let x = a.result in
      let s : HotSet = hot_set_of ws in
      let z : number_of (answer_of x) ≡ 0 → ⊥ = λ e. h (a.number ∙ e) in
      let qs : List Question = hot.ask_each s xs keys width count demands thresholds elsewhere (length out) in
      let n : passes qs ≡ false = not-all _ qs (answer_of x) a.kept.answered z in (
        no_words (answer_of x) hot_set_words ws ws' z a.answer,
        kept qs _ _ xs' a.kept.left n,
        kept qs _ _ out' a.kept.output n,
      ))
