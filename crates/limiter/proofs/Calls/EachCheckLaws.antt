-- `check_each` is the list of its checks: what single calls of `check`, one after the other, answer and leave.
use Prim.Native.Nat.{ℕ}
use mathlib.Core.Path.{◌≡◌, refl, ap, ◌∙◌}
use mathlib.Core.Bool.{Bool, true, cond, ◌&&◌}
use mathlib.Core.List.{List, [], ◌∷◌, ◌++◌}
use lib.ListN.{get_or}
use Rattle.questions.proofs.Tests.{split, both}
use Rattle.gcra.specs.declared.Decision.{Decision}
use Rattle.questions.specs.Questions.{Question, Answer, passes}
use Rattle.demand.specs.Allocation.{is_cluster_size}
use Rattle.questions.specs.Lists.{all}
use Rattle.records.specs.Typed.{is_word}
use Rattle.limiter.specs.declared.Limiter.{Limiter}
use Rattle.limiter.specs.Answered.{Checked}
use Rattle.limiter.specs.State.{LimiterState, LimiterTables, value_of, written, units_in, settings_of, state_of, units_of}
use Rattle.limiter.specs.Checks.{own_limit, key_decision, check_in, cluster_questions, check_key_questions, check_one, after_one, check_each}
use Rattle.limiter.specs.Calls.{here, state_questions, Checks}
use Rattle.limiter.proofs.Calls.CheckValidLaws.{check-valid}
use Rattle.limiter.proofs.States.WrittenLaws.{read_back}
use Rattle.limiter.proofs.LimiterTheorems.{Sound, sound-passes, here-valid, checked-again, one-settings}
use Rattle.limiter.proofs.Checking.LiftLaws.{answer-after, passes-after}
use Rattle.limiter.proofs.States.StateValidLaws.{units-of-accepted}
use Rattle.questions.specs.Refusals.{answer_of}

-- the pairs are checked by one call of `check` each, with these answers
pub data OneByOne (n : ℕ) : List (List ℕ) → Limiter → LimiterTables → List (Answer Decision) → Limiter → LimiterTables → Type 0 where
  no_more : {l : Limiter} {t : LimiterTables} → OneByOne n [] l t [] l t
  checked :
      {p : List ℕ} {ps : List (List ℕ)} {l l' : Limiter} {t t₁ t' : LimiterTables} {ds : List (Answer Decision)} (r : Checked)
      → Checks l t (get_or p 0 0) (get_or p 1 0) n r t₁ → OneByOne n ps r.limiter t₁ ds l' t'
      → OneByOne n (p ∷ ps) l t (answer_of r.answer ∷ ds) l' t'

module _ (n : ℕ) (size : is_cluster_size n ≡ true) where
  -- ---- one check
  module _ (l : Limiter) (t : LimiterTables) (sound : Sound l t) (key now : ℕ) (wk : is_word key ≡ true) (wn : is_word now ≡ true) (r : Checked)
      (t₁ : LimiterTables) (c : Checks l t key now n r t₁) where
    abbrev s : LimiterState
    s = here l t

    -- questions 1, 2 and 7 are passed
    abbrev first : List Question
    first = state_questions l t ++ cluster_questions n

    first-passed : passes first ≡ true
    unfolding passes
    first-passed = passes-after (state_questions l t) (cluster_questions n) (sound-passes l t sound) ∙ ap (λ (b : Bool). b && true) size

    one_answer : answer_of r.answer ≡ check_one (units_in l) n s key now
    one_answer = c.answered ∙ answer-after first (check_key_questions (units_in l) s key now n) (key_decision (units_in l) s key (own_limit s) now n) first-passed

    -- 7, 8 and 9
    all_passed : passes (check_key_questions (units_in l) s key now n) ≡ true → passes (cluster_questions n ++ check_key_questions (units_in l) s key now n) ≡ true
    unfolding passes
    all_passed e = rw size e

    one_left : here r.limiter t₁ ≡ after_one (units_in l) n s key now
    unfolding check_in state_of
    one_left =
        (λ i. here (c.limiter i) (c.words i))
        ∙ ap (λ (b : Bool). here (cond b (value_of x) l) (cond b (written (units_in l) x t) t))
        (passes-after first (check_key_questions (units_in l) s key now n) first-passed)
        ∙ split (passes (check_key_questions (units_in l) s key now n))
        (λ e. rw e
        (read_back (units_in l) (units-of-accepted (settings_of l)) x t (check-valid (units_in l) (units-of-accepted (settings_of l)) s (here-valid l t sound) key now n wk wn (all_passed e))))
        (λ e. rw e)
      where
        x : LimiterState
        x = check_in (units_in l) s key (own_limit s) now n

    -- the units stay
    one-units : units_in r.limiter ≡ units_in l
    unfolding state_of
    one-units = ap (λ (y : LimiterState). units_of y.settings) one_left ∙ ap units_of (one-settings (units_in l) n s key now)

  -- ---- all of them
  pub one_by_one :
      {ps : List (List ℕ)} {l l' : Limiter} {t t' : LimiterTables} {ds : List (Answer Decision)} → OneByOne n ps l t ds l' t' → Sound l t
      → all (λ (p : List ℕ). is_word (get_or p 0 0) && is_word (get_or p 1 0)) ps ≡ true
      → (ds ≡ (check_each (units_in l) n ps (here l t)).answers) × (here l' t' ≡ (check_each (units_in l) n ps (here l t)).left)
  unfolding check_each all
  one_by_one no_more sound w = (refl, refl)
  one_by_one (checked {p} {ps} {l} {l'} {t} {t₁} {t'} {ds} r c more) sound w =
      let b = both (is_word (get_or p 0 0) && is_word (get_or p 1 0)) _ w in
      let k = both (is_word (get_or p 0 0)) (is_word (get_or p 1 0)) b.0 in
      let rest = one_by_one more (checked-again l t t₁ sound (get_or p 0 0) (get_or p 1 0) n r k.0 k.1 c) b.1 in
      let left = one_left l t sound (get_or p 0 0) (get_or p 1 0) k.0 k.1 r t₁ c in
      let units = one-units l t sound (get_or p 0 0) (get_or p 1 0) k.0 k.1 r t₁ c in (
        (λ i. one_answer l t sound (get_or p 0 0) (get_or p 1 0) k.0 k.1 r t₁ c i ∷
            (rest.0 ∙ (λ j. (check_each (units j) n ps (left j)).answers)) i),
        rest.1 ∙ (λ j. (check_each (units j) n ps (left j)).left),
      )
