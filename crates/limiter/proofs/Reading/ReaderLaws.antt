-- Laws: what the readers and `set_cap` answer once questions 1 and 2 are passed.
use Prim.Native.Nat.{ℕ, ◌≤◌}
use mathlib.Core.Path.{◌≡◌, refl, sym, ap, ◌∙◌}
use mathlib.Core.Bool.{Bool, true}
use mathlib.Core.List.{List, [], ◌∷◌}
use native.Mathlib.Omega.{arith}
use borrow.Author.Tests.{le-leb}
use lib.Dec.{eqb}
use lib.Ieee.{Float}
use Rattle.questions.proofs.Tests.{both, and_intro}
use Rattle.questions.specs.Questions.{given, answer, passes, first_no}
use Rattle.questions.proofs.Answers.{answer-passed}
use Rattle.hot.specs.declared.hot_set.HotSet.{HotSet}
use Rattle.hot.specs.HotSet.Set as hot-set
use Rattle.hot.specs.HotSet.Calls.{ask_set}
use Rattle.hot.proofs.HotSet.Theorems.{ready-valid}
use Rattle.questions.specs.Lists.{all, first, those}
use Rattle.questions.proofs.OnlyLaws.{all-only}
use Rattle.limiter.specs.declared.Limiter.{Limiter}
use Rattle.limiter.specs.declared.key_record.KeyState.{KeyState}
use Rattle.limiter.specs.State.{KeyRecord, LimiterTables, lengths, key_with, state_of, valid_key, value_of, units_in}
use Rattle.limiter.specs.Checks.{stored_cap, set_cap}
use Rattle.limiter.specs.Readers.{of_key, told}
use Rattle.limiter.specs.Calls.{here, state_questions}
use Rattle.limiter.specs.Steps.KeySteps.{key_record}
use Rattle.limiter.specs.Steps.CheckSteps.{Ready, keys_in}
use Rattle.limiter.specs.Steps.ReaderSteps.{with_cap, key_found}
use Rattle.limiter.proofs.States.StateValidLaws.{sizes-say}
use Rattle.limiter.proofs.States.WrittenLaws.{room_says}
use Rattle.limiter.proofs.Checking.LiftLaws.{Passed, passed, facts, keys-counted, hot-counted, shadows-counted}
use Rattle.limiter.proofs.Checking.ReadyLaws.{lent-hot}
use Rattle.std.specs.declared.option.Option.{Option}
use Rattle.std.specs.Option.{MatchOption, IsSomeAnd}
use Rattle.std.specs.declared.option.Option.TheVariants.{None, Some}

-- ---- past questions 1 and 2

-- a number that is 0 says that both were passed
pub past : (l : Limiter) (t : LimiterTables) (m : ℕ) → m ≡ first_no (state_questions l t) → m ≡ 0 → Passed l t []
past l t m e z = passed l t [] m tt e z

-- the first of a list where all pass
pub all_first : {A : Type 0} (p : A → Bool) (xs : List A) (x : A) → all p xs ≡ true → Some x ≡ first xs → p x ≡ true
unfolding all
all_first p [] x a e = let z : ◌≡◌ {A = ℕ} 0 1 = cc in absurd (omega arith)
all_first p (y ∷ ys) x a e = let q : x ≡ y = cc in ap p q ∙ (both (p y) (all p ys) a).0

-- a key that is found is valid
pub found-valid : (l : Limiter) (xs : List ℕ) → Ready l xs → (key : ℕ) (r : Option KeyState) → key_found r ≡ key_with key (keys_in l xs) → (k : KeyState) → r ≡ Some k → valid_key (units_in l) (key_record k) ≡ true
unfolding those
found-valid l xs h key r e k q =
    all_first (valid_key (units_in l)) _ (key_record k) (all-only (valid_key (units_in l)) (λ (x : KeyRecord). eqb x.key key) (keys_in l xs) h.good) (ap key_found (sym q) ∙ e)

module _ (l : Limiter) (t : LimiterTables) (p : Passed l t []) where
  -- the value that is asked for is given
  pub tells : {A : Type 0} (x a : A) → x ≡ a → given x ≡ answer (state_questions l t) a
  tells x a e = ap given e ∙ answer-passed a (state_questions l t) p.all

  -- ---- a key
  module _ (key : ℕ) (r : Option KeyState) (e : key_found r ≡ key_with key (keys_in l t.keys)) where
    -- what the reader makes of the key that was found, if there is one
    pub tells-made : {A : Type 0} (f : KeyRecord → A) (m : Option A) → MatchOption r (m ≡ None) (λ k. IsSomeAnd m (λ x. x ≡ f (key_record k)))
        → given m ≡ answer (state_questions l t) (told f key (here l t))
    unfolding state_of
    tells-made f m h = tells m (told f key (here l t)) (by f r m h ∙ ap (of_key f) e)
      where
        by : {A : Type 0} (f : KeyRecord → A) (r : Option KeyState) (m : Option A) → MatchOption r (m ≡ None) (λ k. IsSomeAnd m (λ x. x ≡ f (key_record k))) → m ≡ of_key f (key_found r)
        by f None m h = h
        by f (Some k) (Some x) h = ap Some h
        by f (Some k) None h = absurd h

  -- ---- the hot set

  -- the set that the settings and the hot table make
  abbrev pub set_of : HotSet
  set_of = record { cooldown = l.config.cooldown; max_size = l.config.hot_set_size; len = l.hot }

  -- its questions are passed
  hot-passes : passes (ask_set set_of t.hot) ≡ true
  unfolding passes hot-set.valid_size state_of
  hot-passes =
      let v = facts l t p.room p.ok in
      let z = sizes-say l.config v.settings.config.sizes in
      let n : l.hot ≤ l.config.hot_set_size = omega (arith, v.hot_few, hot-counted l t p.room p.ok) in
      and_intro _ _ (le-leb _ _ (room_says l.config (lengths t) p.room).for_hot)
      (and_intro _ _
      (ready-valid set_of t.hot
      (and_intro _ _ (le-leb 1 l.config.hot_set_size z.some_hot) (le-leb l.config.hot_set_size 64 z.most_hot))
      n
      (lent-hot l t p.room p.ok))
      refl)

  -- so that its answer is the limiter's
  pub tells_hot : {A : Type 0} (a : A) → answer (ask_set set_of t.hot) a ≡ answer (state_questions l t) a
  tells_hot a = sym (answer-passed a (ask_set set_of t.hot) hot-passes) ∙ tells a a refl

  -- ---- the value with another cap
  pub cap-set : (x y : Option Float) → y ≡ stored_cap x → with_cap l y ≡ value_of (set_cap x (here l t))
  unfolding state_of
  cap-set x y e =
      (λ i. record {
        config = l.config;
        cap = e i;
        last_tick = l.last_tick;
        keys = sym (keys-counted l t p.room p.ok) i;
        hot = sym (hot-counted l t p.room p.ok) i;
        shadows = sym (shadows-counted l t p.room p.ok) i;
      })
