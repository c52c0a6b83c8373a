-- A call by the questions of its lent words: refused by one of them, or answered.
use Prim.Native.Nat.{ℕ, zero, suc, ◌≤◌}
use mathlib.Core.Path.{◌≡◌, refl, sym, ap, ◌∙◌, subst}
use native.Mathlib.Omega.{arith}
use mathlib.Core.Bool.{Bool, true, ◌&&◌}
use mathlib.Core.List.{List, [], ◌∷◌, ◌++◌}
use borrow.Author.Tests.{leb-true}
use lib.Dec.{leb, lit<}
use lib.Ieee.{Float}
use lib.ListN.{length, get_or}
use Rattle.questions.proofs.Tests.{split, contradiction, both}
use Rattle.records.specs.Words.{paste}
use Rattle.gcra.specs.declared.Decision.{Decision}
use Rattle.gcra.specs.declared.Decision.TheVariants.{Allow, Deny}
use Rattle.questions.specs.Questions.{Question, Answer, given, answer, passes, first_no}
use Rattle.questions.proofs.Answers.{Numbered, answer-passed, passed_none, none_passed}
use Rattle.limiter.specs.declared.Limit.{Limit}
use Rattle.limiter.specs.State.{Lengths, have_room}
use Rattle.nultiway.specs.Values.{limiter_of, is_limiter, limiter_asked, room_asked}
use Rattle.nultiway.specs.Calls.{Called, Changes, Answers, Tells, number_of, answer_put, decision_words}
use Rattle.nultiway.specs.LimiterCalls.{cap_given, shadow_given, shadow_words}
use Rattle.std.specs.declared.option.Option.{Option}
use Rattle.std.specs.declared.option.Option.TheVariants.{None, Some}
use Rattle.std.specs.declared.result.Result.{Result}
use Rattle.std.specs.declared.result.Result.TheVariants.{Ok, Err}
use Rattle.questions.specs.declared.Refusal.{Refusal}
use Rattle.questions.specs.Refusals.{asked, answer_of}

pub refused-call : {U X : Type 0} (qs : List Question) (r : ℕ) → r ≡ first_no qs → (r ≡ 0 → ⊥) → U → Called qs r U X
refused-call qs r e h u = record { refused = λ p. (e, u); answered = λ p. absurd (h (e ∙ none_passed qs p)) }

pub passed-call : {U X : Type 0} (qs : List Question) (r : ℕ) → passes qs ≡ true → X → Called qs r U X
passed-call qs r e x = record { refused = λ p. contradiction (sym e ∙ p); answered = λ p. x }

-- by the call's own questions, or by the crate's
pub by-questions : {U X P : Type 0} (qs : List Question) (r : ℕ) → Called qs r U X → (passes qs ≡ true → X → P) → (U → P) → P
by-questions qs r c f g = split (passes qs) (λ p. f p (c.answered p)) (λ p. g (c.refused p).1)

-- ---- a limiter's words

-- what a limiter's questions say where they are passed
pub record Open (ws : List ℕ) (n : Lengths) (room : Bool) : Type 0 where
  pub passed : passes (limiter_asked ws n room) ≡ true
  pub long : 16 ≤ length ws
  pub tables : have_room (limiter_of ws).config n ≡ true
  pub others : room ≡ true
  pub value : is_limiter ws ≡ true

pub was-open : (ws : List ℕ) (n : Lengths) (room : Bool) → passes (limiter_asked ws n room) ≡ true → Open ws n room
unfolding passes
was-open ws n room p =
    let t = have_room (limiter_of ws).config n in
    let a = both (leb 16 (length ws) && (t && room)) _ p in
    let b = both (leb 16 (length ws)) (t && room) a.0 in
    let d = both t room b.1 in
    let c = both (is_limiter ws) true a.1 in
    record { passed = p; long = leb-true _ _ b.0; tables = d.0; others = d.1; value = c.0 }

pub opened : (ws : List ℕ) (n : Lengths) (room : Bool) (k : ℕ) → k ≡ first_no (limiter_asked ws n room) → k ≡ 0 → Open ws n room
opened ws n room k e z = was-open ws n room (passed_none (limiter_asked ws n room) k (lit< tt, (lit< tt, tt)) e z)

-- the questions with a test that the code worked out
pub asked-with : (ws : List ℕ) (n : Lengths) {k : ℕ} {b d : Bool} → k ≡ first_no (limiter_asked ws n b) → b ≡ d → k ≡ first_no (limiter_asked ws n d)
asked-with ws n e h = e ∙ ap (λ (t : Bool). first_no (limiter_asked ws n t)) h

-- ---- one question

pub room-passed : (room : Bool) → room ≡ true → passes (room_asked room) ≡ true
unfolding passes
room-passed room e = rw e

-- and what it says
pub room-told : (room : Bool) → passes (room_asked room) ≡ true → room ≡ true
unfolding passes
room-told room e = (both room true e).0

pub one : ◌≡◌ {A = ℕ} 1 0 → ⊥
one e = omega arith

-- ---- the number of an answer

-- is that of the first 'no'
pub number-first : {A : Type 0} (qs : List Question) (a : A) → number_of (answer qs a) ≡ first_no qs
unfolding answer first_no
number-first [] a = refl
number-first (q ∷ qs) a = split q.passed (λ e. rw e (number-first qs a)) (λ e. rw e)

-- 0 says that the call's own questions are passed
pub zero-passed : (qs : List Question) {U X : Type 0} → Numbered qs → Called qs 0 U X → (passes qs ≡ true) × X
zero-passed qs nums c =
    split (passes qs) (λ p. (p, c.answered p)) (λ p. contradiction (sym (passed_none qs 0 nums (c.refused p).0 refl) ∙ p))

-- and that an answer is a value
pub zero-given : {A : Type 0} (a : A) (qs : List Question) (x : Answer A) → Numbered qs → x ≡ answer qs a → 0 ≡ number_of x → x ≡ given a
zero-given a qs x nums e n = e ∙ sym (answer-passed a qs (passed_none qs 0 nums (n ∙ ap number_of e ∙ number-first qs a) refl))

-- ---- an answer

-- a value is put as its words, and the number is 0
pub said_put :
    {A : Type 0} (x : Answer A) (words : A → List ℕ) (to to' : List ℕ) (a : A)
    → x ≡ given a
    → to' ≡ paste 0 (words a) to
    → (0 ≡ number_of x) × (to' ≡ answer_put words x to)
said_put x words to to' a e p = (sym (ap number_of e), p ∙ sym (ap (λ (y : Answer _). answer_put words y to) e))

-- ---- an answered call, of a value that is the one that was read

module _ {B R A : Type 0} {promise : B → R → Type 0} {said : R → Answer A} {v v₀ : B} (e : v ≡ v₀) (x : R) (h : promise v x) where
  pub changes :
      {left : R → List ℕ} {before after : List ℕ} {r : ℕ}
      → r ≡ number_of (said x)
      → after ≡ paste 0 (left x) before
      → Changes promise v₀ said left before r after
  changes n a = record { result = x; kept = subst (λ (w : B). promise w x) e h; number = n; value = a }

  pub answers :
      {words : A → List ℕ} {left : R → List ℕ} {before out after out' : List ℕ} {r : ℕ}
      → r ≡ number_of (said x)
      → after ≡ paste 0 (left x) before
      → out' ≡ answer_put words (said x) out
      → Answers promise v₀ said words left before out r after out'
  answers n a o = record { result = x; kept = subst (λ (w : B). promise w x) e h; number = n; value = a; answer = o }

  pub tells :
      {words : A → List ℕ} {out out' : List ℕ} {r : ℕ}
      → r ≡ number_of (said x)
      → out' ≡ answer_put words (said x) out
      → Tells promise v₀ said words out r out'
  tells n o = record { result = x; kept = subst (λ (w : B). promise w x) e h; number = n; answer = o }

-- ---- arguments with a flag, and the words of decisions

pub cap-set : (flag : ℕ) (x : Float) → (flag ≡ 0 → ⊥) → Some x ≡ cap_given flag x
cap-set zero x h = absurd (h refl)
cap-set (suc flag) x h = refl

pub shadow-set : (flag : ℕ) (l : Limit) → (flag ≡ 0 → ⊥) → Some l ≡ shadow_given flag l
shadow-set zero l h = absurd (h refl)
shadow-set (suc flag) l h = refl

pub decision-apart : (d : Decision) → 1 ∷ get_or (decision_words d) 0 0 ∷ get_or (decision_words d) 1 0 ∷ [] ≡ 1 ∷ decision_words d
decision-apart Allow = refl
decision-apart (Deny t) = refl

pub traced-apart :
    (d : Decision) (x : Option Decision)
    → get_or (decision_words d) 0 0
    ∷ get_or (decision_words d) 1 0
    ∷ get_or (shadow_words x) 0 0
    ∷ get_or (shadow_words x) 1 0
    ∷ get_or (shadow_words x) 2 0
    ∷ []
    ≡ decision_words d ++ shadow_words x
traced-apart Allow None = refl
traced-apart Allow (Some Allow) = refl
traced-apart Allow (Some (Deny t)) = refl
traced-apart (Deny u) None = refl
traced-apart (Deny u) (Some Allow) = refl
traced-apart (Deny u) (Some (Deny t)) = refl

-- the number of a result that is no answer yet
pub number-asked : {A : Type 0} (r : Result A Refusal) → number_of (answer_of r) ≡ asked r
number-asked (Ok a) = refl
number-asked (Err x) = refl
