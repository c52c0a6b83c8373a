-- What every function of the library promises, over the promise of the crate's function that it calls. Definitions only.
use Rattle.std.specs.Prelude.{ℕ, ◌≡◌, Bool, true, false, List, [], ◌∷◌, Float}
use Rattle.records.specs.Words.{paste}
use Rattle.gcra.specs.declared.Quota.{Quota}
use Rattle.gcra.specs.declared.Decision.{Decision}
use Rattle.gcra.specs.declared.Decision.TheVariants.{Allow, Deny}
use Rattle.questions.specs.Questions.{Question, Answer, refused, given, passes, first_no}
use Rattle.records.specs.Fields.{flag_word}
use Rattle.limiter.specs.State.{float_word}

-- ---- the number and the words of an answer

-- 0 where the call is answered, else the number of the first question that it fails
abbrev pub number_of : {A : Type 0} → Answer A → ℕ
number_of (refused n) = n
number_of (given a) = 0

-- the answer's words at the front of the buffer for it, which is as it was where the answer is 'no'
abbrev pub answer_put : {A : Type 0} → (A → List ℕ) → Answer A → List ℕ → List ℕ
answer_put words (refused n) xs = xs
answer_put words (given a) xs = paste 0 (words a) xs

-- ---- a call

-- The questions of the lent words come first: refused by one of them, the call answers its number and changes nothing.
pub record Called (qs : List Question) (r : ℕ) (Unmoved Answered : Type 0) : Type 0 where
  pub refused : passes qs ≡ false → (r ≡ first_no qs) × Unmoved
  pub answered : passes qs ≡ true → Answered

-- The result of the crate's function on the value v keeps that function's promise, and gives the number and the value's words.
pub record Changes
    {B R A : Type 0} (promise : B → R → Type 0) (v : B) (said : R → Answer A) (left : R → List ℕ)
    (before : List ℕ) (r : ℕ) (after : List ℕ) : Type 0 where
  pub result : R
  pub kept : promise v result
  pub number : r ≡ number_of (said result)
  pub value : after ≡ paste 0 (left result) before

-- The same, and the answer's words.
pub record Answers
    {B R A : Type 0} (promise : B → R → Type 0) (v : B) (said : R → Answer A) (words : A → List ℕ) (left : R → List ℕ)
    (before out : List ℕ) (r : ℕ) (after out' : List ℕ) : Type 0 where
  pub result : R
  pub kept : promise v result
  pub number : r ≡ number_of (said result)
  pub value : after ≡ paste 0 (left result) before
  pub answer : out' ≡ answer_put words (said result) out

-- Of a call that reads: the number and the answer's words.
pub record Tells
    {B R A : Type 0} (promise : B → R → Type 0) (v : B) (said : R → Answer A) (words : A → List ℕ)
    (out : List ℕ) (r : ℕ) (out' : List ℕ) : Type 0 where
  pub result : R
  pub kept : promise v result
  pub number : r ≡ number_of (said result)
  pub answer : out' ≡ answer_put words (said result) out

-- ---- the words of answers

-- denied?, the retry time
abbrev pub decision_words : Decision → List ℕ
decision_words Allow = 0 ∷ 0 ∷ []
decision_words (Deny t) = 1 ∷ t ∷ []

-- one number
abbrev pub one_word : ℕ → List ℕ
one_word n = n ∷ []

-- a float's bits
abbrev pub float_words : Float → List ℕ
float_words x = float_word x ∷ []

-- a flag, 0 or 1
abbrev pub flag_words : Bool → List ℕ
flag_words b = flag_word b ∷ []

-- the interval and the burst
abbrev pub quota_words : Quota → List ℕ
quota_words q = q.interval ∷ q.burst ∷ []
