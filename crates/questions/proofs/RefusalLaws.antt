-- What a result of questions says: a refusal is the first 'no', and no refusal is that all were passed.
use native.Mathlib.Omega.{arith}
use Prim.Native.Nat.{ℕ}
use mathlib.Core.Path.{◌≡◌, refl, sym, ap, ◌∙◌}
use mathlib.Core.Bool.{Bool, true, false, ◌&&◌}
use mathlib.Core.List.{List, [], ◌∷◌, ◌++◌}
use Rattle.std.specs.declared.result.Result.{Result}
use Rattle.std.specs.declared.result.Result.TheVariants.{Ok, Err}
use borrow.Author.Tests.{ne_eqb, eqb-true}
use lib.Dec.{eqb}
use Rattle.std.specs.Result.{IsErrAnd, is_ok}
use Rattle.std.proofs.lemmas.Result.{err_from_is_err_and}
use Rattle.questions.specs.declared.Refusal.{Refusal}
use Rattle.questions.specs.declared.Refusal.TheVariants.{ShortBuffer, Invalid, Rate, Burst, Factor, Sizes, ClusterSize, TableFull, Counter, LongReport, Demand, PeersFull, Image, Word, Window, ShortOutput}
use Rattle.questions.proofs.Tests.{split, both}
use Rattle.questions.specs.Questions.{Question, ◌asks◌, Answer, refused, given, answer, passes, changed, first_no}
use Rattle.questions.specs.Refusals.{number, refusal_of, asked, answer_of, first_of}
use Rattle.questions.proofs.Answers.{Numbered, answer-no, answer-passed, not-passed, passed_none, kept-no, first_more, first_rest}

pub number-nonzero : (e : Refusal) → number e ≡ 0 → ⊥
number-nonzero ShortBuffer z = omega arith
number-nonzero Invalid z = omega arith
number-nonzero Rate z = omega arith
number-nonzero Burst z = omega arith
number-nonzero Factor z = omega arith
number-nonzero Sizes z = omega arith
number-nonzero ClusterSize z = omega arith
number-nonzero TableFull z = omega arith
number-nonzero Counter z = omega arith
number-nonzero LongReport z = omega arith
number-nonzero Demand z = omega arith
number-nonzero PeersFull z = omega arith
number-nonzero Image z = omega arith
number-nonzero Word z = omega arith
number-nonzero Window z = omega arith
number-nonzero ShortOutput z = omega arith

-- the result of questions that a call hands on
module _ {A : Type 0} {r : Result A Refusal} (qs : List Question) (e : asked r ≡ first_no qs) where
  pub refused-first : (x : Refusal) → r ≡ Err x → number x ≡ first_no qs
  refused-first x i = sym (ap asked i) ∙ e

  pub refused-answer : {B : Type 0} (x : Refusal) (b : B) → r ≡ Err x → refused (number x) ≡ answer qs b
  refused-answer x b i = answer-no b qs (number x) (refused-first x i) (number-nonzero x)

  pub refused-not : (x : Refusal) → r ≡ Err x → passes qs ≡ false
  refused-not x i = not-passed qs (number x) (refused-first x i) (number-nonzero x)

  pub refused-kept : {B : Type 0} (x : Refusal) (a b : B) → r ≡ Err x → b ≡ changed qs b a
  refused-kept x a b i = kept-no a b qs (number x) (refused-first x i) (number-nonzero x)

  pub asked-passed : Numbered qs → (a : A) → r ≡ Ok a → passes qs ≡ true
  asked-passed w a i = passed_none qs 0 w (sym (ap asked i) ∙ e) refl

-- ---- the result that an answer is of

pub refusal-back : (e : Refusal) → refusal_of (number e) ≡ e
unfolding refusal_of
refusal-back ShortBuffer = refl
refusal-back Invalid = refl
refusal-back Rate = refl
refusal-back Burst = refl
refusal-back Factor = refl
refusal-back Sizes = refl
refusal-back ClusterSize = refl
refusal-back TableFull = refl
refusal-back Counter = refl
refusal-back LongReport = refl
refusal-back Demand = refl
refusal-back PeersFull = refl
refusal-back Image = refl
refusal-back Word = refl
refusal-back Window = refl
refusal-back ShortOutput = refl

unfoldable pub result_of : {A : Type 0} → Answer A → Result A Refusal
result_of (given a) = Ok a
result_of (refused n) = Err (refusal_of n)

pub result-said : {A : Type 0} {a : Answer A} (r : Result A Refusal) → answer_of r ≡ a → r ≡ result_of a
unfolding result_of
result-said (Ok x) e = ap result_of e
result-said (Err x) e = ap Err (sym (refusal-back x)) ∙ ap result_of e

-- a result whose answer is a value is that value
pub ok-given : {A : Type 0} (r : Result A Refusal) (a : A) → answer_of r ≡ given a → r ≡ Ok a
unfolding result_of
ok-given r a e = result-said r e

-- each question has a refusal of its number
abbrev pub Known : List Question → Type 0
Known [] = Unit
Known (q ∷ qs) = (number (refusal_of q.number) ≡ q.number) × Known qs

pub result-back : {A : Type 0} (qs : List Question) (a : A) → Known qs → answer_of (result_of (answer qs a)) ≡ answer qs a
unfolding result_of answer
result-back [] a k = refl
result-back (q ∷ qs) a k = split q.passed
    (λ p. rw p (result-back qs a k.1))
    (λ p. rw p (ap refused k.0))

pub known-both : (qs rs : List Question) → Known qs → Known rs → Known (qs ++ rs)
known-both [] rs k m = m
known-both (q ∷ qs) rs k m = (k.0, known-both qs rs k.1 m)

-- the same as a test, which a list of written-out numbers passes by computing
abbrev pub are_known : List Question → Bool
are_known [] = true
are_known (q ∷ qs) = eqb (number (refusal_of q.number)) q.number && are_known qs

pub known-tested : (qs : List Question) → are_known qs ≡ true → Known qs
known-tested [] e = tt
known-tested (q ∷ qs) e =
    let b = both (eqb (number (refusal_of q.number)) q.number) (are_known qs) e in
    (eqb-true (number (refusal_of q.number)) q.number b.0, known-tested qs b.1)

pub tested-back : {A : Type 0} (qs : List Question) (a : A) → are_known qs ≡ true → answer_of (result_of (answer qs a)) ≡ answer qs a
tested-back qs a e = result-back qs a (known-tested qs e)

-- ---- questions one after the other

module _ {A : Type 0} {r : Result A Refusal} (qs rs : List Question) (e : asked r ≡ first_no qs) where
  -- a refusal of the first ones is that of all
  pub first-refused : (x : Refusal) → r ≡ Err x → number x ≡ first_no (qs ++ rs)
  first-refused x i = first_more qs rs (number x) (refused-first qs e x i) (number-nonzero x)

  -- and where they pass the others decide
  pub first-passed : Numbered qs → (a : A) → r ≡ Ok a → first_no rs ≡ first_no (qs ++ rs)
  first-passed w a i = first_rest qs rs (asked-passed qs e w a i)

-- question 1 of two states and then 2 of both, from the first 'no' of each
pub first-two : (r v s w : Bool) → first_of (first_no ((1 asks r) ∷ (2 asks v) ∷ [])) (first_no ((1 asks s) ∷ (2 asks w) ∷ [])) ≡ first_no ((1 asks (r && s)) ∷ (2 asks (v && w)) ∷ [])
unfolding first_of first_no
first-two true true true true = refl
first-two true true true false = refl
first-two true true false w = refl
first-two true false true true = refl
first-two true false true false = refl
first-two true false false w = refl
first-two false v true true = refl
first-two false v true false = refl
first-two false v false w = refl

-- ---- what a `?` hands on is the refusal that the questions before it gave

pub handed : {A : Type 0} (e : Refusal) (r : Result A Refusal) → IsErrAnd r (λ y. y ≡ e) → r ≡ Err e
handed e r i = let p = err_from_is_err_and r i in p.1 ∙ ap Err p.2

module _ {A : Type 0} (qs : List Question) (e : Refusal) (f : number e ≡ first_no qs) (r : Result A Refusal) (i : IsErrAnd r (λ y. y ≡ e)) where
  pub refusal-is : (a : A) → answer_of r ≡ answer qs a
  refusal-is a = rw (handed e r i) (answer-no a qs (number e) f (number-nonzero e))

  pub refusal-first : (rs : List Question) → asked r ≡ first_no (qs ++ rs)
  refusal-first rs = rw (handed e r i) (first_more qs rs (number e) f (number-nonzero e))

  pub refusal-kept : {B : Type 0} (before after : B) → before ≡ changed qs before after
  refusal-kept before after = kept-no after before qs (number e) f (number-nonzero e)

-- it is the answer to the same questions, whatever the value would have been
pub refused-any : {A B : Type 0} (qs : List Question) (n : ℕ) (a : A) (b : B) → refused n ≡ answer qs a → refused n ≡ answer qs b
unfolding answer
refused-any [] n a b e = cc
refused-any {A} (q ∷ qs) n a b e = split q.passed
    (λ p. rw p (refused-any qs n a b (rw p at e)))
    (λ p. let k : ◌≡◌ {A = Answer A} (refused n) (refused q.number) = rw p at e in rw p cc)

-- a value is the answer where no question is answered 'no'
pub value-is : {A : Type 0} (qs : List Question) (x y : A) → passes qs ≡ true → x ≡ y → given x ≡ answer qs y
value-is qs x y p e = ap given e ∙ answer-passed y qs p

-- a result is a value exactly where its number is 0
pub ok-zero : {A : Type 0} (r : Result A Refusal) → is_ok r ≡ eqb (asked r) 0
ok-zero (Ok a) = refl
ok-zero (Err x) = sym (ne_eqb (number x) 0 (number-nonzero x))
