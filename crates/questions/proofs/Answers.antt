-- A call's answer, by what its questions were answered.
use Prim.Native.Nat.{ℕ, ◌<◌}
use native.Mathlib.Omega.{arith}
use mathlib.Core.Path.{◌≡◌, refl, sym, ap, ◌∙◌}
use mathlib.Core.Bool.{Bool, true, false, cond}
use mathlib.Core.List.{List, [], ◌∷◌, ◌++◌}
use borrow.Author.Tests.{eqb-true}
use lib.Dec.{eqb}
use Rattle.questions.proofs.Tests.{split, both, contradiction}
use Rattle.questions.specs.Questions.{Question, ◌asks◌, Answer, refused, given, answer, passes, changed, first_no}

-- ---- question by question

-- the first is answered 'no'
pub no : {A : Type 0} (n : ℕ) {b : Bool} (qs : List Question) (a : A) → b ≡ false → refused n ≡ answer ((n asks b) ∷ qs) a
unfolding answer
no n qs a e = rw e

-- it is answered 'yes'
pub yes : {A : Type 0} (n : ℕ) {b : Bool} (qs : List Question) (a : A) {x : Answer A} → b ≡ true → x ≡ answer qs a → x ≡ answer ((n asks b) ∷ qs) a
unfolding answer
yes n qs a e h = rw e h

-- none is left
pub value : {A : Type 0} {a x : A} → x ≡ a → given x ≡ answer [] a
unfolding answer
value e = ap given e

-- the number of the first 'no', likewise
pub first-no : (n : ℕ) {b : Bool} (qs : List Question) → b ≡ false → n ≡ first_no ((n asks b) ∷ qs)
unfolding first_no
first-no n qs e = rw e

pub first-yes : (n : ℕ) {b : Bool} (qs : List Question) {m : ℕ} → b ≡ true → m ≡ first_no qs → m ≡ first_no ((n asks b) ∷ qs)
unfolding first_no
first-yes n qs e h = rw e h

pub first-none : 0 ≡ first_no []
unfolding first_no
first-none = refl

-- more questions after those asked: a 'no' stays the first, and passed ones leave the rest
pub first_more : (qs rs : List Question) (n : ℕ) → n ≡ first_no qs → (n ≡ 0 → ⊥) → n ≡ first_no (qs ++ rs)
unfolding first_no
first_more [] rs n e h = absurd (h e)
first_more (q ∷ qs) rs n e h = split q.passed
    (λ p. rw p (first_more qs rs n (rw p at e) h))
    (λ p. let k : n ≡ q.number = rw p at e in rw p k)

pub first_rest : (qs rs : List Question) → passes qs ≡ true → first_no rs ≡ first_no (qs ++ rs)
unfolding passes first_no
first_rest [] rs e = refl
first_rest (q ∷ qs) rs e = let b = both q.passed _ e in rw b.0 (first_rest qs rs b.1)

-- ---- one question alone
pub alone-no : {A : Type 0} (n : ℕ) {b : Bool} (a : A) → b ≡ false → refused n ≡ answer ((n asks b) ∷ []) a
alone-no n a h = no n [] a h

pub alone-yes : {A : Type 0} (n : ℕ) {b : Bool} (a : A) → b ≡ true → given a ≡ answer ((n asks b) ∷ []) a
alone-yes n a h = yes n [] a h (value refl)

pub alone-kept : {S : Type 0} (n : ℕ) {b : Bool} (before after : S) → b ≡ false → before ≡ changed ((n asks b) ∷ []) before after
unfolding passes
alone-kept n before after h = rw h

pub alone-changed : {S : Type 0} (n : ℕ) {b : Bool} (before after : S) → b ≡ true → after ≡ changed ((n asks b) ∷ []) before after
unfolding passes
alone-changed n before after h = rw h

-- ---- by the number of the first 'no'
module _ {A : Type 0} (a : A) where
  pub answer-passed : (qs : List Question) → passes qs ≡ true → given a ≡ answer qs a
  unfolding answer passes
  answer-passed [] e = refl
  answer-passed (q ∷ qs) e = let b = both q.passed _ e in rw b.0 (answer-passed qs b.1)

  pub answer-no : (qs : List Question) (n : ℕ) → n ≡ first_no qs → (n ≡ 0 → ⊥) → refused n ≡ answer qs a
  unfolding answer first_no
  answer-no [] n e h = absurd (h e)
  answer-no (q ∷ qs) n e h = split q.passed
      (λ p. rw p (answer-no qs n (rw p at e) h))
      (λ p. let k : n ≡ q.number = rw p at e in rw (p, k))

  pub changed-passed : (b : A) (qs : List Question) → passes qs ≡ true → a ≡ changed qs b a
  unfolding passes
  changed-passed b qs e = sym (ap (λ (t : Bool). cond t a b) e)

pub not-passed : (qs : List Question) (n : ℕ) → n ≡ first_no qs → (n ≡ 0 → ⊥) → passes qs ≡ false
unfolding passes first_no
not-passed [] n e h = absurd (h e)
not-passed (q ∷ qs) n e h = split q.passed
    (λ p. rw p (not-passed qs n (rw p at e) h))
    (λ p. rw p)

pub kept-no : {A : Type 0} (a b : A) (qs : List Question) (n : ℕ) → n ≡ first_no qs → (n ≡ 0 → ⊥) → b ≡ changed qs b a
kept-no a b qs n e h = sym (ap (λ (t : Bool). cond t a b) (not-passed qs n e h))

-- no question has the number 0
abbrev pub Numbered : List Question → Type 0
Numbered [] = Unit
Numbered (q ∷ qs) = (0 < q.number) × Numbered qs

pub passed_none : (qs : List Question) (n : ℕ) → Numbered qs → n ≡ first_no qs → n ≡ 0 → passes qs ≡ true
unfolding passes first_no
passed_none [] n w e z = refl
passed_none (q ∷ qs) n w e z = split q.passed
    (λ p. rw p (passed_none qs n w.1 (rw p at e) z))
    (λ p. let k : n ≡ q.number = rw p at e in absurd (omega (arith, w.0)))

pub none_passed : (qs : List Question) → passes qs ≡ true → first_no qs ≡ 0
unfolding passes first_no
none_passed [] e = refl
none_passed (q ∷ qs) e = let b = both q.passed _ e in rw b.0 (none_passed qs b.1)

-- so the number of a first 'no' is not 0
pub not-zero : (qs : List Question) (n : ℕ) → Numbered qs → n ≡ first_no qs → passes qs ≡ false → eqb n 0 ≡ false
not-zero qs n nums e p = split (eqb n 0) (λ z. contradiction (sym (passed_none qs n nums e (eqb-true n 0 z)) ∙ p)) (λ z. z)

-- of questions one after the other it is that of the first ones where these are not all passed
pub first-front : (qs rs : List Question) → Numbered qs → passes qs ≡ false → first_no qs ≡ first_no (qs ++ rs)
first-front qs rs nums e = first_more qs rs (first_no qs) refl (λ z. contradiction (sym (passed_none qs (first_no qs) nums refl z) ∙ e))

-- and where it is 0 all are
pub passed-both : (qs rs : List Question) → Numbered qs → Numbered rs → 0 ≡ first_no (qs ++ rs) → (passes qs ≡ true) × (passes rs ≡ true)
passed-both qs rs m n e =
    split (passes qs)
    (λ p. (p, passed_none rs 0 n (e ∙ sym (first_rest qs rs p)) refl))
    (λ p. contradiction (sym (passed_none qs 0 m (e ∙ sym (first-front qs rs m p)) refl) ∙ p))

-- a value is given only where every question was passed
pub given-passed : {A : Type 0} (qs : List Question) (u v : A) → given u ≡ answer qs v → (passes qs ≡ true) × (u ≡ v)
unfolding answer passes
given-passed [] u v e = (refl, cc)
given-passed (q ∷ qs) u v e = split q.passed
    (λ p. let r = given-passed qs u v (rw p at e) in (rw p r.0, r.1))
    (λ p. let w : given u ≡ refused q.number = rw p at e in let z : ◌≡◌ {A = ℕ} 0 1 = cc in absurd (omega arith))
