-- A call's questions, in their order, and its answer (01, 'A check comes in'). Definitions only.
use Rattle.std.specs.Prelude.{ℕ, Bool, true, cond, ◌&&◌, List, [], ◌∷◌}

-- a question's number, and whether the answer to it is 'yes'
pub record Question : Type 0 where
  pub number : ℕ
  pub passed : Bool

infix 20 ◌asks◌
abbrev pub ◌asks◌ : ℕ → Bool → Question
n asks b = record { number = n; passed = b }

-- a 'no' is its number alone
pub data Answer (A : Type 0) : Type 0 where
  refused : ℕ → Answer A
  given : A → Answer A

-- the first 'no' is the answer; where there is none, the call's value is
unfoldable pub answer : {A : Type 0} → List Question → A → Answer A
answer [] a = given a
answer (q ∷ qs) a = cond q.passed (answer qs a) (refused q.number)

unfoldable pub passes : List Question → Bool
passes [] = true
passes (q ∷ qs) = q.passed && passes qs

-- a 'no' changes nothing
abbrev pub changed : {S : Type 0} → List Question → S → S → S
changed qs before after = cond (passes qs) after before

-- the number of the first 'no', 0 where there is none
unfoldable pub first_no : List Question → ℕ
first_no [] = 0
first_no (q ∷ qs) = cond q.passed (first_no qs) q.number
