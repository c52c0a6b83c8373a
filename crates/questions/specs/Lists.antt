-- Lists by a test, and lists that ascend by a number. Definitions only.
use Rattle.std.specs.Prelude.{ℕ, Bool, true, false, cond, ◌&&◌, ◌||◌, List, [], ◌∷◌, ◌++◌, ltb, eqb}
use Rattle.std.specs.declared.option.Option.{Option}
use Rattle.std.specs.declared.option.Option.TheVariants.{None, Some}

-- the elements that pass the test
unfoldable pub only : {A : Type 0} → (A → Bool) → List A → List A
only p [] = []
only p (x ∷ xs) = cond (p x) (x ∷ only p xs) (only p xs)

unfoldable pub all : {A : Type 0} → (A → Bool) → List A → Bool
all p [] = true
all p (x ∷ xs) = p x && all p xs

unfoldable pub any : {A : Type 0} → (A → Bool) → List A → Bool
any p [] = false
any p (x ∷ xs) = p x || any p xs

abbrev pub first : {A : Type 0} → List A → Option A
first [] = None
first (x ∷ xs) = Some x

abbrev pub present : {A : Type 0} → Option A → Bool
present None = false
present (Some x) = true

-- those whose number is n
unfoldable pub those : {A : Type 0} → (A → ℕ) → ℕ → List A → List A
those number n xs = only (λ x. eqb (number x) n) xs

-- `new` in the place of those whose number is n, in a list that ascends by it
unfoldable pub replaced : {A : Type 0} → (A → ℕ) → ℕ → List A → List A → List A
replaced number n new xs = only (λ x. ltb (number x) n) xs ++ (new ++ only (λ x. ltb n (number x)) xs)
