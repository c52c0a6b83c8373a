-- Lists by a test: through a map, from an index on, and by what holds at each index.
use Prim.Native.Nat.{ℕ, zero, suc, ◌≤◌, ◌<◌, zero-le, suc-le-suc}
use mathlib.Core.Path.{◌≡◌, refl, ap, ◌∙◌}
use mathlib.Core.Bool.{Bool, true, false, cond, ◌&&◌, ◌||◌}
use mathlib.Core.List.{List, [], ◌∷◌, map}
use native.Mathlib.Nat.{le_of_suc-le-suc, not-suc-le-zero}
use lib.Dec.{eqb}
use lib.ListN.{length, take, drop, get_or, length-map, drop_of_length-le}
use lib.Seq.{drop-cons}
use Rattle.questions.specs.Lists.{only, all, any, first, present, those}
use Rattle.questions.proofs.Tests.{both, and_first, and_second}
use Rattle.std.specs.declared.option.Option.{Option}
use Rattle.std.specs.declared.option.Option.TheVariants.{None, Some}

pub map-map : {A B C : Type 0} (f : B → C) (g : A → B) (xs : List A) → map f (map g xs) ≡ map (λ x. f (g x)) xs
map-map f g [] = refl
map-map f g (x ∷ xs) = ap (λ l. f (g x) ∷ l) (map-map f g xs)

-- an option's value, mapped
abbrev pub mapped : {A B : Type 0} → (A → B) → Option A → Option B
mapped f None = None
mapped f (Some x) = Some (f x)

-- ---- through a map
module _ {A B : Type 0} (f : A → B) where
  pub all_map : (p : B → Bool) (xs : List A) → all p (map f xs) ≡ all (λ (x : A). p (f x)) xs
  unfolding all
  all_map p [] = refl
  all_map p (x ∷ xs) = ap (λ (b : Bool). p (f x) && b) (all_map p xs)

  pub any-map : (p : B → Bool) (xs : List A) → any p (map f xs) ≡ any (λ (x : A). p (f x)) xs
  unfolding any
  any-map p [] = refl
  any-map p (x ∷ xs) = ap (λ (b : Bool). p (f x) || b) (any-map p xs)

  put_in : (b : Bool) (x : A) (xs : List A) → cond b (f x ∷ map f xs) (map f xs) ≡ map f (cond b (x ∷ xs) xs)
  put_in true x xs = refl
  put_in false x xs = refl

  pub only-map : (p : B → Bool) (xs : List A) → only p (map f xs) ≡ map f (only (λ (x : A). p (f x)) xs)
  unfolding only
  only-map p [] = refl
  only-map p (x ∷ xs) =
      ap (λ (ys : List B). cond (p (f x)) (f x ∷ ys) ys) (only-map p xs) ∙ put_in (p (f x)) x (only (λ (y : A). p (f y)) xs)

  pub those-map : (number : B → ℕ) (n : ℕ) (xs : List A) → those number n (map f xs) ≡ map f (those (λ (x : A). number (f x)) n xs)
  unfolding those
  those-map number n xs = only-map (λ (y : B). eqb (number y) n) xs

  pub first-map : (xs : List A) → first (map f xs) ≡ mapped f (first xs)
  first-map [] = refl
  first-map (x ∷ xs) = refl

  pub length-those : (number : B → ℕ) (n : ℕ) (xs : List A) → length (those number n (map f xs)) ≡ length (those (λ (x : A). number (f x)) n xs)
  length-those number n xs = ap length (those-map number n xs) ∙ length-map (those (λ (x : A). number (f x)) n xs) f

-- ---- of a part
module _ {A : Type 0} (p : A → Bool) where
  pub all_take : (n : ℕ) (xs : List A) → all p xs ≡ true → all p (take n xs) ≡ true
  unfolding all
  all_take zero xs e = refl
  all_take (suc n) [] e = refl
  all_take (suc n) (x ∷ xs) e = let b = both (p x) (all p xs) e in (λ k. b.0 k && all_take n xs b.1 k)

  pub all_drop : (n : ℕ) (xs : List A) → all p xs ≡ true → all p (drop n xs) ≡ true
  unfolding all
  all_drop zero xs e = e
  all_drop (suc n) [] e = refl
  all_drop (suc n) (x ∷ xs) e = all_drop n xs (both (p x) (all p xs) e).1

-- ---- tests that agree
module _ {A : Type 0} (p q : A → Bool) (d : A) where
  pub all-at : (xs : List A) → ((i : ℕ) → i < length xs → p (get_or xs i d) ≡ q (get_or xs i d)) → all p xs ≡ all q xs
  unfolding all
  all-at [] h = refl
  all-at (x ∷ xs) h = (λ k. h 0 (suc-le-suc zero-le) k && all-at xs (λ i l. h (suc i) (suc-le-suc l)) k)

  pub all_both : (xs : List A) → all (λ (x : A). p x && q x) xs ≡ (all p xs && all q xs)
  unfolding all
  all_both [] = refl
  all_both (x ∷ xs) = ap (λ (b : Bool). (p x && q x) && b) (all_both xs) ∙ pairs (p x) (q x) (all p xs) (all q xs)
    where
      pairs : (a b c e : Bool) → ((a && b) && (c && e)) ≡ ((a && c) && (b && e))
      pairs true true c e = refl
      pairs true false true e = refl
      pairs true false false e = refl
      pairs false b c e = refl

-- ---- by index
module _ {A : Type 0} (p : A → Bool) (d : A) where
  pub all_here : (xs : List A) (i : ℕ) → i < length xs → all p (drop i xs) ≡ (p (get_or xs i d) && all p (drop (suc i) xs))
  unfolding all
  all_here xs i h = ap (all p) (drop-cons xs i d h)

  pub all_end : (xs : List A) (i : ℕ) → length xs ≤ i → all p (drop i xs) ≡ true
  unfolding all
  all_end xs i h = ap (all p) (drop_of_length-le xs h)

  pub any_here : (xs : List A) (i : ℕ) → i < length xs → any p (drop i xs) ≡ (p (get_or xs i d) || any p (drop (suc i) xs))
  unfolding any
  any_here xs i h = ap (any p) (drop-cons xs i d h)

  pub any-end : (xs : List A) (i : ℕ) → length xs ≤ i → any p (drop i xs) ≡ false
  unfolding any
  any-end xs i h = ap (any p) (drop_of_length-le xs h)

  pub only_here : (xs : List A) (i : ℕ) → i < length xs → only p (drop i xs) ≡ cond (p (get_or xs i d)) (get_or xs i d ∷ only p (drop (suc i) xs)) (only p (drop (suc i) xs))
  unfolding only
  only_here xs i h = ap (only p) (drop-cons xs i d h)

  pub only_end : (xs : List A) (i : ℕ) → length xs ≤ i → only p (drop i xs) ≡ []
  unfolding only
  only_end xs i h = ap (only p) (drop_of_length-le xs h)

  pub all-index : (xs : List A) → all p xs ≡ true → (i : ℕ) → i < length xs → p (get_or xs i d) ≡ true
  unfolding all
  all-index [] e i h = absurd (not-suc-le-zero h)
  all-index (x ∷ xs) e zero h = (both (p x) (all p xs) e).0
  all-index (x ∷ xs) e (suc i) h = all-index xs (both (p x) (all p xs) e).1 i (le_of_suc-le-suc h)

  pub all_pass : (xs : List A) → ((i : ℕ) → i < length xs → p (get_or xs i d) ≡ true) → all p xs ≡ true
  unfolding all
  all_pass [] h = refl
  all_pass (x ∷ xs) h = (λ k. h 0 (suc-le-suc zero-le) k && all_pass xs (λ i l. h (suc i) (suc-le-suc l)) k)

  pub all-fail : (xs : List A) (i : ℕ) → i < length xs → p (get_or xs i d) ≡ false → all p xs ≡ false
  unfolding all
  all-fail [] i h e = absurd (not-suc-le-zero h)
  all-fail (x ∷ xs) zero h e = and_first (p x) (all p xs) e
  all-fail (x ∷ xs) (suc i) h e = and_second (p x) (all p xs) (all-fail xs i (le_of_suc-le-suc h) e)

  -- none passes; the first to pass is at i; those from lo up to hi pass
  pub none_pass : (xs : List A) → ((i : ℕ) → i < length xs → p (get_or xs i d) ≡ false) → only p xs ≡ []
  unfolding only
  none_pass [] h = refl
  none_pass (x ∷ xs) h =
      ap (λ (b : Bool). cond b (x ∷ only p xs) (only p xs)) (h 0 (suc-le-suc zero-le)) ∙ none_pass xs (λ i l. h (suc i) (suc-le-suc l))

  pub first-pass : (xs : List A) (i : ℕ) → i < length xs → ((j : ℕ) → j < i → p (get_or xs j d) ≡ false) → p (get_or xs i d) ≡ true → first (only p xs) ≡ Some (get_or xs i d)
  unfolding only
  first-pass [] i l h e = absurd (not-suc-le-zero l)
  first-pass (x ∷ xs) zero l h e = ap (λ (b : Bool). first (cond b (x ∷ only p xs) (only p xs))) e
  first-pass (x ∷ xs) (suc i) l h e =
      ap (λ (b : Bool). first (cond b (x ∷ only p xs) (only p xs))) (h 0 (suc-le-suc zero-le))
      ∙ first-pass xs i (le_of_suc-le-suc l) (λ j m. h (suc j) (suc-le-suc m)) e

-- one passes where there is a first that does
pub any-only : {A : Type 0} (p : A → Bool) (xs : List A) → any p xs ≡ present (first (only p xs))
unfolding any only
any-only p [] = refl
any-only p (x ∷ xs) = ap (λ (b : Bool). p x || b) (any-only p xs) ∙ either (p x)
  where
    either : (b : Bool) → (b || present (first (only p xs))) ≡ present (first (cond b (x ∷ only p xs) (only p xs)))
    either true = refl
    either false = refl

pub map_at : {A B : Type 0} (f : A → B) (d : A) (z : B) (xs : List A) (i : ℕ) → i < length xs → get_or (map f xs) i z ≡ f (get_or xs i d)
map_at f d z [] i h = absurd (not-suc-le-zero h)
map_at f d z (x ∷ xs) zero h = refl
map_at f d z (x ∷ xs) (suc i) h = map_at f d z xs i (le_of_suc-le-suc h)
