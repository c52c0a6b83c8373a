-- Lists by a test: those that pass, put together, through a map and by a number, those replaced by others, and how many they are.
use mathlib.Core.Path.{◌≡◌, refl, sym, ap, ◌∙◌, subst}
use mathlib.Core.Bool.{Bool, true, false, cond, not, ◌&&◌, ◌||◌}
use mathlib.Core.List.{List, [], ◌∷◌, ◌++◌, map, append-nil}
use mathlib.Core.Logic.{◌⊎◌, inl, inr, ⊎_elim}
use Prim.Native.Nat.{ℕ, suc, ◌+◌, ◌≤◌, ◌<◌, zero-le, suc-le-suc}
use native.Mathlib.Omega.{arith}
use borrow.Author.Tests.{ltb-true, ltb-false, lt-ltb, le-ltb, eq-eqb, ne_eqb, eqb-true, eqb-false}
use lib.Dec.{ltb, eqb}
use lib.ListN.{length, length-append}
use Rattle.questions.proofs.Tests.{contradiction, split, both, and_intro, or_right, or-false, eqb-self}
use Rattle.questions.specs.Lists.{only, all, any, first, those, replaced}
use Rattle.questions.proofs.ListLaws.{only-map}
use Rattle.std.specs.declared.option.Option.TheVariants.{Some}

-- ---- those that pass

pub only_yes : {A : Type 0} (p : A → Bool) (x : A) (xs : List A) → p x ≡ true → only p (x ∷ xs) ≡ x ∷ only p xs
unfolding only
only_yes p x xs e = ap (λ (b : Bool). cond b (x ∷ only p xs) (only p xs)) e

pub only_no : {A : Type 0} (p : A → Bool) (x : A) (xs : List A) → p x ≡ false → only p (x ∷ xs) ≡ only p xs
unfolding only
only_no p x xs e = ap (λ (b : Bool). cond b (x ∷ only p xs) (only p xs)) e

pub only-append : {A : Type 0} (p : A → Bool) (xs ys : List A) → only p (xs ++ ys) ≡ only p xs ++ only p ys
unfolding only
only-append p [] ys = refl
only-append p (x ∷ xs) ys = split (p x)
    (λ e. only_yes p x (xs ++ ys) e ∙ ap (λ l. x ∷ l) (only-append p xs ys) ∙ sym (ap (λ l. l ++ only p ys) (only_yes p x xs e)))
    (λ e. only_no p x (xs ++ ys) e ∙ only-append p xs ys ∙ sym (ap (λ l. l ++ only p ys) (only_no p x xs e)))

-- a test of the image
pub map-only : {A B : Type 0} (f : A → B) (p : B → Bool) (xs : List A) → map f (only (λ x. p (f x)) xs) ≡ only p (map f xs)
map-only f p xs = sym (only-map f p xs)

pub only_same : {A : Type 0} (p q : A → Bool) → ((x : A) → p x ≡ q x) → (xs : List A) → only p xs ≡ only q xs
unfolding only
only_same p q h [] = refl
only_same p q h (x ∷ xs) = (λ k. cond (h x k) (x ∷ only_same p q h xs k) (only_same p q h xs k))

pub only-only : {A : Type 0} (p q : A → Bool) (xs : List A) → only q (only p xs) ≡ only (λ x. p x && q x) xs
unfolding only
only-only p q [] = refl
only-only p q (x ∷ xs) = split (p x)
    (λ e. ap (only q) (only_yes p x xs e) ∙ split (q x)
    (λ f. only_yes q x (only p xs) f ∙ ap (λ l. x ∷ l) (only-only p q xs) ∙ sym (only_yes (λ y. p y && q y) x xs ((λ k. e k && f k))))
    (λ f. only_no q x (only p xs) f ∙ only-only p q xs ∙ sym (only_no (λ y. p y && q y) x xs ((λ k. e k && f k)))))
    (λ e. ap (only q) (only_no p x xs e) ∙ only-only p q xs ∙ sym (only_no (λ y. p y && q y) x xs (ap (λ (b : Bool). b && q x) e)))

-- ---- by a number

pub those-twice : {A : Type 0} (number : A → ℕ) (a : ℕ) (xs : List A) → those number a (those number a xs) ≡ those number a xs
unfolding those
those-twice number a xs = only-only (λ x. eqb (number x) a) (λ x. eqb (number x) a) xs ∙ only_same (λ x. eqb (number x) a && eqb (number x) a) (λ x. eqb (number x) a) (λ x. again (eqb (number x) a)) xs
  where
    again : (b : Bool) → (b && b) ≡ b
    again true = refl
    again false = refl

pub after_test : (x a : ℕ) → ltb a x ≡ not (ltb x (a + 1))
after_test x a = split (ltb x (a + 1))
    (λ e. le-ltb a x (omega (arith, ltb-true x (a + 1) e)) ∙ sym (ap not e))
    (λ e. lt-ltb a x (omega (arith, ltb-false x (a + 1) e)) ∙ sym (ap not e))

pub equal-test : (x a : ℕ) → eqb x a ≡ (ltb x (a + 1) && not (ltb x a))
equal-test x a = split (ltb x a)
    (λ e. ne_eqb x a (λ q. omega (arith, ltb-true x a e)) ∙ sym ((λ k. lt-ltb x (a + 1) (omega (arith, ltb-true x a e)) k && not (e k))))
    (λ e. split (ltb x (a + 1))
    (λ f. eq-eqb x a (omega (arith, ltb-false x a e, ltb-true x (a + 1) f)) ∙ sym ((λ k. f k && not (e k))))
    (λ f. ne_eqb x a (λ q. omega (arith, ltb-false x (a + 1) f)) ∙ sym ((λ k. f k && not (e k)))))

-- ---- through a map

pub map-self : {A : Type 0} (xs : List A) → map (λ x. x) xs ≡ xs
map-self [] = refl
map-self (x ∷ xs) = ap (λ l. x ∷ l) (map-self xs)

pub map-append : {A B : Type 0} (f : A → B) (xs ys : List A) → map f (xs ++ ys) ≡ map f xs ++ map f ys
map-append f [] ys = refl
map-append f (x ∷ xs) ys = ap (λ l. f x ∷ l) (map-append f xs ys)

-- by the words of each
module _ {A : Type 0} (number : A → ℕ) (words : A → List ℕ) (word_of : List ℕ → ℕ) (h : (x : A) → word_of (words x) ≡ number x) (a : ℕ) where
  by-words : (t : ℕ → Bool) (xs : List A) → map words (only (λ x. t (number x)) xs) ≡ only (λ r. t (word_of r)) (map words xs)
  by-words t xs =
      ap (map words) (only_same (λ x. t (number x)) (λ x. t (word_of (words x))) (λ x. ap t (sym (h x))) xs)
      ∙ map-only words (λ r. t (word_of r)) xs

  pub those-words : (xs : List A) → map words (those number a xs) ≡ those word_of a (map words xs)
  unfolding those
  those-words xs = by-words (λ n. eqb n a) xs

  pub replaced-words : (new xs : List A) → map words (replaced number a new xs) ≡ replaced word_of a (map words new) (map words xs)
  unfolding replaced
  replaced-words new xs =
      map-append words (only (λ x. ltb (number x) a) xs) (new ++ only (λ x. ltb a (number x)) xs)
      ∙ (λ k. by-words (λ n. ltb n a) xs k ++ (map-append words new (only (λ x. ltb a (number x)) xs) ∙ ap (λ l. map words new ++ l) (by-words (λ n. ltb a n) xs)) k)

-- ---- is there one?

pub any_same : {A : Type 0} (p q : A → Bool) → ((x : A) → p x ≡ q x) → (xs : List A) → any p xs ≡ any q xs
unfolding any
any_same p q h [] = refl
any_same p q h (x ∷ xs) = (λ k. h x k || any_same p q h xs k)

pub any-only : {A : Type 0} (p q : A → Bool) (xs : List A) → any p (only q xs) ≡ any (λ x. q x && p x) xs
unfolding any only
any-only p q [] = refl
any-only p q (x ∷ xs) = split (q x)
    (λ e. ap (any p) (only_yes q x xs e) ∙ (λ k. p x || any-only p q xs k) ∙ sym (ap (λ (b : Bool). (b && p x) || any (λ y. q y && p y) xs) e))
    (λ e. ap (any p) (only_no q x xs e) ∙ any-only p q xs ∙ sym (ap (λ (b : Bool). (b && p x) || any (λ y. q y && p y) xs) e))

-- among those with a number
pub any-those : {A : Type 0} (number : A → ℕ) (a : ℕ) (p : A → Bool) (xs : List A) → any (λ x. eqb (number x) a && p x) xs ≡ any p (those number a xs)
unfolding those
any-those number a p xs = sym (any-only p (λ x. eqb (number x) a) xs)

-- as many as pass
pub any-counted : {A : Type 0} (p : A → Bool) (xs : List A) → any p xs ≡ ltb 0 (length (only p xs))
unfolding any only
any-counted p [] = refl
any-counted p (x ∷ xs) = split (p x)
    (λ e. ap (λ (b : Bool). b || any p xs) e ∙ sym (ap (λ l. ltb 0 (length l)) (only_yes p x xs e) ∙ lt-ltb 0 (suc (length (only p xs))) (suc-le-suc zero-le)))
    (λ e. ap (λ (b : Bool). b || any p xs) e ∙ any-counted p xs ∙ sym (ap (λ l. ltb 0 (length l)) (only_no p x xs e)))

pub any-number : {A : Type 0} (number : A → ℕ) (a : ℕ) (xs : List A) → any (λ x. eqb (number x) a) xs ≡ ltb 0 (length (those number a xs))
unfolding those
any-number number a xs = any-counted (λ x. eqb (number x) a) xs

-- one of either part
module _ {A : Type 0} where
  pub any_left : (p : A → Bool) (xs ys : List A) → any p xs ≡ true → any p (xs ++ ys) ≡ true
  unfolding any
  any_left p [] ys e = contradiction (sym e)
  any_left p (x ∷ xs) ys e = split (p x)
      (λ h. ap (λ (b : Bool). b || any p (xs ++ ys)) h)
      (λ h. ap (λ (b : Bool). b || any p (xs ++ ys)) h ∙ any_left p xs ys (sym (ap (λ (b : Bool). b || any p xs) h) ∙ e))

  pub any-right : (p : A → Bool) (xs ys : List A) → any p ys ≡ true → any p (xs ++ ys) ≡ true
  unfolding any
  any-right p [] ys e = e
  any-right p (x ∷ xs) ys e = or_right (p x) (any p (xs ++ ys)) (any-right p xs ys e)

-- ---- all of them

module _ {A : Type 0} (p : A → Bool) where
  pub all_append : (xs ys : List A) → all p xs ≡ true → all p ys ≡ true → all p (xs ++ ys) ≡ true
  unfolding all
  all_append [] ys a b = b
  all_append (x ∷ xs) ys a b = and_intro (p x) (all p (xs ++ ys)) (both (p x) (all p xs) a).0 (all_append xs ys (both (p x) (all p xs) a).1 b)

  pub all-only : (q : A → Bool) (xs : List A) → all p xs ≡ true → all p (only q xs) ≡ true
  unfolding all only
  all-only q [] a = refl
  all-only q (x ∷ xs) a = split (q x)
      (λ e. ap (all p) (only_yes q x xs e) ∙ and_intro (p x) (all p (only q xs)) (both (p x) (all p xs) a).0 (all-only q xs (both (p x) (all p xs) a).1))
      (λ e. ap (all p) (only_no q x xs e) ∙ all-only q xs (both (p x) (all p xs) a).1)

  pub only-passes : (xs : List A) → all p (only p xs) ≡ true
  unfolding all only
  only-passes [] = refl
  only-passes (x ∷ xs) = split (p x)
      (λ e. ap (all p) (only_yes p x xs e) ∙ and_intro (p x) (all p (only p xs)) e (only-passes xs))
      (λ e. ap (all p) (only_no p x xs e) ∙ only-passes xs)

  pub all-replaced : (number : A → ℕ) (a : ℕ) (new xs : List A) → all p new ≡ true → all p xs ≡ true → all p (replaced number a new xs) ≡ true
  unfolding replaced
  all-replaced number a new xs h k =
      all_append (only (λ x. ltb (number x) a) xs) (new ++ only (λ x. ltb a (number x)) xs) (all-only (λ x. ltb (number x) a) xs k)
      (all_append new (only (λ x. ltb a (number x)) xs) h (all-only (λ x. ltb a (number x)) xs k))

-- what follows for each, follows for all
pub all-imply : {A : Type 0} (p q : A → Bool) (xs : List A) → ((x : A) → p x ≡ true → q x ≡ true) → all p xs ≡ true → all q xs ≡ true
unfolding all
all-imply p q [] f a = refl
all-imply p q (x ∷ xs) f a = and_intro (q x) (all q xs) (f x (both (p x) (all p xs) a).0) (all-imply p q xs f (both (p x) (all p xs) a).1)

pub all_two : {A : Type 0} (p q r : A → Bool) (xs : List A) → ((x : A) → p x ≡ true → q x ≡ true → r x ≡ true) → all p xs ≡ true → all q xs ≡ true → all r xs ≡ true
unfolding all
all_two p q r [] f a b = refl
all_two p q r (x ∷ xs) f a b = and_intro (r x) (all r xs) (f x (both (p x) (all p xs) a).0 (both (q x) (all q xs) b).0) (all_two p q r xs f (both (p x) (all p xs) a).1 (both (q x) (all q xs) b).1)

-- the first of them
pub first_passes : {A : Type 0} (p : A → Bool) (xs : List A) → all p xs ≡ true → (x : A) → first xs ≡ Some x → p x ≡ true
unfolding all
first_passes p [] a x e = let z : ◌≡◌ {A = ℕ} 0 1 = cc in absurd (omega arith)
first_passes p (y ∷ ys) a x e = let q : y ≡ x = cc in subst (λ z. p z ≡ true) q (both (p y) (all p ys) a).0

-- each one's number is there
pub all-number : {A : Type 0} (number : A → ℕ) (xs : List A) → all (λ x. any (λ y. eqb (number y) (number x)) xs) xs ≡ true
unfolding all any
all-number number [] = refl
all-number number (x ∷ xs) =
    and_intro (eqb (number x) (number x) || any (λ y. eqb (number y) (number x)) xs) _ (ap (λ (b : Bool). b || any (λ y. eqb (number y) (number x)) xs) (eqb-self (number x)))
    (all-imply (λ z. any (λ y. eqb (number y) (number z)) xs) (λ z. eqb (number x) (number z) || any (λ y. eqb (number y) (number z)) xs) xs (λ z h. or_right (eqb (number x) (number z)) _ h) (all-number number xs))

-- ---- all of them pass, or none does

module _ {A : Type 0} where
  pub only-all : (p : A → Bool) (xs : List A) → all p xs ≡ true → only p xs ≡ xs
  unfolding only all
  only-all p [] a = refl
  only-all p (x ∷ xs) a = only_yes p x xs (both (p x) (all p xs) a).0 ∙ ap (λ l. x ∷ l) (only-all p xs (both (p x) (all p xs) a).1)

  pub only-nothing : (p : A → Bool) (xs : List A) → all (λ x. not (p x)) xs ≡ true → only p xs ≡ []
  unfolding only all
  only-nothing p [] a = refl
  only-nothing p (x ∷ xs) a = only_no p x xs (turned (p x) (both (not (p x)) (all (λ y. not (p y)) xs) a).0) ∙ only-nothing p xs (both (not (p x)) (all (λ y. not (p y)) xs) a).1
    where
      turned : (b : Bool) → not b ≡ true → b ≡ false
      turned true e = sym e
      turned false e = refl

  -- a test that fails wherever another does
  pub only-within : (p q : A → Bool) → ((x : A) → q x ≡ true → p x ≡ true) → (xs : List A) → only q (only p xs) ≡ only q xs
  unfolding only
  only-within p q f [] = refl
  only-within p q f (x ∷ xs) = split (q x)
      (λ e. ap (only q) (only_yes p x xs (f x e)) ∙ only_yes q x (only p xs) e ∙ ap (λ l. x ∷ l) (only-within p q f xs) ∙ sym (only_yes q x xs e))
      (λ e. split (p x)
      (λ g. ap (only q) (only_yes p x xs g) ∙ only_no q x (only p xs) e ∙ only-within p q f xs ∙ sym (only_no q x xs e))
      (λ g. ap (only q) (only_no p x xs g) ∙ only-within p q f xs ∙ sym (only_no q x xs e)))

  -- tests that exclude each other
  pub only-apart : (p q : A → Bool) → ((x : A) → p x ≡ true → q x ≡ false) → (xs : List A) → only q (only p xs) ≡ []
  only-apart p q f xs = only-nothing q (only p xs) (all-imply p (λ x. not (q x)) (only p xs) (λ x e. ap not (f x e)) (only-passes p xs))

  -- where none passes, each fails
  pub any-misses : (p : A → Bool) (xs : List A) → any p xs ≡ false → all (λ x. not (p x)) xs ≡ true
  unfolding any all
  any-misses p [] e = refl
  any-misses p (x ∷ xs) e = let b = or-false (p x) (any p xs) e in and_intro (not (p x)) _ (ap not b.0) (any-misses p xs b.1)

-- ---- those with a number, after those with a number were replaced

module _ {A : Type 0} where
  any-more : (p q : A → Bool) (x : A) (xs : List A) → any p (only q xs) ≡ true → any p (only q (x ∷ xs)) ≡ true
  unfolding any
  any-more p q x xs e = split (q x)
      (λ h. ap (any p) (only_yes q x xs h) ∙ or_right (p x) (any p (only q xs)) e)
      (λ h. ap (any p) (only_no q x xs h) ∙ e)

  any_here : (p q : A → Bool) (x : A) (xs : List A) → p x ≡ true → q x ≡ true → any p (only q (x ∷ xs)) ≡ true
  unfolding any
  any_here p q x xs e h = ap (any p) (only_yes q x xs h) ∙ ap (λ (b : Bool). b || any p (only q xs)) e

  any-split : (p : A → Bool) (number : A → ℕ) (a : ℕ) (xs : List A) → ((x : A) → p x ≡ true → number x ≡ a → ⊥) → any p xs ≡ true → (any p (only (λ x. ltb (number x) a) xs) ≡ true) ⊎ (any p (only (λ x. ltb a (number x)) xs) ≡ true)
  unfolding any
  any-split p number a [] f e = contradiction (sym e)
  any-split p number a (x ∷ xs) f e = split (p x)
      (λ h. split (ltb (number x) a)
      (λ l. inl (any_here p (λ y. ltb (number y) a) x xs h l))
      (λ l. split (ltb a (number x))
      (λ g. inr (any_here p (λ y. ltb a (number y)) x xs h g))
      (λ g. let z : number x ≡ a = omega (arith, ltb-false (number x) a l, ltb-false a (number x) g) in absurd (f x h z))))
      (λ h. ⊎_elim
      (λ l. inl (any-more p (λ y. ltb (number y) a) x xs l))
      (λ g. inr (any-more p (λ y. ltb a (number y)) x xs g))
      (any-split p number a xs f (sym (ap (λ (b : Bool). b || any p xs) h) ∙ e)))

  -- what holds for some, holds still
  pub any-kept : (p : A → Bool) (number : A → ℕ) (a : ℕ) (new xs : List A) → ((x : A) → p x ≡ true → number x ≡ a → ⊥) → any p xs ≡ true → any p (replaced number a new xs) ≡ true
  unfolding replaced
  any-kept p number a new xs f e = ⊎_elim
      (λ l. any_left p (only (λ x. ltb (number x) a) xs) (new ++ only (λ x. ltb a (number x)) xs) l)
      (λ h. any-right p (only (λ x. ltb (number x) a) xs) (new ++ only (λ x. ltb a (number x)) xs) (any-right p new (only (λ x. ltb a (number x)) xs) h))
      (any-split p number a xs f e)

module _ {A : Type 0} (number : A → ℕ) (a : ℕ) (new xs : List A) (en : all (λ x. eqb (number x) a) new ≡ true) where
  pub those-same : those number a (replaced number a new xs) ≡ new
  unfolding those replaced
  those-same =
      only-append (λ x. eqb (number x) a) (only (λ x. ltb (number x) a) xs) (new ++ only (λ x. ltb a (number x)) xs)
      ∙ (λ i. low i ++ (only-append (λ x. eqb (number x) a) new (only (λ x. ltb a (number x)) xs) ∙ (λ j. only-all (λ x. eqb (number x) a) new en j ++ high j)) i)
      ∙ append-nil new
    where
      low : only (λ x. eqb (number x) a) (only (λ x. ltb (number x) a) xs) ≡ []
      low = only-apart (λ x. ltb (number x) a) (λ x. eqb (number x) a) (λ x e. ne_eqb (number x) a (λ q. omega (arith, ltb-true (number x) a e))) xs

      high : only (λ x. eqb (number x) a) (only (λ x. ltb a (number x)) xs) ≡ []
      high = only-apart (λ x. ltb a (number x)) (λ x. eqb (number x) a) (λ x e. ne_eqb (number x) a (λ q. omega (arith, ltb-true a (number x) e))) xs

  -- those with another number are as they were
  pub those-other : (m : ℕ) → (m ≡ a → ⊥) → those number m (replaced number a new xs) ≡ those number m xs
  unfolding those replaced
  those-other m h =
      let at : A → Bool = λ x. eqb (number x) m in
      let low : A → Bool = λ x. ltb (number x) a in
      let high : A → Bool = λ x. ltb a (number x) in
      let None : only at new ≡ [] = only-nothing at new (all-imply (λ x. eqb (number x) a) (λ x. not (at x)) new (λ x e. ap not (ne_eqb (number x) m (λ q. h (sym q ∙ eqb-true (number x) a e)))) en) in
      only-append at (only low xs) (new ++ only high xs)
      ∙ ap (λ l. only at (only low xs) ++ l) (only-append at new (only high xs) ∙ ap (λ l. l ++ only at (only high xs)) None)
      ∙ split (ltb m a)
      (λ e.
      let l : m < a = ltb-true m a e in
      (λ i. only-within low at (λ x q. lt-ltb (number x) a (omega (arith, eqb-true (number x) m q))) xs i ++ only-apart high at (λ x q. ne_eqb (number x) m (λ z. omega (arith, ltb-true a (number x) q))) xs i)
      ∙ append-nil (only at xs))
      (λ e.
      let l : a < m = omega (arith, ltb-false m a e) in
      (λ i. only-apart low at (λ x q. ne_eqb (number x) m (λ z. omega (arith, ltb-true (number x) a q))) xs i ++ only-within high at (λ x q. lt-ltb a (number x) (omega (arith, eqb-true (number x) m q))) xs i))

  -- replaced twice
  pub replaced-twice : (last : List A) → replaced number a last (replaced number a new xs) ≡ replaced number a last xs
  unfolding replaced
  replaced-twice last =
      let low : A → Bool = λ x. ltb (number x) a in
      let high : A → Bool = λ x. ltb a (number x) in
      let below : only low (only low xs ++ (new ++ only high xs)) ≡ only low xs =
      only-append low (only low xs) (new ++ only high xs)
      ∙ (λ i. only-within low low (λ x e. e) xs i ++ (only-append low new (only high xs) ∙ (λ j. None low (λ x e. le-ltb (number x) a (omega (arith, e))) j ++ only-apart high low (λ x e. le-ltb (number x) a (omega (arith, ltb-true a (number x) e))) xs j)) i)
      ∙ append-nil (only low xs) in
      let above : only high (only low xs ++ (new ++ only high xs)) ≡ only high xs =
      only-append high (only low xs) (new ++ only high xs)
      ∙ (λ i. only-apart low high (λ x e. le-ltb a (number x) (omega (arith, ltb-true (number x) a e))) xs i ++ (only-append high new (only high xs) ∙ (λ j. None high (λ x e. le-ltb a (number x) (omega (arith, e))) j ++ only-within high high (λ x e. e) xs j)) i) in
      (λ i. below i ++ (last ++ above i))
    where
      None : (p : A → Bool) → ((x : A) → number x ≡ a → p x ≡ false) → only p new ≡ []
      None p f = only-nothing p new (all-imply (λ x. eqb (number x) a) (λ x. not (p x)) new (λ x e. ap not (f x (eqb-true (number x) a e))) en)

-- ---- how many

pub length-only : {A : Type 0} (p : A → Bool) (xs : List A) → length (only p xs) ≤ length xs
unfolding only
length-only p [] = zero-le
length-only p (x ∷ xs) = split (p x)
    (λ e. omega (arith, ap length (only_yes p x xs e), length-only p xs))
    (λ e. omega (arith, ap length (only_no p x xs e), length-only p xs))

-- those below, those at and those above are all
pub length-parts : {A : Type 0} (number : A → ℕ) (a : ℕ) (xs : List A) → length (only (λ x. ltb (number x) a) xs) + length (those number a xs) + length (only (λ x. ltb a (number x)) xs) ≡ length xs
unfolding only those
length-parts number a [] = refl
length-parts {A = A} number a (x ∷ xs) =
    let low : A → Bool = λ y. ltb (number y) a in
    let at : A → Bool = λ y. eqb (number y) a in
    let high : A → Bool = λ y. ltb a (number y) in
    let r = length-parts number a xs in
    split (ltb (number x) a)
    (λ e.
    let h : number x < a = ltb-true (number x) a e in
    omega (arith, r, ap length (only_yes low x xs e), ap length (only_no at x xs (ne_eqb (number x) a (λ z. omega arith))), ap length (only_no high x xs (le-ltb a (number x) (omega arith)))))
    (λ e.
    let h : a ≤ number x = ltb-false (number x) a e in
    split (eqb (number x) a)
    (λ q.
    let k : number x ≡ a = eqb-true (number x) a q in
    omega (arith, r, ap length (only_no low x xs e), ap length (only_yes at x xs q), ap length (only_no high x xs (le-ltb a (number x) (omega arith)))))
    (λ q.
    let n = eqb-false (number x) a q in
    let k : a < number x = omega arith in
    omega (arith, r, ap length (only_no low x xs e), ap length (only_no at x xs q), ap length (only_yes high x xs (lt-ltb a (number x) k)))))

pub length-replaced : {A : Type 0} (number : A → ℕ) (a : ℕ) (new xs : List A) → length (replaced number a new xs) + length (those number a xs) ≡ length new + length xs
unfolding replaced
length-replaced number a new xs =
    let l = only (λ x. ltb (number x) a) xs in
    let h = only (λ x. ltb a (number x)) xs in
    omega (arith, length-append l (new ++ h), length-append new h, length-parts number a xs)
