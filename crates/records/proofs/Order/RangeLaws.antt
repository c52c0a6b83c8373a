-- Laws: where records ascend, those with a number, those before it and those after it are ranges.
use mathlib.Core.Path.{◌≡◌, refl, sym, ap, ◌∙◌, subst}
use mathlib.Core.Bool.{Bool, true, false, not, ◌&&◌}
use mathlib.Core.List.{List, [], ◌∷◌, ◌++◌, map}
use Prim.Native.Nat.{ℕ, zero, suc, ◌+◌, ◌≤◌, ◌<◌, zero-le, suc-le-suc}
use mathlib.Core.Logic.{⊎_elim}
use native.Mathlib.Nat.{le_of_suc-le-suc, not-suc-le-zero, eq-or-lt_of_le}
use native.Mathlib.Omega.{arith}
use borrow.Author.Tests.{ltb-true, ltb-false, lt-ltb, le-ltb}
use lib.Dec.{ltb, eqb}
use lib.ListN.{length, take, drop, get_or}
use lib.Seq.{slice, slice-cons, slice_empty, get_or-take, take-nil, drop-nil, length-take-le}
use Rattle.records.specs.declared.Found.TheVariants.{At, Gap}
use Rattle.records.specs.Records.{before, ascending, is_below, lower_bound, find, splice}
use Rattle.questions.proofs.Tests.{contradiction, split, same_truth}
use Rattle.records.proofs.Order.OrderLaws.{key_at, before-equal, before-irrefl, before-asym, before-word, asc-lt}
use Rattle.records.proofs.Order.SearchLaws.{Cut}
use Rattle.records.proofs.Order.PlaceLaws.{lower-bound-first, at-says, gap-place}
use Rattle.records.proofs.Tables.TableLaws.{Wide}
use Rattle.questions.specs.Lists.{only, all, those, replaced}
use Rattle.records.specs.Typed.{first_word, second_word}
use Rattle.questions.proofs.ListLaws.{all-index, all_pass}
use Rattle.questions.proofs.OnlyLaws.{after_test, equal-test, map-self, only_no, only-only, only_same, only_yes}

-- ---- a test that holds up to a place, and not from there on

cut-next : (p : ℕ → Bool) (n m : ℕ) → Cut p (suc n) (suc m) → Cut (λ i. p (suc i)) n m
cut-next p n m c = record {
  within = le_of_suc-le-suc c.within;
  below = λ i h. c.below (suc i) (suc-le-suc h);
  above = λ i h l. c.above (suc i) (suc-le-suc h) (suc-le-suc l);
}

cut-zero : (p : ℕ → Bool) (n : ℕ) → Cut p (suc n) 0 → Cut (λ i. p (suc i)) n 0
cut-zero p n c = record {
  within = zero-le;
  below = λ i h. absurd (not-suc-le-zero h);
  above = λ i h l. c.above (suc i) zero-le (suc-le-suc l);
}

-- the elements before it pass; the test is of an image
pub only-front-by : {A B : Type 0} (f : A → B) (p : B → Bool) (z : B) (xs : List A) (m : ℕ) → Cut (λ i. p (get_or (map f xs) i z)) (length xs) m → only (λ x. p (f x)) xs ≡ take m xs
unfolding only
only-front-by f p z [] m c = sym (take-nil m)
only-front-by f p z (x ∷ xs) zero c =
    only_no (λ y. p (f y)) x xs (c.above 0 zero-le (suc-le-suc zero-le)) ∙ only-front-by f p z xs 0 (cut-zero (λ i. p (get_or (map f (x ∷ xs)) i z)) (length xs) c)
only-front-by f p z (x ∷ xs) (suc m) c =
    only_yes (λ y. p (f y)) x xs (c.below 0 (suc-le-suc zero-le)) ∙ ap (λ l. x ∷ l) (only-front-by f p z xs m (cut-next (λ i. p (get_or (map f (x ∷ xs)) i z)) (length xs) m c))

-- the others fail
pub only-back-by : {A B : Type 0} (f : A → B) (p : B → Bool) (z : B) (xs : List A) (m : ℕ) → Cut (λ i. p (get_or (map f xs) i z)) (length xs) m → only (λ x. not (p (f x))) xs ≡ drop m xs
unfolding only
only-back-by f p z [] m c = sym (drop-nil m)
only-back-by f p z (x ∷ xs) zero c =
    only_yes (λ y. not (p (f y))) x xs (ap not (c.above 0 zero-le (suc-le-suc zero-le))) ∙ ap (λ l. x ∷ l) (only-back-by f p z xs 0 (cut-zero (λ i. p (get_or (map f (x ∷ xs)) i z)) (length xs) c))
only-back-by f p z (x ∷ xs) (suc m) c =
    only_no (λ y. not (p (f y))) x xs (ap not (c.below 0 (suc-le-suc zero-le))) ∙ only-back-by f p z xs m (cut-next (λ i. p (get_or (map f (x ∷ xs)) i z)) (length xs) m c)

pub only-front : {A : Type 0} (p : A → Bool) (z : A) (xs : List A) (m : ℕ) → Cut (λ i. p (get_or xs i z)) (length xs) m → only p xs ≡ take m xs
only-front p z xs m c = only-front-by (λ x. x) p z xs m (subst (λ l. Cut (λ i. p (get_or l i z)) (length xs) m) (sym (map-self xs)) c)

pub only-back : {A : Type 0} (p : A → Bool) (z : A) (xs : List A) (m : ℕ) → Cut (λ i. p (get_or xs i z)) (length xs) m → only (λ x. not (p x)) xs ≡ drop m xs
only-back p z xs m c = only-back-by (λ x. x) p z xs m (subst (λ l. Cut (λ i. p (get_or l i z)) (length xs) m) (sym (map-self xs)) c)

-- ---- lists by a number: those below a end at i, those not above it at j

module _ {A : Type 0} (number : A → ℕ) (z : A) (a : ℕ) (xs : List A) (i j : ℕ) (low : Cut (λ n. ltb (number (get_or xs n z)) a) (length xs) i) (high : Cut (λ n. ltb (number (get_or xs n z)) (a + 1)) (length xs) j) where
  pub before-is : only (λ x. ltb (number x) a) xs ≡ take i xs
  before-is = only-front (λ x. ltb (number x) a) z xs i low

  pub after_is : only (λ x. ltb a (number x)) xs ≡ drop j xs
  after_is =
      only_same (λ x. ltb a (number x)) (λ x. not (ltb (number x) (a + 1))) (λ x. after_test (number x) a) xs
      ∙ only-back (λ x. ltb (number x) (a + 1)) z xs j high

  pub cuts-ordered : i ≤ j
  cuts-ordered = split (ltb j i)
      (λ e.
      let h : j < i = ltb-true j i e in
      let y : ltb (number (get_or xs j z)) a ≡ true = low.below j h in
      contradiction (sym (lt-ltb (number (get_or xs j z)) (a + 1) (omega (arith, ltb-true (number (get_or xs j z)) a y))) ∙ high.above j (omega arith) (omega (arith, low.within))))
      (ltb-false j i)

  pub those-is : those number a xs ≡ slice i j xs
  unfolding those
  those-is =
      let l : length (take j xs) ≡ j = length-take-le j xs high.within in
      only_same (λ x. eqb (number x) a) (λ x. ltb (number x) (a + 1) && not (ltb (number x) a)) (λ x. equal-test (number x) a) xs
      ∙ sym (only-only (λ x. ltb (number x) (a + 1)) (λ x. not (ltb (number x) a)) xs)
      ∙ ap (only (λ x. not (ltb (number x) a))) (only-front (λ x. ltb (number x) (a + 1)) z xs j high)
      ∙ only-back (λ x. ltb (number x) a) z (take j xs) i (record {
        within = omega (arith, cuts-ordered);
        below = λ n h. ap (λ (y : A). ltb (number y) a) (get_or-take j xs n z (omega (arith, cuts-ordered))) ∙ low.below n h;
        above = λ n h k. ap (λ (y : A). ltb (number y) a) (get_or-take j xs n z (omega arith)) ∙ low.above n h (omega (arith, high.within));
      })

  pub replaced-is : (new : List A) → replaced number a new xs ≡ take i xs ++ (new ++ drop j xs)
  unfolding replaced
  replaced-is new = (λ k. before-is k ++ (new ++ after_is k))

-- ---- words of records

pub wide_at : (w : ℕ) (rs : List (List ℕ)) → Wide w rs → (i : ℕ) → i < length rs → length (get_or rs i []) ≡ w
wide_at w [] p i h = absurd (not-suc-le-zero h)
wide_at w (r ∷ rs) p zero h = p.0
wide_at w (r ∷ rs) p (suc i) h = wide_at w rs p.1 i (le_of_suc-le-suc h)

first-before : (r : List ℕ) (a : ℕ) → 1 ≤ length r → before (take 1 r) (a ∷ []) ≡ ltb (first_word r) a
first-before [] a h = absurd (not-suc-le-zero h)
first-before (x ∷ r) a h = before-word x a

-- the records whose first word is below a
pub first-cut : (d w a : ℕ) (rs : List (List ℕ)) → 1 ≤ d → 1 ≤ w → Wide w rs → ascending d rs ≡ true → Cut (λ n. ltb (first_word (get_or rs n [])) a) (length rs) (lower_bound 1 (a ∷ []) rs)
unfolding is_below
first-cut d w a rs hd hw p asc =
    let c = lower-bound-first d (a ∷ []) rs hd asc in
    record {
      within = c.within;
      below = λ i h. sym (first-before (get_or rs i []) a (omega (arith, wide_at w rs p i (omega (arith, c.within))))) ∙ c.below i h;
      above = λ i h l. sym (first-before (get_or rs i []) a (omega (arith, wide_at w rs p i l))) ∙ c.above i h l;
    }

module _ (d w a : ℕ) (rs : List (List ℕ)) (hd : 1 ≤ d) (hw : 1 ≤ w) (p : Wide w rs) (asc : ascending d rs ≡ true) where
  low : Cut (λ n. ltb (first_word (get_or rs n [])) a) (length rs) (lower_bound 1 (a ∷ []) rs)
  low = first-cut d w a rs hd hw p asc

  high : Cut (λ n. ltb (first_word (get_or rs n [])) (a + 1)) (length rs) (lower_bound 1 ((a + 1) ∷ []) rs)
  high = first-cut d w (a + 1) rs hd hw p asc

  -- `range_of` is from the first number not below a up to the first above it
  pub range-ordered : lower_bound 1 (a ∷ []) rs ≤ lower_bound 1 ((a + 1) ∷ []) rs
  range-ordered = cuts-ordered first_word [] a rs (lower_bound 1 (a ∷ []) rs) (lower_bound 1 ((a + 1) ∷ []) rs) low high

  pub those-range : those first_word a rs ≡ slice (lower_bound 1 (a ∷ []) rs) (lower_bound 1 ((a + 1) ∷ []) rs) rs
  those-range = those-is first_word [] a rs (lower_bound 1 (a ∷ []) rs) (lower_bound 1 ((a + 1) ∷ []) rs) low high

  pub replaced-splice : (new : List (List ℕ)) → replaced first_word a new rs ≡ splice (lower_bound 1 (a ∷ []) rs) (lower_bound 1 ((a + 1) ∷ []) rs) new rs
  unfolding splice
  replaced-splice new = replaced-is first_word [] a rs (lower_bound 1 (a ∷ []) rs) (lower_bound 1 ((a + 1) ∷ []) rs) low high new

-- ---- one record with a number, or the gap where it would be

module _ {A : Type 0} (number : A → ℕ) (z : A) (a : ℕ) (xs : List A) (i : ℕ) where
  at_low : ((m n : ℕ) → m < n → n < length xs → number (get_or xs m z) < number (get_or xs n z)) → i < length xs → number (get_or xs i z) ≡ a → Cut (λ n. ltb (number (get_or xs n z)) a) (length xs) i
  at_low rise h e = record {
    within = omega arith;
    below = λ j l. lt-ltb (number (get_or xs j z)) a (omega (arith, rise j i l h));
    above = λ j l k. ⊎_elim
        (λ q. le-ltb (number (get_or xs j z)) a (omega (arith, ap (λ (n : ℕ). number (get_or xs n z)) q)))
        (λ q. le-ltb (number (get_or xs j z)) a (omega (arith, rise i j q k)))
        (eq-or-lt_of_le {n = i} {m = j} l);
  }

  at_high : ((m n : ℕ) → m < n → n < length xs → number (get_or xs m z) < number (get_or xs n z)) → i < length xs → number (get_or xs i z) ≡ a → Cut (λ n. ltb (number (get_or xs n z)) (a + 1)) (length xs) (suc i)
  at_high rise h e = record {
    within = h;
    below = λ j l. ⊎_elim
        (λ q. lt-ltb (number (get_or xs j z)) (a + 1) (omega (arith, ap (λ (n : ℕ). number (get_or xs n z)) q)))
        (λ q. lt-ltb (number (get_or xs j z)) (a + 1) (omega (arith, rise j i q h)))
        (eq-or-lt_of_le {n = j} {m = i} (le_of_suc-le-suc l));
    above = λ j l k. le-ltb (number (get_or xs j z)) (a + 1) (omega (arith, rise i j l k));
  }

-- where record keys are given by a number: the keys ascend, and `find` looks for the number a
module _ (d : ℕ) (number : List ℕ → ℕ) (key_of : ℕ → List ℕ) (rs : List (List ℕ)) (asc : ascending d rs ≡ true) (shape : (i : ℕ) → i < length rs → key_at d rs i ≡ key_of (number (get_or rs i []))) (order : (x y : ℕ) → before (key_of x) (key_of y) ≡ ltb x y) (a i : ℕ) where
  rise : (m n : ℕ) → m < n → n < length rs → number (get_or rs m []) < number (get_or rs n [])
  rise m n h l = ltb-true (number (get_or rs m [])) (number (get_or rs n []))
      (sym (order (number (get_or rs m [])) (number (get_or rs n []))) ∙ sym ((λ k. before (shape m (omega arith) k) (shape n l k))) ∙ asc-lt d rs asc m n h l)

  same_number : (x : ℕ) → key_of x ≡ key_of a → x ≡ a
  same_number x e =
      let p : ltb x a ≡ false = sym (order x a) ∙ ap (λ (k : List ℕ). before k (key_of a)) e ∙ before-irrefl (key_of a) in
      let q : ltb a x ≡ false = sym (order a x) ∙ ap (before (key_of a)) e ∙ before-irrefl (key_of a) in
      omega (arith, ltb-false x a p, ltb-false a x q)

  here : find d (key_of a) rs ≡ At i → (i < length rs) × (number (get_or rs i []) ≡ a)
  here e =
      let p = at-says d (key_of a) rs i e in
      (p.0, same_number (number (get_or rs i [])) (sym (shape i p.0) ∙ p.1))

  pub replaced-at : find d (key_of a) rs ≡ At i → (new : List (List ℕ)) → replaced number a new rs ≡ splice i (suc i) new rs
  unfolding splice
  replaced-at e new =
      let h = here e in
      replaced-is number [] a rs i (suc i) (at_low number [] a rs i rise h.0 h.1) (at_high number [] a rs i rise h.0 h.1) new

  pub those-at : find d (key_of a) rs ≡ At i → those number a rs ≡ get_or rs i [] ∷ []
  those-at e =
      let h = here e in
      those-is number [] a rs i (suc i) (at_low number [] a rs i rise h.0 h.1) (at_high number [] a rs i rise h.0 h.1)
      ∙ slice-cons i (suc i) rs [] (omega arith) h.0
      ∙ ap (λ l. get_or rs i [] ∷ l) (slice_empty (suc i) rs)

  gap-low : find d (key_of a) rs ≡ Gap i → Cut (λ n. ltb (number (get_or rs n [])) a) (length rs) i
  gap-low e =
      let p = gap-place d (key_of a) rs i asc e in
      record {
        within = p.within;
        below = λ j h. sym (order (number (get_or rs j [])) a) ∙ sym (ap (λ (k : List ℕ). before k (key_of a)) (shape j (omega (arith, p.within)))) ∙ p.below j h;
        above = λ j h l.
            sym (order (number (get_or rs j [])) a)
            ∙ before-asym (key_of a) (key_of (number (get_or rs j []))) (sym (ap (before (key_of a)) (shape j l)) ∙ p.above j h l);
      }

  gap-high : find d (key_of a) rs ≡ Gap i → Cut (λ n. ltb (number (get_or rs n [])) (a + 1)) (length rs) i
  gap-high e =
      let p = gap-place d (key_of a) rs i asc e in
      let c = gap-low e in
      record {
        within = p.within;
        below = λ j h. lt-ltb (number (get_or rs j [])) (a + 1) (omega (arith, ltb-true (number (get_or rs j [])) a (c.below j h)));
        above = λ j h l.
            let q : ltb a (number (get_or rs j [])) ≡ true = sym (order a (number (get_or rs j []))) ∙ sym (ap (before (key_of a)) (shape j l)) ∙ p.above j h l in
            le-ltb (number (get_or rs j [])) (a + 1) (omega (arith, ltb-true a (number (get_or rs j [])) q));
      }

  pub replaced-gap : find d (key_of a) rs ≡ Gap i → (new : List (List ℕ)) → replaced number a new rs ≡ splice i i new rs
  unfolding splice
  replaced-gap e new = replaced-is number [] a rs i i (gap-low e) (gap-high e) new

  pub those-gap : find d (key_of a) rs ≡ Gap i → those number a rs ≡ []
  those-gap e = those-is number [] a rs i i (gap-low e) (gap-high e) ∙ slice_empty i rs

  -- all are below a where the last is
  pub last-below : length rs ≡ suc i → ltb (number (get_or rs i [])) a ≡ all (λ (r : List ℕ). ltb (number r) a) rs
  last-below e = same_truth (ltb (number (get_or rs i [])) a) (all (λ (r : List ℕ). ltb (number r) a) rs)
      (λ t. all_pass (λ (r : List ℕ). ltb (number r) a) [] rs (λ j h. ⊎_elim
      (λ q. ap (λ (n : ℕ). ltb (number (get_or rs n [])) a) q ∙ t)
      (λ q. lt-ltb (number (get_or rs j [])) a (omega (arith, rise j i q (omega (arith, e)), ltb-true (number (get_or rs i [])) a t)))
      (eq-or-lt_of_le {n = j} {m = i} (omega (arith, e)))))
      (λ t. all-index (λ (r : List ℕ). ltb (number r) a) [] rs t i (omega (arith, e)))

-- where all are below a, its gap is at the end
pub replaced-end : (number : List ℕ → ℕ) (a : ℕ) (rs : List (List ℕ)) → all (λ (r : List ℕ). ltb (number r) a) rs ≡ true → (new : List (List ℕ)) → replaced number a new rs ≡ splice (length rs) (length rs) new rs
unfolding splice
replaced-end number a rs e new =
    let below = all-index (λ (r : List ℕ). ltb (number r) a) [] rs e in
    replaced-is number [] a rs (length rs) (length rs)
    (record { within = omega arith; below = below; above = λ j h l. absurd (omega arith) })
    (record {
      within = omega arith;
      below = λ j h. lt-ltb (number (get_or rs j [])) (a + 1) (omega (arith, ltb-true (number (get_or rs j [])) a (below j h)));
      above = λ j h l. absurd (omega arith);
    })
    new

-- by the first word, and by the second in a run of records that share the first
pub first-shape : (w : ℕ) (rs : List (List ℕ)) → 1 ≤ w → Wide w rs → (i : ℕ) → i < length rs → key_at 1 rs i ≡ first_word (get_or rs i []) ∷ []
first-shape w rs h p i l = front (get_or rs i []) (omega (arith, wide_at w rs p i l))
  where
    front : (r : List ℕ) → 1 ≤ length r → take 1 r ≡ first_word r ∷ []
    front [] q = absurd (not-suc-le-zero q)
    front (x ∷ r) q = refl

pub second-shape : (w a : ℕ) (rs : List (List ℕ)) → 2 ≤ w → Wide w rs → ((i : ℕ) → i < length rs → first_word (get_or rs i []) ≡ a) → (i : ℕ) → i < length rs → key_at 2 rs i ≡ a ∷ second_word (get_or rs i []) ∷ []
second-shape w a rs h p f i l = front (get_or rs i []) (omega (arith, wide_at w rs p i l)) (f i l)
  where
    front : (r : List ℕ) → 2 ≤ length r → first_word r ≡ a → take 2 r ≡ a ∷ second_word r ∷ []
    front [] q e = absurd (not-suc-le-zero q)
    front (x ∷ []) q e = absurd (not-suc-le-zero (le_of_suc-le-suc q))
    front (x ∷ y ∷ r) q e = ap (λ (n : ℕ). n ∷ y ∷ []) e

pub second-order : (a x y : ℕ) → before (a ∷ x ∷ []) (a ∷ y ∷ []) ≡ ltb x y
second-order a x y = before-equal a a (x ∷ []) (y ∷ []) refl ∙ before-word x y
