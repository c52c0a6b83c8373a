-- Laws of the bisection, and of searches by it.
use mathlib.Core.Path.{◌≡◌, refl, sym, ap, ◌∙◌, subst}
use mathlib.Core.Logic.{⊎_elim}
use mathlib.Core.Bool.{Bool, true, false, cond}
use mathlib.Core.List.{List, [], ◌∷◌}
use Prim.Native.Nat.{ℕ, zero, suc, ◌+◌, ◌-◌, ◌*◌, ◌/◌, ◌≤◌, ◌<◌, zero-le}
use native.Mathlib.Nat.{not-suc-le-zero, eq-or-lt_of_le}
use native.Mathlib.Omega.{arith}
use borrow.Author.Tests.{ltb-true, ltb-false, lt-ltb, le-ltb}
use lib.Dec.{ltb}
use lib.ListN.{length, take, drop, get_or}
use Rattle.records.specs.declared.Found.TheVariants.{At, Gap, Unfit}
use Rattle.std.specs.Prelude.{Some, None}
use Rattle.std.specs.declared.ops.Range.{Range}
use Rattle.records.specs.Records.{records, fits, key, keyed, before, same, bisect, is_below, lower_bound, found_at, find, find_in, range_of, range_in}
use Rattle.questions.proofs.Tests.{contradiction, split}
use Rattle.records.proofs.Words.RecordLaws.{fits-pos, fits_le, row, length-records, key-at, sub-mul}
use Rattle.records.proofs.Order.OrderLaws.{keyed-is, keyed-says, key_one, key_at, before-less, before-total, same_after, eq-same}

abbrev pub middle : ℕ → ℕ → ℕ
middle lo hi = lo + (hi - lo) / 2

-- ---- one step of the bisection
module _ (p : ℕ → Bool) where
  turn : (s lo hi : ℕ) → lo < hi → bisect p (suc s) lo hi ≡ cond (p (middle lo hi)) (bisect p s (middle lo hi + 1) hi) (bisect p s lo (middle lo hi))
  unfolding bisect
  turn s lo hi h = rw (lt-ltb lo hi h)

  pub bisect-done : (s lo hi : ℕ) → hi ≤ lo → bisect p s lo hi ≡ lo
  unfolding bisect
  bisect-done zero lo hi h = refl
  bisect-done (suc s) lo hi h = rw (le-ltb lo hi h)

  -- steps beyond the distance change nothing
  bisect-more : (s lo hi : ℕ) → hi - lo ≤ s → bisect p (suc s) lo hi ≡ bisect p s lo hi
  bisect-more zero lo hi h = bisect-done 1 lo hi (omega arith) ∙ sym (bisect-done 0 lo hi (omega arith))
  bisect-more (suc s) lo hi h = split (ltb lo hi)
      (λ l.
      let k : lo < hi = ltb-true lo hi l in
      turn (suc s) lo hi k
      ∙ (λ j. cond (p (middle lo hi)) (bisect-more s (middle lo hi + 1) hi (omega arith) j) (bisect-more s lo (middle lo hi) (omega arith) j))
      ∙ sym (turn s lo hi k))
      (λ l.
      let k : hi ≤ lo = ltb-false lo hi l in
      bisect-done (suc (suc s)) lo hi k ∙ sym (bisect-done (suc s) lo hi k))

  -- one step of n, by any middle that is the same
  step : (n lo hi m : ℕ) → m ≡ middle lo hi → lo < hi → hi ≤ n → bisect p n lo hi ≡ cond (p m) (bisect p n (m + 1) hi) (bisect p n lo m)
  step zero lo hi m q h k = absurd (omega arith)
  step (suc n) lo hi m q h k =
      turn n lo hi h
      ∙ (λ j. cond (p (middle lo hi)) (sym (bisect-more n (middle lo hi + 1) hi (omega arith)) j) (sym (bisect-more n lo (middle lo hi) (omega arith)) j))
      ∙ ap (λ (i : ℕ). cond (p i) (bisect p (suc n) (i + 1) hi) (bisect p (suc n) lo i)) (sym q)

  pub bisect-up : (n lo hi m : ℕ) → m ≡ middle lo hi → lo < hi → hi ≤ n → p m ≡ true → bisect p n lo hi ≡ bisect p n (m + 1) hi
  bisect-up n lo hi m q h k e = step n lo hi m q h k ∙ ap (λ (b : Bool). cond b (bisect p n (m + 1) hi) (bisect p n lo m)) e

  pub bisect-down : (n lo hi m : ℕ) → m ≡ middle lo hi → lo < hi → hi ≤ n → p m ≡ false → bisect p n lo hi ≡ bisect p n lo m
  bisect-down n lo hi m q h k e = step n lo hi m q h k ∙ ap (λ (b : Bool). cond b (bisect p n (m + 1) hi) (bisect p n lo m)) e

  -- it ends at hi, or below where p does not hold
  ends-from : (Q : ℕ → Type 0) (n : ℕ) → ((i : ℕ) → i < n → p i ≡ false → Q i) → (s lo hi : ℕ) → lo ≤ hi → hi ≤ n → hi - lo ≤ s → Q hi → Q (bisect p s lo hi)
  ends-from Q n f zero lo hi a b h e =
      let q : hi ≡ lo = omega arith in
      subst Q (q ∙ sym (bisect-done 0 lo hi (omega arith))) e
  ends-from Q n f (suc s) lo hi a b h e = split (ltb lo hi)
      (λ l.
      let k : lo < hi = ltb-true lo hi l in
      split (p (middle lo hi))
      (λ q. subst Q (sym (turn s lo hi k ∙ ap (λ (t : Bool). cond t (bisect p s (middle lo hi + 1) hi) (bisect p s lo (middle lo hi))) q)) (ends-from Q n f s (middle lo hi + 1) hi (omega arith) b (omega arith) e))
      (λ q. subst Q (sym (turn s lo hi k ∙ ap (λ (t : Bool). cond t (bisect p s (middle lo hi + 1) hi) (bisect p s lo (middle lo hi))) q)) (ends-from Q n f s lo (middle lo hi) (omega arith) (omega arith) (omega arith) (f (middle lo hi) (omega arith) q))))
      (λ l.
      let q : hi ≡ lo = omega (arith, ltb-false lo hi l) in
      subst Q (q ∙ sym (bisect-done (suc s) lo hi (omega arith))) e)

  pub bisect-ends : (n : ℕ) → (bisect p n 0 n ≤ n) × (bisect p n 0 n < n → p (bisect p n 0 n) ≡ false)
  bisect-ends n = ends-from (λ (i : ℕ). (i ≤ n) × (i < n → p i ≡ false)) n (λ i l e. (omega arith, (λ z. e))) n 0 n zero-le (omega arith) (omega arith) (omega arith, (λ z. absurd (omega arith)))

-- m is where p, of the numbers below n, ends
pub record Cut (p : ℕ → Bool) (n m : ℕ) : Type 0 where
  pub within : m ≤ n
  pub below : (i : ℕ) → i < m → p i ≡ true
  pub above : (i : ℕ) → m ≤ i → i < n → p i ≡ false

-- p that holds up to somewhere, and not from there on, is bisected there
cut-from : (p : ℕ → Bool) (n m : ℕ) → Cut p n m → (s lo hi : ℕ) → lo ≤ m → m ≤ hi → hi ≤ n → hi - lo ≤ s → bisect p s lo hi ≡ m
cut-from p n m c zero lo hi a b d h = bisect-done p 0 lo hi (omega arith) ∙ omega arith
cut-from p n m c (suc s) lo hi a b d h = split (ltb lo hi)
    (λ l.
    let k : lo < hi = ltb-true lo hi l in
    split (p (middle lo hi))
    (λ q.
    let u : middle lo hi < m = split (ltb (middle lo hi) m) (ltb-true (middle lo hi) m) (λ z. contradiction (sym q ∙ c.above (middle lo hi) (ltb-false (middle lo hi) m z) (omega arith))) in
    turn p s lo hi k ∙ ap (λ (t : Bool). cond t (bisect p s (middle lo hi + 1) hi) (bisect p s lo (middle lo hi))) q ∙ cut-from p n m c s (middle lo hi + 1) hi (omega arith) b d (omega arith))
    (λ q.
    let u : m ≤ middle lo hi = split (ltb (middle lo hi) m) (λ z. contradiction (sym (c.below (middle lo hi) (ltb-true (middle lo hi) m z)) ∙ q)) (ltb-false (middle lo hi) m) in
    turn p s lo hi k ∙ ap (λ (t : Bool). cond t (bisect p s (middle lo hi + 1) hi) (bisect p s lo (middle lo hi))) q ∙ cut-from p n m c s lo (middle lo hi) a u (omega arith) (omega arith)))
    (λ l.
    let k : hi ≤ lo = ltb-false lo hi l in
    bisect-done p (suc s) lo hi k ∙ omega arith)

pub bisect-cut : (p : ℕ → Bool) (n m : ℕ) → Cut p n m → bisect p n 0 n ≡ m
bisect-cut p n m c = cut-from p n m c n 0 n zero-le c.within (omega arith) (omega arith)

-- p that holds before wherever it holds has such a place, and the bisection finds it
falls-from : (p : ℕ → Bool) (n : ℕ) → ((i j : ℕ) → i < j → j < n → p j ≡ true → p i ≡ true) → (s lo hi : ℕ) → lo ≤ hi → hi ≤ n → hi - lo ≤ s → ((i : ℕ) → i < lo → p i ≡ true) → ((i : ℕ) → hi ≤ i → i < n → p i ≡ false) → Cut p n (bisect p s lo hi)
falls-from p n f zero lo hi a b h u v =
    subst (Cut p n) (sym (bisect-done p 0 lo hi (omega arith))) (record { within = omega arith; below = u; above = λ i k l. v i (omega arith) l })
falls-from p n f (suc s) lo hi a b h u v = split (ltb lo hi)
    (λ l.
    let k : lo < hi = ltb-true lo hi l in
    split (p (middle lo hi))
    (λ q. subst (Cut p n) (sym (turn p s lo hi k ∙ ap (λ (t : Bool). cond t (bisect p s (middle lo hi + 1) hi) (bisect p s lo (middle lo hi))) q))
    (falls-from p n f s (middle lo hi + 1) hi (omega arith) b (omega arith)
    (λ i g. ⊎_elim (λ e. ap p e ∙ q) (λ e. f i (middle lo hi) e (omega arith) q) (eq-or-lt_of_le {n = i} {m = middle lo hi} (omega arith))) v))
    (λ q. subst (Cut p n) (sym (turn p s lo hi k ∙ ap (λ (t : Bool). cond t (bisect p s (middle lo hi + 1) hi) (bisect p s lo (middle lo hi))) q))
    (falls-from p n f s lo (middle lo hi) (omega arith) (omega arith) (omega arith) u
    (λ i g m. ⊎_elim (λ e. ap p (sym e) ∙ q)
    (λ e. split (p i) (λ z. contradiction (sym (f (middle lo hi) i e m z) ∙ q)) (λ z. z))
    (eq-or-lt_of_le {n = middle lo hi} {m = i} g)))))
    (λ l.
    let k : hi ≤ lo = ltb-false lo hi l in
    subst (Cut p n) (sym (bisect-done p (suc s) lo hi k)) (record { within = omega arith; below = u; above = λ i g m. v i (omega arith) m }))

pub bisect-falls : (p : ℕ → Bool) (n : ℕ) → ((i j : ℕ) → i < j → j < n → p j ≡ true → p i ≡ true) → Cut p n (bisect p n 0 n)
bisect-falls p n f = falls-from p n f n 0 n zero-le (omega arith) (omega arith) (λ i h. absurd (not-suc-le-zero h)) (λ i h l. absurd (omega arith))

-- ---- the first record whose key is not before k
pub lower-bound-ends : (d : ℕ) (k : List ℕ) (rs : List (List ℕ)) → (lower_bound d k rs ≤ length rs) × (lower_bound d k rs < length rs → before (key_at d rs (lower_bound d k rs)) k ≡ false)
unfolding lower_bound is_below
lower-bound-ends d k rs = bisect-ends (is_below d k rs) (length rs)

pub lower-bound-cut : (d : ℕ) (k : List ℕ) (rs : List (List ℕ)) (m : ℕ) → Cut (is_below d k rs) (length rs) m → lower_bound d k rs ≡ m
unfolding lower_bound
lower-bound-cut d k rs m c = bisect-cut (is_below d k rs) (length rs) m c

-- with the count of the records
pub lower-bound-is : (w d n : ℕ) (k xs : List ℕ) → lower_bound d k (records w n xs) ≡ bisect (is_below d k (records w n xs)) n 0 n
unfolding lower_bound
lower-bound-is w d n k xs = ap (λ (m : ℕ). bisect (is_below d k (records w n xs)) m 0 m) (length-records w n xs)

pub is-below-at : (w d n : ℕ) (k xs : List ℕ) (i : ℕ) → d ≤ w → i < n → is_below d k (records w n xs) i ≡ before (key d (drop (i * w) xs)) k
unfolding is_below
is-below-at w d n k xs i h l = ap (λ (r : List ℕ). before r k) (key-at w d n xs i h l)

-- two records next to each other, by their words
pub before_at : (w d n : ℕ) (xs : List ℕ) (i : ℕ) → d ≤ w → 1 ≤ i → i < n → before (key_at d (records w n xs) (i - 1)) (key_at d (records w n xs) i) ≡ before (key d (drop (i * w - w) xs)) (key d (drop (i * w) xs))
before_at w d n xs i h k l =
    let e : (i - 1) * w ≡ i * w - w = omega (arith, sub-mul w i 1 k) in
    (λ j. before ((key-at w d n xs (i - 1) h (omega arith) ∙ ap (λ (m : ℕ). take d (drop m xs)) e) j) (key-at w d n xs i h l j))

-- ---- find
pub found-end : (d : ℕ) (k : List ℕ) (rs : List (List ℕ)) (i : ℕ) → length rs ≤ i → found_at d k rs i ≡ Gap i
unfolding found_at
found-end d k rs i h = rw (le-ltb i (length rs) h)

pub found-same : (d : ℕ) (k : List ℕ) (rs : List (List ℕ)) (i : ℕ) → i < length rs → same (key_at d rs i) k ≡ true → found_at d k rs i ≡ At i
unfolding found_at
found-same d k rs i h e = rw (lt-ltb i (length rs) h, e)

pub found-other : (d : ℕ) (k : List ℕ) (rs : List (List ℕ)) (i : ℕ) → i < length rs → same (key_at d rs i) k ≡ false → found_at d k rs i ≡ Gap i
unfolding found_at
found-other d k rs i h e = rw (lt-ltb i (length rs) h, e)

pub find-unfit : (w d n a b : ℕ) (xs : List ℕ) → keyed (length xs) w d n ≡ false → find_in w d n a b xs ≡ Unfit
unfolding find_in
find-unfit w d n a b xs e = rw e

pub find-fit : (w d n a b : ℕ) (xs : List ℕ) → keyed (length xs) w d n ≡ true → find_in w d n a b xs ≡ find d (key d (a ∷ b ∷ [])) (records w n xs)
unfolding find_in
find-fit w d n a b xs e = rw e

-- the answer by where the bisection ended
module _ (w d n a b : ℕ) (xs : List ℕ) (i : ℕ) (g : keyed (length xs) w d n ≡ true) (q : i ≡ lower_bound d (key d (a ∷ b ∷ [])) (records w n xs)) where
  abbrev k : List ℕ
  k = key d (a ∷ b ∷ [])

  abbrev rs : List (List ℕ)
  rs = records w n xs

  find-is : find_in w d n a b xs ≡ found_at d k rs i
  unfolding find
  find-is = find-fit w d n a b xs g ∙ ap (found_at d k rs) (sym q)

  count : length rs ≡ n
  count = length-records w n xs

  stops : (i ≤ length rs) × (i < length rs → before (key_at d rs i) k ≡ false)
  stops = subst (λ (m : ℕ). (m ≤ length rs) × (m < length rs → before (key_at d rs m) k ≡ false)) (sym q) (lower-bound-ends d k rs)

  pub find-end : i ≡ n → Gap i ≡ find_in w d n a b xs
  find-end e = sym (find-is ∙ found-end d k rs i (omega (arith, count)))

  pub find-within : (i ≡ n → ⊥) → i < n
  find-within h = omega (arith, count, stops.0)

  module _ (l : i < n) where
    beside : before k (key_at d rs i) ≡ before k (key d (drop (i * w) xs))
    beside = ap (before k) (key-at w d n xs i (keyed-says (length xs) w d n g).in_record l)

    pub find_past : before k (key d (drop (i * w) xs)) ≡ true → Gap i ≡ find_in w d n a b xs
    find_past e = sym (find-is ∙ found-other d k rs i (omega (arith, count)) (same_after (key_at d rs i) k (beside ∙ e)))

    -- neither key is before the other
    pub find-here : before k (key d (drop (i * w) xs)) ≡ false → At i ≡ find_in w d n a b xs
    find-here e = sym (find-is ∙ found-same d k rs i (omega (arith, count)) (eq-same (key_at d rs i) k (before-total (key_at d rs i) k (stops.1 (omega (arith, count))) (beside ∙ e))))

-- ---- range
pub keyed-one : (len w n : ℕ) → fits len w n ≡ true → keyed len w 1 n ≡ true
keyed-one len w n e = sym (keyed-is len w 1 n (λ z. omega arith) (omega arith) (omega (arith, fits-pos len w n e))) ∙ e

pub range-unfit : (w n a : ℕ) (xs : List ℕ) → fits (length xs) w n ≡ false → range_in w n a xs ≡ None
unfolding range_in
range-unfit w n a xs e = rw e

pub range-is : (w n a : ℕ) (span : Range ℕ) (xs : List ℕ) → fits (length xs) w n ≡ true → span.start ≡ lower_bound 1 (a ∷ []) (records w n xs) → span.end ≡ lower_bound 1 ((a + 1) ∷ []) (records w n xs) → Some span ≡ range_in w n a xs
unfolding range_in range_of
range-is w n a span xs e p q =
    sym
    (ap (λ (b : Bool). cond b (Some (range_of a (records w n xs))) None) e
    ∙ sym (λ k. Some (the_range (p k) (q k))))
  where
    the_range : ℕ → ℕ → Range ℕ
    the_range start end = record { start = start; end = end }

-- where every word is below a, every record is
pub lower-bound-top : (w n a : ℕ) (xs : List ℕ) → fits (length xs) w n ≡ true → ((i : ℕ) → get_or xs i 0 < a) → n ≡ lower_bound 1 (a ∷ []) (records w n xs)
lower-bound-top w n a xs f h =
    let rs : List (List ℕ) = records w n xs in
    let p : 0 < w = fits-pos (length xs) w n f in
    sym (lower-bound-cut 1 (a ∷ []) rs n (record {
      within = omega (arith, length-records w n xs);
      below = λ i l.
          is-below-at w 1 n (a ∷ []) xs i p l
          ∙ ap (λ (k : List ℕ). before k (a ∷ [])) (key_one xs (i * w) (omega (arith, row w n i l, fits_le (length xs) w n f)))
          ∙ before-less (get_or xs (i * w) 0) a [] [] (h (i * w));
      above = λ i l k. absurd (omega (arith, length-records w n xs));
    }))
