-- Laws of searches where the records ascend.
use mathlib.Core.Path.{◌≡◌, refl, sym, ap, ◌∙◌, subst}
use mathlib.Core.Logic.{⊎_elim}
use mathlib.Core.Bool.{Bool, true, false, cond, ◌&&◌}
use mathlib.Core.List.{List, [], ◌∷◌}
use Prim.Native.Nat.{ℕ, zero, suc, ◌+◌, ◌≤◌, ◌<◌}
use native.Mathlib.Nat.{not-suc-le-zero, eq-or-lt_of_le}
use native.Mathlib.Omega.{arith}
use borrow.Author.Tests.{ltb-true, ltb-false}
use lib.Dec.{ltb}
use lib.ListN.{length, take, get_or}
use Rattle.records.specs.declared.Found.{Found}
use Rattle.records.specs.declared.Found.TheVariants.{At, Gap}
use Rattle.records.specs.Records.{before, same, ascending, is_below, lower_bound, found_at, find}
use Rattle.questions.proofs.Tests.{contradiction, split, both}
use Rattle.records.proofs.Order.OrderLaws.{key_at, before-less, before_more, before-equal, before-cases, before-irrefl, before-trans, before-total, before-asym, before-down, same-eq, eq-same, same_after, asc-lt}
use Rattle.records.proofs.Order.SearchLaws.{Cut, bisect-falls, lower-bound-cut, found-end, found-same, found-other}

-- where k goes: the keys of the records before are before k, those of the records from there on are after it
pub record Place (d : ℕ) (k : List ℕ) (rs : List (List ℕ)) (i : ℕ) : Type 0 where
  pub within : i ≤ length rs
  pub below : (j : ℕ) → j < i → before (key_at d rs j) k ≡ true
  pub above : (j : ℕ) → i ≤ j → j < length rs → before k (key_at d rs j) ≡ true

pub lower-bound-ascending : (d : ℕ) (k : List ℕ) (rs : List (List ℕ)) → ascending d rs ≡ true → Cut (is_below d k rs) (length rs) (lower_bound d k rs)
unfolding lower_bound is_below
lower-bound-ascending d k rs a = bisect-falls (is_below d k rs) (length rs) (λ i j h l e. before-trans (key_at d rs i) (key_at d rs j) k (asc-lt d rs a i j h l) e)

-- ---- what `find` answers
answer : {P : Type 0} (b : Bool) (m : ℕ) (f : Found) → f ≡ cond b (At m) (Gap m) → (b ≡ true → f ≡ At m → P) → (b ≡ false → f ≡ Gap m → P) → P
answer true m f e p q = p refl e
answer false m f e p q = q refl e

pub find_cases : {P : Type 0} (d : ℕ) (k : List ℕ) (rs : List (List ℕ)) → ((i : ℕ) → find d k rs ≡ At i → P) → ((i : ℕ) → find d k rs ≡ Gap i → P) → P
unfolding find found_at
find_cases d k rs p q =
    let m : ℕ = lower_bound d k rs in
    answer (ltb m (length rs) && same (key_at d rs m) k) m (find d k rs) refl (λ b e. p m e) (λ b e. q m e)

-- a record that is found has the key, in any list
pub at-says : (d : ℕ) (k : List ℕ) (rs : List (List ℕ)) (i : ℕ) → find d k rs ≡ At i → (i < length rs) × (key_at d rs i ≡ k)
unfolding find found_at
at-says d k rs i e =
    let m : ℕ = lower_bound d k rs in
    answer (ltb m (length rs) && same (key_at d rs m) k) m (find d k rs) refl
    (λ b f.
    let q : m ≡ i = cc in
    let t = both (ltb m (length rs)) (same (key_at d rs m) k) b in
    subst (λ (n : ℕ). (n < length rs) × (key_at d rs n ≡ k)) q (ltb-true m (length rs) t.0, same-eq (key_at d rs m) k t.1))
    (λ b f. let z : ◌≡◌ {A = ℕ} 0 1 = cc in absurd (omega arith))

pub gap-says : (d : ℕ) (k : List ℕ) (rs : List (List ℕ)) (i : ℕ) → find d k rs ≡ Gap i → (lower_bound d k rs ≡ i) × (i < length rs → key_at d rs i ≡ k → ⊥)
unfolding find found_at
gap-says d k rs i e =
    let m : ℕ = lower_bound d k rs in
    answer (ltb m (length rs) && same (key_at d rs m) k) m (find d k rs) refl
    (λ b f. let z : ◌≡◌ {A = ℕ} 0 1 = cc in absurd (omega arith))
    (λ b f.
    let q : m ≡ i = cc in (
      q,
      (λ h g.
          let t : find d k rs ≡ At i = ap (found_at d k rs) q ∙ found-same d k rs i h (eq-same (key_at d rs i) k g) in
          let z : ◌≡◌ {A = ℕ} 0 1 = cc in
          absurd (omega arith)),
    ))

pub gap-place : (d : ℕ) (k : List ℕ) (rs : List (List ℕ)) (i : ℕ) → ascending d rs ≡ true → find d k rs ≡ Gap i → Place d k rs i
unfolding is_below
gap-place d k rs i a e =
    let g = gap-says d k rs i e in
    let c = subst (Cut (is_below d k rs) (length rs)) g.0 (lower-bound-ascending d k rs a) in
    record {
      within = c.within;
      below = c.below;
      above = λ j h l.
          let here : before k (key_at d rs i) ≡ true = split (before k (key_at d rs i)) (λ z. z)
          (λ z. absurd (g.1 (omega arith) (before-total (key_at d rs i) k (c.above i (omega arith) (omega arith)) z))) in
          ⊎_elim (λ q. subst (λ (n : ℕ). before k (key_at d rs n) ≡ true) q here)
          (λ q. before-trans k (key_at d rs i) (key_at d rs j) here (asc-lt d rs a i j q l))
          (eq-or-lt_of_le {n = i} {m = j} h);
    }

pub find-gap : (d : ℕ) (k : List ℕ) (rs : List (List ℕ)) (i : ℕ) → Place d k rs i → find d k rs ≡ Gap i
unfolding find is_below
find-gap d k rs i p =
    let e : lower_bound d k rs ≡ i = lower-bound-cut d k rs i (record { within = p.within; below = p.below; above = λ j h l. before-asym k (key_at d rs j) (p.above j h l) }) in
    ap (found_at d k rs) e
    ∙ split (ltb i (length rs))
    (λ h. found-other d k rs i (ltb-true i (length rs) h) (same_after (key_at d rs i) k (p.above i (omega arith) (ltb-true i (length rs) h))))
    (λ h. found-end d k rs i (ltb-false i (length rs) h))

pub find_at : (d : ℕ) (k : List ℕ) (rs : List (List ℕ)) (i : ℕ) → ascending d rs ≡ true → i < length rs → key_at d rs i ≡ k → find d k rs ≡ At i
unfolding find is_below
find_at d k rs i a h e =
    let q : lower_bound d k rs ≡ i = lower-bound-cut d k rs i (record {
      within = omega arith;
      below = λ j l. subst (λ (z : List ℕ). before (key_at d rs j) z ≡ true) e (asc-lt d rs a j i l h);
      above = λ j l m. subst (λ (z : List ℕ). before (key_at d rs j) z ≡ false) e
          (⊎_elim (λ g. subst (λ (n : ℕ). before (key_at d rs n) (key_at d rs i) ≡ false) g (before-irrefl (key_at d rs i)))
          (λ g. before-asym (key_at d rs i) (key_at d rs j) (asc-lt d rs a i j g m))
          (eq-or-lt_of_le {n = i} {m = j} l));
    }) in
    ap (found_at d k rs) q ∙ found-same d k rs i h (eq-same (key_at d rs i) k e)

-- ---- the records that share a first word
first-order : (d : ℕ) (a b : List ℕ) → 1 ≤ d → before (take d a) (take d b) ≡ true → before (take 1 b) (take 1 a) ≡ false
unfolding before
first-order zero a b h e = absurd (not-suc-le-zero h)
first-order (suc d) [] [] h e = refl
first-order (suc d) [] (y ∷ ys) h e = refl
first-order (suc d) (x ∷ xs) [] h e = contradiction (sym e)
first-order (suc d) (x ∷ xs) (y ∷ ys) h e =
    ⊎_elim (λ l. before_more y x [] [] l) (λ l. before-equal y x [] [] (sym l.0) ∙ before-irrefl []) (before-cases x y (take d xs) (take d ys) e)

-- records that ascend by d words are bisected by their first word too
pub lower-bound-first : (d : ℕ) (k : List ℕ) (rs : List (List ℕ)) → 1 ≤ d → ascending d rs ≡ true → Cut (is_below 1 k rs) (length rs) (lower_bound 1 k rs)
unfolding lower_bound is_below
lower-bound-first d k rs h a = bisect-falls (is_below 1 k rs) (length rs)
    (λ i j l m e. before-down (key_at 1 rs i) (key_at 1 rs j) k (first-order d (get_or rs i []) (get_or rs j []) h (asc-lt d rs a i j l m)) e)

one_word : (r : List ℕ) (a : ℕ) → before (take 1 r) (a ∷ []) ≡ false → before (take 1 r) ((a + 1) ∷ []) ≡ true → take 1 r ≡ a ∷ []
unfolding before
one_word [] a p q = contradiction p
one_word (x ∷ xs) a p q =
    let l : x < a + 1 = ⊎_elim (λ m. m) (λ m. contradiction (sym m.1)) (before-cases x (a + 1) [] [] q) in
    let g : a ≤ x = split (ltb x a) (λ z. contradiction (sym (before-less x a [] [] (ltb-true x a z)) ∙ p)) (ltb-false x a) in
    let e : x ≡ a = omega arith in
    ap (λ (z : ℕ). z ∷ []) e

module _ (d a : ℕ) (rs : List (List ℕ)) (h : 1 ≤ d) (asc : ascending d rs ≡ true) where
  low : Cut (is_below 1 (a ∷ []) rs) (length rs) (lower_bound 1 (a ∷ []) rs)
  low = lower-bound-first d (a ∷ []) rs h asc

  high : Cut (is_below 1 ((a + 1) ∷ []) rs) (length rs) (lower_bound 1 ((a + 1) ∷ []) rs)
  high = lower-bound-first d ((a + 1) ∷ []) rs h asc

  -- the records of `range_of` have the first word a
  pub range-shares : (i : ℕ) → lower_bound 1 (a ∷ []) rs ≤ i → i < lower_bound 1 ((a + 1) ∷ []) rs → key_at 1 rs i ≡ a ∷ []
  unfolding is_below
  range-shares i l m = one_word (get_or rs i []) a (low.above i l (omega (arith, high.within))) (high.below i m)

  -- and no others have
  pub range-whole : (i : ℕ) → i < length rs → key_at 1 rs i ≡ a ∷ [] → (lower_bound 1 (a ∷ []) rs ≤ i) × (i < lower_bound 1 ((a + 1) ∷ []) rs)
  unfolding is_below
  range-whole i l e = (
    split (ltb i (lower_bound 1 (a ∷ []) rs))
        (λ z. contradiction (sym (low.below i (ltb-true i (lower_bound 1 (a ∷ []) rs) z)) ∙ ap (λ (k : List ℕ). before k (a ∷ [])) e ∙ before-irrefl (a ∷ [])))
        (ltb-false i (lower_bound 1 (a ∷ []) rs)),
    split (ltb i (lower_bound 1 ((a + 1) ∷ []) rs))
        (ltb-true i (lower_bound 1 ((a + 1) ∷ []) rs))
        (λ z. contradiction (sym (ap (λ (k : List ℕ). before k ((a + 1) ∷ [])) e ∙ before-less a (a + 1) [] [] (omega arith)) ∙ high.above i (ltb-false i (lower_bound 1 ((a + 1) ∷ []) rs) z) l)),
  )

  pub range-within : lower_bound 1 ((a + 1) ∷ []) rs ≤ length rs
  range-within = high.within
