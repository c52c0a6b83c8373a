-- Laws of the order of records.
use mathlib.Core.Path.{◌≡◌, refl, sym, ap, ◌∙◌, subst}
use mathlib.Core.Logic.{◌⊎◌, inl, inr, ⊎_elim}
use mathlib.Core.Bool.{Bool, true, false, ◌&&◌, ◌||◌, or-false, and_assoc}
use mathlib.Core.List.{List, [], ◌∷◌, ◌++◌}
use Prim.Native.Nat.{ℕ, zero, suc, ◌+◌, ◌-◌, ◌≤◌, ◌<◌, zero-le, suc-le-suc}
use native.Mathlib.Nat.{add-suc, le_of_suc-le-suc, not-suc-le-zero}
use native.Mathlib.Numerals.{add-one}
use native.Mathlib.Omega.{arith}
use borrow.Author.Tests.{ltb-true, ltb-false, leb-true, lt-ltb, le-ltb, le-leb, eqb-true, eqb-false, eq-eqb, ne_eqb}
use lib.Dec.{ltb, leb, eqb}
use lib.ListN.{length, take, drop, get_or}
use lib.Pointwise.{pointwise}
use lib.Seq.{drop-cons}
use Rattle.records.specs.Records.{fits, key, keyed, before, same, leads, ascending}
use Rattle.questions.proofs.Tests.{contradiction, split, both, and_second}

-- ---- words compared in turn
module _ (x y : ℕ) (xs ys : List ℕ) where
  pub before-less : x < y → before (x ∷ xs) (y ∷ ys) ≡ true
  unfolding before
  before-less h = rw (lt-ltb x y h)

  pub before-equal : x ≡ y → before (x ∷ xs) (y ∷ ys) ≡ before xs ys
  unfolding before
  before-equal e = rw (le-ltb x y (omega arith), eq-eqb x y e)

  pub before-differ : (x ≡ y → ⊥) → before (x ∷ xs) (y ∷ ys) ≡ ltb x y
  unfolding before
  before-differ h = rw (ne_eqb x y h, or-false)

  pub before_more : y < x → before (x ∷ xs) (y ∷ ys) ≡ false
  before_more h = before-differ (λ e. omega arith) ∙ le-ltb x y (omega arith)

  pub before-cases : before (x ∷ xs) (y ∷ ys) ≡ true → (x < y) ⊎ ((x ≡ y) × (before xs ys ≡ true))
  before-cases e = split (ltb x y)
      (λ p. inl (ltb-true x y p))
      (λ p. split (eqb x y)
      (λ q. inr (eqb-true x y q, sym (before-equal (eqb-true x y q)) ∙ e))
      (λ q. contradiction (sym e ∙ before-differ (eqb-false x y q) ∙ p)))

  pub same-equal : x ≡ y → same (x ∷ xs) (y ∷ ys) ≡ same xs ys
  unfolding same
  same-equal e = rw (eq-eqb x y e)

  pub same-differ : (x ≡ y → ⊥) → same (x ∷ xs) (y ∷ ys) ≡ false
  unfolding same
  same-differ h = rw (ne_eqb x y h)

pub before-irrefl : (a : List ℕ) → before a a ≡ false
unfolding before
before-irrefl [] = refl
before-irrefl (x ∷ xs) = before-equal x x xs xs refl ∙ before-irrefl xs

pub before-trans : (a b c : List ℕ) → before a b ≡ true → before b c ≡ true → before a c ≡ true
unfolding before
before-trans [] [] c p q = q
before-trans [] (y ∷ ys) [] p q = contradiction (sym q)
before-trans [] (y ∷ ys) (z ∷ zs) p q = refl
before-trans (x ∷ xs) [] c p q = contradiction (sym p)
before-trans (x ∷ xs) (y ∷ ys) [] p q = contradiction (sym q)
before-trans (x ∷ xs) (y ∷ ys) (z ∷ zs) p q =
    ⊎_elim
    (λ l. ⊎_elim (λ m. before-less x z xs zs (omega arith)) (λ m. before-less x z xs zs (omega arith)) (before-cases y z ys zs q))
    (λ l. ⊎_elim (λ m. before-less x z xs zs (omega arith))
    (λ m. before-equal x z xs zs (l.0 ∙ m.0) ∙ before-trans xs ys zs l.1 m.1)
    (before-cases y z ys zs q))
    (before-cases x y xs ys p)

-- neither before the other: the same
pub before-total : (a b : List ℕ) → before a b ≡ false → before b a ≡ false → a ≡ b
unfolding before
before-total [] [] p q = refl
before-total [] (y ∷ ys) p q = contradiction p
before-total (x ∷ xs) [] p q = contradiction q
before-total (x ∷ xs) (y ∷ ys) p q =
    split (ltb x y)
    (λ l. contradiction (sym (before-less x y xs ys (ltb-true x y l)) ∙ p))
    (λ l. split (ltb y x)
    (λ m. contradiction (sym (before-less y x ys xs (ltb-true y x m)) ∙ q))
    (λ m.
    let e : x ≡ y = omega (arith, ltb-false x y l, ltb-false y x m) in
    (λ k. e k ∷ before-total xs ys (sym (before-equal x y xs ys e) ∙ p) (sym (before-equal y x ys xs (sym e)) ∙ q) k)))

pub before-asym : (a b : List ℕ) → before a b ≡ true → before b a ≡ false
before-asym a b p = split (before b a) (λ q. contradiction (sym (before-trans a b a p q) ∙ before-irrefl a)) (λ q. q)

-- a not above b, and b before c: before c
pub before-down : (a b c : List ℕ) → before b a ≡ false → before b c ≡ true → before a c ≡ true
before-down a b c p q = split (before a b) (λ r. before-trans a b c r q) (λ r. subst (λ (z : List ℕ). before z c ≡ true) (before-total b a p r) q)

pub same_refl : (a : List ℕ) → same a a ≡ true
unfolding same
same_refl [] = refl
same_refl (x ∷ xs) = same-equal x x xs xs refl ∙ same_refl xs

pub same-eq : (a b : List ℕ) → same a b ≡ true → a ≡ b
unfolding same
same-eq [] [] p = refl
same-eq [] (y ∷ ys) p = contradiction (sym p)
same-eq (x ∷ xs) [] p = contradiction (sym p)
same-eq (x ∷ xs) (y ∷ ys) p =
    let q = both (eqb x y) (same xs ys) p in
    (λ k. eqb-true x y q.0 k ∷ same-eq xs ys q.1 k)

pub eq-same : (a b : List ℕ) → a ≡ b → same a b ≡ true
eq-same a b e = ap (λ (z : List ℕ). same z b) e ∙ same_refl b

pub ne_same : (a b : List ℕ) → (a ≡ b → ⊥) → same a b ≡ false
ne_same a b h = split (same a b) (λ p. absurd (h (same-eq a b p))) (λ p. p)

pub same-before : (a b : List ℕ) → before a b ≡ true → same a b ≡ false
same-before a b p = ne_same a b (λ e. contradiction {A = ⊥} (sym p ∙ ap (λ (z : List ℕ). before z b) e ∙ before-irrefl b))

pub same_after : (a b : List ℕ) → before b a ≡ true → same a b ≡ false
same_after a b p = ne_same a b (λ e. contradiction {A = ⊥} (sym p ∙ ap (λ (z : List ℕ). before b z) e ∙ before-irrefl b))

-- std's test of two slices
pub same_is : (a b : List ℕ) → pointwise eqb a b ≡ same a b
unfolding same
same_is [] [] = refl
same_is [] (y ∷ b) = refl
same_is (x ∷ a) [] = refl
same_is (x ∷ a) (y ∷ b) = ap (λ (t : Bool). eqb x y && t) (same_is a b)

-- two parts after one another
pub same-append : (xs us ys vs : List ℕ) → length xs ≡ length us → same (xs ++ ys) (us ++ vs) ≡ (same xs us && same ys vs)
unfolding same
same-append [] [] ys vs e = refl
same-append [] (u ∷ us) ys vs e = absurd (omega (arith, e))
same-append (x ∷ xs) [] ys vs e = absurd (omega (arith, e))
same-append (x ∷ xs) (u ∷ us) ys vs e =
    ap (λ (b : Bool). eqb x u && b) (same-append xs us ys vs (omega (arith, e))) ∙ sym (and_assoc (eqb x u) (same xs us) (same ys vs))

-- ---- records with keys
pub record Keyed (len w d n : ℕ) : Type 0 where
  pub some_words : 1 ≤ d
  pub two_words : d ≤ 2
  pub in_record : d ≤ w
  pub fit : fits len w n ≡ true

module _ (len w d n : ℕ) where
  pub keyed-says : keyed len w d n ≡ true → Keyed len w d n
  unfolding keyed
  keyed-says e =
      let a = both (leb 1 d) _ e in
      let b = both (leb d 2) _ a.1 in
      let c = both (leb d w) _ b.1 in
      record { some_words = leb-true 1 d a.0; two_words = leb-true d 2 b.0; in_record = leb-true d w c.0; fit = c.1 }

  pub keyed-is : (d ≡ 0 → ⊥) → d ≤ 2 → d ≤ w → fits len w n ≡ keyed len w d n
  unfolding keyed
  keyed-is h k l = rw (le-leb 1 d (omega arith), le-leb d 2 k, le-leb d w l)

-- the words of the key of the record at index `at`
key-first : (d : ℕ) (t : List ℕ) (at : ℕ) → at < length t → take (suc d) (drop at t) ≡ get_or t at 0 ∷ take d (drop (suc at) t)
key-first d t at h = ap (take (suc d)) (drop-cons t at 0 h)

pub key_one : (t : List ℕ) (at : ℕ) → at + 1 ≤ length t → take 1 (drop at t) ≡ get_or t at 0 ∷ []
key_one t at h = key-first 0 t at (omega arith)

pub before-word : (x y : ℕ) → before (x ∷ []) (y ∷ []) ≡ ltb x y
before-word x y = split (eqb x y)
    (λ p. before-equal x y [] [] (eqb-true x y p) ∙ before-irrefl [] ∙ sym (le-ltb x y (omega (arith, eqb-true x y p))))
    (λ p. before-differ x y [] [] (eqb-false x y p))

-- the key at index i of xs beside that at index j of ys, word by word
module _ (xs : List ℕ) (i : ℕ) (ys : List ℕ) (j d : ℕ) (h : (1 ≤ d) × (d ≤ 2) × (i + d ≤ length xs) × (j + d ≤ length ys)) where
  by_word : before (key d (drop i xs)) (key d (drop j ys)) ≡ before (get_or xs i 0 ∷ key (d - 1) (drop (suc i) xs)) (get_or ys j 0 ∷ key (d - 1) (drop (suc j) ys))
  by_word =
      let e : d ≡ suc (d - 1) = omega arith in
      ap (λ (m : ℕ). before (key m (drop i xs)) (key m (drop j ys))) e
      ∙ (λ m. before (key-first (d - 1) xs i (omega arith) m) (key-first (d - 1) ys j (omega arith) m))

  pub keys-less : get_or xs i 0 < get_or ys j 0 → before (key d (drop i xs)) (key d (drop j ys)) ≡ true
  keys-less e = by_word ∙ before-less (get_or xs i 0) (get_or ys j 0) _ _ e

  pub keys-more : get_or ys j 0 ≤ get_or xs i 0 → (get_or xs i 0 ≡ get_or ys j 0 → ⊥) → before (key d (drop i xs)) (key d (drop j ys)) ≡ false
  keys-more e q = by_word ∙ before_more (get_or xs i 0) (get_or ys j 0) _ _ (omega arith)

  rest : get_or xs i 0 ≡ get_or ys j 0 → (m : ℕ) → d ≡ suc m → before (key d (drop i xs)) (key d (drop j ys)) ≡ before (key m (drop (suc i) xs)) (key m (drop (suc j) ys))
  rest e m q =
      let p : d - 1 ≡ m = omega arith in
      by_word
      ∙ before-equal (get_or xs i 0) (get_or ys j 0) _ _ e
      ∙ ap (λ (n : ℕ). before (key n (drop (suc i) xs)) (key n (drop (suc j) ys))) p

  pub keys-one : get_or xs i 0 ≡ get_or ys j 0 → d ≡ 1 → before (key d (drop i xs)) (key d (drop j ys)) ≡ false
  keys-one e q = rest e 0 q ∙ before-irrefl []

  pub keys-two : get_or xs i 0 ≡ get_or ys j 0 → (d ≡ 1 → ⊥) → before (key d (drop i xs)) (key d (drop j ys)) ≡ ltb (get_or xs (i + 1) 0) (get_or ys (j + 1) 0)
  keys-two e q =
      rest e 1 (omega arith)
      ∙ (λ m. before (key_one xs (suc i) (omega arith) m) (key_one ys (suc j) (omega arith) m))
      ∙ before-word (get_or xs (suc i) 0) (get_or ys (suc j) 0)
      ∙ (λ m. ltb (get_or xs (sym (add-one i) m) 0) (get_or ys (sym (add-one j) m) 0))

-- the same by tests of the words
pub keys_are : (xs : List ℕ) (i : ℕ) (ys : List ℕ) (j d : ℕ) → (1 ≤ d) × (d ≤ 2) × (i + d ≤ length xs) × (j + d ≤ length ys) → before (key d (drop i xs)) (key d (drop j ys)) ≡ (ltb (get_or xs i 0) (get_or ys j 0) || ((eqb (get_or xs i 0) (get_or ys j 0) && eqb d 2) && ltb (get_or xs (i + 1) 0) (get_or ys (j + 1) 0)))
keys_are xs i ys j d h = split (ltb (get_or xs i 0) (get_or ys j 0))
    (λ l. keys-less xs i ys j d h (ltb-true (get_or xs i 0) (get_or ys j 0) l) ∙ sym (rw l))
    (λ l. split (eqb (get_or xs i 0) (get_or ys j 0))
    (λ e. split (eqb d 2)
    (λ q. keys-two xs i ys j d h (eqb-true (get_or xs i 0) (get_or ys j 0) e) (λ z. omega (arith, eqb-true d 2 q)) ∙ sym (rw (l, e, q)))
    (λ q. keys-one xs i ys j d h (eqb-true (get_or xs i 0) (get_or ys j 0) e) (one (eqb-false d 2 q)) ∙ sym (rw (l, e, q))))
    (λ e. keys-more xs i ys j d h (ltb-false (get_or xs i 0) (get_or ys j 0) l) (eqb-false (get_or xs i 0) (get_or ys j 0) e) ∙ sym (rw (l, e))))
  where
    one : (d ≡ 2 → ⊥) → d ≡ 1
    one z = omega arith

-- ---- ascending records
abbrev pub key_at : ℕ → List (List ℕ) → ℕ → List ℕ
key_at d rs i = key d (get_or rs i [])

pub asc-next : (d : ℕ) (rs : List (List ℕ)) → ascending d rs ≡ true → (i : ℕ) → suc i < length rs → before (key_at d rs i) (key_at d rs (suc i)) ≡ true
unfolding ascending leads
asc-next d [] e i h = absurd (not-suc-le-zero h)
asc-next d (r ∷ []) e i h = absurd (not-suc-le-zero (le_of_suc-le-suc h))
asc-next d (r ∷ s ∷ rs) e zero h = (both (before (key d r) (key d s)) (ascending d (s ∷ rs)) e).0
asc-next d (r ∷ s ∷ rs) e (suc i) h = asc-next d (s ∷ rs) (both (before (key d r) (key d s)) (ascending d (s ∷ rs)) e).1 i (le_of_suc-le-suc h)

asc-add : (d : ℕ) (rs : List (List ℕ)) → ascending d rs ≡ true → (i k : ℕ) → i + suc k < length rs → before (key_at d rs i) (key_at d rs (i + suc k)) ≡ true
asc-add d rs a i zero h =
    subst (λ (n : ℕ). before (key_at d rs i) (key_at d rs n) ≡ true) (sym (add-one i)) (asc-next d rs a i (omega arith))
asc-add d rs a i (suc k) h =
    subst (λ (n : ℕ). before (key_at d rs i) (key_at d rs n) ≡ true) (sym (add-suc i (suc k)))
    (before-trans (key_at d rs i) (key_at d rs (i + suc k)) (key_at d rs (suc (i + suc k))) (asc-add d rs a i k (omega arith)) (asc-next d rs a (i + suc k) (omega arith)))

-- an earlier key is before a later one
pub asc-lt : (d : ℕ) (rs : List (List ℕ)) → ascending d rs ≡ true → (i j : ℕ) → i < j → j < length rs → before (key_at d rs i) (key_at d rs j) ≡ true
asc-lt d rs a i j h l =
    let e : i + suc (j - suc i) ≡ j = omega arith in
    subst (λ (n : ℕ). before (key_at d rs i) (key_at d rs n) ≡ true) e (asc-add d rs a i (j - suc i) (omega arith))

pub asc-intro : (d : ℕ) (rs : List (List ℕ)) → ((i : ℕ) → suc i < length rs → before (key_at d rs i) (key_at d rs (suc i)) ≡ true) → ascending d rs ≡ true
unfolding ascending leads
asc-intro d [] h = refl
asc-intro d (r ∷ []) h = refl
asc-intro d (r ∷ s ∷ rs) h = ap (λ (b : Bool). b && ascending d (s ∷ rs)) (h 0 (suc-le-suc (suc-le-suc zero-le))) ∙ asc-intro d (s ∷ rs) (λ i l. h (suc i) (suc-le-suc l))

pub asc-fail : (d : ℕ) (rs : List (List ℕ)) (i : ℕ) → suc i < length rs → before (key_at d rs i) (key_at d rs (suc i)) ≡ false → ascending d rs ≡ false
unfolding ascending leads
asc-fail d [] i h l = absurd (not-suc-le-zero h)
asc-fail d (r ∷ []) i h l = absurd (not-suc-le-zero (le_of_suc-le-suc h))
asc-fail d (r ∷ s ∷ rs) zero h l = ap (λ (b : Bool). b && ascending d (s ∷ rs)) l
asc-fail d (r ∷ s ∷ rs) (suc i) h l = and_second (before (key d r) (key d s)) (ascending d (s ∷ rs)) (asc-fail d (s ∷ rs) i (le_of_suc-le-suc h) l)
