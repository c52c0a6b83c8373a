-- Laws of records and their words.
use mathlib.Core.Path.{◌≡◌, refl, sym, ap, ◌∙◌}
use mathlib.Core.Bool.{true, false, not, ◌&&◌}
use mathlib.Core.List.{List, [], ◌∷◌, ◌++◌, append_assoc}
use Prim.Native.Nat.{ℕ, zero, suc, ◌+◌, ◌-◌, ◌*◌, ◌/◌, ◌≤◌, ◌<◌}
use native.Mathlib.Nat.{zero-add, suc-add, add_comm, zero-mul, suc-mul, add-mul, mul-le-mul_right, le-mul_of_pos_right, le_of_suc-le-suc, not-suc-le-zero, le-div_iff_mul-le}
use native.Mathlib.Omega.{arith}
use borrow.Author.Tests.{eqb-true, eqb-false, ltb-true, leb-true, lt-ltb, le-ltb, le-leb}
use lib.Dec.{ltb, leb, eqb}
use lib.ListN.{length, take, drop, get_or, length-drop}
use lib.Seq.{take-add, drop-drop, take-take, take_at, drop_at, length-take-le}
use Rattle.records.specs.Records.{records, flat, fits}
use Rattle.questions.proofs.Tests.{split, both, and_first, and-skip, leb-same}

-- ---- sizes
pub fits-pos : (len w n : ℕ) → fits len w n ≡ true → 0 < w
unfolding fits
fits-pos len w n e = ltb-true 0 w (both (ltb 0 w) (leb (n * w) len) e).0

pub fits_le : (len w n : ℕ) → fits len w n ≡ true → n * w ≤ len
unfolding fits
fits_le len w n e = leb-true (n * w) len (both (ltb 0 w) (leb (n * w) len) e).1

pub fits-is : (len w n : ℕ) → 0 < w → fits len w n ≡ leb (n * w) len
unfolding fits
fits-is len w n h = and-skip (ltb 0 w) (leb (n * w) len) (lt-ltb 0 w h)

pub fits_intro : (len w n : ℕ) → 0 < w → n * w ≤ len → fits len w n ≡ true
fits_intro len w n h k = fits-is len w n h ∙ le-leb (n * w) len k

pub fits-zero : (len w n : ℕ) → w ≡ 0 → fits len w n ≡ false
unfolding fits
fits-zero len w n h = and_first (ltb 0 w) (leb (n * w) len) (le-ltb 0 w (omega arith))

-- the test by division
pub fits_div : (len w n : ℕ) → (w ≡ 0 → ⊥) → leb n (len / w) ≡ fits len w n
fits_div len w n h =
    let p : 0 < w = omega arith in
    leb-same n (len / w) (n * w) len (le-div_iff_mul-le p).0 (le-div_iff_mul-le p).1 ∙ sym (fits-is len w n p)

pub fits_are : (len w n : ℕ) → fits len w n ≡ (not (eqb w 0) && leb n (len / w))
fits_are len w n = split (eqb w 0)
    (λ e. fits-zero len w n (eqb-true w 0 e) ∙ sym (rw e))
    (λ e. sym (fits_div len w n (eqb-false w 0 e)) ∙ sym (rw e))

-- record i, of n, is within the words
pub row : (w n i : ℕ) → i < n → i * w + w ≤ n * w
row w n i h = rw suc-mul at (mul-le-mul_right w h)

pub count-le : (w n : ℕ) → 0 < w → n ≤ n * w
count-le w n h = le-mul_of_pos_right n h

-- a product of a difference
pub sub-mul : (w n i : ℕ) → i ≤ n → (n - i) * w + i * w ≡ n * w
sub-mul w n i h =
    let e : (n - i) + i ≡ n = omega arith in
    sym (add-mul (n - i) i w) ∙ ap (λ (k : ℕ). k * w) e

-- ---- the records of a list of words
pub length-records : (w n : ℕ) (xs : List ℕ) → length (records w n xs) ≡ n
unfolding records
length-records w zero xs = refl
length-records w (suc n) xs = ap suc (length-records w n (drop w xs))

pub record-at : (w n : ℕ) (xs : List ℕ) (i : ℕ) → i < n → get_or (records w n xs) i [] ≡ take w (drop (i * w) xs)
unfolding records
record-at w zero xs i h = absurd (not-suc-le-zero h)
record-at w (suc n) xs zero h = ap (λ (k : ℕ). take w (drop k xs)) (sym (zero-mul w))
record-at w (suc n) xs (suc i) h =
    record-at w n (drop w xs) i (le_of_suc-le-suc h) ∙ ap (take w) (drop-drop (i * w) w xs ∙ ap (λ (k : ℕ). drop k xs) (add_comm w (i * w) ∙ sym (suc-mul i w)))

pub record-length : (w n : ℕ) (xs : List ℕ) (i : ℕ) → i < n → n * w ≤ length xs → length (get_or (records w n xs) i []) ≡ w
record-length w n xs i h k =
    ap length (record-at w n xs i h) ∙ length-take-le w (drop (i * w) xs) (omega (arith, length-drop (i * w) xs, row w n i h))

-- the words that are lent as record i
pub lent-record : (w n : ℕ) (xs : List ℕ) (i : ℕ) → i < n → take (i * w + w - i * w) (drop (i * w) xs) ≡ get_or (records w n xs) i []
lent-record w n xs i h =
    let e : i * w + w - i * w ≡ w = omega arith in
    ap (λ (k : ℕ). take k (drop (i * w) xs)) e ∙ sym (record-at w n xs i h)

pub key-at : (w d n : ℕ) (xs : List ℕ) (i : ℕ) → d ≤ w → i < n → take d (get_or (records w n xs) i []) ≡ take d (drop (i * w) xs)
key-at w d n xs i hd h = ap (take d) (record-at w n xs i h) ∙ take-take d w (drop (i * w) xs) hd

pub records-split : (w m k : ℕ) (xs : List ℕ) → records w (m + k) xs ≡ records w m xs ++ records w k (drop (m * w) xs)
unfolding records
records-split w zero k xs = ap (λ (n : ℕ). records w n xs) (zero-add k) ∙ ap (λ (n : ℕ). records w k (drop n xs)) (sym (zero-mul w))
records-split w (suc m) k xs =
    ap (λ (n : ℕ). records w n xs) (suc-add m k)
    ∙ ap (λ (l : List (List ℕ)). take w xs ∷ l) (records-split w m k (drop w xs)
    ∙ ap (λ (l : List ℕ). records w m (drop w xs) ++ records w k l) (drop-drop (m * w) w xs ∙ ap (λ (n : ℕ). drop n xs) (add_comm w (m * w) ∙ sym (suc-mul m w))))

module _ (w n i : ℕ) (xs : List ℕ) (h : i ≤ n) where
  parts : records w n xs ≡ records w i xs ++ records w (n - i) (drop (i * w) xs)
  parts =
      let e : n ≡ i + (n - i) = omega arith in
      ap (λ (k : ℕ). records w k xs) e ∙ records-split w i (n - i) xs

  pub take-records : take i (records w n xs) ≡ records w i xs
  take-records = ap (take i) parts ∙ take_at (records w i xs) (records w (n - i) (drop (i * w) xs)) i (length-records w i xs)

  pub drop-records : drop i (records w n xs) ≡ records w (n - i) (drop (i * w) xs)
  drop-records = ap (drop i) parts ∙ drop_at (records w i xs) (records w (n - i) (drop (i * w) xs)) i (length-records w i xs)

-- ---- their words
pub flat_append : (rs ss : List (List ℕ)) → flat (rs ++ ss) ≡ flat rs ++ flat ss
unfolding flat
flat_append [] ss = refl
flat_append (r ∷ rs) ss = ap (λ (l : List ℕ). r ++ l) (flat_append rs ss) ∙ sym (append_assoc r (flat rs) (flat ss))

pub flat-records : (w n : ℕ) (xs : List ℕ) → flat (records w n xs) ≡ take (n * w) xs
unfolding flat records
flat-records w zero xs = ap (λ (k : ℕ). take k xs) (sym (zero-mul w))
flat-records w (suc n) xs =
    ap (λ (l : List ℕ). take w xs ++ l) (flat-records w n (drop w xs))
    ∙ sym (take-add w (n * w) xs)
    ∙ ap (λ (k : ℕ). take k xs) (add_comm w (n * w) ∙ sym (suc-mul n w))
