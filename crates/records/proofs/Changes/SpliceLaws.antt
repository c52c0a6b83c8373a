-- Laws: a splice of records is a move of words and a paste.
use mathlib.Core.Path.{◌≡◌, sym, ap, ◌∙◌}
use mathlib.Core.Bool.{true, false}
use mathlib.Core.List.{List, [], ◌∷◌, ◌++◌, append_assoc}
use Prim.Native.Nat.{ℕ, ◌+◌, ◌-◌, ◌*◌, ◌/◌, ◌%◌, ◌≤◌, ◌<◌}
use native.Mathlib.Nat.{mul-le-mul_right, div-add-mod', div_self, mod_self, zero-div, zero-mod}
use native.Mathlib.Numerals.{add-one}
use native.Mathlib.Omega.{arith}
use borrow.Author.Tests.{leb-true, lt-ltb, le-ltb, le-leb, eqb-true, eq-eqb, ne_eqb}
use lib.Dec.{ltb, leb, eqb}
use lib.ListN.{length, take, drop, length-append}
use lib.Seq.{take-add, slice, length-slice, length-take-le, drop_at, take_all}
use Rattle.std.specs.List as within
use Rattle.records.specs.Words.{copy_within, paste}
use Rattle.records.specs.Records.{records, flat, table, fits, splice, insert_at, remove_at, overwrite_at, spliceable, spliced, insertable, inserted, removable, removed, overwritable, overwritten}
use Rattle.questions.proofs.Tests.{both, and_second, and_intro, leb-same, same_truth, cond_same}
use Rattle.records.proofs.Words.WordLaws.{paste-copy, copy-here}
use Rattle.records.proofs.Words.RecordLaws.{fits-pos, fits_le, fits_intro, row, sub-mul, take-records, drop-records, flat_append, flat-records}

-- what `spliceable` says
pub record Spliceable (len w n i j k : ℕ) : Type 0 where
  pub width : 0 < w
  pub within : n * w ≤ len
  pub order : i ≤ j
  pub last : j ≤ n
  pub whole : k % w ≡ 0
  pub room : (n - (j - i)) * w + k ≤ len

module _ (len w n i j k : ℕ) where
  pub splice-says : spliceable len w n i j k ≡ true → Spliceable len w n i j k
  unfolding spliceable
  splice-says e =
      let a = both (fits len w n) _ e in
      let b = both (leb i j) _ a.1 in
      let c = both (leb j n) _ b.1 in
      let d = both (eqb (k % w) 0) _ c.1 in
      record {
        width = fits-pos len w n a.0;
        within = fits_le len w n a.0;
        order = leb-true i j b.0;
        last = leb-true j n c.0;
        whole = eqb-true (k % w) 0 d.0;
        room = leb-true ((n - (j - i)) * w + k) len d.1;
      }

  pub splice-intro : Spliceable len w n i j k → spliceable len w n i j k ≡ true
  unfolding spliceable
  splice-intro s =
      and_intro (fits len w n) _ (fits_intro len w n s.width s.within)
      (and_intro (leb i j) _ (le-leb i j s.order)
      (and_intro (leb j n) _ (le-leb j n s.last)
      (and_intro (eqb (k % w) 0) _ (eq-eqb (k % w) 0 s.whole) (le-leb ((n - (j - i)) * w + k) len s.room))))

  pub kept-le : fits len w n ≡ true → (n - (j - i)) * w ≤ len
  kept-le e =
      let h : n - (j - i) ≤ n = omega arith in
      omega (arith, mul-le-mul_right w h, fits_le len w n e)

  pub room-left : fits len w n ≡ true → i ≤ j → j ≤ n → k % w ≡ 0 → leb k (len - (n - (j - i)) * w) ≡ spliceable len w n i j k
  unfolding spliceable
  room-left e h g q =
      let kept : (n - (j - i)) * w ≤ len = kept-le e in
      rw (e, le-leb i j h, le-leb j n g, eq-eqb (k % w) 0 q) (leb-same k (len - (n - (j - i)) * w) ((n - (j - i)) * w + k) len (λ x. omega arith) (λ x. omega arith))

-- the tail's words
pub slice_is : (f m : ℕ) (xs : List ℕ) → f + m ≤ length xs → take m (drop f xs) ≡ slice f (f + m) xs
slice_is f m xs h =
    sym (ap (drop f) (take-add f m xs) ∙ drop_at (take f xs) (take m (drop f xs)) f (length-take-le f xs (omega arith)))

-- std's copy
pub copy_is : (f t d : ℕ) (xs : List ℕ) → f ≤ t → t ≤ length xs → within.copy_within xs f t d ≡ copy_within f t d xs
unfolding copy_within
copy_is f t d xs h k =
    let e : f + (t - f) ≡ t = omega arith in
    append_assoc (take d xs) (take (t - f) (drop f xs)) (drop (d + (t - f)) xs)
    ∙ ap (λ (l : List ℕ). take d xs ++ (l ++ drop (d + (t - f)) xs)) (slice_is f (t - f) xs (omega arith) ∙ ap (λ (m : ℕ). slice f m xs) e)

pub copy_stays : (f t d : ℕ) (xs : List ℕ) → f ≤ t → t ≤ length xs → d ≡ f → copy_within f t d xs ≡ xs
copy_stays f t d xs h k e = ap (λ (m : ℕ). copy_within f t m xs) e ∙ copy-here f t xs h k

-- the words of the spliced records
module _ (w n i j : ℕ) (new xs : List ℕ) (s : Spliceable (length xs) w n i j (length new)) where
  front : i * w ≤ j * w
  front = mul-le-mul_right w s.order

  tail : j * w ≤ n * w
  tail = mul-le-mul_right w s.last

  whole_words : length new / w * w ≡ length new
  whole_words = omega (arith, div-add-mod' (length new) w, s.whole)

  flat-new : flat (records w (length new / w) new) ≡ new
  flat-new = flat-records w (length new / w) new ∙ take_all (length new / w * w) new (omega (arith, whole_words))

  flat-front : flat (take i (records w n xs)) ≡ take (i * w) xs
  flat-front =
      let h : i ≤ n = omega (arith, s.order, s.last) in
      ap flat (take-records w n i xs h) ∙ flat-records w i xs

  flat_tail : flat (drop j (records w n xs)) ≡ slice (j * w) (n * w) xs
  flat_tail =
      let e : j * w + (n - j) * w ≡ n * w = omega (arith, sub-mul w n j s.last) in
      ap flat (drop-records w n j xs s.last)
      ∙ flat-records w (n - j) (drop (j * w) xs)
      ∙ slice_is (j * w) ((n - j) * w) xs (omega (arith, s.within))
      ∙ ap (λ (m : ℕ). slice (j * w) m xs) e

  pub flat-splice : flat (splice i j (records w (length new / w) new) (records w n xs)) ≡ take (i * w) xs ++ (new ++ slice (j * w) (n * w) xs)
  unfolding splice
  flat-splice =
      let rs : List (List ℕ) = records w n xs in
      let ns : List (List ℕ) = records w (length new / w) new in
      flat_append (take i rs) (ns ++ drop j rs)
      ∙ (λ k. flat-front k ++ (flat_append ns (drop j rs) ∙ (λ m. flat-new m ++ flat_tail m)) k)

  -- as many words as the records kept and the new ones have
  pub room-words : i * w + length new + (n * w - j * w) ≤ length xs
  room-words =
      let d : j - i ≤ n = omega (arith, s.order, s.last) in
      omega (arith, s.room, sub-mul w n (j - i) d, sub-mul w j i s.order, front, tail)

  pub length-flat-splice : length (flat (splice i j (records w (length new / w) new) (records w n xs))) ≡ i * w + length new + (n * w - j * w)
  length-flat-splice =
      ap length flat-splice
      ∙ length-append (take (i * w) xs) (new ++ slice (j * w) (n * w) xs)
      ∙ omega (arith, length-append new (slice (j * w) (n * w) xs), length-take-le (i * w) xs (omega (arith, front, tail, s.within)), length-slice (j * w) (n * w) xs s.within)

  pub splice-words : paste (i * w) new (copy_within (j * w) (n * w) (i * w + length new) xs) ≡ table (splice i j (records w (length new / w) new) (records w n xs)) xs
  unfolding table
  splice-words =
      let z : List ℕ = drop (i * w + length new + (n * w - j * w)) xs in
      let m : List ℕ = slice (j * w) (n * w) xs in
      paste-copy (i * w) (j * w) (n * w) new xs (omega (arith, room-words))
      ∙ ap (λ (l : List ℕ). take (i * w) xs ++ l) (sym (append_assoc new m z))
      ∙ sym (append_assoc (take (i * w) xs) (new ++ m) z)
      ∙ sym (λ k. flat-splice k ++ drop (length-flat-splice k) xs)

pub splice-done : (w n i j : ℕ) (new xs : List ℕ) → spliceable (length xs) w n i j (length new) ≡ true → paste (i * w) new (copy_within (j * w) (n * w) (i * w + length new) xs) ≡ spliced w n i j new xs
unfolding spliced
splice-done w n i j new xs e = rw e (splice-words w n i j new xs (splice-says (length xs) w n i j (length new) e))

-- the products of a splice that is not refused
pub splice-sizes : (w n i j : ℕ) (new xs : List ℕ) → spliceable (length xs) w n i j (length new) ≡ true → (i * w ≤ j * w) × (j * w ≤ n * w) × (n * w ≤ length xs) × (i * w + length new + (n * w - j * w) ≤ length xs)
splice-sizes w n i j new xs e =
    let p = splice-says (length xs) w n i j (length new) e in
    (mul-le-mul_right w p.order, mul-le-mul_right w p.last, p.within, room-words w n i j new xs p)

pub splice-refused : (w n i j : ℕ) (new xs : List ℕ) → spliceable (length xs) w n i j (length new) ≡ false → xs ≡ spliced w n i j new xs
unfolding spliced
splice-refused w n i j new xs e = rw e

-- ---- one record more
one-record : (w : ℕ) (r : List ℕ) → 0 < w → length r ≡ w → records w (length r / w) r ≡ r ∷ []
unfolding records
one-record w r h e =
    let q : length r / w ≡ 1 = ap (λ (k : ℕ). k / w) e ∙ div_self h in
    ap (λ (k : ℕ). records w k r) q ∙ ap (λ (l : List ℕ). l ∷ []) (take_all w r (omega arith))

module _ (len w n i k : ℕ) (e : k ≡ w) where
  pub insertable-is : spliceable len w n i i k ≡ insertable len w n i k
  unfolding insertable
  insertable-is = same_truth (spliceable len w n i i k) _
      (λ x.
      let s = splice-says len w n i i k x in
      let q : n - (i - i) ≡ n = omega arith in
      let r : (n + 1) * w ≤ len = omega (arith, s.room, ap (λ (m : ℕ). m * w) q) in
      and_intro (eqb k w) _ (eq-eqb k w e) (and_intro (leb i n) _ (le-leb i n s.last) (fits_intro len w (n + 1) s.width r)))
      (λ x.
      let a = both (leb i n) _ (both (eqb k w) _ x).1 in
      let q : n - (i - i) ≡ n = omega arith in
      let r = fits_le len w (n + 1) a.1 in
      splice-intro len w n i i k (record {
        width = fits-pos len w (n + 1) a.1;
        within = omega arith;
        order = omega arith;
        last = leb-true i n a.0;
        whole = ap (λ (m : ℕ). m % w) e ∙ mod_self w;
        room = omega (arith, ap (λ (m : ℕ). m * w) q);
      }))

pub inserted-is : (w n i : ℕ) (r xs : List ℕ) → length r ≡ w → spliced w n i i r xs ≡ inserted w n i r xs
unfolding spliced inserted insert_at
inserted-is w n i r xs e = cond_same (spliceable (length xs) w n i i (length r)) (insertable (length xs) w n i (length r)) _ _ xs
    (insertable-is (length xs) w n i (length r) e)
    (λ x. ap (λ (l : List (List ℕ)). table (splice i i l (records w n xs)) xs) (one-record w r (splice-says (length xs) w n i i (length r) x).width e))

pub insert-refused : (len w n i k : ℕ) → (k ≡ w → ⊥) → insertable len w n i k ≡ false
unfolding insertable
insert-refused len w n i k h = rw (ne_eqb k w h)

pub not-inserted : (w n i : ℕ) (r xs : List ℕ) → insertable (length xs) w n i (length r) ≡ false → xs ≡ inserted w n i r xs
unfolding inserted
not-inserted w n i r xs e = rw e

-- ---- one record less
module _ (len w n i : ℕ) (h : i < n) where
  pub removable-is : spliceable len w n i (i + 1) 0 ≡ removable len w n i
  unfolding removable
  removable-is = same_truth (spliceable len w n i (i + 1) 0) _
      (λ x.
      let s = splice-says len w n i (i + 1) 0 x in
      and_intro (ltb i n) _ (lt-ltb i n h) (fits_intro len w n s.width s.within))
      (λ x.
      let f = (both (ltb i n) _ x).1 in
      let q : n - (i + 1 - i) ≤ n = omega arith in
      splice-intro len w n i (i + 1) 0 (record {
        width = fits-pos len w n f;
        within = fits_le len w n f;
        order = omega arith;
        last = omega arith;
        whole = zero-mod w;
        room = omega (arith, mul-le-mul_right w q, fits_le len w n f);
      }))

pub removed-is : (w n i : ℕ) (xs : List ℕ) → i < n → spliced w n i (i + 1) [] xs ≡ removed w n i xs
unfolding spliced removed remove_at records
removed-is w n i xs h = cond_same (spliceable (length xs) w n i (i + 1) 0) (removable (length xs) w n i) _ _ xs
    (removable-is (length xs) w n i h)
    (λ x. (λ k. table (splice i (add-one i k) (records w (zero-div w k) []) (records w n xs)) xs))

pub remove-refused : (len w n i : ℕ) → n ≤ i → removable len w n i ≡ false
unfolding removable
remove-refused len w n i h = rw (le-ltb i n h)

pub not-removed : (w n i : ℕ) (xs : List ℕ) → removable (length xs) w n i ≡ false → xs ≡ removed w n i xs
unfolding removed
not-removed w n i xs e = rw e

-- ---- one record for another
module _ (len w n i k : ℕ) (e : k ≡ w) (h : i < n) where
  pub overwritable-is : spliceable len w n i (i + 1) k ≡ overwritable len w n i k
  unfolding overwritable removable
  overwritable-is = same_truth (spliceable len w n i (i + 1) k) _
      (λ x.
      let s = splice-says len w n i (i + 1) k x in
      and_intro (eqb k w) _ (eq-eqb k w e) (and_intro (ltb i n) _ (lt-ltb i n h) (fits_intro len w n s.width s.within)))
      (λ x.
      let f = (both (ltb i n) _ (both (eqb k w) _ x).1).1 in
      let q : n - (i + 1 - i) ≡ n - 1 = omega arith in
      splice-intro len w n i (i + 1) k (record {
        width = fits-pos len w n f;
        within = fits_le len w n f;
        order = omega arith;
        last = omega arith;
        whole = ap (λ (m : ℕ). m % w) e ∙ mod_self w;
        room = omega (arith, ap (λ (m : ℕ). m * w) q, row w n (n - 1) (omega arith), fits_le len w n f);
      }))

pub overwritten-is : (w n i : ℕ) (r xs : List ℕ) → length r ≡ w → i < n → spliced w n i (i + 1) r xs ≡ overwritten w n i r xs
unfolding spliced overwritten overwrite_at
overwritten-is w n i r xs e h = cond_same (spliceable (length xs) w n i (i + 1) (length r)) (overwritable (length xs) w n i (length r)) _ _ xs
    (overwritable-is (length xs) w n i (length r) e h)
    (λ x. (λ k. table (splice i (add-one i k) (one-record w r (splice-says (length xs) w n i (i + 1) (length r) x).width e k) (records w n xs)) xs))

pub overwrite-refused : (len w n i k : ℕ) → (k ≡ w → ⊥) → overwritable len w n i k ≡ false
unfolding overwritable
overwrite-refused len w n i k h = rw (ne_eqb k w h)

pub overwrite-past : (len w n i k : ℕ) → n ≤ i → overwritable len w n i k ≡ false
unfolding overwritable
overwrite-past len w n i k h = and_second (eqb k w) (removable len w n i) (remove-refused len w n i h)

pub not-overwritten : (w n i : ℕ) (r xs : List ℕ) → overwritable (length xs) w n i (length r) ≡ false → xs ≡ overwritten w n i r xs
unfolding overwritten
not-overwritten w n i r xs e = rw e

-- what the edits of one record answer, and the words after them
pub ruleset edits = (insertable-is, inserted-is, insert-refused, not-inserted, removable-is, removed-is, remove-refused, not-removed, overwritable-is, overwritten-is, overwrite-refused, overwrite-past, not-overwritten)
