-- Laws: what putting a record in, taking one out and writing one over keep.
use mathlib.Core.Path.{◌≡◌, refl, ap, ◌∙◌}
use mathlib.Core.Bool.{true}
use mathlib.Core.List.{List, [], ◌∷◌, ◌++◌}
use Prim.Native.Nat.{ℕ, zero, suc, ◌+◌, ◌-◌, ◌≤◌, ◌<◌, zero-le, suc-le-suc}
use native.Mathlib.Nat.{le_of_suc-le-suc, not-suc-le-zero}
use native.Mathlib.Omega.{arith}
use lib.ListN.{length, take, drop, get_or, length-append, length-drop}
use lib.Seq.{length-take-le}
use Rattle.records.specs.declared.Found.TheVariants.{At}
use Rattle.records.specs.Records.{key, before, leads, ascending, find, splice, insert_at, remove_at, overwrite_at}
use Rattle.questions.proofs.Tests.{both, and_intro}
use Rattle.records.proofs.Order.OrderLaws.{key_at, before-trans}
use Rattle.records.proofs.Order.PlaceLaws.{Place, find_at}

-- ---- lengths
pub length-splice : (i j : ℕ) (new rs : List (List ℕ)) → i ≤ length rs → length (splice i j new rs) ≡ i + length new + (length rs - j)
unfolding splice
length-splice i j new rs h =
    length-append (take i rs) (new ++ drop j rs) ∙ omega (arith, length-append new (drop j rs), length-take-le i rs h, length-drop j rs)

pub length-insert : (i : ℕ) (r : List ℕ) (rs : List (List ℕ)) → i ≤ length rs → length (insert_at i r rs) ≡ length rs + 1
unfolding insert_at
length-insert i r rs h =
    let e : length (r ∷ []) ≡ 1 = refl in
    length-splice i i (r ∷ []) rs h ∙ omega arith

pub length-remove : (i : ℕ) (rs : List (List ℕ)) → i < length rs → length (remove_at i rs) ≡ length rs - 1
unfolding remove_at
length-remove i rs h =
    let e : length {A = List ℕ} [] ≡ 0 = refl in
    length-splice i (suc i) [] rs (omega arith) ∙ omega arith

pub length-overwrite : (i : ℕ) (r : List ℕ) (rs : List (List ℕ)) → i < length rs → length (overwrite_at i r rs) ≡ length rs
unfolding overwrite_at
length-overwrite i r rs h =
    let e : length (r ∷ []) ≡ 1 = refl in
    length-splice i (suc i) (r ∷ []) rs (omega arith) ∙ omega arith

-- ---- the order
pub asc-tail : (d : ℕ) (r : List ℕ) (rs : List (List ℕ)) → ascending d (r ∷ rs) ≡ true → (leads d r rs ≡ true) × (ascending d rs ≡ true)
unfolding ascending
asc-tail d r rs a = both (leads d r rs) (ascending d rs) a

asc-cons : (d : ℕ) (r : List ℕ) (rs : List (List ℕ)) → leads d r rs ≡ true → ascending d rs ≡ true → ascending d (r ∷ rs) ≡ true
unfolding ascending
asc-cons d r rs l a = and_intro (leads d r rs) (ascending d rs) l a

leads-insert : (d : ℕ) (s r : List ℕ) (rs : List (List ℕ)) (i : ℕ) → before (key d s) (key d r) ≡ true → leads d s rs ≡ true → leads d s (insert_at i r rs) ≡ true
unfolding leads insert_at splice
leads-insert d s r [] zero h l = h
leads-insert d s r [] (suc i) h l = h
leads-insert d s r (t ∷ rs) zero h l = h
leads-insert d s r (t ∷ rs) (suc i) h l = l

pub ascending-insert : (d : ℕ) (r : List ℕ) (rs : List (List ℕ)) (i : ℕ) → ascending d rs ≡ true → Place d (key d r) rs i → ascending d (insert_at i r rs) ≡ true
unfolding insert_at splice leads ascending
ascending-insert d r [] zero a p = refl
ascending-insert d r [] (suc i) a p = absurd (not-suc-le-zero p.within)
ascending-insert d r (s ∷ rs) zero a p = asc-cons d r (s ∷ rs) (p.above 0 zero-le (suc-le-suc zero-le)) a
ascending-insert d r (s ∷ rs) (suc i) a p =
    let t = asc-tail d s rs a in
    asc-cons d s (insert_at i r rs) (leads-insert d s r rs i (p.below 0 (suc-le-suc zero-le)) t.0)
    (ascending-insert d r rs i t.1 (record {
      within = le_of_suc-le-suc p.within;
      below = λ j h. p.below (suc j) (suc-le-suc h);
      above = λ j h l. p.above (suc j) (suc-le-suc h) (suc-le-suc l);
    }))

leads-next : (d : ℕ) (r s : List ℕ) (rs : List (List ℕ)) → before (key d r) (key d s) ≡ true → leads d s rs ≡ true → leads d r rs ≡ true
unfolding leads
leads-next d r s [] h l = refl
leads-next d r s (t ∷ rs) h l = before-trans (key d r) (key d s) (key d t) h l

leads-remove : (d : ℕ) (r : List ℕ) (rs : List (List ℕ)) (i : ℕ) → leads d r rs ≡ true → ascending d rs ≡ true → leads d r (remove_at i rs) ≡ true
unfolding remove_at splice leads
leads-remove d r [] zero l a = refl
leads-remove d r [] (suc i) l a = refl
leads-remove d r (s ∷ rs) zero l a = leads-next d r s rs l (asc-tail d s rs a).0
leads-remove d r (s ∷ rs) (suc i) l a = l

pub ascending-remove : (d : ℕ) (rs : List (List ℕ)) (i : ℕ) → ascending d rs ≡ true → ascending d (remove_at i rs) ≡ true
unfolding remove_at splice ascending
ascending-remove d [] zero a = refl
ascending-remove d [] (suc i) a = refl
ascending-remove d (r ∷ rs) zero a = (asc-tail d r rs a).1
ascending-remove d (r ∷ rs) (suc i) a =
    let t = asc-tail d r rs a in
    asc-cons d r (remove_at i rs) (leads-remove d r rs i t.0 t.1) (ascending-remove d rs i t.1)

leads-same : (d : ℕ) (r s : List ℕ) (rs : List (List ℕ)) → key d r ≡ key d s → leads d r rs ≡ leads d s rs
unfolding leads
leads-same d r s [] e = refl
leads-same d r s (t ∷ rs) e = ap (λ (k : List ℕ). before k (key d t)) e

leads-overwrite : (d : ℕ) (s r : List ℕ) (rs : List (List ℕ)) (i : ℕ) → i < length rs → key d r ≡ key_at d rs i → leads d s (overwrite_at i r rs) ≡ leads d s rs
unfolding overwrite_at splice leads
leads-overwrite d s r [] i h e = absurd (not-suc-le-zero h)
leads-overwrite d s r (t ∷ rs) zero h e = ap (before (key d s)) e
leads-overwrite d s r (t ∷ rs) (suc i) h e = refl

pub ascending-overwrite : (d : ℕ) (r : List ℕ) (rs : List (List ℕ)) (i : ℕ) → i < length rs → key d r ≡ key_at d rs i → ascending d rs ≡ true → ascending d (overwrite_at i r rs) ≡ true
unfolding overwrite_at splice
ascending-overwrite d r [] i h e a = absurd (not-suc-le-zero h)
ascending-overwrite d r (s ∷ rs) zero h e a = let t = asc-tail d s rs a in asc-cons d r rs (leads-same d r s rs e ∙ t.0) t.1
ascending-overwrite d r (s ∷ rs) (suc i) h e a =
    let t = asc-tail d s rs a in
    asc-cons d s (overwrite_at i r rs) (leads-overwrite d s r rs i (le_of_suc-le-suc h) e ∙ t.0) (ascending-overwrite d r rs i (le_of_suc-le-suc h) e t.1)

-- ---- the record that was put in
pub insert-here : (r : List ℕ) (rs : List (List ℕ)) (i : ℕ) → i ≤ length rs → get_or (insert_at i r rs) i [] ≡ r
unfolding insert_at splice
insert-here r [] zero h = refl
insert-here r (s ∷ rs) zero h = refl
insert-here r [] (suc i) h = absurd (not-suc-le-zero h)
insert-here r (s ∷ rs) (suc i) h = insert-here r rs i (le_of_suc-le-suc h)

pub overwrite-here : (r : List ℕ) (rs : List (List ℕ)) (i : ℕ) → i < length rs → get_or (overwrite_at i r rs) i [] ≡ r
unfolding overwrite_at splice
overwrite-here r [] i h = absurd (not-suc-le-zero h)
overwrite-here r (s ∷ rs) zero h = refl
overwrite-here r (s ∷ rs) (suc i) h = overwrite-here r rs i (le_of_suc-le-suc h)

pub find-inserted : (d : ℕ) (r : List ℕ) (rs : List (List ℕ)) (i : ℕ) → ascending d rs ≡ true → Place d (key d r) rs i → find d (key d r) (insert_at i r rs) ≡ At i
find-inserted d r rs i a p =
    find_at d (key d r) (insert_at i r rs) i (ascending-insert d r rs i a p) (omega (arith, length-insert i r rs p.within, p.within)) (ap (key d) (insert-here r rs i p.within))
