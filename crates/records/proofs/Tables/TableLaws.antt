-- Laws: the records of a table after each change.
use mathlib.Core.Path.{◌≡◌, refl, sym, ap, ◌∙◌}
use mathlib.Core.Bool.{Bool, true, cond}
use mathlib.Core.List.{List, [], ◌∷◌, ◌++◌, append_assoc}
use Prim.Native.Nat.{ℕ, zero, suc, ◌+◌, ◌-◌, ◌*◌, ◌/◌, ◌≤◌}
use native.Mathlib.Nat.{zero-mul, suc-mul, div-mul-le_self}
use native.Mathlib.Omega.{arith}
use borrow.Author.Tests.{ltb-true, leb-true, eqb-true}
use lib.Dec.{ltb, leb, eqb}
use lib.ListN.{length, take, drop, length-append, length-drop}
use lib.Seq.{length-take-le, take_at, drop_at}
use Rattle.records.specs.Records.{records, flat, table, splice, insert_at, remove_at, overwrite_at, spliceable, spliced, insertable, inserted, removable, removed, overwritable, overwritten}
use Rattle.questions.proofs.Tests.{both}
use Rattle.records.proofs.Words.RecordLaws.{fits_le, length-records}
use Rattle.records.proofs.Changes.SpliceLaws.{splice-says}
use Rattle.records.proofs.Changes.EditLaws.{length-splice, length-insert, length-remove, length-overwrite}

-- every record has w words
abbrev pub Wide : ℕ → List (List ℕ) → Type 0
Wide w [] = Unit
Wide w (r ∷ rs) = (length r ≡ w) × Wide w rs

pub wide-records : (w n : ℕ) (xs : List ℕ) → n * w ≤ length xs → Wide w (records w n xs)
unfolding records
wide-records w zero xs h = tt
wide-records w (suc n) xs h =
    let e : suc n * w ≡ n * w + w = suc-mul n w in
    (length-take-le w xs (omega arith), wide-records w n (drop w xs) (omega (arith, length-drop w xs)))

pub wide-append : (w : ℕ) (rs ss : List (List ℕ)) → Wide w rs → Wide w ss → Wide w (rs ++ ss)
wide-append w [] ss p q = q
wide-append w (r ∷ rs) ss p q = (p.0, wide-append w rs ss p.1 q)

pub wide-take : (w i : ℕ) (rs : List (List ℕ)) → Wide w rs → Wide w (take i rs)
wide-take w zero rs p = tt
wide-take w (suc i) [] p = tt
wide-take w (suc i) (r ∷ rs) p = (p.0, wide-take w i rs p.1)

pub wide-drop : (w i : ℕ) (rs : List (List ℕ)) → Wide w rs → Wide w (drop i rs)
wide-drop w zero rs p = p
wide-drop w (suc i) [] p = tt
wide-drop w (suc i) (r ∷ rs) p = wide-drop w i rs p.1

pub wide-splice : (w i j : ℕ) (new rs : List (List ℕ)) → Wide w new → Wide w rs → Wide w (splice i j new rs)
unfolding splice
wide-splice w i j new rs p q = wide-append w (take i rs) (new ++ drop j rs) (wide-take w i rs q) (wide-append w new (drop j rs) p (wide-drop w j rs q))

pub length-flat : (w : ℕ) (rs : List (List ℕ)) → Wide w rs → length (flat rs) ≡ length rs * w
unfolding flat
length-flat w [] p = sym (zero-mul w)
length-flat w (r ∷ rs) p = length-append r (flat rs) ∙ omega (arith, p.0, length-flat w rs p.1, suc-mul (length rs) w)

pub records-flat : (w : ℕ) (rs : List (List ℕ)) (ys : List ℕ) → Wide w rs → records w (length rs) (flat rs ++ ys) ≡ rs
unfolding records flat
records-flat w [] ys p = refl
records-flat w (r ∷ rs) ys p =
    let e : (r ++ flat rs) ++ ys ≡ r ++ (flat rs ++ ys) = append_assoc r (flat rs) ys in
    (λ k. take w (e k) ∷ records w (length rs) (drop w (e k)))
    ∙ (λ k. take_at r (flat rs ++ ys) w p.0 k ∷ records w (length rs) (drop_at r (flat rs ++ ys) w p.0 k))
    ∙ ap (λ (l : List (List ℕ)). r ∷ l) (records-flat w rs ys p.1)

-- ---- a table
pub records-table : (w n : ℕ) (rs : List (List ℕ)) (xs : List ℕ) → Wide w rs → length rs ≡ n → records w n (table rs xs) ≡ rs
unfolding table
records-table w n rs xs p e = ap (λ (k : ℕ). records w k (flat rs ++ drop (length (flat rs)) xs)) (sym e) ∙ records-flat w rs (drop (length (flat rs)) xs) p

-- the words past the records are as they were
pub drop-table : (rs : List (List ℕ)) (xs : List ℕ) → drop (length (flat rs)) (table rs xs) ≡ drop (length (flat rs)) xs
unfolding table
drop-table rs xs = drop_at (flat rs) (drop (length (flat rs)) xs) (length (flat rs)) refl

pub length-table : (rs : List (List ℕ)) (xs : List ℕ) → length (flat rs) ≤ length xs → length (table rs xs) ≡ length xs
unfolding table
length-table rs xs h = length-append (flat rs) (drop (length (flat rs)) xs) ∙ omega (arith, length-drop (length (flat rs)) xs)

-- ---- after each change
pub records-spliced : (w n i j : ℕ) (new xs : List ℕ) → spliceable (length xs) w n i j (length new) ≡ true → records w (n - (j - i) + length new / w) (spliced w n i j new xs) ≡ splice i j (records w (length new / w) new) (records w n xs)
unfolding spliced
records-spliced w n i j new xs e =
    let s = splice-says (length xs) w n i j (length new) e in
    let m : ℕ = length new / w in
    let rs : List (List ℕ) = records w n xs in
    let ns : List (List ℕ) = records w m new in
    let p : Wide w (splice i j ns rs) = wide-splice w i j ns rs (wide-records w m new (div-mul-le_self (length new) w)) (wide-records w n xs s.within) in
    let l : length (splice i j ns rs) ≡ n - (j - i) + m = length-splice i j ns rs (omega (arith, length-records w n xs, s.order, s.last)) ∙ omega (arith, length-records w n xs, length-records w m new, s.order, s.last) in
    ap (λ (b : Bool). records w (n - (j - i) + m) (cond b (table (splice i j ns rs) xs) xs)) e ∙ records-table w (n - (j - i) + m) (splice i j ns rs) xs p l

pub records-inserted : (w n i : ℕ) (r xs : List ℕ) → insertable (length xs) w n i (length r) ≡ true → records w (n + 1) (inserted w n i r xs) ≡ insert_at i r (records w n xs)
unfolding inserted insertable insert_at
records-inserted w n i r xs e =
    let a = both (eqb (length r) w) _ e in
    let b = both (leb i n) _ a.1 in
    let rs : List (List ℕ) = records w n xs in
    let p : Wide w (insert_at i r rs) = wide-splice w i i (r ∷ []) rs (eqb-true (length r) w a.0, tt) (wide-records w n xs (omega (arith, fits_le (length xs) w (n + 1) b.1))) in
    let l : length (insert_at i r rs) ≡ n + 1 = length-insert i r rs (omega (arith, length-records w n xs, leb-true i n b.0)) ∙ omega (arith, length-records w n xs) in
    ap (λ (t : Bool). records w (n + 1) (cond t (table (insert_at i r rs) xs) xs)) e ∙ records-table w (n + 1) (insert_at i r rs) xs p l

pub records-removed : (w n i : ℕ) (xs : List ℕ) → removable (length xs) w n i ≡ true → records w (n - 1) (removed w n i xs) ≡ remove_at i (records w n xs)
unfolding removed removable remove_at
records-removed w n i xs e =
    let a = both (ltb i n) _ e in
    let rs : List (List ℕ) = records w n xs in
    let p : Wide w (remove_at i rs) = wide-splice w i (suc i) [] rs tt (wide-records w n xs (fits_le (length xs) w n a.1)) in
    let l : length (remove_at i rs) ≡ n - 1 = length-remove i rs (omega (arith, length-records w n xs, ltb-true i n a.0)) ∙ omega (arith, length-records w n xs) in
    ap (λ (t : Bool). records w (n - 1) (cond t (table (remove_at i rs) xs) xs)) e ∙ records-table w (n - 1) (remove_at i rs) xs p l

pub records-overwritten : (w n i : ℕ) (r xs : List ℕ) → overwritable (length xs) w n i (length r) ≡ true → records w n (overwritten w n i r xs) ≡ overwrite_at i r (records w n xs)
unfolding overwritten overwritable removable overwrite_at
records-overwritten w n i r xs e =
    let a = both (eqb (length r) w) _ e in
    let b = both (ltb i n) _ a.1 in
    let rs : List (List ℕ) = records w n xs in
    let p : Wide w (overwrite_at i r rs) = wide-splice w i (suc i) (r ∷ []) rs (eqb-true (length r) w a.0, tt) (wide-records w n xs (fits_le (length xs) w n b.1)) in
    let l : length (overwrite_at i r rs) ≡ n = length-overwrite i r rs (omega (arith, length-records w n xs, ltb-true i n b.0)) ∙ length-records w n xs in
    ap (λ (t : Bool). records w n (cond t (table (overwrite_at i r rs) xs) xs)) e ∙ records-table w n (overwrite_at i r rs) xs p l
