-- Laws: the record with a key, after each change.
use mathlib.Core.Path.{◌≡◌, refl, sym, ap, ◌∙◌, subst}
use mathlib.Core.Bool.{true, false, cond}
use mathlib.Core.List.{List, [], ◌∷◌}
use Prim.Native.Nat.{ℕ, zero, suc, ◌<◌, zero-le, suc-le-suc}
use native.Mathlib.Nat.{le_of_suc-le-suc, not-suc-le-zero}
use borrow.Author.Tests.{ltb-true, ltb-false}
use lib.Dec.{ltb}
use lib.ListN.{length, get_or}
use Rattle.records.specs.declared.Found.TheVariants.{At, Gap}
use Rattle.records.specs.Records.{key, before, same, ascending, find, lookup, splice, insert_at, remove_at, overwrite_at}
use Rattle.questions.proofs.Tests.{split}
use Rattle.records.proofs.Order.OrderLaws.{key_at, same_refl, eq-same, ne_same, same-before, same_after, asc-lt}
use Rattle.records.proofs.Order.PlaceLaws.{Place, at-says, gap-place}
use Rattle.records.proofs.Changes.EditLaws.{asc-tail, ascending-insert, insert-here, find-inserted}
use Rattle.std.specs.declared.option.Option.TheVariants.{None, Some}

pass : (d : ℕ) (k r : List ℕ) (rs : List (List ℕ)) → same (key d r) k ≡ false → lookup d k (r ∷ rs) ≡ lookup d k rs
unfolding lookup
pass d k r rs e = rw e

stop : (d : ℕ) (k r : List ℕ) (rs : List (List ℕ)) → same (key d r) k ≡ true → lookup d k (r ∷ rs) ≡ Some r
unfolding lookup
stop d k r rs e = rw e

-- the same first record, and lookups that agree on the rest
under : (d : ℕ) (k r : List ℕ) (rs ss : List (List ℕ)) → lookup d k rs ≡ lookup d k ss → lookup d k (r ∷ rs) ≡ lookup d k (r ∷ ss)
unfolding lookup
under d k r rs ss e = ap (cond (same (key d r) k) (Some r)) e

pub lookup-none : (d : ℕ) (k : List ℕ) (rs : List (List ℕ)) → ((j : ℕ) → j < length rs → same (key_at d rs j) k ≡ false) → lookup d k rs ≡ None
unfolding lookup
lookup-none d k [] h = refl
lookup-none d k (r ∷ rs) h = pass d k r rs (h 0 (suc-le-suc zero-le)) ∙ lookup-none d k rs (λ j l. h (suc j) (suc-le-suc l))

pub lookup-some : (d : ℕ) (k : List ℕ) (rs : List (List ℕ)) (i : ℕ) → i < length rs → ((j : ℕ) → j < i → same (key_at d rs j) k ≡ false) → key_at d rs i ≡ k → lookup d k rs ≡ Some (get_or rs i [])
lookup-some d k [] i l h e = absurd (not-suc-le-zero l)
lookup-some d k (r ∷ rs) zero l h e = stop d k r rs (eq-same (key d r) k e)
lookup-some d k (r ∷ rs) (suc i) l h e = pass d k r rs (h 0 (suc-le-suc zero-le)) ∙ lookup-some d k rs i (le_of_suc-le-suc l) (λ j m. h (suc j) (suc-le-suc m)) e

-- where the records ascend, `find` and `lookup` agree
pub lookup-at : (d : ℕ) (k : List ℕ) (rs : List (List ℕ)) (i : ℕ) → ascending d rs ≡ true → find d k rs ≡ At i → lookup d k rs ≡ Some (get_or rs i [])
lookup-at d k rs i a e =
    let p = at-says d k rs i e in
    lookup-some d k rs i p.0 (λ j h. same-before (key_at d rs j) k (subst (λ (z : List ℕ). before (key_at d rs j) z ≡ true) p.1 (asc-lt d rs a j i h p.0))) p.1

pub lookup-place : (d : ℕ) (k : List ℕ) (rs : List (List ℕ)) (i : ℕ) → Place d k rs i → lookup d k rs ≡ None
lookup-place d k rs i p = lookup-none d k rs (λ j h. split (ltb j i)
    (λ l. same-before (key_at d rs j) k (p.below j (ltb-true j i l)))
    (λ l. same_after (key_at d rs j) k (p.above j (ltb-false j i l) h)))

pub lookup-gap : (d : ℕ) (k : List ℕ) (rs : List (List ℕ)) (i : ℕ) → ascending d rs ≡ true → find d k rs ≡ Gap i → lookup d k rs ≡ None
lookup-gap d k rs i a e = lookup-place d k rs i (gap-place d k rs i a e)

-- ---- after an insert
pub lookup-insert : (d : ℕ) (r : List ℕ) (rs : List (List ℕ)) (i : ℕ) → ascending d rs ≡ true → Place d (key d r) rs i → lookup d (key d r) (insert_at i r rs) ≡ Some r
lookup-insert d r rs i a p =
    lookup-at d (key d r) (insert_at i r rs) i (ascending-insert d r rs i a p) (find-inserted d r rs i a p) ∙ ap Some (insert-here r rs i p.within)

pub lookup-insert-other : (d : ℕ) (k r : List ℕ) (rs : List (List ℕ)) (i : ℕ) → (key d r ≡ k → ⊥) → lookup d k (insert_at i r rs) ≡ lookup d k rs
unfolding insert_at splice
lookup-insert-other d k r [] zero h = pass d k r [] (ne_same (key d r) k h)
lookup-insert-other d k r [] (suc i) h = pass d k r [] (ne_same (key d r) k h)
lookup-insert-other d k r (s ∷ rs) zero h = pass d k r (s ∷ rs) (ne_same (key d r) k h)
lookup-insert-other d k r (s ∷ rs) (suc i) h = under d k s (insert_at i r rs) rs (lookup-insert-other d k r rs i h)

-- ---- after a removal
pub lookup-remove : (d : ℕ) (rs : List (List ℕ)) (i : ℕ) → ascending d rs ≡ true → i < length rs → lookup d (key_at d rs i) (remove_at i rs) ≡ None
unfolding remove_at splice
lookup-remove d [] i a h = absurd (not-suc-le-zero h)
lookup-remove d (r ∷ rs) zero a h = lookup-none d (key d r) rs (λ j l. same_after (key_at d rs j) (key d r) (asc-lt d (r ∷ rs) a 0 (suc j) (suc-le-suc zero-le) (suc-le-suc l)))
lookup-remove d (r ∷ rs) (suc i) a h =
    pass d (key_at d rs i) r (remove_at i rs) (same-before (key d r) (key_at d rs i) (asc-lt d (r ∷ rs) a 0 (suc i) (suc-le-suc zero-le) h))
    ∙ lookup-remove d rs i (asc-tail d r rs a).1 (le_of_suc-le-suc h)

pub lookup-remove-other : (d : ℕ) (k : List ℕ) (rs : List (List ℕ)) (i : ℕ) → i < length rs → (key_at d rs i ≡ k → ⊥) → lookup d k (remove_at i rs) ≡ lookup d k rs
unfolding remove_at splice
lookup-remove-other d k [] i l h = absurd (not-suc-le-zero l)
lookup-remove-other d k (r ∷ rs) zero l h = sym (pass d k r rs (ne_same (key d r) k h))
lookup-remove-other d k (r ∷ rs) (suc i) l h = under d k r (remove_at i rs) rs (lookup-remove-other d k rs i (le_of_suc-le-suc l) h)

-- ---- after an overwrite that keeps the key
pub lookup-overwrite : (d : ℕ) (r : List ℕ) (rs : List (List ℕ)) (i : ℕ) → ascending d rs ≡ true → i < length rs → key d r ≡ key_at d rs i → lookup d (key d r) (overwrite_at i r rs) ≡ Some r
unfolding overwrite_at splice
lookup-overwrite d r [] i a h e = absurd (not-suc-le-zero h)
lookup-overwrite d r (s ∷ rs) zero a h e = stop d (key d r) r rs (same_refl (key d r))
lookup-overwrite d r (s ∷ rs) (suc i) a h e =
    pass d (key d r) s (overwrite_at i r rs) (same-before (key d s) (key d r) (subst (λ (z : List ℕ). before (key d s) z ≡ true) (sym e) (asc-lt d (s ∷ rs) a 0 (suc i) (suc-le-suc zero-le) h)))
    ∙ lookup-overwrite d r rs i (asc-tail d s rs a).1 (le_of_suc-le-suc h) e

pub lookup-overwrite-other : (d : ℕ) (k r : List ℕ) (rs : List (List ℕ)) (i : ℕ) → i < length rs → key d r ≡ key_at d rs i → (key d r ≡ k → ⊥) → lookup d k (overwrite_at i r rs) ≡ lookup d k rs
unfolding overwrite_at splice
lookup-overwrite-other d k r [] i l e h = absurd (not-suc-le-zero l)
lookup-overwrite-other d k r (s ∷ rs) zero l e h =
    pass d k r rs (ne_same (key d r) k h) ∙ sym (pass d k s rs (ne_same (key d s) k (λ q. h (e ∙ q))))
lookup-overwrite-other d k r (s ∷ rs) (suc i) l e h = under d k s (overwrite_at i r rs) rs (lookup-overwrite-other d k r rs i (le_of_suc-le-suc l) e h)
