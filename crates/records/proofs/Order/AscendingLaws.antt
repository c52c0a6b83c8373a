-- Laws: records that ascend, when some are left out, appended or replaced.
use mathlib.Core.Path.{◌≡◌, refl, sym, ap, ◌∙◌, subst}
use mathlib.Core.Logic.{⊎_elim}
use mathlib.Core.Bool.{Bool, true, ◌&&◌}
use mathlib.Core.List.{List, [], ◌∷◌, ◌++◌, map}
use Prim.Native.Nat.{ℕ, suc, ◌≤◌, ◌<◌, zero-le}
use native.Mathlib.Nat.{not-suc-le-zero}
use native.Mathlib.Omega.{arith}
use borrow.Author.Tests.{ltb-true, leb-true, le-leb, eqb-true}
use lib.Dec.{ltb, leb, eqb}
use lib.ListN.{length, take, get_or}
use Rattle.records.specs.Records.{key, before, leads, ascending}
use Rattle.questions.proofs.Tests.{contradiction, split, both, and_intro}
use Rattle.records.proofs.Order.OrderLaws.{before-less, before-equal, before-trans, before-cases}
use Rattle.records.proofs.Tables.TableLaws.{Wide}
use Rattle.questions.specs.Lists.{all, only, replaced}
use Rattle.records.specs.Typed.{word}
use Rattle.questions.proofs.ListLaws.{all_map, all_pass}
use Rattle.questions.proofs.OnlyLaws.{only_yes, only_no, replaced-words, all_append, all-imply, all-only, all_two, only-passes}

pub asc-ahead : (d : ℕ) (r : List ℕ) (rs : List (List ℕ)) → ascending d (r ∷ rs) ≡ true → all (λ (s : List ℕ). before (key d r) (key d s)) rs ≡ true
unfolding ascending leads all
asc-ahead d r [] a = refl
asc-ahead d r (s ∷ rs) a =
    let t = both (before (key d r) (key d s)) (ascending d (s ∷ rs)) a in
    and_intro (before (key d r) (key d s)) (all (λ (x : List ℕ). before (key d r) (key d x)) rs) t.0
    (all-imply (λ (x : List ℕ). before (key d s) (key d x)) (λ (x : List ℕ). before (key d r) (key d x)) rs (λ x e. before-trans (key d r) (key d s) (key d x) t.0 e) (asc-ahead d s rs t.1))

pub asc-rest : (d : ℕ) (r : List ℕ) (rs : List (List ℕ)) → ascending d (r ∷ rs) ≡ true → ascending d rs ≡ true
unfolding ascending
asc-rest d r rs a = (both (leads d r rs) (ascending d rs) a).1

pub asc-cons : (d : ℕ) (r : List ℕ) (rs : List (List ℕ)) → all (λ (s : List ℕ). before (key d r) (key d s)) rs ≡ true → ascending d rs ≡ true → ascending d (r ∷ rs) ≡ true
unfolding ascending leads all
asc-cons d r [] h a = refl
asc-cons d r (s ∷ rs) h a = and_intro (before (key d r) (key d s)) (ascending d (s ∷ rs)) (both (before (key d r) (key d s)) (all (λ (x : List ℕ). before (key d r) (key d x)) rs) h).0 a

pub asc-only : (d : ℕ) (p : List ℕ → Bool) (rs : List (List ℕ)) → ascending d rs ≡ true → ascending d (only p rs) ≡ true
unfolding only ascending
asc-only d p [] a = refl
asc-only d p (r ∷ rs) a = split (p r)
    (λ e. ap (ascending d) (only_yes p r rs e) ∙ asc-cons d r (only p rs) (all-only (λ (s : List ℕ). before (key d r) (key d s)) p rs (asc-ahead d r rs a)) (asc-only d p rs (asc-rest d r rs a)))
    (λ e. ap (ascending d) (only_no p r rs e) ∙ asc-only d p rs (asc-rest d r rs a))

pub wide-only : (w : ℕ) (p : List ℕ → Bool) (rs : List (List ℕ)) → Wide w rs → Wide w (only p rs)
unfolding only
wide-only w p [] h = tt
wide-only w p (r ∷ rs) h = split (p r)
    (λ e. subst (Wide w) (sym (only_yes p r rs e)) (h.0, wide-only w p rs h.1))
    (λ e. subst (Wide w) (sym (only_no p r rs e)) (wide-only w p rs h.1))

-- every one of the first is before every one of the second
pub asc-append :
    (d : ℕ) (p q : List ℕ → Bool) (rs ss : List (List ℕ))
    → ((r s : List ℕ) → p r ≡ true → q s ≡ true → before (key d r) (key d s) ≡ true)
    → all p rs ≡ true
    → all q ss ≡ true
    → ascending d rs ≡ true
    → ascending d ss ≡ true
    → ascending d (rs ++ ss) ≡ true
unfolding all
asc-append d p q [] ss f hp hq a b = b
asc-append d p q (r ∷ rs) ss f hp hq a b =
    let t = both (p r) (all p rs) hp in
    asc-cons d r (rs ++ ss)
    (all_append (λ (s : List ℕ). before (key d r) (key d s)) rs ss (asc-ahead d r rs a) (all-imply q (λ (s : List ℕ). before (key d r) (key d s)) ss (λ s e. f r s t.0 e) hq))
    (asc-append d p q rs ss f t.1 hq (asc-rest d r rs a) b)

-- records whose number is a, in the place of those that have it; S is what all of them share
pub asc-replaced :
    (d : ℕ) (number : List ℕ → ℕ) (S : List ℕ → Bool) (a : ℕ) (new rs : List (List ℕ))
    → ((r s : List ℕ) → S r ≡ true → S s ≡ true → number r < number s → before (key d r) (key d s) ≡ true)
    → all S rs ≡ true
    → all S new ≡ true
    → all (λ (r : List ℕ). eqb (number r) a) new ≡ true
    → ascending d rs ≡ true
    → ascending d new ≡ true
    → ascending d (replaced number a new rs) ≡ true
unfolding replaced
asc-replaced d number S a new rs f hs hn he ar an =
    let low : List ℕ → Bool = λ r. ltb (number r) a in
    let high : List ℕ → Bool = λ r. ltb a (number r) in
    let shared-low : all (λ r. S r && low r) (only low rs) ≡ true = all_two S low (λ r. S r && low r) (only low rs) (λ r x y. and_intro (S r) (low r) x y) (all-only S low rs hs) (only-passes low rs) in
    let shared-high : all (λ r. S r && high r) (only high rs) ≡ true = all_two S high (λ r. S r && high r) (only high rs) (λ r x y. and_intro (S r) (high r) x y) (all-only S high rs hs) (only-passes high rs) in
    let shared_new : all (λ r. S r && eqb (number r) a) new ≡ true = all_two S (λ r. eqb (number r) a) (λ r. S r && eqb (number r) a) new (λ r x y. and_intro (S r) (eqb (number r) a) x y) hn he in
    let tail : ascending d (new ++ only high rs) ≡ true = asc-append d (λ r. S r && eqb (number r) a) (λ r. S r && high r) new (only high rs)
    (λ r s x y. f r s (both (S r) _ x).0 (both (S s) _ y).0 (omega (arith, eqb-true (number r) a (both (S r) _ x).1, ltb-true a (number s) (both (S s) _ y).1)))
    shared_new shared-high an (asc-only d high rs ar) in
    asc-append d (λ r. S r && low r) (λ r. S r && leb a (number r)) (only low rs) (new ++ only high rs)
    (λ r s x y. f r s (both (S r) _ x).0 (both (S s) _ y).0 (omega (arith, ltb-true (number r) a (both (S r) _ x).1, leb-true a (number s) (both (S s) _ y).1)))
    shared-low
    (all_append (λ r. S r && leb a (number r)) new (only high rs)
    (all-imply (λ r. S r && eqb (number r) a) (λ r. S r && leb a (number r)) new (λ r x. and_intro (S r) (leb a (number r)) (both (S r) _ x).0 (le-leb a (number r) (omega (arith, eqb-true (number r) a (both (S r) _ x).1)))) shared_new)
    (all-imply (λ r. S r && high r) (λ r. S r && leb a (number r)) (only high rs) (λ r x. and_intro (S r) (leb a (number r)) (both (S r) _ x).0 (le-leb a (number r) (omega (arith, ltb-true a (number r) (both (S r) _ x).1)))) shared-high))
    (asc-only d low rs ar)
    tail

-- by the first word, and by the second where the first is shared
pub first-before : (d : ℕ) (r s : List ℕ) → word 0 r < word 0 s → before (key (suc d) r) (key (suc d) s) ≡ true
unfolding before
first-before d r [] h = absurd (not-suc-le-zero h)
first-before d [] (y ∷ s) h = refl
first-before d (x ∷ r) (y ∷ s) h = before-less x y (take d r) (take d s) h

pub second-before : (id : ℕ) (r s : List ℕ) → eqb (word 0 r) id ≡ true → eqb (word 0 s) id ≡ true → word 1 r < word 1 s → before (key 2 r) (key 2 s) ≡ true
unfolding before
second-before id r [] p q h = absurd (not-suc-le-zero h)
second-before id [] (y ∷ s) p q h = refl
second-before id (x ∷ r) (y ∷ s) p q h =
    before-equal x y (take 1 r) (take 1 s) (eqb-true x id p ∙ sym (eqb-true y id q)) ∙ first-before 0 r s (shift r s h)
  where
    shift : (r s : List ℕ) → get_or r 0 0 < get_or s 0 0 → word 0 r < word 0 s
    shift r s h = h

-- and what the order says of the words
pub before-first : (d : ℕ) (r s : List ℕ) → before (key (suc d) r) (key (suc d) s) ≡ true → word 0 r ≤ word 0 s
unfolding before
before-first d [] s e = zero-le
before-first d (x ∷ r) [] e = contradiction (sym e)
before-first d (x ∷ r) (y ∷ s) e = ⊎_elim (λ l. omega arith) (λ l. omega arith) (before-cases x y (take d r) (take d s) e)

pub before-one : (r s : List ℕ) → 1 ≤ length r → before (key 1 r) (key 1 s) ≡ true → word 0 r < word 0 s
unfolding before
before-one [] s h e = absurd (omega arith)
before-one (x ∷ r) [] h e = contradiction (sym e)
before-one (x ∷ r) (y ∷ s) h e = ⊎_elim (λ l. l) (λ l. contradiction (sym l.1)) (before-cases x y [] [] e)

pub before-two : (r s : List ℕ) → 2 ≤ length r → before (key 2 r) (key 2 s) ≡ true → word 0 r ≡ word 0 s → word 1 r < word 1 s
unfolding before
before-two [] s h e f = absurd (omega arith)
before-two (x ∷ r) [] h e f = contradiction (sym e)
before-two (x ∷ r) (y ∷ s) h e f = ⊎_elim (λ l. absurd (omega (arith, f))) (λ l. before-one r s (omega (arith, h)) l.1) (before-cases x y (take 1 r) (take 1 s) e)

-- values by a number that is the first of their words, in the place of those that have it
pub asc-numbered :
    {A : Type 0} (words : A → List ℕ) (number : A → ℕ) → ((x : A) → word 0 (words x) ≡ number x)
    → (d a : ℕ) (new xs : List A)
    → all (λ x. eqb (number x) a) new ≡ true
    → ascending (suc d) (map words xs) ≡ true
    → ascending (suc d) (map words new) ≡ true
    → ascending (suc d) (map words (replaced number a new xs)) ≡ true
asc-numbered words number h d a new xs en ax an =
    ap (ascending (suc d)) (replaced-words number words (word 0) h a new xs)
    ∙ asc-replaced (suc d) (word 0) (λ (r : List ℕ). true) a (map words new) (map words xs)
    (λ r s p q l. first-before d r s l)
    (trues (map words xs))
    (trues (map words new))
    (all_map words (λ (r : List ℕ). eqb (word 0 r) a) new ∙ all-imply (λ x. eqb (number x) a) (λ x. eqb (word 0 (words x)) a) new (λ x e. ap (λ (m : ℕ). eqb m a) (h x) ∙ e) en)
    ax
    an
  where
    trues : (rs : List (List ℕ)) → all (λ (r : List ℕ). true) rs ≡ true
    trues rs = all_pass (λ (r : List ℕ). true) [] rs (λ i l. refl)
