-- Records whose first words are those of keys: told in one pass over the two, where both ascend.
use Prim.Native.Nat.{ℕ, zero, suc, ◌+◌, ◌*◌, ◌≤◌, ◌<◌}
use mathlib.Core.Path.{◌≡◌, refl, sym, ap, ◌∙◌}
use mathlib.Core.Bool.{Bool, true, false, cond, ◌&&◌, ◌||◌, or-false}
use mathlib.Core.List.{List, [], ◌∷◌}
use native.Mathlib.Numerals.{add-one}
use native.Mathlib.Omega.{arith}
use borrow.Author.Tests.{ltb-true, ltb-false, lt-ltb, le-ltb, le-leb, lt-leb, eqb-true, eq-eqb, ne_eqb}
use lib.Dec.{leb, ltb, eqb}
use lib.ListN.{length, drop, get_or, drop_of_length-le}
use lib.Seq.{drop-cons, drop-drop}
use Rattle.records.specs.Records.{records, key, before, ascending}
use Rattle.questions.proofs.Tests.{contradiction, split, both, and_first, stop, goes, and-under}
use Rattle.records.proofs.Words.RecordLaws.{length-records}
use Rattle.records.proofs.Tables.TableLaws.{Wide, wide-records, wide-drop}
use Rattle.questions.specs.Lists.{all, any}
use Rattle.records.specs.Typed.{first_word, are_records}
use Rattle.questions.proofs.OnlyLaws.{all-imply}
use Rattle.records.proofs.Order.AscendingLaws.{asc-ahead, asc-rest, before-one}
use Rattle.records.proofs.Words.RowLaws.{first-at}
use Rattle.limiter.specs.Steps.Scan.{is_among, are_among, keys_below, begins, merges, are_of, KeysReady}

abbrev is_after : ℕ → List ℕ → Bool
is_after id r = ltb id (first_word r)

-- ---- records that ascend
rest-after : (r : List ℕ) (rs : List (List ℕ)) → 1 ≤ length r → ascending 1 (r ∷ rs) ≡ true → all (is_after (first_word r)) rs ≡ true
rest-after r rs h a =
    all-imply (λ (q : List ℕ). before (key 1 r) (key 1 q)) (is_after (first_word r)) rs (λ q b. lt-ltb (first_word r) (first_word q) (before-one r q h b)) (asc-ahead 1 r rs a)

after_less : (a b : ℕ) (rs : List (List ℕ)) → b ≤ a → all (is_after a) rs ≡ true → all (is_after b) rs ≡ true
after_less a b rs l = all-imply (is_after a) (is_after b) rs (λ q h. lt-ltb b (first_word q) (omega (arith, ltb-true a (first_word q) h)))

-- ---- an id that is not above the keys, and a key that is below the records
among_none : (a id : ℕ) (ks : List (List ℕ)) → id ≤ a → all (is_after a) ks ≡ true → is_among ks id ≡ false
unfolding is_among any all
among_none a id [] l h = refl
among_none a id (k ∷ ks) l h =
    let b = both (is_after a k) (all (is_after a) ks) h in
    (λ i. ne_eqb (first_word k) id (λ e. omega (arith, ltb-true a (first_word k) b.0)) i || among_none a id ks l b.1 i)

among-skip : (k : List ℕ) (ks rs : List (List ℕ)) → all (is_after (first_word k)) rs ≡ true → are_among (k ∷ ks) rs ≡ are_among ks rs
unfolding are_among is_among any all
among-skip k ks [] h = refl
among-skip k ks (r ∷ rs) h =
    let b = both (is_after (first_word k) r) (all (is_after (first_word k)) rs) h in
    (λ i. (ne_eqb (first_word k) (first_word r) (λ e. omega (arith, ltb-true (first_word k) (first_word r) b.0)) i || is_among ks (first_word r)) && among-skip k ks rs b.1 i)

-- ---- past the keys below an id
below-yes : (id : ℕ) (k : List ℕ) (ks : List (List ℕ)) → ltb (first_word k) id ≡ true → keys_below id (k ∷ ks) ≡ suc (keys_below id ks)
unfolding keys_below
below-yes id k ks e = ap (λ (b : Bool). cond b (suc (keys_below id ks)) 0) e

below-no : (id : ℕ) (k : List ℕ) (ks : List (List ℕ)) → ltb (first_word k) id ≡ false → keys_below id (k ∷ ks) ≡ 0
unfolding keys_below
below-no id k ks e = ap (λ (b : Bool). cond b (suc (keys_below id ks)) 0) e

-- stands the id's own, if it is there
begins-is : (v id : ℕ) (ks : List (List ℕ)) → 1 ≤ v → Wide v ks → ascending 1 ks ≡ true → begins id (drop (keys_below id ks) ks) ≡ is_among ks id
unfolding is_among any keys_below
begins-is v id [] some wide asc = refl
begins-is v id (k ∷ ks) some wide asc = split (ltb (first_word k) id)
    (λ b.
    let l = ltb-true (first_word k) id b in
    ap (λ (n : ℕ). begins id (drop n (k ∷ ks))) (below-yes id k ks b)
    ∙ begins-is v id ks some wide.1 (asc-rest 1 k ks asc)
    ∙ sym (ap (λ (z : Bool). z || is_among ks id) (ne_eqb (first_word k) id (λ e. omega (arith, e, l)))))
    (λ b.
    let l = ltb-false (first_word k) id b in
    ap (λ (n : ℕ). begins id (drop n (k ∷ ks))) (below-no id k ks b)
    ∙ sym (ap (λ (z : Bool). eqb (first_word k) id || z) (among_none (first_word k) id ks l (rest-after k ks (omega (arith, wide.0)) asc)) ∙ or-false (eqb (first_word k) id)))

-- and the rest is for records with greater first words
rest-is : (id : ℕ) (ks rs : List (List ℕ)) → all (is_after id) rs ≡ true → begins id (drop (keys_below id ks) ks) ≡ true → are_among (drop (suc (keys_below id ks)) ks) rs ≡ are_among ks rs
unfolding keys_below
rest-is id [] rs after e = contradiction (sym e)
rest-is id (k ∷ ks) rs after e = split (ltb (first_word k) id)
    (λ b.
    let l = ltb-true (first_word k) id b in
    ap (λ (n : ℕ). are_among (drop (suc n) (k ∷ ks)) rs) (below-yes id k ks b)
    ∙ rest-is id ks rs after (sym (ap (λ (n : ℕ). begins id (drop n (k ∷ ks))) (below-yes id k ks b)) ∙ e)
    ∙ sym (among-skip k ks rs (after_less id (first_word k) rs (omega arith) after)))
    (λ b.
    let own = eqb-true (first_word k) id (sym (ap (λ (n : ℕ). begins id (drop n (k ∷ ks))) (below-no id k ks b)) ∙ e) in
    ap (λ (n : ℕ). are_among (drop (suc n) (k ∷ ks)) rs) (below-no id k ks b)
    ∙ sym (among-skip k ks rs (after_less id (first_word k) rs (omega (arith, own)) after)))

asc-drop : (n : ℕ) (ks : List (List ℕ)) → ascending 1 ks ≡ true → ascending 1 (drop n ks) ≡ true
asc-drop zero ks asc = asc
asc-drop (suc n) [] asc = asc
asc-drop (suc n) (k ∷ ks) asc = asc-drop n ks (asc-rest 1 k ks asc)

-- ---- one pass
module _ (w v : ℕ) (some-w : 1 ≤ w) (some-v : 1 ≤ v) where
  pub merges-is : (rs ks : List (List ℕ)) → Wide w rs → Wide v ks → ascending 1 rs ≡ true → ascending 1 ks ≡ true → merges rs ks ≡ are_among ks rs
  unfolding merges are_among all
  merges-is [] ks wr wk ar ak = refl
  merges-is (r ∷ rs) ks wr wk ar ak =
      let id = first_word r in
      let rest : List (List ℕ) = drop (suc (keys_below id ks)) ks in
      let own : Bool = begins id (drop (keys_below id ks) ks) in
      and-under own (merges rs rest) (are_among ks rs)
      (λ e.
      merges-is rs rest wr.1 (wide-drop v (suc (keys_below id ks)) ks wk) (asc-rest 1 r rs ar) (asc-drop (suc (keys_below id ks)) ks ak)
      ∙ rest-is id ks rs (rest-after r rs (omega (arith, wr.0)) ar) e)
      ∙ ap (λ (b : Bool). b && are_among ks rs) (begins-is v id ks some-v wk ak)

-- of records in lent words
pub among-is : (w n m : ℕ) (xs ys : List ℕ) → 1 ≤ w → n * w ≤ length xs → ascending 1 (records w n xs) ≡ true → KeysReady m ys → merges (records w n xs) (records 22 m ys) ≡ are_among (records 22 m ys) (records w n xs)
among-is w n m xs ys some fit asc ready =
    merges-is w 22 some (omega arith) (records w n xs) (records 22 m ys) (wide-records w n xs fit) (wide-records 22 m ys ready.fit) asc ready.ascend

-- ---- the search: what is below the id from j on
abbrev pub Seeking : (m id from : ℕ) (ys : List ℕ) (j : ℕ) → Type 0
Seeking m id from ys j = j + keys_below id (drop j (records 22 m ys)) ≡ from + keys_below id (drop from (records 22 m ys))

module _ (m : ℕ) (ys : List ℕ) (j : ℕ) (k : j < m) where
  key_here : drop j (records 22 m ys) ≡ get_or (records 22 m ys) j [] ∷ drop (suc j) (records 22 m ys)
  key_here = drop-cons (records 22 m ys) j [] (omega (arith, length-records 22 m ys))

  key_word : first_word (get_or (records 22 m ys) j []) ≡ get_or ys (j * 22) 0
  key_word = first-at 22 m ys j k (omega arith)

module _ (m id from : ℕ) (ys : List ℕ) (j : ℕ) (at : Seeking m id from ys j) where
  pub seek-stops : j < m → id ≤ get_or ys (j * 22) 0 → j ≡ from + keys_below id (drop from (records 22 m ys))
  seek-stops k l =
      let none : keys_below id (drop j (records 22 m ys)) ≡ 0 = ap (keys_below id) (key_here m ys j k) ∙ below-no id (get_or (records 22 m ys) j []) (drop (suc j) (records 22 m ys)) (le-ltb _ id (omega (arith, key_word m ys j k))) in
      omega arith

  pub seek-next : j < m → get_or ys (j * 22) 0 < id → Seeking m id from ys (j + 1)
  seek-next k l =
      let one : keys_below id (drop j (records 22 m ys)) ≡ suc (keys_below id (drop (suc j) (records 22 m ys))) = ap (keys_below id) (key_here m ys j k) ∙ below-yes id (get_or (records 22 m ys) j []) (drop (suc j) (records 22 m ys)) (lt-ltb _ id (omega (arith, key_word m ys j k))) in
      let next : keys_below id (drop (j + 1) (records 22 m ys)) ≡ keys_below id (drop (suc j) (records 22 m ys)) = ap (λ (n : ℕ). keys_below id (drop n (records 22 m ys))) (add-one j) in
      omega arith

  pub seek-ends : m ≤ j → j ≡ from + keys_below id (drop from (records 22 m ys))
  unfolding keys_below
  seek-ends k =
      let none : keys_below id (drop j (records 22 m ys)) ≡ 0 = ap (keys_below id) (drop_of_length-le (records 22 m ys) {i = j} (omega (arith, length-records 22 m ys))) in
      omega arith

-- ---- the pass: records from i on, and keys from j on, decide
abbrev pub Merging : (w n m : ℕ) (xs ys : List ℕ) (i j : ℕ) → Type 0
Merging w n m xs ys i j = merges (records w n xs) (records 22 m ys) ≡ merges (drop i (records w n xs)) (drop j (records 22 m ys))

module _ (w n m : ℕ) (xs ys : List ℕ) (i j : ℕ) (some : 1 ≤ w) (at : Merging w n m xs ys i j) where
  pub merge-ends : n ≤ i → true ≡ merges (records w n xs) (records 22 m ys)
  unfolding merges
  merge-ends h = sym (at ∙ ap (λ (rs : List (List ℕ)). merges rs (drop j (records 22 m ys))) (drop_of_length-le (records w n xs) {i = i} (omega (arith, length-records w n xs))))

  module _ (h : i < n) (to : ℕ) (found : to ≡ j + keys_below (get_or xs (i * w) 0) (drop j (records 22 m ys))) where
    here : merges (records w n xs) (records 22 m ys) ≡ (begins (get_or xs (i * w) 0) (drop to (records 22 m ys)) && merges (drop (i + 1) (records w n xs)) (drop (to + 1) (records 22 m ys)))
    unfolding merges
    here =
        let rs : List (List ℕ) = records w n xs in
        let ks : List (List ℕ) = records 22 m ys in
        let id : ℕ = get_or xs (i * w) 0 in
        let below : ℕ = keys_below id (drop j ks) in
        let there : below + j ≡ to = omega arith in
        let past : suc below + j ≡ to + 1 = omega arith in
        at
        ∙ ap (λ (l : List (List ℕ)). merges l (drop j ks)) (drop-cons rs i [] (omega (arith, length-records w n xs)))
        ∙ (λ z. begins (first-at w n xs i h some z) (drop (keys_below (first-at w n xs i h some z) (drop j ks)) (drop j ks)) && merges (drop (sym (add-one i) z) rs) (drop (suc (keys_below (first-at w n xs i h some z) (drop j ks))) (drop j ks)))
        ∙ (λ z. begins id ((drop-drop below j ks ∙ ap (λ (k : ℕ). drop k ks) (sum below j ∙ there)) z) && merges (drop (i + 1) rs) ((drop-drop (suc below) j ks ∙ ap (λ (k : ℕ). drop k ks) (sum (suc below) j ∙ past)) z))
      where
        sum : (a b : ℕ) → b + a ≡ a + b
        sum a b = omega arith

    pub merge-out : m ≤ to → false ≡ merges (records w n xs) (records 22 m ys)
    merge-out k = sym (here ∙ and_first _ _ (ap (begins (get_or xs (i * w) 0)) (drop_of_length-le (records 22 m ys) {i = to} (omega (arith, length-records 22 m ys)))))

    module _ (k : to < m) where
      own : begins (get_or xs (i * w) 0) (drop to (records 22 m ys)) ≡ eqb (get_or ys (to * 22) 0) (get_or xs (i * w) 0)
      own = ap (begins (get_or xs (i * w) 0)) (key_here m ys to k) ∙ ap (λ (a : ℕ). eqb a (get_or xs (i * w) 0)) (key_word m ys to k)

      pub merge-other : (get_or ys (to * 22) 0 ≡ get_or xs (i * w) 0 → ⊥) → false ≡ merges (records w n xs) (records 22 m ys)
      merge-other d = sym (here ∙ and_first _ _ (own ∙ ne_eqb (get_or ys (to * 22) 0) (get_or xs (i * w) 0) d))

      pub merge-next : get_or ys (to * 22) 0 ≡ get_or xs (i * w) 0 → Merging w n m xs ys (i + 1) (to + 1)
      merge-next e = here ∙ ap (λ (b : Bool). b && merges (drop (i + 1) (records w n xs)) (drop (to + 1) (records 22 m ys))) (own ∙ eq-eqb (get_or ys (to * 22) 0) (get_or xs (i * w) 0) e)

-- ---- the tables of hot entries and of shadows
module _ (test : List ℕ → Bool) (w n size m : ℕ) (xs ys : List ℕ) where
  pub too_many : size < n → false ≡ are_of test size (records 22 m ys) (records w n xs)
  unfolding are_of
  too_many h = stop _ _ (lt-leb (length (records w n xs)) size (omega (arith, length-records w n xs)))

  module _ (few : n ≤ size) where
    counted : leb (length (records w n xs)) size ≡ true
    counted = le-leb (length (records w n xs)) size (omega (arith, length-records w n xs))

    pub not-records : are_records test (records w n xs) ≡ false → false ≡ are_of test size (records 22 m ys) (records w n xs)
    unfolding are_of
    not-records e = goes _ _ false counted (stop _ _ e)

    pub by-merge : 1 ≤ w → n * w ≤ length xs → KeysReady m ys → are_records test (records w n xs) ≡ true → merges (records w n xs) (records 22 m ys) ≡ are_of test size (records 22 m ys) (records w n xs)
    unfolding are_of are_records
    by-merge some fit ready e =
        goes _ _ _ counted (goes _ _ _ e (among-is w n m xs ys some fit (both (all test (records w n xs)) (ascending 1 (records w n xs)) e).1 ready))
