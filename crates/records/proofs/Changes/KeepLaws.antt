-- Laws: records kept by a test, written to the front of their table one after the other; and a table by its records.
use mathlib.Core.Path.{◌≡◌, refl, sym, ap, ◌∙◌, subst}
use mathlib.Core.Bool.{Bool, true, false, cond}
use mathlib.Core.List.{List, [], ◌∷◌, ◌++◌, append-nil, append_assoc}
use Prim.Native.Nat.{ℕ, zero, suc, ◌+◌, ◌-◌, ◌*◌, ◌≤◌, ◌<◌}
use native.Mathlib.Nat.{suc-mul, le_of_suc-le-suc, not-suc-le-zero, mul-le-mul_right}
use native.Mathlib.Numerals.{add-one}
use native.Mathlib.Omega.{arith}
use borrow.Author.Tests.{lt-ltb, eq-eqb}
use lib.Dec.{ltb, eqb}
use lib.ListN.{length, take, drop, get_or, set, length-append, length-take}
use lib.Seq.{slice, length-slice, take_all, take_at, take-suc, drop-drop, drop-append-add, take-set-lt, take-set-le, drop-set-lt, drop-set-add, set_split}
use Rattle.records.specs.Words.{copy_within, paste}
use Rattle.records.specs.Records.{records, flat, table, splice, overwrite_at, overwritable, removable, overwritten}
use Rattle.questions.proofs.Tests.{and_intro}
use Rattle.records.proofs.Words.WordLaws.{copy-here}
use Rattle.records.proofs.Words.RecordLaws.{fits_intro, row, record-at, flat_append}
use Rattle.records.proofs.Changes.SpliceLaws.{slice_is, splice-done, overwritable-is, overwritten-is}
use Rattle.records.proofs.Tables.TableLaws.{Wide, wide-take, length-flat, length-table}
use Rattle.questions.specs.Lists.{only}
use Rattle.records.specs.Typed.{Tabled}
use Rattle.questions.proofs.OnlyLaws.{length-only, only_yes, only_no, only-append}
use Rattle.records.proofs.Order.AscendingLaws.{wide-only}
use Rattle.records.proofs.Words.RowLaws.{word-at}

-- ---- a table and its records

-- past its records a table is as before
pub drop_past : (rs : List (List ℕ)) (xs : List ℕ) (m : ℕ) → length (flat rs) ≤ m → drop m (table rs xs) ≡ drop m xs
unfolding table
drop_past rs xs m h =
    let l : ℕ = length (flat rs) in
    let e : m ≡ l + (m - l) = omega arith in
    ap (λ (n : ℕ). drop n (flat rs ++ drop l xs)) e ∙ drop-append-add (flat rs) (drop l xs) (m - l) ∙ drop-drop (m - l) l xs ∙ ap (λ (n : ℕ). drop n xs) (sym e)

-- a table that is written over by no fewer words leaves no trace
pub table-over : (rs ss : List (List ℕ)) (xs : List ℕ) → length (flat rs) ≤ length (flat ss) → table ss (table rs xs) ≡ table ss xs
unfolding table
table-over rs ss xs h = ap (λ (ws : List ℕ). flat ss ++ ws) (drop_past rs xs (length (flat ss)) h)

-- a record pasted behind the others is one more of them
pub paste_more : (w : ℕ) (rs : List (List ℕ)) (r xs : List ℕ) → Wide w rs → paste (length rs * w) r (table rs xs) ≡ table (rs ++ (r ∷ [])) xs
unfolding paste table flat
paste_more w rs r xs p =
    let f : List ℕ = flat rs in
    let l : length f ≡ length rs * w = length-flat w rs p in
    let m : length rs * w + length r ≡ length (f ++ r) = omega (arith, length-append f r) in
    let e : flat (rs ++ (r ∷ [])) ≡ f ++ r = flat_append rs (r ∷ []) ∙ ap (λ (zs : List ℕ). f ++ zs) (append-nil r) in
    (λ k. take_at f (drop (length f) xs) (length rs * w) l k ++ (r ++ drop_past rs xs (length rs * w + length r) (omega arith) k))
    ∙ sym (append_assoc f r (drop (length rs * w + length r) xs))
    ∙ ap (λ (n : ℕ). (f ++ r) ++ drop n xs) m
    ∙ sym (λ k. e k ++ drop (length (e k)) xs)

-- ---- one record written over

pub overwrite-set : (i : ℕ) (r : List ℕ) (rs : List (List ℕ)) → i < length rs → overwrite_at i r rs ≡ set rs i r
unfolding overwrite_at splice
overwrite-set i r rs h = sym (set_split rs i r h)

module _ (w n i : ℕ) (r xs : List ℕ) (hw : 0 < w) (hx : n * w ≤ length xs) (hi : i < n) (hr : length r ≡ w) where
  fitting : overwritable (length xs) w n i (length r) ≡ true
  unfolding overwritable removable
  fitting = and_intro (eqb (length r) w) _ (eq-eqb (length r) w hr) (and_intro (ltb i n) _ (lt-ltb i n hi) (fits_intro (length xs) w n hw hx))

  pasted : paste (i * w) r xs ≡ overwritten w n i r xs
  pasted =
      let e : (i + 1) * w ≡ i * w + length r = omega arith in
      let k : i * w + length r ≤ n * w = omega (arith, row w n i hi) in
      sym (ap (paste (i * w) r) (ap (λ (m : ℕ). copy_within m (n * w) (i * w + length r) xs) e ∙ copy-here (i * w + length r) (n * w) xs k hx))
      ∙ splice-done w n i (i + 1) r xs (overwritable-is (length xs) w n i (length r) hr hi ∙ fitting)
      ∙ overwritten-is w n i r xs hr hi

-- ---- records kept

-- the n records of t₀ become gs; of the first i of these the j that pass were written over the front of t₀, which is now t
pub record Kept (p : List ℕ → Bool) (w n : ℕ) (gs : List (List ℕ)) (t₀ t : List ℕ) (i j : ℕ) : Type 0 where
  pub width : 0 < w
  pub words : n * w ≤ length t₀
  pub wide : Wide w gs
  pub many : length gs ≡ n
  pub count : j ≡ length (only p (take i gs))
  pub front : t ≡ table (only p (take i gs)) t₀

pub kept-none : (p : List ℕ → Bool) (w n : ℕ) (gs : List (List ℕ)) (t : List ℕ) → 0 < w → n * w ≤ length t → Wide w gs → length gs ≡ n → Kept p w n gs t t 0 0
unfolding only table flat
kept-none p w n gs t h k g e = record { width = h; words = k; wide = g; many = e; count = refl; front = refl }

module _ (p : List ℕ → Bool) (w n : ℕ) (gs : List (List ℕ)) (t₀ t : List ℕ) (i j : ℕ) (k : Kept p w n gs t₀ t i j) where
  abbrev kept : List (List ℕ)
  kept = only p (take i gs)

  wide-kept : Wide w kept
  wide-kept = wide-only w p (take i gs) (wide-take w i gs k.wide)

  behind : (j ≤ i) × (j ≤ n)
  behind =
      let a = length-only p (take i gs) in
      let b = length-take i gs in
      (omega (arith, k.count), omega (arith, k.count, k.many))

  flat-kept : length (flat kept) ≡ j * w
  flat-kept = length-flat w kept wide-kept ∙ ap (λ (m : ℕ). m * w) (sym k.count)

  pub kept-long : length t ≡ length t₀
  kept-long = ap length k.front ∙ length-table kept t₀ (omega (arith, flat-kept, mul-le-mul_right w behind.1, k.words))

  pub kept-all : n ≤ i → Tabled j (only p gs) t₀ t
  kept-all h =
      let e : kept ≡ only p gs = ap (only p) (take_all i gs (omega (arith, k.many))) in
      record { count = k.count ∙ ap length e; words = k.front ∙ ap (λ (rs : List (List ℕ)). table rs t₀) e }

  module _ (h : i < n) where
    -- record i stands within the words, and not before those kept
    pub kept-inside : (j ≤ i) × (i * w + w ≤ length t)
    kept-inside = (behind.0, omega (arith, row w n i h, k.words, kept-long))

    -- it is as it was
    pub kept_here : take w (drop (i * w) t) ≡ get_or (records w n t₀) i []
    kept_here =
        ap (λ (xs : List ℕ). take w (drop (i * w) xs)) k.front
        ∙ ap (take w) (drop_past kept t₀ (i * w) (omega (arith, flat-kept, mul-le-mul_right w behind.0)))
        ∙ sym (record-at w n t₀ i h)

    -- and so is each of its words
    pub kept_word : (m : ℕ) → m < w → get_or t (i * w + m) 0 ≡ get_or (get_or (records w n t₀) i []) m 0
    kept_word m l = sym (word-at w n t i m h l) ∙ ap (λ (r : List ℕ). get_or r m 0) (record-at w n t i h ∙ kept_here)

    pub kept-first : get_or t (i * w) 0 ≡ get_or (get_or (records w n t₀) i []) 0 0
    kept-first =
        let z : i * w ≡ i * w + 0 = omega arith in
        ap (λ (m : ℕ). get_or t m 0) z ∙ kept_word 0 k.width

    abbrev next : List ℕ
    next = get_or gs i []

    one_more : (l : List (List ℕ)) → only p (next ∷ []) ≡ l → only p (take (i + 1) gs) ≡ kept ++ l
    one_more l e =
        ap (λ (m : ℕ). only p (take m gs)) (add-one i)
        ∙ ap (only p) (take-suc gs i [] (omega (arith, k.many)))
        ∙ only-append p (take i gs) (next ∷ [])
        ∙ ap (λ (rs : List (List ℕ)). kept ++ rs) e

    made : (rs : List (List ℕ)) (t' : List ℕ) (j' : ℕ) → only p (take (i + 1) gs) ≡ rs → j' ≡ length rs → t' ≡ table rs t₀ → Kept p w n gs t₀ t' (i + 1) j'
    made rs t' j' e q r = record {
      width = k.width;
      words = k.words;
      wide = k.wide;
      many = k.many;
      count = q ∙ ap length (sym e);
      front = r ∙ ap (λ (l : List (List ℕ)). table l t₀) (sym e);
    }

    step : (b : Bool) → b ≡ p next → Kept p w n gs t₀ (cond b (paste (j * w) next t) t) (i + 1) (cond b (j + 1) j)
    unfolding only
    step true e =
        made (kept ++ (next ∷ [])) (paste (j * w) next t) (j + 1) (one_more (next ∷ []) (only_yes p next [] (sym e)))
        (omega (arith, k.count, length-append kept (next ∷ [])))
        ((λ m. paste (k.count m * w) next (k.front m)) ∙ paste_more w kept next t₀ wide-kept)
    step false e = made kept t j (one_more [] (only_no p next [] (sym e)) ∙ append-nil kept) k.count k.front

    next-by : (b : Bool) (ys t' : List ℕ) (j' : ℕ) → ys ≡ paste (j * w) next t → b ≡ p next → j' ≡ cond b (j + 1) j → t' ≡ cond b ys t → Kept p w n gs t₀ t' (i + 1) j'
    next-by b ys t' j' y e q r =
        subst (λ (zs : List ℕ). Kept p w n gs t₀ zs (i + 1) j') (sym (r ∙ ap (λ (zs : List ℕ). cond b zs t) y))
        (subst (λ (m : ℕ). Kept p w n gs t₀ (cond b (paste (j * w) next t) t) (i + 1) m) (sym q) (step b e))

    -- if it passes it goes behind those kept: copied as it is, or as it becomes
    pub kept-copied : (b : Bool) (t' : List ℕ) (j' : ℕ) → next ≡ get_or (records w n t₀) i [] → b ≡ p next → j' ≡ cond b (j + 1) j → t' ≡ cond b (copy_within (i * w) (i * w + w) (j * w) t) t → Kept p w n gs t₀ t' (i + 1) j'
    unfolding copy_within paste
    kept-copied b t' j' e =
        let s : slice (i * w) (i * w + w) t ≡ next = sym (slice_is (i * w) w t kept-inside.1) ∙ kept_here ∙ sym e in
        let d : i * w + w - i * w ≡ length next = sym (length-slice (i * w) (i * w + w) t kept-inside.1) ∙ ap length s in
        next-by b (copy_within (i * w) (i * w + w) (j * w) t) t' j' (λ m. take (j * w) t ++ (s m ++ drop (j * w + d m) t))

    pub kept-written : (b : Bool) (r t' : List ℕ) (j' : ℕ) → length r ≡ w → r ≡ next → b ≡ p next → j' ≡ cond b (j + 1) j → t' ≡ cond b (overwritten w n j r t) t → Kept p w n gs t₀ t' (i + 1) j'
    kept-written b r t' j' l e =
        next-by b (overwritten w n j r t) t' j'
        (sym (pasted w n j r t k.width (omega (arith, k.words, kept-long)) (omega (arith, behind.0)) l) ∙ ap (λ (x : List ℕ). paste (j * w) x t) e)

-- ---- one word written

pub records-set : (w n i k v : ℕ) (xs : List ℕ) → i < n → k < w → records w n (set xs (i * w + k) v) ≡ set (records w n xs) i (set (get_or (records w n xs) i []) k v)
unfolding records
records-set w zero i k v xs hi hk = absurd (not-suc-le-zero hi)
records-set w (suc n) zero k v xs hi hk =
    let z : 0 * w + k ≡ k = omega arith in
    ap (λ (m : ℕ). records w (suc n) (set xs m v)) z
    ∙ (λ q. take-set-lt w xs k v hk q ∷ records w n (drop-set-lt w xs k v hk q))
records-set w (suc n) (suc i) k v xs hi hk =
    let z : suc i * w + k ≡ w + (i * w + k) = omega (arith, suc-mul i w) in
    let l : w ≤ w + (i * w + k) = omega arith in
    ap (λ (m : ℕ). records w (suc n) (set xs m v)) z
    ∙ (λ q. take-set-le w xs (w + (i * w + k)) v l q ∷ records w n (drop-set-add w xs (i * w + k) v q))
    ∙ ap (λ (rs : List (List ℕ)). take w xs ∷ rs) (records-set w n i k v (drop w xs) (le_of_suc-le-suc hi) hk)
