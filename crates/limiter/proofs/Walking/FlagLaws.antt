-- Laws: records kept by their flags, written to the front of their table one after the other.
use mathlib.Core.Path.{◌≡◌, refl, sym, ap, ◌∙◌}
use mathlib.Core.Bool.{Bool, true, false, cond}
use mathlib.Core.List.{List, [], ◌∷◌, ◌++◌, append-nil, map}
use Prim.Native.Nat.{ℕ, zero, suc, ◌+◌, ◌-◌, ◌*◌, ◌≤◌, ◌<◌}
use native.Mathlib.Nat.{le_of_suc-le-suc, not-suc-le-zero, mul-le-mul_right}
use native.Mathlib.Numerals.{add-one}
use native.Mathlib.Omega.{arith}
use lib.ListN.{length, take, drop, get_or, length-append, length-take}
use lib.Seq.{slice, length-slice}
use Rattle.records.specs.Words.{copy_within, copied, paste}
use Rattle.records.specs.Records.{records, flat, table}
use Rattle.records.proofs.Words.WordLaws.{copied_is}
use Rattle.records.proofs.Words.RecordLaws.{row, record-at, length-records}
use Rattle.records.proofs.Changes.SpliceLaws.{slice_is}
use Rattle.records.proofs.Tables.TableLaws.{Wide, wide-records, length-flat, length-table}
use Rattle.questions.specs.Lists.{only}
use Rattle.records.specs.Typed.{Tabled}
use Rattle.records.proofs.Changes.KeepLaws.{drop_past, paste_more}
use Rattle.limiter.specs.Steps.TickSteps.{flagged}

-- ---- the elements whose flag is set

-- one flag more
pub flagged-more : {A : Type 0} (d : Bool) (e : A) (bs : List Bool) (xs : List A) (i : ℕ) → i < length bs → i < length xs → flagged (take (suc i) bs) xs ≡ flagged (take i bs) xs ++ cond (get_or bs i d) (get_or xs i e ∷ []) []
unfolding flagged
flagged-more d e [] xs i h k = absurd (not-suc-le-zero h)
flagged-more d e (b ∷ bs) [] i h k = absurd (not-suc-le-zero k)
flagged-more d e (b ∷ bs) (x ∷ xs) zero h k = refl
flagged-more d e (true ∷ bs) (x ∷ xs) (suc i) h k = ap (λ zs. x ∷ zs) (flagged-more d e bs xs i (le_of_suc-le-suc h) (le_of_suc-le-suc k))
flagged-more d e (false ∷ bs) (x ∷ xs) (suc i) h k = flagged-more d e bs xs i (le_of_suc-le-suc h) (le_of_suc-le-suc k)

-- flags past the elements do not count
pub flagged-all : {A : Type 0} (bs : List Bool) (xs : List A) (i : ℕ) → length xs ≤ i → flagged (take i bs) xs ≡ flagged bs xs
unfolding flagged
flagged-all [] xs zero h = refl
flagged-all [] xs (suc i) h = refl
flagged-all (b ∷ bs) [] zero h = refl
flagged-all (b ∷ bs) [] (suc i) h = refl
flagged-all (b ∷ bs) (x ∷ xs) zero h = absurd (not-suc-le-zero h)
flagged-all (b ∷ bs) (x ∷ xs) (suc i) h = ap (λ zs. cond b (x ∷ zs) zs) (flagged-all bs xs i (le_of_suc-le-suc h))

-- no more than the flags, nor than the elements
pub flagged-few : {A : Type 0} (bs : List Bool) (xs : List A) → (length (flagged bs xs) ≤ length bs) × (length (flagged bs xs) ≤ length xs)
unfolding flagged
flagged-few [] xs = (omega arith, omega arith)
flagged-few (b ∷ bs) [] = (omega arith, omega arith)
flagged-few (true ∷ bs) (x ∷ xs) = let r = flagged-few bs xs in (omega arith, omega arith)
flagged-few (false ∷ bs) (x ∷ xs) = let r = flagged-few bs xs in (omega arith, omega arith)

wide-flagged : (w : ℕ) (bs : List Bool) (rs : List (List ℕ)) → Wide w rs → Wide w (flagged bs rs)
unfolding flagged
wide-flagged w [] rs p = tt
wide-flagged w (b ∷ bs) [] p = tt
wide-flagged w (true ∷ bs) (r ∷ rs) p = (p.0, wide-flagged w bs rs p.1)
wide-flagged w (false ∷ bs) (r ∷ rs) p = wide-flagged w bs rs p.1

-- flags that a test sets keep those that pass
pub flagged-only : {A : Type 0} (p : A → Bool) (xs : List A) → flagged (map p xs) xs ≡ only p xs
unfolding flagged only
flagged-only p [] = refl
flagged-only p (x ∷ xs) = ap (λ zs. cond (p x) (x ∷ zs) zs) (flagged-only p xs)

-- ---- the walk

-- of the first i of n records in t₀ the j whose flag is set were written over the front of t₀, which is now t
pub record Flagging (w n : ℕ) (bs : List Bool) (t₀ t : List ℕ) (i j : ℕ) : Type 0 where
  pub width : 0 < w
  pub words : n * w ≤ length t₀
  pub flags : n ≤ length bs
  pub count : j ≡ length (flagged (take i bs) (records w n t₀))
  pub front : t ≡ table (flagged (take i bs) (records w n t₀)) t₀

pub flag-none : (w n : ℕ) (bs : List Bool) (t : List ℕ) → 0 < w → n * w ≤ length t → n ≤ length bs → Flagging w n bs t t 0 0
unfolding flagged table flat
flag-none w n bs t h k b = record { width = h; words = k; flags = b; count = refl; front = refl }

module _ (w n : ℕ) (bs : List Bool) (t₀ t : List ℕ) (i j : ℕ) (k : Flagging w n bs t₀ t i j) where
  abbrev rows : List (List ℕ)
  rows = records w n t₀

  abbrev kept : List (List ℕ)
  kept = flagged (take i bs) rows

  wide-kept : Wide w kept
  wide-kept = wide-flagged w (take i bs) rows (wide-records w n t₀ k.words)

  behind : (j ≤ i) × (j ≤ n)
  behind =
      let f = flagged-few (take i bs) rows in
      (omega (arith, k.count, f, length-take i bs), omega (arith, k.count, f, length-records w n t₀))

  flat-kept : length (flat kept) ≡ j * w
  flat-kept = length-flat w kept wide-kept ∙ ap (λ (m : ℕ). m * w) (sym k.count)

  pub flag-long : length t ≡ length t₀
  flag-long = ap length k.front ∙ length-table kept t₀ (omega (arith, flat-kept, mul-le-mul_right w behind.1, k.words))

  pub flag-all : n ≤ i → Tabled j (flagged bs rows) t₀ t
  flag-all h =
      let e : kept ≡ flagged bs rows = flagged-all bs rows i (omega (arith, length-records w n t₀)) in
      record { count = k.count ∙ ap length e; words = k.front ∙ ap (λ (rs : List (List ℕ)). table rs t₀) e }

  module _ (h : i < n) where
    -- record i stands within the words, behind those kept
    pub flag-inside : (j ≤ i) × (j * w ≤ i * w) × (i * w + w ≤ length t)
    flag-inside = (behind.0, mul-le-mul_right w behind.0, omega (arith, row w n i h, k.words, flag-long))

    abbrev next : List ℕ
    next = get_or rows i []

    -- it is as it was
    here : take w (drop (i * w) t) ≡ next
    here =
        ap (λ (xs : List ℕ). take w (drop (i * w) xs)) k.front
        ∙ ap (take w) (drop_past kept t₀ (i * w) (omega (arith, flat-kept, mul-le-mul_right w behind.0)))
        ∙ sym (record-at w n t₀ i h)

    one_more : (b : Bool) → get_or bs i false ≡ b → flagged (take (i + 1) bs) rows ≡ kept ++ cond b (next ∷ []) []
    one_more b e =
        ap (λ (m : ℕ). flagged (take m bs) rows) (add-one i)
        ∙ flagged-more false [] bs rows i (omega (arith, k.flags)) (omega (arith, length-records w n t₀))
        ∙ ap (λ (c : Bool). kept ++ cond c (next ∷ []) []) e

    made : (rs : List (List ℕ)) (t' : List ℕ) (j' : ℕ) → flagged (take (i + 1) bs) rows ≡ rs → j' ≡ length rs → t' ≡ table rs t₀ → Flagging w n bs t₀ t' (i + 1) j'
    made rs t' j' e q r = record {
      width = k.width;
      words = k.words;
      flags = k.flags;
      count = q ∙ ap length (sym e);
      front = r ∙ ap (λ (l : List (List ℕ)). table l t₀) (sym e);
    }

    -- a record whose flag is not set stays behind
    pub flag-skip : {t' : List ℕ} {j' : ℕ} → get_or bs i false ≡ false → t' ≡ t → j' ≡ j → Flagging w n bs t₀ t' (i + 1) j'
    flag-skip e r q = made kept _ _ (one_more false e ∙ append-nil kept) (q ∙ k.count) (r ∙ k.front)

    -- one whose flag is set is copied behind those kept
    pub flag-copy : {t' : List ℕ} {j' : ℕ} → get_or bs i false ≡ true → t' ≡ copied (i * w) (i * w + w) (j * w) t → j' ≡ j + 1 → Flagging w n bs t₀ t' (i + 1) j'
    unfolding copy_within paste
    flag-copy {t'} e r q =
        let s : slice (i * w) (i * w + w) t ≡ next = sym (slice_is (i * w) w t flag-inside.2) ∙ here in
        let d : i * w + w - i * w ≡ length next = sym (length-slice (i * w) (i * w + w) t flag-inside.2) ∙ ap length s in
        let c : t' ≡ paste (j * w) next t =
        r
        ∙ copied_is (i * w) (i * w + w) (j * w) t (omega (arith, flag-inside))
        ∙ (λ m. take (j * w) t ++ (s m ++ drop (j * w + d m) t)) in
        made (kept ++ (next ∷ [])) _ _ (one_more true e)
        (omega (arith, q, k.count, length-append kept (next ∷ [])))
        (c ∙ (λ m. paste (k.count m * w) next (k.front m)) ∙ paste_more w kept next t₀ wide-kept)

-- records kept by the flags of a test
pub kept_by : (w n : ℕ) (p : List ℕ → Bool) (flags : List Bool) (m : ℕ) (xs ys : List ℕ) → take n flags ≡ map p (records w n xs) → Tabled m (flagged flags (records w n xs)) xs ys → Tabled m (only p (records w n xs)) xs ys
kept_by w n p flags m xs ys e t =
    let rs : List (List ℕ) = records w n xs in
    let q : flagged flags rs ≡ only p rs =
    sym (flagged-all flags rs n (omega (arith, length-records w n xs))) ∙ ap (λ (bs : List Bool). flagged bs rs) e ∙ flagged-only p rs in
    record { count = t.count ∙ ap length q; words = t.words ∙ ap (λ (zs : List (List ℕ)). table zs xs) q }
