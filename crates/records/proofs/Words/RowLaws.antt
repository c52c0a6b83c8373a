-- The records of a table by the words at their places, and a scan of them record by record.
use Prim.Native.Nat.{ℕ, suc, ◌+◌, ◌*◌, ◌≤◌, ◌<◌}
use mathlib.Core.Path.{◌≡◌, sym, ap, ◌∙◌}
use mathlib.Core.Bool.{Bool, true, false, ◌&&◌}
use mathlib.Core.List.{List, [], ◌∷◌}
use native.Mathlib.Nat.{add-zero}
use native.Mathlib.Numerals.{add-one}
use native.Mathlib.Omega.{arith}
use lib.ListN.{length, take, drop, get_or}
use lib.Seq.{get_or-take, get_or-drop}
use Rattle.records.specs.declared.Found.{Found}
use Rattle.records.specs.declared.Found.TheVariants.{Unfit}
use Rattle.records.specs.Records.{records, keyed, find, find_in}
use Rattle.records.proofs.Words.RecordLaws.{length-records, record-at, fits_intro}
use Rattle.records.proofs.Order.OrderLaws.{key_at, keyed-is}
use Rattle.records.proofs.Order.SearchLaws.{find-fit}
use Rattle.records.proofs.Order.PlaceLaws.{find_cases}
use Rattle.records.proofs.Tables.TableLaws.{wide-records}
use Rattle.questions.specs.Lists.{all}
use Rattle.records.specs.Typed.{first_word}
use Rattle.questions.proofs.ListLaws.{all_here, all_end}
use Rattle.records.proofs.Order.RangeLaws.{first-shape}

-- word j of record i
pub word-at : (w n : ℕ) (xs : List ℕ) (i j : ℕ) → i < n → j < w → get_or (get_or (records w n xs) i []) j 0 ≡ get_or xs (i * w + j) 0
word-at w n xs i j h k = ap (λ (r : List ℕ). get_or r j 0) (record-at w n xs i h) ∙ get_or-take w (drop (i * w) xs) j 0 k ∙ get_or-drop (i * w) xs j 0

pub first-at : (w n : ℕ) (xs : List ℕ) (i : ℕ) → i < n → 1 ≤ w → first_word (get_or (records w n xs) i []) ≡ get_or xs (i * w) 0
first-at w n xs i h k = word-at w n xs i 0 h k ∙ ap (λ (m : ℕ). get_or xs m 0) (add-zero (i * w))

-- the key of record i is its first word
pub key-at : (w n : ℕ) (xs : List ℕ) (i : ℕ) → i < n → 1 ≤ w → n * w ≤ length xs → key_at 1 (records w n xs) i ≡ get_or xs (i * w) 0 ∷ []
key-at w n xs i h k fit =
    first-shape w (records w n xs) k (wide-records w n xs fit) i (omega (arith, length-records w n xs))
    ∙ ap (λ (a : ℕ). a ∷ []) (first-at w n xs i h k)

-- ---- a scan: what is left of it decides
module _ (test : List ℕ → Bool) (w n : ℕ) (xs : List ℕ) (i : ℕ) (left : all test (records w n xs) ≡ all test (drop i (records w n xs))) where
  pub scan-fails : i < n → test (get_or (records w n xs) i []) ≡ false → false ≡ all test (records w n xs)
  scan-fails h e = sym
      (left ∙ all_here test [] (records w n xs) i (omega (arith, h, length-records w n xs))
      ∙ ap (λ (b : Bool). b && all test (drop (suc i) (records w n xs))) e)

  pub scan-goes : i < n → test (get_or (records w n xs) i []) ≡ true → all test (records w n xs) ≡ all test (drop (i + 1) (records w n xs))
  scan-goes h e =
      left ∙ all_here test [] (records w n xs) i (omega (arith, h, length-records w n xs))
      ∙ ap (λ (b : Bool). b && all test (drop (suc i) (records w n xs))) e
      ∙ ap (λ (m : ℕ). all test (drop m (records w n xs))) (sym (add-one i))

  pub scan-ends : n ≤ i → true ≡ all test (records w n xs)
  scan-ends h = sym (left ∙ all_end test [] (records w n xs) i (omega (arith, h, length-records w n xs)))

-- ---- searches of records that fit
pub keyed-fit : (len w d n : ℕ) → 1 ≤ d → d ≤ 2 → d ≤ w → n * w ≤ len → keyed len w d n ≡ true
keyed-fit len w d n a b c h = sym (keyed-is len w d n (λ e. omega (arith, e)) b c) ∙ fits_intro len w n (omega arith) h

find-not-unfit : (d : ℕ) (k : List ℕ) (rs : List (List ℕ)) → find d k rs ≡ Unfit → ⊥
find-not-unfit d k rs e = find_cases d k rs
    (λ i f. let z : ◌≡◌ {A = ℕ} 0 1 = cc in omega arith)
    (λ i f. let z : ◌≡◌ {A = ℕ} 0 1 = cc in omega arith)

module _ (w d n a b : ℕ) (xs : List ℕ) (some_words : 1 ≤ d) (two_words : d ≤ 2) (in_record : d ≤ w) (fit : n * w ≤ length xs) where
  pub find-says : (r : Found) → r ≡ find_in w d n a b xs → find d (take d (a ∷ b ∷ [])) (records w n xs) ≡ r
  find-says r e = sym (e ∙ find-fit w d n a b xs (keyed-fit (length xs) w d n some_words two_words in_record fit))

  pub never-unfit : (r : Found) → r ≡ find_in w d n a b xs → r ≡ Unfit → ⊥
  never-unfit r e f = find-not-unfit d (take d (a ∷ b ∷ [])) (records w n xs) (find-says r e ∙ f)
