-- Reading bytes: the turns of the loops that read.
use Prim.Native.Nat.{ℕ, zero, suc, ◌+◌, ◌-◌, ◌*◌, ◌≤◌, ◌<◌}
use mathlib.Core.Path.{◌≡◌, refl, sym, ap, ◌∙◌}
use mathlib.Core.Bool.{Bool, true, false, cond, ◌&&◌}
use mathlib.Core.List.{List, [], ◌∷◌, ◌++◌, map, map-append}
use native.Mathlib.Nat.{zero-mul, suc-mul}
use native.Mathlib.Numerals.{add-one}
use native.Mathlib.Omega.{arith}
use lib.ListN.{length, take, drop, get_or, set, length-map, length-drop}
use lib.Seq.{drop-cons, drop-drop, drop_at, take-add, length-take-le, set_at, append_snoc}
use borrow.Rule.Slice.PartMut.{put_mid}
use borrow.Author.Tests.{leb-true, le-leb, lt-leb, eqb-true, eq-eqb, ne_eqb}
use lib.Dec.{leb, eqb}
use Rattle.records.specs.Words.{paste}
use Rattle.records.specs.Records.{records, flat, same}
use Rattle.records.proofs.Tables.TableLaws.{length-flat}
use Rattle.questions.proofs.Tests.{split, both, and_first, and-skip}
use Rattle.records.proofs.Words.RecordLaws.{length-records}
use Rattle.records.proofs.Tables.TypedLaws.{wide-map}
use Rattle.records.proofs.Changes.RunLaws.{records-take}
use Rattle.image.specs.Reader.{number, word_count, record_size, begins, first_words, rows_first, after_rows}
use Rattle.image.specs.Steps.{rows_at}
use Rattle.image.proofs.Saving.PutLaws.{records-more}

-- ---- words, one after the other: j of them stand in front of those that were there

module _ (bs : List ℕ) (j : ℕ) where
  numbers_more : map number (records 8 (j + 1) bs) ≡ map number (records 8 j bs) ++ (number (take 8 (drop (j * 8) bs)) ∷ [])
  numbers_more = ap (map number) (records-more 8 j bs) ∙ map-append number (records 8 j bs) (take 8 (drop (j * 8) bs) ∷ [])

  length-numbers : length (map number (records 8 j bs)) ≡ j
  length-numbers = length-map (records 8 j bs) number ∙ length-records 8 j bs

  pub word-stored : (xs : List ℕ) → j < length xs
      → set (map number (records 8 j bs) ++ drop j xs) j (number (take 8 (drop (j * 8) bs))) ≡ map number (records 8 (j + 1) bs) ++ drop (j + 1) xs
  word-stored xs h =
      let p : List ℕ = map number (records 8 j bs) in
      let v : ℕ = number (take 8 (drop (j * 8) bs)) in
      ap (λ (l : List ℕ). set (p ++ l) j v) (drop-cons xs j 0 h)
      ∙ set_at p (get_or xs j 0) (drop (suc j) xs) v j length-numbers
      ∙ sym (append_snoc p v (drop (suc j) xs))
      ∙ (λ i. sym numbers_more i ++ drop (sym (add-one j) i) xs)

-- ---- whether a record stands at a place

-- b && true
and-true : (b : Bool) → (b && true) ≡ b
and-true true = refl
and-true false = refl

pub begins-size : (kind : ℕ) (bs : List ℕ) → begins kind bs ≡ true → record_size kind ≤ length bs
unfolding begins
begins-size kind bs e = leb-true (record_size kind) (length bs) (both (leb (record_size kind) (length bs)) _ e).0

module _ (kind at : ℕ) (xs : List ℕ) where
  pub begins-short : length xs < at + record_size kind → begins kind (drop at xs) ≡ false
  unfolding begins
  begins-short h = and_first (leb (record_size kind) (length (drop at xs))) _ (lt-leb (record_size kind) (length (drop at xs)) (omega (arith, length-drop at xs)))

  -- where there are bytes enough, by its three first bytes
  begins-long : at + record_size kind ≤ length xs → begins kind (drop at xs) ≡ (eqb (get_or xs at 0) 0x52 && (eqb (get_or xs (at + 1) 0) 0x47 && eqb (get_or xs (at + 2) 0) kind))
  unfolding begins same
  begins-long h =
      let second : suc at ≡ at + 1 = omega arith in
      let third : suc (at + 1) ≡ at + 2 = omega arith in
      let front : take 3 (drop at xs) ≡ get_or xs at 0 ∷ get_or xs (at + 1) 0 ∷ get_or xs (at + 2) 0 ∷ [] =
      ap (take 3) (drop-cons xs at 0 (omega arith))
      ∙ ap (λ (k : ℕ). get_or xs at 0 ∷ take 2 (drop k xs)) second
      ∙ ap (λ (l : List ℕ). get_or xs at 0 ∷ take 2 l) (drop-cons xs (at + 1) 0 (omega arith))
      ∙ ap (λ (k : ℕ). get_or xs at 0 ∷ get_or xs (at + 1) 0 ∷ take 1 (drop k xs)) third
      ∙ ap (λ (l : List ℕ). get_or xs at 0 ∷ get_or xs (at + 1) 0 ∷ take 1 l) (drop-cons xs (at + 2) 0 (omega arith)) in
      and-skip (leb (record_size kind) (length (drop at xs))) _ (le-leb (record_size kind) (length (drop at xs)) (omega (arith, length-drop at xs)))
      ∙ ap (λ (l : List ℕ). same l (0x52 ∷ 0x47 ∷ kind ∷ [])) front
      ∙ ap (λ (b : Bool). eqb (get_or xs at 0) 0x52 && (eqb (get_or xs (at + 1) 0) 0x47 && b)) (and-true (eqb (get_or xs (at + 2) 0) kind))

  pub begins-first : at + record_size kind ≤ length xs → (get_or xs at 0 ≡ 0x52 → ⊥) → begins kind (drop at xs) ≡ false
  begins-first h d = begins-long h ∙ rw (ne_eqb (get_or xs at 0) 0x52 d)

  pub begins-second : at + record_size kind ≤ length xs → get_or xs at 0 ≡ 0x52 → (get_or xs (at + 1) 0 ≡ 0x47 → ⊥) → begins kind (drop at xs) ≡ false
  begins-second h e d = begins-long h ∙ rw (eq-eqb (get_or xs at 0) 0x52 e, ne_eqb (get_or xs (at + 1) 0) 0x47 d)

  pub begins-third : at + record_size kind ≤ length xs → get_or xs at 0 ≡ 0x52 → get_or xs (at + 1) 0 ≡ 0x47 → begins kind (drop at xs) ≡ eqb (get_or xs (at + 2) 0) kind
  begins-third h e f = begins-long h ∙ rw (eq-eqb (get_or xs at 0) 0x52 e, eq-eqb (get_or xs (at + 1) 0) 0x47 f)

  pub begins-room : begins kind (drop at xs) ≡ true → at + record_size kind ≤ length xs
  begins-room e = omega (arith, begins-size kind (drop at xs) e, length-drop at xs)

  -- its kind is the third byte
  pub begins-kind : begins kind (drop at xs) ≡ true → get_or xs (at + 2) 0 ≡ kind
  begins-kind e =
      let t = sym (begins-long (begins-room e)) ∙ e in
      eqb-true _ kind (both (eqb (get_or xs (at + 1) 0) 0x47) _ (both (eqb (get_or xs at 0) 0x52) _ t).1).1

  -- a record more, or none
  pub row-counted : (m k : ℕ) → m ≡ suc k → begins kind (drop at xs) ≡ true → length (rows_first m kind (drop at xs)) ≡ suc (length (rows_first k kind (drop (at + record_size kind) xs)))
  unfolding rows_first
  row-counted m k e b =
      ap (λ (n : ℕ). length (rows_first n kind (drop at xs))) e
      ∙ ap (λ (c : Bool). length (cond c (first_words kind (drop at xs) ∷ rows_first k kind (drop (record_size kind) (drop at xs))) [])) b
      ∙ ap (λ (l : List ℕ). suc (length (rows_first k kind l))) (drop-drop (record_size kind) at xs)

pub none-counted : (kind m : ℕ) (bs : List ℕ) → begins kind bs ≡ false → length (rows_first m kind bs) ≡ 0
unfolding rows_first
none-counted kind zero bs e = refl
none-counted kind (suc m) bs e = ap (λ (c : Bool). length (cond c (first_words kind bs ∷ rows_first m kind (drop (record_size kind) bs)) [])) e

-- ---- the records of a kind, stored one after the other

-- a part that was lent came back with other words
pub part-pasted : (a e : ℕ) (xs ys : List ℕ) → a ≤ e → length ys ≡ e - a → put_mid a (e - a) xs ys ≡ paste a ys xs
unfolding paste
part-pasted a e xs ys h l =
    let k : a + (e - a) ≡ a + length ys = omega arith in
    ap (λ (zs : List ℕ). take a xs ++ (ys ++ zs)) (drop-drop (e - a) a xs ∙ ap (λ (n : ℕ). drop n xs) k)

pub length-first-words : (kind : ℕ) (bs : List ℕ) → length (first_words kind bs) ≡ word_count kind
unfolding first_words
length-first-words kind bs = length-map (records 8 (word_count kind) (drop 3 bs)) number ∙ length-records 8 (word_count kind) (drop 3 bs)

-- a record's words are within its bytes
first-words-within : (kind : ℕ) (bs : List ℕ) → record_size kind ≤ length bs → first_words kind bs ≡ first_words kind (take (record_size kind) bs)
unfolding first_words
first-words-within kind bs h =
    let g : ℕ = word_count kind in
    let m : 8 * g ≡ g * 8 = omega arith in
    let part : drop 3 (take (3 + 8 * g) bs) ≡ take (g * 8) (drop 3 bs) =
    ap (drop 3) (take-add 3 (8 * g) bs) ∙ drop_at (take 3 bs) (take (8 * g) (drop 3 bs)) 3 (length-take-le 3 bs (omega arith)) ∙ ap (λ (n : ℕ). take n (drop 3 bs)) m in
    sym (ap (λ (l : List ℕ). map number (records 8 g l)) part ∙ ap (map number) (records-take 8 g (drop 3 bs)))

-- the words of row i, for a count that was answered
pub row_words :
    (kind at i w n : ℕ) (xs : List ℕ)
    → w ≡ word_count kind
    → n ≡ w
    → at + i * (3 + 8 * w) + (3 + 8 * w) ≤ length xs
    → map number (records 8 n (drop (at + i * (3 + 8 * w) + 3) xs)) ≡ first_words kind (take (record_size kind) (drop (i * record_size kind) (drop at xs)))
unfolding first_words
row_words kind at i w n xs e f h =
    let s : ℕ = record_size kind in
    let z : i * (3 + 8 * w) ≡ i * s = ap (λ (k : ℕ). i * (3 + 8 * k)) e in
    let there : drop (at + i * s + 3) xs ≡ drop 3 (drop (i * s) (drop at xs)) = sym (ap (drop 3) (drop-drop (i * s) at xs) ∙ drop-drop 3 (at + i * s) xs) in
    (λ j. map number (records 8 ((f ∙ e) j) (drop (at + z j + 3) xs)))
    ∙ ap (λ (l : List ℕ). map number (records 8 (word_count kind) l)) there
    ∙ first-words-within kind (drop (i * s) (drop at xs)) (omega (arith, e, z, length-drop (i * s) (drop at xs), length-drop at xs))

-- the words of the first i rows
pub length-read : (kind i : ℕ) (bs : List ℕ) → length (flat (map (first_words kind) (records (record_size kind) i bs))) ≡ i * word_count kind
length-read kind i bs =
    let rs = records (record_size kind) i bs in
    length-flat (word_count kind) (map (first_words kind) rs) (wide-map (first_words kind) (word_count kind) (length-first-words kind) rs)
    ∙ ap (λ (k : ℕ). k * word_count kind) (length-map rs (first_words kind) ∙ length-records (record_size kind) i bs)

-- ---- the records that were counted are those that are read, and what follows them stands where they end

pub rows-counted : (m kind : ℕ) (bs : List ℕ) → rows_first m kind bs ≡ rows_at kind (length (rows_first m kind bs)) bs
unfolding rows_first rows_at records
rows-counted zero kind bs = refl
rows-counted (suc m) kind bs = split (begins kind bs)
    (λ e.
    rw e
    (λ i. first-words-within kind bs (begins-size kind bs e) i ∷ rows-counted m kind (drop (record_size kind) bs) i))
    (λ e. rw e)

pub after-counted : (m kind : ℕ) (bs : List ℕ) → after_rows m kind bs ≡ drop (length (rows_first m kind bs) * record_size kind) bs
unfolding rows_first after_rows
after-counted zero kind bs = ap (λ (k : ℕ). drop k bs) (sym (zero-mul (record_size kind)))
after-counted (suc m) kind bs = split (begins kind bs)
    (λ e.
    let n : ℕ = length (rows_first m kind (drop (record_size kind) bs)) in
    let k : record_size kind + n * record_size kind ≡ suc n * record_size kind = omega (arith, suc-mul n (record_size kind)) in
    rw e (after-counted m kind (drop (record_size kind) bs) ∙ drop-drop (n * record_size kind) (record_size kind) bs ∙ ap (λ (j : ℕ). drop j bs) k))
    (λ e. rw e (ap (λ (k : ℕ). drop k bs) (sym (zero-mul (record_size kind)))))
