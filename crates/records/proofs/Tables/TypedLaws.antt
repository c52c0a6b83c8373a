-- Values and their words in a table: exact records, what is read of those that were written, and what is left past them.
use Prim.Native.Nat.{ℕ, ◌*◌, ◌^◌, ◌≤◌, zero, suc, ◌<◌}
use mathlib.Core.Path.{◌≡◌, refl, sym, ap, ◌∙◌}
use mathlib.Core.Bool.{Bool, true, ◌&&◌}
use mathlib.Core.List.{List, [], ◌∷◌, ◌++◌, map}
use native.Mathlib.Omega.{arith}
use borrow.Author.Tests.{lt-ltb}
use lib.ListN.{length, drop, length-map, get_or}
use Rattle.records.specs.Records.{records, flat, table, same}
use Rattle.records.proofs.Order.OrderLaws.{eq-same, same-eq}
use Rattle.records.proofs.Changes.KeepLaws.{drop_past}
use Rattle.records.proofs.Tables.TableLaws.{records-table, length-flat, drop-table, length-table, Wide}
use Rattle.questions.proofs.Tests.{both, and_intro}
use Rattle.questions.specs.Lists.{all}
use Rattle.records.specs.Typed.{is_word, exact}
use Rattle.records.proofs.Words.RecordLaws.{record-at}
use Rattle.questions.proofs.ListLaws.{all_take, all_drop}
use native.Mathlib.Nat.{not-suc-le-zero, le_of_suc-le-suc}

-- ---- words have 64 bits
pub all_words : (xs : List ℕ) → ((i : ℕ) → get_or xs i 0 < 2 ^ 64) → all is_word xs ≡ true
unfolding all
all_words [] h = refl
all_words (x ∷ xs) h = (λ k. lt-ltb x (2 ^ 64) (h 0) k && all_words xs (λ i. h (suc i)) k)

-- those of record i
pub record-words : (w n : ℕ) (xs : List ℕ) (i : ℕ) → i < n → all is_word xs ≡ true → all is_word (get_or (records w n xs) i []) ≡ true
record-words w n xs i h e = ap (all is_word) (record-at w n xs i h) ∙ all_take is_word w (drop (i * w) xs) (all_drop is_word (i * w) xs e)

-- those that are a record's
pub exact-words : (words r : List ℕ) → all is_word r ≡ true → same words r ≡ true → all is_word words ≡ true
exact-words words r h e = ap (all is_word) (same-eq words r e) ∙ h

-- ---- exact records

-- one of them is the words of what it stands for; and so are all
pub exact-record : {A : Type 0} (words : A → List ℕ) (of : List ℕ → A) (rs : List (List ℕ)) → exact words of rs ≡ true → (i : ℕ) → i < length rs → words (of (get_or rs i [])) ≡ get_or rs i []
unfolding all
exact-record words of [] e i h = absurd (not-suc-le-zero h)
exact-record words of (r ∷ rs) e zero h = same-eq (words (of r)) r (both (same (words (of r)) r) (exact words of rs) e).0
exact-record words of (r ∷ rs) e (suc i) h = exact-record words of rs (both (same (words (of r)) r) (exact words of rs) e).1 i (le_of_suc-le-suc h)

pub words-of-exact :
    {A : Type 0} (words : A → List ℕ) (of : List ℕ → A) (rs : List (List ℕ))
    → exact words of rs ≡ true
    → map words (map of rs) ≡ rs
unfolding all
words-of-exact words of [] h = refl
words-of-exact words of (r ∷ rs) h =
    ap (λ (x : List ℕ). x ∷ map words (map of rs)) (same-eq (words (of r)) r (both (same (words (of r)) r) (exact words of rs) h).0)
    ∙ ap (λ (xs : List (List ℕ)). r ∷ xs) (words-of-exact words of rs (both (same (words (of r)) r) (exact words of rs) h).1)

-- ---- values that were written

-- the words of a value are as many as its record takes
pub wide-map : {A : Type 0} (words : A → List ℕ) (w : ℕ) → ((x : A) → length (words x) ≡ w) → (xs : List A) → Wide w (map words xs)
wide-map words w h [] = tt
wide-map words w h (x ∷ xs) = (h x, wide-map words w h xs)

module _ {A : Type 0} (words : A → List ℕ) (of : List ℕ → A) (good : A → Bool) (h : (x : A) → good x ≡ true → of (words x) ≡ x) where
  -- records come back from their words
  pub all_back : (xs : List A) → all good xs ≡ true → map of (map words xs) ≡ xs
  unfolding all
  all_back [] a = refl
  all_back (x ∷ xs) a = let b = both (good x) (all good xs) a in (λ i. h x b.0 i ∷ all_back xs b.1 i)

  -- their words are those of what they stand for
  pub all-exact : (xs : List A) → all good xs ≡ true → exact words of (map words xs) ≡ true
  unfolding all
  all-exact [] a = refl
  all-exact (x ∷ xs) a =
      let b = both (good x) (all good xs) a in
      and_intro (same (words (of (words x))) (words x)) _ (eq-same (words (of (words x))) (words x) (ap words (h x b.0))) (all-exact xs b.1)

module _ {A : Type 0} (words : A → List ℕ) (w : ℕ) (long : (x : A) → length (words x) ≡ w) (vs : List A) (xs : List ℕ) where
  -- the records of a table that was written
  pub records-written : records w (length vs) (table (map words vs) xs) ≡ map words vs
  records-written = records-table w (length vs) (map words vs) xs (wide-map words w long vs) (length-map vs words)

  -- to write them again changes nothing
  pub written-again : table (map words vs) xs ≡ table (map words vs) (table (map words vs) xs)
  unfolding table
  written-again = ap (λ (ys : List ℕ). flat (map words vs) ++ ys) (sym (drop-table (map words vs) xs))

  -- past the records the words are as they were
  pub past-written : (n : ℕ) → length vs * w ≤ n → drop n (table (map words vs) xs) ≡ drop n xs
  past-written n h =
      drop_past (map words vs) xs n (omega (arith, length-flat w (map words vs) (wide-map words w long vs), ap (λ (m : ℕ). m * w) (length-map vs words)))

  -- a table stays as long
  pub length-written : length vs * w ≤ length xs → length (table (map words vs) xs) ≡ length xs
  length-written h = length-table (map words vs) xs (omega (arith, length-flat w (map words vs) (wide-map words w long vs), ap (λ (m : ℕ). m * w) (length-map vs words)))
