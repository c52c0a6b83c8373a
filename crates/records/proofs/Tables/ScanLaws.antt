-- One pass over a table, which asks of each record whether it passes a test and whether its first word is above that of the record before it;
-- and tests of words that are tests of the values that the words stand for.
use Prim.Native.Nat.{ℕ, zero, suc, ◌+◌, ◌-◌, ◌*◌, ◌^◌, ◌≤◌, ◌<◌, zero-le}
use mathlib.Core.Path.{◌≡◌, sym, ap, ◌∙◌}
use mathlib.Core.Bool.{Bool, true, false, ◌&&◌, and_assoc}
use mathlib.Core.List.{List, [], ◌∷◌, map}
use native.Mathlib.Nat.{mul-le-mul_right, not-suc-le-zero}
use native.Mathlib.Omega.{arith}
use borrow.Author.Count.{below_more}
use borrow.Author.Tests.{lt-ltb, le-ltb, leb-true, eq-eqb, ne_eqb}
use lib.Dec.{ltb, leb, eqb}
use lib.ListN.{length, get_or, length-map}
use Rattle.questions.specs.Lists.{all}
use Rattle.questions.proofs.Tests.{contradiction, and_intro, and_first, and_second, and-skip, and_left, and-under}
use Rattle.questions.proofs.ListLaws.{all_map, all-at, all_both, all_pass, all-fail}
use Rattle.records.specs.Records.{records, before, ascending, same}
use Rattle.records.specs.Typed.{is_word, exact, stands_for, follows, are_records}
use Rattle.records.proofs.Words.RecordLaws.{length-records, record-length}
use Rattle.records.proofs.Order.OrderLaws.{key_at, before-word, asc-intro, asc-fail}
use Rattle.records.proofs.Words.RowLaws.{key-at}
use Rattle.records.proofs.Tables.TypedLaws.{all_words, record-words, words-of-exact}

-- ---- the first record follows none, and each other one the record before it
pub first-follows : (w at : ℕ) (xs : List ℕ) → at < w → true ≡ follows w at xs
unfolding follows
first-follows w at xs h = rw (lt-ltb at w h)

pub next-follows : (w at : ℕ) (xs : List ℕ) → w ≤ at → ltb (get_or xs (at - w) 0) (get_or xs at 0) ≡ follows w at xs
unfolding follows
next-follows w at xs h = rw (le-ltb at w h)

-- ---- what is known after i records
pub record Scanned (test : List ℕ → Bool) (w n : ℕ) (xs : List ℕ) (i : ℕ) : Type 0 where
  pub within : i ≤ n
  pub follow : (k : ℕ) → k < i → follows w (k * w) xs ≡ true
  pub sound : (k : ℕ) → k < i → test (get_or (records w n xs) k []) ≡ true

module _ (test : List ℕ → Bool) (w n : ℕ) (xs : List ℕ) where
  pub scan-start : Scanned test w n xs 0
  scan-start = record {
    within = zero-le;
    follow = λ k l. absurd (not-suc-le-zero l);
    sound = λ k l. absurd (not-suc-le-zero l);
  }

  pub scan_step : (i : ℕ) → Scanned test w n xs i → i < n → follows w (i * w) xs ≡ true → test (get_or (records w n xs) i []) ≡ true → Scanned test w n xs (i + 1)
  scan_step i s l f e = record {
    within = omega arith;
    follow = below_more _ _ s.follow f;
    sound = below_more _ _ s.sound e;
  }

  module _ (some : 1 ≤ w) (fit : n * w ≤ length xs) where
    next-key : (i : ℕ) → suc i < n → before (key_at 1 (records w n xs) i) (key_at 1 (records w n xs) (suc i)) ≡ follows w (suc i * w) xs
    next-key i l =
        let e : i * w ≡ suc i * w - w = omega arith in
        (λ j. before (key-at w n xs i (omega arith) some fit j) (key-at w n xs (suc i) l some fit j))
        ∙ before-word (get_or xs (i * w) 0) (get_or xs (suc i * w) 0)
        ∙ ap (λ (m : ℕ). ltb (get_or xs m 0) (get_or xs (suc i * w) 0)) e
        ∙ next-follows w (suc i * w) xs (omega arith)

    -- past the last one
    pub scan-done : (i : ℕ) → Scanned test w n xs i → n ≤ i → true ≡ are_records test (records w n xs)
    unfolding are_records
    scan-done i s l =
        let len : length (records w n xs) ≡ n = length-records w n xs in
        sym (and_intro (all test (records w n xs)) (ascending 1 (records w n xs))
        (all_pass test [] (records w n xs) (λ j m. s.sound j (omega (arith, len))))
        (asc-intro 1 (records w n xs) (λ j m. next-key j (omega (arith, len)) ∙ s.follow (suc j) (omega (arith, len)))))

    not_first : (i : ℕ) → i < n → follows w (i * w) xs ≡ false → ascending 1 (records w n xs) ≡ false
    not_first zero l e = contradiction (first-follows w (0 * w) xs (omega arith) ∙ e)
    not_first (suc i) l e = asc-fail 1 (records w n xs) i (omega (arith, length-records w n xs)) (next-key i l ∙ e)

    -- one that is not above the one before it, and one that does not pass
    pub scan-order : (i : ℕ) → i < n → follows w (i * w) xs ≡ false → false ≡ are_records test (records w n xs)
    unfolding are_records
    scan-order i l e = sym (and_second (all test (records w n xs)) (ascending 1 (records w n xs)) (not_first i l e))

    pub scan-record : (i : ℕ) → i < n → test (get_or (records w n xs) i []) ≡ false → false ≡ are_records test (records w n xs)
    unfolding are_records
    scan-record i l e =
        sym (and_first (all test (records w n xs)) (ascending 1 (records w n xs)) (all-fail test [] (records w n xs) i (omega (arith, length-records w n xs)) e))

-- ---- records of so many words, word by word
module _ (P : List ℕ → Type 0) where
  cons-case : (n : ℕ) → ((a : ℕ) (r : List ℕ) → length r ≡ n → P (a ∷ r)) → (r : List ℕ) → length r ≡ suc n → P r
  cons-case n f [] e = absurd (omega (arith, e))
  cons-case n f (a ∷ r) e = f a r (omega (arith, e))

  nil-case : P [] → (r : List ℕ) → length r ≡ 0 → P r
  nil-case f [] e = f
  nil-case f (a ∷ r) e = absurd (omega (arith, e))

two-case : (P : List ℕ → Type 0) (n : ℕ) → ((a b : ℕ) (r : List ℕ) → length r ≡ n → P (a ∷ b ∷ r)) → (r : List ℕ) → length r ≡ suc (suc n) → P r
two-case P n f = cons-case P (suc n) (λ a. cons-case (λ r. P (a ∷ r)) n (f a))

pub four-words : (P : List ℕ → Type 0) (n : ℕ) → ((a b c d : ℕ) (r : List ℕ) → length r ≡ n → P (a ∷ b ∷ c ∷ d ∷ r)) → (r : List ℕ) → length r ≡ suc (suc (suc (suc n))) → P r
four-words P n f = two-case P (suc (suc n)) (λ a b. two-case (λ r. P (a ∷ b ∷ r)) n (f a b))

pub words-4 : (P : List ℕ → Type 0) → ((a b c d : ℕ) → P (a ∷ b ∷ c ∷ d ∷ [])) → (r : List ℕ) → length r ≡ 4 → P r
words-4 P f = four-words P 0 (λ a b c d. nil-case (λ r. P (a ∷ b ∷ c ∷ d ∷ r)) (f a b c d))

pub words-6 : (P : List ℕ → Type 0) → ((a b c d e f : ℕ) → P (a ∷ b ∷ c ∷ d ∷ e ∷ f ∷ [])) → (r : List ℕ) → length r ≡ 6 → P r
words-6 P g = four-words P 2 (λ a b c d. two-case (λ r. P (a ∷ b ∷ c ∷ d ∷ r)) 0 (λ e f. nil-case (λ r. P (a ∷ b ∷ c ∷ d ∷ e ∷ f ∷ r)) (g a b c d e f)))

pub words-12 : (P : List ℕ → Type 0) → ((a b c d e f g h i j k l : ℕ) → P (a ∷ b ∷ c ∷ d ∷ e ∷ f ∷ g ∷ h ∷ i ∷ j ∷ k ∷ l ∷ [])) → (r : List ℕ) → length r ≡ 12 → P r
words-12 P m =
    four-words P 8 (λ a b c d. four-words (λ r. P (a ∷ b ∷ c ∷ d ∷ r)) 4 (λ e f g h. words-4 (λ r. P (a ∷ b ∷ c ∷ d ∷ e ∷ f ∷ g ∷ h ∷ r)) (m a b c d e f g h)))

-- ---- a test of words that is one of values

-- a record is exact and valid where its words pass the test
abbrev pub PassIs : {A : Type 0} → (A → List ℕ) → (List ℕ → A) → (A → Bool) → (List ℕ → Bool) → List ℕ → Type 0
PassIs words of valid test r = all is_word r ≡ true → (same (words (of r)) r && valid (of r)) ≡ test r

-- one record: of another length, and of the length, where the test tells
module _ {A : Type 0} (w : ℕ) (words : A → List ℕ) (of : List ℕ → A) (valid : A → Bool) (r : List ℕ) where
  pub unlike-record : (length r ≡ w → ⊥) → false ≡ stands_for w words of valid r
  unlike-record h = sym (and_first (eqb (length r) w) _ (ne_eqb (length r) w h))

  pub scanned-record :
      (test : List ℕ → Bool) → ((s : List ℕ) → length s ≡ w → PassIs words of valid test s) → length r ≡ w → ((i : ℕ) → get_or r i 0 < 2 ^ 64)
      → (b : Bool) → b ≡ test r → b ≡ stands_for w words of valid r
  scanned-record test pass h word b e = e ∙ sym (pass r h (all_words r word)) ∙ sym (and-skip (eqb (length r) w) _ (eq-eqb (length r) w h))

module _ {A : Type 0} (words : A → List ℕ) (of : List ℕ → A) (valid : A → Bool) (test : List ℕ → Bool) where
  -- exact records, each valid, and what is asked besides
  passes_at : (rs : List (List ℕ)) (rest rest' : Bool) → ((i : ℕ) → i < length rs → (same (words (of (get_or rs i []))) (get_or rs i []) && valid (of (get_or rs i []))) ≡ test (get_or rs i [])) → (exact words of rs ≡ true → rest ≡ rest') → (exact words of rs && (all valid (map of rs) && rest)) ≡ (all test rs && rest')
  passes_at rs rest rest' h k =
      let are-same : List ℕ → Bool = λ (r : List ℕ). same (words (of r)) r in
      let is-valid : List ℕ → Bool = λ (r : List ℕ). valid (of r) in
      and-under (exact words of rs) (all valid (map of rs) && rest) (all valid (map of rs) && rest') (λ e. ap (λ (b : Bool). all valid (map of rs) && b) (k e))
      ∙ sym (and_assoc (exact words of rs) (all valid (map of rs)) rest')
      ∙ ap (λ (b : Bool). b && rest')
      (ap (λ (b : Bool). exact words of rs && b) (all_map of valid rs)
      ∙ sym (all_both are-same is-valid [] rs)
      ∙ all-at (λ (r : List ℕ). are-same r && is-valid r) test [] rs h)

  module _ (w n : ℕ) (xs : List ℕ) (word : all is_word xs ≡ true) (pass : (r : List ℕ) → length r ≡ w → PassIs words of valid test r) where
    abbrev rs : List (List ℕ)
    rs = records w n xs

    pub table-passes : (rest rest' : Bool) → n * w ≤ length xs → (exact words of rs ≡ true → rest ≡ rest') → (exact words of rs && (all valid (map of rs) && rest)) ≡ (all test rs && rest')
    table-passes rest rest' fit k =
        passes_at rs rest rest'
        (λ i h.
        let i-n : i < n = omega (arith, h, length-records w n xs) in
        pass (get_or rs i []) (record-length w n xs i i-n fit) (record-words w n xs i i-n word))
        k

    -- with a count that is tested first
    pub counted-table : (bound : ℕ) (rest rest' : Bool) → bound * w ≤ length xs → (exact words of rs ≡ true → rest ≡ rest') → (exact words of rs && (leb (length (map of rs)) bound && (all valid (map of rs) && rest))) ≡ (leb (length rs) bound && (all test rs && rest'))
    counted-table bound rest rest' room k =
        ap (λ (m : ℕ). exact words of rs && (leb m bound && (all valid (map of rs) && rest))) (length-map rs of)
        ∙ and_left (exact words of rs) (leb (length rs) bound) (all valid (map of rs) && rest)
        ∙ and-under (leb (length rs) bound) (exact words of rs && (all valid (map of rs) && rest)) (all test rs && rest')
        (λ l.
        let few : n ≤ bound = omega (arith, leb-true (length rs) bound l, length-records w n xs) in
        table-passes rest rest' (omega (arith, mul-le-mul_right w few)) k)

    -- the values' order is that of their words: the answer of the pass
    ordered : exact words of rs ≡ true → ascending 1 (map words (map of rs)) ≡ ascending 1 rs
    ordered e = ap (ascending 1) (words-of-exact words of rs e)

    pub ordered-table : n * w ≤ length xs → (exact words of rs && (all valid (map of rs) && ascending 1 (map words (map of rs)))) ≡ are_records test rs
    unfolding are_records
    ordered-table fit = table-passes (ascending 1 (map words (map of rs))) (ascending 1 rs) fit ordered

    pub counted-order : (bound : ℕ) → bound * w ≤ length xs → (exact words of rs && (leb (length (map of rs)) bound && (all valid (map of rs) && ascending 1 (map words (map of rs))))) ≡ (leb (length rs) bound && are_records test rs)
    unfolding are_records
    counted-order bound room = counted-table bound (ascending 1 (map words (map of rs))) (ascending 1 rs) room ordered
