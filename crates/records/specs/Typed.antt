-- Typed tables: records that stand for values, by the words of a value, the value of words and the width; and tables after a change. Definitions only.
use Rattle.std.specs.Prelude.{◌≡◌, Bool, true, cond, ◌&&◌, List, ℕ, ◌-◌, ◌*◌, ◌/◌, ◌%◌, ◌^◌, ◌≤◌, ltb, eqb, length, get_or}
use Rattle.questions.specs.Lists.{all, replaced}
use Rattle.records.specs.declared.Found.{Found}
use Rattle.records.specs.declared.Found.TheVariants.{At, Gap, Unfit}
use Rattle.records.specs.Records.{records, table, same, fits, keyed, ascending}

-- ---- words

-- a word has 64 bits
abbrev pub is_word : ℕ → Bool
is_word w = ltb w (2 ^ 64)

-- a word of a record; the first, by which records ascend, and the second
abbrev pub word : ℕ → List ℕ → ℕ
word i r = get_or r i 0

abbrev pub first_word : List ℕ → ℕ
first_word r = get_or r 0 0

abbrev pub second_word : List ℕ → ℕ
second_word r = get_or r 1 0

-- ---- values and their words

-- every record's words are those of the value that it stands for (01, 'The saved image': 'flags are 0 or 1', 'Absent parts are 0')
abbrev pub exact : {A : Type 0} → (A → List ℕ) → (List ℕ → A) → List (List ℕ) → Bool
exact words of rs = all (λ (r : List ℕ). same (words (of r)) r) rs

-- w words are those of the value that they stand for, and it is valid
abbrev pub stands_for : {A : Type 0} → ℕ → (A → List ℕ) → (List ℕ → A) → (A → Bool) → List ℕ → Bool
stands_for w words of valid r = eqb (length r) w && (same (words (of r)) r && valid (of r))

-- ---- tables

-- n records of w words whose keys of d words ascend
unfoldable pub in_order : (w d n : ℕ) → List ℕ → Bool
in_order w d n xs = keyed (length xs) w d n && ascending d (records w n xs)

-- ---- a test of each record, and of their order

-- the first word at `at` is above that of the record of w words before it, if there is one
unfoldable pub follows : (w at : ℕ) → List ℕ → Bool
follows w at xs = cond (ltb at w) true (ltb (get_or xs (at - w) 0) (get_or xs at 0))

-- every record passes, and their first words ascend (01, 'The saved image': 'ids strictly ascending')
unfoldable pub are_records : (List ℕ → Bool) → List (List ℕ) → Bool
are_records test rs = all test rs && ascending 1 rs

-- ---- what a search and a change leave

-- the place of the record that a search found; n, where it found none
unfoldable pub found_or : ℕ → Found → ℕ
found_or n (At i) = i
found_or n (Gap i) = n
found_or n Unfit = n

-- the table holds rs, n of them, and is as before past them
pub record Tabled (n : ℕ) (rs : List (List ℕ)) (xs ys : List ℕ) : Type 0 where
  pub count : n ≡ length rs
  pub words : ys ≡ table rs xs

-- n records at the front are rs
pub record Front (w n : ℕ) (rs : List (List ℕ)) (xs : List ℕ) : Type 0 where
  pub count : n ≡ length rs
  pub front : records w n xs ≡ rs

-- ---- records that share a first word

-- the records of a table after those with the first word a were replaced by those in `new`
abbrev pub replaced_run : (w n a : ℕ) → List ℕ → List ℕ → List (List ℕ)
replaced_run w n a new xs = replaced (word 0) a (records w (length new / w) new) (records w n xs)

-- the n records fit and ascend by their first word, or by more of them; the new ones are whole, and there is room for them
pub record Replaceable (w n a : ℕ) (new xs : List ℕ) : Type 0 where
  pub fit : fits (length xs) w n ≡ true
  pub depth : ℕ
  pub some_words : 1 ≤ depth
  pub ascends : ascending depth (records w n xs) ≡ true
  pub whole : length new % w ≡ 0
  pub room : length (replaced_run w n a new xs) * w ≤ length xs

-- records with one first word, which ascend by the second
pub record Run (w id n : ℕ) (xs : List ℕ) : Type 0 where
  pub fit : n * w ≤ length xs
  pub shared : all (λ (r : List ℕ). eqb (word 0 r) id) (records w n xs) ≡ true
  pub ascends : ascending 2 (records w n xs) ≡ true

-- the same, whichever word it is
pub record OneRun (w n : ℕ) (xs : List ℕ) : Type 0 where
  pub id : ℕ
  pub run : Run w id n xs
