-- Laws: a table of records that ascend by their first word, by a search. The record that is found, and the table with one put in, written over or
-- taken out.
use Prim.Native.Nat.{ℕ, suc, ◌+◌, ◌*◌, ◌≤◌, ◌<◌}
use mathlib.Core.Path.{◌≡◌, refl, sym, ap, ◌∙◌}
use mathlib.Core.Bool.{true}
use mathlib.Core.List.{List, [], ◌∷◌, map}
use native.Mathlib.Omega.{arith}
use borrow.Author.Tests.{lt-ltb, le-leb, eq-eqb}
use lib.Dec.{eqb}
use lib.ListN.{length, get_or, take, drop, length-map, take-append-drop}
use Rattle.records.specs.declared.Found.{Found}
use Rattle.records.specs.declared.Found.TheVariants.{At, Gap, Unfit}
use Rattle.records.specs.Records.{records, table, ascending, find, find_in, splice, overwrite_at, insert_at, remove_at, removable, removed, overwritable, overwritten, insertable, inserted}
use Rattle.records.proofs.Words.RecordLaws.{length-records, record-at, fits_intro}
use Rattle.records.proofs.Order.OrderLaws.{before-word}
use Rattle.records.proofs.Order.PlaceLaws.{gap-place}
use Rattle.questions.specs.Lists.{those, replaced}
use Rattle.records.specs.Typed.{exact, first_word}
use Rattle.questions.proofs.ListLaws.{those-map}
use Rattle.questions.proofs.OnlyLaws.{length-replaced, only_same, replaced-words}
use Rattle.records.proofs.Order.RangeLaws.{first-shape, replaced-gap}
use Rattle.records.proofs.Words.RowLaws.{find-says}
use Rattle.records.proofs.Tables.TabledLaws.{InOrder, in-order-says, in-order-intro, found_inside, found-one, found_none, found-at-splice, found-fit, table_same}
use Rattle.records.proofs.Tables.TypedLaws.{words-of-exact, exact-record}

-- records of w words, and what they stand for by a number, their first word
pub record Kind {A : Type 0} (words : A → List ℕ) (of : List ℕ → A) (number : A → ℕ) (w : ℕ) : Type 0 where
  pub some_words : 1 ≤ w
  pub long : (x : A) → length (words x) ≡ w
  pub first-word : (x : A) → first_word (words x) ≡ number x
  pub number_of : (r : List ℕ) → number (of r) ≡ first_word r
  pub of_take : (ws : List ℕ) → of (take w ws) ≡ of ws

-- n of them in a table, exact and in order
pub record InTable {A : Type 0} (words : A → List ℕ) (of : List ℕ → A) (w n : ℕ) (xs : List ℕ) : Type 0 where
  pub fit : n * w ≤ length xs
  pub exactly : exact words of (records w n xs) ≡ true
  pub order : ascending 1 (records w n xs) ≡ true

module _ {A : Type 0} (words : A → List ℕ) (of : List ℕ → A) (number : A → ℕ) (w n : ℕ) (xs : List ℕ) (k : Kind words of number w)
    (h : InTable words of w n xs) where
  in_order : InOrder w 1 n xs
  in_order = in-order-says w 1 n xs (in-order-intro w 1 n xs (omega arith) (omega arith) k.some_words h.fit h.order)

  -- the words of what the records stand for are the records
  pub as-words : map words (map of (records w n xs)) ≡ records w n xs
  as-words = words-of-exact words of (records w n xs) h.exactly

  -- as many as there are records
  pub counted : length (map of (records w n xs)) ≡ n
  counted = length-map (records w n xs) of ∙ length-records w n xs

  -- ---- one of the records
  module _ (i : ℕ) (l : i < n) where
    pub record_of : of (get_or (records w n xs) i []) ≡ of (drop (i * w) xs)
    record_of = ap of (record-at w n xs i l) ∙ k.of_take (drop (i * w) xs)

    -- its words are those of what it stands for
    pub exact-at : words (of (get_or (records w n xs) i [])) ≡ get_or (records w n xs) i []
    exact-at = exact-record words of (records w n xs) h.exactly i (omega (arith, length-records w n xs))

  -- those with a number, by their words
  those-of : (a : ℕ) → those number a (map of (records w n xs)) ≡ map of (those first_word a (records w n xs))
  unfolding those
  those-of a =
      those-map of number a (records w n xs)
      ∙ ap (map of)
      (only_same (λ (r : List ℕ). eqb (number (of r)) a) (λ (r : List ℕ). eqb (first_word r) a)
      (λ (r : List ℕ). ap (λ (m : ℕ). eqb m a) (k.number_of r)) (records w n xs))

  -- others in their place
  replaced-of : (a : ℕ) (new : List A)
      → map words (replaced number a new (map of (records w n xs))) ≡ replaced first_word a (map words new) (records w n xs)
  replaced-of a new = replaced-words number words first_word k.first-word a new (map of (records w n xs))
      ∙ ap (replaced first_word a (map words new)) as-words

  -- how many there are then
  pub count-after : (a : ℕ) (new : List A)
      → length (replaced number a new (map of (records w n xs))) + length (those number a (map of (records w n xs))) ≡ length new + n
  count-after a new = length-replaced number a new (map of (records w n xs)) ∙ ap (λ (m : ℕ). length new + m) counted

  -- a search always fits
  pub never-unfit : {P : Type 0} (a : ℕ) → Unfit ≡ find_in w 1 n a 0 xs → P
  never-unfit a e = found-fit w n a xs in_order e

  -- ---- one that is found
  module _ (a i : ℕ) (e : At i ≡ find_in w 1 n a 0 xs) where
    pub found_within : (i < n) × (i * w + w ≤ length xs)
    found_within = found_inside w n a xs in_order i e

    pub those-found : those number a (map of (records w n xs)) ≡ of (drop (i * w) xs) ∷ []
    those-found = those-of a ∙ ap (map of) (found-one w n a xs in_order i e) ∙ ap (λ (x : A). x ∷ []) (record_of i found_within.0)

    -- written over
    pub overwritten-is : (x : A) (ws : List ℕ) → ws ≡ words x
        → overwritten w n i ws xs ≡ table (map words (replaced number a (x ∷ []) (map of (records w n xs)))) xs
    unfolding overwritten overwritable removable overwrite_at
    overwritten-is x ws q =
        rw (eq-eqb (length ws) w (ap length q ∙ k.long x), lt-ltb i n found_within.0, fits_intro (length xs) w n k.some_words h.fit)
        (ap (λ (rs : List (List ℕ)). table rs xs)
        (ap (λ (r : List ℕ). splice i (suc i) (r ∷ []) (records w n xs)) q
        ∙ sym (replaced-of a (x ∷ []) ∙ found-at-splice w n a xs in_order i e (words x ∷ []))))

    -- taken out
    pub removed-is : removed w n i xs ≡ table (map words (replaced number a [] (map of (records w n xs)))) xs
    unfolding removed removable remove_at
    removed-is =
        rw (lt-ltb i n found_within.0, fits_intro (length xs) w n k.some_words h.fit)
        (ap (λ (rs : List (List ℕ)). table rs xs) (sym (replaced-of a [] ∙ found-at-splice w n a xs in_order i e [])))

  -- ---- one that is not there
  module _ (a i : ℕ) (e : Gap i ≡ find_in w 1 n a 0 xs) where
    pub those-none : those number a (map of (records w n xs)) ≡ []
    those-none = those-of a ∙ ap (map of) (found_none w n a xs in_order i e)

    gap_is : find 1 (a ∷ []) (records w n xs) ≡ Gap i
    gap_is = find-says w 1 n a 0 xs (omega arith) (omega arith) k.some_words h.fit (Gap i) e

    gap_within : i ≤ n
    gap_within = omega (arith, (gap-place 1 (a ∷ []) (records w n xs) i h.order gap_is).within, length-records w n xs)

    replaced-none : (new : List (List ℕ)) → replaced first_word a new (records w n xs) ≡ splice i i new (records w n xs)
    replaced-none new =
        replaced-gap 1 first_word (λ (x : ℕ). x ∷ []) (records w n xs) h.order
        (first-shape w (records w n xs) k.some_words in_order.wide) before-word a i gap_is new

    -- put in
    pub inserted-is : (x : A) (ws : List ℕ) → ws ≡ words x → (n + 1) * w ≤ length xs
        → inserted w n i ws xs ≡ table (map words (replaced number a (x ∷ []) (map of (records w n xs)))) xs
    unfolding inserted insertable insert_at
    inserted-is x ws q room =
        rw (eq-eqb (length ws) w (ap length q ∙ k.long x), le-leb i n gap_within, fits_intro (length xs) w (n + 1) k.some_words room)
        (ap (λ (rs : List (List ℕ)). table rs xs)
        (ap (λ (r : List ℕ). splice i i (r ∷ []) (records w n xs)) q ∙ sym (replaced-of a (x ∷ []) ∙ replaced-none (words x ∷ []))))

    -- nothing to take out
    pub removed-none : xs ≡ table (map words (replaced number a [] (map of (records w n xs)))) xs
    unfolding splice
    removed-none =
        sym (ap (λ (rs : List (List ℕ)). table rs xs) (replaced-of a [] ∙ replaced-none [] ∙ take-append-drop i (records w n xs))
        ∙ table_same w n xs h.fit)

  -- at most one has a number
  pub once : (a : ℕ) → length (those number a (map of (records w n xs))) ≤ 1
  once a = by (find_in w 1 n a 0 xs) refl
    where
      by : (f : Found) → f ≡ find_in w 1 n a 0 xs → length (those number a (map of (records w n xs))) ≤ 1
      by (At i) e = omega (arith, ap length (those-found a i e))
      by (Gap i) e = omega (arith, ap length (those-none a i e))
      by Unfit e = never-unfit a e
