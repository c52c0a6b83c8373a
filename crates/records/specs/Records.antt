-- Records of w words, ordered by their first d words, in a list of words: what the contracts of `src/lib.rt` cite.
-- They stand for the Rust's maps (document 01: 'HashMaps: ascending records', 'Lookup in ascending records is proved for all record widths together').
use Rattle.std.specs.Prelude.{ℕ, zero, suc, ◌+◌, ◌-◌, ◌*◌, ◌/◌, ◌%◌, Bool, true, false, cond, ◌&&◌, ◌||◌, List, [], ◌∷◌, ◌++◌, ltb, leb, eqb, take, drop, get_or, length, Option, Some, None}
use Rattle.records.specs.declared.Found.{Found}
use Rattle.records.specs.declared.Found.TheVariants.{At, Gap, Unfit}
use Rattle.std.specs.declared.ops.Range.{Range}

-- ---- records and their words

-- the first n records of w words
unfoldable pub records : ℕ → ℕ → List ℕ → List (List ℕ)
records w zero xs = []
records w (suc n) xs = take w xs ∷ records w n (drop w xs)

-- the words of the records, one after the other
unfoldable pub flat : List (List ℕ) → List ℕ
flat [] = []
flat (r ∷ rs) = r ++ flat rs

-- the words xs with the records rs written at their front
unfoldable pub table : List (List ℕ) → List ℕ → List ℕ
table rs xs = flat rs ++ drop (length (flat rs)) xs

-- n records of w words, w above 0, are within len words
unfoldable pub fits : (len w n : ℕ) → Bool
fits len w n = ltb 0 w && leb (n * w) len

-- ---- order

-- a record's key is its first d words
abbrev pub key : ℕ → List ℕ → List ℕ
key d r = take d r

-- lexicographic order: the words compared in turn
unfoldable pub before : List ℕ → List ℕ → Bool
before [] [] = false
before [] (y ∷ ys) = true
before (x ∷ xs) [] = false
before (x ∷ xs) (y ∷ ys) = ltb x y || (eqb x y && before xs ys)

-- word for word the same
unfoldable pub same : List ℕ → List ℕ → Bool
same [] [] = true
same [] (y ∷ ys) = false
same (x ∷ xs) [] = false
same (x ∷ xs) (y ∷ ys) = eqb x y && same xs ys

-- the key of r is before that of the first of rs, if there is one
unfoldable pub leads : ℕ → List ℕ → List (List ℕ) → Bool
leads d r [] = true
leads d r (s ∷ rs) = before (key d r) (key d s)

-- the keys strictly ascend
unfoldable pub ascending : ℕ → List (List ℕ) → Bool
ascending d [] = true
ascending d (r ∷ rs) = leads d r rs && ascending d rs

-- keys of one or two words, within a record; n such records are within len words
unfoldable pub keyed : (len w d n : ℕ) → Bool
keyed len w d n = leb 1 d && (leb d 2 && (leb d w && fits len w n))

-- ---- search

-- the bisection of lo up to hi: the upper half where p holds in the middle, else the lower; at most `steps` of them
unfoldable pub bisect : (ℕ → Bool) → ℕ → ℕ → ℕ → ℕ
bisect p zero lo hi = lo
bisect p (suc steps) lo hi =
    cond (ltb lo hi)
    (cond (p (lo + (hi - lo) / 2)) (bisect p steps (lo + (hi - lo) / 2 + 1) hi) (bisect p steps lo (lo + (hi - lo) / 2)))
    lo

-- record i has a key before k
unfoldable pub is_below : ℕ → List ℕ → List (List ℕ) → ℕ → Bool
is_below d k rs i = before (key d (get_or rs i [])) k

-- the first record whose key is not before k, by bisection
unfoldable pub lower_bound : ℕ → List ℕ → List (List ℕ) → ℕ
lower_bound d k rs = bisect (is_below d k rs) (length rs) 0 (length rs)

-- record i has the key k, or is where k would go
unfoldable pub found_at : ℕ → List ℕ → List (List ℕ) → ℕ → Found
found_at d k rs i = cond (ltb i (length rs) && same (key d (get_or rs i [])) k) (At i) (Gap i)

unfoldable pub find : ℕ → List ℕ → List (List ℕ) → Found
find d k rs = found_at d k rs (lower_bound d k rs)

-- what a search by the words a and b answers: only the first counts where d is 1
unfoldable pub find_in : (w d n a b : ℕ) → List ℕ → Found
find_in w d n a b xs = cond (keyed (length xs) w d n) (find d (key d (a ∷ b ∷ [])) (records w n xs)) Unfit

-- from the first record whose first word is not below a, up to the first whose first word is above a
unfoldable pub range_of : ℕ → List (List ℕ) → Range ℕ
range_of a rs = record { start = lower_bound 1 (a ∷ []) rs; end = lower_bound 1 ((a + 1) ∷ []) rs }

unfoldable pub range_in : (w n a : ℕ) → List ℕ → Option (Range ℕ)
range_in w n a xs = cond (fits (length xs) w n) (Some (range_of a (records w n xs))) None

-- the record with the key k
unfoldable pub lookup : ℕ → List ℕ → List (List ℕ) → Option (List ℕ)
lookup d k [] = None
lookup d k (r ∷ rs) = cond (same (key d r) k) (Some r) (lookup d k rs)

-- ---- change

-- rs with the records i up to j replaced by `new`
unfoldable pub splice : (i j : ℕ) → List (List ℕ) → List (List ℕ) → List (List ℕ)
splice i j new rs = take i rs ++ (new ++ drop j rs)

-- rs with r put in before record i; without record i; with r for record i
unfoldable pub insert_at : ℕ → List ℕ → List (List ℕ) → List (List ℕ)
insert_at i r rs = splice i i (r ∷ []) rs

unfoldable pub remove_at : ℕ → List (List ℕ) → List (List ℕ)
remove_at i rs = splice i (suc i) [] rs

unfoldable pub overwrite_at : ℕ → List ℕ → List (List ℕ) → List (List ℕ)
overwrite_at i r rs = splice i (suc i) (r ∷ []) rs

-- k words for the records i up to j, of n, are whole records, and there is room for them
unfoldable pub spliceable : (len w n i j k : ℕ) → Bool
spliceable len w n i j k = fits len w n && (leb i j && (leb j n && (eqb (k % w) 0 && leb ((n - (j - i)) * w + k) len)))

-- the same for one record of k words more; for one record less; for a record of k words in place of another
unfoldable pub insertable : (len w n i k : ℕ) → Bool
insertable len w n i k = eqb k w && (leb i n && fits len w (n + 1))

unfoldable pub removable : (len w n i : ℕ) → Bool
removable len w n i = ltb i n && fits len w n

unfoldable pub overwritable : (len w n i k : ℕ) → Bool
overwritable len w n i k = eqb k w && removable len w n i

-- the words after each: those of the new records, then those from there on as they were; all as they were where it is refused
unfoldable pub spliced : (w n i j : ℕ) → List ℕ → List ℕ → List ℕ
spliced w n i j new xs =
    cond (spliceable (length xs) w n i j (length new)) (table (splice i j (records w (length new / w) new) (records w n xs)) xs) xs

unfoldable pub inserted : (w n i : ℕ) → List ℕ → List ℕ → List ℕ
inserted w n i r xs = cond (insertable (length xs) w n i (length r)) (table (insert_at i r (records w n xs)) xs) xs

unfoldable pub removed : (w n i : ℕ) → List ℕ → List ℕ
removed w n i xs = cond (removable (length xs) w n i) (table (remove_at i (records w n xs)) xs) xs

unfoldable pub overwritten : (w n i : ℕ) → List ℕ → List ℕ → List ℕ
overwritten w n i r xs = cond (overwritable (length xs) w n i (length r)) (table (overwrite_at i r (records w n xs)) xs) xs
