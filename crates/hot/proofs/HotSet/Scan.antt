-- The two passes over the entries: is each of them valid (the pass is that of `records`), and which is the weakest.
use mathlib.Core.Path.{◌≡◌, refl, sym, ap, ◌∙◌}
use mathlib.Core.Bool.{Bool, true, false, cond, ◌&&◌, ◌||◌}
use mathlib.Core.List.{List, [], ◌∷◌}
use Prim.Native.Nat.{ℕ, ◌+◌, ◌*◌, ◌≤◌, ◌<◌}
use native.Mathlib.Nat.{not-suc-le-zero}
use native.Mathlib.Numerals.{add-one}
use native.Mathlib.Omega.{arith}
use borrow.Author.Tests.{le-ltb}
use lib.Dec.{eqb}
use lib.Ieee.{binary64, to_bits, of_bits, fits as fits64}
use lib.Ieee.Bits.{is_true, of_bits-fits}
use lib.ListN.{length, get_or, drop, drop_of_length-le}
use lib.Seq.{drop-cons}
use Rattle.float.specs.Magnitude.{magnitude}
use Rattle.float.specs.Order.{total_less}
use Rattle.records.specs.Records.{records, fits, same}
use Rattle.questions.proofs.Tests.{both, and_intro, same_truth, goes}
use Rattle.records.proofs.Words.RecordLaws.{fits_le, record-at}
use Rattle.records.proofs.Order.OrderLaws.{same-eq, eq-same}
use Rattle.hot.specs.HotSet.Set.{words, entry, entries, valid_entry, valid_entries, weaker, weakest_of, weakest}
use Rattle.questions.specs.Lists.{all}
use Rattle.records.specs.Typed.{is_word, exact, are_records}
use Rattle.hot.specs.HotSet.Steps.{are_entry_words, EntriesReady}
use Rattle.hot.specs.declared.hot_set.HotEntry.{HotEntry}
use Rattle.records.proofs.Tables.ScanLaws.{PassIs, ordered-table}
use Rattle.hot.proofs.HotSet.Words.{demand_fits, is-entry-take, words-entry, is-entry-words, length-entries}
use Rattle.questions.proofs.ListLaws.{map_at}
use Rattle.hot.proofs.HotSet.Table.{nth, nth-is, key-rises, asc-entries}
use Rattle.records.proofs.Words.RowLaws.{word-at}
use Rattle.std.specs.declared.option.Option.TheVariants.{Some}

-- ---- the words of a record are those of a valid entry where they pass
demand-fits : (r : List ℕ) → demand_fits (entry r) ≡ true
unfolding entry
demand-fits r = is_true (fits64 binary64 (of_bits binary64 (get_or r 1 0))) (of_bits-fits binary64 (get_or r 1 0))

demand-magnitude : (r : List ℕ) → are_entry_words r ≡ true → magnitude (entry r).demand ≡ true
unfolding entry are_entry_words
demand-magnitude r h = (both (magnitude (of_bits binary64 (get_or r 1 0))) _ h).0

pub entry-words-pass : (r : List ℕ) → length r ≡ 6 → PassIs words entry valid_entry are_entry_words r
unfolding valid_entry
entry-words-pass r e word = same_truth (same (words (entry r)) r && valid_entry (entry r)) (are_entry_words r)
    (λ h.
    let b = both (same (words (entry r)) r) (valid_entry (entry r)) h in
    let m = both (demand_fits (entry r)) (magnitude (entry r).demand) (both (all is_word (words (entry r))) _ b.1).1 in
    ap are_entry_words (sym (same-eq (words (entry r)) r b.0)) ∙ is-entry-words (entry r) (demand-fits r) m.1)
    (λ h.
    let w = words-entry r e h in
    and_intro (same (words (entry r)) r) _ (eq-same (words (entry r)) r w)
    (and_intro (all is_word (words (entry r))) _ (ap (all is_word) w ∙ word)
    (and_intro (demand_fits (entry r)) (magnitude (entry r).demand) (demand-fits r) (demand-magnitude r h))))

-- the pass over n records asks question 2 of them
pub scanned-is-valid : (n : ℕ) (xs : List ℕ) → n * 6 ≤ length xs → all is_word xs ≡ true → are_records are_entry_words (records 6 n xs) ≡ (exact words entry (records 6 n xs) && valid_entries (entries n xs))
unfolding valid_entries entries
scanned-is-valid n xs room word = sym (ordered-table words entry valid_entry are_entry_words 6 n xs word entry-words-pass room)

-- where they are within the words, all that is asked
pub scanned-is-asked : (n : ℕ) (xs : List ℕ) → fits (length xs) 6 n ≡ true → all is_word xs ≡ true → are_records are_entry_words (records 6 n xs) ≡ (fits (length xs) 6 n && (exact words entry (records 6 n xs) && valid_entries (entries n xs)))
scanned-is-asked n xs fit word = goes (fits (length xs) 6 n) _ _ fit (scanned-is-valid n xs (fits_le (length xs) 6 n fit) word)

-- the test of record i is that of the words at its place
pub record-entry : (n : ℕ) (xs : List ℕ) (i : ℕ) → i < n → are_entry_words (drop (i * 6) xs) ≡ are_entry_words (get_or (records 6 n xs) i [])
record-entry n xs i l = sym (ap are_entry_words (record-at 6 n xs i l) ∙ is-entry-take (drop (i * 6) xs))

-- ---- the weakest
-- a later entry is weaker by its demand alone
weaker-later : (a b : HotEntry) → b.key < a.key → weaker a b ≡ total_less (to_bits binary64 a.demand) (to_bits binary64 b.demand)
unfolding weaker
weaker-later a b h = rw (le-ltb a.key b.key (omega arith)) (last (total_less (to_bits binary64 a.demand) (to_bits binary64 b.demand)) (eqb (to_bits binary64 a.demand) (to_bits binary64 b.demand)))
  where
    last : (x y : Bool) → (x || (y && false)) ≡ x
    last true y = refl
    last false true = refl
    last false false = refl

-- what is known after i entries: the weakest of all is the weakest of entry m and those from i on
pub record Weakest (n : ℕ) (xs : List ℕ) (m i : ℕ) : Type 0 where
  pub passed : m < i
  pub within : i ≤ n
  pub least : weakest (entries n xs) ≡ Some (weakest_of (nth (entries n xs) m) (drop i (entries n xs)))

first_of : (es : List HotEntry) → 0 < length es → weakest es ≡ Some (weakest_of (nth es 0) (drop 1 es))
unfolding weakest
first_of [] h = absurd (not-suc-le-zero h)
first_of (e ∷ es) h = refl

module _ (n : ℕ) (xs : List ℕ) (h : EntriesReady n xs) where
  -- the demand's word is that of its record
  demand-word : (i : ℕ) → i < n → to_bits binary64 (nth (entries n xs) i).demand ≡ get_or xs (i * 6 + 1) 0
  unfolding words
  demand-word i l =
      ap (λ (r : List ℕ). get_or r 1 0) (sym (map_at words (entry []) [] (entries n xs) i (omega (arith, length-entries n xs))))
      ∙ ap (λ (rs : List (List ℕ)). get_or (get_or rs i []) 1 0) h.exact
      ∙ word-at 6 n xs i 1 l (omega arith)

  weaker-is : (m i : ℕ) → m < i → i < n → weaker (nth (entries n xs) i) (nth (entries n xs) m) ≡ total_less (get_or xs (i * 6 + 1) 0) (get_or xs (m * 6 + 1) 0)
  weaker-is m i p l =
      weaker-later (nth (entries n xs) i) (nth (entries n xs) m) (key-rises (entries n xs) (asc-entries n xs h) m i p (omega (arith, length-entries n xs)))
      ∙ (λ j. total_less (demand-word i l j) (demand-word m (omega arith) j))

  pub weakest-start : 0 < n → Weakest n xs 0 1
  weakest-start l = record {
    passed = omega arith;
    within = omega arith;
    least = first_of (entries n xs) (omega (arith, length-entries n xs));
  }

  -- one entry more
  turn : (m i : ℕ) → Weakest n xs m i → i < n → weakest (entries n xs) ≡ Some (weakest_of (cond (total_less (get_or xs (i * 6 + 1) 0) (get_or xs (m * 6 + 1) 0)) (nth (entries n xs) i) (nth (entries n xs) m)) (drop (i + 1) (entries n xs)))
  unfolding weakest_of
  turn m i w l =
      w.least
      ∙ ap (λ (fs : List HotEntry). Some (weakest_of (nth (entries n xs) m) fs)) (drop-cons (entries n xs) i (entry []) (omega (arith, length-entries n xs)))
      ∙ (λ j. Some (weakest_of (cond (weaker-is m i w.passed l j) (nth (entries n xs) i) (nth (entries n xs) m)) (drop (sym (add-one i) j) (entries n xs))))

  pub weakest-next : (m i : ℕ) → Weakest n xs m i → i < n → total_less (get_or xs (i * 6 + 1) 0) (get_or xs (m * 6 + 1) 0) ≡ true → Weakest n xs i (i + 1)
  weakest-next m i w l e = record {
    passed = omega arith;
    within = omega arith;
    least = turn m i w l ∙ ap (λ (b : Bool). Some (weakest_of (cond b (nth (entries n xs) i) (nth (entries n xs) m)) (drop (i + 1) (entries n xs)))) e;
  }

  pub weakest-same : (m i : ℕ) → Weakest n xs m i → i < n → total_less (get_or xs (i * 6 + 1) 0) (get_or xs (m * 6 + 1) 0) ≡ false → Weakest n xs m (i + 1)
  weakest-same m i w l e = record {
    passed = omega (arith, w.passed);
    within = omega arith;
    least = turn m i w l ∙ ap (λ (b : Bool). Some (weakest_of (cond b (nth (entries n xs) i) (nth (entries n xs) m)) (drop (i + 1) (entries n xs)))) e;
  }

  pub weakest-done : (m i : ℕ) (r : HotEntry) → Weakest n xs m i → n ≤ i → r ≡ entry (drop (m * 6) xs) → Some r ≡ weakest (entries n xs)
  unfolding weakest_of
  weakest-done m i r w l e =
      let q : i ≤ n = w.within in
      sym (w.least
      ∙ ap (λ (fs : List HotEntry). Some (weakest_of (nth (entries n xs) m) fs)) (drop_of_length-le (entries n xs) {i = i} (omega (arith, length-entries n xs)))
      ∙ ap Some (nth-is n xs m (omega (arith, w.passed)) ∙ sym e))
