-- Entries and their words: there and back, and records of entries in lent words.
use mathlib.Core.Path.{◌≡◌, refl, ap, ◌∙◌}
use mathlib.Core.Bool.{Bool, true}
use mathlib.Core.List.{List, [], ◌∷◌, map}
use Prim.Native.Nat.{ℕ, zero, suc, ◌+◌, ◌*◌, ◌≤◌, ◌<◌}
use native.Mathlib.Nat.{add-zero}
use native.Mathlib.Omega.{arith}
use borrow.Author.Tests.{ltb-true}
use lib.Dec.{T, leb, lit<}
use lib.Ieee.{binary64, to_bits, of_bits, fits}
use lib.Ieee.Bits.{is_true, of_bits-to_bits, to_bits-of_bits, of_bits-fits}
use lib.ListN.{length, get_or, take, drop, length-map}
use lib.Seq.{get_or-drop, get_or-take}
use Rattle.float.specs.Magnitude.{magnitude}
use Rattle.float.proofs.Formats.Patterns.{magnitude-bits, magnitude-no-nan}
use Rattle.records.specs.Records.{records, flat, table}
use Rattle.questions.proofs.Tests.{both, and_intro}
use Rattle.records.proofs.Tables.TableLaws as records
use Rattle.records.proofs.Tables.TableLaws.{Wide}
use Rattle.records.proofs.Words.RecordLaws.{length-records}
use Rattle.records.specs.Fields.{flag_of, time_of}
use Rattle.records.proofs.Words.FieldLaws.{flag-of-word, flag-back, flag_small, time-of-words, time-is, time-flag-back, time-word-back}
use Rattle.questions.specs.Lists.{all}
use Rattle.hot.specs.HotSet.Set.{words, entry, entries}
use Rattle.hot.specs.HotSet.Steps.{are_words, are_entry_words}
use Rattle.records.proofs.Changes.KeepLaws.{table-over}
use Rattle.records.proofs.Tables.TypedLaws.{wide-map, all_back, records-written, length-written}
use Rattle.hot.specs.declared.hot_set.HotEntry.{HotEntry}

-- the tests of the words that begin at `at`
pub is-entry-at : (at : ℕ) (xs : List ℕ) → are_entry_words (drop at xs) ≡ are_words (get_or xs (at + 1) 0) (get_or xs (at + 2) 0) (get_or xs (at + 3) 0) (get_or xs (at + 4) 0)
unfolding are_entry_words
is-entry-at at xs = simp get_or-drop

pub entry_at : (at : ℕ) (xs : List ℕ) → entry (drop at xs) ≡ record {
  key = get_or xs at 0;
  demand = of_bits binary64 (get_or xs (at + 1) 0);
  primary = flag_of (get_or xs (at + 2) 0);
  cooling_since = time_of (get_or xs (at + 3) 0) (get_or xs (at + 4) 0);
  since = get_or xs (at + 5) 0;
}
unfolding entry
entry_at at xs = simp (get_or-drop, add-zero)

-- only the first six words count
pub is-entry-take : (r : List ℕ) → are_entry_words (take 6 r) ≡ are_entry_words r
unfolding are_entry_words
is-entry-take r = rw (get_or-take 6 r 1 0 (lit< tt), get_or-take 6 r 2 0 (lit< tt), get_or-take 6 r 3 0 (lit< tt), get_or-take 6 r 4 0 (lit< tt))

pub entry-take : (r : List ℕ) → entry (take 6 r) ≡ entry r
unfolding entry
entry-take r = rw (get_or-take 6 r 0 0 (lit< tt), get_or-take 6 r 1 0 (lit< tt), get_or-take 6 r 2 0 (lit< tt), get_or-take 6 r 3 0 (lit< tt), get_or-take 6 r 4 0 (lit< tt), get_or-take 6 r 5 0 (lit< tt))

-- ---- there and back
T_of : (b : Bool) → b ≡ true → T b
T_of b e = rw e tt

pub bits_back : (b : ℕ) → magnitude (of_bits binary64 b) ≡ true → to_bits binary64 (of_bits binary64 b) ≡ b
bits_back b e =
    let h : b < 9218868437227405312 = ltb-true b 9218868437227405312 (magnitude-bits binary64 b ∙ e) in
    to_bits-of_bits binary64 b (omega arith) (magnitude-no-nan (of_bits binary64 b) (T_of (magnitude (of_bits binary64 b)) e))

pub words-entry : (r : List ℕ) → length r ≡ 6 → are_entry_words r ≡ true → words (entry r) ≡ r
unfolding words entry are_entry_words
words-entry (a ∷ b ∷ p ∷ f ∷ t ∷ s ∷ []) h g =
    let m = both (magnitude (of_bits binary64 b)) _ g in
    let q = both (leb p 1) _ m.1 in
    rw (bits_back b m.0, flag-back p q.0, time-flag-back f t q.1, time-word-back f t q.1)
words-entry [] h g = absurd (omega arith)
words-entry (a ∷ []) h g = absurd (omega arith)
words-entry (a ∷ b ∷ []) h g = absurd (omega arith)
words-entry (a ∷ b ∷ p ∷ []) h g = absurd (omega arith)
words-entry (a ∷ b ∷ p ∷ f ∷ []) h g = absurd (omega arith)
words-entry (a ∷ b ∷ p ∷ f ∷ t ∷ []) h g = absurd (omega arith)
words-entry (a ∷ b ∷ p ∷ f ∷ t ∷ s ∷ z ∷ zs) h g = absurd (omega arith)

-- the demand is one that the format holds
abbrev pub demand_fits : HotEntry → Bool
demand_fits e = fits binary64 e.demand

pub entry-words : (e : HotEntry) → demand_fits e ≡ true → entry (words e) ≡ e
unfolding words entry
entry-words e F = rw (of_bits-to_bits binary64 e.demand (T_of (demand_fits e) F), flag-of-word e.primary, time-of-words e.cooling_since)

pub length-words : (e : HotEntry) → length (words e) ≡ 6
unfolding words
length-words e = refl

pub is-entry-words : (e : HotEntry) → demand_fits e ≡ true → magnitude e.demand ≡ true → are_entry_words (words e) ≡ true
unfolding words are_entry_words
is-entry-words e F m = rw (of_bits-to_bits binary64 e.demand (T_of (demand_fits e) F), m, flag_small e.primary, time-is e.cooling_since)

-- ---- the first n records
pub length-entries : (n : ℕ) (xs : List ℕ) → length (entries n xs) ≡ n
unfolding entries
length-entries n xs = length-map (records 6 n xs) entry ∙ length-records 6 n xs

pub wide-words : (es : List HotEntry) → Wide 6 (map words es)
wide-words = wide-map words 6 length-words

-- six words an entry
pub length-flat : (es : List HotEntry) → length (flat (map words es)) ≡ length es * 6
length-flat es = records.length-flat 6 (map words es) (wide-words es) ∙ ap (λ (n : ℕ). n * 6) (length-map es words)

-- every demand is one that the format holds
abbrev pub Fits : List HotEntry → Type 0
Fits es = all demand_fits es ≡ true

-- what was written is read
pub records-table : (es : List HotEntry) (xs : List ℕ) → records 6 (length es) (table (map words es) xs) ≡ map words es
records-table es xs = records-written words 6 length-words es xs

pub entries-table : (es : List HotEntry) (xs : List ℕ) → Fits es → entries (length es) (table (map words es) xs) ≡ es
unfolding entries
entries-table es xs f = ap (map entry) (records-table es xs) ∙ all_back words entry demand_fits entry-words es f

pub length-table : (es : List HotEntry) (xs : List ℕ) → length es * 6 ≤ length xs → length (table (map words es) xs) ≡ length xs
length-table es xs h = length-written words 6 length-words es xs h

pub table-table : (es fs : List HotEntry) (xs : List ℕ) → length es ≤ length fs → table (map words fs) (table (map words es) xs) ≡ table (map words fs) xs
table-table es fs xs h = table-over (map words es) (map words fs) xs (omega (arith, length-flat es, length-flat fs))

pub fits-entries : (n : ℕ) (xs : List ℕ) → Fits (entries n xs)
unfolding entries records entry all
fits-entries zero xs = refl
fits-entries (suc n) xs = and_intro (demand_fits (entry (take 6 xs))) _ (is_true _ (of_bits-fits binary64 (get_or (take 6 xs) 1 0))) (fits-entries n (drop 6 xs))
