-- Entries in lent words, by the laws of typed tables: what a search finds, and the words after `put` and `remove`.
use mathlib.Core.Path.{◌≡◌, refl, sym, ap, ◌∙◌}
use mathlib.Core.Bool.{true}
use mathlib.Core.List.{List, [], ◌∷◌, map}
use Prim.Native.Nat.{ℕ, ◌+◌, ◌*◌, ◌≤◌, ◌<◌}
use native.Mathlib.Omega.{arith}
use borrow.Author.Tests.{ltb-true}
use lib.ListN.{length, get_or, drop, length-map, get_or-map}
use Rattle.records.specs.declared.Found.{Found}
use Rattle.records.specs.declared.Found.TheVariants.{At, Gap, Unfit}
use Rattle.records.specs.Records.{records, table, before, key, ascending, find_in, inserted, removed, overwritten}
use Rattle.records.specs.Typed.{exact}
use Rattle.records.proofs.Words.RecordLaws.{record-at}
use Rattle.records.proofs.Order.OrderLaws.{before-word, asc-lt}
use Rattle.records.proofs.Tables.TabledLaws as tabled
use Rattle.records.proofs.Tables.TypedLaws.{all-exact}
use Rattle.records.proofs.Tables.TypedTableLaws as typed
use Rattle.records.proofs.Tables.TypedTableLaws.{Kind, InTable}
use Rattle.questions.specs.Lists.{all, first, those}
use Rattle.questions.proofs.Tests.{both, and_intro}
use Rattle.questions.proofs.ListLaws.{map_at}
use Rattle.hot.specs.HotSet.Set.{words, entry, entries, valid_entry, valid_entries, entry_key, get, put, remove}
use Rattle.hot.specs.HotSet.Steps.{EntriesReady}
use Rattle.hot.specs.declared.hot_set.HotEntry.{HotEntry}
use Rattle.hot.proofs.HotSet.Words.{length-words, entry-take, records-table, entries-table, length-table}
use Rattle.hot.proofs.HotSet.ValidLaws.{entry-back, valid-fits}
use Rattle.hot.proofs.HotSet.Map.{Asc}
use Rattle.std.specs.declared.option.Option.TheVariants.{None, Some}

-- a record stands for an entry, by its key
entry-kind : Kind words entry entry_key 6
unfolding words entry
entry-kind = record { some_words = omega arith; long = length-words; first-word = λ e. refl; number_of = λ r. refl; of_take = entry-take }

-- valid entries that ascend, once written
pub ready-table : (es : List HotEntry) (xs : List ℕ) → Asc es → all valid_entry es ≡ true → length es * 6 ≤ length xs → EntriesReady (length es) (table (map words es) xs)
unfolding valid_entries
ready-table es xs a v l =
    let read : entries (length es) (table (map words es) xs) ≡ es = entries-table es xs (valid-fits es v) in
    record {
      fit = omega (arith, length-table es xs l);
      exact = ap (map words) read ∙ sym (records-table es xs);
      good = ap valid_entries read ∙ and_intro (all valid_entry es) _ v a;
    }

-- the entry at an index
abbrev pub nth : List HotEntry → ℕ → HotEntry
nth es i = get_or es i (entry [])

pub nth-is : (n : ℕ) (xs : List ℕ) (i : ℕ) → i < n → nth (entries n xs) i ≡ entry (drop (i * 6) xs)
unfolding entries
nth-is n xs i l = get_or-map entry (records 6 n xs) i [] ∙ ap entry (record-at 6 n xs i l) ∙ entry-take (drop (i * 6) xs)

-- an earlier key is below a later one
pub key-rises : (es : List HotEntry) → Asc es → (i j : ℕ) → i < j → j < length es → (nth es i).key < (nth es j).key
unfolding words
key-rises es a i j h l =
    ltb-true (nth es i).key (nth es j).key
    (sym (before-word (nth es i).key (nth es j).key)
    ∙ (λ m. before (key 1 (sym (map_at words (entry []) [] es i (omega arith)) m)) (key 1 (sym (map_at words (entry []) [] es j l) m)))
    ∙ asc-lt 1 (map words es) a i j h (omega (arith, length-map es words)))

module _ (n : ℕ) (xs : List ℕ) (h : EntriesReady n xs) where
  pub valid-entries : all valid_entry (entries n xs) ≡ true
  unfolding valid_entries
  valid-entries = (both (all valid_entry (entries n xs)) _ h.good).0

  pub asc-entries : Asc (entries n xs)
  unfolding valid_entries
  asc-entries = (both (all valid_entry (entries n xs)) _ h.good).1

  pub exactly : exact words entry (records 6 n xs) ≡ true
  exactly = ap (exact words entry) (sym h.exact) ∙ all-exact words entry valid_entry entry-back (entries n xs) valid-entries

  in_table : InTable words entry 6 n xs
  in_table = record { fit = h.fit; exactly = exactly; order = ap (ascending 1) (sym h.exact) ∙ asc-entries }

  -- nothing is written
  pub table_same : table (map words (entries n xs)) xs ≡ xs
  table_same = ap (λ (rs : List (List ℕ)). table rs xs) h.exact ∙ tabled.table_same 6 n xs h.fit

  -- ---- a key
  module _ (k : ℕ) where
    pub once : length (those entry_key k (entries n xs)) ≤ 1
    unfolding entries
    once = typed.once words entry entry_key 6 n xs entry-kind in_table k

    pub never-unfit : {P : Type 0} → Unfit ≡ find_in 6 1 n k 0 xs → P
    never-unfit e = typed.never-unfit words entry entry_key 6 n xs entry-kind in_table k e

    pub at-within : (i : ℕ) → At i ≡ find_in 6 1 n k 0 xs → (i < n) × (i * 6 + 6 ≤ length xs)
    at-within i e = typed.found_within words entry entry_key 6 n xs entry-kind in_table k i e

    pub got-at : (i : ℕ) → At i ≡ find_in 6 1 n k 0 xs → Some (entry (drop (i * 6) xs)) ≡ get k (entries n xs)
    unfolding entries get
    got-at i e = ap first (sym (typed.those-found words entry entry_key 6 n xs entry-kind in_table k i e))

    pub got-gap : (i : ℕ) → Gap i ≡ find_in 6 1 n k 0 xs → None ≡ get k (entries n xs)
    unfolding entries get
    got-gap i e = ap first (sym (typed.those-none words entry entry_key 6 n xs entry-kind in_table k i e))

    pub got-none : (f : Found) → f ≡ find_in 6 1 n k 0 xs → ((i : ℕ) → f ≡ At i → ⊥) → None ≡ get k (entries n xs)
    got-none (At i) e h = absurd (h i refl)
    got-none (Gap i) e h = got-gap i e
    got-none Unfit e h = never-unfit e

    pub removed-at : (i : ℕ) → At i ≡ find_in 6 1 n k 0 xs → removed 6 n i xs ≡ table (map words (remove k (entries n xs))) xs
    unfolding entries remove
    removed-at i e = typed.removed-is words entry entry_key 6 n xs entry-kind in_table k i e

    pub removed-none : (i : ℕ) → Gap i ≡ find_in 6 1 n k 0 xs → xs ≡ table (map words (remove k (entries n xs))) xs
    unfolding entries remove
    removed-none i e = typed.removed-none words entry entry_key 6 n xs entry-kind in_table k i e

    pub removed-not : (f : Found) → f ≡ find_in 6 1 n k 0 xs → ((i : ℕ) → f ≡ At i → ⊥) → xs ≡ table (map words (remove k (entries n xs))) xs
    removed-not (At i) e h = absurd (h i refl)
    removed-not (Gap i) e h = removed-none i e
    removed-not Unfit e h = never-unfit e

  -- ---- an entry, by its words
  module _ (x : HotEntry) (r : List ℕ) (w : r ≡ words x) (i : ℕ) where
    pub put-at : At i ≡ find_in 6 1 n x.key 0 xs → overwritten 6 n i r xs ≡ table (map words (put x (entries n xs))) xs
    unfolding entries put
    put-at e = typed.overwritten-is words entry entry_key 6 n xs entry-kind in_table x.key i e x r w

    pub put-gap : length (put x (entries n xs)) * 6 ≤ length xs → Gap i ≡ find_in 6 1 n x.key 0 xs → inserted 6 n i r xs ≡ table (map words (put x (entries n xs))) xs
    unfolding entries put
    put-gap m e =
        let c = typed.count-after words entry entry_key 6 n xs entry-kind in_table x.key (x ∷ []) in
        let z = ap length (typed.those-none words entry entry_key 6 n xs entry-kind in_table x.key i e) in
        typed.inserted-is words entry entry_key 6 n xs entry-kind in_table x.key i e x r w (omega (arith, c, z))
