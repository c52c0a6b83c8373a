-- Finding the records of an image, kind after kind, and its end.
use Prim.Native.Nat.{ℕ, zero, suc, ◌+◌, ◌*◌, ◌≤◌}
use mathlib.Core.Path.{◌≡◌, refl, sym, ap, ◌∙◌}
use mathlib.Core.Bool.{true, false}
use mathlib.Core.List.{List, [], ◌∷◌}
use native.Mathlib.Nat.{zero-mul, suc-mul}
use native.Mathlib.Omega.{arith}
use borrow.Author.Tests.{eq-eqb, ne_eqb}
use lib.Dec.{eqb}
use lib.ListN.{length, drop, length-drop}
use lib.Seq.{drop-drop}
use Rattle.questions.proofs.Tests.{split, and_first, and-skip}
use Rattle.image.specs.declared.scan.Sections.{Sections}
use Rattle.image.specs.Image.{Section, ◌of◌, kinds}
use Rattle.image.specs.Reader.{word_at, record_size, begins, rows_first, sections_first, after_sections, is_end}
use Rattle.image.specs.Steps.{rows_at, Scanned, Scans}
use Rattle.image.proofs.Loading.ReadLaws.{begins-size, rows-counted, after-counted}

-- the records that are counted are within the bytes
counted-within : (m kind : ℕ) (bs : List ℕ) → length (rows_first m kind bs) * record_size kind ≤ length bs
unfolding rows_first
counted-within zero kind bs = omega (arith, zero-mul (record_size kind))
counted-within (suc m) kind bs = split (begins kind bs)
    (λ e.
    let later = drop (record_size kind) bs in
    rw e (omega (arith, suc-mul (length (rows_first m kind later)) (record_size kind), counted-within m kind later, begins-size kind bs e, length-drop (record_size kind) bs)))
    (λ e. rw e (omega (arith, zero-mul (record_size kind))))

module _ (kind at : ℕ) (xs : List ℕ) (h : at ≤ length xs) (n size : ℕ) (e : n ≡ length (rows_first (length (drop at xs)) kind (drop at xs))) (f : size ≡ record_size kind) where
  sized : n * size ≡ length (rows_first (length (drop at xs)) kind (drop at xs)) * record_size kind
  sized = (λ i. e i * f i)

  pub scan-within : at + n * size ≤ length xs
  scan-within = omega (arith, sized, counted-within (length (drop at xs)) kind (drop at xs), length-drop at xs)

  pub scanned : Scanned kind at xs n (at + n * size)
  scanned =
      let m = length (drop at xs) in
      record {
        count = e;
        rows = rows-counted m kind (drop at xs) ∙ ap (λ (k : ℕ). rows_at kind k (drop at xs)) (sym e);
        after =
            after-counted m kind (drop at xs)
            ∙ ap (λ (k : ℕ). drop k (drop at xs)) (sym sized)
            ∙ drop-drop (n * size) at xs;
        ends = ap (λ (k : ℕ). at + n * k) f;
        within = scan-within;
      }

-- ---- the end, test by test

module _ (count at : ℕ) (xs : List ℕ) where
  pub end_none : begins 0 (drop at xs) ≡ false → is_end count (drop at xs) ≡ false
  unfolding is_end
  end_none e = and_first (begins 0 (drop at xs)) _ e

  pub end-other : begins 0 (drop at xs) ≡ true → (word_at (drop at xs) 0 ≡ count → ⊥) → is_end count (drop at xs) ≡ false
  unfolding is_end
  end-other e d = and-skip (begins 0 (drop at xs)) _ e ∙ and_first (eqb (word_at (drop at xs) 0) count) _ (ne_eqb _ count d)

  pub end-last : begins 0 (drop at xs) ≡ true → word_at (drop at xs) 0 ≡ count → is_end count (drop at xs) ≡ eqb (length (drop at xs)) (record_size 0)
  unfolding is_end
  end-last e d = and-skip (begins 0 (drop at xs)) _ e ∙ and-skip (eqb (word_at (drop at xs) 0) count) _ (eq-eqb _ count d)

-- ---- kind after kind: what was scanned is what the decoder reads

-- a section in front
module _ (kind at : ℕ) (kinds xs : List ℕ) (n end : ℕ) (s : Scanned kind at xs n end) where
  section-scanned : {rest : List Section} → sections_first kinds (drop end xs) ≡ rest → sections_first (kind ∷ kinds) (drop at xs) ≡ (kind of rows_at kind n (drop at xs)) ∷ rest
  unfolding sections_first
  section-scanned e = (λ i. (kind of s.rows i) ∷ sections_first kinds (s.after i)) ∙ ap (λ (l : List Section). (kind of rows_at kind n (drop at xs)) ∷ l) e

  section-after : after_sections (kind ∷ kinds) (drop at xs) ≡ after_sections kinds (drop end xs)
  unfolding after_sections
  section-after = ap (after_sections kinds) s.after

module _ (xs : List ℕ) (s : Sections) (r : Scans xs s) where
  pub scans-sections :
      sections_first kinds xs
      ≡ (1 of rows_at 1 s.settings.n xs)
      ∷ (2 of rows_at 2 s.keys.n (drop s.settings.end xs))
      ∷ (3 of rows_at 3 s.hot.n (drop s.keys.end xs))
      ∷ (4 of rows_at 4 s.shadows.n (drop s.hot.end xs))
      ∷ (5 of rows_at 5 s.peers.n (drop s.shadows.end xs))
      ∷ (6 of rows_at 6 s.snapshot_keys.n (drop s.peers.end xs))
      ∷ (7 of rows_at 7 s.contested.n (drop s.snapshot_keys.end xs))
      ∷ []
  unfolding sections_first
  scans-sections =
      section-scanned 1 0 (drop 1 kinds) xs _ _ r.settings
      (section-scanned 2 _ (drop 2 kinds) xs _ _ r.keys
      (section-scanned 3 _ (drop 3 kinds) xs _ _ r.hot
      (section-scanned 4 _ (drop 4 kinds) xs _ _ r.shadows
      (section-scanned 5 _ (drop 5 kinds) xs _ _ r.peers
      (section-scanned 6 _ (drop 6 kinds) xs _ _ r.snapshot-keys
      (section-scanned 7 _ [] xs _ _ r.contested refl))))))

  pub scans-after : after_sections kinds xs ≡ drop s.contested.end xs
  unfolding after_sections
  scans-after =
      section-after 1 0 (drop 1 kinds) xs _ _ r.settings
      ∙ section-after 2 _ (drop 2 kinds) xs _ _ r.keys
      ∙ section-after 3 _ (drop 3 kinds) xs _ _ r.hot
      ∙ section-after 4 _ (drop 4 kinds) xs _ _ r.shadows
      ∙ section-after 5 _ (drop 5 kinds) xs _ _ r.peers
      ∙ section-after 6 _ (drop 6 kinds) xs _ _ r.snapshot-keys
      ∙ section-after 7 _ [] xs _ _ r.contested
