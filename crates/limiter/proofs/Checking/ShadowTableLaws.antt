-- Laws: the shadow table by a search.
use Prim.Native.Nat.{ℕ, ◌+◌, ◌-◌, ◌*◌, ◌≤◌, ◌<◌}
use mathlib.Core.Path.{◌≡◌, refl, sym, ap, ◌∙◌, subst}
use mathlib.Core.Bool.{Bool, true, false, cond}
use mathlib.Core.List.{List, [], ◌∷◌}
use native.Mathlib.Omega.{arith}
use lib.Dec.{lit<}
use lib.ListN.{length, get_or, take, drop, get_or-map}
use lib.Seq.{get_or-take, get_or-drop, drop-drop}
use Rattle.records.specs.declared.Found.{Found}
use Rattle.records.specs.declared.Found.TheVariants.{At, Gap, Unfit}
use Rattle.records.specs.Records.{records, find_in, overwritten, inserted, removed}
use Rattle.questions.proofs.Tests.{both}
use Rattle.gcra.specs.declared.Quota.{Quota}
use Rattle.gcra.specs.declared.Gcra.{Gcra}
use Rattle.gcra.specs.Packed.{pack, unpacks, valid_quota, valid_word, Accepted}
use Rattle.gcra.specs.Rate.{carried, same_quota, set_quota}
use Rattle.gcra.proofs.Packed.Packing.{pack-valid}
use Rattle.gcra.specs.declared.Units.{Units}
use Rattle.questions.specs.Lists.{first, those}
use Rattle.questions.proofs.ListLaws.{all-index}
use Rattle.records.proofs.Words.RowLaws.{word-at}
use Rattle.limiter.specs.State.{ShadowRecord, gcra_of, gcra_words, shadow_words, shadow_of, valid_shadow}
use Rattle.limiter.specs.Checks.{shadow_meter}
use Rattle.limiter.specs.Steps.TraceSteps.{shadows_in, ShadowsReady, with_shadow, without_shadow, HoldsShadows}
use Rattle.limiter.proofs.States.RecordValidLaws.{GoodMeter, shadow-says}
use Rattle.limiter.proofs.States.StateValidLaws.{key_of_shadow}
use Rattle.records.proofs.Tables.TypedTableLaws.{Kind, InTable, counted, record_of, exact-at, never-unfit, found_within, those-found, those-none, count-after, overwritten-is, inserted-is, removed-is, removed-none}
use Rattle.std.specs.declared.option.Option.TheVariants.{None}

-- only the first 4 words count
shadow-take : (u : Units) (ws : List ℕ) → shadow_of u (take 4 ws) ≡ shadow_of u ws
unfolding shadow_of
shadow-take u ws = simp get_or-drop (rw (w 0 (lit< tt), w 1 (lit< tt), w 2 (lit< tt), w 3 (lit< tt)))
  where
    w : (j : ℕ) → j < 4 → get_or (take 4 ws) j 0 ≡ get_or ws j 0
    w j h = get_or-take 4 ws j 0 h

-- the table's records stand for shadows
shadow-kind : (u : Units) → Kind (shadow_words u) (shadow_of u) key_of_shadow 4
unfolding shadow_words shadow_of
shadow-kind u = record { some_words = omega arith; long = λ s. refl; first-word = λ s. refl; number_of = λ r. refl; of_take = shadow-take u }

-- a record's word 1 is its packed quota
quota-word : (u : Units) (s : ShadowRecord) → get_or (shadow_words u s) 1 0 ≡ pack u s.gcra.quota
unfolding shadow_words
quota-word u s = refl

-- its words are its key and its meter's
pub shadow-words : (u : Units) (key : ℕ) (g : Gcra) (ms : List ℕ) → ms ≡ gcra_words u g
    → key ∷ get_or ms 0 0 ∷ get_or ms 1 0 ∷ get_or ms 2 0 ∷ [] ≡ shadow_words u (record { key = key; gcra = g })
unfolding shadow_words
shadow-words u key g ms e = ap (λ (ws : List ℕ). key ∷ get_or ws 0 0 ∷ get_or ws 1 0 ∷ get_or ws 2 0 ∷ []) e

-- the meter of a record is read past its key
meter-of : (u : Units) (a : ℕ) (xs : List ℕ) → gcra_of u (drop (a + 1) xs) ≡ (shadow_of u (drop a xs)).gcra
unfolding shadow_of
meter-of u a xs = sym (ap (gcra_of u) (drop-drop 1 a xs))

-- a meter under another quota has a valid one
set-valid : (u : Units) (g : Gcra) (q : Quota) (now : ℕ) → valid_quota u g.quota ≡ true → valid_quota u q ≡ true
    → valid_quota u (set_quota g q now).quota ≡ true
unfolding set_quota
set-valid u g q now v w = by (same_quota q g.quota)
  where
    by : (b : Bool) → valid_quota u (cond b g (record { quota = q; tat = carried g.tat g.quota q now })).quota ≡ true
    by true = v
    by false = w

module _ (u : Units) (ok : Accepted u) (n : ℕ) (xs : List ℕ) (r : ShadowsReady u n xs) where
  in_table : InTable (shadow_words u) (shadow_of u) 4 n xs
  in_table = record { fit = r.fit; exactly = r.exactly; order = r.order }

  -- ---- one of the records
  module _ (i : ℕ) (h : i < n) where
    abbrev at : ShadowRecord
    at = shadow_of u (get_or (records 4 n xs) i [])

    -- its meter is valid
    good-at : GoodMeter u at.gcra
    good-at =
        shadow-says u at
        (ap (valid_shadow u) (sym (get_or-map (shadow_of u) (records 4 n xs) i []))
        ∙ all-index (valid_shadow u) (shadow_of u []) (shadows_in u n xs) r.good i
        (omega (arith, counted (shadow_words u) (shadow_of u) key_of_shadow 4 n xs (shadow-kind u) in_table)))

    -- so that its packed word unpacks
    unpacks-at : unpacks (get_or xs (i * 4 + 1) 0) ≡ true
    unfolding valid_word
    unpacks-at =
        subst (λ (m : ℕ). unpacks m ≡ true)
        (sym (quota-word u at)
        ∙ ap (λ (ws : List ℕ). get_or ws 1 0) (exact-at (shadow_words u) (shadow_of u) key_of_shadow 4 n xs (shadow-kind u) in_table i h)
        ∙ word-at 4 n xs i 1 h (lit< tt))
        (both (unpacks (pack u at.gcra.quota)) _ (pack-valid u ok at.gcra.quota good-at.quota)).0

  -- a search always fits
  pub never-unfit-shadow : {P : Type 0} (key : ℕ) → Unfit ≡ find_in 4 1 n key 0 xs → P
  never-unfit-shadow key e = never-unfit (shadow_words u) (shadow_of u) key_of_shadow 4 n xs (shadow-kind u) in_table key e

  -- ---- a shadow that is found
  module _ (key i : ℕ) (e : At i ≡ find_in 4 1 n key 0 xs) where
    pub found-shadow : (i < n) × (i * 4 + 4 ≤ length xs)
    found-shadow = found_within (shadow_words u) (shadow_of u) key_of_shadow 4 n xs (shadow-kind u) in_table key i e

    those-shadow : those key_of_shadow key (shadows_in u n xs) ≡ shadow_of u (drop (i * 4) xs) ∷ []
    those-shadow = those-found (shadow_words u) (shadow_of u) key_of_shadow 4 n xs (shadow-kind u) in_table key i e

    -- its meter can be read
    pub found_word : unpacks (get_or xs (i * 4 + 1) 0) ≡ true
    found_word = unpacks-at i found-shadow.0

    -- and has a valid quota
    pub found-quota : valid_quota u (gcra_of u (drop (i * 4 + 1) xs)).quota ≡ true
    found-quota =
        ap (λ (g : Gcra). valid_quota u g.quota) (meter-of u (i * 4) xs)
        ∙ ap (λ (s : ShadowRecord). valid_quota u s.gcra.quota)
        (sym (record_of (shadow_words u) (shadow_of u) key_of_shadow 4 n xs (shadow-kind u) in_table i found-shadow.0))
        ∙ (good-at i found-shadow.0).quota

    pub meter-found : (wanted : Quota) (now : ℕ)
        → set_quota (gcra_of u (drop (i * 4 + 1) xs)) wanted now ≡ shadow_meter wanted now (first (those key_of_shadow key (shadows_in u n xs)))
    meter-found wanted now =
        ap (λ (g : Gcra). set_quota g wanted now) (meter-of u (i * 4) xs)
        ∙ sym (ap (λ (ss : List ShadowRecord). shadow_meter wanted now (first ss)) those-shadow)

    -- written over
    pub shadow-over : (g : Gcra) (ws ys : List ℕ) → ws ≡ shadow_words u (record { key = key; gcra = g }) → ys ≡ overwritten 4 n i ws xs
        → HoldsShadows u (with_shadow u n xs key g) xs n ys
    shadow-over g ws ys w y =
        let s : ShadowRecord = record { key = key; gcra = g } in
        let one : length (s ∷ []) ≡ 1 = refl in
        let c = count-after (shadow_words u) (shadow_of u) key_of_shadow 4 n xs (shadow-kind u) in_table key (s ∷ []) in
        let m : n ≡ length (with_shadow u n xs key g) = omega (arith, c, one, ap length those-shadow) in
        record { count = m; words = y ∙ overwritten-is (shadow_words u) (shadow_of u) key_of_shadow 4 n xs (shadow-kind u) in_table key i e s ws w }

    -- taken out
    pub shadow-out : (ys : List ℕ) → ys ≡ removed 4 n i xs → HoldsShadows u (without_shadow u n xs key) xs (n - 1) ys
    shadow-out ys y =
        let none : length {A = ShadowRecord} [] ≡ 0 = refl in
        let c = count-after (shadow_words u) (shadow_of u) key_of_shadow 4 n xs (shadow-kind u) in_table key [] in
        let m : n - 1 ≡ length (without_shadow u n xs key) = omega (arith, c, none, ap length those-shadow) in
        record { count = m; words = y ∙ removed-is (shadow_words u) (shadow_of u) key_of_shadow 4 n xs (shadow-kind u) in_table key i e }

  -- ---- a shadow that is not there
  module _ (key i : ℕ) (e : Gap i ≡ find_in 4 1 n key 0 xs) where
    no-shadow : those key_of_shadow key (shadows_in u n xs) ≡ []
    no-shadow = those-none (shadow_words u) (shadow_of u) key_of_shadow 4 n xs (shadow-kind u) in_table key i e

    pub meter-fresh : (wanted : Quota) (now : ℕ)
        → record { quota = wanted; tat = None } ≡ shadow_meter wanted now (first (those key_of_shadow key (shadows_in u n xs)))
    meter-fresh wanted now = sym (ap (λ (ss : List ShadowRecord). shadow_meter wanted now (first ss)) no-shadow)

    -- put in
    pub shadow-in : (g : Gcra) (ws ys : List ℕ) → length (with_shadow u n xs key g) * 4 ≤ length xs
        → ws ≡ shadow_words u (record { key = key; gcra = g }) → ys ≡ inserted 4 n i ws xs → HoldsShadows u (with_shadow u n xs key g) xs (n + 1) ys
    shadow-in g ws ys room w y =
        let s : ShadowRecord = record { key = key; gcra = g } in
        let one : length (s ∷ []) ≡ 1 = refl in
        let c = count-after (shadow_words u) (shadow_of u) key_of_shadow 4 n xs (shadow-kind u) in_table key (s ∷ []) in
        let m : n + 1 ≡ length (with_shadow u n xs key g) = omega (arith, c, one, ap length no-shadow) in
        record {
          count = m;
          words = y
              ∙ inserted-is (shadow_words u) (shadow_of u) key_of_shadow 4 n xs (shadow-kind u) in_table key i e s ws w (omega (arith, m, room));
        }

    -- nothing to take out
    pub shadow-kept : HoldsShadows u (without_shadow u n xs key) xs n xs
    shadow-kept =
        let none : length {A = ShadowRecord} [] ≡ 0 = refl in
        let c = count-after (shadow_words u) (shadow_of u) key_of_shadow 4 n xs (shadow-kind u) in_table key [] in
        let m : n ≡ length (without_shadow u n xs key) = omega (arith, c, none, ap length no-shadow) in
        record { count = m; words = removed-none (shadow_words u) (shadow_of u) key_of_shadow 4 n xs (shadow-kind u) in_table key i e }

  -- a search that finds no record says that there is none to take out
  pub shadow-missed : (key : ℕ) (f : Found) → f ≡ find_in 4 1 n key 0 xs → ((i : ℕ) → f ≡ At i → ⊥) → HoldsShadows u (without_shadow u n xs key) xs n xs
  shadow-missed key (At i) e h = absurd (h i refl)
  shadow-missed key (Gap i) e h = shadow-kept key i e
  shadow-missed key Unfit e h = never-unfit-shadow key e

  -- the meter under the quota wanted has a valid quota
  pub meter-valid : (key : ℕ) (wanted : Quota) (now : ℕ) → valid_quota u wanted ≡ true
      → valid_quota u (shadow_meter wanted now (first (those key_of_shadow key (shadows_in u n xs)))).quota ≡ true
  meter-valid key wanted now v = by (find_in 4 1 n key 0 xs) refl
    where
      by : (f : Found) → f ≡ find_in 4 1 n key 0 xs
          → valid_quota u (shadow_meter wanted now (first (those key_of_shadow key (shadows_in u n xs)))).quota ≡ true
      by (At i) e = ap (λ (g : Gcra). valid_quota u g.quota) (sym (meter-found key i e wanted now))
          ∙ set-valid u (gcra_of u (drop (i * 4 + 1) xs)) wanted now (found-quota key i e) v
      by (Gap i) e = ap (λ (g : Gcra). valid_quota u g.quota) (sym (meter-fresh key i e wanted now)) ∙ v
      by Unfit e = never-unfit-shadow key e
