-- Laws: the key table by a search. The key that is found, the one that is made, and the table with a key put at its place.
use Prim.Native.Nat.{ℕ, ◌+◌, ◌*◌, ◌≤◌, ◌<◌}
use mathlib.Core.Path.{◌≡◌, refl, sym, ap, ◌∙◌, subst}
use mathlib.Core.Bool.{true, false}
use mathlib.Core.List.{List, [], ◌∷◌}
use native.Mathlib.Nat.{mul-le-mul_right}
use native.Mathlib.Omega.{arith}
use borrow.Author.Tests.{eqb-true}
use lib.Dec.{ltb, eqb, lit<}
use lib.Ieee.{binary64, mul}
use lib.ListN.{length, get_or, take, drop, get_or-map}
use lib.Seq.{get_or-take, get_or-drop}
use Rattle.records.specs.declared.Found.{Found}
use Rattle.records.specs.declared.Found.TheVariants.{At, Gap, Unfit}
use Rattle.records.specs.Records.{records, find_in, overwritten, inserted}
use Rattle.questions.proofs.Tests.{both}
use Rattle.gcra.specs.Packed.{pack, unpacks, valid_burst, valid_quota, valid_word}
use Rattle.gcra.proofs.Packed.Packing.{pack-valid}
use Rattle.gcra.proofs.Packed.Validity.{valid-burst}
use Rattle.gcra.proofs.Rate.Rates.{per-second-valid}
use Rattle.gcra.specs.declared.Units.{Units}
use Rattle.questions.specs.Lists.{all, first, those}
use Rattle.questions.proofs.ListLaws.{all-index}
use Rattle.questions.proofs.OnlyLaws.{only-passes, any-number}
use Rattle.records.proofs.Words.RowLaws.{word-at}
use Rattle.limiter.specs.declared.Limit.{Limit}
use Rattle.limiter.specs.declared.Limiter.{Limiter}
use Rattle.limiter.specs.State.{KeyRecord, put_key, is_tracked, key_words, key_of, settings_of, valid_key, units_in}
use Rattle.limiter.specs.Checks.{new_key_factor, cold_quota, new_key, limited, found_or, entry}
use Rattle.limiter.specs.Steps.KeySteps.{Readable}
use Rattle.std.specs.Result.{is_ok}
use Rattle.std.specs.declared.result.Result.{Result}
use Rattle.std.specs.declared.result.Result.TheVariants.{Ok, Err}
use Rattle.limiter.specs.Steps.CheckSteps.{keys_in, keys_only, counting, Ready, Placed, Puts}
use Rattle.limiter.proofs.States.RecordValidLaws.{limit-burst, GoodKey, key-says}
use Rattle.limiter.proofs.States.StateValidLaws.{key_of_key, units-of-accepted}
use Rattle.records.proofs.Tables.TypedTableLaws.{Kind, InTable, counted, record_of, exact-at, never-unfit, found_within, those-found, those-none, count-after, overwritten-is, inserted-is, once}

-- only the first 22 words count
key-take : (u : Units) (ws : List ℕ) → key_of u (take 22 ws) ≡ key_of u ws
unfolding key_of
key-take u ws = simp get_or-drop
    (rw (
      w 0 (lit< tt),
      w 1 (lit< tt),
      w 2 (lit< tt),
      w 3 (lit< tt),
      w 4 (lit< tt),
      w 5 (lit< tt),
      w 6 (lit< tt),
      w 7 (lit< tt),
      w 8 (lit< tt),
      w 9 (lit< tt),
      w 10 (lit< tt),
      w 11 (lit< tt),
      w 12 (lit< tt),
      w 13 (lit< tt),
      w 14 (lit< tt),
      w 15 (lit< tt),
      w 16 (lit< tt),
      w 17 (lit< tt),
      w 18 (lit< tt),
      w 19 (lit< tt),
      w 20 (lit< tt),
      w 21 (lit< tt),
    ))
  where
    w : (j : ℕ) → j < 22 → get_or (take 22 ws) j 0 ≡ get_or ws j 0
    w j h = get_or-take 22 ws j 0 h

-- a record's word 19 is its packed quota
quota-word : (u : Units) (k : KeyRecord) → get_or (key_words u k) 19 0 ≡ pack u k.gcra.quota
unfolding key_words
quota-word u k = refl

-- the table's records stand for keys
key-kind : (u : Units) → Kind (key_words u) (key_of u) key_of_key 22
unfolding key_words key_of
key-kind u = record { some_words = omega arith; long = λ k. refl; first-word = λ k. refl; number_of = λ r. refl; of_take = key-take u }

module _ (l : Limiter) (xs : List ℕ) (r : Ready l xs) where
  in_table : InTable (key_words (units_in l)) (key_of (units_in l)) 22 l.keys xs
  in_table = record { fit = omega (arith, mul-le-mul_right 22 r.few, r.room); exactly = r.exactly; order = r.order }

  -- as many keys as the limiter counts
  pub counted-keys : length (keys_in l xs) ≡ l.keys
  counted-keys = counted (key_words (units_in l)) (key_of (units_in l)) key_of_key 22 l.keys xs (key-kind (units_in l)) in_table

  -- ---- one of the records
  module _ (i : ℕ) (h : i < l.keys) where
    abbrev at : KeyRecord
    at = key_of (units_in l) (get_or (records 22 l.keys xs) i [])

    -- it is valid
    good-at : GoodKey (units_in l) at
    good-at =
        key-says (units_in l) at
        (ap (valid_key (units_in l)) (sym (get_or-map (key_of (units_in l)) (records 22 l.keys xs) i []))
        ∙ all-index (valid_key (units_in l)) (key_of (units_in l) []) (keys_in l xs) r.good i (omega (arith, counted-keys)))

    -- so that it can be read
    pub readable-at : Readable (i * 22) xs
    unfolding key_of valid_word
    readable-at =
        let g = good-at in
        let w : pack (units_in l) at.gcra.quota ≡ get_or xs (i * 22 + 19) 0 =
        sym (quota-word (units_in l) at)
        ∙ ap (λ (ws : List ℕ). get_or ws 19 0) (exact-at (key_words (units_in l)) (key_of (units_in l)) key_of_key 22 l.keys xs (key-kind (units_in l)) in_table i h)
        ∙ word-at 22 l.keys xs i 19 h (lit< tt) in
        record {
          within = omega (arith, mul-le-mul_right 22 h, in_table.fit);
          burst = omega (arith, (valid-burst at.limit.burst (limit-burst at.limit g.limit)).most, word-at 22 l.keys xs i 2 h (lit< tt));
          quota =
              subst (λ (n : ℕ). unpacks n ≡ true) w
              (both (unpacks (pack (units_in l) at.gcra.quota)) _ (pack-valid (units_in l) (units-of-accepted (settings_of l)) at.gcra.quota g.gcra.quota)).0;
        }

  -- ---- a key that is found
  module _ (key i : ℕ) (e : At i ≡ find_in 22 1 l.keys key 0 xs) where
    pub those-key : those key_of_key key (keys_in l xs) ≡ key_of (units_in l) (drop (i * 22) xs) ∷ []
    those-key = those-found (key_words (units_in l)) (key_of (units_in l)) key_of_key 22 l.keys xs (key-kind (units_in l)) in_table key i e

    within-keys : i < l.keys
    within-keys = (found_within (key_words (units_in l)) (key_of (units_in l)) key_of_key 22 l.keys xs (key-kind (units_in l)) in_table key i e).0

    -- it has the key
    has_key : (key_of (units_in l) (drop (i * 22) xs)).key ≡ key
    unfolding those all
    has_key =
        eqb-true (key_of (units_in l) (drop (i * 22) xs)).key key
        (both (eqb (key_of (units_in l) (drop (i * 22) xs)).key key) true
        (ap (all (λ (k : KeyRecord). eqb k.key key)) (sym those-key) ∙ only-passes (λ (k : KeyRecord). eqb k.key key) (keys_in l xs))).0

    -- it can be read
    pub readable-found : Readable (i * 22) xs
    readable-found = readable-at i within-keys

    tracked-found : is_tracked (keys_in l xs) key ≡ true
    unfolding is_tracked
    tracked-found = any-number key_of_key key (keys_in l xs) ∙ ap (λ (ks : List KeyRecord). ltb 0 (length ks)) those-key

    pub entered-found : (limit : Limit) (now n : ℕ) → limited limit (key_of (units_in l) (drop (i * 22) xs)) ≡ entry (units_in l) (keys_only l xs) key limit now n
    unfolding entry
    entered-found limit now n = sym (ap (λ (ks : List KeyRecord). found_or (new_key (units_in l) (settings_of l) key limit now n) limit (first ks)) those-key)

  -- ---- a key that is not there
  module _ (key i : ℕ) (e : Gap i ≡ find_in 22 1 l.keys key 0 xs) where
    pub no_key : those key_of_key key (keys_in l xs) ≡ []
    no_key = those-none (key_words (units_in l)) (key_of (units_in l)) key_of_key 22 l.keys xs (key-kind (units_in l)) in_table key i e

    tracked-none : is_tracked (keys_in l xs) key ≡ false
    unfolding is_tracked
    tracked-none = any-number key_of_key key (keys_in l xs) ∙ ap (λ (ks : List KeyRecord). ltb 0 (length ks)) no_key

    pub entered-new : (limit : Limit) (now n : ℕ) → new_key (units_in l) (settings_of l) key limit now n ≡ entry (units_in l) (keys_only l xs) key limit now n
    unfolding entry
    entered-new limit now n = sym (ap (λ (ks : List KeyRecord). found_or (new_key (units_in l) (settings_of l) key limit now n) limit (first ks)) no_key)

  -- a search of them always fits
  pub never-unfit-key : {P : Type 0} (key : ℕ) → Unfit ≡ find_in 22 1 l.keys key 0 xs → P
  never-unfit-key key e = never-unfit (key_words (units_in l)) (key_of (units_in l)) key_of_key 22 l.keys xs (key-kind (units_in l)) in_table key e

  -- one that finds no record says that there is none
  pub key-missed : (key : ℕ) (f : Found) → f ≡ find_in 22 1 l.keys key 0 xs → ((i : ℕ) → f ≡ At i → ⊥) → those key_of_key key (keys_in l xs) ≡ []
  key-missed key (At i) e n = absurd (n i refl)
  key-missed key (Gap i) e n = no_key key i e
  key-missed key Unfit e n = never-unfit-key key e

  -- is the key tracked?
  pub tracked-is : (key : ℕ) (place : Result ℕ ℕ) → Placed l xs key place → is_ok place ≡ is_tracked (keys_in l xs) key
  tracked-is key (Ok i) p = sym (tracked-found key i p)
  tracked-is key (Err i) p = sym (tracked-none key i p)

  -- a key put among them leaves no fewer
  pub no-fewer : (k : KeyRecord) → length (keys_in l xs) ≤ length (put_key k (keys_in l xs))
  no-fewer k =
      let c : length (put_key k (keys_in l xs)) + length (those key_of_key k.key (keys_in l xs)) ≡ 1 + l.keys =
      count-after (key_words (units_in l)) (key_of (units_in l)) key_of_key 22 l.keys xs (key-kind (units_in l)) in_table k.key (k ∷ []) in
      omega (arith, c, counted-keys, once (key_words (units_in l)) (key_of (units_in l)) key_of_key 22 l.keys xs (key-kind (units_in l)) in_table k.key)

  -- ---- the key of a call has the key, and a valid quota
  pub record Entered (key : ℕ) (k : KeyRecord) : Type 0 where
    pub same_key : k.key ≡ key
    pub quota : valid_quota (units_in l) k.gcra.quota ≡ true

  pub entered : (key : ℕ) (limit : Limit) (now n : ℕ) → valid_burst limit.burst ≡ true → Entered key (entry (units_in l) (keys_only l xs) key limit now n)
  unfolding key_of cold_quota
  entered key limit now n b = by (find_in 22 1 l.keys key 0 xs) refl
    where
      by : (f : Found) → f ≡ find_in 22 1 l.keys key 0 xs → Entered key (entry (units_in l) (keys_only l xs) key limit now n)
      by (At i) e =
          subst (Entered key) (entered-found key i e limit now n)
          (record {
            same_key = has_key key i e;
            quota = ap (λ (k : KeyRecord). valid_quota (units_in l) k.gcra.quota)
                (sym (record_of (key_words (units_in l)) (key_of (units_in l)) key_of_key 22 l.keys xs (key-kind (units_in l)) in_table i (within-keys key i e)))
                ∙ (good-at i (within-keys key i e)).gcra.quota;
          })
      by (Gap i) e =
          subst (Entered key) (entered-new key i e limit now n)
          (record {
            same_key = refl;
            quota =
                per-second-valid (units_in l) (units-of-accepted (settings_of l)) (mul binary64 limit.rate (new_key_factor (settings_of l) n)) limit.burst b;
          })
      by Unfit e = never-unfit-key key e

  -- ---- a key put at its place
  module _ (k : KeyRecord) (i : ℕ) where
    abbrev after : List KeyRecord
    after = put_key k (keys_in l xs)

    -- one key is put
    counts : (m : ℕ) → length (those key_of_key k.key (keys_in l xs)) ≡ m → length after + m ≡ 1 + l.keys
    counts m e = ap (λ (j : ℕ). length after + j) (sym e)
        ∙ count-after (key_words (units_in l)) (key_of (units_in l)) key_of_key 22 l.keys xs (key-kind (units_in l)) in_table k.key (k ∷ [])

    -- over the one that is there
    pub put-over : At i ≡ find_in 22 1 l.keys k.key 0 xs → (l' : Limiter) (ws ys : List ℕ) → ws ≡ key_words (units_in l) k → l' ≡ counting l l.keys
        → ys ≡ overwritten 22 l.keys i ws xs → Puts l xs k l' ys
    put-over e l' ws ys w v y =
        let n : length after ≡ l.keys = omega (arith, counts 1 (ap length (those-key k.key i e))) in
        record {
          value = v ∙ ap (counting l) (sym n);
          words = y
              ∙ overwritten-is (key_words (units_in l)) (key_of (units_in l)) key_of_key 22 l.keys xs (key-kind (units_in l)) in_table k.key i e k ws w;
        }

    -- in its gap, where there is room for one more
    pub put_in : Gap i ≡ find_in 22 1 l.keys k.key 0 xs → l.keys < l.config.table_size → (l' : Limiter) (ws ys : List ℕ)
        → ws ≡ key_words (units_in l) k → l' ≡ counting l (l.keys + 1) → ys ≡ inserted 22 l.keys i ws xs → Puts l xs k l' ys
    put_in e h l' ws ys w v y =
        let n : length after ≡ l.keys + 1 = omega (arith, counts 0 (ap length (no_key k.key i e))) in
        let room : (l.keys + 1) * 22 ≤ length xs = omega (arith, mul-le-mul_right 22 h, r.room) in
        record {
          value = v ∙ ap (counting l) (sym n);
          words = y
              ∙ inserted-is (key_words (units_in l)) (key_of (units_in l)) key_of_key 22 l.keys xs (key-kind (units_in l)) in_table k.key i e k ws w room;
        }
