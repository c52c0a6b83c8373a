-- Laws: a key's meter under another quota, in its words, and the keys of a table with the quotas of their rates.
use mathlib.Core.Path.{◌≡◌, refl, sym, ap, ◌∙◌}
use mathlib.Core.Bool.{Bool, true, false}
use mathlib.Core.List.{List, [], ◌∷◌, map}
use Prim.Native.Nat.{ℕ, zero, suc, ◌≤◌, ◌<◌}
use native.Mathlib.Nat.{le_of_suc-le-suc, not-suc-le-zero}
use native.Mathlib.Omega.{arith}
use borrow.Author.Tests.{leb-true}
use borrow.Rule.Slice.PartMut.{put_mid}
use lib.Dec.{ltb, leb}
use lib.Ieee.{Float}
use lib.ListN.{length, drop, get_or, length-map, get_or-map}
use Rattle.records.specs.Records.{records}
use Rattle.records.proofs.Words.RecordLaws.{length-records}
use Rattle.records.proofs.Tables.TableLaws.{Wide}
use Rattle.questions.proofs.Tests.{both, and_intro}
use Rattle.gcra.specs.declared.Quota.{Quota}
use Rattle.gcra.specs.declared.Gcra.{Gcra}
use Rattle.gcra.specs.declared.QuotaSet.{QuotaSet}
use Rattle.gcra.specs.Packed.{max_burst, valid_burst, valid_quota, valid_word, pack, unpacks, Accepted}
use Rattle.gcra.specs.Rate.{per_second, set_quota}
use Rattle.gcra.specs.Calls as calls
use Rattle.questions.proofs.Answers.{alone-changed}
use Rattle.gcra.proofs.Packed.Packing.{pack-valid}
use Rattle.gcra.proofs.Packed.Encoding.{units-accepted}
use Rattle.gcra.proofs.Rate.Rates.{set_is, per-second-valid}
use Rattle.gcra.specs.declared.Units.{Units}
use Rattle.hot.specs.declared.hot_set.HotEntry.{HotEntry}
use Rattle.demand.specs.Allocation.{is_rate}
use Rattle.questions.specs.Lists.{all}
use Rattle.records.proofs.Tables.TypedLaws.{wide-map}
use Rattle.limiter.specs.declared.pass_two.RateTerms.{RateTerms}
use Rattle.limiter.specs.State.{KeyRecord, float_of, is_f64, gcra_words, gcra_of, key_words, key_of, valid_limit, valid_key}
use Rattle.limiter.specs.Steps.TickSteps.{key_records, LentKey}
use Rattle.limiter.specs.Steps.PassTwoSteps.{rate_by, with_rate, quota_row, requoted}
use Rattle.limiter.specs.Steps.KeySteps.{units}
use Rattle.limiter.proofs.States.KeyListLaws.{rising, beyond}
use Rattle.limiter.proofs.States.RecordValidLaws.{limit-burst, GoodKey, key-says}
use Rattle.limiter.proofs.States.StateValidLaws.{key_of_key}
use Rattle.limiter.proofs.Calls.TickValidLaws.{quota-kept}
use Rattle.limiter.proofs.Walking.RowLaws.{get_d-mapped}
use Rattle.limiter.proofs.States.WrittenLaws.{key-long}

-- a quota that is set
pub set-made :
    (g : Gcra) (q : Quota) (now : ℕ) (r : QuotaSet) → calls.GcraSets g q now r → valid_quota units g.quota ≡ true
    → valid_quota units q ≡ true → r.gcra ≡ set_quota g q now
set-made g q now r e v w =
    e.left ∙ sym (alone-changed 2 g (set_quota g q now) (and_intro (valid_quota units g.quota) (valid_quota units q) v w))

-- ---- the meter in the words of a key

-- a key with another meter
abbrev with_meter : KeyRecord → Gcra → KeyRecord
with_meter k g =
    record {
      key = k.key;
      limit = k.limit;
      demand = k.demand;
      requests = k.requests;
      denials = k.denials;
      shadow_denials = k.shadow_denials;
      gcra = g;
    }

-- three words written
meter-stored :
    (u : Units) (r : List ℕ) (k : KeyRecord) (g : Gcra) (ws : List ℕ) → r ≡ key_words u k → ws ≡ gcra_words u g
    → put_mid 19 3 r ws ≡ key_words u (with_meter k g)
unfolding key_words
meter-stored u r k g ws e q = (λ i. put_mid 19 3 (e i) (q i))

-- the packed word of a key
packed-word : (u : Units) (k : KeyRecord) → get_or (key_words u k) 19 0 ≡ pack u k.gcra.quota
unfolding key_words
packed-word u k = refl

-- a key's burst, and its meter
burst-word : (u : Units) (r : List ℕ) → (key_of u r).limit.burst ≡ get_or r 2 0
unfolding key_of
burst-word u r = refl

meter-words : (u : Units) (r : List ℕ) → (key_of u r).gcra ≡ gcra_of u (drop 19 r)
unfolding key_of
meter-words u r = refl

module _ (u : Units) (a : Accepted u) (r : List ℕ) (h : LentKey u r) where
  abbrev key : KeyRecord
  key = key_of u r

  good : GoodKey u key
  good = key-says u key h.valid

  pub row-long : length r ≡ 22
  row-long = ap length h.exact ∙ key-long u key

  burst-fits : valid_burst (get_or r 2 0) ≡ true
  burst-fits = ap valid_burst (sym (burst-word u r)) ∙ limit-burst key.limit good.limit

  -- its limit passes question 3
  pub limit-passes : is_rate (float_of (get_or r 1 0)) ≡ true
  unfolding key_of valid_limit
  limit-passes = (both (is_rate key.limit.rate) _ (both (is_f64 key.limit.rate) _ good.limit).1).0

  pub burst-small : get_or r 2 0 ≤ 4194303
  burst-small = leb-true (get_or r 2 0) max_burst (both (leb 1 (get_or r 2 0)) _ burst-fits).1

  pub word-unpacks : unpacks (get_or r 19 0) ≡ true
  unfolding valid_word
  word-unpacks =
      let w : ℕ = pack u key.gcra.quota in
      ap (λ (x : List ℕ). unpacks (get_or x 19 0)) h.exact
      ∙ ap unpacks (packed-word u key)
      ∙ (both (unpacks w) _ (pack-valid u a key.gcra.quota good.gcra.quota)).0

  module _ (rate : Float) (now : ℕ) (q : Quota) (m : Gcra) (eq : q ≡ per_second u rate (get_or r 2 0)) (em : m ≡ gcra_of u (drop 19 r))
    where
      quota-valid : valid_quota u q ≡ true
      quota-valid = ap (valid_quota u) eq ∙ per-second-valid u a rate (get_or r 2 0) burst-fits

      pub quotas-valid : (valid_quota u m.quota ≡ true) × (valid_quota u q ≡ true)
      quotas-valid = (ap (λ (g : Gcra). valid_quota u g.quota) (em ∙ sym (meter-words u r)) ∙ good.gcra.quota, quota-valid)

      module _ (g : Gcra) (eg : g ≡ set_quota m q now) where
        pub next-valid : valid_quota u g.quota ≡ true
        next-valid = ap (λ (x : Gcra). valid_quota u x.quota) eg ∙ ap (valid_quota u) (set_is m q now) ∙ quota-valid

        -- the words after the change
        pub quota-stored :
            (ws : List ℕ) → ws ≡ gcra_words u g → put_mid 19 3 r ws ≡ quota_row u now rate r
        quota-stored ws e =
            meter-stored u r key g ws h.exact e
            ∙ ap (λ (x : Gcra). key_words u (with_meter key x))
            (eg ∙ (λ i. set_quota ((em ∙ sym (meter-words u r)) i) ((eq ∙ ap (per_second u rate) (sym (burst-word u r))) i) now))

-- a key's words are so many
pub lent_long : (r : List ℕ) → LentKey units r → length r ≡ 22
lent_long r h = row-long units units-accepted r h

pub lent_unpacks : (r : List ℕ) → LentKey units r → unpacks (get_or r 19 0) ≡ true
lent_unpacks r h = word-unpacks units units-accepted r h

-- ---- all keys
module _ (u : Units) (p : RateTerms) (es : List HotEntry) (ts : List Float) (now : ℕ) where
  abbrev all_set : List Bool → List KeyRecord → List KeyRecord
  all_set bs ks = requoted u p es ts now bs ks

  -- as many
  pub requoted-many : (bs : List Bool) (ks : List KeyRecord) → length ks ≤ length bs → length (all_set bs ks) ≡ length ks
  unfolding requoted
  requoted-many [] [] h = refl
  requoted-many [] (k ∷ ks) h = absurd (not-suc-le-zero h)
  requoted-many (b ∷ bs) [] h = refl
  requoted-many (b ∷ bs) (k ∷ ks) h = ap suc (requoted-many bs ks (le_of_suc-le-suc h))

  -- each in its place
  requoted-here :
      (d : KeyRecord) (bs : List Bool) (ks : List KeyRecord) (i : ℕ) → i < length ks → length ks ≤ length bs
      → get_or (all_set bs ks) i d ≡ with_rate u (rate_by p es ts (get_or bs i false) (get_or ks i d)) now (get_or ks i d)
  unfolding requoted
  requoted-here d bs [] i h l = absurd (not-suc-le-zero h)
  requoted-here d [] (k ∷ ks) i h l = absurd (not-suc-le-zero l)
  requoted-here d (b ∷ bs) (k ∷ ks) zero h l = refl
  requoted-here d (b ∷ bs) (k ∷ ks) (suc i) h l = requoted-here d bs ks i (le_of_suc-le-suc h) (le_of_suc-le-suc l)

  -- a key above others is above them still
  beyond-set : (j : ℕ) (bs : List Bool) (ks : List KeyRecord) → beyond key_of_key j ks ≡ true → beyond key_of_key j (all_set bs ks) ≡ true
  unfolding requoted all
  beyond-set j [] ks e = refl
  beyond-set j (b ∷ bs) [] e = refl
  beyond-set j (b ∷ bs) (k ∷ ks) e = let c = both (ltb j k.key) _ e in and_intro (ltb j k.key) _ c.0 (beyond-set j bs ks c.1)

  -- the keys ascend still
  pub requoted-rising : (bs : List Bool) (ks : List KeyRecord) → rising key_of_key ks ≡ true → rising key_of_key (all_set bs ks) ≡ true
  unfolding requoted rising
  requoted-rising [] ks e = refl
  requoted-rising (b ∷ bs) [] e = refl
  requoted-rising (b ∷ bs) (k ∷ ks) e =
      let c = both (beyond key_of_key k.key ks) _ e in
      and_intro (beyond key_of_key k.key (all_set bs ks)) _ (beyond-set k.key bs ks c.0) (requoted-rising bs ks c.1)

  -- and are valid
  pub requoted-valid : Accepted u → (bs : List Bool) (ks : List KeyRecord) → all (valid_key u) ks ≡ true → all (valid_key u) (all_set bs ks) ≡ true
  unfolding requoted all
  requoted-valid a [] ks e = refl
  requoted-valid a (b ∷ bs) [] e = refl
  requoted-valid a (b ∷ bs) (k ∷ ks) e =
      let c = both (valid_key u k) _ e in
      and_intro (valid_key u (with_rate u (rate_by p es ts b k) now k)) _
      (quota-kept u a k (per_second u (rate_by p es ts b k) k.limit.burst) now
      (per-second-valid u a (rate_by p es ts b k) k.limit.burst
      (limit-burst k.limit (key-says u k c.0).limit)) c.0)
      (requoted-valid a bs ks c.1)

  -- ---- their words in the table
  module _ (n : ℕ) (keys : List ℕ) (bs : List Bool) (h : n ≤ length bs) where
    abbrev rows : List (List ℕ)
    rows = map (key_words u) (all_set bs (key_records u n keys))

    many : length (key_records u n keys) ≡ n
    many = length-map (records 22 n keys) (key_of u) ∙ length-records 22 n keys

    pub rows-wide : Wide 22 rows
    rows-wide = wide-map (key_words u) 22 (key-long u) (all_set bs (key_records u n keys))

    pub rows-many : length rows ≡ n
    rows-many = length-map (all_set bs (key_records u n keys)) (key_words u) ∙ requoted-many bs (key_records u n keys) (omega (arith, many)) ∙ many

    pub row_at :
        (i : ℕ) → i < n → quota_row u now (rate_by p es ts (get_or bs i false) (key_of u (get_or (records 22 n keys) i [])))
        (get_or (records 22 n keys) i []) ≡ get_or rows i []
    row_at i l =
        let d : KeyRecord = key_of u [] in
        let e : get_or (key_records u n keys) i d ≡ key_of u (get_or (records 22 n keys) i []) = get_or-map (key_of u) (records 22 n keys) i [] in
        sym
        (get_d-mapped (key_words u) d [] (all_set bs (key_records u n keys)) i
        (omega (arith, requoted-many bs (key_records u n keys) (omega (arith, many)), many))
        ∙ ap (key_words u) (requoted-here d bs (key_records u n keys) i (omega (arith, many)) (omega (arith, many))
        ∙ (λ j. with_rate u (rate_by p es ts (get_or bs i false) (e j)) now (e j))))
