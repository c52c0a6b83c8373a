-- Laws: quotas, the cap and the shadows, one after the other.
use mathlib.Core.Path.{◌≡◌, sym, ap, ◌∙◌}
use mathlib.Core.Bool.{Bool, true}
use mathlib.Core.List.{List, map}
use Prim.Native.Nat.{ℕ, ◌*◌, ◌≤◌}
use native.Mathlib.Omega.{arith}
use lib.Ieee.{Float}
use lib.ListN.{length, length-map}
use Rattle.records.specs.Records.{records, table}
use Rattle.records.proofs.Words.RecordLaws.{length-records}
use Rattle.gcra.specs.Packed.{Accepted}
use Rattle.gcra.specs.declared.Units.{Units}
use Rattle.hot.specs.declared.hot_set.HotEntry.{HotEntry}
use Rattle.hot.specs.HotSet.Set.{entries}
use Rattle.questions.specs.Lists.{all, only}
use Rattle.records.specs.Typed.{Tabled}
use Rattle.questions.proofs.OnlyLaws.{all-only, length-only}
use Rattle.limiter.specs.declared.pass_two.RateTerms.{RateTerms}
use Rattle.limiter.specs.declared.Limiter.{Limiter}
use Rattle.limiter.specs.State.{KeyRecord, is_tracked, key_words, valid_key, units_in, settings_of, key_of}
use Rattle.limiter.specs.Steps.TickSteps.{key_records, stays_under, LentKeys, shadow_key}
use Rattle.limiter.specs.Steps.PassTwoSteps.{terms_of, requoted, Finishing, keys_left, shadows_left, Finished}
use Rattle.limiter.proofs.States.KeyListLaws.{rising, rising-only}
use Rattle.limiter.proofs.States.StateValidLaws.{key_of_key, units-of-accepted}
use Rattle.records.proofs.Tables.TypedLaws.{records-written, length-written}
use Rattle.limiter.proofs.States.WrittenLaws.{key-long}
use Rattle.limiter.proofs.Walking.CapLaws.{cap-leaves}
use Rattle.limiter.proofs.PassTwo.QuotaLaws.{requoted-many, requoted-rising, requoted-valid}
use Rattle.limiter.proofs.PassOne.LentKeyLaws.{lent-rise, lent-are, lent_of}
use Rattle.std.specs.declared.option.Option.TheVariants.{Some}

-- valid keys that ascend, written to a table's front, stand there
lent-as :
    (u : Units) → Accepted u → (ks : List KeyRecord) → all (valid_key u) ks ≡ true → rising key_of_key ks ≡ true → (xs : List ℕ) → length ks * 22 ≤ length xs
    → (n : ℕ) (ys : List ℕ) → n ≡ length ks → ys ≡ table (map (key_words u) ks) xs → LentKeys u n ys × (key_records u n ys ≡ ks)
lent-as u a ks v r xs h n ys e q =
    let rows : records 22 n ys ≡ map (key_words u) ks =
    (λ i. records 22 (e i) (q i)) ∙ records-written (key_words u) 22 (key-long u) ks xs in
    let long : length ys ≡ length xs = ap length q ∙ length-written (key_words u) 22 (key-long u) ks xs h in
    (lent_of u a n ks ys rows v (omega arith) r, lent-are u a n ks ys rows v)

module _ (l : Limiter) (keys : List ℕ) (n : ℕ) (hot : List ℕ) (h : ℕ) (shadows : List ℕ) (flags : List Bool) (totals : List Float) (size : ℕ)
    (even : Bool) (now : ℕ)
    (f : Finishing l keys n hot h shadows flags totals size) where
  abbrev u : Units
  u = units_in l

  ok : Accepted u
  ok = units-of-accepted (settings_of l)

  abbrev es : List HotEntry
  es = entries h hot

  abbrev ks : List KeyRecord
  ks = key_records u n keys

  -- the keys with their quotas
  abbrev set : List KeyRecord
  set = requoted u (terms_of l even size) es totals now flags ks

  many : length ks ≡ n
  many = length-map (records 22 n keys) (key_of u) ∙ length-records 22 n keys

  pub set-many : length set ≡ n
  set-many = requoted-many u (terms_of l even size) es totals now flags ks (omega (arith, many, f.flags_fit)) ∙ many

  set-valid : all (valid_key u) set ≡ true
  set-valid = requoted-valid u (terms_of l even size) es totals now ok flags ks f.keys_lent.valids

  set-rising : rising key_of_key set ≡ true
  set-rising = requoted-rising u (terms_of l even size) es totals now flags ks (lent-rise u n keys f.keys_lent)

  set-fits : length set * 22 ≤ length keys
  set-fits = omega (arith, set-many, f.keys_lent.fit)

  -- by terms that are worked out
  pub set-as :
      (keys₂ : List ℕ) (p : RateTerms) → p ≡ terms_of l even size → keys₂ ≡ table (map (key_words u) (requoted u p es totals now flags ks)) keys
      → keys₂ ≡ table (map (key_words u) set) keys
  set-as keys₂ p q e = e ∙ ap (λ (x : RateTerms). table (map (key_words u) (requoted u x es totals now flags ks)) keys) q

  -- quotas are set
  module _ (keys₂ : List ℕ) (e : keys₂ ≡ table (map (key_words u) set) keys) where
    second : LentKeys u n keys₂ × (key_records u n keys₂ ≡ set)
    second = lent-as u ok set set-valid set-rising keys set-fits n keys₂ (sym set-many) e

    pub quotas-lent : LentKeys u n keys₂
    quotas-lent = second.0

    second-long : length keys₂ ≡ length keys
    second-long = ap length e ∙ length-written (key_words u) 22 (key-long u) set keys set-fits

    -- the cap is kept
    module _ (m : ℕ) (keys₃ : List ℕ)
        (t : Tabled m (only (λ (x : List ℕ). stays_under l.config.demand_time_constant l.config.max_tracked_keys es (key_records u n keys₂)
        (key_of u x)) (records 22 n keys₂)) keys₂ keys₃) where
      abbrev left : List KeyRecord
      left = keys_left l es set

      rows_left :
          only (λ (x : List ℕ). stays_under l.config.demand_time_constant l.config.max_tracked_keys es (key_records u n keys₂)
          (key_of u x)) (records 22 n keys₂) ≡ map (key_words u) left
      rows_left =
          cap-leaves u n keys₂ quotas-lent l.config.demand_time_constant l.config.max_tracked_keys es
          ∙ ap (λ (zs : List KeyRecord). map (key_words u) (keys_left l es zs)) second.1

      pub left-many : m ≡ length left
      left-many = t.count ∙ ap length rows_left ∙ length-map left (key_words u)

      left-words : keys₃ ≡ table (map (key_words u) left) keys₂
      left-words = t.words ∙ ap (λ (rs : List (List ℕ)). table rs keys₂) rows_left

      third : LentKeys u m keys₃ × (key_records u m keys₃ ≡ left)
      third =
          lent-as u ok left (all-only (valid_key u) _ set set-valid) (rising-only key_of_key _ set set-rising) keys₂
          (omega (
            arith,
            length-only (stays_under l.config.demand_time_constant l.config.max_tracked_keys es set) set,
            set-fits,
            second-long,
          )) m keys₃ left-many left-words

      pub cap-lent : LentKeys u m keys₃
      cap-lent = third.0

      -- shadows go with their keys
      pub finished :
          (j : ℕ) (shadows₂ : List ℕ) → Tabled j (only (λ (x : List ℕ). is_tracked (key_records u m keys₃) (shadow_key u x))
          (records 4 l.shadows shadows)) shadows shadows₂
          → Finished l keys es h shadows set now (record { config = l.config; cap = l.cap; last_tick = Some now; keys = m; hot = h; shadows = j })
          keys₃ shadows₂
      finished j shadows₂ s =
          let q : only (λ (x : List ℕ). is_tracked (key_records u m keys₃) (shadow_key u x)) (records 4 l.shadows shadows) ≡ shadows_left l left shadows =
          ap (λ (zs : List KeyRecord). shadows_left l zs shadows) third.1 in
          record {
            value =
                (λ i. record {
                  config = l.config;
                  cap = l.cap;
                  last_tick = Some now;
                  keys = left-many i;
                  hot = h;
                  shadows =
                      (s.count ∙ ap length q) i;
                });
            keys-left = left-words ∙ ap (table (map (key_words u) left)) e;
            shadows-left = s.words ∙ ap (λ (rs : List (List ℕ)). table rs shadows) q;
          }
