-- Laws: the keys folded, the hot set updated and the idle keys dropped are pass one.
use mathlib.Core.Path.{◌≡◌, refl, sym, ap, ◌∙◌, subst}
use mathlib.Core.Bool.{Bool, true}
use mathlib.Core.List.{List, [], ◌∷◌, map, zip_with}
use Prim.Native.Nat.{ℕ, ◌*◌, ◌≤◌, min}
use native.Mathlib.Nat.{mul-le-mul_right}
use native.Mathlib.Omega.{arith}
use borrow.Author.Tests.{leb-true}
use lib.Dec.{leb}
use lib.Ieee.{Float}
use lib.ListN.{length, take, drop, length-map}
use Rattle.records.specs.Records.{records, table}
use Rattle.records.proofs.Words.RecordLaws.{length-records}
use Rattle.records.proofs.Tables.TableLaws.{records-table}
use Rattle.questions.proofs.Tests.{both}
use Rattle.hot.specs.declared.hot_set.HotEntry.{HotEntry}
use Rattle.hot.specs.HotSet.Set.{Update, update_each, entry, entries, valid_size}
use Rattle.questions.specs.Lists.{all}
use Rattle.records.specs.Typed.{is_word}
use Rattle.hot.proofs.HotSet.Table.{valid-entries, asc-entries}
use Rattle.questions.proofs.ListLaws.{map-map}
use Rattle.limiter.specs.declared.Limiter.{Limiter}
use Rattle.limiter.specs.declared.Parameters.{Parameters}
use Rattle.limiter.specs.declared.pass_one.Passed.{Passed}
use Rattle.limiter.specs.State.{Settings, KeyRecord, settings_of, key_words, valid_key, units_in}
use Rattle.limiter.specs.Ticks.{Others, Settled, no_others, is_elsewhere, pass_one}
use Rattle.limiter.specs.Steps.TickSteps.{flagged, key_records, LentKeys, folded_for, folded_row, stay_flags, hot_after}
use Rattle.limiter.specs.Steps.PassOneSteps.{elsewhere_if, stays_if, update_of, set_of, updates_for, HotUpdated, staying_keys, IdleDropped, Passable, Holding, PassesOne}
use Rattle.limiter.proofs.Calls.TickValidLaws.{Settles, fold-good, settles}
use Rattle.limiter.proofs.States.KeyListLaws.{all-mapped, rising, rising-map}
use Rattle.limiter.proofs.States.RecordValidLaws.{key-valid}
use Rattle.limiter.proofs.States.StateValidLaws.{key_of_key, units-of-accepted}
use Rattle.records.proofs.Tables.TypedLaws.{past-written, length-written, records-written}
use Rattle.limiter.proofs.Walking.FoldLaws.{folded-wide, folded-many, folded-rows}
use Rattle.limiter.proofs.Walking.IdleLaws.{pass-one-is}
use Rattle.limiter.proofs.PassOne.ListLaws.{zip-mapped, flagged-map}
use Rattle.limiter.proofs.PassOne.KeyWordLaws.{keys-many}
use Rattle.limiter.proofs.PassOne.LentKeyLaws.{lent-rise, lent-are, lent_of}
use Rattle.limiter.proofs.PassOne.RewriteLaws.{Wrote, wrote_none, wrote-each, wrote-lent, wrote-read}
use Rattle.limiter.proofs.PassOne.UpdateLaws.{update_for, each_left, each-stays}
use Rattle.limiter.proofs.States.WrittenLaws.{key-long}
use Rattle.gcra.specs.declared.Units.{Units}
use Rattle.gcra.specs.Packed.{Accepted}

-- a test that all pass
all_yes : {A : Type 0} (xs : List A) → all (λ (x : A). true) xs ≡ true
unfolding all
all_yes [] = refl
all_yes (x ∷ xs) = all_yes xs

module _ (par : Parameters) (l : Limiter) (keys hot : List ℕ) (elsewhere : List Bool) (now n : ℕ) (p : Passable l keys hot elsewhere) (hn : is_word now ≡ true) where
  abbrev m : ℕ
  m = l.keys

  abbrev c : ℕ
  c = l.config.demand_time_constant

  abbrev d : ℕ
  d = par.denial_time_constant

  abbrev silent : Float
  silent = par.silent_level

  abbrev s : Settings
  s = settings_of l

  abbrev units : Units
  units = units_in l

  ok : Accepted units
  ok = units-of-accepted s

  -- ---- the keys folded
  abbrev ks : List KeyRecord
  ks = key_records units m keys

  abbrev fs : List KeyRecord
  fs = map (folded_for c d now) ks

  -- their words
  abbrev pub folded_keys : List ℕ
  folded_keys = table (map (folded_row units c d now) (records 22 m keys)) keys

  as_written : folded_keys ≡ table (map (key_words units) fs) keys
  as_written = ap (λ (rs : List (List ℕ)). table rs keys) (folded-rows units c d now m keys)

  many : length fs ≡ m
  many = length-map ks (folded_for c d now) ∙ keys-many units m keys

  fit : length fs * 22 ≤ length keys
  fit = omega (arith, ap (λ (k : ℕ). k * 22) many, p.keys_lent.fit)

  long : length folded_keys ≡ length keys
  long = ap length as_written ∙ length-written (key_words units) 22 (key-long units) fs keys fit

  rows : records 22 m folded_keys ≡ map (key_words units) fs
  rows =
      records-table 22 m (map (folded_row units c d now) (records 22 m keys)) keys (folded-wide units c d now m keys) (folded-many units c d now m keys) ∙ folded-rows units c d now m
      keys

  valids : all (valid_key units) fs ≡ true
  valids =
      all-mapped (folded_for c d now) (valid_key units) (valid_key units) ks
      (λ k v. key-valid units ok (folded_for c d now k) (fold-good par units ok s (no_others n) now n hn k v))
      p.keys_lent.valids

  rise : rising key_of_key fs ≡ true
  rise = rising-map key_of_key (folded_for c d now) (λ k. refl) ks ∙ lent-rise units m keys p.keys_lent

  folded-are : key_records units m folded_keys ≡ fs
  folded-are = lent-are units ok m fs folded_keys rows valids

  pub folded-lent : LentKeys units m folded_keys
  folded-lent = lent_of units ok m fs folded_keys rows valids (omega (arith, long, p.keys_lent.fit)) rise

  -- ---- the hot entries before
  abbrev es : List HotEntry
  es = entries l.hot hot

  hot-many : length es ≡ l.hot
  unfolding entries
  hot-many = length-map (records 6 l.hot hot) entry ∙ length-records 6 l.hot hot

  roomy : 6 * l.config.hot_set_size ≤ length hot
  unfolding valid_size
  roomy =
      let b = both (leb 1 l.config.hot_set_size) _ p.hot_lent.size in
      omega (arith, leb-true l.config.hot_set_size 64 b.1, p.hot_lent.fit)

  small : min l.config.hot_set_size 64 ≡ l.config.hot_set_size
  unfolding valid_size
  small =
      let b = both (leb 1 l.config.hot_set_size) _ p.hot_lent.size in
      omega (arith, leb-true l.config.hot_set_size 64 b.1)

  module _ (r : Passed) (hot' : List ℕ) (flags hots : List Bool) (keys' : List ℕ) (elsewhere' : List Bool)
      (u : HotUpdated par.eviction_margin silent l now n folded_keys hot elsewhere r.hot hot' flags hots)
      (x : IdleDropped units silent now m folded_keys hots flags r.keys keys' elsewhere')
      (o : Others) (q : take m elsewhere ≡ map (λ (k : KeyRecord). o.elsewhere k.key) ks)
    where
      -- ---- the updates
      abbrev is_out : KeyRecord → Bool
      is_out k = is_elsewhere par s o now n k

      told : take m elsewhere ≡ map (λ (k : KeyRecord). o.elsewhere k.key) fs
      told = q ∙ sym (map-map (λ (k : KeyRecord). o.elsewhere k.key) (folded_for c d now) ks)

      flags-are : zip_with (elsewhere_if silent) (key_records units m folded_keys) (take m elsewhere) ≡ map is_out fs
      flags-are = (λ i. zip_with (elsewhere_if silent) (folded-are i) (told i)) ∙ zip-mapped (elsewhere_if silent) (λ (k : KeyRecord). o.elsewhere k.key) fs

      updates-are : updates_for silent l n folded_keys elsewhere ≡ map (update_for par l o now n) fs
      updates-are =
          (λ i. zip_with (update_of l.config.alpha n) (folded-are i) (flags-are i))
          ∙ zip-mapped (update_of l.config.alpha n) is_out fs

      -- ---- what pass one leaves
      abbrev done : Settled
      done = pass_one par s o now n ks es

      abbrev stayed : List Bool
      stayed = stay_flags par s o now n fs es

      keys-left : done.keys ≡ flagged stayed fs
      keys-left = ap (λ (x : Settled). x.keys) (pass-one-is par s o now n ks es)

      hot-left : done.hot ≡ hot_after par s o now n fs es
      hot-left = ap (λ (x : Settled). x.hot) (pass-one-is par s o now n ks es)

      settled : Settles par units ok s o now n hn (λ (j : ℕ). true) ks done
      settled = settles par units ok s o now n hn (λ (j : ℕ). true) ks es
          (record {
            keys = p.keys_lent.valids;
            rise = lent-rise units m keys p.keys_lent;
            hot = valid-entries l.hot hot p.hot_lent.held;
            hot_rise = asc-entries l.hot hot p.hot_lent.held;
            hot_few = omega (arith, hot-many, p.hot_lent.few);
            hot-tracked = all_yes es;
          })

      -- ---- the keys that stay
      stays-are : staying_keys units silent now m folded_keys hots ≡ stayed
      stays-are =
          (λ i. zip_with (stays_if silent now) (folded-are i) (u.hot_flags i))
          ∙ ap (λ (us : List Update). zip_with (stays_if silent now) fs (update_each par.eviction_margin (set_of l) now us es).hot) updates-are
          ∙ each-stays par l o now n fs es

      left-rows : flagged (staying_keys units silent now m folded_keys hots) (records 22 m folded_keys) ≡ map (key_words units) done.keys
      left-rows =
          (λ i. flagged (stays-are i) (rows i))
          ∙ flagged-map (key_words units) stayed fs
          ∙ ap (map (key_words units)) (sym keys-left)

      count : r.keys ≡ length done.keys
      count = x.kept.count ∙ ap length left-rows ∙ length-map done.keys (key_words units)

      few : r.keys ≤ m
      few = omega (arith, count, settled.few, keys-many units m keys)

      left-words : keys' ≡ table (map (key_words units) done.keys) folded_keys
      left-words = x.kept.words ∙ ap (λ (rs : List (List ℕ)). table rs folded_keys) left-rows

      left-fit : length done.keys * 22 ≤ m * 22
      left-fit = mul-le-mul_right 22 (omega (arith, count, few))

      left-long : length keys' ≡ length keys
      left-long =
          ap length left-words
          ∙ length-written (key_words units) 22 (key-long units) done.keys folded_keys (omega (arith, left-fit, long, p.keys_lent.fit))
          ∙ long

      left-records : records 22 r.keys keys' ≡ map (key_words units) done.keys
      left-records = (λ i. records 22 (count i) (left-words i)) ∙ records-written (key_words units) 22 (key-long units) done.keys folded_keys

      left-past : drop (m * 22) keys' ≡ drop (m * 22) keys
      left-past =
          ap (drop (m * 22)) left-words
          ∙ past-written (key_words units) 22 (key-long units) done.keys folded_keys (m * 22) left-fit
          ∙ ap (drop (m * 22)) as_written
          ∙ past-written (key_words units) 22 (key-long units) fs keys (m * 22) (omega (arith, ap (λ (k : ℕ). k * 22) many))

      -- ---- the hot entries after
      hot_count : r.hot ≡ length done.hot
      hot_count =
          u.count
          ∙ ap (λ (us : List Update). length (update_each par.eviction_margin (set_of l) now us es).left) updates-are
          ∙ ap length (each_left par l o now n fs es ∙ sym hot-left)

      wrote : Wrote l.config.hot_set_size hot done.hot hot'
      wrote =
          rw (u.words, updates-are, hot-left, ← each_left par l o now n fs es)
          (wrote-each par.eviction_margin (set_of l) now hot roomy (map (update_for par l o now n) fs) es hot
          (wrote_none l.config.hot_set_size l.hot hot p.hot_lent.held (omega (arith, hot-many, p.hot_lent.few))))

      pub passed : Holding l done is_out keys hot r keys' hot' elsewhere'
      passed = record {
        key_count = count;
        keys_few = few;
        keys_lent = lent_of units ok r.keys done.keys keys' left-records settled.ready.keys
            (omega (arith, left-fit, left-long, count, p.keys_lent.fit)) settled.ready.rise;
        keys_are = lent-are units ok r.keys done.keys keys' left-records settled.ready.keys;
        keys_past = left-past;
        keys_long = left-long;
        hot_count = hot_count;
        hot_few = omega (arith, hot_count, wrote.few);
        hot_lent = wrote-lent l.config.hot_set_size r.hot hot done.hot hot' roomy hot_count wrote settled.ready.hot;
        hot_are = wrote-read l.config.hot_set_size r.hot hot done.hot hot' hot_count wrote settled.ready.hot;
        hot_past = ap (λ (k : ℕ). drop (6 * k) hot') small ∙ wrote.past ∙ ap (λ (k : ℕ). drop (6 * k) hot) (sym small);
        hot_long = wrote.long;
        flags =
            x.moved
            ∙ (λ i. flagged (stays-are i) ((u.elsewhere_flags ∙ flags-are) i))
            ∙ flagged-map is_out stayed fs
            ∙ ap (map is_out) (sym keys-left);
      }

  -- the same of words that are those of the folded keys
  module _ (ys : List ℕ) (e : ys ≡ folded_keys) where
    pub passing-lent : LentKeys units m ys
    passing-lent = subst (λ (zs : List ℕ). LentKeys units m zs) (sym e) folded-lent

    -- under parameters that are these
    pub passes : (given : Parameters) → par ≡ given → (r : Passed) (hot' : List ℕ) (flags hots : List Bool) (keys' : List ℕ) (elsewhere' : List Bool)
        → HotUpdated given.eviction_margin silent l now n ys hot elsewhere r.hot hot' flags hots → IdleDropped units silent now m ys hots flags r.keys keys' elsewhere'
        → PassesOne given l now n keys hot elsewhere r keys' hot' elsewhere'
    passes given z r hot' flags hots keys' elsewhere' u x =
        subst (λ (y : Parameters). PassesOne y l now n keys hot elsewhere r keys' hot' elsewhere') z
        (λ o q.
        passed r hot' flags hots keys' elsewhere'
        (subst (λ (zs : List ℕ). HotUpdated par.eviction_margin silent l now n zs hot elsewhere r.hot hot' flags hots) e
        (subst (λ (y : Parameters). HotUpdated y.eviction_margin silent l now n ys hot elsewhere r.hot hot' flags hots) (sym z) u))
        (subst (λ (zs : List ℕ). IdleDropped units silent now m zs hots flags r.keys keys' elsewhere') e x) o q)
