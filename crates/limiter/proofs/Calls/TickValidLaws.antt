-- A tick leaves a limiter's state valid, whatever the others hold hot and whatever shares it is given.
use mathlib.Core.Path.{◌≡◌, refl, sym, ap, ◌∙◌}
use mathlib.Core.Bool.{Bool, true, false, cond, not, ◌||◌, or_assoc}
use mathlib.Core.List.{List, [], ◌∷◌}
use Prim.Native.Nat.{ℕ, ◌-◌, ◌≤◌}
use native.Mathlib.Omega.{arith}
use borrow.Author.Tests.{eqb-true, not-true}
use lib.Dec.{ltb, eqb}
use lib.ListN.{length, length-map}
use Rattle.questions.proofs.Tests.{contradiction, split, both, and_intro, eqb-self, or_right}
use Rattle.gcra.specs.declared.Units.{Units}
use Rattle.gcra.specs.declared.Quota.{Quota}
use Rattle.gcra.specs.Packed.{Accepted, valid_quota}
use Rattle.gcra.specs.Rate.{set_quota}
use Rattle.gcra.proofs.Rate.Rates.{per-second-valid}
use Rattle.hot.specs.declared.hot_set.HotEntry.{HotEntry}
use Rattle.hot.specs.HotSet.Set.{Outcome, valid_entry, is_hot}
use Rattle.questions.specs.Lists.{all, any, only}
use Rattle.records.specs.Typed.{is_word}
use Rattle.hot.proofs.HotSet.Map.{Asc, cold-misses, all-hot}
use Rattle.hot.proofs.HotSet.Tests.{cooled-key}
use Rattle.hot.proofs.HotSet.Theorems.{Kept, kept-update}
use Rattle.hot.proofs.HotSet.ValidLaws.{updated-valid}
use Rattle.questions.proofs.OnlyLaws.{all-only, only-passes, all-imply, all_two, length-only}
use Rattle.questions.proofs.ListLaws.{all_take}
use Rattle.limiter.specs.declared.Parameters.{Parameters}
use Rattle.limiter.specs.State.{Settings, KeyRecord, ShadowRecord, LimiterState, is_tracked, valid_key, valid_shadow, valid}
use Rattle.limiter.specs.Ticks.{Others, Settled, insert, sorted, is_elsewhere, folded_key, cold_rate, hot_set, updated, stays, pass_one, rate_of, quota_of, with_quota, pass_two, weaker_key, victims, capped, after_passes, tick_with}
use Rattle.limiter.proofs.States.KeyListLaws.{or_left, not_left, any_none, all-mapped, beyond, rising, rising-only, rising-map, has-only, has-map}
use Rattle.limiter.proofs.States.RecordValidLaws.{limit-burst, folded-good, set-good, GoodKey, key-says, key-valid}
use Rattle.limiter.proofs.States.StateValidLaws.{key_of_key, key_of_shadow, ValidState, valid-says, valid-intro}
use Rattle.hot.proofs.HotSet.EntryLaws.{all-updated}

-- ---- tests joined by 'or'
or-without : (a b c : Bool) → ((a || b) || c) ≡ true → not b ≡ true → (a || c) ≡ true
or-without true b c e n = refl
or-without false true c e n = contradiction (sym n)
or-without false false c e n = e

-- the middle one suffices
or-middle : (a b c : Bool) → b ≡ true → ((a || b) || c) ≡ true
or-middle a b c e = or_left (a || b) c (or_right a b e)

-- ---- a list in an order has the same elements
module _ {A : Type 0} (before : A → A → Bool) (p : A → Bool) where
  pub all_insert : (x : A) (ys : List A) → p x ≡ true → all p ys ≡ true → all p (insert before x ys) ≡ true
  unfolding insert all
  all_insert x [] h a = and_intro (p x) true h refl
  all_insert x (y ∷ ys) h a =
      let b = both (p y) (all p ys) a in
      split (before y x)
      (λ e. rw e (and_intro (p y) _ b.0 (all_insert x ys h b.1)))
      (λ e. rw e (and_intro (p x) _ h a))

  -- sorted, all pass still
  pub all-sorted : (xs : List A) → all p xs ≡ true → all p (sorted before xs) ≡ true
  unfolding sorted all
  all-sorted [] a = refl
  all-sorted (x ∷ xs) a =
      let b = both (p x) (all p xs) a in
      all_insert x (sorted before xs) b.0 (all-sorted xs b.1)

-- a key stays valid under another valid quota
pub quota-kept :
    (u : Units) → Accepted u → (k : KeyRecord) (q : Quota) (now : ℕ) → valid_quota u q ≡ true → valid_key u k ≡ true
    → valid_key u (record { key = k.key; limit = k.limit; demand = k.demand; requests = k.requests; denials = k.denials; shadow_denials = k.shadow_denials; gcra = set_quota k.gcra q now }) ≡ true
quota-kept u a k q now w v =
    let g = key-says u k v in
    key-valid u a _
    (record {
      key = g.key;
      limit = g.limit;
      demand = g.demand;
      requests = g.requests;
      denials = g.denials;
      shadow_denials = g.shadow_denials;
      gcra = set-good u k.gcra q now w g.gcra;
    })

module _ (par : Parameters) (u : Units) (a : Accepted u) (s : Settings) (o : Others) (now n : ℕ) (hn : is_word now ≡ true) where
  -- the most hot keys
  abbrev size : ℕ
  size = s.config.hot_set_size

  -- ---- pass one

  -- a key with its estimators folded
  abbrev fold : KeyRecord → KeyRecord
  fold k = folded_key par s o now n k

  -- a valid key's estimators stay finite with a clear sign bit
  pub fold-good : (k : KeyRecord) → valid_key u k ≡ true → GoodKey u (fold k)
  fold-good k v =
      let g = key-says u k v in
      record {
        key = g.key;
        limit = g.limit;
        demand = folded-good _ now k.demand hn g.demand;
        requests = folded-good _ now k.requests hn g.requests;
        denials = folded-good _ now k.denials hn g.denials;
        shadow_denials = folded-good _ now k.shadow_denials hn g.shadow_denials;
        gcra = g.gcra;
      }

  -- keys still to come and the hot entries so far, each of a key still to come or kept before
  pub record Ready (kept : ℕ → Bool) (ks : List KeyRecord) (es : List HotEntry) : Type 0 where
    pub keys : all (valid_key u) ks ≡ true
    pub rise : rising key_of_key ks ≡ true
    pub hot : all valid_entry es ≡ true
    pub hot_rise : Asc es
    pub hot_few : length es ≤ size
    pub hot-tracked : all (λ (e : HotEntry). kept e.key || is_tracked ks e.key) es ≡ true

  -- what pass one leaves of them
  pub record Settles (kept : ℕ → Bool) (ks : List KeyRecord) (r : Settled) : Type 0 where
    pub ready : Ready kept r.keys r.hot
    pub few : length r.keys ≤ length ks
    pub above : (j : ℕ) → beyond key_of_key j ks ≡ true → beyond key_of_key j r.keys ≡ true

  -- one key's update
  module _ (kept : ℕ → Bool) (k : KeyRecord) (ks : List KeyRecord) (es : List HotEntry) (r : Ready kept (k ∷ ks) es) where
    good : GoodKey u (fold k)
    unfolding all
    good = fold-good k (both (valid_key u k) _ r.keys).0

    -- what its update gives
    abbrev out : Outcome
    out = updated par s o now n (fold k) es

    -- the hot set's own law of an update
    out-kept : Kept size k.key out
    out-kept =
        kept-update par.eviction_margin (hot_set par s o now n es) k.key (fold k).demand.rate (cold_rate par s o now n k.limit) now (is_elsewhere par s o now n (fold k))
        es r.hot_rise r.hot_few

    -- every entry stays valid
    out-valid : all valid_entry out.left ≡ true
    out-valid =
        updated-valid par.eviction_margin (hot_set par s o now n es) k.key (fold k).demand.rate (cold_rate par s o now n k.limit) now (is_elsewhere par s o now n (fold k)) es
        (record { key_word = good.key; demand_f64 = good.demand.rate; finite = good.demand.finite; now_word = hn })
        r.hot

    -- each entry's key is kept before, this one, or still to come
    out-tracked : all (λ (e : HotEntry). (kept e.key || eqb k.key e.key) || is_tracked ks e.key) out.left ≡ true
    unfolding is_tracked any
    out-tracked =
        all-updated (λ (e : HotEntry). (kept e.key || eqb k.key e.key) || is_tracked ks e.key) par.eviction_margin s.config.cooldown size k.key (fold k).demand.rate now
        (λ primary. or-middle (kept k.key) (eqb k.key k.key) (is_tracked ks k.key) (eqb-self k.key))
        (λ primary e h. h)
        (λ e h. ap (λ (j : ℕ). (kept j || eqb k.key j) || is_tracked ks j) (cooled-key s.config.cooldown (fold k).demand.rate now e) ∙ h)
        (hot_set par s o now n es) refl refl (cold_rate par s o now n k.limit) (is_elsewhere par s o now n (fold k)) es
        (all-imply (λ (e : HotEntry). kept e.key || is_tracked (k ∷ ks) e.key) (λ (e : HotEntry). (kept e.key || eqb k.key e.key) || is_tracked ks e.key) es
        (λ e h. or_assoc (kept e.key) (eqb k.key e.key) (is_tracked ks e.key) ∙ h) r.hot-tracked)

    -- the key stays: it counts as kept
    stays-ready : Ready (λ (j : ℕ). kept j || eqb k.key j) ks out.left
    unfolding all rising
    stays-ready = record {
      keys = (both (valid_key u k) _ r.keys).1;
      rise = (both (beyond key_of_key k.key ks) _ r.rise).1;
      hot = out-valid;
      hot_rise = out-kept.ascends;
      hot_few = out-kept.bound;
      hot-tracked = out-tracked;
    }

    -- it is dropped: it is not hot then
    dropped-ready : out.hot ≡ false → Ready kept ks out.left
    unfolding all rising
    dropped-ready cold = record {
      keys = (both (valid_key u k) _ r.keys).1;
      rise = (both (beyond key_of_key k.key ks) _ r.rise).1;
      hot = out-valid;
      hot_rise = out-kept.ascends;
      hot_few = out-kept.bound;
      hot-tracked =
          all_two (λ (e : HotEntry). (kept e.key || eqb k.key e.key) || is_tracked ks e.key) (λ (e : HotEntry). not (eqb k.key e.key)) (λ (e : HotEntry). kept e.key || is_tracked ks e.key) out.left
          (λ e h m. or-without (kept e.key) (eqb k.key e.key) (is_tracked ks e.key) h m) out-tracked (cold-misses k.key out.left (out-kept.says ∙ cold));
    }

    module _ (rest : Settled) where
      stays-settles : Settles (λ (j : ℕ). kept j || eqb k.key j) ks rest → Settles kept (k ∷ ks) (record { keys = fold k ∷ rest.keys; hot = rest.hot })
      unfolding all rising is_tracked any
      stays-settles t =
          let b = both (beyond key_of_key k.key ks) _ r.rise in
          record {
            ready = record {
              keys = and_intro (valid_key u (fold k)) _ (key-valid u a (fold k) good) t.ready.keys;
              rise = and_intro (beyond key_of_key k.key rest.keys) _ (t.above k.key b.0) t.ready.rise;
              hot = t.ready.hot;
              hot_rise = t.ready.hot_rise;
              hot_few = t.ready.hot_few;
              hot-tracked =
                  all-imply (λ (e : HotEntry). (kept e.key || eqb k.key e.key) || is_tracked rest.keys e.key) (λ (e : HotEntry). kept e.key || is_tracked (fold k ∷ rest.keys) e.key) rest.hot
                  (λ e h. sym (or_assoc (kept e.key) (eqb k.key e.key) (is_tracked rest.keys e.key)) ∙ h) t.ready.hot-tracked;
            };
            few = omega (arith, t.few);
            above = λ j h. let c = both (ltb j k.key) (beyond key_of_key j ks) h in and_intro (ltb j k.key) _ c.0 (t.above j c.1);
          }

      dropped-settles : Settles kept ks rest → Settles kept (k ∷ ks) rest
      unfolding all
      dropped-settles t = record {
        ready = t.ready;
        few = omega (arith, t.few);
        above = λ j h. t.above j (both (ltb j k.key) (beyond key_of_key j ks) h).1;
      }

  -- key by key
  pub settles : (kept : ℕ → Bool) (ks : List KeyRecord) (es : List HotEntry) → Ready kept ks es → Settles kept ks (pass_one par s o now n ks es)
  unfolding pass_one
  settles kept [] es r = record { ready = r; few = omega arith; above = λ j h. h }
  settles kept (k ∷ ks) es r =
      by (stays par s o now n (fold k) (out kept k ks es r).hot) refl
      (settles (λ (j : ℕ). kept j || eqb k.key j) ks (out kept k ks es r).left (stays-ready kept k ks es r))
      (λ cold. settles kept ks (out kept k ks es r).left (dropped-ready kept k ks es r cold))
    where
      rest : Settled
      rest = pass_one par s o now n ks (out kept k ks es r).left

      by : (b : Bool) → stays par s o now n (fold k) (out kept k ks es r).hot ≡ b
          → Settles (λ (j : ℕ). kept j || eqb k.key j) ks rest
          → ((out kept k ks es r).hot ≡ false → Settles kept ks rest)
          → Settles kept (k ∷ ks) (record { keys = cond b (fold k ∷ rest.keys) rest.keys; hot = rest.hot })
      by true h t f = stays-settles kept k ks es r rest t
      by false h t f = dropped-settles kept k ks es r rest (f (not_left (out kept k ks es r).hot _ h))

  -- ---- pass two

  -- every rate gives a valid quota, a NaN and an infinite one too
  rate-kept : (es : List HotEntry) (k : KeyRecord) → valid_key u k ≡ true → valid_key u (with_quota par s o now n u es k) ≡ true
  rate-kept es k v =
      quota-kept u a k (quota_of par s o now n u es k) now
      (per-second-valid u a (rate_of par s o now n es k) k.limit.burst (limit-burst k.limit (key-says u k v).limit)) v

  -- ---- the tracked-key cap

  -- a hot key is no victim
  spared : (es : List HotEntry) (ks : List KeyRecord) (j : ℕ) → is_hot j es ≡ true → is_tracked (victims par s o now n es ks) j ≡ false
  unfolding victims is_tracked
  spared es ks j h =
      let cold : KeyRecord → Bool = λ (k : KeyRecord). not (is_hot k.key es) in
      any_none (λ (k : KeyRecord). eqb k.key j) cold (victims par s o now n es ks)
      (all_take cold (length ks - s.config.max_tracked_keys) (sorted (weaker_key par s o now n) (only cold ks)) (all-sorted (weaker_key par s o now n) cold (only cold ks) (only-passes cold ks)))
      (λ k c. split (eqb k.key j)
      (λ e. contradiction (sym h ∙ sym (ap (λ (i : ℕ). is_hot i es) (eqb-true k.key j e)) ∙ not-true (is_hot k.key es) c))
      (λ e. e))

  -- so it stays tracked
  hot-stays : (es : List HotEntry) (ks : List KeyRecord) (j : ℕ) → is_hot j es ≡ true → is_tracked ks j ≡ true → is_tracked (capped par s o now n es ks) j ≡ true
  unfolding capped is_tracked
  hot-stays es ks j h t =
      has-only key_of_key (λ (k : KeyRecord). not (is_tracked (victims par s o now n es ks) k.key)) ks j
      (λ k e. ap (λ (i : ℕ). not (is_tracked (victims par s o now n es ks) i)) (eqb-true k.key j e) ∙ ap not (spared es ks j h))
      t

  -- ---- the whole tick
  module _ (keys : List KeyRecord) (hot : List HotEntry) (shadows : List ShadowRecord) (v : ValidState u (record { settings = s; keys = keys; hot = hot; shadows = shadows })) where
    abbrev pub done : Settled
    done = pass_one par s o now n keys hot

    -- pass one of the whole state
    first : Settles (λ (j : ℕ). false) keys done
    first = settles (λ (j : ℕ). false) keys hot (record { keys = v.keys; rise = v.keys_rise; hot = v.hot; hot_rise = v.hot_rise; hot_few = v.hot_few; hot-tracked = v.hot-tracked })

    -- the keys after pass two
    abbrev pub second : List KeyRecord
    second = pass_two par s o now n u done.hot done.keys

    -- they are valid
    second-keys : all (valid_key u) second ≡ true
    second-keys = all-mapped (with_quota par s o now n u done.hot) (valid_key u) (valid_key u) done.keys (rate-kept done.hot) first.ready.keys

    -- they rise
    pub second-rise : rising key_of_key second ≡ true
    second-rise = rising-map key_of_key (with_quota par s o now n u done.hot) (λ k. refl) done.keys ∙ first.ready.rise

    -- they are no more than before
    second-few : length second ≤ length keys
    second-few = omega (arith, length-map done.keys (with_quota par s o now n u done.hot), first.few)

    -- they have the keys of pass one
    second-tracks : (j : ℕ) → is_tracked done.keys j ≡ true → is_tracked second j ≡ true
    unfolding is_tracked
    second-tracks j h = has-map key_of_key (with_quota par s o now n u done.hot) (λ k. refl) j done.keys ∙ h

    -- the keys after the cap
    abbrev third : List KeyRecord
    third = capped par s o now n done.hot second

    -- hot keys stay tracked
    third-tracks : all (λ (e : HotEntry). is_tracked third e.key) done.hot ≡ true
    third-tracks =
        all_two (λ (e : HotEntry). is_hot e.key done.hot) (λ (e : HotEntry). is_tracked done.keys e.key) (λ (e : HotEntry). is_tracked third e.key) done.hot
        (λ e h t. hot-stays done.hot second e.key h (second-tracks e.key t)) (all-hot done.hot) first.ready.hot-tracked

    -- all of it together
    pub ticked-valid : ValidState u (after_passes par s o now n u shadows done)
    unfolding capped
    ticked-valid =
        let spare : KeyRecord → Bool = λ (k : KeyRecord). not (is_tracked (victims par s o now n done.hot second) k.key) in
        let tracked : ShadowRecord → Bool = λ (x : ShadowRecord). is_tracked third x.key in
        record {
          settings = record { config = v.settings.config; cap = v.settings.cap; last_tick = hn };
          few = omega (arith, length-only spare second, second-few, v.few);
          keys = all-only (valid_key u) spare second second-keys;
          keys_rise = rising-only key_of_key spare second second-rise;
          hot_few = first.ready.hot_few;
          hot = first.ready.hot;
          hot_rise = first.ready.hot_rise;
          hot-tracked = third-tracks;
          shadows = all-only (valid_shadow u) tracked shadows v.shadows;
          shadows_rise = rising-only key_of_shadow tracked shadows v.shadows_rise;
          shadows-tracked = only-passes tracked shadows;
        }

-- any others, any reading that is a word, any cluster size
pub tick-valid : (par : Parameters) (u : Units) → Accepted u → (o : Others) (now n : ℕ) (s : LimiterState) → is_word now ≡ true → valid u s ≡ true → valid u (tick_with par u o now n s) ≡ true
unfolding tick_with
tick-valid par u a o now n s hn e =
    valid-intro u (tick_with par u o now n s) (ticked-valid par u a s.settings o now n hn s.keys s.hot s.shadows (valid-says u s e))
