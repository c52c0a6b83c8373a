-- What a check, a record or a tick does to a key is a turn; and it drops no key with debt, but for the tracked-key cap.
use Prim.Native.Nat.{ℕ}
use mathlib.Core.Path.{◌≡◌, refl, ap, ◌∙◌, subst}
use mathlib.Core.Bool.{Bool, true, false, cond, not, true≢false}
use mathlib.Core.List.{List, [], ◌∷◌, map}
use borrow.Author.Tests.{eqb-true}
use lib.Dec.{leb, eqb}
use lib.ListN.{length}
use Rattle.records.specs.Records.{ascending}
use Rattle.questions.proofs.Tests.{split, both, or-false}
use Rattle.gcra.specs.declared.Gcra.{Gcra}
use Rattle.gcra.specs.Packed.{valid_burst, valid_quota}
use Rattle.gcra.specs.Meter.{has_debt}
use Rattle.gcra.proofs.Meter.Checks.{no-debt}
use Rattle.gcra.proofs.Rate.Rates.{per-second-valid}
use Rattle.gcra.specs.declared.Units.{Units}
use Rattle.hot.specs.declared.hot_set.HotEntry.{HotEntry}
use Rattle.questions.specs.Lists.{all, first, those}
use Rattle.records.specs.Typed.{is_word}
use Rattle.questions.proofs.ListLaws.{mapped, those-map, first-map}
use Rattle.records.proofs.Order.AscendingLaws.{asc-rest}
use Rattle.limiter.specs.declared.Limit.{Limit}
use Rattle.limiter.specs.State.{parameters_of, Settings, KeyRecord, LimiterState, key_with, put_key, is_tracked, settings_words, key_words, valid_limit, valid_settings, valid_key, valid_keys, valid, units_of}
use Rattle.limiter.specs.Checks.{cold_quota, new_key, found_or, entry, own_limit}
use Rattle.limiter.specs.Ticks.{Others, Settled, folded_key, updated, stays, pass_one, rate_of, quota_of, with_quota, pass_two, victims, capped, tick_with}
use Rattle.limiter.specs.Readers.{of_key}
use Rattle.limiter.proofs.States.RecordValidLaws.{limit-burst}
use Rattle.run.specs.Seen as seen
use Rattle.run.specs.Trace.{meter_in, if_key}
use Rattle.run.proofs.Count.Turns.{Gate, unchecked, Turn, absent, drops, makes, keeps, sets}
use Rattle.limiter.proofs.States.KeyLaws.{key_of, found_here, found-later, found_nowhere, found-only, put-own, put_other, only-once}
use Rattle.limiter.proofs.States.StateValidLaws.{units-of-accepted}
use Rattle.std.specs.declared.option.Option.{Option}
use Rattle.std.specs.declared.option.Option.TheVariants.{None, Some}

-- a turn at the units u; and the key stays, or has no debt at the reading, where the cap spares it
pub record Acts (u : Units) (Spared : Type 0) (t : ℕ) (m : Option Gcra) (a : ℕ) (m' : Option Gcra) : Type 0 where
  pub turn : Turn u t m a m'
  pub kept : Spared → seen.stays t m m'

abbrev meter : KeyRecord → Gcra
meter k = k.gcra

-- A call may leave the key as it is.
pub unmoved : {u : Units} {S : Type 0} {t : ℕ} (m : Option Gcra) → Acts u S t m 0 m
unmoved None = record { turn = absent; kept = λ s. tt }
unmoved (Some g) = record { turn = keeps unchecked; kept = λ s. tt }

-- ---- what validity says

-- The burst of the settings' limit is valid.
pub own-burst : (s : LimiterState) → valid (units_of s.settings) s ≡ true → valid_burst (own_limit s).burst ≡ true
unfolding valid valid_settings
own-burst s v =
    let settings = (both (valid_settings s.settings) _ v).0 in
    limit-burst (own_limit s) (both (valid_limit (own_limit s)) _ (both (all is_word (settings_words s.settings)) _ settings).1).0

-- And a key's.
key-burst : (u : Units) (k : KeyRecord) → valid_key u k ≡ true → valid_burst k.limit.burst ≡ true
unfolding valid_key
key-burst u k v = limit-burst k.limit (both (valid_limit k.limit) _ (both (all is_word (key_words u k)) _ v).1).0

-- Keys are valid and ascend.
valid-keys : (s : LimiterState) → valid (units_of s.settings) s ≡ true
    → (all (valid_key (units_of s.settings)) s.keys ≡ true) × (ascending 1 (map (key_words (units_of s.settings)) s.keys) ≡ true)
unfolding valid valid_keys
valid-keys s v =
    let c = s.settings.config in
    let keys = (both (valid_keys (units_of s.settings) c s.keys) _ (both (valid_settings s.settings) _ v).1).0 in
    both (all (valid_key (units_of s.settings)) s.keys) _ (both (leb (length s.keys) c.table_size) _ keys).1

-- ---- a key that is found or made

-- A new key's quota is valid.
cold-valid : (s : Settings) (x : Limit) (n : ℕ) → valid_burst x.burst ≡ true → valid_quota (units_of s) (cold_quota (units_of s) s x n) ≡ true
unfolding cold_quota
cold-valid s x n b = per-second-valid (units_of s) (units-of-accepted s) _ x.burst b

module _ (s : LimiterState) (k : ℕ) (x : Limit) (now n : ℕ) where
  abbrev new : KeyRecord
  new = new_key (units_of s.settings) s.settings k x now n

  -- A key that is found keeps its meter, and one that is made has a new one.
  found-or-made : valid_burst x.burst ≡ true → (o : Option KeyRecord) {a : ℕ} {h : Gcra} → Gate now (found_or new x o).gcra a h
      → Turn (units_of s.settings) now (of_key meter o) a (Some h)
  found-or-made b None gate = makes (cold-valid s.settings x n b) gate
  found-or-made b (Some y) gate = keeps gate

-- A call on the key k that puts its record back, checked at most once, is a turn of each key.
pub entered :
    {S : Type 0} (key : ℕ) (s : LimiterState) (k : ℕ) (x : Limit) (now n : ℕ) → valid_burst x.burst ≡ true → {a : ℕ} (r : KeyRecord) → r.key ≡ k
    → Gate now (entry (units_of s.settings) s k x now n).gcra a r.gcra
    → Acts (units_of s.settings) S now (meter_in key s) (if_key key k a) (of_key meter (key_with key (put_key r s.keys)))
unfolding entry
entered key s k x now n b {a} r e gate =
    split (eqb k key)
    (λ h.
    let z = eqb-true k key h in
    let g = subst (λ (j : ℕ). Gate now (found_or (new_key (units_of s.settings) s.settings j x now n) x (key_with j s.keys)).gcra a r.gcra) z gate in
    rw (h, put-own key r s.keys (e ∙ z))
    (record { turn = found-or-made s key x now n b (key_with key s.keys) g; kept = λ t. kept-some (meter_in key s) }))
    (λ h. rw (h, put_other key r s.keys (ap (λ (j : ℕ). eqb j key) e ∙ h)) (unmoved (meter_in key s)))
  where
    kept-some : (m : Option Gcra) → seen.stays now m (Some r.gcra)
    kept-some None = tt
    kept-some (Some g) = tt

-- ---- a tick

module _ (key : ℕ) (st : Settings) (o : Others) (now n : ℕ) where
  -- what pass one leaves of the key's record: 'folds estimators .. and drops idle keys'
  data Settles : Option KeyRecord → Option KeyRecord → Type 0 where
    untracked : Settles None None
    idle : {k : KeyRecord} → has_debt k.gcra now ≡ false → Settles (Some k) None
    folded : {k : KeyRecord} → valid_burst k.limit.burst ≡ true → Settles (Some k) (Some (folded_key (parameters_of st) st o now n k))

  -- A key that is not tracked is not tracked after it.
  none-settles : {a b : Option KeyRecord} → Settles a b → a ≡ None → b ≡ None
  none-settles untracked e = refl
  none-settles (idle d) e = refl
  none-settles (folded v) e = absurd (true≢false (ap tracked e))
    where
      tracked : Option KeyRecord → Bool
      tracked None = false
      tracked (Some k) = true

  -- A key that does not stay has no debt.
  idle-owes-nothing : (k : KeyRecord) (hot : Bool) → stays (parameters_of st) st o now n k hot ≡ false → has_debt k.gcra now ≡ false
  idle-owes-nothing k hot e = (or-false (has_debt k.gcra now) _ (or-false hot _ e).1).0

  -- Pass one folds the key, or drops it where it has no debt.
  pass-one :
      (ks : List KeyRecord) (es : List HotEntry) → all (valid_key (units_of st)) ks ≡ true → ascending 1 (map (key_words (units_of st)) ks) ≡ true
      → Settles (key_with key ks) (key_with key (pass_one (parameters_of st) st o now n ks es).keys)
  unfolding pass_one all
  pass-one [] es v a = rw (found_nowhere key) untracked
  pass-one (k ∷ ks) es v a =
      let k' = folded_key (parameters_of st) st o now n k in
      let up = updated (parameters_of st) st o now n k' es in
      let rest = (pass_one (parameters_of st) st o now n ks up.left).keys in
      let b = both (valid_key (units_of st) k) _ v in
      let later = pass-one ks up.left b.1 (asc-rest 1 (key_words (units_of st) k) (map (key_words (units_of st)) ks) a) in
      split (eqb k.key key)
      (λ e. rw (found_here key k ks e) (split (stays (parameters_of st) st o now n k' up.hot)
      (λ h. rw (h, found_here key k' rest e) (folded (key-burst (units_of st) k b.0)))
      (λ h. rw (h, none-settles later (only-once key (units_of st) k ks a e)) (idle (idle-owes-nothing k' up.hot h)))))
      (λ e. rw (found-later key k ks e) (split (stays (parameters_of st) st o now n k' up.hot)
      (λ h. rw (h, found-later key k' rest e) later)
      (λ h. rw h later)))

  -- Pass two sets its quota.
  pass-two : (es : List HotEntry) (ks : List KeyRecord)
      → key_with key (pass_two (parameters_of st) st o now n (units_of st) es ks) ≡ mapped (with_quota (parameters_of st) st o now n (units_of st) es) (key_with key ks)
  pass-two es ks =
      let f = with_quota (parameters_of st) st o now n (units_of st) es in ap (λ (l : List KeyRecord). first l) (those-map f key_of key ks) ∙ first-map f (those key_of key ks)

  -- the tracked-key cap removes the key
  abbrev pub removed_in : Settled → Bool
  removed_in p = is_tracked (victims (parameters_of st) st o now n p.hot (pass_two (parameters_of st) st o now n (units_of st) p.hot p.keys)) key

  -- Then the cap removes it, or leaves it.
  cap : (es : List HotEntry) (ks : List KeyRecord)
      → key_with key (capped (parameters_of st) st o now n es ks) ≡ cond (not (is_tracked (victims (parameters_of st) st o now n es ks) key)) (key_with key ks) None
  unfolding capped
  cap es ks = found-only key (λ (j : ℕ). not (is_tracked (victims (parameters_of st) st o now n es ks) j)) ks

  -- Both passes and the cap are a turn.
  settled : (removed : Bool) (es : List HotEntry) {a b : Option KeyRecord} → Settles a b
      → Acts (units_of st) (removed ≡ false) now (of_key meter a) 0 (of_key meter (cond (not removed) (mapped (with_quota (parameters_of st) st o now n (units_of st) es) b) None))
  settled true es untracked = record { turn = absent; kept = λ e. tt }
  settled true es (idle d) = record { turn = drops; kept = λ e. absurd (true≢false e) }
  settled true es (folded v) = record { turn = drops; kept = λ e. absurd (true≢false e) }
  settled false es untracked = record { turn = absent; kept = λ e. tt }
  settled false es (idle {k} d) = record { turn = drops; kept = λ e. no-debt k.gcra.quota k.gcra.tat now d }
  settled false es (folded {k} v) =
      let k' = folded_key (parameters_of st) st o now n k in
      record {
        turn =
            sets (quota_of (parameters_of st) st o now n (units_of st) es k')
            (per-second-valid (units_of st) (units-of-accepted st) (rate_of (parameters_of st) st o now n es k') k.limit.burst v) unchecked;
        kept = λ e. tt;
      }

-- the tracked-key cap of a tick removes the key
abbrev pub cap_removes : ℕ → Others → (now n : ℕ) → LimiterState → Bool
cap_removes key o now n s = removed_in key s.settings o now n (pass_one (parameters_of s.settings) s.settings o now n s.keys s.hot)

-- A tick of a valid state is a turn of each key.
pub tick-turns :
    (key : ℕ) (o : Others) (now n : ℕ) (s : LimiterState) → valid (units_of s.settings) s ≡ true
    → Acts (units_of s.settings) (cap_removes key o now n s ≡ false) now (meter_in key s) 0 (meter_in key (tick_with (parameters_of s.settings) (units_of s.settings) o now n s))
unfolding tick_with
tick-turns key o now n s v =
    let p = pass_one (parameters_of s.settings) s.settings o now n s.keys s.hot in
    let w = valid-keys s v in
    rw (
      cap key s.settings o now n p.hot (pass_two (parameters_of s.settings) s.settings o now n (units_of s.settings) p.hot p.keys),
      pass-two key s.settings o now n p.hot p.keys,
    )
    (settled key s.settings o now n (cap_removes key o now n s) p.hot (pass-one key s.settings o now n s.keys s.hot w.0 w.1))
