-- Between ticks: a tracked key's decision depends on its own record and the reading alone, and a denied key is allowed at its retry time.
use Prim.Native.Nat.{ℕ}
use mathlib.Core.Path.{◌≡◌, refl, ap, ◌∙◌}
use mathlib.Core.Bool.{true, false, false≢true}
use mathlib.Core.List.{List, [], ◌∷◌}
use native.Mathlib.Omega.{arith}
use borrow.Author.Tests.{eqb-true}
use lib.Dec.{eqb}
use Rattle.questions.proofs.Tests.{split}
use Rattle.gcra.specs.declared.Gcra.{Gcra}
use Rattle.gcra.specs.declared.Decision.{Decision}
use Rattle.gcra.specs.declared.Decision.TheVariants.{Allow, Deny}
use Rattle.gcra.specs.Meter.{is_allow, decision, check}
use Rattle.gcra.specs.Run.{allowed, after as meter-after}
use Rattle.gcra.proofs.Meter.Checks.{check-deny}
use Rattle.gcra.proofs.Meter.Retry.{retry-allowed}
use Rattle.gcra.specs.declared.Units.{Units}
use Rattle.limiter.specs.declared.Limit.{Limit}
use Rattle.limiter.specs.declared.Tally.{Tally}
use Rattle.limiter.specs.State.{KeyRecord, LimiterState, key_with, put_key}
use Rattle.limiter.specs.Checks.{new_key, found_or, entry, checked_key, tallied_key, key_decision, shadow_decision, check_in, check_traced, record_tally}
use Rattle.limiter.specs.Readers.{of_key}
use Rattle.limiter.proofs.States.KeyLaws.{found_here, found-later, found_nowhere, put-own, put_other}
use Rattle.std.specs.declared.option.Option.{Option}
use Rattle.std.specs.declared.option.Option.TheVariants.{None, Some}

-- the meter of a key, if it is tracked
abbrev pub meter_of : ℕ → LimiterState → Option Gcra
meter_of key s = of_key (λ (k : KeyRecord). k.gcra) (key_with key s.keys)

module _ (u : Units) (s : LimiterState) where
  -- ---- 'Between ticks a tracked key's decision depends on its own record and the reading alone'

  -- whatever the limit, the cluster size, the settings and the other keys are
  pub own-record : (key : ℕ) (k : KeyRecord) (limit : Limit) (now n : ℕ) → key_with key s.keys ≡ Some k
      → key_decision u s key limit now n ≡ decision k.gcra now
  unfolding entry
  own-record key k limit now n e = ap (λ (o : Option KeyRecord). decision (found_or (new_key u s.settings key limit now n) limit o).gcra now) e

  -- the record of a call has its key
  pub entry_key : (key : ℕ) (limit : Limit) (now n : ℕ) → (entry u s key limit now n).key ≡ key
  unfolding entry
  entry_key key limit now n = has s.keys
    where
      has : (ks : List KeyRecord) → (found_or (new_key u s.settings key limit now n) limit (key_with key ks)).key ≡ key
      has [] = rw (found_nowhere key)
      has (y ∷ ks) = split (eqb y.key key) (λ e. rw (found_here key y ks e) (eqb-true y.key key e)) (λ e. rw (found-later key y ks e) (has ks))

  -- a call on another key leaves the record
  module _ (key other : ℕ) (limit : Limit) (now n : ℕ) (apart : eqb other key ≡ false) where
    left_by : (k : KeyRecord) → k.key ≡ (entry u s other limit now n).key → key_with key (put_key k s.keys) ≡ key_with key s.keys
    left_by k e = put_other key k s.keys (ap (λ (j : ℕ). eqb j key) (e ∙ entry_key other limit now n) ∙ apart)

    pub check-leaves : key_with key (check_in u s other limit now n).keys ≡ key_with key s.keys
    unfolding check_in
    check-leaves = left_by (checked_key now None (entry u s other limit now n)) refl

    pub traced-leaves : (shadow : Option Limit) → key_with key (check_traced u s other limit shadow now n).keys ≡ key_with key s.keys
    unfolding check_traced
    traced-leaves shadow = left_by (checked_key now (shadow_decision u s other limit shadow now n) (entry u s other limit now n)) refl

    pub tally-leaves : (y : Tally) → key_with key (record_tally u s other y limit now n).keys ≡ key_with key s.keys
    unfolding record_tally
    tally-leaves y = left_by (tallied_key y (entry u s other limit now n)) refl

  -- ---- 'A denied key checked at its retry time, with no tick and no other allowed check of it between, is allowed unless the call is refused'
  module _ (key : ℕ) (limit : Limit) (now n : ℕ) where
    -- the meter that was asked
    abbrev asked : Gcra
    asked = (entry u s key limit now n).gcra

    put-meter : (k : KeyRecord) → k.key ≡ (entry u s key limit now n).key → k.gcra ≡ check asked now → is_allow (decision asked now) ≡ false
        → of_key (λ (x : KeyRecord). x.gcra) (key_with key (put_key k s.keys)) ≡ Some asked
    put-meter k e g h = ap (of_key (λ (x : KeyRecord). x.gcra)) (put-own key k s.keys (e ∙ entry_key key limit now n))
        ∙ ap Some (g ∙ check-deny asked now h)

    -- a denied check leaves it
    pub denied-leaves : is_allow (key_decision u s key limit now n) ≡ false → meter_of key (check_in u s key limit now n) ≡ Some asked
    unfolding check_in
    denied-leaves h = put-meter (checked_key now None (entry u s key limit now n)) refl refl h

    pub traced-denied-leaves :
        (shadow : Option Limit) → is_allow (key_decision u s key limit now n) ≡ false
        → meter_of key (check_traced u s key limit shadow now n) ≡ Some asked
    unfolding check_traced
    traced-denied-leaves shadow h = put-meter (checked_key now (shadow_decision u s key limit shadow now n) (entry u s key limit now n)) refl refl h

    -- in any later state that has it still
    pub allowed-at-retry :
        (r : ℕ) → key_decision u s key limit now n ≡ Deny r → (s' : LimiterState) → meter_of key s' ≡ Some asked
        → (limit' : Limit) (n' : ℕ) → key_decision u s' key limit' r n' ≡ Allow
    unfolding entry allowed meter-after
    allowed-at-retry r d s' still limit' n' = by (key_with key s'.keys) still
      where
        allows : decision asked r ≡ Allow
        allows =
            let no : is_allow (decision asked now) ≡ false = ap is_allow d in
            is-allow (decision asked r) (rw (check-deny asked now no) at (retry-allowed asked now r [] d (rw no)))
          where
            is-allow : (x : Decision) → is_allow x ≡ true → x ≡ Allow
            is-allow Allow e = refl
            is-allow (Deny t) e = absurd (false≢true e)

        by : (o : Option KeyRecord) → of_key (λ (k : KeyRecord). k.gcra) o ≡ Some asked
            → decision (found_or (new_key u s'.settings key limit' r n') limit' o).gcra r ≡ Allow
        by None e = let z : ◌≡◌ {A = ℕ} 0 1 = cc in absurd (omega arith)
        by (Some k) e = let same : k.gcra ≡ asked = cc in ap (λ (g : Gcra). decision g r) same ∙ allows
