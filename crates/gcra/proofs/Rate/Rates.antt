-- The interval of a rate, by how the quotient's tests came out; and the literals of the code as whole numbers.
use Prim.Native.Nat.{ℕ, ◌^◌, ◌<◌, min}
use native.Mathlib.Omega.{arith}
use lib.Dec.{eqb}
use borrow.Author.Tests.{eqb-true, eq-eqb}
use mathlib.Core.Path.{◌≡◌, refl, sym, ap}
use mathlib.Core.Bool.{true, false}
use lib.Ieee.{Float, binary64, le, lt, of_bits, of_int, to_unsigned}
use lib.Ieee.Scale.{finite}
use Rattle.gcra.specs.declared.Units.{Units}
use Rattle.gcra.specs.Packed.{Accepted, max_interval, valid_burst, valid_quota}
use Rattle.gcra.specs.declared.Quota.{Quota}
use Rattle.gcra.specs.declared.Gcra.{Gcra}
use Rattle.gcra.specs.Rate.{float, quotient_nanos, carry_tat, carried, same_quota, set_quota, per_second}
use Rattle.gcra.specs.Meter.{tat_word}
use Rattle.questions.proofs.Tests.{split, both, and_intro}
use Rattle.gcra.proofs.Packed.Validity.{with-interval-valid}
use Rattle.std.specs.declared.option.Option.{Option}
use Rattle.std.specs.declared.option.Option.TheVariants.{None, Some}

pub zero_is : of_bits binary64 0 ≡ float 0
unfolding of_bits of_int
zero_is = refl

pub one-is : of_bits binary64 0x3ff0_0000_0000_0000 ≡ float 1
unfolding of_bits of_int
one-is = refl

pub second_is : of_bits binary64 0x41cd_cd65_0000_0000 ≡ float 1000000000
unfolding of_bits of_int
second_is = refl

module _ (u : Units) (q : Float) where
  pub not_finite : finite q ≡ false → max_interval u ≡ quotient_nanos u q
  unfolding quotient_nanos
  not_finite f = rw f

  pub from_one : finite q ≡ true → le (float 1) q ≡ true → min (to_unsigned 64 q) (max_interval u) ≡ quotient_nanos u q
  unfolding quotient_nanos
  from_one f l = rw (f, l)

  pub above_zero : finite q ≡ true → le (float 1) q ≡ false → lt (float 0) q ≡ true → 1 ≡ quotient_nanos u q
  unfolding quotient_nanos
  above_zero f l z = rw (f, l, z)

  pub not_above : finite q ≡ true → le (float 1) q ≡ false → lt (float 0) q ≡ false → max_interval u ≡ quotient_nanos u q
  unfolding quotient_nanos
  not_above f l z = rw (f, l, z)

-- ---- a change of quota
-- The same quota changes nothing.
pub same-keeps : (g : Gcra) (q : Quota) (now : ℕ) → same_quota q g.quota ≡ true → g ≡ set_quota g q now
unfolding set_quota
same-keeps g q now h = rw h

pub other-carries : (g : Gcra) (q : Quota) (now : ℕ) {t : Option ℕ} → same_quota q g.quota ≡ false
    → t ≡ carried g.tat g.quota q now → record { quota = q; tat = t } ≡ set_quota g q now
unfolding set_quota
other-carries g q now h e = rw (h, e)

pub carried-unset : (t : Option ℕ) (old new : Quota) (now : ℕ) → t ≡ None → t ≡ carried t old new now
carried-unset t old new now e = rw e

pub carried-at : (t : Option ℕ) (n : ℕ) (old new : Quota) (now : ℕ) → t ≡ Some n → Some (carry_tat n old new now) ≡ carried t old new now
carried-at t n old new now e = rw e

-- The test finds two quotas the same exactly where they are equal.
pub same-equal : (p q : Quota) → same_quota p q ≡ true → p ≡ q
same-equal p q h =
    let t = both (eqb p.interval q.interval) (eqb p.burst q.burst) h in
    let i = eqb-true p.interval q.interval t.0 in
    let b = eqb-true p.burst q.burst t.1 in
    (λ k. record { interval = i k; burst = b k })

pub equal-same : (p q : Quota) → p ≡ q → same_quota p q ≡ true
equal-same p q e =
    and_intro _ _ (eq-eqb p.interval q.interval (ap (λ (x : Quota). x.interval) e)) (eq-eqb p.burst q.burst (ap (λ (x : Quota). x.burst) e))

-- What holds of a Gcra, and of it with another quota and its TAT carried over, holds after a change of quota.
pub by-quota : (P : Gcra → Type 0) (g : Gcra) (q : Quota) (now : ℕ) → P g
    → (same_quota q g.quota ≡ false → P (record { quota = q; tat = carried g.tat g.quota q now }))
    → P (set_quota g q now)
unfolding set_quota
by-quota P g q now same other = split (same_quota q g.quota) (λ e. rw e same) (λ e. rw e (other e))

-- The new quota holds afterwards.
pub set_is : (g : Gcra) (q : Quota) (now : ℕ) → (set_quota g q now).quota ≡ q
unfolding set_quota
set_is g q now = split (same_quota q g.quota) (λ h. rw h (sym (same-equal q g.quota h))) (λ h. rw h)

-- A carried TAT fits a u64.
pub carry-fits : (tat : ℕ) (old new : Quota) (now : ℕ) → carry_tat tat old new now < 2 ^ 64
unfolding carry_tat
carry-fits tat old new now = omega arith

pub carried-fits : (tat : Option ℕ) (old new : Quota) (now : ℕ) → tat_word (carried tat old new now) < 2 ^ 64
carried-fits None old new now = omega arith
carried-fits (Some tat) old new now = carry-fits tat old new now

-- So does the TAT after a change of quota.
pub set-fits : (g : Gcra) (q : Quota) (now : ℕ) → tat_word g.tat < 2 ^ 64 → tat_word (set_quota g q now).tat < 2 ^ 64
set-fits g q now l = by-quota (λ (h : Gcra). tat_word h.tat < 2 ^ 64) g q now l (λ e. carried-fits g.tat g.quota q now)

-- Any rate makes a valid quota.
pub per-second-valid : (u : Units) → Accepted u → (rate : Float) (b : ℕ) → valid_burst b ≡ true → valid_quota u (per_second u rate b) ≡ true
unfolding per_second
per-second-valid u a rate b h = with-interval-valid u a _ b h
