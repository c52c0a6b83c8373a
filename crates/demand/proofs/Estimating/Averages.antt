-- The steps of `Demand::ticked` and `Demand::unbiased`, case by case.
use mathlib.Core.Path.{◌≡◌, sym, ap, ◌∙◌}
use mathlib.Core.Bool.{true, false}
use Prim.Native.Nat.{ℕ, ◌-◌}
use borrow.Author.Tests.{eq-eqb, ne_eqb}
use lib.Ieee.{Float, binary64, eq, div}
use Rattle.demand.specs.declared.demand.Demand.{Demand}
use Rattle.demand.specs.Estimators.Estimator.{whole, alpha, folded, ticked_from, unbiased_by, unbiased_from}
use Rattle.std.specs.declared.option.Option.{Option}
use Rattle.std.specs.declared.option.Option.TheVariants.{None, Some}
use Rattle.demand.specs.declared.demand.Times.{Times}

pub first-tick : (t : Option Times) (d : Demand) (now : ℕ) → t ≡ None
    → record { current_rate = d.current_rate; attempts_since_tick = d.attempts_since_tick; times = Some (record { last_tick = now; since = now }); time_constant = d.time_constant } ≡ ticked_from t d now
unfolding ticked_from
first-tick t d now e = rw e

-- n is the time elapsed
pub idle-tick : (t : Option Times) (d : Demand) (k : Times) (now n : ℕ) → t ≡ Some k → n ≡ now - k.last_tick → n ≡ 0 → d ≡ ticked_from t d now
unfolding ticked_from
idle-tick t d k now n e is h = rw e (simp (eq-eqb (now - k.last_tick) 0 (sym is ∙ h)))

pub later-tick : (t : Option Times) (d : Demand) (k : Times) (now n : ℕ) (x : Float) → t ≡ Some k → n ≡ now - k.last_tick → (n ≡ 0 → ⊥) → x ≡ folded d.current_rate d.attempts_since_tick n d.time_constant
    → record { current_rate = x; attempts_since_tick = 0; times = Some (record { last_tick = now; since = k.since }); time_constant = d.time_constant } ≡ ticked_from t d now
unfolding ticked_from
later-tick t d k now n x e is h f = rw (e, f, is) (simp (ne_eqb (now - k.last_tick) 0 (λ z. h (is ∙ z))))

pub unmeasured : (t : Option Times) (d : Demand) (x : Float) → x ≡ whole 0 → t ≡ None → x ≡ unbiased_from t d
unfolding unbiased_from
unmeasured t d x z e = rw e z

-- n is the time measured
pub no-time : (a rate : Float) (n : ℕ) (x : Float) → x ≡ whole 0 → n ≡ 0 → x ≡ unbiased_by a rate n
unfolding unbiased_by
no-time a rate n x z h = simp (eq-eqb n 0 h) z

pub no-weight : (a rate : Float) (n : ℕ) (x y : Float) → x ≡ whole 0 → y ≡ whole 0 → (n ≡ 0 → ⊥) → eq a y ≡ true → x ≡ unbiased_by a rate n
unfolding unbiased_by
no-weight a rate n x y z zy h k = simp (ne_eqb n 0 h, sym (ap (eq a) zy) ∙ k) z

pub weighted : (a rate : Float) (n : ℕ) (y : Float) → y ≡ whole 0 → (n ≡ 0 → ⊥) → eq a y ≡ false → div binary64 rate a ≡ unbiased_by a rate n
unfolding unbiased_by
weighted a rate n y zy h k = simp (ne_eqb n 0 h, sym (ap (eq a) zy) ∙ k)

pub measured : (t : Option Times) (d : Demand) (k : Times) (n : ℕ) (a x : Float) → t ≡ Some k → n ≡ k.last_tick - k.since → a ≡ alpha n d.time_constant → x ≡ unbiased_by a d.current_rate n → x ≡ unbiased_from t d
unfolding unbiased_from
measured t d k n a x e is ea m =
    m
    ∙ ap (λ (v : Float). unbiased_by v d.current_rate n) ea
    ∙ ap (λ (l : ℕ). unbiased_by (alpha l d.time_constant) d.current_rate l) is
    ∙ sym (ap (λ (u : Option Times). unbiased_from u d) e)
