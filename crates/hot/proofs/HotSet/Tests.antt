-- An entry that cools keeps its key, and has the new demand.
use mathlib.Core.Path.{◌≡◌, refl}
use mathlib.Core.Bool.{Bool, true, false, cond}
use Prim.Native.Nat.{ℕ, ◌-◌}
use lib.Dec.{leb}
use lib.Ieee.{Float}
use Rattle.hot.specs.HotSet.Set.{count_down, cooled}
use Rattle.hot.specs.declared.hot_set.HotEntry.{HotEntry}
use Rattle.std.specs.declared.option.Option.{Option}
use Rattle.std.specs.declared.option.Option.TheVariants.{None, Some}

either : (P : HotEntry → Type 0) (b : Bool) {x y : HotEntry} → P x → P y → P (cond b x y)
either P true p q = p
either P false p q = q

module _ (cooldown : ℕ) (d : Float) (now : ℕ) (e : HotEntry) where
  pub cooled-key : (cooled cooldown d now e).key ≡ e.key
  unfolding cooled
  cooled-key = either (λ (x : HotEntry). x.key ≡ e.key) e.primary (counted e.cooling_since) refl
    where
      counted : (c : Option ℕ) → (count_down cooldown d now e c).key ≡ e.key
      counted None = refl
      counted (Some t) = either (λ (x : HotEntry). x.key ≡ e.key) (leb cooldown (now - t)) refl refl

  pub cooled-demand : (cooled cooldown d now e).demand ≡ d
  unfolding cooled
  cooled-demand = either (λ (x : HotEntry). x.demand ≡ d) e.primary (counted e.cooling_since) refl
    where
      counted : (c : Option ℕ) → (count_down cooldown d now e c).demand ≡ d
      counted None = refl
      counted (Some t) = either (λ (x : HotEntry). x.demand ≡ d) (leb cooldown (now - t)) refl refl
