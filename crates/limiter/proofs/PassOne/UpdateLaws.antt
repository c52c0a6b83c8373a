-- Laws: the hot set's updates of all keys are those of pass one.
use mathlib.Core.Path.{◌≡◌, refl, ap, ◌∙◌}
use mathlib.Core.Bool.{Bool}
use mathlib.Core.List.{List, [], ◌∷◌, map, zip_with}
use Prim.Native.Nat.{ℕ}
use Rattle.hot.specs.declared.hot_set.HotEntry.{HotEntry}
use Rattle.hot.specs.HotSet.Set.{Outcome, update_with, Update, Outcomes, update_by, update_each}
use Rattle.limiter.specs.declared.Limiter.{Limiter}
use Rattle.limiter.specs.declared.Parameters.{Parameters}
use Rattle.limiter.specs.State.{KeyRecord, settings_of}
use Rattle.limiter.specs.Ticks.{Others, is_elsewhere, updated}
use Rattle.limiter.specs.Steps.TickSteps.{stay_flags, hot_after}
use Rattle.limiter.specs.Steps.PassOneSteps.{update_of, set_of, stays_if}

module _ (par : Parameters) (l : Limiter) (o : Others) (now n : ℕ) where
  -- a key's update
  abbrev pub update_for : KeyRecord → Update
  update_for k = update_of l.config.alpha n k (is_elsewhere par (settings_of l) o now n k)

  abbrev each : List KeyRecord → List HotEntry → Outcomes
  each ks es = update_each par.eviction_margin (set_of l) now (map update_for ks) es

  abbrev next : KeyRecord → List HotEntry → Outcome
  next k es = updated par (settings_of l) o now n k es

  -- how many entries there are before it does not count
  update-is : (k : KeyRecord) (es : List HotEntry) → update_by par.eviction_margin (set_of l) now (update_for k) es ≡ next k es
  unfolding update_with
  update-is k es = refl

  pub each_left : (ks : List KeyRecord) (es : List HotEntry) → (each ks es).left ≡ hot_after par (settings_of l) o now n ks es
  unfolding update_each hot_after
  each_left [] es = refl
  each_left (k ∷ ks) es = ap (λ (u : Outcome). (each ks u.left).left) (update-is k es) ∙ each_left ks (next k es).left

  pub each-stays : (ks : List KeyRecord) (es : List HotEntry)
      → zip_with (stays_if par.silent_level now) ks (each ks es).hot ≡ stay_flags par (settings_of l) o now n ks es
  unfolding update_each stay_flags zip_with
  each-stays [] es = refl
  each-stays (k ∷ ks) es =
      ap (λ (u : Outcome). stays_if par.silent_level now k u.hot ∷ zip_with (stays_if par.silent_level now) ks (each ks u.left).hot) (update-is k es)
      ∙ ap (λ (bs : List Bool). stays_if par.silent_level now k (next k es).hot ∷ bs) (each-stays ks (next k es).left)
