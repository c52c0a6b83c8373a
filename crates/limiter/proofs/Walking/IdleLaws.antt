-- Laws: pass one is the fold of all keys, and then the walk that keeps those whose flag is set.
use mathlib.Core.Path.{◌≡◌, refl, ap}
use mathlib.Core.Bool.{cond}
use mathlib.Core.List.{List, [], ◌∷◌, map}
use Prim.Native.Nat.{ℕ}
use Rattle.hot.specs.declared.hot_set.HotEntry.{HotEntry}
use Rattle.limiter.specs.declared.Parameters.{Parameters}
use Rattle.limiter.specs.State.{Settings, KeyRecord}
use Rattle.limiter.specs.Ticks.{Others, Settled, folded_key, updated, stays, pass_one}
use Rattle.limiter.specs.Steps.TickSteps.{flagged, stay_flags, hot_after}

module _ (par : Parameters) (s : Settings) (o : Others) (now n : ℕ) where
  abbrev fold : KeyRecord → KeyRecord
  fold k = folded_key par s o now n k

  pub pass-one-is : (ks : List KeyRecord) (es : List HotEntry) → pass_one par s o now n ks es ≡ record { keys = flagged (stay_flags par s o now n (map fold ks) es) (map fold ks); hot = hot_after par s o now n (map fold ks) es }
  unfolding pass_one flagged stay_flags hot_after
  pass-one-is [] es = refl
  pass-one-is (k ∷ ks) es =
      let u = updated par s o now n (fold k) es in
      ap (λ (r : Settled). record { keys = cond (stays par s o now n (fold k) u.hot) (fold k ∷ r.keys) r.keys; hot = r.hot }) (pass-one-is ks u.left)
