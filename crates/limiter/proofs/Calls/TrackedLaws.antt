-- Hot and shadow keys are tracked, and the hot set keeps its size, in every valid state; a tick leaves a state of which that holds, with at most
-- `max_tracked_keys` keys.
use Prim.Native.Nat.{ℕ, ◌≤◌}
use mathlib.Core.Path.{◌≡◌}
use mathlib.Core.Bool.{true}
use lib.ListN.{length}
use Rattle.gcra.specs.declared.Units.{Units}
use Rattle.gcra.specs.Packed.{Accepted}
use Rattle.hot.specs.declared.hot_set.HotEntry.{HotEntry}
use Rattle.questions.specs.Lists.{all}
use Rattle.records.specs.Typed.{is_word}
use Rattle.limiter.specs.declared.Parameters.{Parameters}
use Rattle.limiter.specs.State.{ShadowRecord, LimiterState, is_tracked, valid}
use Rattle.limiter.specs.Ticks.{Others, tick_with}
use Rattle.limiter.proofs.States.StateValidLaws.{valid-says}
use Rattle.limiter.proofs.Calls.TickValidLaws.{tick-valid}
use Rattle.limiter.proofs.Calls.TrackedCapLaws.{tick-tracks-few}

pub record Tracks (s : LimiterState) : Type 0 where
  pub hot : all (λ (e : HotEntry). is_tracked s.keys e.key) s.hot ≡ true
  pub shadows : all (λ (x : ShadowRecord). is_tracked s.keys x.key) s.shadows ≡ true
  pub few_hot : length s.hot ≤ s.settings.config.hot_set_size

module _ (par : Parameters) (u : Units) where
  -- every valid state, and so every state that a call leaves
  pub valid-tracks : (s : LimiterState) → valid u s ≡ true → Tracks s
  valid-tracks s e =
      let v = valid-says u s e in
      record { hot = v.hot-tracked; shadows = v.shadows-tracked; few_hot = v.hot_few }

  -- after a tick, whatever the others hold hot
  pub tick-tracks :
      Accepted u → (o : Others) (now n : ℕ) (s : LimiterState) → is_word now ≡ true → valid u s ≡ true
      → Tracks (tick_with par u o now n s) × (length (tick_with par u o now n s).keys ≤ s.settings.config.max_tracked_keys)
  tick-tracks a o now n s h e = (valid-tracks (tick_with par u o now n s) (tick-valid par u a o now n s h e), tick-tracks-few par u a o now n s h e)
