-- Laws: the loop that works out what the hot set's update of each key is given, and the one that works out which keys stay.
use mathlib.Core.Path.{◌≡◌, sym, ap, ◌∙◌}
use mathlib.Core.Bool.{Bool, false, ◌&&◌}
use mathlib.Core.List.{List, [], map, zip_with}
use Prim.Native.Nat.{ℕ, ◌+◌, ◌*◌, ◌≤◌, ◌<◌}
use native.Mathlib.Omega.{arith}
use lib.Ieee.{Float, binary64, mul, div}
use lib.ListN.{length, take, drop, get_or, set}
use lib.Seq.{length-take-le, get_or-take}
use Rattle.limiter.specs.State.{KeyRecord, float_of, key_of}
use Rattle.limiter.specs.Steps.TickSteps.{key_records}
use Rattle.limiter.specs.Steps.PassOneSteps.{is_demand, elsewhere_if, threshold_of, stays_if, Measured, staying_keys}
use Rattle.limiter.proofs.Walking.CutLaws.{Filling, fill_more, fill-all}
use Rattle.limiter.proofs.PassOne.ListLaws.{map-from, map-end, zip-from, zip_end}
use Rattle.limiter.proofs.PassOne.KeyWordLaws.{keys-many, rate-at, limit-at}
use Rattle.gcra.specs.declared.Units.{Units}

-- a key's demand
abbrev rate_of : KeyRecord → Float
rate_of k = k.demand.rate

module _ (u : Units) (silent : Float) (n : ℕ) (keys : List ℕ) (alpha size : Float) (elsewhere : List Bool) where
  abbrev ks : List KeyRecord
  ks = key_records u n keys

  -- the first i of each are worked out
  pub record Measuring (ds₀ ts₀ : List Float) (fs₀ : List Bool) (ds ts : List Float) (fs : List Bool) (i : ℕ) : Type 0 where
    pub told : n ≤ length elsewhere
    pub demand_rates : Filling n ds₀ ds i (map rate_of (drop i ks)) (map rate_of ks)
    pub cold_rates : Filling n ts₀ ts i (map (threshold_of alpha size) (drop i ks)) (map (threshold_of alpha size) ks)
    pub elsewhere_flags : Filling n fs₀ fs i (zip_with (elsewhere_if silent) (drop i ks) (drop i (take n elsewhere))) (zip_with (elsewhere_if silent) ks (take n elsewhere))

  module _ (ds₀ ts₀ : List Float) (fs₀ : List Bool) (ds ts : List Float) (fs : List Bool) (i : ℕ) (k : Measuring ds₀ ts₀ fs₀ ds ts fs i) where
    pub measure-all : n ≤ i → Measured u silent n keys alpha size elsewhere ds ts fs
    measure-all h =
        let l = keys-many u n keys in
        record {
          demand_rates = fill-all k.demand_rates h (map-end rate_of (key_of u []) ks i (omega arith));
          cold_rates = fill-all k.cold_rates h (map-end (threshold_of alpha size) (key_of u []) ks i (omega arith));
          elsewhere_flags = fill-all k.elsewhere_flags h (zip_end (elsewhere_if silent) (key_of u []) false ks (take n elsewhere) i (omega arith));
        }

    module _ (h : i < n) (d x : Float) (ed : d ≡ float_of (get_or keys (i * 22 + 3) 0)) (ex : x ≡ float_of (get_or keys (i * 22 + 1) 0)) where
      pub measure-more : (b : Bool) → b ≡ (is_demand silent d && get_or elsewhere i false)
          → Measuring ds₀ ts₀ fs₀ (set ds i d) (set ts i (mul binary64 (div binary64 x size) alpha)) (set fs i b) (i + 1)
      measure-more b eb =
          let l = keys-many u n keys in
          let f = k.told in
          record {
            told = k.told;
            demand_rates = fill_more d _ k.demand_rates h (map-from rate_of (key_of u []) ks i (omega arith) d (ed ∙ rate-at u n keys i h));
            cold_rates =
                fill_more (mul binary64 (div binary64 x size) alpha) _ k.cold_rates h
                (map-from (threshold_of alpha size) (key_of u []) ks i (omega arith) (mul binary64 (div binary64 x size) alpha)
                (ap (λ (y : Float). mul binary64 (div binary64 y size) alpha) (ex ∙ limit-at u n keys i h)));
            elsewhere_flags =
                fill_more b _ k.elsewhere_flags h
                (zip-from (elsewhere_if silent) (key_of u []) false ks (take n elsewhere) i (omega arith)
                (omega (arith, length-take-le n elsewhere k.told)) b
                (eb ∙ (λ m. is_demand silent ((ed ∙ rate-at u n keys i h) m) && sym (get_or-take n elsewhere i false h) m)));
          }

-- ---- which keys stay
module _ (u : Units) (silent : Float) (n : ℕ) (keys : List ℕ) (now : ℕ) (hots : List Bool) where
  abbrev pub Busy : (t₀ t : List Bool) (i : ℕ) → Type 0
  Busy t₀ t i = Filling n t₀ t i (zip_with (stays_if silent now) (drop i (key_records u n keys)) (drop i (take n hots))) (staying_keys u silent now n keys hots)

  module _ (t₀ t : List Bool) (i : ℕ) (k : Busy t₀ t i) where
    pub busy-more : n ≤ length hots → (h : i < n) (b : Bool) (r : List ℕ) → key_of u r ≡ get_or (key_records u n keys) i (key_of u [])
        → b ≡ stays_if silent now (key_of u r) (get_or hots i false) → Busy t₀ (set t i b) (i + 1)
    busy-more f h b r e q =
        let l = keys-many u n keys in
        fill_more b _ k h
        (zip-from (stays_if silent now) (key_of u []) false (key_records u n keys) (take n hots) i (omega arith) (omega (arith, length-take-le n hots f)) b
        (q ∙ (λ m. stays_if silent now (e m) (sym (get_or-take n hots i false h) m))))

    pub busy-all : n ≤ i → take n t ≡ staying_keys u silent now n keys hots
    busy-all h = fill-all k h (zip_end (stays_if silent now) (key_of u []) false (key_records u n keys) (take n hots) i (omega (arith, keys-many u n keys)))
