-- `gcra::Quota::rounded` meets its contract: the value is below 2^40, so the product fits.
use Prim.Native.Nat.{ℕ, ◌*◌, ◌^◌, ◌≤◌, ◌<◌}
use mathlib.Core.Path.{◌≡◌}
use Rattle.gcra.specs.Packed.{width, rounded, Accepted, max_interval, encode}
use Rattle.gcra.specs.declared.Units.{Units}
use Rattle.gcra.specs.declared.Encoded.{Encoded}
use Rattle.gcra.proofs.Packed.Encoding.{encode-takes, value-small}
use Rattle.gcra.proofs.Quota.rounded.Goals as goal

small : (u : Units) (n : ℕ) → Accepted u → n ≤ max_interval u → (e : Encoded) (w : ℕ) → e ≡ encode u n → w ≡ width u e.unit → e.value * w < 2 ^ 64
small u n a l e w h k = rw (k, h) (value-small u a (encode u n).value (encode u n).unit (encode-takes u n a l).fits)

pub overflow_mul-result : goal.overflow_mul-result
overflow_mul-result c =
    let s = c.before.before.before in
    record { fits = small _ _ s.requires.0 s.requires.1 _ _ c.encode_interval-e.ensures c.unit_nanos.ensures }

pub returns : goal.returns
unfolding rounded
returns c = cc
