-- `gcra::Quota::pack_in` meets its contract: each field fits its bits.
use mathlib.Core.Path.{◌≡◌}
use Prim.Native.Nat.{ℕ, ◌^◌, ◌≤◌, ◌<◌}
use native.Mathlib.Omega.{arith}
use Rattle.gcra.specs.declared.Encoded.{Encoded}
use Rattle.gcra.specs.declared.Units.{Units}
use Rattle.gcra.specs.Packed.{Accepted, max_interval, encode, pack}
use Rattle.gcra.proofs.Packed.Encoding.{encode-takes}
use Rattle.gcra.proofs.Quota.pack_in.Goals as goal

-- the value is below 2^40, and the unit's code below 3
sizes : {e : Encoded} {u : Units} {i : ℕ} → Accepted u → i ≤ max_interval u → e ≡ encode u i → (e.value < 2 ^ 40) × (e.unit < 3)
sizes a h k = rw k ((encode-takes _ _ a h).fits, (encode-takes _ _ a h).code)

pub overflow_mul-result : goal.overflow_mul-result
overflow_mul-result c = record { fits = omega (arith, sizes c.requires.0 c.requires.1 c.encode_interval-e.ensures) }

pub overflow_mul-result-2 : goal.overflow_mul-result-2
overflow_mul-result-2 c = record { fits = omega (arith, sizes c.requires.0 c.requires.1 c.encode_interval-e.ensures) }

pub overflow_add-result : goal.overflow_add-result
overflow_add-result c = record { fits = omega (arith, sizes c.requires.0 c.requires.1 c.encode_interval-e.ensures) }

pub overflow_add-result-2 : goal.overflow_add-result-2
overflow_add-result-2 c = record { fits = omega (arith, sizes c.requires.0 c.requires.1 c.encode_interval-e.ensures) }

pub returns : goal.returns
unfolding pack
returns c = cc
