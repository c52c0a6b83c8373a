-- Demands compare as their patterns do.
use Rattle.std.proofs.Common.{◌≡◌, ℕ, true, ltb, ltb-true}
use lib.Ieee.{binary32}
use Rattle.float.proofs.Formats.Magnitudes.{magnitudes-order}
use Rattle.peers.specs.Peers.State.{is_demand}
use Rattle.peers.specs.Peers.Changes.{exceeds}

pub exceeds-is : (a b : ℕ) → is_demand a ≡ true → is_demand b ≡ true → exceeds a b ≡ ltb b a
unfolding exceeds
exceeds-is a b p q = magnitudes-order binary32 b a (ltb-true b 0x7f800000 q) (ltb-true a 0x7f800000 p)
