use Rattle.std.proofs.Common.{◌≡◌, ℕ, length, replicate, sym}
use Rattle.std.proofs.Math.ListN.{length-replicate}
use Rattle.inspect.proofs.input_buffer.Goals as goal

-- Stated of any number: one so large is not to be counted up to.
zeros : (n : ℕ) → n ≡ length {A = ℕ} (replicate n 0)
zeros n = sym (length-replicate n 0)

pub returns : goal.returns
returns c = zeros 1372567
