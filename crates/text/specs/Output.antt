-- Text written into a buffer.
use Rattle.std.specs.Prelude.{◌≡◌, ℕ, ◌+◌, ◌-◌, ◌^◌, ◌≤◌, ◌<◌, ◌⊎◌, cond, List, leb, length}
use Rattle.std.proofs.Math.Seq.{paste}
use Rattle.io.specs.Digits.{last_digits, IsDigitCount}

-- the buffer with s at index `at`, where there is room, and as it was where not
unfoldable pub written : ℕ → List ℕ → List ℕ → List ℕ
written at s xs = cond (leb (at + length s) (length xs)) (paste xs at s (length s)) xs

-- where s ends then
unfoldable pub end : ℕ → List ℕ → List ℕ → ℕ
end at s xs = cond (leb (at + length s) (length xs)) (at + length s) at

-- n in the base, in the fewest digits but at least `least`
pub record Spelled (base least n at r : ℕ) (xs ys : List ℕ) : Type 0 where
  pub count : ℕ
  pub fewest : IsDigitCount base least n count
  pub text : ys ≡ written at (last_digits base count n) xs
  pub ends : r ≡ end at (last_digits base count n) xs

-- where text is put once standard output has failed: past every buffer, so that none is written
unfoldable pub failed : ℕ
failed = 2 ^ 64 - 1

-- Where to go on writing: at the same place where `room` bytes are left behind what is ready, or where nothing can be ready
-- that far. Else at the front, or at `failed`; which of the two, the contract of `write` leaves open.
pub record Flushed (at room : ℕ) (xs : List ℕ) (r : ℕ) : Type 0 where
  pub kept : (at + room ≤ length xs) ⊎ (length xs < at) → r ≡ at
  pub emptied : at ≤ length xs → length xs < at + room → (r ≡ 0) ⊎ (r ≡ failed)
