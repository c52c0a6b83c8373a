-- What a digit does to a numeral that is read.
use mathlib.Core.Path.{◌≡◌, ap}
use Prim.Native.Nat.{ℕ, ◌+◌, ◌*◌, ◌^◌, ◌≤◌, ◌<◌}
use native.Mathlib.Numerals.{add-one}
use mathlib.Core.Bool.{◌&&◌}
use mathlib.Core.List.{List}
use lib.Dec.{ltb}
use lib.ListN.{length, drop, get_or, drop_of_length-le}
use lib.Seq.{drop-cons}
use Rattle.std.proofs.Common.{Some}
use Rattle.text.specs.Numbers.{digit, numeral, if_fits}

-- the next digit
pub at_digit : (base n i : ℕ) (s : List ℕ) → i < length s → numeral base n (drop i s) ≡ if_fits (ltb (digit (get_or s i 0)) base && ltb (base * n + digit (get_or s i 0)) (2 ^ 64)) (numeral base (base * n + digit (get_or s i 0)) (drop (i + 1) s))
unfolding numeral
at_digit base n i s h = rw (add-one, drop-cons s i 0)

-- past the last digit
pub at_end : (base n i : ℕ) (s : List ℕ) → length s ≤ i → numeral base n (drop i s) ≡ Some n
unfolding numeral
at_end base n i s h = ap (numeral base n) (drop_of_length-le s h)
