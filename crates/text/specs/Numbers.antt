-- Whole numbers in ASCII, as the programs read them: whole decimal numbers, and bit patterns in hexadecimal digits.
use Rattle.std.specs.Prelude.{ℕ, ◌+◌, ◌-◌, ◌*◌, ◌^◌, Bool, true, false, ◌&&◌, cond, List, [], ◌∷◌, leb, ltb, eqb, length, Option, Some, None}

-- the value of a digit, `0` to `9` and `a` to `f`; 16 for a byte that is none
unfoldable pub digit : ℕ → ℕ
digit b = cond (leb 48 b && leb b 57) (b - 48) (cond (leb 97 b && leb b 102) (b - 87) 16)

-- the number, where the test holds
abbrev pub if_fits : Bool → Option ℕ → Option ℕ
if_fits true n = n
if_fits false n = None

-- The number that digits make in a base, the most significant first, after digits that made n. It fits 64 bits.
unfoldable pub numeral : (base n : ℕ) → List ℕ → Option ℕ
unfolding digit
numeral base n [] = Some n
numeral base n (b ∷ bs) = if_fits (ltb (digit b) base && ltb (base * n + digit b) (2 ^ 64)) (numeral base (base * n + digit b) bs)

-- at least one decimal digit
abbrev pub decimal_number : List ℕ → Option ℕ
decimal_number s = if_fits (ltb 0 (length s)) (numeral 10 0 s)

-- exactly so many hexadecimal digits
abbrev pub hex_number : ℕ → List ℕ → Option ℕ
hex_number digits s = if_fits (eqb (length s) digits) (numeral 16 0 s)
