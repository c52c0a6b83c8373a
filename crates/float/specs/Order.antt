-- The orders of IEEE 754: the lesser and the greater of two floats, and totalOrder on bit patterns.
use Rattle.std.specs.Prelude.{ℕ, ◌+◌, ◌-◌, ◌^◌, Bool, true, false, cond, ◌&&◌, ◌||◌, nat_lt, Float}
use Rattle.std.specs.Float.{nan, inf, fin}
use Rattle.std.specs.Float.Ieee.{is_nan, lt, eq}
use Rattle.std.specs.declared.cmp.Ordering.{Ordering}
use Rattle.std.specs.declared.cmp.Ordering.TheVariants.{Less, Equal, Greater}

-- the sign bit; the one NaN of `lib.Ieee` has it clear
abbrev pub negative : Float → Bool
negative nan = false
negative (inf s) = s
negative (fin s m e) = s

-- x is below y, where -0 is below +0 (01: min and max are 'defined from IEEE 754')
unfoldable pub below : Float → Float → Bool
unfolding lt eq
below x y = lt x y || (eq x y && negative x)

-- of a and b the one that is no NaN; of two numbers b if the test says so, else a
unfoldable pub choose : Float → Float → Bool → Float
unfolding is_nan
choose a b second = cond (is_nan a) b (cond (is_nan b) a (cond second b a))

-- IEEE 754-2019 §9.6, minimum_number: the lesser of two, -0 being less than +0; a NaN loses.
unfoldable pub minimum_number : Float → Float → Float
unfolding choose below
minimum_number a b = choose a b (below b a)

-- IEEE 754-2019 §9.6, maximum_number: the greater of two, +0 being greater than -0; a NaN loses.
unfoldable pub maximum_number : Float → Float → Float
unfolding choose below
maximum_number a b = choose a b (below a b)

-- IEEE 754 §5.10, totalOrder: patterns with the sign bit set come before the others, by falling magnitude; the others come by rising magnitude.
-- The magnitude is the pattern less its sign bit, so that NaNs of greater payload lie further out. `place` counts a pattern's place.
unfoldable pub place : ℕ → ℕ
place b = cond (nat_lt b (2 ^ 63)) (2 ^ 63 + b) (2 ^ 64 - 1 - b)

-- a comes strictly before b in totalOrder
unfoldable pub total_less : (a b : ℕ) → Bool
unfolding place
total_less a b = nat_lt (place a) (place b)

-- by whether a comes before b, and b before a
abbrev pub ordering : Bool → Bool → Ordering
ordering true c = Less
ordering false true = Greater
ordering false false = Equal

-- Rust's `total_cmp`, on bit patterns
unfoldable pub total_cmp : (a b : ℕ) → Ordering
unfolding total_less
total_cmp a b = ordering (total_less a b) (total_less b a)
