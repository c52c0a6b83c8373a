-- The orders: the ways of `below`, and totalOrder among the patterns of numbers.
use Rattle.std.proofs.Common.{◌≡◌, ℕ, ◌+◌, ◌-◌, ◌<◌, ◌≤◌, Bool, cond, ◌&&◌, ◌||◌, ltb, sym, ap, ◌∙◌, arith, le-ltb, lt-ltb}
use lib.Ieee.{Float, lt, eq}
use Rattle.float.specs.Order.{negative, below, place, total_less}
use Rattle.questions.proofs.Tests.{same-ltb}

-- ---- `below`
pub below-is : (x y : Float) (l e : Bool) → lt x y ≡ l → eq x y ≡ e → (l || (e && negative x)) ≡ below x y
unfolding below
below-is x y l e h k = sym (ap (λ (b : Bool). b || (eq x y && negative x)) h ∙ ap (λ (b : Bool). l || (b && negative x)) k)

-- ---- totalOrder
pub place-clear : (b : ℕ) → b < 9223372036854775808 → place b ≡ 9223372036854775808 + b
unfolding place
place-clear b h = ap (λ (t : Bool). cond t (9223372036854775808 + b) (18446744073709551615 - b)) (lt-ltb b 9223372036854775808 h)

pub place_set : (b : ℕ) → 9223372036854775808 ≤ b → place b ≡ 18446744073709551615 - b
unfolding place
place_set b h = ap (λ (t : Bool). cond t (9223372036854775808 + b) (18446744073709551615 - b)) (le-ltb b 9223372036854775808 h)

-- among patterns with a clear sign bit, totalOrder is the order of the patterns as whole numbers
pub total-less-clear : (a b : ℕ) → a < 9223372036854775808 → b < 9223372036854775808 → total_less a b ≡ ltb a b
unfolding total_less
total-less-clear a b A B =
    ap (λ (z : ℕ). ltb z (place b)) (place-clear a A)
    ∙ ap (λ (z : ℕ). ltb (9223372036854775808 + a) z) (place-clear b B)
    ∙ same-ltb (9223372036854775808 + a) (9223372036854775808 + b) a b (λ h. omega arith) (λ h. omega arith)
