-- 01, 'The decay weight': a whole number of parts, of which S make one, for exp(-e / c).
use Rattle.std.specs.Prelude.{ℕ, zero, suc, ◌+◌, ◌-◌, ◌*◌, ◌/◌, ◌%◌, ◌^◌, cond, leb, eqb}

-- 'S = 2^52'
abbrev pub S : ℕ
S = 2 ^ 52

-- 'Tk = floor(T(k−1) × y ÷ (k × S))', from t = T(k−1)
unfoldable pub next : (k t y : ℕ) → ℕ
next k t y = t * y / (k * S)

-- 'T0 = S', and so on
unfoldable pub term : (y k : ℕ) → ℕ
unfolding next
term y zero = S
term y (suc k) = next (suc k) (term y k) y

-- 'the sum with signs +, −, + and so on' of T0 to T(2 × j). No term is above the one before it, so no difference is below 0.
unfoldable pub sum : (y j : ℕ) → ℕ
unfolding term
sum y zero = term y zero
sum y (suc j) = sum y j - term y (suc (j + j)) + term y (suc (suc (j + j)))

-- 'P', the sum of T0 to T20
unfoldable pub series : ℕ → ℕ
unfolding sum
series y = sum y 10

-- 'E0 = S, E1 is P at y = S, E(q) = floor(E(q−1) × E1 ÷ S)'
unfoldable pub power : ℕ → ℕ
unfolding series
power zero = S
power (suc q) = power q * series S / S

-- 'D = floor(P × E(q) ÷ S); D = 0 if q is 37 or more, or c = 0', with 'q = floor(e ÷ c), r the rest, y = floor(r × S ÷ c)'
unfoldable pub weight : (e c : ℕ) → ℕ
unfolding series power
weight e c = cond (eqb c 0) 0 (cond (leb 37 (e / c)) 0 (series (e % c * S / c) * power (e / c) / S))
