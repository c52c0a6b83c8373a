-- 01, 'Points on the edge': the marked points as one table. Each row has what the definitions give and what 01 states, as whole numbers.
use Rattle.std.specs.Prelude.{ℕ, ◌+◌, ◌-◌, ◌^◌, Bool, true, false, ◌&&◌, List, [], ◌∷◌, pos, eqb, Float}
use Rattle.std.specs.Float.{binary64}
use Rattle.std.specs.Float.Ieee.{of_int, to_unsigned, to_bits, mul, div}
use Rattle.gcra.specs.declared.Quota.{Quota}
use Rattle.questions.specs.Questions.{Answer, refused, given}
use Rattle.gcra.specs.Packed.{unit_nanos, max_burst, max_interval, encode, rounded}
use Rattle.gcra.specs.Rate.{carry_tat}
use Rattle.gcra.specs.Calls.{quota_new, quota_pack, quota_ceiling}
use Rattle.demand.specs.declared.allocation.View.{View}
use Rattle.demand.specs.Decay.Weight.{S, weight}
use Rattle.demand.specs.Estimators.Estimator.{whole}
use Rattle.demand.specs.Allocation.{share}
use Rattle.hot.specs.HotSet.Set.{new_entry, update_with}
use Rattle.hot.specs.HotSet.Calls.{eviction_margin}
use Rattle.peers.specs.Peers.Changes.{newer}

pub record Point : Type 0 where
  pub computed : ℕ
  pub stated : ℕ

infix 20 ◌gives◌
abbrev pub ◌gives◌ : ℕ → ℕ → Point
n gives m = record { computed = n; stated = m }

-- each row's two numbers are equal
unfoldable pub agree : List Point → Bool
agree [] = true
agree (p ∷ ps) = eqb p.computed p.stated && agree ps

-- a number that is answered; a refusal counts as 0, which no row states
abbrev pub number : Answer ℕ → ℕ
number (refused n) = 0
number (given n) = n

abbrev pub interval : Answer Quota → ℕ
interval (refused n) = 0
interval (given q) = q.interval

abbrev pub quota : (T b : ℕ) → Quota
quota T b = record { interval = T; burst = b }

-- a whole number as an f64 and back
abbrev pub through_float : ℕ → ℕ
through_float n = to_unsigned 64 (of_int binary64 (pos n))

-- a float that is answered, by its bits
abbrev pub bits : Answer Float → ℕ
bits (refused n) = 0
bits (given x) = to_bits binary64 x

-- what a node with half of the limit as its floor knows, in a cluster of 4 with a limit of 100
abbrev pub view : (own others : ℕ) → View
view own others =
    record { limit = whole 100; cluster_size = 4; floor_factor = div binary64 (whole 1) (whole 2); own = whole own; others = whole others }

-- yes as 1, no as 0
abbrev pub flag : Bool → ℕ
flag true = 1
flag false = 0

-- whether a newcomer of this demand, above the threshold, comes into a hot set of one place whose key has the demand 10
abbrev pub comes_in : Float → Bool
comes_in demand =
    (update_with eviction_margin (record { cooldown = 0; max_size = 1; len = 1 }) 2 demand (whole 10) 0 false (new_entry 1 (whole 10) true 0 ∷ [])).hot

unfoldable pub table : List Point
table =
    -- Quota::new(3, 2): T = 333,333,334, word 5,592,405,344,518,146
    (interval (quota_new 3 2) gives 333333334)
    ∷ (number (quota_pack (quota 333333334 2)) gives 5592405344518146)
    -- its ceiling at W = 10^9: 4
    ∷ (number (quota_ceiling (quota 333333334 2) 1000000000) gives 4)
    -- T 1,099,511,627,775 takes unit 0; one more becomes 1,099,511,628,000
    ∷ ((encode unit_nanos 1099511627775).value gives 1099511627775)
    ∷ ((encode unit_nanos 1099511627775).unit gives 0)
    ∷ (rounded unit_nanos 1099511627776 gives 1099511628000)
    -- T 2 to 1, debt 1 ns: debt 1 ns
    ∷ (carry_tat 1 (quota 2 1) (quota 1 1) 0 gives 1)
    -- newer(1, 65535) yes; (32768, 0) and (0, 32768) no
    ∷ (flag (newer 1 65535) gives 1)
    ∷ (flag (newer 32768 0) gives 0)
    ∷ (flag (newer 0 32768) gives 0)
    -- share(100, n 4, floor 0.5, own 3, others 1) = 50; own and others 0: 25
    ∷ (bits (share (view 3 1)) gives to_bits binary64 (whole 50))
    ∷ (bits (share (view 0 0)) gives to_bits binary64 (whole 25))
    -- least 10, newcomer 11: no (10 × 1.1 is 11); 11.5: yes
    ∷ (to_bits binary64 (mul binary64 (whole 10) eviction_margin) gives to_bits binary64 (whole 11))
    ∷ (flag (comes_in (whole 11)) gives 0)
    ∷ (flag (comes_in (div binary64 (whole 23) (whole 2))) gives 1)
    -- e 1, c 2^52: D = S − 1; c 2^52 + 1: D = S
    ∷ (weight 1 (2 ^ 52) gives (S - 1))
    ∷ (weight 1 (2 ^ 52 + 1) gives S)
    -- 2^53 + 1 becomes 2^53; 2^53 + 3 becomes 2^53 + 4
    ∷ (through_float (2 ^ 53 + 1) gives (2 ^ 53))
    ∷ (through_float (2 ^ 53 + 3) gives (2 ^ 53 + 4))
    -- 'Is each burst 1 to 4,194,303?': MAX_BURST
    ∷ (max_burst gives 4194303)
    -- (2^40 − 1) times the last unit: MAX_INTERVAL
    ∷ (max_interval unit_nanos gives 1099511627775000000)
    ∷ []
