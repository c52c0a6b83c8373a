-- What a run shows of one key, by each call that has a reading, and what demand 3 counts in it (01, 'The meter (001)'). Nothing here knows how the
-- limiter works. Definitions only.
use Rattle.std.specs.Prelude.{ℕ, ◌+◌, ◌-◌, ◌*◌, ◌/◌, ◌^◌, ◌≤◌, ◌<◌, max, ◌≡◌, Bool, true, false, cond, ◌&&◌, List, [], ◌∷◌, ◌++◌, ltb}
use Rattle.gcra.specs.declared.Gcra.{Gcra}
use Rattle.gcra.specs.Rate.{same_quota}
use Rattle.gcra.specs.Meter.{tat_word}
use Rattle.std.specs.declared.option.Option.{Option}
use Rattle.std.specs.declared.option.Option.TheVariants.{None, Some}

pub record Seen : Type 0 where
  -- the call's reading
  pub at : ℕ
  -- how many checks of the key it allowed: 1 or 0
  pub allowed : ℕ
  -- the key's quota and TAT after it; none where the key is not tracked
  pub meter : Option Gcra

-- ---- spells and changes of quota

-- 'A spell is the part of a stretch in which a tracked key keeps one quota; it ends when the key is dropped'
abbrev pub goes_on : Option Gcra → Option Gcra → Bool
goes_on None None = true
goes_on None (Some b) = false
goes_on (Some a) None = false
goes_on (Some a) (Some b) = same_quota b.quota a.quota

-- 'lowers a TAT ahead of its reading': of a TAT a at the reading `at`, which becomes b
abbrev pub lowered : (at a b : ℕ) → ℕ
lowered at a b = cond (ltb at a && ltb b a) 1 0

-- 'A change of quota is a call that ends one spell and starts the next, the key tracked throughout; a tick that by rounding lowers a TAT ahead of its
-- reading, the quota the same, counts as one too'
abbrev pub change : ℕ → Option Gcra → Option Gcra → ℕ
change at None b = 0
change at (Some a) None = 0
change at (Some a) (Some b) = cond (same_quota b.quota a.quota) (lowered at (tat_word a.tat) (tat_word b.tat)) 1

-- No call does the last: with the quota the same no TAT is lowered, so the sentence's second half never counts
abbrev pub NeverLowered : Option Gcra → List Seen → Type 0
NeverLowered m [] = Unit
NeverLowered m (x ∷ xs) = (goes_on m x.meter ≡ true → change x.at m x.meter ≡ 0) × NeverLowered x.meter xs

-- how many after a call that left `m`
abbrev pub changes : Option Gcra → List Seen → ℕ
changes m [] = 0
changes m (x ∷ xs) = change x.at m x.meter + changes x.meter xs

-- a spell's 'length divided by its interval, rounded down'; nothing where the key is not tracked
abbrev pub share : Option Gcra → ℕ → ℕ → ℕ
share None from to = 0
share (Some a) from to = (to - from) / a.quota.interval

-- those of the spell of `m` that began at `from` and of the spells after it. 'A spell's length is the reading of the call that ends it less that of
-- the one that starts it'; the last spell ends with the last call, whose reading is `to` where no call is left
abbrev pub shares : Option Gcra → ℕ → ℕ → List Seen → ℕ
shares m from to [] = share m from to
shares m from to (x ∷ xs) =
    cond (goes_on m x.meter) (shares x.meter from x.at xs) (share m from x.at + shares x.meter x.at x.at xs)

-- ---- a stretch: the calls from x, an allowed check of the key, through xs to 'the same or a later one'

abbrev pub last : Seen → List Seen → Seen
last x [] = x
last x (y ∷ ys) = last y ys

abbrev pub allowed_in : List Seen → ℕ
allowed_in [] = 0
allowed_in (x ∷ xs) = x.allowed + allowed_in xs

abbrev pub burst_of : Option Gcra → ℕ
burst_of None = 0
burst_of (Some a) = a.quota.burst

-- 'the burst in force at the last of them, plus each spell's length divided by its interval, rounded down, plus two for each change of quota'
abbrev pub bound : Seen → List Seen → ℕ
bound x xs = burst_of (last x xs).meter + shares x.meter x.at x.at xs + 2 * changes x.meter xs

-- 'for .. every stretch, the checks allowed number at most' that
abbrev pub KeepsToTheBound : List Seen → Type 0
KeepsToTheBound all =
    (before : List Seen) (first : Seen) (others after : List Seen) → all ≡ before ++ (first ∷ (others ++ after))
    → 0 < first.allowed → 0 < (last first others).allowed
    → allowed_in (first ∷ others) ≤ bound first others

-- ---- the count's premises

-- 'the run's readings never go back and stay below 2^62 ns'
abbrev pub Onward : ℕ → List Seen → Type 0
Onward latest [] = Unit
Onward latest (x ∷ xs) = (latest ≤ x.at) × (x.at < 2 ^ 62) × Onward x.at xs

-- not removed while its TAT is later than the latest reading. The sentence asks more, that the tracked-key cap never removes it.
abbrev pub stays : ℕ → Option Gcra → Option Gcra → Type 0
stays at None b = Unit
stays at (Some a) None = tat_word a.tat ≤ at
stays at (Some a) (Some b) = Unit

abbrev pub Kept : Option Gcra → List Seen → Type 0
Kept m [] = Unit
Kept m (x ∷ xs) = stays x.at m x.meter × Kept x.meter xs

-- 'each of its intervals times its largest burst is at most 2^61'
abbrev pub largest_burst : List Seen → ℕ
largest_burst [] = 0
largest_burst (x ∷ xs) = max (burst_of x.meter) (largest_burst xs)

abbrev pub IsSmall : ℕ → Option Gcra → Type 0
IsSmall burst None = Unit
IsSmall burst (Some a) = a.quota.interval * burst ≤ 2 ^ 61

abbrev pub Small : ℕ → List Seen → Type 0
Small burst [] = Unit
Small burst (x ∷ xs) = IsSmall burst x.meter × Small burst xs

-- of what a whole run shows. 'its quota changes fewer than 2^32 times' is not asked: the bound holds without it.
pub record Premises (all : List Seen) : Type 0 where
  pub onward : Onward 0 all
  pub kept : Kept None all
  pub small : Small (largest_burst all) all
