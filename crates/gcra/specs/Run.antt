-- A list of checks of one Gcra, one after the other, at any readings. Definitions only.
use Rattle.std.specs.Prelude.{ℕ, suc, ◌+◌, Bool, true, cond, ◌&&◌, List, [], ◌∷◌, leb, ltb}
use Rattle.gcra.specs.declared.Gcra.{Gcra}
use Rattle.gcra.specs.Meter.{is_allow, decision, check}

-- what the Gcra is after them
unfoldable pub after : Gcra → List ℕ → Gcra
after g [] = g
after g (now ∷ later) = after (check g now) later

-- the readings that were allowed
unfoldable pub allowed : Gcra → List ℕ → List ℕ
allowed g [] = []
allowed g (now ∷ later) = cond (is_allow (decision g now)) (now ∷ allowed (check g now) later) (allowed (check g now) later)

-- how many readings of a list lie from s to s + w, both ends counted
unfoldable pub count_in : (s w : ℕ) → List ℕ → ℕ
count_in s w [] = 0
count_in s w (t ∷ later) = cond (leb s t && leb t (s + w)) (suc (count_in s w later)) (count_in s w later)

unfoldable pub all_below : ℕ → List ℕ → Bool
all_below n [] = true
all_below n (t ∷ later) = ltb t n && all_below n later
