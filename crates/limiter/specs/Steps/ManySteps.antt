-- What the private functions of many checks cite. Definitions only.
use Rattle.std.specs.Prelude.{ℕ, ◌*◌, ◌≤◌, ◌≡◌, true, List, map, length}
use Rattle.records.specs.Records.{records, table, fits}
use Rattle.limiter.specs.declared.Limiter.{Limiter}
use Rattle.limiter.specs.State.{key_words, settings_of, valid_settings, units_in}
use Rattle.limiter.specs.Checks.{Answers, check_each}
use Rattle.limiter.specs.Calls.{answer_words}
use Rattle.limiter.specs.Steps.CheckSteps.{keys_only, counting, Ready}

-- what the questions of the whole say of the settings, the key table, the pairs and the output
pub record PairsReady (l : Limiter) (xs list : List ℕ) (count : ℕ) (out : List ℕ) : Type 0 where
  pub settings : valid_settings (settings_of l) ≡ true
  pub keys : Ready l xs
  pub pairs : fits (length list) 2 count ≡ true
  pub output : count * 3 ≤ length out

-- the checks of the first `count` pairs, as far as they read the state
abbrev pub pairs_checked : Limiter → (keys list : List ℕ) → (count n : ℕ) → Answers
pairs_checked l xs list count n = check_each (units_in l) n (records 2 count list) (keys_only l xs)

-- what they leave: the limiter, the words of the key table and those of the output
pub record ChecksPairs (l : Limiter) (xs list : List ℕ) (count n : ℕ) (out : List ℕ) (l' : Limiter) (xs' out' : List ℕ) : Type 0 where
  pub limiter : l' ≡ counting l (length (pairs_checked l xs list count n).left.keys)
  pub words : xs' ≡ table (map (key_words (units_in l)) (pairs_checked l xs list count n).left.keys) xs
  pub output : out' ≡ table (map answer_words (pairs_checked l xs list count n).answers) out
