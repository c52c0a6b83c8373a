-- The keys of many records that the peers have as primary, told by going over the peers' records. Definitions only.
use Rattle.std.specs.Prelude.{◌≡◌, ℕ, ◌≤◌, Bool, true, false, ◌&&◌, ◌||◌, List, [], ◌∷◌, ◌++◌, length, drop, replicate, ◌==◌, slice_index}
use Rattle.records.specs.Records.{records, fits, ascending}
use Rattle.records.specs.Fields.{flag_of}
use Rattle.questions.specs.Lists.{any}

-- a snapshot key or a contested key, by its words, is the given key and primary; one of many is
abbrev pub has_primary : ℕ → List ℕ → Bool
has_primary key r = slice_index r 1 == key && flag_of (slice_index r 3)

abbrev pub is_primary_in : List (List ℕ) → ℕ → Bool
is_primary_in rs key = any (has_primary key) rs

-- the flags of records, each set where f holds of the record's key, its first word
unfoldable pub marked : (ℕ → Bool) → List (List ℕ) → List Bool → List Bool
marked f [] out = out
marked f (r ∷ rs) [] = []
marked f (r ∷ rs) (b ∷ out) = (b || f (slice_index r 0)) ∷ marked f rs out

-- the first n flags cleared
abbrev pub cleared : ℕ → List Bool → List Bool
cleared n out = replicate n false ++ drop n out

-- n records of w words that ascend by their key, with a flag for each
pub record Markable (w n : ℕ) (keys : List ℕ) (out : List Bool) : Type 0 where
  pub fit : fits (length keys) w n ≡ true
  pub ascends : ascending 1 (records w n keys) ≡ true
  pub room : n ≤ length out
