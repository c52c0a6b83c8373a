-- Searches of tables that ascend: the record with a key, by its words.
use Prim.Native.Nat.{ℕ, ◌≤◌, ◌<◌}
use mathlib.Core.Path.{◌≡◌, refl}
use mathlib.Core.Bool.{true}
use mathlib.Core.List.{List, [], ◌∷◌}
use native.Mathlib.Omega.{arith}
use lib.ListN.{length, take, get_or}
use Rattle.records.specs.declared.Found.{Found}
use Rattle.records.specs.declared.Found.TheVariants.{At, Gap}
use Rattle.records.specs.Records.{ascending, find}
use Rattle.records.proofs.Order.OrderLaws.{key_at}
use Rattle.records.proofs.Order.PlaceLaws.{find_at}

-- every record has d words or more
abbrev pub Long : ℕ → List (List ℕ) → Type 0
Long d rs = (i : ℕ) → i < length rs → d ≤ length (get_or rs i [])

pub key-1 : (r : List ℕ) → 1 ≤ length r → take 1 r ≡ get_or r 0 0 ∷ []
key-1 [] h = absurd (omega arith)
key-1 (a ∷ r) h = refl

pub key-2 : (r : List ℕ) → 2 ≤ length r → take 2 r ≡ get_or r 0 0 ∷ get_or r 1 0 ∷ []
key-2 [] h = absurd (omega arith)
key-2 (a ∷ []) h = absurd (omega arith)
key-2 (a ∷ b ∷ r) h = refl

same_place : (i j : ℕ) (f : Found) → f ≡ At i → f ≡ At j → j ≡ i
same_place i j f p q = cc

no_place : (i j : ℕ) (f : Found) → f ≡ Gap i → f ≡ At j → ⊥
no_place i j f p q = let z : ◌≡◌ {A = ℕ} 0 1 = cc in omega arith

-- only the record that is found has the key; where none is found, none has it
module _ (d : ℕ) (k : List ℕ) (rs : List (List ℕ)) (asc : ascending d rs ≡ true) where
  pub found-alone : (i : ℕ) → find d k rs ≡ At i → (j : ℕ) → j < length rs → key_at d rs j ≡ k → j ≡ i
  found-alone i e j h q = same_place i j (find d k rs) e (find_at d k rs j asc h q)

  pub found_none : (i : ℕ) → find d k rs ≡ Gap i → (j : ℕ) → j < length rs → key_at d rs j ≡ k → ⊥
  found_none i e j h q = no_place i j (find d k rs) e (find_at d k rs j asc h q)
