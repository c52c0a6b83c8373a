-- Laws: lists that are read from an index on, one element after the other, and elements kept by their flags.
use mathlib.Core.Path.{◌≡◌, refl, sym, ap, ◌∙◌}
use mathlib.Core.Bool.{Bool, true, false}
use mathlib.Core.List.{List, [], ◌∷◌, map, zip_with}
use Prim.Native.Nat.{ℕ, suc, ◌+◌, ◌≤◌, ◌<◌}
use native.Mathlib.Numerals.{add-one}
use native.Mathlib.Omega.{arith}
use lib.ListN.{length, drop, get_or, drop_of_length-le}
use lib.Seq.{drop-cons}
use Rattle.limiter.specs.Steps.TickSteps.{flagged}

-- the next element of a list
drop-next : {A : Type 0} (d : A) (xs : List A) (i : ℕ) → i < length xs → drop i xs ≡ get_or xs i d ∷ drop (i + 1) xs
drop-next d xs i h = drop-cons xs i d h ∙ ap (λ (m : ℕ). get_or xs i d ∷ drop m xs) (sym (add-one i))

-- ---- through a map
module _ {A B : Type 0} (f : A → B) (d : A) (xs : List A) (i : ℕ) where
  pub map-from : i < length xs → (v : B) → v ≡ f (get_or xs i d) → map f (drop i xs) ≡ v ∷ map f (drop (i + 1) xs)
  map-from h v e = ap (map f) (drop-next d xs i h) ∙ ap (λ w. w ∷ map f (drop (i + 1) xs)) (sym e)

  pub map-end : length xs ≤ i → map f (drop i xs) ≡ []
  map-end h = ap (map f) (drop_of_length-le xs h)

-- ---- two lists side by side
module _ {A B C : Type 0} (f : A → B → C) (d : A) (e : B) (xs : List A) (ys : List B) (i : ℕ) where
  pub zip-from : i < length xs → i < length ys → (v : C) → v ≡ f (get_or xs i d) (get_or ys i e)
      → zip_with f (drop i xs) (drop i ys) ≡ v ∷ zip_with f (drop (i + 1) xs) (drop (i + 1) ys)
  unfolding zip_with
  zip-from h k v q =
      (λ m. zip_with f (drop-next d xs i h m) (drop-next e ys i k m))
      ∙ ap (λ w. w ∷ zip_with f (drop (i + 1) xs) (drop (i + 1) ys)) (sym q)

  pub zip_end : length xs ≤ i → zip_with f (drop i xs) (drop i ys) ≡ []
  unfolding zip_with
  zip_end h = ap (λ zs. zip_with f zs (drop i ys)) (drop_of_length-le xs h)

-- a list beside what is worked out from it
pub zip-mapped : {A B C : Type 0} (f : A → B → C) (g : A → B) (xs : List A) → zip_with f xs (map g xs) ≡ map (λ x. f x (g x)) xs
unfolding zip_with
zip-mapped f g [] = refl
zip-mapped f g (x ∷ xs) = ap (λ zs. f x (g x) ∷ zs) (zip-mapped f g xs)

-- ---- kept by flags

-- what is worked out from each is kept with it
pub flagged-map : {A B : Type 0} (f : A → B) (bs : List Bool) (xs : List A) → flagged bs (map f xs) ≡ map f (flagged bs xs)
unfolding flagged
flagged-map f [] xs = refl
flagged-map f (b ∷ bs) [] = refl
flagged-map f (true ∷ bs) (x ∷ xs) = ap (λ zs. f x ∷ zs) (flagged-map f bs xs)
flagged-map f (false ∷ bs) (x ∷ xs) = flagged-map f bs xs

-- as many are kept of lists that are as long
pub flagged-many : {A B : Type 0} (bs : List Bool) (xs : List A) (ys : List B) → length xs ≡ length ys
    → length (flagged bs xs) ≡ length (flagged bs ys)
unfolding flagged
flagged-many [] xs ys e = refl
flagged-many (b ∷ bs) [] [] e = refl
flagged-many (b ∷ bs) [] (y ∷ ys) e = absurd (omega arith)
flagged-many (b ∷ bs) (x ∷ xs) [] e = absurd (omega arith)
flagged-many (true ∷ bs) (x ∷ xs) (y ∷ ys) e = ap suc (flagged-many bs xs ys (omega arith))
flagged-many (false ∷ bs) (x ∷ xs) (y ∷ ys) e = flagged-many bs xs ys (omega arith)
