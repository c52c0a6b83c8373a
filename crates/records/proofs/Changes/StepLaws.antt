-- Laws of scans over words and records, one step at a time.
use mathlib.Core.Path.{◌≡◌, refl, sym, ap, ◌∙◌}
use mathlib.Core.Bool.{Bool, true, false, ◌&&◌, ◌||◌}
use mathlib.Core.List.{List, [], ◌∷◌, map}
use Prim.Native.Nat.{ℕ, zero, suc, ◌+◌, ◌*◌, ◌≤◌, ◌<◌}
use native.Mathlib.Nat.{le_of_suc-le-suc, not-suc-le-zero, zero-mul, suc-mul, add_comm}
use native.Mathlib.Numerals.{add-one}
use lib.ListN.{length, take, drop, get_or}
use lib.Seq.{drop-cons, drop-drop, get_or-drop, get_or-take}
use Rattle.records.specs.Records.{records}
use Rattle.questions.specs.Lists.{all, any}

-- past the end nothing is left
pub drop-end : {A : Type 0} (xs : List A) (n : ℕ) → length xs ≤ n → drop n xs ≡ []
drop-end [] zero h = refl
drop-end [] (suc n) h = refl
drop-end (x ∷ xs) zero h = absurd (not-suc-le-zero h)
drop-end (x ∷ xs) (suc n) h = drop-end xs n (le_of_suc-le-suc h)

pub next_of : {A : Type 0} (xs : List A) (i : ℕ) (z : A) → i < length xs → drop i xs ≡ get_or xs i z ∷ drop (i + 1) xs
next_of xs i z h = drop-cons xs i z h ∙ ap (λ (n : ℕ). get_or xs i z ∷ drop n xs) (sym (add-one i))

-- ---- any and all of them
module _ {A : Type 0} (p : A → Bool) (z : A) (xs : List A) (i : ℕ) where
  pub any_next : i < length xs → p (get_or xs i z) ≡ false → any p (drop (i + 1) xs) ≡ any p (drop i xs)
  unfolding any
  any_next h e = sym (ap (any p) (next_of xs i z h) ∙ ap (λ (b : Bool). b || any p (drop (i + 1) xs)) e)

  pub any-stop : i < length xs → p (get_or xs i z) ≡ true → any p (drop i xs) ≡ true
  unfolding any
  any-stop h e = ap (any p) (next_of xs i z h) ∙ ap (λ (b : Bool). b || any p (drop (i + 1) xs)) e

  pub any-end : length xs ≤ i → any p (drop i xs) ≡ false
  unfolding any
  any-end h = ap (any p) (drop-end xs i h)

  pub all-next : i < length xs → p (get_or xs i z) ≡ true → all p (drop (i + 1) xs) ≡ all p (drop i xs)
  unfolding all
  all-next h e = sym (ap (all p) (next_of xs i z h) ∙ ap (λ (b : Bool). b && all p (drop (i + 1) xs)) e)

  pub all-stop : i < length xs → p (get_or xs i z) ≡ false → all p (drop i xs) ≡ false
  unfolding all
  all-stop h e = ap (all p) (next_of xs i z h) ∙ ap (λ (b : Bool). b && all p (drop (i + 1) xs)) e

  pub all_end : length xs ≤ i → all p (drop i xs) ≡ true
  unfolding all
  all_end h = ap (all p) (drop-end xs i h)

-- ---- records, one after the other
pub next-record : {A : Type 0} (f : List ℕ → A) (w n : ℕ) (xs : List ℕ) (i : ℕ) → i < n → drop i (map f (records w n xs)) ≡ f (take w (drop (i * w) xs)) ∷ drop (i + 1) (map f (records w n xs))
unfolding records
next-record f w zero xs i h = absurd (not-suc-le-zero h)
next-record f w (suc n) xs zero h = ap (λ (k : ℕ). f (take w (drop k xs)) ∷ map f (records w n (drop w xs))) (sym (zero-mul w))
next-record f w (suc n) xs (suc i) h =
    next-record f w n (drop w xs) i (le_of_suc-le-suc h)
    ∙ ap (λ (l : List ℕ). f (take w l) ∷ drop (i + 1) (map f (records w n (drop w xs)))) (drop-drop (i * w) w xs ∙ ap (λ (k : ℕ). drop k xs) (add_comm w (i * w) ∙ sym (suc-mul i w)))
    ∙ ap (λ (k : ℕ). f (take w (drop (suc i * w) xs)) ∷ drop k (map f (records w (suc n) xs))) (ap suc (add-one i) ∙ sym (add-one (suc i)))

pub word_of : (w a k : ℕ) (xs : List ℕ) → k < w → get_or (take w (drop a xs)) k 0 ≡ get_or xs (a + k) 0
word_of w a k xs h = get_or-take w (drop a xs) k 0 h ∙ get_or-drop a xs k 0
