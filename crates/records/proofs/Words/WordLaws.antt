-- Laws on lists of words, for the moves.
use mathlib.Core.Path.{◌≡◌, sym, ap, ◌∙◌}
use mathlib.Core.Bool.{true}
use mathlib.Core.List.{List, ◌++◌, append_assoc}
use Prim.Native.Nat.{ℕ, ◌+◌, ◌-◌, ◌≤◌}
use native.Mathlib.Omega.{arith}
use borrow.Author.Tests.{le-leb}
use lib.ListN.{length, take, drop, take-append-drop}
use lib.Seq.{slice, length-take-le, take-take, take-append-le, drop_at}
use Rattle.records.specs.Words.{copy_within, copyable, copied, paste}

-- a move to where the words are
pub copy-here : (f t : ℕ) (xs : List ℕ) → f ≤ t → t ≤ length xs → copy_within f t f xs ≡ xs
unfolding copy_within
copy-here f t xs h k =
    let e : f + (t - f) ≡ t = omega arith in
    ap (λ (n : ℕ). take f xs ++ (slice f t xs ++ drop n xs)) e
    ∙ ap (λ (l : List ℕ). l ++ (slice f t xs ++ drop t xs)) (sym (take-take f t xs h))
    ∙ sym (append_assoc (take f (take t xs)) (slice f t xs) (drop t xs))
    ∙ ap (λ (l : List ℕ). l ++ drop t xs) (take-append-drop f (take t xs))
    ∙ take-append-drop t xs

-- ---- the copy that is refused where it is not within the words
abbrev pub Within : ℕ → ℕ → ℕ → ℕ → Type 0
Within len f t d = (f ≤ t) × (t ≤ len) × (d + (t - f) ≤ len)

module _ (f t d : ℕ) (xs : List ℕ) where
  copyable-is : Within (length xs) f t d → copyable (length xs) f t d ≡ true
  unfolding copyable
  copyable-is h = rw (le-leb f t h.0, le-leb t (length xs) h.1, le-leb (d + (t - f)) (length xs) h.2)

  pub copied_is : Within (length xs) f t d → copied f t d xs ≡ copy_within f t d xs
  unfolding copied
  copied_is h = rw (copyable-is h)

-- words from f up to t moved to where r ends, and r pasted before them
pub paste-copy : (a f t : ℕ) (r xs : List ℕ) → a + length r ≤ length xs → paste a r (copy_within f t (a + length r) xs) ≡ take a xs ++ (r ++ (slice f t xs ++ drop (a + length r + (t - f)) xs))
unfolding paste copy_within
paste-copy a f t r xs h =
    let p : List ℕ = take (a + length r) xs in
    let q : List ℕ = slice f t xs ++ drop (a + length r + (t - f)) xs in
    let lp : length p ≡ a + length r = length-take-le (a + length r) xs h in
    let t1 : take a (p ++ q) ≡ take a xs = take-append-le a p q (omega arith) ∙ take-take a (a + length r) xs (omega arith) in
    (λ k. t1 k ++ (r ++ drop_at p q (a + length r) lp k))
