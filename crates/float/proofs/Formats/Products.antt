-- Laws of the 128-bit products of `wide`, by their halves.
use Rattle.std.proofs.Common.{◌≡◌, ℕ, ◌+◌, ◌*◌, ◌/◌, ◌%◌, ◌^◌, Bool, true, false, cond, eqb, ltb, sym, refl, ◌∙◌, div-add-mod', arith, eqb-true}
use lib.Arith.{lt_of_le-ne}
use borrow.Author.Tests.{eqb-false}
use Rattle.questions.proofs.Tests.{same-ltb}

-- what the two functions answer makes the product
pub joined : (a b : ℕ) {high low : ℕ} → high ≡ a * b / 2 ^ 64 → low ≡ (a * b) % 2 ^ 64 → a * b ≡ high * 2 ^ 64 + low
joined a b h l = sym (div-add-mod' (a * b) (2 ^ 64)) ∙ sym (λ i. h i * 2 ^ 64 + l i)

-- two numbers compare by their upper halves, and where these are equal by their lower ones
pub compare-halves : (x y : ℕ) → ltb x y ≡ cond (eqb (x / 2 ^ 64) (y / 2 ^ 64)) (ltb (x % 2 ^ 64) (y % 2 ^ 64)) (ltb (x / 2 ^ 64) (y / 2 ^ 64))
compare-halves x y = by-upper (eqb (x / 2 ^ 64) (y / 2 ^ 64)) refl
  where
    by-upper : (t : Bool) → eqb (x / 2 ^ 64) (y / 2 ^ 64) ≡ t → ltb x y ≡ cond t (ltb (x % 2 ^ 64) (y % 2 ^ 64)) (ltb (x / 2 ^ 64) (y / 2 ^ 64))
    by-upper true e = same-ltb x y (x % 2 ^ 64) (y % 2 ^ 64) (λ h. omega (arith, eqb-true (x / 2 ^ 64) (y / 2 ^ 64) e)) (λ h. omega (arith, eqb-true (x / 2 ^ 64) (y / 2 ^ 64) e))
    by-upper false e = same-ltb x y (x / 2 ^ 64) (y / 2 ^ 64) (λ h. lt_of_le-ne (omega arith) (eqb-false (x / 2 ^ 64) (y / 2 ^ 64) e)) (λ h. omega arith)
