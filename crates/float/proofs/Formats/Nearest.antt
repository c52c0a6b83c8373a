-- The nearest whole number to a fraction, a tie to the even one: which of the two neighbours it is, and how far it lies from the fraction.
use Rattle.std.proofs.Common.{◌≡◌, ℕ, zero, suc, ◌+◌, ◌*◌, ◌/◌, ◌%◌, ◌<◌, ◌≤◌, Bool, true, false, not, T, eqb, leb, ◌⊎◌, sym, refl, ◌∙◌, subst, inl, inr, le_of_eq, le_of_lt, mod-lt, suc-mul, div-add-mod', arith, eqb-true, leb-false, leb-true}
use Prim.Native.Nat.{compare, Ordering}
use lib.Dec.{is_le, compare_is_eq}
use lib.Ieee.{nearest}
use lib.Ieee.Nearest.{closest}

-- what each answer of the comparison makes of q
under : (q : ℕ) (o : Ordering) → is_le o ≡ true → compare_is_eq o ≡ false → nearest q o ≡ q
under q Ordering.lt l n = refl
under q Ordering.eq l n = let z : ◌≡◌ {A = Bool} true false = n in absurd (subst T z tt)
under q Ordering.gt l n = let z : ◌≡◌ {A = Bool} false true = l in absurd (subst (λ (b : Bool). T (not b)) z tt)

level : (q : ℕ) (o : Ordering) → compare_is_eq o ≡ true → nearest q o ≡ q + q % 2
level q Ordering.lt n = absurd (subst (λ (b : Bool). T (not b)) n tt)
level q Ordering.eq n = refl
level q Ordering.gt n = absurd (subst (λ (b : Bool). T (not b)) n tt)

over : (q : ℕ) (o : Ordering) → is_le o ≡ false → nearest q o ≡ suc q
over q Ordering.lt l = absurd (subst T l tt)
over q Ordering.eq l = absurd (subst T l tt)
over q Ordering.gt l = refl

-- the quotient where the rest is at most a half, or one more where it is at least a half
pub closest-cases : (a b : ℕ) → ((closest a b ≡ a / b) × (a % b * 2 ≤ b)) ⊎ ((closest a b ≡ suc (a / b)) × (b ≤ a % b * 2))
closest-cases a b = go (a / b) (a % b * 2) (leb (a % b * 2) b) (eqb (a % b * 2) b) refl refl
  where
    no_third : (q m : ℕ) → suc (suc m) ≡ q % 2 → ⊥
    no_third q m e = omega arith

    parity : (q m : ℕ) → m ≡ q % 2 → (q + m ≡ q) ⊎ (q + m ≡ suc q)
    parity q zero e = inl (omega arith)
    parity q (suc zero) e = inr (omega arith)
    parity q (suc (suc m)) e = absurd (no_third q m e)

    go : (q r : ℕ) (l e : Bool) → leb r b ≡ l → eqb r b ≡ e → ((nearest q (compare r b) ≡ q) × (r ≤ b)) ⊎ ((nearest q (compare r b) ≡ suc q) × (b ≤ r))
    go q r true true l e = elim (parity q (q % 2) refl) [
      | inl i ↦ inl (level q (compare r b) e ∙ i, leb-true r b l)
      | inr i ↦ inr (level q (compare r b) e ∙ i, le_of_eq (sym (eqb-true r b e)))
    ]
    go q r true false l e = inl (under q (compare r b) l e, leb-true r b l)
    go q r false e l x = inr (over q (compare r b) l, le_of_lt (leb-false r b l))

-- the nearest whole number, times b, is within b / 2 of a
pub closest-up : (a b : ℕ) → closest a b * b * 2 ≤ a * 2 + b
closest-up a b = go (closest a b) (a / b) (a % b) (div-add-mod' a b) (closest-cases a b)
  where
    go : (n q r : ℕ) → q * b + r ≡ a → ((n ≡ q) × (r * 2 ≤ b)) ⊎ ((n ≡ suc q) × (b ≤ r * 2)) → n * b * 2 ≤ a * 2 + b
    go n q r e (inl (p, h)) = rw p (omega arith)
    go n q r e (inr (p, h)) = rw p (let g : suc q * b ≡ q * b + b = suc-mul q b in omega arith)

pub closest-down : (a b : ℕ) → 0 < b → a * 2 ≤ closest a b * b * 2 + b
closest-down a b B = go (closest a b) (a / b) (a % b) (div-add-mod' a b) (mod-lt a B) (closest-cases a b)
  where
    go : (n q r : ℕ) → q * b + r ≡ a → r < b → ((n ≡ q) × (r * 2 ≤ b)) ⊎ ((n ≡ suc q) × (b ≤ r * 2)) → a * 2 ≤ n * b * 2 + b
    go n q r e l (inl (p, h)) = rw p (omega arith)
    go n q r e l (inr (p, h)) = rw p (let g : suc q * b ≡ q * b + b = suc-mul q b in omega arith)
