-- Binomial coefficients, and the sums of a sequence t that they weigh. Where t i is x ^ i / i!, `row m j` is (t 0 + .. + t m) * t j, and so the rows
-- 0 to j with alternating signs make the sum of exp(x) up to m times that of exp(-x) up to j: `signed` says on which side of 1, which is t 0, it lies.
use mathlib.Core.Path.{◌≡◌, refl, sym, ap, ◌∙◌, subst}
use mathlib.Core.Bool.{Bool, true, false, not, cond}
use mathlib.Core.Logic.{inl, inr}
use Prim.Native.Nat.{ℕ, zero, suc, ◌+◌, ◌-◌, ◌*◌, ◌≤◌, ◌<◌, zero-le}
use native.Mathlib.Nat.{eq-or-lt_of_le, le_refl, le_trans, le_of_eq, le-add_left, add-le-add, mul-le-mul_right, add-mul, one-mul, zero-add, add-zero, suc-add, add-suc, add_comm}
use native.Mathlib.Omega.{arith}
use Rattle.demand.specs.Decay.Exponential.{odd}
use Rattle.demand.proofs.Weight.Convolution.{Sequence, total}

-- (i + j)! / (i! * j!)
unfoldable pub choose : (i j : ℕ) → ℕ
choose zero j = 1
choose (suc i) zero = 1
choose (suc i) (suc j) = choose i (suc j) + choose (suc i) j

choose-none : (i : ℕ) → choose i 0 ≡ 1
unfolding choose
choose-none zero = refl
choose-none (suc i) = refl

swap : (i j : ℕ) → choose i j ≡ choose j i
unfolding choose
swap zero j = sym (choose-none j)
swap (suc i) zero = refl
swap (suc i) (suc j) = (λ k. swap i (suc j) k + swap (suc i) j k) ∙ (let e : choose (suc j) i + choose j (suc i) ≡ choose j (suc i) + choose (suc j) i = omega arith in e)

some : (i j : ℕ) → 1 ≤ choose i j
unfolding choose
some zero j = le_refl 1
some (suc i) zero = le_refl 1
some (suc i) (suc j) = le_trans (some (suc i) j) (le-add_left (choose (suc i) j) (choose i (suc j)))

-- the nearer to the middle, the larger
middle : (u a b : ℕ) → a ≤ b → choose a (u + b) ≤ choose (u + a) b
unfolding choose
middle u zero b h = some (u + 0) b
middle u (suc a) zero h = absurd (none a h)
  where
    none : (a : ℕ) → suc a ≤ 0 → ⊥
    none a h = omega arith
middle u (suc a) (suc b) h = elim (eq-or-lt_of_le h) [
  | inl e ↦ subst (λ (k : ℕ). choose (suc a) (u + k) ≤ choose (u + suc a) k) e (le_of_eq (swap (suc a) (u + suc a)))
  | inr l ↦ both (middle u a (suc b) (earlier a b h)) (middle u (suc a) b (back a b l))
]
  where
    both : choose a (u + suc b) ≤ choose (u + a) (suc b) → choose (suc a) (u + b) ≤ choose (u + suc a) b → choose (suc a) (u + suc b) ≤ choose (u + suc a) (suc b)
    both p q = rw (add-suc u b, add-suc u a) (add-le-add (rw (add-suc u b) at p) (rw (add-suc u a) at q))

    earlier : (a b : ℕ) → suc a ≤ suc b → a ≤ suc b
    earlier a b h = omega arith

    back : (a b : ℕ) → suc a < suc b → suc a ≤ b
    back a b h = omega arith

-- ---- the rows

module _ (t : Sequence) where
  -- choose 0 j * t j + choose 1 j * t (j + 1) + .. + choose m j * t (j + m)
  abbrev pub row : (m j : ℕ) → ℕ
  row m j = total (λ (i : ℕ). choose i j * t (i + j)) m

  -- choose 0 j * t (j + 1) + .. + choose (n - 1) j * t (j + n)
  unfoldable raised : (n j : ℕ) → ℕ
  raised zero j = 0
  raised (suc n) j = raised n j + choose n j * t (suc (n + j))

  row_first : (m : ℕ) → row m 0 ≡ t 0 + raised m 0
  unfolding total raised choose
  row_first zero = one-mul (t 0) ∙ sym (add-zero (t 0))
  row_first (suc m) = rw (suc-add m 0, choose-none m) (let e : row m 0 ≡ t 0 + raised m 0 = row_first m in omega arith)

  -- by Pascal's rule
  row_next : (m j : ℕ) → row m (suc j) ≡ raised (suc m) j + raised m (suc j)
  unfolding total raised choose
  row_next zero j = rw (zero-add (suc j), zero-add j) (omega arith)
  row_next (suc m) j =
      rw (suc-add m (suc j), suc-add m j, add-suc m j)
      (together (row m (suc j)) (choose m (suc j)) (choose (suc m) j) (t (suc (suc (m + j)))) (raised (suc m) j) (raised m (suc j)) (row_next m j))
    where
      together : (R a b T p q : ℕ) → R ≡ p + q → R + (a + b) * T ≡ p + b * T + (q + a * T)
      together R a b T p q e = rw (add-mul a b T) (omega arith)

  raised-le : (u j n : ℕ) → n ≤ j → raised n (u + j) ≤ raised (u + n) j
  unfolding raised
  raised-le u j zero h = zero-le
  raised-le u j (suc n) h =
      rw (add-suc u n)
      (add-le-add (raised-le u j n (before n j h)) (le_trans (mul-le-mul_right (t (suc (n + (u + j)))) (middle u n j (before n j h))) (le_of_eq (ap (λ (k : ℕ). choose (u + n) j * t (suc k)) (moved n u j)))))
    where
      before : (n j : ℕ) → suc n ≤ j → n ≤ j
      before n j h = omega arith

      moved : (n u j : ℕ) → n + (u + j) ≡ u + n + j
      moved n u j = omega arith

-- ---- those of even index against those of odd index

unfoldable pub evens : Sequence → Sequence
evens f i = cond (odd i) 0 (f i)

unfoldable pub odds : Sequence → Sequence
odds f i = cond (odd i) (f i) 0

module _ (t : Sequence) (m : ℕ) where
  -- For rows up to j, of which those of even index make A, those of odd index B, and b says whether j is odd: A is above t 0 + B, or below it if j is odd,
  -- by raised t m j, but for raised t j m.
  record Apart (b : Bool) (A B j : ℕ) : Type 0 where
    at_least : cond b A (t 0 + B) + raised t m j ≤ cond b (t 0 + B) A + raised t j m
    at_most : cond b (t 0 + B) A ≤ cond b A (t 0 + B) + raised t m j + raised t j m

  apart-first : Apart false (row t m 0) 0 0
  unfolding raised
  apart-first =
      let e : row t m 0 ≡ t 0 + raised t m 0 = row_first t m in
      record { at_least = omega arith; at_most = omega arith }

  apart_next : (b : Bool) (A B j : ℕ) → Apart b A B j → Apart (not b) (A + cond (not b) 0 (row t m (suc j))) (B + cond (not b) (row t m (suc j)) 0) (suc j)
  unfolding raised
  apart_next b A B j a = either b (row t m (suc j)) (choose m j * t (suc (m + j))) (row_next t m j) (λ i. raised t j m + swap j m i * t (suc (add_comm j m i))) a.at_least a.at_most
    where
      either : (b : Bool) (r d : ℕ) → r ≡ raised t m j + d + raised t m (suc j) → raised t (suc j) m ≡ raised t j m + d → cond b A (t 0 + B) + raised t m j ≤ cond b (t 0 + B) A + raised t j m → cond b (t 0 + B) A ≤ cond b A (t 0 + B) + raised t m j + raised t j m → Apart (not b) (A + cond (not b) 0 r) (B + cond (not b) r 0) (suc j)
      either true r d e q h l = record { at_least = omega arith; at_most = omega arith }
      either false r d e q h l = record { at_least = omega arith; at_most = omega arith }

  abbrev even-rows : ℕ → ℕ
  even-rows j = total (evens (row t m)) j

  abbrev odd-rows : ℕ → ℕ
  odd-rows j = total (odds (row t m)) j

  apart : (j : ℕ) → Apart (odd j) (even-rows j) (odd-rows j) j
  unfolding total evens odds odd
  apart zero = apart-first
  apart (suc j) = apart_next (odd j) (even-rows j) (odd-rows j) j (apart j)

  pub signed : (b : Bool) (j : ℕ) → odd j ≡ b → j ≤ m → cond b (even-rows j) (t 0 + odd-rows j) ≤ cond b (t 0 + odd-rows j) (even-rows j)
  signed b j e h =
      let k : m - j + j ≡ m = omega arith in
      let l : raised t j m ≤ raised t m j = subst (λ (n : ℕ). raised t j n ≤ raised t n j) k (raised-le t (m - j) j j (le_refl j)) in
      let a = (subst (λ (b : Bool). Apart b (even-rows j) (odd-rows j) j) e (apart j)).at_least in
      omega arith
