-- Finite sums and convolutions of sequences of whole numbers.
use mathlib.Core.Path.{◌≡◌, refl, sym, ap, ◌∙◌}
use Prim.Native.Nat.{ℕ, zero, suc, ◌+◌, ◌*◌, ◌≤◌, ◌<◌, zero-le}
use native.Mathlib.Nat.{le_refl, le_trans, le_of_eq, le-add_right, add-le-add, mul-le-mul_left, mul-add, add-mul, mul_assoc, mul_left_comm, zero-mul, mul-zero, add-zero, zero-add, suc-add}
use native.Mathlib.Omega.{arith}
use Rattle.demand.proofs.Weight.Bounds.{sums}

abbrev pub Sequence : Type 0
Sequence = ℕ → ℕ

abbrev pub tail : Sequence → Sequence
tail f i = f (suc i)

-- f 0 + .. + f k
unfoldable pub total : Sequence → ℕ → ℕ
total f zero = f 0
total f (suc k) = total f k + f (suc k)

-- f 0 * g k + f 1 * g (k - 1) + .. + f k * g 0
unfoldable pub conv : Sequence → Sequence → ℕ → ℕ
conv f g zero = f 0 * g 0
conv f g (suc k) = f 0 * g (suc k) + conv (λ (i : ℕ). f (suc i)) g k

-- the first term apart, and the last
pub total_first : (f : Sequence) (k : ℕ) → total f (suc k) ≡ f 0 + total (tail f) k
unfolding total
total_first f zero = refl
total_first f (suc k) = ap (λ (n : ℕ). n + f (suc (suc k))) (total_first f k) ∙ (let e : f 0 + total (tail f) k + f (suc (suc k)) ≡ f 0 + (total (tail f) k + f (suc (suc k))) = omega arith in e)

pub conv-last : (f g : Sequence) (k : ℕ) → conv f g (suc k) ≡ conv f (tail g) k + f (suc k) * g 0
unfolding conv
conv-last f g zero = refl
conv-last f g (suc k) =
    ap (λ (n : ℕ). f 0 * g (suc (suc k)) + n) (conv-last (tail f) g k)
    ∙ (let e : f 0 * g (suc (suc k)) + (conv (tail f) (tail g) k + f (suc (suc k)) * g 0) ≡ f 0 * g (suc (suc k)) + conv (tail f) (tail g) k + f (suc (suc k)) * g 0 = omega arith in e)

step : {i k : ℕ} → i ≤ k → suc i ≤ suc k
step h = omega arith

-- ---- linear in each

pub conv-same-left : (f f' g : Sequence) (k : ℕ) → ((i : ℕ) → i ≤ k → f i ≡ f' i) → conv f g k ≡ conv f' g k
unfolding conv
conv-same-left f f' g zero h = ap (λ (n : ℕ). n * g 0) (h 0 zero-le)
conv-same-left f f' g (suc k) h =
    λ i. h 0 zero-le i * g (suc k) + conv-same-left (tail f) (tail f') g k (λ i l. h (suc i) (step l)) i

pub conv-same-right : (f g g' : Sequence) (k : ℕ) → ((i : ℕ) → i ≤ k → g i ≡ g' i) → conv f g k ≡ conv f g' k
unfolding conv
conv-same-right f g g' zero h = ap (λ (n : ℕ). f 0 * n) (h 0 zero-le)
conv-same-right f g g' (suc k) h =
    λ i. f 0 * h (suc k) (le_refl (suc k)) i + conv-same-right (tail f) g g' k (λ i l. h i (later l)) i
  where
    later : {i k : ℕ} → i ≤ k → i ≤ suc k
    later h = omega arith

pub conv-scale-left : (a : ℕ) (f g : Sequence) (k : ℕ) → conv (λ (i : ℕ). a * f i) g k ≡ a * conv f g k
unfolding conv
conv-scale-left a f g zero = mul_assoc a (f 0) (g 0)
conv-scale-left a f g (suc k) = ap (λ (n : ℕ). a * f 0 * g (suc k) + n) (conv-scale-left a (tail f) g k) ∙ simp sums

pub conv-scale-right : (a : ℕ) (f g : Sequence) (k : ℕ) → conv f (λ (i : ℕ). a * g i) k ≡ a * conv f g k
unfolding conv
conv-scale-right a f g zero = mul_left_comm (f 0) a (g 0)
conv-scale-right a f g (suc k) = ap (λ (n : ℕ). f 0 * (a * g (suc k)) + n) (conv-scale-right a (tail f) g k) ∙ simp sums

pub conv-add-right : (f g h : Sequence) (k : ℕ) → conv f (λ (i : ℕ). g i + h i) k ≡ conv f g k + conv f h k
unfolding conv
conv-add-right f g h zero = mul-add (f 0) (g 0) (h 0)
conv-add-right f g h (suc k) =
    ap (λ (n : ℕ). f 0 * (g (suc k) + h (suc k)) + n) (conv-add-right (tail f) g h k) ∙ rw (mul-add (f 0) (g (suc k)) (h (suc k))) (let e : f 0 * g (suc k) + f 0 * h (suc k) + (conv (tail f) g k + conv (tail f) h k) ≡ f 0 * g (suc k) + conv (tail f) g k + (f 0 * h (suc k) + conv (tail f) h k) = omega arith in e)

-- ---- each index counted: those of the two factors add up to k

gather : (s n u G A B C : ℕ) → A + B ≡ (n + s) * C → s * u * G + A + (u * (n * G) + B) ≡ (n + s) * (u * G + C)
gather s n u G A B C e = simp sums (omega (arith, simp sums at e))

pub conv-indices : (s : ℕ) (f g : Sequence) (k : ℕ) → conv (λ (i : ℕ). (i + s) * f i) g k + conv f (λ (j : ℕ). j * g j) k ≡ (k + s) * conv f g k
unfolding conv
conv-indices s f g zero = rw (zero-add s, zero-mul (g 0)) (simp sums (omega arith))
conv-indices s f g (suc k) =
    let same : conv (λ (i : ℕ). (suc i + s) * f (suc i)) g k ≡ conv (λ (i : ℕ). (i + suc s) * f (suc i)) g k =
    conv-same-left (λ (i : ℕ). (suc i + s) * f (suc i)) (λ (i : ℕ). (i + suc s) * f (suc i)) g k (λ i l. ap (λ (n : ℕ). n * f (suc i)) (moved i)) in
    rw (zero-add s)
    (gather s (suc k) (f 0) (g (suc k)) _ _ _
    (ap (λ (n : ℕ). n + conv (tail f) (λ (j : ℕ). j * g j) k) same ∙ conv-indices (suc s) (tail f) g k ∙ ap (λ (n : ℕ). n * conv (tail f) g k) (sym (moved k))))
  where
    moved : (i : ℕ) → suc i + s ≡ i + suc s
    moved i = omega arith

-- ---- sequences of divided powers: below the index L, f' is to f what x ^ i / i! is to x ^ (i + 1) / (i + 1)!, in units of 1 / c

abbrev pub Grows : (x c L : ℕ) → Sequence → Sequence → Type 0
Grows x c L f f' = (i : ℕ) → i < L → suc i * c * f (suc i) ≡ x * f' i

module _ (x y c L : ℕ) (f f' g g' : Sequence) (grows-f : Grows x c L f f') (grows-g : Grows y c L g g') where
  first-grows : (k : ℕ) → k < L → c * conv (λ (i : ℕ). (i + 0) * f i) g (suc k) ≡ x * conv f' g k
  unfolding conv
  first-grows k h =
      ap (λ (n : ℕ). c * n) (drop (f 0) (g (suc k)) _)
      ∙ sym (conv-scale-left c (λ (i : ℕ). (suc i + 0) * f (suc i)) g k)
      ∙ conv-same-left (λ (i : ℕ). c * ((suc i + 0) * f (suc i))) (λ (i : ℕ). x * f' i) g k (λ i l. turn c (suc i) (f (suc i)) ∙ grows-f i (within i l))
      ∙ conv-scale-left x f' g k
    where
      drop : (u v n : ℕ) → 0 * u * v + n ≡ n
      drop u v n = rw (zero-mul u, zero-mul v, zero-add n)

      turn : (c i n : ℕ) → c * ((i + 0) * n) ≡ i * c * n
      turn c i n = rw (add-zero i) (simp sums)

      within : (i : ℕ) → i ≤ k → i < L
      within i l = omega arith

  second-grows : (k : ℕ) → k < L → c * conv f (λ (j : ℕ). j * g j) (suc k) ≡ y * conv f g' k
  second-grows k h =
      ap (λ (n : ℕ). c * n) (conv-last f (λ (j : ℕ). j * g j) k ∙ drop (f (suc k)) (g 0) _)
      ∙ sym (conv-scale-right c f (λ (j : ℕ). suc j * g (suc j)) k)
      ∙ conv-same-right f (λ (j : ℕ). c * (suc j * g (suc j))) (λ (j : ℕ). y * g' j) k (λ i l. turn c (suc i) (g (suc i)) ∙ grows-g i (within i l))
      ∙ conv-scale-right y f g' k
    where
      drop : (u v n : ℕ) → n + u * (0 * v) ≡ n
      drop u v n = rw (zero-mul v, mul-zero u, add-zero n)

      turn : (c i n : ℕ) → c * (i * n) ≡ i * c * n
      turn c i n = simp sums

      within : (i : ℕ) → i ≤ k → i < L
      within i l = omega arith

  pub conv-grows : (k : ℕ) → k < L → suc k * c * conv f g (suc k) ≡ x * conv f' g k + y * conv f g' k
  conv-grows k h =
      (let e : suc k * c * conv f g (suc k) ≡ c * ((suc k + 0) * conv f g (suc k)) = rw (add-zero (suc k)) (simp sums) in e)
      ∙ ap (λ (n : ℕ). c * n) (sym (conv-indices 0 f g (suc k)))
      ∙ mul-add c _ _
      ∙ (λ i. first-grows k h i + second-grows k h i)

-- ---- sums of convolutions

-- the sum of the convolutions up to k is the convolution with the sums of g
pub conv-total : (f g : Sequence) (k : ℕ) → total (conv f g) k ≡ conv f (total g) k
unfolding conv total
conv-total f g zero = refl
conv-total f g (suc k) =
    ap (λ (n : ℕ). n + conv f g (suc k)) (conv-total f g k)
    ∙ ap (λ (n : ℕ). conv f (total g) k + n) (conv-last f g k)
    ∙ (let e : conv f (total g) k + (conv f (tail g) k + f (suc k) * g 0) ≡ conv f (total g) k + conv f (tail g) k + f (suc k) * g 0 = omega arith in e)
    ∙ ap (λ (n : ℕ). n + f (suc k) * g 0) (sym (conv-add-right f (total g) (tail g) k))
    ∙ sym (conv-last f (total g) k)

-- bounds, from a bound on each g
pub conv-at-most : (f g : Sequence) (M k : ℕ) → ((j : ℕ) → j ≤ k → g j ≤ M) → conv f g k ≤ total f k * M
unfolding conv total
conv-at-most f g M zero h = mul-le-mul_left (f 0) (h 0 zero-le)
conv-at-most f g M (suc k) h =
    le_trans (add-le-add (mul-le-mul_left (f 0) (h (suc k) (le_refl (suc k)))) (conv-at-most (tail f) g M k (λ j l. h j (later l))))
    (le_of_eq (sym (add-mul (f 0) (total (tail f) k) M) ∙ ap (λ (n : ℕ). n * M) (sym (total_first f k))))
  where
    later : {i k : ℕ} → i ≤ k → i ≤ suc k
    later h = omega arith

-- where g is at least M from the index n on
pub conv-at-least : (f g : Sequence) (M n m : ℕ) → ((j : ℕ) → n ≤ j → j ≤ m + n → M ≤ g j) → total f m * M ≤ conv f g (m + n)
unfolding conv total
conv-at-least f g M zero zero h = mul-le-mul_left (f 0) (h 0 (le_refl 0) (le_refl 0))
conv-at-least f g M (suc n) zero h = rw (zero-add (suc n)) (le_trans (mul-le-mul_left (f 0) (h (suc n) (le_refl (suc n)) (le_of_eq (sym (zero-add (suc n)))))) (le-add_right (f 0 * g (suc n)) (conv (tail f) g n)))
conv-at-least f g M n (suc m) h =
    rw (suc-add m n)
    (le_trans (le_of_eq (ap (λ (n : ℕ). n * M) (total_first f m) ∙ add-mul (f 0) (total (tail f) m) M))
    (add-le-add (mul-le-mul_left (f 0) (h (suc (m + n)) (far m n) (le_of_eq (sym (suc-add m n))))) (conv-at-least (tail f) g M n m (λ j k l. h j k (longer j m n l)))))
  where
    far : (m n : ℕ) → n ≤ suc (m + n)
    far m n = omega arith

    longer : (j m n : ℕ) → j ≤ m + n → j ≤ suc m + n
    longer j m n h = omega arith

-- ---- totals

pub total-same : (f g : Sequence) (k : ℕ) → ((i : ℕ) → i ≤ k → f i ≡ g i) → total f k ≡ total g k
unfolding total
total-same f g zero h = h 0 zero-le
total-same f g (suc k) h = λ i. total-same f g k (λ i l. h i (later l)) i + h (suc k) (le_refl (suc k)) i
  where
    later : {i k : ℕ} → i ≤ k → i ≤ suc k
    later h = omega arith

pub total-scale : (a : ℕ) (f : Sequence) (k : ℕ) → total (λ (i : ℕ). a * f i) k ≡ a * total f k
unfolding total
total-scale a f zero = refl
total-scale a f (suc k) = ap (λ (n : ℕ). n + a * f (suc k)) (total-scale a f k) ∙ sym (mul-add a (total f k) (f (suc k)))

pub total-grows : (f : Sequence) (j d : ℕ) → total f j ≤ total f (d + j)
unfolding total
total-grows f j zero = le_of_eq (ap (total f) (sym (zero-add j)))
total-grows f j (suc d) = le_trans (total-grows f j d) (le_trans (le-add_right (total f (d + j)) (f (suc (d + j)))) (le_of_eq (ap (total f) (sym (suc-add d j)))))
