-- Laws of tests: one taken apart by its cases, tests joined and negated, and tests that hold together.
use mathlib.Core.Path.{◌≡◌, refl, sym, ap, ◌∙◌}
use mathlib.Core.Bool.{Bool, true, false, cond, ◌&&◌, ◌||◌, true≢false}
use Prim.Native.Nat.{ℕ, ◌≤◌, ◌<◌}
use native.Mathlib.Omega.{arith}
use borrow.Author.Tests.{leb-true, le-leb, ltb-true, ltb-false, lt-ltb, le-ltb, eqb-true, eq-eqb}
use lib.Dec.{ltb, leb, eqb}

pub contradiction : {A : Type 0} → true ≡ false → A
contradiction e = let z : ◌≡◌ {A = ℕ} 0 1 = cc in absurd (omega arith)

-- one thing where a test passes, and one where it fails
pub split {ℓ} : {P : Type ℓ} (b : Bool) → (b ≡ true → P) → (b ≡ false → P) → P
split true y n = y refl
split false y n = n refl

-- ---- joined tests

pub both : (a b : Bool) → (a && b) ≡ true → (a ≡ true) × (b ≡ true)
both true b e = (refl, e)
both false b e = contradiction (sym e)

pub and_intro : (a b : Bool) → a ≡ true → b ≡ true → (a && b) ≡ true
and_intro a b p q = rw (p, q)

pub and_first : (a b : Bool) → a ≡ false → (a && b) ≡ false
and_first a b e = rw e

pub and_second : (a b : Bool) → b ≡ false → (a && b) ≡ false
and_second true b e = e
and_second false b e = refl

-- a first test that holds may be left out
pub and-skip : (a b : Bool) → a ≡ true → (a && b) ≡ b
and-skip a b e = rw e

-- where the first holds, the second may be said otherwise
pub and-under : (a b c : Bool) → (a ≡ true → b ≡ c) → (a && b) ≡ (a && c)
and-under true b c h = h refl
and-under false b c h = refl

-- tests in turn: the first that fails decides, and one that holds leaves it to the rest
pub stop : (a b : Bool) → a ≡ false → false ≡ (a && b)
stop a b e = sym (and_first a b e)

pub goes : (a b x : Bool) → a ≡ true → x ≡ b → x ≡ (a && b)
goes a b x e f = f ∙ sym (and-skip a b e)

-- the first two change places
pub and_left : (a b c : Bool) → (a && (b && c)) ≡ (b && (a && c))
and_left true b c = refl
and_left false true c = refl
and_left false false c = refl

pub or_right : (a b : Bool) → b ≡ true → (a || b) ≡ true
or_right true b e = refl
or_right false b e = e

pub or-false : (p q : Bool) → (p || q) ≡ false → (p ≡ false) × (q ≡ false)
or-false true q h = absurd (true≢false h)
or-false false q h = (refl, h)

-- ---- what a negated test of a result r says of what r is

pub told-no : {r b : Bool} → r ≡ b → r ≡ false → b ≡ false
told-no e h = sym e ∙ h

pub told-yes : {r b : Bool} → r ≡ b → r ≡ true → b ≡ true
told-yes e h = sym e ∙ h

-- ---- tests that hold together are one

pub same_truth : (a b : Bool) → (a ≡ true → b ≡ true) → (b ≡ true → a ≡ true) → a ≡ b
same_truth a b f g = split a (λ x. x ∙ sym (f x)) (λ x. split b (λ y. g y ∙ sym y) (λ y. x ∙ sym y))

pub leb-same : (a b c d : ℕ) → (a ≤ b → c ≤ d) → (c ≤ d → a ≤ b) → leb a b ≡ leb c d
leb-same a b c d f g = same_truth (leb a b) (leb c d) (λ x. le-leb c d (f (leb-true a b x))) (λ x. le-leb a b (g (leb-true c d x)))

pub same-ltb : (a b c d : ℕ) → (a < b → c < d) → (b ≤ a → d ≤ c) → ltb a b ≡ ltb c d
same-ltb a b c d h k = split (ltb a b) (λ e. e ∙ sym (lt-ltb c d (h (ltb-true a b e)))) (λ e. e ∙ sym (le-ltb c d (k (ltb-false a b e))))

pub eqb-self : (n : ℕ) → eqb n n ≡ true
eqb-self n = eq-eqb n n refl

pub eqb-turn : (m n : ℕ) → eqb m n ≡ eqb n m
eqb-turn m n = same_truth (eqb m n) (eqb n m) (λ e. eq-eqb n m (sym (eqb-true m n e))) (λ e. eq-eqb m n (sym (eqb-true n m e)))

-- two choices by one test
pub cond_same : {A : Type 0} (a b : Bool) (x y z : A) → a ≡ b → (a ≡ true → x ≡ y) → cond a x z ≡ cond b y z
cond_same true b x y z e f = f refl ∙ ap (λ (t : Bool). cond t y z) e
cond_same false b x y z e f = ap (λ (t : Bool). cond t y z) e
