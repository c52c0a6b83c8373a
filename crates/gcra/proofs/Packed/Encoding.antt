-- An interval in 40 bits: it takes the first unit that holds it, comes back rounded up to that unit, and so never shorter. For every accepted table of units.
use Prim.Native.Nat.{ℕ, zero, suc, ◌+◌, ◌-◌, ◌*◌, ◌^◌, ◌≤◌, ◌<◌}
use mathlib.Core.Path.{◌≡◌, refl, sym, ap, ◌∙◌}
use mathlib.Core.Bool.{true, false}
use native.Mathlib.Nat.{le_trans, le_of_eq, div-add-mod', mod-lt, div-lt_iff_lt-mul, le_of_mul-le-mul_right, le_antisymm, mul-le-mul_right, mul-le-mul_left}
use native.Mathlib.Omega.{arith}
use lib.Dec.{eqb, ltb, lit<, lit≤}
use borrow.Author.Tests.{ltb-true, ltb-false, lt-ltb, le-ltb, leb-true, le-leb, eqb-true, eq-eqb}
use Rattle.gcra.specs.declared.Units.{Units}
use Rattle.gcra.specs.declared.Encoded.{Encoded}
use Rattle.gcra.specs.Packed.{accepted, Accepted, unit_nanos, round_up, width, holds, encode_in, encode, rounded, max_interval}
use Rattle.questions.proofs.Tests.{split, both, and_intro}

-- ---- a table that is accepted, as facts and back
pub accepted-says : (u : Units) → accepted u ≡ true → Accepted u
unfolding accepted
accepted-says u h =
    let a = both (eqb u.first 1) _ h in
    let b = both (ltb u.first u.second) _ a.1 in
    let c = both (ltb u.second u.third) _ b.1 in
    record {
      one = eqb-true u.first 1 a.0;
      rises = ltb-true u.first u.second b.0;
      rises_on = ltb-true u.second u.third c.0;
      small = leb-true u.third 1000000 c.1;
    }

pub says-accepted : (u : Units) → Accepted u → accepted u ≡ true
unfolding accepted
says-accepted u a =
    and_intro _ _ (eq-eqb u.first 1 a.one)
    (and_intro _ _ (lt-ltb u.first u.second a.rises)
    (and_intro _ _ (lt-ltb u.second u.third a.rises_on) (le-leb u.third 1000000 a.small)))

-- ---- n / d rounded up
pub round-up-ge : (n d : ℕ) → 0 < d → n ≤ round_up n d * d
round-up-ge n d h = omega (arith, div-add-mod' (n + (d - 1)) d, mod-lt (n + (d - 1)) h)

pub round-up-lt : (n d : ℕ) → 0 < d → round_up n d * d < n + d
round-up-lt n d h = omega (arith, div-add-mod' (n + (d - 1)) d, mod-lt (n + (d - 1)) h)

pub round-up-le : (n d m : ℕ) → 0 < d → n ≤ m * d → round_up n d ≤ m
round-up-le n d m h l = omega (arith, (div-lt_iff_lt-mul {x = n + (d - 1)} {y = suc m} h).1 (below d m n h l))
  where
    below : (d m n : ℕ) → 0 < d → n ≤ m * d → n + (d - 1) < suc m * d
    below d m n h l = omega arith

pub round-up-mono : (n m d : ℕ) → 0 < d → n ≤ m → round_up n d ≤ round_up m d
round-up-mono n m d h l = round-up-le n d (round_up m d) h (le_trans l (round-up-ge m d h))

pub round-up-exact : (v d : ℕ) → 0 < d → round_up (v * d) d ≡ v
round-up-exact v d h =
    le_antisymm (round-up-le (v * d) d v h (le_of_eq refl)) (le_of_mul-le-mul_right (round-up-ge (v * d) d h) h)

-- ---- which unit an interval takes
pub takes_first : (u : Units) (n : ℕ) → holds u n 0 ≡ true → encode u n ≡ encode_in u n 0
unfolding encode
takes_first u n h = rw h

pub takes-second : (u : Units) (n : ℕ) → holds u n 0 ≡ false → holds u n 1 ≡ true → encode u n ≡ encode_in u n 1
unfolding encode
takes-second u n h k = rw (h, k)

pub takes-third : (u : Units) (n : ℕ) → holds u n 0 ≡ false → holds u n 1 ≡ false → encode u n ≡ encode_in u n 2
unfolding encode
takes-third u n h k = rw (h, k)

-- the same from the values that the code works out
pub first-unit : (u : Units) (n : ℕ) {v : ℕ} → v ≡ round_up n u.first → v < 2 ^ 40 → record { value = v; unit = 0 } ≡ encode u n
first-unit u n {v} e l = rw e (sym (takes_first u n (lt-ltb _ _ (rw e at l))))

pub second-unit : (u : Units) (n : ℕ) {v w : ℕ} → v ≡ round_up n u.first → 2 ^ 40 ≤ v → w ≡ round_up n u.second → w < 2 ^ 40
    → record { value = w; unit = 1 } ≡ encode u n
second-unit u n e l f m = rw f (sym (takes-second u n (le-ltb _ _ (rw e at l)) (lt-ltb _ _ (rw f at m))))

pub third-unit : (u : Units) (n : ℕ) {v w x : ℕ} → v ≡ round_up n u.first → 2 ^ 40 ≤ v → w ≡ round_up n u.second → 2 ^ 40 ≤ w
    → x ≡ round_up n u.third
    → record { value = x; unit = 2 } ≡ encode u n
third-unit u n e l f m g = rw g (sym (takes-third u n (le-ltb _ _ (rw e at l)) (le-ltb _ _ (rw f at m))))

-- the unit holds the interval, none before it does, and the value is the interval rounded up to it
pub record Takes (u : Units) (n : ℕ) (e : Encoded) : Type 0 where
  pub code : e.unit < 3
  pub fits : e.value < 2 ^ 40
  pub first : (k : ℕ) → k < e.unit → 2 ^ 40 ≤ round_up n (width u k)
  pub up : e.value ≡ round_up n (width u e.unit)

below_one : (P : ℕ → Type 0) → P 0 → (k : ℕ) → k < 1 → P k
below_one P a zero h = a
below_one P a (suc k) h = absurd (omega arith)

below_two : (P : ℕ → Type 0) → P 0 → P 1 → (k : ℕ) → k < 2 → P k
below_two P a b zero h = a
below_two P a b (suc zero) h = b
below_two P a b (suc (suc k)) h = absurd (omega arith)

third-holds : (u : Units) (n : ℕ) → Accepted u → n ≤ max_interval u → round_up n u.third < 2 ^ 40
third-holds u n a l = omega (arith, round-up-le n u.third (2 ^ 40 - 1) (omega arith) l)

-- An interval takes the first unit whose rounded-up value is below 2^40.
pub encode-takes : (u : Units) (n : ℕ) → Accepted u → n ≤ max_interval u → Takes u n (encode u n)
encode-takes u n a l =
    split (holds u n 0)
    (λ h. rw (takes_first u n h) record { code = lit< tt; fits = ltb-true _ _ h; first = λ k j. absurd (omega arith); up = refl })
    (λ h.
    split (holds u n 1)
    (λ k. rw (takes-second u n h k) record { code = lit< tt; fits = ltb-true _ _ k; first = below_one _ (ltb-false _ _ h); up = refl })
    (λ k. rw (takes-third u n h k) record { code = lit< tt; fits = third-holds u n a l; first = below_two _ (ltb-false _ _ h) (ltb-false _ _ k); up = refl }))

-- an interval n rounded up to its unit, the first whose rounded-up value is below 2^40: no shorter, less than one unit longer, and at most the longest
pub record RoundedUp (u : Units) (n r : ℕ) : Type 0 where
  pub unit : ℕ
  pub code : unit < 3
  pub fits : round_up n (width u unit) < 2 ^ 40
  pub first : (k : ℕ) → k < unit → 2 ^ 40 ≤ round_up n (width u k)
  pub up : r ≡ round_up n (width u unit) * width u unit
  pub least : n ≤ r
  pub close : r < n + width u unit
  pub most : r ≤ max_interval u

module _ (u : Units) (a : Accepted u) where
  width-pos : (k : ℕ) → 0 < width u k
  width-pos k = split (eqb k 0) (λ h. rw h (omega arith)) (λ h. rw h (split (eqb k 1) (λ h. rw h (omega arith)) (λ h. rw h (omega arith))))

  width-le : (k : ℕ) → width u k ≤ u.third
  width-le k = split (eqb k 0) (λ h. rw h (omega arith)) (λ h. rw h (split (eqb k 1) (λ h. rw h (omega arith)) (λ h. rw h (omega arith))))

  pub value-fits : (v k : ℕ) → v < 2 ^ 40 → v * width u k ≤ max_interval u
  value-fits v k h = le_trans (mul-le-mul_right {m = v} {n = 2 ^ 40 - 1} (width u k) (omega arith)) (mul-le-mul_left (2 ^ 40 - 1) (width-le k))

  pub value-small : (v k : ℕ) → v < 2 ^ 40 → v * width u k < 2 ^ 64
  value-small v k h = omega (arith, value-fits v k h)

  -- An interval comes back rounded up to its unit.
  pub rounded-back : (n : ℕ) → n ≤ max_interval u → RoundedUp u n (rounded u n)
  unfolding rounded
  rounded-back n l =
      let t = encode-takes u n a l in
      let w = width u (encode u n).unit in
      let e : (encode u n).value * w ≡ round_up n w * w = ap (λ (v : ℕ). v * w) t.up in
      record {
        unit = (encode u n).unit;
        code = t.code;
        fits = omega (arith, t.up, t.fits);
        first = t.first;
        up = e;
        least = omega (arith, round-up-ge n w (width-pos (encode u n).unit));
        close = omega (arith, round-up-lt n w (width-pos (encode u n).unit));
        most = value-fits (encode u n).value (encode u n).unit t.fits;
      }

  back : (n : ℕ) (e : Encoded) → encode u n ≡ e → rounded u n ≡ e.value * width u e.unit
  unfolding rounded
  back n e h = ap (λ (x : Encoded). x.value * width u x.unit) h

  -- the value of an interval that came back, at the unit it took
  again : (n : ℕ) (k : ℕ) → rounded u n ≡ round_up n (width u k) * width u k → round_up (rounded u n) (width u k) ≡ round_up n (width u k)
  again n k r = rw r (round-up-exact (round_up n (width u k)) (width u k) (width-pos k))

  -- a unit that does not hold an interval does not hold what it comes back as
  still-not : (n k : ℕ) → n ≤ max_interval u → holds u n k ≡ false → holds u (rounded u n) k ≡ false
  still-not n k l h =
      le-ltb _ _ (le_trans (ltb-false _ _ h) (round-up-mono n (rounded u n) (width u k) (width-pos k) (rounded-back n l).least))

  -- What came back takes the same unit and value again.
  pub encode-rounded : (n : ℕ) → n ≤ max_interval u → encode u (rounded u n) ≡ encode u n
  encode-rounded n l =
      split (holds u n 0)
      (λ h.
      let e = takes_first u n h in
      let x = again n 0 (back n _ e) in
      takes_first u (rounded u n) (rw x h) ∙ ap (λ (v : ℕ). record { value = v; unit = 0 }) x ∙ sym e)
      (λ h.
      split (holds u n 1)
      (λ k.
      let e = takes-second u n h k in
      let x = again n 1 (back n _ e) in
      takes-second u (rounded u n) (still-not n 0 l h) (rw x k) ∙ ap (λ (v : ℕ). record { value = v; unit = 1 }) x ∙ sym e)
      (λ k.
      let e = takes-third u n h k in
      let x = again n 2 (back n _ e) in
      takes-third u (rounded u n) (still-not n 0 l h) (still-not n 1 l k) ∙ ap (λ (v : ℕ). record { value = v; unit = 2 }) x ∙ sym e))

  -- So an interval that came back comes back as itself.
  pub rounded-rounded : (n : ℕ) → n ≤ max_interval u → rounded u (rounded u n) ≡ rounded u n
  rounded-rounded n l = back (rounded u n) _ (encode-rounded n l) ∙ sym (back n _ refl)

-- 01's table is one of those accepted.
pub units-accepted : Accepted unit_nanos
units-accepted = record { one = refl; rises = lit< tt; rises_on = lit< tt; small = lit≤ tt }
