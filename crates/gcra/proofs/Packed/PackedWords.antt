-- A word is one that `pack` gives, told by its fields alone; for 01's units. It has at least 1 nanosecond, or at least 2^40 / 1000, rounded
-- up, of a coarser unit.
use Prim.Native.Nat.{ℕ, ◌+◌, ◌*◌, ◌^◌, ◌≤◌, ◌<◌, min, max}
use mathlib.Core.Path.{◌≡◌, sym, ap, ◌∙◌}
use mathlib.Core.Bool.{true, false, ◌&&◌, and-false, false≢true}
use native.Mathlib.Nat.{pos_of_ne-zero}
use native.Mathlib.Omega.{arith}
use borrow.Author.Tests.{ltb-false, lt-ltb, le-ltb, leb-true, leb-false, eqb-true, eqb-false, eq-eqb, ne_eqb}
use lib.Dec.{leb, eqb, lit<}
use Rattle.questions.proofs.Tests.{split, both, and_intro}
use Rattle.gcra.specs.declared.Units.{Units}
use Rattle.gcra.specs.declared.Encoded.{Encoded}
use Rattle.gcra.specs.Packed.{Accepted, unit_nanos, round_up, width, holds, encode, encode_in, max_interval, with_interval, valid_quota, pack, value_of, unit_of, burst_of, unpacks, unpack, valid_word}
use Rattle.gcra.proofs.Packed.Encoding.{takes_first, takes-second, takes-third, encode-rounded, units-accepted}
use Rattle.gcra.proofs.Packed.Validity.{valid-quota}
use Rattle.gcra.proofs.Packed.Packing.{field-unit, fields, word_back, word-valid}

-- ---- a word that comes back as itself, from a valid quota, is valid
word-from : (u : Units) → Accepted u → (w : ℕ) → (eqb (pack u (unpack u w)) w && valid_quota u (unpack u w)) ≡ true → valid_word u w ≡ true
unfolding valid_word
word-from u a w h =
    let b = both (eqb (pack u (unpack u w)) w) (valid_quota u (unpack u w)) h in
    let e = eqb-true (pack u (unpack u w)) w b.0 in
    let f = fields u a (unpack u w) b.1 in
    let q = valid-quota u (unpack u w) b.1 in
    let unit : unit_of w < 3 = rw e at f.unit in
    let burst : 0 < burst_of w = omega (arith, ap burst_of e, f.burst, q.burst.least) in
    and_intro _ _ (and_intro _ _ (lt-ltb (unit_of w) 3 unit) (lt-ltb 0 (burst_of w) burst)) b.0

pub word-is : (u : Units) → Accepted u → (w : ℕ) → (eqb (pack u (unpack u w)) w && valid_quota u (unpack u w)) ≡ valid_word u w
word-is u a w =
    split (valid_word u w)
    (λ h. and_intro _ _ (eq-eqb _ w (word_back u w h)) (word-valid u a w h) ∙ sym h)
    (λ h.
    split (eqb (pack u (unpack u w)) w && valid_quota u (unpack u w))
    (λ e. absurd (false≢true (sym h ∙ word-from u a w e)))
    (λ e. e ∙ sym h))

-- ---- the fields that a word comes back with
abbrev clamped : ℕ → ℕ
clamped w = min (max (value_of w * width unit_nanos (unit_of w)) 1) (max_interval unit_nanos)

abbrev joined : Encoded → ℕ → ℕ
joined e b = e.value * 2 ^ 24 + e.unit * 2 ^ 22 + b

packed-again : (w : ℕ) → pack unit_nanos (unpack unit_nanos w) ≡ joined (encode unit_nanos (clamped w)) (burst_of w)
unfolding pack unpack with_interval
packed-again w =
    let l : clamped w ≤ max_interval unit_nanos = omega arith in
    ap (λ (e : Encoded). joined e (burst_of w)) (encode-rounded unit_nanos units-accepted (clamped w) l)

-- ---- which unit the word's interval takes
unit-back : (v k b w : ℕ) → k < 3 → b < 2 ^ 22 → v * 2 ^ 24 + k * 2 ^ 22 + b ≡ w → unit_of w ≡ k
unit-back v k b w h l e = sym (ap unit_of e) ∙ field-unit v k b h l

others : (k : ℕ) → (k ≡ 0 → ⊥) → k ≤ 2 → (k ≡ 1 → ⊥) → k ≡ 2
others k z l o = omega (arith, pos_of_ne-zero z)

module _ (w : ℕ) (word : w < 2 ^ 64) where
  clamped-of : (k : ℕ) → unit_of w ≡ k → clamped w ≡ min (max (value_of w * width unit_nanos k) 1) (max_interval unit_nanos)
  clamped-of k e = ap (λ (j : ℕ). min (max (value_of w * width unit_nanos j) 1) (max_interval unit_nanos)) e

  clamped-0 : unit_of w ≡ 0 → clamped w ≡ max (value_of w) 1
  clamped-0 e = clamped-of 0 e ∙ omega arith

  clamped-1 : unit_of w ≡ 1 → clamped w ≡ max (value_of w * 1000) 1
  clamped-1 e = clamped-of 1 e ∙ omega arith

  clamped-2 : unit_of w ≡ 2 → clamped w ≡ max (value_of w * 1000000) 1
  clamped-2 e = clamped-of 2 e ∙ omega arith

  comes_back : (e : Encoded) → encode unit_nanos (clamped w) ≡ e → joined e (burst_of w) ≡ w → pack unit_nanos (unpack unit_nanos w) ≡ w
  comes_back e h j = packed-again w ∙ ap (λ (x : Encoded). joined x (burst_of w)) h ∙ j

  -- one that comes back otherwise
  differs : (e : Encoded) → encode unit_nanos (clamped w) ≡ e → (joined e (burst_of w) ≡ w → ⊥) → pack unit_nanos (unpack unit_nanos w) ≡ w → ⊥
  differs e h j p = j (sym (ap (λ (x : Encoded). joined x (burst_of w)) h) ∙ sym (packed-again w) ∙ p)

  -- nanoseconds
  takes-nanos : clamped w ≡ max (value_of w) 1 → encode unit_nanos (clamped w) ≡ encode_in unit_nanos (clamped w) 0
  takes-nanos n = takes_first unit_nanos (clamped w) (lt-ltb (round_up (clamped w) 1) (2 ^ 40) (omega (arith, n)))

  some-nanos : unit_of w ≡ 0 → 1 ≤ value_of w → pack unit_nanos (unpack unit_nanos w) ≡ w
  some-nanos e h = let n = clamped-0 e in comes_back (encode_in unit_nanos (clamped w) 0) (takes-nanos n) (omega (arith, n))

  no-nanos : unit_of w ≡ 0 → value_of w < 1 → pack unit_nanos (unpack unit_nanos w) ≡ w → ⊥
  no-nanos e h = let n = clamped-0 e in differs (encode_in unit_nanos (clamped w) 0) (takes-nanos n) (λ j. omega (arith, n, j))

  -- a coarser unit, where the finer ones do not hold the interval
  micros : unit_of w ≡ 1 → 1_099_511_628 ≤ value_of w → pack unit_nanos (unpack unit_nanos w) ≡ w
  micros e h =
      let n = clamped-1 e in
      let above = le-ltb (round_up (clamped w) 1) (2 ^ 40) (omega (arith, n)) in
      comes_back (encode_in unit_nanos (clamped w) 1)
      (takes-second unit_nanos (clamped w) above (lt-ltb (round_up (clamped w) 1000) (2 ^ 40) (omega (arith, n))))
      (omega (arith, n))

  millis : unit_of w ≡ 2 → 1_099_511_628 ≤ value_of w → pack unit_nanos (unpack unit_nanos w) ≡ w
  millis e h =
      let n = clamped-2 e in
      let above = le-ltb (round_up (clamped w) 1) (2 ^ 40) (omega (arith, n)) in
      comes_back (encode_in unit_nanos (clamped w) 2)
      (takes-third unit_nanos (clamped w) above (le-ltb (round_up (clamped w) 1000) (2 ^ 40) (omega (arith, n))))
      (omega (arith, n))

  coarse : (unit_of w ≡ 0 → ⊥) → unit_of w ≤ 2 → 1_099_511_628 ≤ value_of w → pack unit_nanos (unpack unit_nanos w) ≡ w
  coarse z l h =
      split (eqb (unit_of w) 1)
      (λ b. micros (eqb-true (unit_of w) 1 b) h)
      (λ b. millis (others (unit_of w) z l (eqb-false (unit_of w) 1 b)) h)

  -- a finer one holds it, and the word comes back with that unit
  in-nanos : (unit_of w ≡ 0 → ⊥) → holds unit_nanos (clamped w) 0 ≡ true → pack unit_nanos (unpack unit_nanos w) ≡ w → ⊥
  in-nanos z b =
      differs (encode_in unit_nanos (clamped w) 0) (takes_first unit_nanos (clamped w) b)
      (λ j. z (unit-back (round_up (clamped w) 1) 0 (burst_of w) w (lit< tt) (omega arith) j))

  in-micros : unit_of w ≡ 2 → value_of w < 1_099_511_628 → holds unit_nanos (clamped w) 0 ≡ false → pack unit_nanos (unpack unit_nanos w) ≡ w → ⊥
  in-micros e h b =
      let fits = lt-ltb (round_up (clamped w) 1000) (2 ^ 40) (omega (arith, clamped-2 e)) in
      differs (encode_in unit_nanos (clamped w) 1) (takes-second unit_nanos (clamped w) b fits)
      (λ j. omega (arith, e, unit-back (round_up (clamped w) 1000) 1 (burst_of w) w (lit< tt) (omega arith) j))

  fine : (unit_of w ≡ 0 → ⊥) → unit_of w ≤ 2 → value_of w < 1_099_511_628 → pack unit_nanos (unpack unit_nanos w) ≡ w → ⊥
  fine z l h =
      split (holds unit_nanos (clamped w) 0)
      (λ b. in-nanos z b)
      (λ b.
      let above = ltb-false (round_up (clamped w) 1) (2 ^ 40) b in
      split (eqb (unit_of w) 1)
      (λ c. absurd (omega (arith, clamped-1 (eqb-true (unit_of w) 1 c), above)))
      (λ c. in-micros (others (unit_of w) z l (eqb-false (unit_of w) 1 c)) h b))

-- ---- question 2 of a word, by the ways of `is_packed`
pub no-burst : (w : ℕ) → burst_of w ≡ 0 → false ≡ valid_word unit_nanos w
unfolding valid_word
no-burst w e = rw (le-ltb 0 (burst_of w) (omega (arith, e)), and-false)

pub no-unit : (w : ℕ) → 2 < unit_of w → false ≡ valid_word unit_nanos w
unfolding valid_word
no-unit w h = rw (le-ltb (unit_of w) 3 h)

module _ (w : ℕ) (word : w < 2 ^ 64) (burst : burst_of w ≡ 0 → ⊥) where
  by_value : (least : ℕ) → unit_of w ≤ 2
      → (least ≤ value_of w → pack unit_nanos (unpack unit_nanos w) ≡ w)
      → (value_of w < least → pack unit_nanos (unpack unit_nanos w) ≡ w → ⊥)
      → leb least (value_of w) ≡ valid_word unit_nanos w
  unfolding valid_word
  by_value least l is isnt =
      let opens : unpacks w ≡ true = and_intro _ _ (lt-ltb (unit_of w) 3 (omega arith)) (lt-ltb 0 (burst_of w) (pos_of_ne-zero burst)) in
      split (leb least (value_of w))
      (λ b. rw (b, opens, eq-eqb (pack unit_nanos (unpack unit_nanos w)) w (is (leb-true least (value_of w) b))))
      (λ b. rw (b, opens, ne_eqb (pack unit_nanos (unpack unit_nanos w)) w (isnt (leb-false least (value_of w) b))))

  pub by-nanos : unit_of w ≡ 0 → leb 1 (value_of w) ≡ valid_word unit_nanos w
  by-nanos e = by_value 1 (omega (arith, e)) (some-nanos w word e) (no-nanos w word e)

  pub by-coarser : (unit_of w ≡ 0 → ⊥) → unit_of w ≤ 2 → leb 1_099_511_628 (value_of w) ≡ valid_word unit_nanos w
  by-coarser z l = by_value 1_099_511_628 l (coarse w word z l) (fine w word z l)
