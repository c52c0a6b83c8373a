-- The quoted ceiling holds: of the checks of one Gcra, whatever the order of their readings, those allowed with readings from s to s + w number at
-- most burst + w / T.
-- Each allowed check in the window moves the TAT by T, from s on, and none moves it past s + w + T * burst.
use Prim.Native.Nat.{ℕ, zero, suc, ◌+◌, ◌-◌, ◌*◌, ◌/◌, ◌^◌, ◌≤◌, ◌<◌, max}
use mathlib.Core.Path.{◌≡◌, refl, ap, ◌∙◌}
use mathlib.Core.Bool.{true, ◌&&◌}
use mathlib.Core.List.{List, [], ◌∷◌}
use mathlib.Core.Logic.{◌⊎◌, inl, inr}
use native.Mathlib.Omega.{arith}
use native.Mathlib.Nat.{le-div_iff_mul-le, add-mul-div_right}
use lib.Dec.{leb, ltb}
use borrow.Author.Tests.{ltb-true, leb-true}
use Rattle.gcra.specs.declared.Units.{Units}
use Rattle.gcra.specs.declared.Quota.{Quota}
use Rattle.gcra.specs.declared.Gcra.{Gcra}
use Rattle.gcra.specs.Packed.{Accepted, valid_quota, tau, ceiling}
use Rattle.gcra.specs.Meter.{is_allow, decide, moved, pace_of, tat_word, decision, check}
use Rattle.gcra.specs.Run.{allowed, count_in, all_below}
use Rattle.questions.proofs.Tests.{split, both}
use Rattle.gcra.proofs.Packed.Validity.{valid-quota}
use Rattle.gcra.proofs.Meter.Checks.{allow-reaches, check-allow, allowed-first, denied-first}
use Rattle.std.specs.declared.option.Option.{Option}
use Rattle.std.specs.declared.option.Option.TheVariants.{None, Some}

-- k checks are allowed in the window from TAT y on
Owes : (T b s w y k : ℕ) → Type 0
Owes T b s w y k = (k ≡ 0) ⊎ (k * T + max y s ≤ s + w + T * b)

-- T * (burst - 1) and one interval more are burst intervals.
pub full : (T b : ℕ) → 1 ≤ b → T * (b - 1) + T ≡ b * T
full T zero h = omega arith
full T (suc b) h = let e : suc b - 1 ≡ b = omega arith in omega (arith, ap (λ (z : ℕ). T * z) e)

-- Where n intervals from the reading f on end no more than b intervals after the reading t, n is at most b and those between the readings.
pub within : (n T f t b : ℕ) → 0 < T → f ≤ t → n * T + f ≤ b * T + t → n ≤ b + (t - f) / T
within n T f t b p l h =
    let m : n * T ≤ (t - f) + b * T = omega arith in
    omega (arith, (le-div_iff_mul-le {x = n} {y = (t - f) + b * T} p).1 m, add-mul-div_right (t - f) b p)

-- tau, held or not
pub tau-le : (T b : ℕ) → (tau T b ≤ T * (b - 1)) × (tau T b ≤ 2 ^ 63 - 1)
unfolding tau
tau-le T b = (omega arith, omega arith)

below-first : (n t : ℕ) (ts : List ℕ) → all_below n (t ∷ ts) ≡ true → (t < n) × (all_below n ts ≡ true)
unfolding all_below
below-first n t ts h = let p = both (ltb t n) (all_below n ts) h in (ltb-true t n p.0, p.1)

module _ (T b s w : ℕ) (some : 1 ≤ b) where
  -- a later TAT owes no less
  later : (y z k : ℕ) → y ≤ z → Owes T b s w z k → Owes T b s w y k
  unfolding Owes
  later y z k l (inl e) = inl e
  later y z k l (inr h) = inr (omega arith)

  -- one more check in the window, allowed at t
  counted : (y t k : ℕ) → s ≤ t → t ≤ s + w → y ≤ t + T * (b - 1) → Owes T b s w (max y t + T) k → Owes T b s w y (suc k)
  unfolding Owes
  counted y t k l m r (inl e) = inr (omega (arith, full T b some, ap (λ (z : ℕ). z * T) e))
  counted y t k l m r (inr h) = inr (omega arith)

  quotient : (y k : ℕ) → 0 < T → Owes T b s w y k → k ≤ b + w / T
  unfolding Owes
  quotient y k p (inl e) = omega arith
  quotient y k p (inr h) = let e : s + w - s ≡ w = omega arith in rw e at (within k T s (s + w) b p (omega arith) (omega arith))

-- ---- one allowed check
abbrev at : Quota → Option ℕ → Gcra
at q tat = record { quota = q; tat = tat }

-- it finds TAT at most T * (burst - 1) ahead, and moves it by T, held at no limit
pub record Allowed (q : Quota) (tat : Option ℕ) (now : ℕ) : Type 0 where
  pub reached : tat_word tat ≤ now + q.interval * (q.burst - 1)
  pub left : check (at q tat) now ≡ at q (Some (max (tat_word tat) now + q.interval))

decision-at : (q : Quota) (t now : ℕ) → decision (at q (Some t)) now ≡ decide (pace_of q) t now
unfolding decision
decision-at q t now = refl

pub allows : (q : Quota) (tat : Option ℕ) (now : ℕ) → q.interval < 2 ^ 61 → now < 2 ^ 62 → is_allow (decision (at q tat) now) ≡ true → Allowed q tat now
allows q None now short l h =
    let e : moved (pace_of q) now now ≡ max 0 now + q.interval = omega arith in
    record { reached = omega arith; left = check-allow (at q None) now h ∙ ap (λ (n : ℕ). at q (Some n)) e }
allows q (Some t) now short l h =
    let r : t - tau q.interval q.burst ≤ now = allow-reaches (pace_of q) t now (rw (decision-at q t now) at h) in
    let m = tau-le q.interval q.burst in
    let e : moved (pace_of q) t now ≡ max t now + q.interval = omega arith in
    record { reached = omega arith; left = check-allow (at q (Some t)) now h ∙ ap (λ (n : ℕ). at q (Some n)) e }

-- ---- a list of checks
module _ (q : Quota) (short : q.interval < 2 ^ 61) (some : 1 ≤ q.burst) (s w : ℕ) where
  abbrev Owed : Option ℕ → List ℕ → Type 0
  Owed tat ts = Owes q.interval q.burst s w (tat_word tat) (count_in s w ts)

  nothing : (tat : Option ℕ) → Owed tat (allowed (at q tat) [])
  unfolding allowed count_in Owes
  nothing tat = inl refl

  -- one allowed check, in the window or not
  first : (tat : Option ℕ) (t : ℕ) (ts : List ℕ) → tat_word tat ≤ t + q.interval * (q.burst - 1)
      → Owed (Some (max (tat_word tat) t + q.interval)) ts → Owed tat (t ∷ ts)
  unfolding count_in
  first tat t ts r o =
      split (leb s t && leb t (s + w))
      (λ i.
      let p = both (leb s t) (leb t (s + w)) i in
      rw i (counted q.interval q.burst s w some (tat_word tat) t _ (leb-true s t p.0) (leb-true t (s + w) p.1) r o))
      (λ i. rw i (later q.interval q.burst s w some (tat_word tat) (max (tat_word tat) t + q.interval) _ (omega arith) o))

  count : (tat : Option ℕ) (ts : List ℕ) → all_below (2 ^ 62) (allowed (at q tat) ts) ≡ true → Owed tat (allowed (at q tat) ts)
  count tat [] h = nothing tat
  count tat (t ∷ ts) h =
      split (is_allow (decision (at q tat) t))
      (λ e.
      let f = allowed-first (at q tat) t ts e in
      let b = below-first (2 ^ 62) t (allowed (check (at q tat) t) ts) (rw f at h) in
      let c = allows q tat t short b.0 e in
      let tat' = Some (max (tat_word tat) t + q.interval) in
      rw (f, c.left) (first tat t (allowed (at q tat') ts) c.reached (count tat' ts (rw c.left at b.1))))
      (λ e.
      let f = denied-first (at q tat) t ts e in
      rw f (count tat ts (rw f at h)))

-- Of any list of checks of a Gcra of a valid quota, at any starting TAT: if all allowed readings are below 2^62,
-- those allowed from s to s + w number at most the quoted ceiling.
pub allowed-within : (u : Units) → Accepted u → (g : Gcra) → valid_quota u g.quota ≡ true → (s w : ℕ) (readings : List ℕ)
    → all_below (2 ^ 62) (allowed g readings) ≡ true
    → count_in s w (allowed g readings) ≤ ceiling g.quota w
unfolding ceiling
allowed-within u a g h s w readings below =
    let q = g.quota in
    let v = valid-quota u q h in
    quotient q.interval q.burst s w v.burst.least (tat_word g.tat) _ v.least
    (count q (omega (arith, v.most)) v.burst.least s w g.tat readings below)
