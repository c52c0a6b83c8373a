-- Laws: the loops that count ranks below a limit, cut through them, and set a flag for each.
use mathlib.Core.Path.{◌≡◌, refl, sym, ap, ◌∙◌}
use mathlib.Core.Bool.{Bool, cond, not, ◌&&◌, ◌||◌}
use mathlib.Core.List.{List, [], ◌∷◌, ◌++◌, append-nil, append_assoc}
use Prim.Native.Nat.{ℕ, ◌+◌, ◌-◌, ◌≤◌, ◌<◌}
use native.Mathlib.Numerals.{add-one}
use native.Mathlib.Omega.{arith}
use borrow.Author.Tests.{le-ltb}
use lib.Dec.{ltb, eqb, lit<}
use lib.ListN.{length, take, drop, get_or, set, length-set}
use lib.Seq.{length-take-le, drop-length, drop-cons, take-suc-set, get_or-take}
use Rattle.std.specs.List.{filter}
use Rattle.questions.specs.Lists.{only}
use Rattle.limiter.specs.Steps.TickSteps.{below, staying, top}
use Rattle.limiter.proofs.Walking.RankLaws.{count_none, count_no}

-- ---- a list filled from its front
fill_step : {A : Type 0} (t : List A) (i : ℕ) (v : A) (rest gs : List A) → i < length t → take i t ++ (v ∷ rest) ≡ gs → take (i + 1) (set t i v) ++ rest ≡ gs
fill_step t i v rest gs h e =
    ap (λ (m : ℕ). take m (set t i v) ++ rest) (add-one i)
    ∙ ap (λ zs. zs ++ rest) (take-suc-set t i v h)
    ∙ append_assoc (take i t) (v ∷ []) rest
    ∙ e

-- at i the first i of t and what is to come make up gs
pub record Filling {A : Type 0} (n : ℕ) (t₀ t : List A) (i : ℕ) (rest gs : List A) : Type 0 where
  pub within : i ≤ n
  pub fit : n ≤ length t
  pub long : length t ≡ length t₀
  pub made : take i t ++ rest ≡ gs

pub fill_none : {A : Type 0} (n : ℕ) (t gs : List A) → n ≤ length t → Filling n t t 0 gs gs
fill_none n t gs h = record { within = omega arith; fit = h; long = refl; made = refl }

pub fill_more : {A : Type 0} {n : ℕ} {t₀ t : List A} {i : ℕ} {rest gs : List A} (v : A) (rest' : List A) → Filling n t₀ t i rest gs → i < n → rest ≡ v ∷ rest' → Filling n t₀ (set t i v) (i + 1) rest' gs
fill_more {t = t} {i = i} {gs = gs} v rest' k h e = record {
  within = omega arith;
  fit = omega (arith, length-set t i v, k.fit);
  long = length-set t i v ∙ k.long;
  made = fill_step t i v rest' gs (omega (arith, k.fit)) (ap (λ zs. take i t ++ zs) (sym e) ∙ k.made);
}

pub fill-all : {A : Type 0} {n : ℕ} {t₀ t : List A} {i : ℕ} {rest gs : List A} → Filling n t₀ t i rest gs → n ≤ i → rest ≡ [] → take n t ≡ gs
fill-all {n = n} {t = t} {i = i} k h e =
    let z : n ≡ i = omega (arith, k.within) in
    ap (λ (m : ℕ). take m t) z ∙ sym (append-nil (take i t)) ∙ ap (λ zs. take i t ++ zs) (sym e) ∙ k.made

-- std's filter
pub filter-only : {A : Type 0} (p : A → Bool) (xs : List A) → filter p xs ≡ only p xs
unfolding only
filter-only p [] = refl
filter-only p (x ∷ xs) = ap (λ zs. cond (p x) (x ∷ zs) zs) (filter-only p xs)

-- ---- the first n ranks
module _ (n : ℕ) (ws : List ℕ) (h : n ≤ length ws) where
  abbrev used : List ℕ
  used = take n ws

  next-used : (i : ℕ) → i < n → drop i used ≡ get_or ws i 0 ∷ drop (i + 1) used
  next-used i k =
      drop-cons used i 0 (omega (arith, length-take-le n ws h))
      ∙ (λ m. get_or-take n ws i 0 k m ∷ drop (sym (add-one i) m) used)

  none-used : (i : ℕ) → i ≤ n → n ≤ i → drop i used ≡ []
  none-used i l k = let z : i ≡ length used = omega (arith, length-take-le n ws h) in ap (λ (m : ℕ). drop m used) z ∙ drop-length used

  -- ---- flags
  module _ (limit room : ℕ) (t₀ : List Bool) where
    abbrev pub Marking : (t : List Bool) (i left : ℕ) → Type 0
    Marking t i left = Filling n t₀ t i (staying limit left (drop i used)) (staying limit room used)

    pub mark-more : (t : List Bool) (i left left' : ℕ) (b : Bool) → Marking t i left → i < n → b ≡ (ltb (get_or ws i 0) limit || (eqb (get_or ws i 0) limit && ltb 0 left)) → left' ≡ cond (eqb (get_or ws i 0) limit) (left - 1) left → Marking (set t i (not b)) (i + 1) left'
    unfolding staying
    mark-more t i left left' b k l e q =
        fill_more (not b) (staying limit left' (drop (i + 1) used)) k l
        (ap (staying limit left) (next-used i l) ∙ (λ m. not (sym e m) ∷ staying limit (sym q m) (drop (i + 1) used)))

    pub mark-all : (t : List Bool) (i left : ℕ) → Marking t i left → n ≤ i → take n t ≡ staying limit room used
    unfolding staying
    mark-all t i left k l = fill-all k l (ap (staying limit left) (none-used i k.within l))

-- ---- the bisection
below-zero : (ws : List ℕ) → below 0 ws ≡ 0
below-zero [] = count_none (λ (w : ℕ). ltb w 0)
below-zero (w ∷ ws) = count_no (λ (x : ℕ). ltb x 0) w ws (le-ltb w 0 (omega arith)) ∙ below-zero ws

pub record Cutting (most : ℕ) (ws : List ℕ) (low high : ℕ) : Type 0 where
  pub order : low < high
  pub within : high ≤ top
  pub room : below low ws ≤ most
  pub full : high < top → most < below high ws

pub cut-start : (most : ℕ) (ws : List ℕ) → Cutting most ws 0 top
cut-start most ws = record { order = lit< tt; within = omega arith; room = omega (arith, below-zero ws); full = λ h. omega arith }
