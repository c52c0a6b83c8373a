-- Looking for a byte.
use Rattle.std.proofs.Common.{◌≡◌, ℕ, suc, ◌+◌, ◌≤◌, Bool, true, false, cond, not, eqb, ltb, List, length, Option, Some, None, refl, sym, ap, ◌∙◌, arith}
use Rattle.std.specs.List.{position_or_len}
use Rattle.std.specs.Option.{unwrap_or}
use Rattle.std.proofs.lemmas.List.Recursion.{is_position_or_len}
use Rattle.std.proofs.lemmas.List.Sums.{prefix_len-le-length}
use borrow.Author.Tests.{ltb-true, ltb-false}
use Rattle.text.specs.Input.{index_of}

one_more : (n : ℕ) → suc n ≡ 1 + n
one_more n = omega arith

pub is-position : (b : ℕ) (s : List ℕ) → index_of b s ≡ position_or_len (λ x. eqb x b) s
unfolding index_of
is-position b s = is_position_or_len (index_of b) (λ x. eqb x b) refl (λ x xs. ap (cond (eqb x b) 0) (one_more (index_of b xs))) s

abbrev place : ℕ → List ℕ → ℕ
place b s = position_or_len (λ x. eqb x b) s

pub or_length : (b : ℕ) (s : List ℕ) (r : Option ℕ) {k : ℕ} → r ≡ cond (ltb (place b s) (length s)) (Some (place b s)) None
    → k ≡ unwrap_or r (length s) → (k ≡ index_of b s) × (k ≤ length s)
or_length b s r {k = k} e h = by (ltb (place b s) (length s)) refl
  where
    by : (t : Bool) → ltb (place b s) (length s) ≡ t → (k ≡ index_of b s) × (k ≤ length s)
    by true f =
        let q : r ≡ Some (place b s) = e ∙ ap (λ (u : Bool). cond u (Some (place b s)) None) f in
        let n : k ≡ place b s = h ∙ ap (λ (o : Option ℕ). unwrap_or o (length s)) q in
        (n ∙ sym (is-position b s), omega (arith, n, ltb-true (place b s) (length s) f))
    by false f =
        let q : r ≡ None = e ∙ ap (λ (u : Bool). cond u (Some (place b s)) None) f in
        let n : k ≡ length s = h ∙ ap (λ (o : Option ℕ). unwrap_or o (length s)) q in
        let m : place b s ≡ length s = omega (arith, ltb-false (place b s) (length s) f, prefix_len-le-length (λ x. not (eqb x b)) s) in
        (n ∙ sym m ∙ sym (is-position b s), omega (arith, n))
