-- A hot set in words: it comes back.
use Prim.Native.Nat.{ℕ, ◌≤◌}
use mathlib.Core.Path.{◌≡◌, refl, sym, ap, ◌∙◌}
use mathlib.Core.List.{List, [], ◌∷◌, ◌++◌}
use native.Mathlib.Omega.{arith}
use lib.ListN.{length}
use Rattle.records.specs.Words.{paste}
use Rattle.hot.specs.declared.hot_set.HotSet.{HotSet}
use Rattle.nultiway.specs.HotCalls.{hot_set_words, hot_set_of}
use Rattle.nultiway.proofs.Words.ValueLaws.{paste-front}

-- a hot set is read back from its words, whatever comes after them
pub hot-set-forth : (s : HotSet) (rest : List ℕ) → hot_set_of (hot_set_words s ++ rest) ≡ s
unfolding hot_set_of hot_set_words
hot-set-forth s rest = refl

pub hot-set-put : (s : HotSet) (ws : List ℕ) → hot_set_of (paste 0 (hot_set_words s) ws) ≡ s
hot-set-put s ws = ap hot_set_of (paste-front (hot_set_words s) ws) ∙ hot-set-forth s _

-- two with the same words are equal
pub hot-set-one : (s t : HotSet) → hot_set_words s ≡ hot_set_words t → s ≡ t
hot-set-one s t e = sym (hot-set-put s []) ∙ ap (λ (w : List ℕ). hot_set_of (paste 0 w [])) e ∙ hot-set-put t []

-- three words or more are written back as they were
pub hot-set-back : (ws : List ℕ) → 3 ≤ length ws → paste 0 (hot_set_words (hot_set_of ws)) ws ≡ ws
unfolding hot_set_of hot_set_words
hot-set-back [] h = absurd (omega (arith, h))
hot-set-back (a ∷ []) h = absurd (omega (arith, h))
hot-set-back (a ∷ b ∷ []) h = absurd (omega (arith, h))
hot-set-back (a ∷ b ∷ c ∷ ws) h = paste-front (a ∷ b ∷ c ∷ []) (a ∷ b ∷ c ∷ ws)
