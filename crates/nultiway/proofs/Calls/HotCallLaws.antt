-- Laws: an update of a hot set.
use Prim.Native.Nat.{ℕ}
use mathlib.Core.Path.{◌≡◌, ap, ◌∙◌, subst}
use mathlib.Core.Bool.{Bool, not}
use mathlib.Core.List.{List}
use lib.Dec.{eqb}
use lib.Ieee.{Float}
use Rattle.records.specs.Words.{paste}
use Rattle.records.specs.Fields.{flag_of}
use Rattle.records.proofs.Words.FieldLaws.{flag_is}
use Rattle.hot.specs.declared.hot_set.HotSet.{HotSet}
use Rattle.hot.specs.HotSet.Calls.{UpdatedWith}
use Rattle.nultiway.specs.HotCalls.{hot_set_words, hot_set_left}
use Rattle.std.specs.declared.result.Result.{Result}
use Rattle.questions.specs.declared.Refusal.{Refusal}
use Rattle.hot.specs.declared.hot_set.Updated.{Updated}

-- the words of the set that it leaves, of the set that was read
pub left-put :
    (ws : List ℕ) {s s₀ left : HotSet} (x : Result Updated Refusal) {ws' : List ℕ}
    → s ≡ s₀
    → left ≡ hot_set_left s x
    → ws' ≡ paste 0 (hot_set_words left) ws
    → ws' ≡ paste 0 (hot_set_words (hot_set_left s₀ x)) ws
left-put ws x e k w = w ∙ ap (λ (s : HotSet). paste 0 (hot_set_words s) ws) (k ∙ ap (λ (s : HotSet). hot_set_left s x) e)

-- the flag, as the code reads it
pub with-flag :
    {s : HotSet} {xs : List ℕ} {key : ℕ} {demand threshold : Float} {now : ℕ} (flag : ℕ) {x : Result Updated Refusal} {ys : List ℕ}
    → UpdatedWith s xs key demand threshold now (not (eqb flag 0)) x ys
    → UpdatedWith s xs key demand threshold now (flag_of flag) x ys
with-flag {s} {xs} {key} {demand} {threshold} {now} flag {x} {ys} =
    subst (λ (b : Bool). UpdatedWith s xs key demand threshold now b x ys) (flag_is flag)
