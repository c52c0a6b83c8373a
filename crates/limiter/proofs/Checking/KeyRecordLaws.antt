-- Laws: a key's record and its words in the table.
use Prim.Native.Nat.{ℕ, zero, suc, ◌+◌}
use mathlib.Core.Path.{◌≡◌, refl, sym, ◌∙◌}
use mathlib.Core.Bool.{true}
use mathlib.Core.List.{List}
use native.Mathlib.Nat.{add-zero}
use native.Mathlib.Omega.{arith}
use lib.ListN.{get_or, drop}
use lib.Seq.{get_or-drop, drop-drop}
use Rattle.gcra.specs.declared.Units.{Units}
use Rattle.questions.specs.Questions.{Question, Answer, refused, given, answer, passes}
use Rattle.questions.proofs.Answers.{given-passed, answer-passed}
use Rattle.records.specs.Fields.{time_of}
use Rattle.limiter.specs.State.{float_of, estimate_of, gcra_of, key_of}
use Rattle.std.specs.declared.option.Option.TheVariants.{Some}
use Rattle.std.specs.declared.result.Result.{Result}
use Rattle.std.specs.declared.result.Result.TheVariants.{Ok, Err}
use Rattle.std.specs.Result.{result_unwrap_or}
use Rattle.questions.specs.declared.Refusal.{Refusal}
use Rattle.questions.specs.Refusals.{number, answer_of}

-- ---- answers of other crates' calls

-- a value that is given is the one that was asked for
pub given_is : {A : Type 0} (qs : List Question) (u v : A) {x : Answer A} → x ≡ answer qs v → given u ≡ x → u ≡ v
given_is qs u v e g = (given-passed qs u v (g ∙ e)).1

-- a call whose questions pass is not refused
pub never-refused : {A P : Type 0} (qs : List Question) (n : ℕ) (v : A) {x : Answer A} → passes qs ≡ true → x ≡ answer qs v → refused n ≡ x → P
never-refused qs n v p e g = clash (g ∙ e ∙ sym (answer-passed v qs p))
  where
    clash : {A P : Type 0} {v : A} → refused n ≡ given v → P
    clash w = let z : ◌≡◌ {A = ℕ} 0 1 = cc in absurd (omega arith)

-- so its value is the one that was asked for, whatever stands in for a refusal
pub given-or : {A : Type 0} (qs : List Question) (v d : A) (r : Result A Refusal) → passes qs ≡ true → answer_of r ≡ answer qs v → result_unwrap_or r d ≡ v
given-or qs v d (Ok u) p e = given_is qs u v e refl
given-or qs v d (Err x) p e = never-refused qs (number x) v p e refl

-- ---- words at a place

-- a TAT whose flag is set
pub tat-set : (flag t : ℕ) → (flag ≡ 0 → ⊥) → Some t ≡ (time_of flag t)
tat-set zero t h = absurd (h refl)
tat-set (suc f) t h = refl

-- the 22 of a key, by parts
pub key-at : (u : Units) (at : ℕ) (xs : List ℕ) → key_of u (drop at xs) ≡ record {
  key = get_or xs at 0;
  limit = record { rate = float_of (get_or xs (at + 1) 0); burst = get_or xs (at + 2) 0 };
  demand = estimate_of (drop (at + 3) xs);
  requests = estimate_of (drop (at + 7) xs);
  denials = estimate_of (drop (at + 11) xs);
  shadow_denials = estimate_of (drop (at + 15) xs);
  gcra = gcra_of u (drop (at + 19) xs);
}
unfolding key_of
key-at u at xs = simp (get_or-drop, add-zero, drop-drop)
