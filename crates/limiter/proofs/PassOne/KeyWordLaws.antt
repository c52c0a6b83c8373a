-- Laws: a key's demand, limit and meter by the words of its record.
use mathlib.Core.Path.{◌≡◌, refl, sym, ap, ◌∙◌, subst}
use mathlib.Core.Bool.{Bool, true, false, ◌||◌}
use mathlib.Core.List.{List, []}
use Prim.Native.Nat.{ℕ, ◌+◌, ◌-◌, ◌*◌, ◌<◌}
use native.Mathlib.Omega.{arith}
use lib.Dec.{ltb, lit<}
use lib.Ieee.{Float}
use lib.ListN.{length, take, drop, get_or, length-map, get_or-map}
use lib.Seq.{get_or-drop}
use Rattle.records.specs.Records.{records}
use Rattle.records.proofs.Words.RecordLaws.{length-records, record-at}
use Rattle.gcra.specs.declared.Gcra.{Gcra}
use Rattle.gcra.specs.Packed.{valid_quota}
use Rattle.gcra.specs.Meter.{has_debt}
use Rattle.questions.specs.Questions.{refused, given}
use Rattle.gcra.specs.Calls as calls
use Rattle.gcra.specs.declared.Units.{Units}
use Rattle.questions.proofs.Answers.{alone-yes, given-passed}
use Rattle.records.proofs.Words.RowLaws.{word-at}
use Rattle.limiter.specs.State.{KeyRecord, float_of, key_of, gcra_of}
use Rattle.limiter.specs.Steps.TickSteps.{key_records, LentKeys, LentKey}
use Rattle.limiter.specs.Steps.PassOneSteps.{is_demand, stays_if}
use Rattle.limiter.specs.Steps.KeySteps.{units}
use Rattle.limiter.proofs.States.RecordValidLaws.{key-says}
use Rattle.limiter.proofs.Walking.FoldLaws.{lent_row}
use Rattle.std.specs.declared.result.Result.{Result}
use Rattle.std.specs.Result.{result_unwrap_or}
use Rattle.std.specs.declared.result.Result.TheVariants.{Ok, Err}
use Rattle.questions.specs.declared.Refusal.{Refusal}
use Rattle.questions.specs.Refusals.{answer_of, number}

-- ---- key i of a table
module _ (u : Units) (n : ℕ) (xs : List ℕ) where
  pub keys-many : length (key_records u n xs) ≡ n
  keys-many = length-map (records 22 n xs) (key_of u) ∙ length-records 22 n xs

  module _ (i : ℕ) (h : i < n) where
    abbrev pub key_at : KeyRecord
    key_at = get_or (key_records u n xs) i (key_of u [])

    abbrev row : List ℕ
    row = get_or (records 22 n xs) i []

    pub key-at : key_at ≡ key_of u row
    key-at = get_or-map (key_of u) (records 22 n xs) i []

    -- where it is lent
    part-is-row : take (i * 22 + 22 - i * 22) (drop (i * 22) xs) ≡ row
    part-is-row = let z : i * 22 + 22 - i * 22 ≡ 22 = omega arith in ap (λ (k : ℕ). take k (drop (i * 22) xs)) z ∙ sym (record-at 22 n xs i h)

    pub lent_is : key_of u (take (i * 22 + 22 - i * 22) (drop (i * 22) xs)) ≡ key_at
    lent_is = ap (key_of u) part-is-row ∙ sym key-at

    pub lent_again : LentKeys u n xs → LentKey u (take (i * 22 + 22 - i * 22) (drop (i * 22) xs))
    lent_again k = subst (λ (r : List ℕ). LentKey u r) (sym part-is-row) (lent_row u n xs i k h)

    -- its rate of demand
    pub rate-at : float_of (get_or xs (i * 22 + 3) 0) ≡ key_at.demand.rate
    unfolding key_of
    rate-at =
        ap float_of (sym (get_or-drop 3 row 0 0 ∙ word-at 22 n xs i 3 h (lit< tt)))
        ∙ ap (λ (k : KeyRecord). k.demand.rate) (sym key-at)

    -- its limit's rate
    pub limit-at : float_of (get_or xs (i * 22 + 1) 0) ≡ key_at.limit.rate
    unfolding key_of
    limit-at = ap float_of (sym (word-at 22 n xs i 1 h (lit< tt))) ∙ ap (λ (k : KeyRecord). k.limit.rate) (sym key-at)

-- ---- the meter

-- what `has_debt` answers where the quota is valid
debt-given : (g : Gcra) (now : ℕ) (r : Result Bool Refusal) (b : Bool) → answer_of r ≡ calls.gcra_has_debt g now → r ≡ Ok b
    → b ≡ has_debt g now
unfolding calls.gcra_has_debt
debt-given g now r b e q = (given-passed (calls.ask_quota g.quota) b (has_debt g now) (ap answer_of (sym q) ∙ e)).1

debt-never : (g : Gcra) (now : ℕ) (r : Result Bool Refusal) (n : Refusal) → answer_of r ≡ calls.gcra_has_debt g now → r ≡ Err n
    → valid_quota units g.quota ≡ true → ⊥
unfolding calls.gcra_has_debt
debt-never g now r n e q v =
    let a : refused (number n) ≡ calls.gcra_has_debt g now = ap answer_of (sym q) ∙ e in
    let d : given (has_debt g now) ≡ calls.gcra_has_debt g now = alone-yes 2 (has_debt g now) v in
    let z : ◌≡◌ {A = ℕ} 0 1 = cc in
    omega arith

pub debt-is : (g : Gcra) (now : ℕ) (r : Result Bool Refusal) (b : Bool) → answer_of r ≡ calls.gcra_has_debt g now → valid_quota units g.quota ≡ true
    → result_unwrap_or r b ≡ has_debt g now
debt-is g now (Ok d) b e v = debt-given g now (Ok d) d e refl
debt-is g now (Err n) b e v = absurd (debt-never g now (Err n) n e refl v)

-- ---- whether a key stays

-- 'or' by its parts in another order
or-turned : (a b c d : Bool) → (a || (b || (c || d))) ≡ (((a || c) || d) || b)
or-turned true b c d = refl
or-turned false true true d = refl
or-turned false true false true = refl
or-turned false true false false = refl
or-turned false false true d = refl
or-turned false false false true = refl
or-turned false false false false = refl

module _ (u : Units) (silent : Float) (r : List ℕ) (now : ℕ) where
  abbrev key : KeyRecord
  key = key_of u r

  rate-word : key.demand.rate ≡ float_of (get_or r 3 0)
  unfolding key_of
  rate-word = ap float_of (get_or-drop 3 r 0 0)

  attempts-word : key.demand.attempts ≡ get_or r 4 0
  unfolding key_of
  attempts-word = get_or-drop 3 r 1 0

  -- the code's tests in their order
  pub stays-by : (hot : Bool) → stays_if silent now key hot ≡ (((hot || is_demand silent (float_of (get_or r 3 0))) || ltb 0 (get_or r 4 0)) || has_debt (gcra_of u (drop 19 r)) now)
  unfolding key_of
  stays-by hot =
      or-turned hot (has_debt key.gcra now) (is_demand silent key.demand.rate) (ltb 0 key.demand.attempts)
      ∙ (λ i. ((hot || is_demand silent (rate-word i)) || ltb 0 (attempts-word i)) || has_debt (gcra_of u (drop 19 r)) now)

-- its quota is valid
pub quota-valid : (u : Units) (r : List ℕ) → LentKey u r → valid_quota u (gcra_of u (drop 19 r)).quota ≡ true
unfolding key_of
quota-valid u r h = (key-says u (key_of u r) h.valid).gcra.quota
