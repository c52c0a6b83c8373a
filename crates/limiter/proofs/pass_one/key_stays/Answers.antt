use Rattle.std.proofs.Common.{◌≡◌, ◌∙◌, sym, ap, Bool, true, false, ◌||◌, ltb, get_or}
use Rattle.gcra.specs.declared.Gcra.{Gcra}
use Rattle.gcra.specs.Packed.{valid_quota}
use Rattle.gcra.specs.Meter.{has_debt}
use Rattle.limiter.specs.State.{float_of}
use Rattle.limiter.specs.Steps.KeySteps.{units}
use Rattle.limiter.specs.Steps.PassOneSteps.{is_demand}
use Rattle.limiter.proofs.States.KeyListLaws.{or_left}
use Rattle.limiter.proofs.PassOne.KeyWordLaws.{stays-by, quota-valid}
use Rattle.limiter.proofs.pass_one.key_stays.Goals as goal
use Rattle.limiter.proofs.pass_one.key_stays.Goals.{then-hot, else-hot, then-is_demand, else-is_demand}

-- a join of two tests
or-yes : {v a : Bool} (b : Bool) → v ≡ a → a ≡ true → v ≡ (a || b)
or-yes {v} {a} b e h = e ∙ h ∙ sym (or_left a b h)

or-no : {v a b : Bool} → v ≡ b → a ≡ false → v ≡ (a || b)
or-no {v} {a} {b} e h = e ∙ sym (ap (λ (x : Bool). x || b) h)

pub has_debt-requires : goal.has_debt-requires
has_debt-requires c =
    ap (λ (g : Gcra). valid_quota units g.quota) c.meter_of_words.ensures ∙ quota-valid units c.args.r.now c.requires

pub returns-then-r-gt0 : goal.returns-then-r-gt0
returns-then-r-gt0 c =
    let a = c.args in
    let wanted : Bool = is_demand a.silent (float_of (get_or a.r.now 3 0)) in
    let pending : Bool = ltb 0 (get_or a.r.now 4 0) in
    let first : c.if-hot.value ≡ (a.hot || wanted) =
    elim c.if-hot.branch [
      | then-hot w ↦ or-yes wanted w.value-is w.if-hot.true
      | else-hot w ↦ or-no (w.value-is ∙ w.is_demand.ensures ∙ ap (is_demand a.silent) w.from_bits.ensures) w.if-hot.false
    ] in
    let second : c.if-is_demand.value ≡ (c.if-hot.value || pending) =
    elim c.if-is_demand.branch [
      | then-is_demand w ↦ or-yes pending w.value-is w.if-is_demand.true
      | else-is_demand w ↦ or-no w.value-is w.if-is_demand.false
    ] in
    let joined : c.if-is_demand.value ≡ ((a.hot || wanted) || pending) = second ∙ ap (λ (x : Bool). x || pending) first in
    or-yes _ joined (sym joined ∙ c.if-r-gt0.true) ∙ sym (stays-by units a.silent a.r.now a.reading a.hot)

pub returns-else-r-gt0 : goal.returns-else-r-gt0
returns-else-r-gt0 c =
    let a = c.args in
    let wanted : Bool = is_demand a.silent (float_of (get_or a.r.now 3 0)) in
    let pending : Bool = ltb 0 (get_or a.r.now 4 0) in
    let first : c.if-hot.value ≡ (a.hot || wanted) =
    elim c.if-hot.branch [
      | then-hot w ↦ or-yes wanted w.value-is w.if-hot.true
      | else-hot w ↦ or-no (w.value-is ∙ w.is_demand.ensures ∙ ap (is_demand a.silent) w.from_bits.ensures) w.if-hot.false
    ] in
    let second : c.if-is_demand.value ≡ (c.if-hot.value || pending) =
    elim c.if-is_demand.branch [
      | then-is_demand w ↦ or-yes pending w.value-is w.if-is_demand.true
      | else-is_demand w ↦ or-no w.value-is w.if-is_demand.false
    ] in
    let joined : c.if-is_demand.value ≡ ((a.hot || wanted) || pending) = second ∙ ap (λ (x : Bool). x || pending) first in
    or-no (c.has_debt.ensures ∙ ap (λ (g : Gcra). has_debt g a.reading) c.meter_of_words.ensures) (sym joined ∙ c.if-r-gt0.false)
    ∙ sym (stays-by units a.silent a.r.now a.reading a.hot)
