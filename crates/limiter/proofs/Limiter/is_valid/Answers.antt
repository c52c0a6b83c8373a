-- Each test is one of the scan's, whose tables have room by the sizes.
use Rattle.std.proofs.Common.{◌∙◌, ◌≡◌, sym, arith}
use Rattle.std.proofs.lemmas.Bool.Decides.{nat_tests}
use Rattle.questions.proofs.Tests.{told-yes, contradiction}
use Rattle.records.proofs.Tables.TypedLaws.{all_words}
use Rattle.limiter.specs.State.{tables, settings_of, units_in, units_for}
use Rattle.limiter.specs.Steps.Scan.{is_scanned}
use Rattle.limiter.proofs.Validity.ValidLaws.{room_says, keys-lent, scanned-is-valid}
use Rattle.limiter.proofs.States.StateValidLaws.{units-of-accepted}
use Rattle.limiter.proofs.Limiter.is_valid.Goals as goal
use Rattle.limiter.proofs.Limiter.is_valid.Goals.{then-has_valid_settings, else-has_valid_settings, then-are_keys, else-are_keys}

pub are_keys-requires : goal.are_keys-requires
are_keys-requires c =
    (room_says c.args.self (tables c.args.keys.now c.args.hot.now c.args.shadows.now) c.requires (told-yes c.has_valid_settings.ensures c.if-has_valid_settings.true)).keys

pub are_hot-requires : goal.are_hot-requires
unfolding units_for
are_hot-requires c =
    let t = tables c.args.keys.now c.args.hot.now c.args.shadows.now in
    elim c.if-has_valid_settings.branch [
      | then-has_valid_settings w ↦
          let v = told-yes c.has_valid_settings.ensures w.if-has_valid_settings.true in
          (keys-lent c.args.self t c.requires v (told-yes w.are_keys.ensures (sym w.value-is ∙ c.if-are_keys.true)), (room_says c.args.self t c.requires v).hot)
      | else-has_valid_settings w ↦ contradiction (sym c.if-are_keys.true ∙ w.value-is ∙ w.if-has_valid_settings.false)
    ]

pub are_shadows-requires : goal.are_shadows-requires
unfolding units_for
are_shadows-requires c =
    let t = tables c.args.keys.now c.args.hot.now c.args.shadows.now in
    elim c.if-are_keys.branch [
      | then-are_keys k ↦
          elim c.if-has_valid_settings.branch [
            | then-has_valid_settings w ↦
                let v = told-yes c.has_valid_settings.ensures w.if-has_valid_settings.true in
                (keys-lent c.args.self t c.requires v (told-yes w.are_keys.ensures (sym w.value-is ∙ k.if-are_keys.true)), (room_says c.args.self t c.requires v).shadows)
            | else-has_valid_settings w ↦ contradiction (sym k.if-are_keys.true ∙ w.value-is ∙ w.if-has_valid_settings.false)
          ]
      | else-are_keys k ↦ contradiction (sym c.if-are_hot.true ∙ k.value-is ∙ k.if-are_keys.false)
    ]

pub returns-then-are_hot : goal.returns-then-are_hot
unfolding is_scanned units_for
returns-then-are_hot c =
    let l = c.args.self in
    let t = tables c.args.keys.now c.args.hot.now c.args.shadows.now in
    let e : c.are_shadows.result ≡ is_scanned (units_in l) l t = grind (arith, nat_tests) in
    e
    ∙ scanned-is-valid (units_in l) (units-of-accepted (settings_of l)) l t c.requires
    (all_words t.keys (λ i. omega (arith, c.type_inv.keys i)))
    (all_words t.hot (λ i. omega (arith, c.type_inv.hot i)))
    (all_words t.shadows (λ i. omega (arith, c.type_inv.shadows i)))

pub returns-else-are_hot : goal.returns-else-are_hot
unfolding is_scanned units_for
returns-else-are_hot c =
    let l = c.args.self in
    let t = tables c.args.keys.now c.args.hot.now c.args.shadows.now in
    let e : c.if-are_keys.value ≡ is_scanned (units_in l) l t = grind (arith, nat_tests) in
    e
    ∙ scanned-is-valid (units_in l) (units-of-accepted (settings_of l)) l t c.requires
    (all_words t.keys (λ i. omega (arith, c.type_inv.keys i)))
    (all_words t.hot (λ i. omega (arith, c.type_inv.hot i)))
    (all_words t.shadows (λ i. omega (arith, c.type_inv.shadows i)))
