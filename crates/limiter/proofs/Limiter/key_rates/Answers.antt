-- Question by question, and then the value.
use Rattle.std.proofs.Common.{refl, rules, ◌≡◌, true}
use Rattle.std.specs.Option.{MatchOption, IsSomeAnd}
use Rattle.std.specs.declared.option.Option.TheVariants.{None}
use Rattle.limiter.specs.declared.KeyRates.{KeyRates}
use Rattle.limiter.specs.declared.key_record.KeyState.{KeyState}
use Rattle.limiter.specs.Readers.{rates_of}
use Rattle.limiter.specs.Steps.KeySteps.{units, key_record}
use Rattle.limiter.proofs.Checking.LiftLaws.{ready}
use Rattle.questions.proofs.RefusalLaws.{refusal-is}
use Rattle.limiter.proofs.Reading.ReaderLaws.{past, tells-made, found-valid}
use Rattle.limiter.specs.State.{tables, units_for, parameters_of, settings_of, valid_key}
use Rattle.limiter.proofs.Limiter.key_rates.Goals as goal

pub returns-in_err-ask : goal.returns-in_err-ask
returns-in_err-ask c = refusal-is _ _ c.in_err-ask.ensures _ c.from_residual.ensures.1 _

pub find_key-requires : goal.find_key-requires
find_key-requires c =
    let s = c.args in
    let p = past s.self (tables s.keys.now s.hot.now s.shadows.now) _ c.in_ok-ask.ensures refl in
    ready s.self (tables s.keys.now s.hot.now s.shadows.now) p.room p.ok

pub map-requires : goal.map-requires
unfolding units_for
map-requires c =
    let s = c.args in
    let t = tables s.keys.now s.hot.now s.shadows.now in
    let p = past s.self t _ c.in_ok-ask.ensures refl in
    λ x e.
    let good : valid_key units (key_record x) ≡ true = found-valid s.self s.keys.now (ready s.self t p.room p.ok) s.key _ c.find_key.ensures x e in
    search rules

pub returns : goal.returns
returns c =
    let s = c.args in
    let par = parameters_of (settings_of s.self) in
    let made : MatchOption c.find_key.result (c.map.result ≡ None) (λ (k : KeyState). IsSomeAnd c.map.result (λ (x : KeyRates). x ≡ rates_of par (key_record k))) = search rules in
    tells-made s.self (tables s.keys.now s.hot.now s.shadows.now) (past s.self (tables s.keys.now s.hot.now s.shadows.now) _ c.in_ok-ask.ensures refl) s.key _ c.find_key.ensures (rates_of par) _ made
