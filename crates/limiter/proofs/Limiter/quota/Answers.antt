-- Question by question, and then the value.
use Rattle.std.proofs.Common.{refl, rules, ◌≡◌}
use Rattle.std.specs.Option.{MatchOption, IsSomeAnd}
use Rattle.std.specs.declared.option.Option.TheVariants.{None}
use Rattle.limiter.proofs.Checking.LiftLaws.{ready}
use Rattle.questions.proofs.RefusalLaws.{refusal-is}
use Rattle.limiter.proofs.Reading.ReaderLaws.{past, tells-made}
use Rattle.limiter.specs.State.{tables, KeyRecord}
use Rattle.gcra.specs.declared.Quota.{Quota}
use Rattle.limiter.specs.declared.key_record.KeyState.{KeyState}
use Rattle.limiter.proofs.Limiter.quota.Goals as goal

pub returns-in_err-ask : goal.returns-in_err-ask
returns-in_err-ask c = refusal-is _ _ c.in_err-ask.ensures _ c.from_residual.ensures.1 _

pub find_key-requires : goal.find_key-requires
find_key-requires c =
    let s = c.args in
    let p = past s.self (tables s.keys.now s.hot.now s.shadows.now) _ c.in_ok-ask.ensures refl in
    ready s.self (tables s.keys.now s.hot.now s.shadows.now) p.room p.ok

pub returns : goal.returns
returns c =
    let s = c.args in
    let made : MatchOption c.find_key.result (c.map.result ≡ None) (λ (k : KeyState). IsSomeAnd c.map.result (λ (x : Quota). x ≡ k.gcra.quota)) = search rules in
    tells-made s.self (tables s.keys.now s.hot.now s.shadows.now) (past s.self (tables s.keys.now s.hot.now s.shadows.now) _ c.in_ok-ask.ensures refl) s.key _ c.find_key.ensures (λ (k : KeyRecord). k.gcra.quota) _ made
