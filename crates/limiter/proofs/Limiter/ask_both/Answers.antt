-- Questions 1 and 2 of both, and then 7.
use mathlib.Core.Path.{refl, ◌∙◌}
use lib.Dec.{lit<}
use Rattle.questions.proofs.Answers.{first_rest, passed_none}
use Rattle.questions.proofs.RefusalLaws.{refusal-first}
use Rattle.peers.specs.Peers.State as peer-state
use Rattle.limiter.specs.State.{tables}
use Rattle.limiter.specs.Calls.{both_questions}
use Rattle.limiter.proofs.Ticking.AskLaws.{first-of-both}
use Rattle.limiter.proofs.Limiter.ask_both.Goals as goal

pub returns-in_err-first : goal.returns-in_err-first
returns-in_err-first c =
    let s = c.args in
    refusal-first
    (both_questions s.self (tables s.keys.now s.hot.now s.shadows.now) s.peers
    (peer-state.tables s.peer_table.now s.snapshot_keys.now s.contested.now)) _
    (c.in_err-first.ensures ∙ first-of-both _ _ _ _ _ _ c.ask-here.ensures c.ask-there.ensures) _ c.from_residual.ensures.1 _

pub returns : goal.returns
returns c =
    let s = c.args in
    c.ask_cluster.ensures
    ∙ first_rest
    (both_questions s.self (tables s.keys.now s.hot.now s.shadows.now) s.peers
    (peer-state.tables s.peer_table.now s.snapshot_keys.now s.contested.now)) _
    (passed_none _ _ (lit< tt, (lit< tt, tt)) (c.in_ok-first.ensures ∙ first-of-both _ _ _ _ _ _ c.ask-here.ensures c.ask-there.ensures) refl)
