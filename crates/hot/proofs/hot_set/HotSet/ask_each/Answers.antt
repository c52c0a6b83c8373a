use Rattle.questions.proofs.Tests.{told-no, told-yes}
use Rattle.hot.specs.HotSet.Calls.{ask_set}
use Rattle.questions.proofs.RefusalLaws.{refusal-first}
use Rattle.hot.proofs.HotSet.EachLaws.{demands-no, places-no, places-yes}
use Rattle.hot.proofs.hot_set.HotSet.ask_each.Goals as goal

pub returns-in_err-ask : goal.returns-in_err-ask
returns-in_err-ask c = refusal-first (ask_set c.args.self c.args.hot.now) _ c.in_err-ask.ensures _ c.from_residual.ensures.1 _

pub returns-then-not-are_magnitudes : goal.returns-then-not-are_magnitudes
returns-then-not-are_magnitudes c =
    demands-no c.args.self c.args.hot.now c.args.n c.args.demands.now c.args.room c.in_ok-ask.ensures (told-no c.are_magnitudes.ensures c.if-not-are_magnitudes.true)

pub returns-then-room-n : goal.returns-then-room-n
returns-then-room-n c =
    places-no c.args.self c.args.hot.now c.args.n c.args.demands.now c.args.room c.in_ok-ask.ensures (told-yes c.are_magnitudes.ensures c.if-not-are_magnitudes.false) c.if-room-n.true

pub returns : goal.returns
returns c =
    places-yes c.args.self c.args.hot.now c.args.n c.args.demands.now c.args.room c.in_ok-ask.ensures (told-yes c.are_magnitudes.ensures c.if-not-are_magnitudes.false) c.if-room-n.false
