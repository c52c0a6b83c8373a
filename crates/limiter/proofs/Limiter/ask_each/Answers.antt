-- Question 1 of the list, then those of the state and the cluster, then 16.
use mathlib.Core.Path.{refl, sym, ◌∙◌}
use lib.Dec.{lit<}
use Rattle.questions.proofs.Tests.{told-no, told-yes}
use Rattle.questions.proofs.Answers.{first-no, first-yes, first-none, first_rest, passed_none}
use Rattle.questions.proofs.RefusalLaws.{refusal-first}
use Rattle.limiter.proofs.Checking.EachLaws.{each-room}
use Rattle.limiter.proofs.Limiter.ask_each.Goals as goal

pub returns-then-not-fits : goal.returns-then-not-fits
returns-then-not-fits c = first-no 1 _ (told-no c.fits.ensures c.if-not-fits.true)

pub returns-in_err-ask_cluster : goal.returns-in_err-ask_cluster
returns-in_err-ask_cluster c =
    first-yes 1 _ (told-yes c.fits.ensures c.if-not-fits.false)
    (refusal-first _ _ c.in_err-ask_cluster.ensures _ c.from_residual.ensures.1 _)

pub returns-then-not-fits-2 : goal.returns-then-not-fits-2
returns-then-not-fits-2 c =
    first-yes 1 _ (told-yes c.fits.ensures c.if-not-fits.false)
    (first-no 16 _ (sym (each-room _ _) ∙ told-no c.fits-2.ensures c.if-not-fits-2.true)
    ∙ first_rest _ _ (passed_none _ _ (lit< tt, (lit< tt, (lit< tt, tt))) c.in_ok-ask_cluster.ensures refl))

pub returns : goal.returns
returns c =
    first-yes 1 _ (told-yes c.fits.ensures c.if-not-fits.false)
    (first-yes 16 _ (sym (each-room _ _) ∙ told-yes c.fits-2.ensures c.if-not-fits-2.false) first-none
    ∙ first_rest _ _ (passed_none _ _ (lit< tt, (lit< tt, (lit< tt, tt))) c.in_ok-ask_cluster.ensures refl))
