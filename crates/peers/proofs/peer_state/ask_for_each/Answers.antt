-- `ask_for_each` meets its contract.
use Rattle.std.proofs.Common.{le-leb, sym, ap, ◌∙◌}
use borrow.Author.Tests.{lt-leb}
use Rattle.questions.proofs.Tests.{told-no, told-yes}
use Rattle.questions.specs.Refusals.{asked}
use Rattle.peers.proofs.Peers.Readers.EachLaws.{each-unfit, each-not, each-full, each-asked, refuses, hands}
use Rattle.questions.proofs.RefusalLaws.{number-nonzero, handed}
use Rattle.peers.proofs.peer_state.ask_for_each.Goals as goal

pub returns-then-not-fits : goal.returns-then-not-fits
returns-then-not-fits c = refuses _ _ _ _ _ _ (λ p t e. each-unfit p t _ _ _ _ (told-no c.fits.ensures c.if-not-fits.true))

pub returns-in_err-starts : goal.returns-in_err-starts
returns-in_err-starts c =
    hands _ _ _ _ _ _ (handed _ c.from_residual.result c.from_residual.ensures.1)
    (λ p t e. each-not p t _ _ _ _ (told-yes c.fits.ensures c.if-not-fits.false) _ (sym (ap asked c.in_err-starts.was) ∙ e) (number-nonzero _))

pub returns-then-room-n : goal.returns-then-room-n
returns-then-room-n c =
    refuses _ _ _ _ _ _ (λ p t e. each-full p t _ _ _ _ (told-yes c.fits.ensures c.if-not-fits.false) _ e (ap asked c.in_ok-starts.was) (lt-leb _ _ c.if-room-n.true))

pub returns : goal.returns
returns c = record {
  first = λ p t e. each-asked p t _ _ _ _ (told-yes c.fits.ensures c.if-not-fits.false) _ e (ap asked c.in_ok-starts.was) (le-leb _ _ c.if-room-n.false);
  state = λ s e. c.in_ok-starts.was ∙ e;
}
