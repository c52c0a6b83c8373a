-- `decision_words` meets its contract.
use mathlib.Core.Path.{sym, ap}
use Rattle.gcra.specs.declared.Decision.{Decision}
use Rattle.nultiway.specs.Calls.{decision_words}
use Rattle.nultiway.proofs.answers.decision_words.Goals as goal

pub returns-in-Deny : goal.returns-in-Deny
returns-in-Deny c = sym (ap (λ (x : Decision). decision_words x) c.in-Deny.is)
