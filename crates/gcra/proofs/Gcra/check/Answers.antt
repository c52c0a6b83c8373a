-- `gcra::Gcra::check` meets its contract.
use Rattle.gcra.specs.Meter.{checked}
use Rattle.questions.proofs.Tests.{told-no, told-yes}
use Rattle.questions.proofs.Answers.{alone-no, alone-yes, alone-kept, alone-changed}
use Rattle.gcra.proofs.Gcra.check.Goals as goal

pub returns-then-not-is_valid : goal.returns-then-not-is_valid
returns-then-not-is_valid c =
    let n = told-no c.is_valid.ensures c.if-not-is_valid.true in
    record { decided = alone-no 2 _ n; left = alone-kept 2 _ _ n }

pub returns : goal.returns
unfolding checked
returns c =
    let y = told-yes c.is_valid.ensures c.if-not-is_valid.false in
    rw c.checked.ensures record { decided = alone-yes 2 _ y; left = alone-changed 2 _ _ y }
