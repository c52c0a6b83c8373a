-- `gcra::Quota::unpack` meets its contract.
use Rattle.gcra.specs.Calls.{quota_unpack}
use Rattle.questions.proofs.Tests.{told-no, told-yes}
use Rattle.questions.proofs.Answers.{alone-no, alone-yes}
use Rattle.gcra.proofs.Quota.unpack.Goals as goal

pub returns-then-not-unpacks : goal.returns-then-not-unpacks
unfolding quota_unpack
returns-then-not-unpacks c = alone-no 14 _ (told-no c.unpacks.ensures c.if-not-unpacks.true)

pub returns : goal.returns
unfolding quota_unpack
returns c = rw c.unpack_in.ensures (alone-yes 14 _ (told-yes c.unpacks.ensures c.if-not-unpacks.false))
