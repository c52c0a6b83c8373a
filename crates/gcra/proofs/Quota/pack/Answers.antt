-- `gcra::Quota::pack` meets its contract.
use Rattle.gcra.specs.Calls.{quota_pack}
use Rattle.questions.proofs.Tests.{told-no, told-yes}
use Rattle.questions.proofs.Answers.{alone-no, alone-yes}
use Rattle.gcra.proofs.Packed.Encoding.{units-accepted}
use Rattle.gcra.proofs.Packed.Validity.{valid-quota}
use Rattle.gcra.proofs.Quota.pack.Goals as goal

pub returns-then-not-is_valid : goal.returns-then-not-is_valid
unfolding quota_pack
returns-then-not-is_valid c = alone-no 2 _ (told-no c.is_valid.ensures c.if-not-is_valid.true)

pub pack_in-requires : goal.pack_in-requires
pack_in-requires c = let v = valid-quota _ _ (told-yes c.is_valid.ensures c.if-not-is_valid.false) in (units-accepted, v.most, v.burst.most)

pub returns : goal.returns
unfolding quota_pack
returns c = rw c.pack_in.ensures (alone-yes 2 _ (told-yes c.is_valid.ensures c.if-not-is_valid.false))
