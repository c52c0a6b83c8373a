use Rattle.image.proofs.Loading.KindLaws.{record-within}
use Rattle.inspect.proofs.record_len.Goals as goal

pub returns-in-Some : goal.returns-in-Some
returns-in-Some c = record-within 0 c.args.image.now _ c.in-Some.ensures
