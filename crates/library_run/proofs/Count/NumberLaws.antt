-- A reply keeps the number that the caller reads, also one that no question has.
use mathlib.Core.Path.{◌≡◌, refl}
use mathlib.Core.List.{[]}
use Rattle.questions.specs.Questions.{refused}
use Rattle.run.specs.Run.{Reply}
use Rattle.run.specs.Trace.{Sort}
use Rattle.library_run.specs.Calls.{Output, said}
use Rattle.library_run.specs.Trace.{change_in, reply_of}

pub change-kept : change_in 17 ≡ refused 17
change-kept = refl

pub check-kept : reply_of (Sort.one_check 1 2) (said 255 [] Output.nothing) ≡ Reply.decided (refused 255)
check-kept = refl
