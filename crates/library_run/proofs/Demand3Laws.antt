-- Demand 3 of the library.
use mathlib.Core.Path.{sym, subst}
use Rattle.library_run.specs.Demand3.{Counted, LibraryDemand3}
use Rattle.library_run.proofs.Calls.CanCall.{can-call}
use Rattle.library_run.proofs.Runs.Shows.{unbroken-shows}
use Rattle.library_run.proofs.Runs.Began.{started-stands, can-start}
use Rattle.library_run.proofs.Runs.ResumedSame.{resumed-shows, resumed-same}
use Rattle.library_run.proofs.Runs.ServedLaws.{served}
use Rattle.library_run.proofs.Count.CountLaws.{counted}

-- demand 3 of the functions under C names: what a run shows in words is what the definitions do, in the unbroken run and in the resumed one
pub library-demand3 : LibraryDemand3
library-demand3 =
    record {
      starts = λ c into fit. can-start fit;
      claims = λ c into b w started ms typed.
          let st = started-stands started w in
          record {
            resumes = λ u v. resumed-same ms typed st u v;
            served = λ v x room. served x (resumed-shows ms typed st v).1 room;
            goes_on = λ u. can-call (unbroken-shows ms typed st u).1;
            goes_on_resumed = λ v. can-call (resumed-shows ms typed st v).1;
            counted = λ u. subst (Counted c ms) (sym (unbroken-shows ms typed st u).0) (counted c ms);
            counted_resumed = λ v. subst (Counted c ms) (sym (resumed-shows ms typed st v).0) (counted c ms);
          };
    }
