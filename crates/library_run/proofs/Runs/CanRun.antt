-- Every list of calls has an unbroken run through the library, where each is lent no more words than there are at the start: no call changes how many.
use Prim.Native.Nat.{◌≤◌}
use mathlib.Core.Path.{◌≡◌, refl, sym, subst}
use mathlib.Core.Bool.{true}
use mathlib.Core.List.{List, [], ◌∷◌}
use lib.Seq.{length-take-le}
use Rattle.questions.proofs.Tests.{both}
use Rattle.questions.specs.Lists.{all}
use Rattle.image.specs.Image.{State}
use Rattle.run.proofs.Standing.CanRun as values
use Rattle.library_run.specs.Calls.{Buffers, Lent, values_of}
use Rattle.library_run.specs.Runs.{Move, Shown, Runs, Unbroken, lend, lent_by}
use Rattle.library_run.specs.Demand3.{typed_call, typed_move}
use Rattle.library_run.proofs.Calls.Stepped.{Stands, next, steps-lead}
use Rattle.library_run.proofs.Calls.CanCall.{can-call}

-- so many words are no more than there are
pub record Within (n have : Lent) : Type 0 where
  pub limiter : n.limiter ≤ have.limiter
  pub peers : n.peers ≤ have.peers
  pub tables : values.Within n.tables have.tables

-- each call of a list is lent no more
abbrev pub AllWithin : Lent → List Move → Type 0
AllWithin have [] = Unit
AllWithin have (Move.call c ∷ ms) = Within c.lent have × AllWithin have ms
AllWithin have (Move.resume w ∷ ms) = AllWithin have ms

-- so there are as many words as it is lent
within-enough : (n : Lent) (b : Buffers) → Within n (lent_by b) → lent_by (lend n b) ≡ n
within-enough n b w = λ i.
    record {
      limiter = length-take-le n.limiter b.limiter w.limiter i;
      peers = length-take-le n.peers b.peers w.peers i;
      tables = values.within-enough n.tables (values_of b) w.tables i;
    }

pub can-run : {b : Buffers} {s : State} (ms : List Move) → all typed_move ms ≡ true → Stands b s → AllWithin (lent_by b) ms
    → (xs : List Shown) × (last : Buffers) × Unbroken b ms xs last
unfolding all
can-run {b} [] w st fit = ([], b, Runs.end)
can-run {b} {s} (Move.call c ∷ ms) w st fit =
    let t = both (typed_call c) (all typed_move ms) w in
    let z = can-call st c t.0 (within-enough c.lent b fit.0) in
    let k = steps-lead c t.0 st z.2 in
    let rest = can-run {b = z.1} {s = next c s} ms t.1 k.stands (subst (λ (n : Lent). AllWithin n ms) (sym k.long) fit.1) in
    (_, rest.1, Runs.calls z.2 rest.2)
can-run {b} {s} (Move.resume m ∷ ms) w st fit =
    let rest = can-run {b = b} {s = s} ms (both true (all typed_move ms) w).1 st fit in
    (_, rest.1, Runs.resumes refl rest.2)
