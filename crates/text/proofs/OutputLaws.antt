-- Once standard output has failed nothing more is put, and the place stays.
use mathlib.Core.Path.{◌≡◌}
use Prim.Native.Nat.{ℕ, ◌+◌, ◌<◌}
use native.Mathlib.Omega.{arith}
use mathlib.Core.Logic.{inr}
use mathlib.Core.List.{List}
use lib.ListN.{length}
use borrow.Author.Tests.{lt-leb}
use Rattle.text.specs.Output.{written, end, failed, Flushed}

-- text that is put there leaves the buffer and the place
pub put-when-failed : (s xs : List ℕ) → length xs < failed → (written failed s xs ≡ xs) × (end failed s xs ≡ failed)
unfolding written end
put-when-failed s xs h = let e = lt-leb (failed + length s) (length xs) (omega (arith, h)) in (rw e, rw e)

-- a flush leaves the place
pub flush-when-failed : (room r : ℕ) (xs : List ℕ) → length xs < failed → Flushed failed room xs r → r ≡ failed
flush-when-failed room r xs h f = f.kept (inr h)
