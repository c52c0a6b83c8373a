-- `is_limiter` meets its contract.
use Prim.Native.Nat.{ℕ}
use mathlib.Core.Path.{sym, ap, ◌∙◌}
use mathlib.Core.List.{List}
use native.Mathlib.Omega.{arith}
use lib.ListN.{take}
use lib.Seq.{length-take-le}
use Rattle.records.specs.Records.{same}
use Rattle.limiter.specs.declared.Limiter.{Limiter}
use Rattle.nultiway.specs.Values.{limiter_words, is_limiter}
use Rattle.nultiway.proofs.values.is_limiter.Goals as goal

pub slice_bounds-are_same-end-2 : goal.slice_bounds-are_same-end-2
slice_bounds-are_same-end-2 c = sym (length-take-le 16 c.args.words.now (omega arith))

pub returns : goal.returns
unfolding is_limiter
returns c =
    c.are_same.ensures
    ∙ ap (λ (k : List ℕ). same k (take 16 c.args.words.now))
    (c.limiter_words-again.ensures ∙ ap (λ (x : Limiter). limiter_words x) c.requires.1)
