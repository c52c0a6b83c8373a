use Rattle.std.proofs.Common.{ℕ, ◌++◌, List, length, drop, sym, ap, ◌∙◌}
use Rattle.nultiway.proofs.Words.ValueLaws.{paste-front}
use Rattle.nultiway.proofs.values.put.Goals as goal

pub returns : goal.returns
returns c =
    let a = c.args in
    ap (λ (r : List ℕ). r ++ drop (length a.from.now) a.to.now) c.copy_from_slice.ensures.after ∙ sym (paste-front a.from.now a.to.now)
