-- Behind the mark, the kind and i words.
use Prim.Native.Nat.{ℕ, ◌+◌, ◌*◌}
use mathlib.Core.Path.{sym, ap, ◌∙◌}
use mathlib.Core.List.{List}
use lib.ListN.{take}
use lib.Seq.{drop-drop}
use Rattle.image.specs.Reader.{number}
use Rattle.image.proofs.rows.record_word.Goals as goal

pub returns : goal.returns
returns c =
    let s = c.args in
    c.word_at.ensures ∙ ap (λ (l : List ℕ). number (take 8 l)) (sym (drop-drop (3 + 8 * s.i) s.at s.from.now))
