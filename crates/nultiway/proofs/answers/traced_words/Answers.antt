-- `traced_words` meets its contract.
use mathlib.Core.List.{[], ◌∷◌}
use mathlib.Core.Path.{◌∙◌}
use lib.ListN.{get_or}
use Rattle.nultiway.proofs.Calls.CallLaws.{traced-apart}
use Rattle.nultiway.proofs.answers.traced_words.Goals as goal

pub returns : goal.returns
returns c =
    let d = c.decision_words-d.ensures in
    let s = c.shadow_words-s.ensures in
    let x = c.args.traced in
    (λ i. get_or (d i) 0 0 ∷ get_or (d i) 1 0 ∷ get_or (s i) 0 0 ∷ get_or (s i) 1 0 ∷ get_or (s i) 2 0 ∷ [])
    ∙ traced-apart x.decision x.shadow
