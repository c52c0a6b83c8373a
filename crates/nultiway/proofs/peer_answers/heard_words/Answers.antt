-- Word for word.
use mathlib.Core.List.{[], ◌∷◌}
use Rattle.nultiway.proofs.peer_answers.heard_words.Goals as goal

pub returns : goal.returns
returns c =
    let a = c.args in
    let f32-to-bits = c.f32_to_bits-demand in
    λ i. 1 ∷ f32-to-bits.ensures i ∷ c.flag_word-primary.ensures i ∷ a.heard.round ∷ a.heard.heard_at ∷ []
