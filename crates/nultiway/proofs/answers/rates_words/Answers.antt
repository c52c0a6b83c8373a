-- `rates_words` meets its contract.
use mathlib.Core.List.{[], ◌∷◌}
use Rattle.nultiway.proofs.answers.rates_words.Goals as goal

pub returns : goal.returns
returns c = λ i. 1 ∷ c.to_bits.ensures i ∷ c.to_bits-2.ensures i ∷ c.to_bits-3.ensures i ∷ []
