-- `config_words` meets its contract, word for word.
use mathlib.Core.List.{[], ◌∷◌}
use Rattle.nultiway.proofs.answers.config_words.Goals as goal

pub returns : goal.returns
returns c =
    let g = c.args.config in
    λ i.
    c.to_bits.ensures i
    ∷ g.limit.burst
    ∷ c.to_bits-2.ensures i
    ∷ c.to_bits-3.ensures i
    ∷ g.cooldown
    ∷ g.hot_set_size
    ∷ g.max_tracked_keys
    ∷ g.demand_time_constant
    ∷ g.table_size
    ∷ []
