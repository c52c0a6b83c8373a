-- Word for word.
use mathlib.Core.Path.{◌∙◌}
use mathlib.Core.List.{[], ◌∷◌}
use lib.ListN.{get_or}
use Rattle.limiter.specs.State.{settings_words, float_word}
use Rattle.records.specs.Fields.{time_words}
use Rattle.image.proofs.Saving.SaveLaws.{cap-apart}
use Rattle.image.proofs.writer.settings_words.Goals as goal

pub returns : goal.returns
unfolding settings_words
returns c =
    let l = c.args.limiter in
    let g = l.config in
    let cap = c.cap_words-c.ensures in
    let tick = c.time_words-t.ensures in
    (λ i.
    c.to_bits.ensures i
    ∷ g.limit.burst
    ∷ c.to_bits-2.ensures i
    ∷ c.to_bits-3.ensures i
    ∷ g.cooldown
    ∷ g.hot_set_size
    ∷ g.max_tracked_keys
    ∷ g.demand_time_constant
    ∷ g.table_size
    ∷ get_or (cap i) 0 0
    ∷ get_or (cap i) 1 0
    ∷ get_or (tick i) 0 0
    ∷ get_or (tick i) 1 0
    ∷ [])
    ∙ (λ i.
    float_word g.limit.rate
    ∷ g.limit.burst
    ∷ float_word g.alpha
    ∷ float_word g.floor_factor
    ∷ g.cooldown
    ∷ g.hot_set_size
    ∷ g.max_tracked_keys
    ∷ g.demand_time_constant
    ∷ g.table_size
    ∷ cap-apart l.cap (time_words l.last_tick) i)
