-- `aged_words` meets its contract: a stale peer is bare, and any other is as it was.
use Rattle.std.proofs.Common.{ℕ, List, get_or, sym, ap, ◌∙◌}
use Rattle.peers.specs.Peers.Records.{peer_of, peer_words}
use Rattle.peers.proofs.Peers.Departures.StayLaws.{stale-same, aged-not, aged-bare}
use Rattle.peers.proofs.peer_steps.aged_words.Goals as goal

pub returns-then-is_stale : goal.returns-then-is_stale
unfolding peer_of
returns-then-is_stale c =
    let s = c.args in
    let xs : List ℕ = s.words in
    let p = peer_of xs in
    let asked = sym (c.is_stale.ensures ∙ stale-same s.reading s.max_age (get_or xs 1 0) (get_or xs 2 0) (get_or xs 3 0) (get_or xs 4 0) (get_or xs 5 0) (get_or xs 6 0)) in
    sym (aged-bare s.reading s.max_age p.id p.held_until p.snapshot p.past_epochs (asked ∙ c.if-is_stale.true))

pub returns : goal.returns
unfolding peer_of
returns c =
    let s = c.args in
    let xs : List ℕ = s.words in
    let asked = sym (c.is_stale.ensures ∙ stale-same s.reading s.max_age (get_or xs 1 0) (get_or xs 2 0) (get_or xs 3 0) (get_or xs 4 0) (get_or xs 5 0) (get_or xs 6 0)) in
    sym (ap peer_words (aged-not s.reading s.max_age (peer_of xs) (asked ∙ c.if-is_stale.false)) ∙ c.requires)
