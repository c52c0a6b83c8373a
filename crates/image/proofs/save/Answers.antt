-- Of the answers of both the one that is asked first is that of both.
use mathlib.Core.Path.{◌∙◌}
use Rattle.peers.specs.Peers.State as peer-state
use Rattle.limiter.specs.State.{tables}
use Rattle.limiter.proofs.Ticking.AskLaws.{first-of-both}
use Rattle.image.proofs.save.Goals as goal

pub save_asked-requires : goal.save_asked-requires
save_asked-requires c =
    let s = c.args in
    c.first.ensures
    ∙ first-of-both s.limiter (tables s.keys.now s.hot.now s.shadows.now) s.peers (peer-state.tables s.peer_table.now s.snapshot_keys.now s.contested.now) _ _ c.ask-here.ensures c.ask-there.ensures
