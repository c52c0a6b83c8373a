-- `PeerDemand::new` meets its contract: question 1 alone.
use Rattle.std.proofs.Common.{sym, ◌∙◌}
use Rattle.peers.proofs.Peers.Validity.RoomLaws.{no_room, some-room}
use Rattle.peers.proofs.peer_demand.PeerDemand.new.Goals as goal

pub returns-then-not-has_room : goal.returns-then-not-has_room
returns-then-not-has_room c = no_room _ _ (sym c.has_room.ensures ∙ c.if-not-has_room.true)

pub returns : goal.returns
returns c = some-room _ _ (sym c.has_room.ensures ∙ c.if-not-has_room.false)
