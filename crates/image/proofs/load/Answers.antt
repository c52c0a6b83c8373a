-- (tables s.keys.now s.hot.now s.shadows.now)he image is judged, and stored where it is one.
use mathlib.Core.Path.{◌∙◌}
use Rattle.questions.proofs.Tests.{told-no, told-yes}
use Rattle.questions.proofs.RefusalLaws.{handed}
use Rattle.peers.specs.Peers.State as peer-state
use Rattle.limiter.specs.State.{tables}
use Rattle.image.proofs.Loading.LoadCallLaws.{room-is, refused-room, refused-image, image-fits, image-loaded}
use Rattle.image.proofs.load.Goals as goal

pub returns-then-not-has_room : goal.returns-then-not-has_room
returns-then-not-has_room c =
    let s = c.args in
    refused-room s.image.now (tables s.keys.now s.hot.now s.shadows.now) (peer-state.tables s.peer_table.now s.snapshot_keys.now s.contested.now) (room-is s.image.now (tables s.keys.now s.hot.now s.shadows.now) (peer-state.tables s.peer_table.now s.snapshot_keys.now s.contested.now) ∙ told-no c.has_room.ensures c.if-not-has_room.true)

pub returns-in_err-loaded : goal.returns-in_err-loaded
returns-in_err-loaded c =
    let s = c.args in
    let r = room-is s.image.now (tables s.keys.now s.hot.now s.shadows.now) (peer-state.tables s.peer_table.now s.snapshot_keys.now s.contested.now) ∙ told-yes c.has_room.ensures c.if-not-has_room.false in
    rw (handed _ _ c.from_residual.ensures.1) (refused-image s.image.now (tables s.keys.now s.hot.now s.shadows.now) (peer-state.tables s.peer_table.now s.snapshot_keys.now s.contested.now) r _ c.in_err-loaded.ensures)

pub store-requires : goal.store-requires
store-requires c =
    let s = c.args in
    let r = room-is s.image.now (tables s.keys.now s.hot.now s.shadows.now) (peer-state.tables s.peer_table.now s.snapshot_keys.now s.contested.now) ∙ told-yes c.has_room.ensures c.if-not-has_room.false in
    (c.scan-found.ensures, image-fits s.image.now (tables s.keys.now s.hot.now s.shadows.now) (peer-state.tables s.peer_table.now s.snapshot_keys.now s.contested.now) r c.in_ok-loaded.loaded c.in_ok-loaded.ensures c.scan-found.result c.scan-found.ensures)

pub returns : goal.returns
returns c =
    let s = c.args in
    let r = room-is s.image.now (tables s.keys.now s.hot.now s.shadows.now) (peer-state.tables s.peer_table.now s.snapshot_keys.now s.contested.now) ∙ told-yes c.has_room.ensures c.if-not-has_room.false in
    image-loaded s.image.now (tables s.keys.now s.hot.now s.shadows.now) (peer-state.tables s.peer_table.now s.snapshot_keys.now s.contested.now) r _ c.in_ok-loaded.ensures c.scan-found.result c.scan-found.ensures _ _ c.store.ensures
