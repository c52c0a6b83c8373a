-- `has_room` meets its contract.
use Rattle.std.proofs.Common.{◌∙◌, arith}
use Rattle.questions.proofs.Tests.{told-no, told-yes}
use Rattle.image.proofs.Loading.ReadLaws.{begins-room}
use Rattle.image.proofs.Loading.RoomLaws.{room-short, room-peers}
use Rattle.image.proofs.room.has_room.Goals as goal

pub record_word-table_size-requires : goal.record_word-table_size-requires
record_word-table_size-requires c = omega (arith, begins-room 1 0 _ (told-yes c.begins.ensures c.if-not-begins.false))

pub record_word-hot_set_size-requires : goal.record_word-hot_set_size-requires
record_word-hot_set_size-requires c = omega (arith, begins-room 1 0 _ (told-yes c.begins.ensures c.if-not-begins.false))

pub returns-then-have_room : goal.returns-then-have_room
returns-then-have_room c =
    c.peers_fit.ensures
    ∙ room-peers _ _ _ _ _ _ _ (told-yes c.begins.ensures c.if-not-begins.false) c.record_word-table_size.ensures c.record_word-hot_set_size.ensures
    (told-yes c.have_room.ensures c.if-have_room.true)

pub returns-else-have_room : goal.returns-else-have_room
returns-else-have_room c =
    c.if-have_room.false
    ∙ room-short _ _ _ _ _ _ _ (told-yes c.begins.ensures c.if-not-begins.false) c.record_word-table_size.ensures c.record_word-hot_set_size.ensures
    (told-no c.have_room.ensures c.if-have_room.false)
