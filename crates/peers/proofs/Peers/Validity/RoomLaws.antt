-- Question 1 of the peers' tables.
use Rattle.std.proofs.Common.{◌≡◌, true, false}
use Rattle.questions.specs.Questions.{refused, given, answer}
use Rattle.questions.proofs.Answers.{alone-no, alone-yes}
use Rattle.peers.specs.Peers.State.{PeerTables, lengths, have_room}
use Rattle.peers.specs.Peers.Calls.{new_questions}

-- the answer to question 1 alone
pub no_room : {A : Type 0} (t : PeerTables) (v : A) → have_room (lengths t) ≡ false → refused 1 ≡ answer (new_questions t) v
no_room t v h = alone-no 1 v h

pub some-room : {A : Type 0} (t : PeerTables) (v : A) → have_room (lengths t) ≡ true → given v ≡ answer (new_questions t) v
some-room t v h = alone-yes 1 v h
