-- The words of a new limiter and its peers, and those that a load wrote, stand for the state.
use Prim.Native.Nat.{ℕ, ◌≤◌}
use mathlib.Core.Path.{◌≡◌, refl, sym, ap, ◌∙◌, subst}
use mathlib.Core.Bool.{Bool, true, ◌&&◌}
use mathlib.Core.List.{List, []}
use borrow.Author.Tests.{leb-true, le-leb}
use lib.Dec.{leb, lit<}
use lib.ListN.{length}
use Rattle.records.specs.Words.{paste}
use Rattle.questions.proofs.Tests.{both, and_intro}
use Rattle.questions.specs.Questions.{Question, Answer, answer, passes}
use Rattle.questions.proofs.Answers.{Numbered, answer-passed, given-passed}
use Rattle.peers.specs.declared.peer_demand.PeerDemand.{PeerDemand}
use Rattle.peers.specs.Peers.State as peer-state
use Rattle.peers.specs.Peers.State.{new_peers}
use Rattle.peers.specs.Peers.Calls as peer-calls
use Rattle.limiter.specs.declared.Config.{Config}
use Rattle.limiter.specs.declared.Limiter.{Limiter}
use Rattle.limiter.specs.State.{lengths, have_room, value_of}
use Rattle.limiter.specs.Calls.{new_state, new_questions}
use Rattle.image.specs.Image.{State}
use Rattle.run.specs.Run.{Memory}
use Rattle.run.specs.Typed.{typed_config}
use Rattle.run.specs.Trace.{new_states}
use Rattle.run.proofs.Standing.Stands as values
use Rattle.run.proofs.Standing.Began as began
use Rattle.nultiway.specs.Values.{limiter_words, limiter_of, is_limiter, peers_words, peers_of, room_asked}
use Rattle.nultiway.specs.Calls.{Called, Tells, number_of, answer_put}
use Rattle.nultiway.proofs.Words.ValueLaws.{limiter-put, limiter-is, peers-put}
use Rattle.nultiway.proofs.Calls.CallLaws.{passed-call, room-passed, room-told, zero-passed, zero-given}
use Rattle.library_run.specs.Calls.{Buffers}
use Rattle.library_run.specs.Runs.{Started}
use Rattle.library_run.proofs.Calls.FrontLaws.{limiter-written-long, peers-written-long}
use Rattle.library_run.specs.Demand3.{Fit, Starts}
use Rattle.library_run.proofs.Calls.Stepped.{Stands, stands-typed}
use Rattle.std.specs.declared.result.Result.TheVariants.{Ok}
use Rattle.questions.specs.Refusals.{answer_of}

-- ---- words that were written of values that stand

pub words-stand :
    (b : Buffers) (l : Limiter) (p : PeerDemand) (ws ps : List ℕ) {s : State} → 16 ≤ length ws → 3 ≤ length ps → b.limiter ≡ paste 0 (limiter_words l) ws
    → b.peers ≡ paste 0 (peers_words p) ps → values.Stands (record { limiter = l; tables = b.tables; peers = p; peer_tables = b.peer_tables }) s
    → Stands b s
words-stand b l p ws ps {s} m n e k u =
    let y = stands-typed u.limiter in
    record {
      long = subst (λ (z : List ℕ). 16 ≤ length z) (sym e) (limiter-written-long l ws [] m);
      value = ap is_limiter e ∙ limiter-is l ws y;
      peers_long = subst (λ (z : List ℕ). 3 ≤ length z) (sym k) (peers-written-long p ps [] n);
      values =
          subst (λ (z : Memory). values.Stands z s)
          (sym
          (λ i. record {
            limiter = (ap limiter_of e ∙ limiter-put l ws y) i;
            tables = b.tables;
            peers = (ap peers_of k ∙ peers-put p ps) i;
            peer_tables = b.peer_tables;
          }))
          u;
    }

-- ---- a new limiter and its peers

-- what the number 0 of a `new` says of the value, its questions, its buffer and its words
record Made {A : Type 0} (a : A) (qs : List Question) (words : A → List ℕ) (fits : Bool) (ws ws' : List ℕ) : Type 0 where
  room : fits ≡ true
  asked : passes qs ≡ true
  written : ws' ≡ paste 0 (words a) ws

made :
    {A B R : Type 0} {promise : B → R → Type 0} {v : B} {answer_of : R → Answer A} {words : A → List ℕ} {U : Type 0} {ws ws' : List ℕ}
    (a : A) (qs : List Question) (fits : Bool) → Numbered qs → Called (room_asked fits) 0 U (Tells promise v answer_of words ws 0 ws')
    → ((x : R) → promise v x → answer_of x ≡ answer qs a) → Made a qs words fits ws ws'
made {answer_of = answer_of} {words = words} {ws = ws} a qs fits nums d is =
    let k = zero-passed (room_asked fits) (lit< tt, tt) d in
    let e = is k.1.result k.1.kept in
    let g = zero-given a qs (answer_of k.1.result) nums e k.1.number in
    record {
      room = room-told fits k.0;
      asked = (given-passed qs a a (sym g ∙ e)).0;
      written = k.1.answer ∙ ap (λ (z : Answer _). answer_put words z ws) g;
    }

module _ {c : Config} {into b : Buffers} (d : Started c into b) where
  abbrev new : Limiter
  new = value_of (new_state c)

  limiter-made : Made new (new_questions c into.tables) limiter_words (leb 16 (length into.limiter)) into.limiter b.limiter
  limiter-made =
      made new (new_questions c into.tables) (leb 16 (length into.limiter)) (lit< tt, (lit< tt, (lit< tt, (lit< tt, (lit< tt, tt)))))
      d.limiter (λ x e. e)

  peers-made : Made new_peers (peer-calls.new_questions into.peer_tables) peers_words (leb 3 (length into.peers)) into.peers b.peers
  peers-made =
      made new_peers (peer-calls.new_questions into.peer_tables) (leb 3 (length into.peers)) (lit< tt, tt) d.peers (λ x e. e)

  pub started-stands : typed_config c ≡ true → Stands b (new_states c)
  started-stands w =
      words-stand b new new_peers into.limiter into.peers (leb-true 16 (length into.limiter) limiter-made.room)
      (leb-true 3 (length into.peers) peers-made.room) limiter-made.written peers-made.written
      (began.started-stands w
      (record {
        tables = into.tables;
        peer_tables = into.peer_tables;
        limiter = answer-passed new (new_questions c into.tables) limiter-made.asked;
        peers = answer-passed new_peers (peer-calls.new_questions into.peer_tables) peers-made.asked;
      }))

  -- in tables with room
  pub started-roomy : (have_room c (lengths into.tables) && peer-state.have_room (peer-state.lengths into.peer_tables)) ≡ true
  unfolding passes
  started-roomy =
      and_intro _ _ (both (have_room c (lengths into.tables)) _ limiter-made.asked).0
      (both (peer-state.have_room (peer-state.lengths into.peer_tables)) _ peers-made.asked).0

-- ---- there are words to start with

module _ {c : Config} {into : Buffers} (fit : Fit c into) where
  limiter-room : passes (room_asked (leb 16 (length into.limiter))) ≡ true
  limiter-room = room-passed (leb 16 (length into.limiter)) (le-leb 16 (length into.limiter) fit.limiter_into)

  peers-room : passes (room_asked (leb 3 (length into.peers))) ≡ true
  peers-room = room-passed (leb 3 (length into.peers)) (le-leb 3 (length into.peers) fit.peers_into)

  -- a value that passes its questions is given, and its number is 0
  zero : {A : Type 0} (a : A) (qs : List Question) {x : Answer A} {r : ℕ} → passes qs ≡ true → x ≡ answer qs a → r ≡ number_of x → r ≡ 0
  zero a qs p e n = n ∙ ap number_of (e ∙ sym (answer-passed a qs p))

  pub can-start : Starts c into
  can-start =
      let new : Limiter = value_of (new_state c) in
      record {
        limiter = λ r ws d. let a = d.answered limiter-room in zero new (new_questions c into.tables) fit.limiter a.kept a.number;
        peers = λ r ps d.
            let a = d.answered peers-room in zero new_peers (peer-calls.new_questions into.peer_tables) fit.peers a.kept a.number;
        started = (
          paste 0 (limiter_words new) into.limiter,
          paste 0 (peers_words new_peers) into.peers,
          record {
            limiter =
                passed-call _ 0 limiter-room
                (record {
                  result = Ok new;
                  kept = answer-passed new (new_questions c into.tables) fit.limiter;
                  number = refl;
                  answer = refl;
                });
            peers =
                passed-call _ 0 peers-room
                (record {
                  result = Ok new_peers;
                  kept = answer-passed new_peers (peer-calls.new_questions into.peer_tables) fit.peers;
                  number = refl;
                  answer = refl;
                });
          },
        );
      }
